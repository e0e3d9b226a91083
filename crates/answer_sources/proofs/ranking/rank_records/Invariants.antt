use Rattle.std.proofs.Common.{◌≡◌, ℕ, ◌<◌}
use Rattle.position.specs.declared.Span.{Span}
use Rattle.answer_sources.specs.Ranked.{RankKeys}
use Rattle.answer_sources.proofs.ranking.rank_records.Given as goal

abbrev pub invariant-loop-p : goal.invariant-loop-p
invariant-loop-p g l =
    (ends : ℕ → Span) (bits : ℕ → ℕ) → ((k : ℕ) → k < l.n → (r : _) → goal.F-post g l.read k r → (r.0 ≡ ends k) × (r.1 ≡ bits k))
    → RankKeys ends bits l.base l.p l.initial.first l.initial.second l.initial.third l.first l.second l.third
