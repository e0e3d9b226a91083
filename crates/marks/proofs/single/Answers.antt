use mathlib.Core.Path.{◌≡◌}
use Rattle.std.proofs.Common.{rules, ltb}
use Rattle.std.proofs.lemmas.Fn.{always_returns_same}
use Rattle.marks.proofs.SingleMarks.{single-sorted}
use Rattle.marks.proofs.single.Goals as goal

pub returns : goal.returns
returns c =
    single-sorted _ _ _ c.requires (c.is_sorted_by.ensures.cases ltb (always_returns_same _ (λ a r. r ≡ ltb a.0.now a.1.0.now) _ (λ a r f' k. search rules)))
