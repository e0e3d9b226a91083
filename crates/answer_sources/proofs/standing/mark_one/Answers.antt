use Rattle.std.proofs.Common.{ℕ, refl, ap, ◌∙◌, cond, not, ◌&&◌, eqb, get_or, set, arith}
use Rattle.format.specs.declared.records.BoundaryRecord.{BoundaryRecord}
use Rattle.answer_sources.proofs.standing.mark_one.Goals as goal

pub returns-then-i-ge256 : goal.returns-then-i-ge256
returns-then-i-ge256 c = (λ h. absurd (omega arith), λ h. refl)

pub returns : goal.returns
returns c =
    let seen = ap (λ (r : BoundaryRecord). r.observations) c.read_boundary-x.ensures in (
      λ h. ap (set c.args.stands.now c.args.b)
          (c.stands_as.ensures ∙ ap (λ (k : ℕ). cond (eqb k 0 && not (eqb (get_or c.args.sizes.now c.args.i 0) 1)) 1 0) seen),
      λ h. absurd (omega arith),
    )
