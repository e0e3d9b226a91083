use mathlib.Core.Path.{◌≡◌, refl, ◌∙◌, ap}
use Prim.Native.Nat.{ℕ}
use native.Mathlib.Omega.{arith}
use Rattle.lists.specs.Rows.{rows}
use Rattle.order.specs.Lists.{keep}
use Rattle.areas.specs.Areas.{cell_count}
use Rattle.areas.specs.Words.{labels_in}
use Rattle.areas_components.proofs.CountLaws.{counted_more}
use Rattle.areas_components.proofs.counts.count_cells.Goals as goal

pub loop-i-init : goal.loop-i-init
unfolding cell_count keep labels_in rows
loop-i-init c = (omega arith, refl)

pub loop-i-preserved : goal.loop-i-preserved
loop-i-preserved c =
    let inv = c.loop-i.invariant in
    counted_more c.args.work.now c.args.label c.read_u32.ensures c.from-count.ensures inv.0 inv.1

pub returns : goal.returns
returns c =
    c.loop-i.invariant.1 ∙ ap (λ (k : ℕ). cell_count (labels_in c.args.work.now k) c.args.label)
    (let z : c.loop-i.i ≡ c.args.n = omega arith in z)
