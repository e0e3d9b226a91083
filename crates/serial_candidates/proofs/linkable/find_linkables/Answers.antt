use native.Mathlib.Omega.{arith}
use Prim.Native.Nat.{ℕ}
use lib.ListN.{length-set, length-replicate}
use Rattle.serial_candidates.proofs.StepLaws.{marked_next, marked-end}
use Rattle.serial_candidates.proofs.linkable.find_linkables.Goals as goal

pub loop-i-init : goal.loop-i-init
loop-i-init c = record { whole = length-replicate {A = ℕ} 256 0; marked = record { marks-are = λ j l. absurd (omega arith) } }

pub loop-i-preserved : goal.loop-i-preserved
loop-i-preserved c =
    let m = c.loop-i in
    let inv = m.invariant in
    record {
      whole = simp length-set inv.whole;
      marked = marked_next _ m.linkables m.i c.mark.result (omega (arith, inv.whole, c.requires)) inv.marked c.mark.ensures;
    }

pub returns : goal.returns
returns c = marked-end {k = c.loop-i.i} {n = c.args.n} (omega arith) c.loop-i.invariant.marked
