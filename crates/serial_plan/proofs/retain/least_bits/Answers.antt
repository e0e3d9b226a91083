use mathlib.Core.Path.{sym, ap}
use Prim.Native.Nat.{ℕ, ◌-◌, ◌≤◌}
use native.Mathlib.Omega.{arith}
use mathlib.Core.Path.{subst}
use Rattle.lists.specs.Rows.{at}
use Rattle.length.specs.Total.{total_le}
use Rattle.serial_plan.specs.Few.{few_at}
use Rattle.order.proofs.SortedFirst.{first-start, first_next}
use Rattle.serial_plan.proofs.ValueLaws.{least-listed}
use Rattle.serial_plan.proofs.retain.least_bits.Goals as goal

pub loop-j-init : goal.loop-j-init
loop-j-init c =
    let bits = c.args.bits.now in
    let ranks = c.args.ranks in (
      first-start total_le (λ i. at bits (few_at ranks i)) ranks.count (ranks.count - 1) (omega (arith, c.requires.0))
          (ap (at bits) c.index.ensures.0),
      subst (λ (i : ℕ). at bits i ≤ 0x40D0_0000_0000_0000) (sym c.index.ensures.0) (c.requires.1 (ranks.count - 1)).fits,
    )

pub lesser-least-requires : goal.lesser-least-requires
lesser-least-requires c = (
  subst (λ (i : ℕ). at c.args.bits.now i ≤ 0x40D0_0000_0000_0000) (sym c.index-in-loop-j.ensures.0)
      (c.requires.1 (c.loop-j.j - 1)).fits,
  c.loop-j.invariant.1,
)

pub loop-j-preserved : goal.loop-j-preserved
loop-j-preserved c =
    let bits = c.args.bits.now in
    let ranks = c.args.ranks in (
      first_next total_le (λ i. at bits (few_at ranks i)) ranks.count (at bits c.index-in-loop-j.result) c.loop-j.invariant.0
          c.loop-j-test.true (ap (at bits) c.index-in-loop-j.ensures.0) c.lesser-least.ensures.0,
      c.lesser-least.ensures.1,
    )

pub returns : goal.returns
returns c =
    let inv = c.loop-j.invariant in
    (least-listed c.args.bits.now c.args.ranks inv.0 (omega (arith, c.loop-j-test.false)), inv.1)
