use mathlib.Core.Path.{◌≡◌}
use Prim.Native.Nat.{◌-◌}
use native.Mathlib.Omega.{arith}
use Rattle.std.proofs.Common.{rules}
use Rattle.marks_closing.proofs.Runs.{adding-start, adding-next, adding-end, adding-room}
use Rattle.marks_closing.proofs.Slices.{same-start, same-next}
use Rattle.marks_closing.proofs.ranges.Records.join_records.Goals as goal

pub loop-k-init : goal.loop-k-init
loop-k-init c =
    let r = c.args.self.now in
    (omega arith, omega arith, adding-start r.lefts.now r.rights.now c.args.from c.requires.2, same-start)

pub bounds-lefts-k : goal.bounds-lefts-k
bounds-lefts-k c =
    omega (arith, c.requires.1.lefts-are)

pub bounds-rights-k : goal.bounds-rights-k
bounds-rights-k c =
    omega (arith, c.requires.1.rights-are)

pub join-m-requires : goal.join-m-requires
join-m-requires c =
    let p = c.requires in
    let inv = c.loop-k.invariant in
    let taken = c.loop-k-test.true in (
      adding-room inv.0 taken p.2 inv.2,
      omega (arith, p.1.left_in c.loop-k.k taken, inv.2.size),
      omega (arith, p.1.right-in c.loop-k.k taken, inv.2.size),
    )

pub loop-k-preserved : goal.loop-k-preserved
loop-k-preserved c =
    let a = c.args in
    let inv = c.loop-k.invariant in (
      omega (arith, inv.0),
      omega (arith, c.loop-k-test.true),
      adding-next a.self.now.lefts.now a.self.now.rights.now a.from inv.0 inv.2 c.join-m.ensures.grown,
      same-next inv.3 c.join-m.ensures.same_slices,
    )

-- what the local forest leaves is what this one has
pub returns : goal.returns
returns c =
    let r = c.args.self.now in
    let all : c.loop-k.k ≡ c.args.to = omega arith in
    search (rules, adding-end r.lefts.now r.rights.now c.args.from all c.loop-k.invariant.2)
