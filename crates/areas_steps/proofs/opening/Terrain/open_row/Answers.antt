use mathlib.Core.List.{[]}
use mathlib.Core.Path.{◌≡◌, sym, subst}
use Prim.Native.Nat.{ℕ, ◌+◌, ◌*◌}
use native.Mathlib.Omega.{arith}
use lib.ListN.{set}
use Rattle.areas.specs.Open.{open_byte}
use Rattle.grid.specs.Cells.{map_of}
use Rattle.grid.specs.Directions.{directions_of}
use Rattle.areas_steps.proofs.Filled.{held_next, held-count}
use Rattle.areas_steps.proofs.Halves.{place_in}
use Rattle.areas_steps.specs.Marks.{WorkHolds}
use Rattle.areas_steps.proofs.opening.Terrain.open_row.Goals as goal

pub loop-x-init : goal.loop-x-init
loop-x-init c =
    λ b h. held-count (c.args.y * c.args.self.width + 0) (omega arith) h

pub byte_of-i-requires : goal.byte_of-i-requires
byte_of-i-requires c =
    let on = place_in c.args.self.width c.args.self.height c.loop-x.x c.args.y c.loop-x-test.true c.requires.1 in
    omega (arith, c.loop-x.auto.work)

pub bounds-work-i : goal.bounds-work-i
bounds-work-i c =
    let on = place_in c.args.self.width c.args.self.height c.loop-x.x c.args.y c.loop-x-test.true c.requires.1 in
    omega (arith, c.loop-x.auto.work, c.byte_of-i.ensures)

pub loop-x-preserved : goal.loop-x-preserved
loop-x-preserved c =
    let inv = c.loop-x.invariant in
    let x = c.loop-x.x in
    let w = c.args.self.width in
    let y = c.args.y in
    let work = c.loop-x.work in
    let v = c.open_byte.result in
    let f = open_byte (directions_of c.args.self.directions) (map_of w c.args.self.height c.args.self.cells.now) [] in
    let on = place_in w c.args.self.height x y c.loop-x-test.true c.requires.1 in
    λ b h. subst (λ (k : ℕ). WorkHolds c.args.base (y * w + (x + 1)) f b (set work k v)) (sym c.byte_of-i.ensures)
    (held-count (y * w + (x + 1)) (omega arith) (held_next v (omega (arith, c.loop-x.auto.work)) c.open_byte.ensures (inv b h)))

pub returns : goal.returns
returns c =
    λ b h. held-count ((c.args.y + 1) * c.args.self.width)
    (let e : c.loop-x.x ≡ c.args.self.width = omega (arith, c.loop-x.auto.x-end, c.loop-x-test.false) in omega arith) (c.loop-x.invariant b h)
