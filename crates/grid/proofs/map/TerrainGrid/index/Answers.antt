use Rattle.std.proofs.Common.{arith}
use Rattle.grid.proofs.OnMap.{past-columns, past-rows, on-map}
use Rattle.grid.proofs.map.TerrainGrid.index.Goals as goal

pub returns-then-self-x : goal.returns-then-self-x
returns-then-self-x c = λ g e f. past-columns g c.args.position (omega arith)

pub returns-then-self-y : goal.returns-then-self-y
returns-then-self-y c = λ g e f. past-rows g c.args.position (omega arith)

pub returns : goal.returns
returns c =
    λ g e f.
    let p = c.args.position in
    rw (← e) (on-map g p (omega arith) (omega arith))
