use lib.Dec.{leb}
use Rattle.length.specs.Total.{total_le}
use Rattle.length.proofs.floats.total_le.Goals as goal

pub returns : goal.returns
unfolding total_le
returns c =
    let x = c.total_key-x.ensures in
    let y = c.total_key-y.ensures in
    λ i. leb (x i) (y i)
