use mathlib.Core.Path.{refl}
use native.Mathlib.Omega.{arith}
use Rattle.areas_components.proofs.MapLaws.{due-joinable, joined, whole}
use Rattle.areas_components.proofs.components.Goals as goal

pub join_all-requires : goal.join_all-requires
join_all-requires c =
    let runs = c.run_parents in
    let pre = c.requires in
    due-joinable _ refl pre.cells_len_bound.1 pre.cells_len_bound.2 pre.cells_len_bound.3 pre.open_bytes_sound pre.cells_value runs.ensures.0 runs.ensures.1
    (omega arith) pre.cells_len_bound.0

pub number-requires : goal.number-requires
number-requires c =
    let join = c.join_all in
    let runs = c.run_parents in
    let pre = c.requires in
    let room = pre.cells_len_bound in
    let forest =
    joined _ refl room.1 room.2 room.3 pre.open_bytes_sound pre.cells_value runs.ensures.0 runs.ensures.1 join.ensures in
    (pre.cells_len_bound.0, omega (arith, pre.cells_len_bound, runs.ensures.0.size, join.ensures.kept.size), forest.falls)

pub returns : goal.returns
returns c =
    let number = c.number in
    let join = c.join_all in
    let runs = c.run_parents in
    let pre = c.requires in
    whole _ refl pre.cells_len_bound.1 pre.cells_len_bound.2 pre.cells_len_bound.3 pre.open_bytes_sound pre.cells_value runs.ensures.0 runs.ensures.1
    join.ensures number.ensures
