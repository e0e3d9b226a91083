use mathlib.Core.Path.{refl, ◌∙◌, ap}
use mathlib.Core.List.{List}
use native.Mathlib.Omega.{arith}
use Rattle.wire.specs.Bytes.{words, splice}
use Rattle.analysis.proofs.Headed.{headed-laid, headed-cells}
use Rattle.analysis.proofs.Mapped.{map-inside, map-long}
use Rattle.analysis.proofs.Calling.{headed-work}
use Rattle.context.proofs.Counting.{one-from}
use Rattle.probe.proofs.RegionLaws.{anchors-there, region-told}
use Rattle.probe.proofs.own_regions.tell_region.Goals as goal

pub overflow_mul-n : goal.overflow_mul-n
overflow_mul-n c = omega (arith, headed-cells c.requires.0)

pub count_cells-counted-requires : goal.count_cells-counted-requires
count_cells-counted-requires c =
    let d = c.requires.0 in
    (omega (arith, headed-cells d), omega (arith, headed-work d, c.requires.1))

pub slice_bounds-region_stats-end : goal.slice_bounds-region_stats-end
slice_bounds-region_stats-end c =
    let d = c.requires.0 in
    omega (arith, map-inside d.header (headed-laid d) _ refl)

pub region_stats-s-requires : goal.region_stats-s-requires
region_stats-s-requires c =
    let d = c.requires.0 in
    let long = map-long d.header (headed-laid d) _ refl in
    (omega (arith, (headed-laid d).within.width_some), omega (arith, long, headed-cells d), omega (arith, long, headed-work d, c.requires.1))

pub anchor_labels-found-requires : goal.anchor_labels-found-requires
anchor_labels-found-requires c =
    let d = c.requires.0 in
    let there = anchors-there d refl refl refl c.args.labels.now (omega (arith, headed-work d, c.requires.1)) in
    (there.0, omega (arith, there.1))

pub returns : goal.returns
returns c =
    c.write_words.ensures
    ∙ ap (λ (l : List _). splice c.args.out.now 0 (words l))
    (region-told c.requires.0 refl refl refl c.args.labels.now c.args.region c.count_cells-counted.ensures c.region_stats-s.ensures
    c.anchor_labels-found.ensures c.is_anchored-anchored.ensures (c.from.ensures ∙ one-from _) (c.from-2.ensures ∙ one-from _))
