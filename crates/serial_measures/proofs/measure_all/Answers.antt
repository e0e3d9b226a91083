use mathlib.Core.Path.{◌≡◌, refl}
use Prim.Native.Nat.{◌+◌, ◌-◌, ◌<◌}
use native.Mathlib.Omega.{arith}
use lib.ListN.{length}
use Rattle.grid.specs.Cells.{Grid}
use Rattle.context.proofs.Along.{place_of, next_place}
use Rattle.serial_measures.proofs.Reading.{area}
use Rattle.serial_measures.proofs.Turns.{row_below, fill_start, fill-next, fill_end, pass-start, pass-end}
use Rattle.serial_measures.proofs.Turns.{turn-out, turn_on, turn-room, turn_in}
use Rattle.serial_measures.proofs.Meaning.{judge-start, judge-row, judge-end}
use Rattle.serial_measures.proofs.measure_all.Goals as goal

pub loop-k-init : goal.loop-k-init
loop-k-init c = fill_start _ _ _ _ _

pub link_at-requires : goal.link_at-requires
link_at-requires c =
    let p = c.requires in
    (p.2, p.3.first c.loop-k.k c.loop-k-test.true, p.3.second c.loop-k.k c.loop-k-test.true)

pub loop-k-preserved : goal.loop-k-preserved
loop-k-preserved c = fill-next c.loop-k.invariant (omega (arith, c.requires.4.few)) c.link_at.ensures

pub loop-i-init : goal.loop-i-init
loop-i-init c =
    let all : c.loop-k.k ≡ c.args.links = omega arith in
    record {
      place = omega arith;
      on = c.requires.0.columns;
      running = pass-start c.requires.4.few (fill_end all c.loop-k.invariant) c.none-stats.ensures;
    }

pub next_row-row-requires : goal.next_row-row-requires
next_row-row-requires c =
    let p = c.requires in
    let g : Grid = record { width = c.args.width; height = c.args.height; cells = c.args.cells.now } in
    let inv = c.loop-i.invariant in
    (inv.on, omega (arith, row_below g p.1 inv.place inv.on c.loop-i-test.true, p.0.high))

pub number_at-number-requires : goal.number_at-number-requires
number_at-number-requires c =
    let p = c.requires in
    (c.loop-i-test.true, area p.0.wide p.0.high p.1, p.4.room, p.4.most c.loop-i.i c.loop-i-test.true)

pub loop-i-preserved-then-number-eq0 : goal.loop-i-preserved-then-number-eq0
loop-i-preserved-then-number-eq0 c =
    let inv = c.loop-i.invariant in
    let number = c.number_at-number in
    let p = next_place inv.place inv.on c.next_column-column.ensures c.next_row-row.ensures in
    record {
      place = p.0;
      on = p.1;
      running = turn-out c.requires.4 c.loop-i-test.true inv.running number.result number.ensures (omega (arith, c.if-number-eq0.true));
    }

pub bounds-stats-j-in-loop-i : goal.bounds-stats-j-in-loop-i
bounds-stats-j-in-loop-i c =
    let number = c.number_at-number in
    let j : number.result - 1 ≡ number.result - 1 = refl in
    omega (
      arith,
      turn_on c.requires.4 c.loop-i-test.true c.loop-i.invariant.running number.result number.ensures (λ z. omega (arith, z, c.if-number-eq0.false)) j,
      c.requires.4.few,
    )

pub with-requires : goal.with-requires
with-requires c =
    let p = c.requires in
    let inv = c.loop-i.invariant in
    let number = c.number_at-number in
    let g : Grid = record { width = c.args.width; height = c.args.height; cells = c.args.cells.now } in
    let j : number.result - 1 ≡ number.result - 1 = refl in (
      turn-room p.4 c.loop-i-test.true inv.running number.result number.ensures (λ z. omega (arith, z, c.if-number-eq0.false)) j _
          (omega (arith, area p.0.wide p.0.high p.1)),
      omega (arith, inv.on, p.0.wide),
      omega (arith, row_below g p.1 inv.place inv.on c.loop-i-test.true, p.0.high),
    )

pub loop-i-preserved : goal.loop-i-preserved
loop-i-preserved c =
    let inv = c.loop-i.invariant in
    let number = c.number_at-number in
    let g : Grid = record { width = c.args.width; height = c.args.height; cells = c.args.cells.now } in
    let j : number.result - 1 ≡ number.result - 1 = refl in
    let p = next_place inv.place inv.on c.next_column-column.ensures c.next_row-row.ensures in
    let q = place_of g inv.place inv.on in
    record {
      place = p.0;
      on = p.1;
      running = turn_in c.requires.4 c.loop-i-test.true inv.running number.result number.ensures (λ z. omega (arith, z, c.if-number-eq0.false)) j
          q.0 q.1 _ _ c.at.ensures c.with.ensures;
    }

pub loop-m-init : goal.loop-m-init
loop-m-init c = judge-start _

pub loop-m-preserved : goal.loop-m-preserved
loop-m-preserved c =
    let all : c.loop-i.i ≡ length c.args.cells.now = omega arith in
    judge-row _ _ _ _ c.requires.4.few c.loop-m-test.true (pass-end all c.loop-i.invariant.running) c.loop-m.invariant c.passing_mark.ensures
    c.flat_mark.ensures c.inside_mark.ensures

pub returns : goal.returns
returns c = let all : c.loop-m.m ≡ c.args.links = omega arith in judge-end all c.loop-m.invariant
