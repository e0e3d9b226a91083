use mathlib.Core.Path.{refl}
use native.Mathlib.Nat.{mul-le-mul}
use native.Mathlib.Omega.{arith}
use lib.ListN.{length}
use Rattle.serial_measures.proofs.Writing.{written-labels, written-numbered}
use Rattle.serial_measures.proofs.Reading.{area}
use Rattle.areas.proofs.Words.{labels-many}
use Rattle.serial_measures.proofs.Meaning.{none-measured, judged-measured, measured-by}
use Rattle.serial_measures.proofs.measure_links.Goals as goal

pub returns-then-links-eq0 : goal.returns-then-links-eq0
returns-then-links-eq0 c = record { work = refl; marks = none-measured c.if-links-eq0.true }

pub overflow_mul-links : goal.overflow_mul-links
overflow_mul-links c =
    let p = c.requires in
    omega (arith, p.3.few, mul-le-mul p.3.few (area p.0.wide p.0.high p.1))

pub returns-then-links-n-le-FEW : goal.returns-then-links-n-le-FEW
returns-then-links-n-le-FEW c =
    let a = c.args in
    record { work = refl; marks = judged-measured (labels-many a.work.now (length a.cells.now)) c.measure_few.ensures }

pub number_all-requires : goal.number_all-requires
number_all-requires c = let p = c.requires in (area p.0.wide p.0.high p.1, p.2, p.3)

pub measure_all-requires : goal.measure_all-requires
measure_all-requires c =
    let p = c.requires in
    (p.0, p.1, p.5, p.4, written-numbered p.2 c.number_all.ensures p.3)

pub clear_all-requires : goal.clear_all-requires
clear_all-requires c =
    let p = c.requires in
    (area p.0.wide p.0.high p.1, omega (arith, p.2.room, c.number_all.ensures.table.as_long), p.3)

pub returns : goal.returns
returns c =
    let a = c.args in
    let labels = c.requires.2 in
    let numbers = c.number_all.ensures in
    record {
      work = c.clear_all.ensures a.work.now labels numbers;
      marks = measured-by (labels-many a.work.now (length a.cells.now)) (written-labels labels numbers) c.measure_all.ensures;
    }
