use mathlib.Core.Path.{sym, ◌∙◌}
use native.Mathlib.Omega.{arith}
use Rattle.results.proofs.Returns.{first_of, first-passed, first-room}
use Rattle.analysis.proofs.Calling.{header-there, reduce-job, reduce-own}
use Rattle.chokes.proofs.Finishing.{leads-eight}
use Rattle.probe.specs.Parting.{parted}
use Rattle.probe.proofs.PartingLaws.{parted-eight}
use Rattle.probe.proofs.own_partition.probe_partition.Goals as goal

pub first_answer-r-requires : goal.first_answer-r-requires
first_answer-r-requires c = (λ e. reduce-job _ (sym c.check_reduce.ensures ∙ e), omega arith)

pub read_header-requires : goal.read_header-requires
read_header-requires c =
    let answered = first_of c.check_reduce.ensures c.first_answer-r.ensures in
    header-there _ (reduce-job _ (first-passed answered (omega (arith, c.if-r-gt0.false))))

pub partition_job-requires : goal.partition_job-requires
partition_job-requires c =
    let answered = first_of c.check_reduce.ensures c.first_answer-r.ensures in
    let passed = first-passed answered (omega (arith, c.if-r-gt0.false)) in
    let room = first-room answered (omega (arith, c.if-r-gt0.false)) in
    (reduce-own (λ i. (c.type_inv.job i).fits) passed c.read_header.ensures room, leads-eight)

pub returns : goal.returns
returns c =
    let answered = first_of c.check_reduce.ensures c.first_answer-r.ensures in
    let passed = first-passed answered (omega (arith, c.if-r-gt0.false)) in
    parted passed (first-room answered (omega (arith, c.if-r-gt0.false))) (parted-eight c.partition_job.ensures)
