use native.Mathlib.Omega.{arith}
use Rattle.analysis.proofs.Calling.{header-there, reduce-job, reduce-headed}
use Rattle.results.proofs.Returns.{first-passed, first-room}
use Rattle.probe.proofs.own_regions.probe_region.Goals as goal

pub read_header-requires : goal.read_header-requires
read_header-requires c =
    header-there _ (reduce-job _ (first-passed c.unready-r.ensures (omega (arith, c.if-r-gt0.false))))

pub tell_region-requires : goal.tell_region-requires
tell_region-requires c =
    let told-by = c.unready-r.ensures in
    let passed = first-passed told-by (omega (arith, c.if-r-gt0.false)) in (
      reduce-headed (λ i. (c.type_inv.job i).fits) passed c.read_header.ensures,
      first-room told-by (omega (arith, c.if-r-gt0.false)),
      omega (arith, c.if-out-lt48.false),
    )
