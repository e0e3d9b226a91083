use mathlib.Core.Path.{refl}
use native.Mathlib.Omega.{arith}
use Rattle.results.proofs.Returns.{first-passed, first-room}
use Rattle.analysis.proofs.Headed.{count-is}
use Rattle.analysis.proofs.Calling.{header-there, reduce-job, reduce-headed}
use Rattle.probe.specs.Regions.{short, told}
use Rattle.probe.specs.Links.{first-unknown, second-unknown, known}
use Rattle.probe.proofs.LinkLaws.{link-named}
use Rattle.probe.proofs.RegionLaws.{ready-now}
use Rattle.probe.proofs.own_links.probe_link.Goals as goal

pub read_header-h-requires : goal.read_header-h-requires
read_header-h-requires c = header-there _ (reduce-job _ (first-passed c.unready-r.ensures (omega (arith, c.if-r-gt0.false))))

pub returns-then-n-first : goal.returns-then-n-first
returns-then-n-first c =
    let passed = first-passed c.unready-r.ensures (omega (arith, c.if-r-gt0.false)) in
    let ready = ready-now c.unready-r.ensures (omega (arith, c.if-r-gt0.false)) in
    let headed = reduce-headed (λ i. (c.type_inv.job i).fits) passed c.read_header-h.ensures in
    first-unknown ready (omega (arith, c.if-n-first.true, count-is headed)) refl refl refl

pub returns-then-n-second : goal.returns-then-n-second
returns-then-n-second c =
    let passed = first-passed c.unready-r.ensures (omega (arith, c.if-r-gt0.false)) in
    let ready = ready-now c.unready-r.ensures (omega (arith, c.if-r-gt0.false)) in
    let headed = reduce-headed (λ i. (c.type_inv.job i).fits) passed c.read_header-h.ensures in
    second-unknown ready (omega (arith, c.if-n-second.true, count-is headed)) refl refl refl

pub returns-then-out-lt24 : goal.returns-then-out-lt24
returns-then-out-lt24 c =
    let passed = first-passed c.unready-r.ensures (omega (arith, c.if-r-gt0.false)) in
    let ready = ready-now c.unready-r.ensures (omega (arith, c.if-r-gt0.false)) in
    let count = count-is (reduce-headed (λ i. (c.type_inv.job i).fits) passed c.read_header-h.ensures) in
    known (omega (arith, c.if-n-first.false, count)) (omega (arith, c.if-n-second.false, count))
    (short ready c.if-out-lt24.true refl refl refl)

pub tell_link-requires : goal.tell_link-requires
tell_link-requires c =
    let passed = first-passed c.unready-r.ensures (omega (arith, c.if-r-gt0.false)) in (
      reduce-headed (λ i. (c.type_inv.job i).fits) passed c.read_header-h.ensures,
      omega (arith, c.if-n-first.false),
      omega (arith, c.if-n-second.false),
      first-room c.unready-r.ensures (omega (arith, c.if-r-gt0.false)),
      omega (arith, c.if-out-lt24.false),
    )

pub returns : goal.returns
returns c =
    let passed = first-passed c.unready-r.ensures (omega (arith, c.if-r-gt0.false)) in
    let ready = ready-now c.unready-r.ensures (omega (arith, c.if-r-gt0.false)) in
    let count = count-is (reduce-headed (λ i. (c.type_inv.job i).fits) passed c.read_header-h.ensures) in
    known (omega (arith, c.if-n-first.false, count)) (omega (arith, c.if-n-second.false, count))
    (told ready (omega (arith, c.if-out-lt24.false)) refl refl
    (link-named _ _ _ _ c.of_000.ensures refl refl c.tell_link.ensures))
