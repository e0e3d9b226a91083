use mathlib.Core.Path.{refl, sym, ap}
use Prim.Native.Nat.{ℕ, ◌*◌}
use native.Mathlib.Nat.{mul-le-mul}
use native.Mathlib.Omega.{arith}
use Rattle.checks.specs.Verdict.{meaning}
use Rattle.results.specs.Returns.{refused, cramped, ready}
use Rattle.results.proofs.Returns.{first_of}
use Rattle.analysis.proofs.Calling.{numbered, passed_on, job-cells, job-long, header-there}
use Rattle.analysis.proofs.result.check_room.Goals as goal

pub returns-in_err-v : goal.returns-in_err-v
returns-in_err-v c =
    rw (passed_on c.from_residual.result _ c.from_residual.ensures.1)
    (first_of (sym (ap meaning c.in_err-v.was)) (refused refl (numbered _) refl refl))

pub read_header-requires : goal.read_header-requires
read_header-requires c = header-there _ (c.requires.0 (ap meaning c.in_ok-v.was))

pub overflow_mul-c : goal.overflow_mul-c
overflow_mul-c c = omega (arith, job-cells _ (c.requires.0 (ap meaning c.in_ok-v.was)) c.read_header.ensures)

pub overflow_mul-each : goal.overflow_mul-each
overflow_mul-each c =
    let most = mul-le-mul c.requires.1 (job-cells _ (c.requires.0 (ap meaning c.in_ok-v.was)) c.read_header.ensures) in
    omega (arith, most)

pub returns-then-room-each : goal.returns-then-room-each
returns-then-room-each c =
    let e = ap meaning c.in_ok-v.was in
    let asked = ap (λ (n : ℕ). c.args.each * n) (job-long _ (c.requires.0 e) c.read_header.ensures) in
    cramped e (omega (arith, asked, c.if-room-each.true)) refl refl

pub returns : goal.returns
returns c =
    let e = ap meaning c.in_ok-v.was in
    let asked = ap (λ (n : ℕ). c.args.each * n) (job-long _ (c.requires.0 e) c.read_header.ensures) in
    ready e (omega (arith, asked, c.if-room-each.false)) refl refl
