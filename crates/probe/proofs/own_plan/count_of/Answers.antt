use mathlib.Core.Path.{ap}
use native.Mathlib.Omega.{arith}
use Rattle.format.specs.Header.{header_at}
use Rattle.format.specs.declared.header.Header.{Header}
use Rattle.probe.proofs.own_plan.count_of.Goals as goal

pub returns-then-n-gt256 : goal.returns-then-n-gt256
unfolding header_at
returns-then-n-gt256 c =
    record {
      few = omega arith;
      is = λ l f. absurd (omega (arith, c.if-n-gt256.true, ap (λ (x : Header). x.counts.boundaries) c.read_header-h.ensures));
    }

pub returns : goal.returns
unfolding header_at
returns c =
    record {
      few = omega arith;
      is = λ l f. ap (λ (x : Header). x.counts.boundaries) c.read_header-h.ensures;
    }
