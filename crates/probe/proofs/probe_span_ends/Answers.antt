use mathlib.Core.Path.{◌∙◌, ap}
use mathlib.Core.List.{List}
use Prim.Native.Nat.{ℕ}
use lib.ListN.{length}
use Rattle.probe.specs.Probe.{put_first}
use Rattle.probe.proofs.probe_span_ends.Goals as goal

pub returns : goal.returns
returns c =
    let bytes = c.span_ends.ensures.bytes-are in (
      c.copy.ensures.0 ∙ ap (λ (l : List ℕ). length l) bytes,
      c.copy.ensures.1 ∙ ap (put_first c.args.out.now) bytes,
    )
