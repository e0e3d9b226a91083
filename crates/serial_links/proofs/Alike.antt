-- Whether two spans are nearby and parallel, from the outcome of the test of their angle.
use mathlib.Core.Path.{◌≡◌}
use mathlib.Core.Bool.{Bool, true, false, cond}
use lib.Ieee.{Float, binary64, lt, of_bits}
use Rattle.position.specs.Order.{canonical, swapped}
use Rattle.position.specs.declared.Span.{Span}
use Rattle.serial_links.specs.Limits.{Limits}
use Rattle.serial_links.specs.Parallel.{cosine_of, facing, near_ends, nearby_parallel}
use Rattle.serial_links.specs.Held.{SpanBounded, facing_by}
use Rattle.serial_links.proofs.Spans.{swapped-bounded}

module _ (limits : Limits) (first second : Span) where
  pub at-an-angle : {q : Float} → lt q limits.cosine ≡ true → q ≡ cosine_of (canonical first) (canonical second) → false ≡ nearby_parallel limits first second
  unfolding nearby_parallel
  at-an-angle h e = let k = rw e at h in rw k

  pub alike : {q : Float} {r : Bool} → lt q limits.cosine ≡ false → q ≡ cosine_of (canonical first) (canonical second)
      → r ≡ near_ends limits (canonical first) (facing (canonical first) (canonical second)) → r ≡ nearby_parallel limits first second
  unfolding nearby_parallel
  alike h e f = let k = rw e at h in rw k f

either : (t : Bool) {s : Span} → SpanBounded s → SpanBounded (cond t (swapped s) s)
either true h = swapped-bounded h
either false h = h

pub facing-bounded : (d : Float) {s : Span} → SpanBounded s → SpanBounded (facing_by d s)
facing-bounded d h = either (lt d (of_bits binary64 0)) h
