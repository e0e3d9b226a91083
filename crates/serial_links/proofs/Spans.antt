-- Spans whose ends are in bounds, either way round.
use mathlib.Core.Path.{◌≡◌}
use mathlib.Core.Bool.{Bool, true, false, cond}
use Rattle.position.specs.Order.{pos_le, canonical, swapped}
use Rattle.position.specs.declared.Span.{Span}
use Rattle.serial_links.specs.Held.{SpanBounded}

pub swapped-bounded : {s : Span} → SpanBounded s → SpanBounded (swapped s)
swapped-bounded h = record { first = h.second; second = h.first }

either : (t : Bool) {s : Span} → SpanBounded s → SpanBounded (cond t s (swapped s))
either true h = h
either false h = swapped-bounded h

pub canonical-bounded : {s : Span} → SpanBounded s → SpanBounded (canonical s)
unfolding canonical
canonical-bounded {s} h = either (pos_le s.a s.b) h

pub bounded-as : {s t : Span} → t ≡ s → SpanBounded s → SpanBounded t
bounded-as e h = rw e h
