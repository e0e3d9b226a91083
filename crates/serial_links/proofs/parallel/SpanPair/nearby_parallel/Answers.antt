use Rattle.serial_links.proofs.Alike.{at-an-angle, alike, facing-bounded}
use Rattle.serial_links.proofs.Spans.{canonical-bounded, bounded-as}
use Rattle.serial_links.proofs.parallel.SpanPair.nearby_parallel.Goals as goal

pub span_length-first-requires : goal.span_length-first-requires
span_length-first-requires c =
    bounded-as c.canonical-a.ensures (canonical-bounded c.requires.0)

pub span_length-second-requires : goal.span_length-second-requires
span_length-second-requires c =
    bounded-as c.canonical-b.ensures (canonical-bounded c.requires.1)

pub returns-then-abs-first : goal.returns-then-abs-first
returns-then-abs-first c =
    at-an-angle _ _ _ c.if-abs-first.true
    (simp (
      c.abs.ensures,
      c.span_length-second.ensures,
      c.span_length-first.ensures,
      c.dot-dot.ensures,
      c.span_vector-2.ensures,
      c.span_vector.ensures,
      c.canonical-b.ensures,
      c.canonical-a.ensures,
    ))

pub near_ends-requires : goal.near_ends-requires
near_ends-requires c =
    let p = c.requires in (
      bounded-as c.canonical-a.ensures (canonical-bounded p.0),
      bounded-as c.facing.ensures (facing-bounded _ (bounded-as c.canonical-b.ensures (canonical-bounded p.1))),
    )

pub returns : goal.returns
returns c =
    alike _ _ _ c.if-abs-first.false
    (simp (
      c.abs.ensures,
      c.span_length-second.ensures,
      c.span_length-first.ensures,
      c.dot-dot.ensures,
      c.span_vector-2.ensures,
      c.span_vector.ensures,
      c.canonical-b.ensures,
      c.canonical-a.ensures,
    ))
    (simp (
      c.near_ends.ensures,
      c.facing.ensures,
      c.dot-dot.ensures,
      c.span_vector-2.ensures,
      c.span_vector.ensures,
      c.canonical-b.ensures,
      c.canonical-a.ensures,
    ))
