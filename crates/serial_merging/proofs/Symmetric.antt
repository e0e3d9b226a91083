-- If one run is a relisting of another, so is the other of it.
use mathlib.Core.Path.{sym, ◌∙◌}
use mathlib.Core.List.Permᴰ
use mathlib.Core.List.{List}
use Rattle.order.specs.Shuffled.{Shuffled, nil, next, swap, then}
use Rattle.order.proofs.Shuffled.{shuffled-length}
use Rattle.position.specs.declared.Span.{Span}
use Rattle.format.specs.Values.{Observation, Boundary}
use Rattle.context.specs.Listing.{Item}
use Rattle.serial_merging.specs.Runs.{Run}
use Rattle.serial_merging.specs.Relisted.{Turned, same, turned, LikeObservation, LikeBoundary, LikeItem, Relisted, matched, unmatched}

shuffled-sym : {A : Type 0} {R : A → A → Type 0} → ((a b : A) → R a b → R b a) → {l m : List A} → Shuffled R l m → Shuffled R m l
shuffled-sym f nil = nil
shuffled-sym f (next {a = a} {b = b} r p) = next (f a b r) (shuffled-sym f p)
shuffled-sym f (swap {a = a} {b = b} {a' = c} {b' = d} r s p) = swap (f b d s) (f a c r) (shuffled-sym f p)
shuffled-sym f (then p q) = then (shuffled-sym f q) (shuffled-sym f p)

turned-sym : (s t : Span) → Turned s t → Turned t s
turned-sym s t same = same
turned-sym s t turned = turned

observation-sym : (o p : Observation) → LikeObservation o p → LikeObservation p o
observation-sym o p h = record { ends = turned-sym o.ends p.ends h.ends; bits = sym h.bits; sources = Permᴰ.symm h.sources }

boundary-sym : (b c : Boundary) → LikeBoundary b c → LikeBoundary c b
boundary-sym b c h = record {
  ends = turned-sym b.ends c.ends h.ends;
  bits = sym h.bits;
  ramp = sym h.ramp;
  sources = Permᴰ.symm h.sources;
  observations = shuffled-sym observation-sym h.observations;
}

item-sym : (i j : Item) → LikeItem i j → LikeItem j i
item-sym i j h = record { boundary = boundary-sym i.boundary j.boundary h.boundary; span = turned-sym i.span j.span h.span }

pub relisted-symmetric : {r s : Run} → Relisted r s → Relisted s r
relisted-symmetric (matched e f h) = matched f e (shuffled-sym item-sym h)
relisted-symmetric (unmatched n h k) =
    unmatched (λ e. n (shuffled-length h ∙ (e ∙ sym (shuffled-length k)))) (shuffled-sym boundary-sym h) (shuffled-sym turned-sym k)
