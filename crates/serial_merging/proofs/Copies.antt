-- Canonical copies: boundaries that are alike have one, and it is its own.
use mathlib.Core.Path.{◌≡◌, refl, sym, ◌∙◌, ap}
use mathlib.Core.List.Memᴰ
use mathlib.Core.List.Permᴰ
use mathlib.Core.List.{List, map, map-id, Memᴰ}
use lib.ListN.{length, length-map}
use Rattle.order.specs.Keys.{by_key}
use Rattle.order.specs.Orders.{TotalOrder}
use Rattle.order.proofs.Keys.{key-order}
use Rattle.order.proofs.Members.{perm-mem, map-ext}
use Rattle.order.proofs.Merge.{sort-length}
use Rattle.order.proofs.Shuffled.{shuffled-map}
use Rattle.order.proofs.Sort.{sort-perm}
use Rattle.order.proofs.Stable.{sort-idem}
use Rattle.order.proofs.Forgets.{sort-forgets}
use Rattle.order.proofs.Once.{once-idem, once-forgets}
use Rattle.position.specs.Order.{canonical}
use Rattle.position.specs.declared.Span.{Span}
use Rattle.position.proofs.Order.{canonical-swapped, canonical-again}
use Rattle.format.specs.Values.{Observation, Boundary}
use Rattle.context.specs.Listing.{Item, ends_key, span_key}
use Rattle.serial_merging.specs.Keys.{source_key, observation_key}
use Rattle.serial_merging.specs.Copies.{sorted_sources, sorted_observations, canon_observation, canon, copies_of}
use Rattle.serial_merging.specs.Runs.{canon_item}
use Rattle.serial_merging.specs.Relisted.{Turned, same, turned, LikeObservation, LikeBoundary, LikeItem}
use Rattle.serial_merging.proofs.Keys.{source-inj, observation-inj}

pub source-order : TotalOrder (by_key source_key)
source-order = key-order source_key source-inj

pub observation-order : TotalOrder (by_key observation_key)
observation-order = key-order observation_key observation-inj

-- The ends, either way round.
pub ends_turned : {s t : Span} → Turned s t → canonical s ≡ canonical t
ends_turned same = refl
ends_turned (turned {s = s}) = sym (canonical-swapped s)

observation-like : (o p : Observation) → LikeObservation o p → canon_observation o ≡ canon_observation p
unfolding canon_observation
observation-like o p l =
    let e = ends_turned l.ends in
    let f = l.bits in
    let g = once-forgets source-order l.sources in
    λ i. record { ends = e i; bits = f i; sources = g i }

pub canon-like : (b c : Boundary) → LikeBoundary b c → canon b ≡ canon c
unfolding canon
canon-like b c l =
    let e = ends_turned l.ends in
    let f = l.bits in
    let g = l.ramp in
    let h = once-forgets source-order l.sources in
    let o = sort-forgets observation-order (shuffled-map canon_observation observation-like l.observations) in
    λ i. record { ends = e i; bits = f i; ramp = g i; sources = h i; observations = o i }

pub item-like : (i j : Item) → LikeItem i j → canon_item i ≡ canon_item j
unfolding canon_item
item-like i j l =
    let e = canon-like i.boundary j.boundary l.boundary in
    let s = ends_turned l.span in
    λ i. record { boundary = e i; span = s i }

-- An observation with canonical ends and sorted sources is its own copy.
pub observation-fixed : (o : Observation) → canonical o.ends ≡ o.ends → sorted_sources o.sources ≡ o.sources → canon_observation o ≡ o
unfolding canon_observation
observation-fixed o e f = λ i. record { ends = e i; bits = o.bits; sources = f i }

pub observation-again : (o : Observation) → canon_observation (canon_observation o) ≡ canon_observation o
unfolding canon_observation
observation-again o = observation-fixed (canon_observation o) (canonical-again o.ends) (once-idem source-order o.sources)

-- Observations of a canonical copy are their own copies.
pub copied-observation : (b : Boundary) (o : Observation) → Memᴰ o (canon b).observations → (p : Observation) × Memᴰ p b.observations
    × (canon_observation p ≡ o)
unfolding canon
copied-observation b o m = Memᴰ.of_map canon_observation b.observations
    (perm-mem (Permᴰ.symm (sort-perm (by_key observation_key) (map canon_observation b.observations))) m)

pub copied-fixed : (b : Boundary) (o : Observation) → Memᴰ o (canon b).observations → canon_observation o ≡ o
copied-fixed b o m = let r = copied-observation b o m in rw (← r.2) (observation-again r.0)

-- Where all are their own copies, copying and sorting them again changes nothing.
pub sorted-again : (l : List Observation) → ((o : Observation) → Memᴰ o l → canon_observation o ≡ o)
    → sorted_observations (map canon_observation (sorted_observations l)) ≡ sorted_observations l
sorted-again l f =
    ap sorted_observations (map-ext canon_observation (λ o. o) (sorted_observations l)
    (λ o m. f o (perm-mem (Permᴰ.symm (sort-perm (by_key observation_key) l)) m))
    ∙ map-id (sorted_observations l))
    ∙ sort-idem observation-order.orders l

-- As many copies as boundaries.
pub copies_length : (bs : List Boundary) → length (copies_of bs) ≡ length bs
unfolding copies_of
copies_length bs = sort-length (by_key ends_key) (map canon bs) ∙ length-map bs canon

pub key-canon : (b : Boundary) → ends_key (canon b) ≡ ends_key b
unfolding ends_key canon
key-canon b = ap span_key (canonical-again b.ends)
