-- A consolidation is its own canonical copy, and does not depend on the order of the members.
use mathlib.Core.Path.{◌≡◌}
use mathlib.Core.List.Memᴰ
use mathlib.Core.List.{List, [], ◌∷◌, map, Memᴰ, Permᴰ}
use Rattle.order.specs.Lists.{gather}
use Rattle.order.proofs.Gather.{gather-mem, gather-perm}
use Rattle.order.proofs.Forgets.{sort-forgets}
use Rattle.order.proofs.Once.{once-idem, once-forgets}
use Rattle.position.proofs.Order.{canonical-again}
use Rattle.format.specs.Values.{Observation, Boundary}
use Rattle.serial_merging.specs.Copies.{canon_observation, canon}
use Rattle.serial_merging.specs.Consolidation.{or_itself, observed, consolidate}
use Rattle.serial_merging.proofs.Copies.{source-order, observation-order, observation-fixed, copied-fixed, sorted-again}

-- What a canonical copy gives.
observed-fixed : (b : Boundary) (o : Observation) → Memᴰ o (observed (canon b)) → canon_observation o ≡ o
unfolding observed canon or_itself
observed-fixed b o m = go (canon b).observations (copied-fixed b o) m
  where
    itself : Observation
    itself = record { ends = (canon b).ends; bits = (canon b).bits; sources = (canon b).sources }

    go : (os : List Observation) → (Memᴰ o os → canon_observation o ≡ o) → Memᴰ o (or_itself (canon b) os) → canon_observation o ≡ o
    go [] f n = rw (Memᴰ.eq_of_singleton n) (observation-fixed itself (canonical-again b.ends) (once-idem source-order b.sources))
    go (p ∷ ps) f n = f n

members-fixed : (ms : List Boundary) (o : Observation) → Memᴰ o (gather observed (map canon ms)) → canon_observation o ≡ o
members-fixed ms o m =
    let k = gather-mem observed (map canon ms) m in
    let c = Memᴰ.of_map canon ms k.1 in
    observed-fixed c.0 o (rw c.2 k.2)

pub consolidate-canon : (r : Boundary) (ms : List Boundary) → canon (consolidate (canon r) (map canon ms)) ≡ consolidate (canon r) (map canon ms)
unfolding canon consolidate
consolidate-canon r ms =
    let e = canonical-again r.ends in
    let h = once-idem source-order (gather (λ (b : Boundary). b.sources) (map canon ms)) in
    let o = sorted-again (gather observed (map canon ms)) (members-fixed ms) in
    λ i. record { ends = e i; bits = r.bits; ramp = r.ramp; sources = h i; observations = o i }

pub consolidate-perm : (r : Boundary) {l m : List Boundary} → Permᴰ l m → consolidate r l ≡ consolidate r m
unfolding consolidate
consolidate-perm r p =
    let h = once-forgets source-order (gather-perm (λ (b : Boundary). b.sources) p) in
    let o = sort-forgets observation-order (gather-perm observed p) in
    λ i. record { ends = r.ends; bits = r.bits; ramp = r.ramp; sources = h i; observations = o i }
