-- What touching a region and having a full pair mean.
use mathlib.Core.Path.{◌≡◌, refl}
use mathlib.Core.Logic.{◌↔◌, ⊎_elim}
use mathlib.Core.Bool.{true, ◌&&◌}
use mathlib.Core.List.{List, [], ◌∷◌, Memᴰ}
use Prim.Native.Nat.{ℕ, ◌<◌}
use borrow.Author.Tests.{ltb-true, lt-ltb, eqb-true, eq-eqb}
use lib.Dec.{ltb, eqb}
use lib.ListN.{length}
use Rattle.order.proofs.Bools.{clash, and_parts, and_both, or_cases, or_right}
use Rattle.areas.specs.Assessments.{RegionPair, Assessment}
use Rattle.context.specs.FullPair.{in_pair, in_pairs, touches, has_full_pair}

in_pairs_lem : (r : ℕ) (ps : List RegionPair) → in_pairs r ps ≡ true → (p : RegionPair) × Memᴰ p ps × (in_pair r p ≡ true)
unfolding in_pairs
in_pairs_lem r [] h = clash h refl
in_pairs_lem r (p ∷ ps) h =
    ⊎_elim (λ (e : in_pair r p ≡ true). (p, Memᴰ.head refl, e))
    (λ (e : in_pairs r ps ≡ true). let w = in_pairs_lem r ps e in (w.0, Memᴰ.tail w.1, w.2)) (or_cases (in_pair r p) (in_pairs r ps) h)

pairs-in : (r : ℕ) {p : RegionPair} {ps : List RegionPair} → Memᴰ p ps → in_pair r p ≡ true → in_pairs r ps ≡ true
unfolding in_pairs
pairs-in r (Memᴰ.head {x = q} {xs = ps} e) h = let k : in_pair r q ≡ true = rw (← e) h in rw k
pairs-in r (Memᴰ.tail {x = q} m) h = or_right (in_pair r q) (pairs-in r m h)

pub touches-iff : (a : Assessment) (r : ℕ) → (touches a r ≡ true) ↔ ((p : RegionPair) × Memᴰ p a.pairs × (in_pair r p ≡ true))
unfolding touches
touches-iff a r = (in_pairs_lem r a.pairs, λ w. pairs-in r w.1 w.2)

pub full-pair-iff : (a : Assessment) → (has_full_pair a ≡ true) ↔ ((0 < a.removed) × (a.separated ≡ a.removed) × (length a.pairs ≡ 1))
unfolding has_full_pair
full-pair-iff a = (
  λ h.
      let p = and_parts (ltb 0 a.removed && eqb a.separated a.removed) (eqb (length a.pairs) 1) h in
      let q = and_parts (ltb 0 a.removed) (eqb a.separated a.removed) p.0 in
      (ltb-true 0 a.removed q.0, eqb-true a.separated a.removed q.1, eqb-true (length a.pairs) 1 p.1),
  λ w. and_both (and_both (lt-ltb 0 a.removed w.0) (eq-eqb a.separated a.removed w.1)) (eq-eqb (length a.pairs) 1 w.2),
)
