-- The places of what ranks observed, one rank after another.
use mathlib.Core.Path.{◌≡◌, refl, sym, ◌∙◌, ap}
use mathlib.Core.Bool.{Bool, true, false, cond, not, ◌&&◌}
use mathlib.Core.List.{List, [], ◌∷◌}
use Prim.Native.Nat.{ℕ, suc, ◌+◌, ◌≤◌, ◌<◌}
use native.Mathlib.Omega.{arith}
use borrow.Author.Tests.{eq-eqb, ne_eqb}
use lib.Dec.{eqb}
use lib.ListN.{length, get_or}
use Rattle.wire.specs.Bytes.{splice}
use Rattle.order.specs.Lists.{gather, up_from}
use Rattle.order.specs.Sorting.{sort}
use Rattle.order.proofs.Numbers.{up-length}
use Rattle.sorting.specs.Between.{between}
use Rattle.places.specs.Orders.{by_run}
use Rattle.answer_sources.specs.Laying.{seen_count}
use Rattle.answer_sources.specs.Standing.{stands_at, Standing}
use Rattle.answer_sources.specs.Gathered.{places_from}
use Rattle.answer_gathering.specs.Runs.{Appended, going, places_at, seen_run, seen_weight, into}
use Rattle.answer_gathering.specs.Room.{SeenRoom}
use Rattle.answer_gathering.proofs.Fills.{added_is, added-sorted}

cond-long : (t : Bool) (x : ℕ) (l : List ℕ) → length (cond t (x ∷ []) l) ≤ suc (length l)
cond-long true x l = omega arith
cond-long false x l = omega arith

pub places-long : (base : ℕ) (order firsts : List ℕ) (count : ℕ → ℕ) (among j : ℕ)
    → length (places_at base order firsts count among j) ≤ seen_weight order count j
unfolding places_from
places-long base order firsts count among j =
    let b : ℕ = get_or order j 0 in
    omega (arith, cond-long (eqb (count b) 0 && not (eqb among 1)) (base + b) (up_from (get_or firsts b 0) (count b)), up-length (get_or firsts b 0) (count b))

-- Of one that stands as an observation itself, and of one that doesn't.
pub place-itself : {l m : List ℕ} {to r : ℕ} (v : ℕ) (ps : List ℕ) (p : ℕ) → v ≡ 1 → Appended l to (up_from p 1) m r
    → Appended l to (cond (eqb v 1) (p ∷ []) ps) m r
unfolding up_from
place-itself v ps p e a = rw (eq-eqb v 1 e) a

pub places-seen : {l m : List ℕ} {to r : ℕ} {ps : List ℕ} (v p : ℕ) → (v ≡ 1 → ⊥) → Appended l to ps m r → Appended l to (cond (eqb v 1) (p ∷ []) ps) m r
places-seen v p d a = rw (ne_eqb v 1 d) a

-- Rank j, which goes into rank i, observed nothing and isn't alone there.
abbrev itself_at : (order plan : List ℕ) (seen : ℕ → ℕ) (n i j : ℕ) → Bool
itself_at order plan seen n i j = eqb (seen (get_or order j 0)) 0 && not (eqb (length (going plan n i)) 1)

pub standing-is : {order plan stands : List ℕ} {seen : ℕ → ℕ} {n i j : ℕ} → Standing order plan seen n stands → j < n → get_or plan j 0 ≡ i → i < n
    → get_or stands (get_or order j 0) 0 ≡ cond (itself_at order plan seen n i j) 1 0
unfolding stands_at
standing-is {order} {plan} {stands} {seen} {n} {i} {j} t h e l =
    t.there j h (rw e l) ∙ ap (λ (k : ℕ). cond (itself_at order plan seen n k j) 1 0) e

mark-test : (t : Bool) → eqb (cond t 1 0) 1 ≡ t
mark-test true = refl
mark-test false = refl

-- What rank j observed, which has place z.
module _ {s order plan stands firsts : List ℕ} {at base n j : ℕ} (room : SeenRoom s at base order plan stands firsts n) (h : j < n) {z : ℕ}
    (e : z ≡ get_or order j 0) where
  pub place-small : z < n
  place-small = rw e (room.order-in j h)

  pub own-place : base + z < 1280
  own-place = omega (arith, place-small, room.few, room.base-few)

  pub seen-room : (to k m : ℕ) {x i : ℕ} → m ≡ seen_count s at z → x ≡ get_or plan j 0 → x ≡ i
      → to + into plan (seen_weight order (seen_count s at)) i j ≤ k → to + m + 1 ≤ k
  seen-room to k m {x} {i} c p q l =
      let v : into plan (seen_weight order (seen_count s at)) i j ≡ seen_weight order (seen_count s at) j = rw (eq-eqb (get_or plan j 0) i (sym p ∙ q)) in
      omega (arith, l, v, c, ap (seen_count s at) e)

  pub places-inside : {p m : ℕ} → p ≡ get_or firsts z 0 → m ≡ seen_count s at z → p + m ≤ 1280
  places-inside a b = omega (arith, a, b, room.places-in z place-small, room.base-few)

  -- It goes into rank i and is marked where it stands as an observation itself.
  module _ {x i p m v : ℕ} (goes : x ≡ get_or plan j 0) (there : x ≡ i) (low : i < n) (a : p ≡ get_or firsts z 0) (b : m ≡ seen_count s at z)
      (c : v ≡ get_or stands z 0) where
    marked : v ≡ cond (itself_at order plan (seen_count s at) n i j) 1 0
    marked =
        c ∙ (ap (λ (k : ℕ). get_or stands k 0) e
        ∙ standing-is room.standing h (sym goes ∙ there) low)

    places-are : cond (eqb v 1) ((base + z) ∷ []) (up_from p m) ≡ places_at base order firsts (seen_count s at) (length (going plan n i)) j
    unfolding places_from
    places-are =
        ap (λ (t : Bool). cond t ((base + z) ∷ []) (up_from p m)) (ap (λ (k : ℕ). eqb k 1) marked ∙ mark-test (itself_at order plan (seen_count s at) n i j))
        ∙ (ap (λ (l : List ℕ). cond (itself_at order plan (seen_count s at) n i j) ((base + z) ∷ []) l)
        (ap (λ (k : ℕ). up_from k m) a ∙ ap (up_from (get_or firsts z 0)) b)
        ∙ ap (λ (k : ℕ). cond (itself_at order plan (seen_count s at) n i j) ((base + k) ∷ []) (up_from (get_or firsts k 0) (seen_count s at k))) e)

    pub places-there : {l l' : List ℕ} {to r : ℕ} → Appended l to (cond (eqb v 1) ((base + z) ∷ []) (up_from p m)) l' r
        → Appended l to (places_at base order firsts (seen_count s at) (length (going plan n i)) j) l' r
    places-there f = added_is f refl places-are

pub counted-one : {x i z : ℕ} → z ≡ x → z ≡ i → ◌≡◌ {A = ℕ} 1 (cond (eqb x i) 1 0)
counted-one {x} {i} e h = rw (eq-eqb x i (sym e ∙ h))

pub counted_none : {x i z : ℕ} → z ≡ x → (z ≡ i → ⊥) → ◌≡◌ {A = ℕ} 0 (cond (eqb x i) 1 0)
counted_none {x} {i} e h = rw (ne_eqb x i (λ q. h (e ∙ q)))

-- These, sorted.
pub seen-gathered : {l₀ l m : List ℕ} {from to : ℕ} (base : ℕ) (order plan firsts first second third starts counts keys : List ℕ) (count : ℕ → ℕ) (n i : ℕ)
    → Appended l₀ from (gather (places_at base order firsts count (length (going plan n i))) (going plan n i)) l to → from ≤ length l₀ → to ≤ length l
    → m ≡ splice l from (sort (by_run first second third starts counts keys) (between l from to))
    → Appended l₀ from (seen_run base order plan firsts first second third starts counts keys count n i) m to
unfolding seen_run
seen-gathered base order plan firsts first second third starts counts keys count n i a h b e =
    added-sorted a h (by_run first second third starts counts keys) b e
