-- What is kept by groups is what is kept by their plan.
use mathlib.Core.Path.{◌≡◌, refl, sym, ◌∙◌, ap}
use mathlib.Core.Bool.{Bool, true, false, cond}
use mathlib.Core.List.Memᴰ
use mathlib.Core.List.{List, [], ◌∷◌, ◌++◌, map, Memᴰ}
use Prim.Native.Nat.{ℕ, ◌<◌, ◌≤◌}
use native.Mathlib.Omega.{arith}
use borrow.Author.Tests.{eqb-true, eq-eqb, ne_eqb}
use lib.Dec.{eqb}
use lib.ListN.{length, get_or}
use Rattle.order.specs.Lists.{keep, gather, up_from, has}
use Rattle.order.specs.Pairs.{Pairs, none, more}
use Rattle.order.proofs.Bools.{clash, is_false, by-test, or_parts, or_right}
use Rattle.order.proofs.Keep.{keep-ext, keep-mem, mem-keep, keep-pairs}
use Rattle.order.proofs.Pairs.{pairs-ext}
use Rattle.order.proofs.Numbers.{up_mem, mem_up, up_strict, has-mem, mem-has, map_at}
use Rattle.format.specs.Values.{Boundary}
use Rattle.serial_merging.specs.Consolidation.{consolidate}
use Rattle.serial_merging.specs.Groups.{Group, in_any, Disjoint, WellGrouped}
use Rattle.serial_merging.specs.Kept.{no_boundary, copy_at, members_of, consolidated, slot, kept}
use Rattle.serial_merging.specs.Planned.{goes, members, merged, planned}
use Rattle.serial_merging.proofs.Groups.{any-group, ranks-are}

abbrev Mine : List Group → Type 0
Mine gs = (g : Group) → Memᴰ g gs → Memᴰ g.retained g.ranks

-- A rank of no group goes into itself, one of a group into the one that it retains.
pub goes_other : (gs : List Group) (i : ℕ) → in_any gs i ≡ false → goes gs i ≡ i
unfolding goes in_any
goes_other [] i h = refl
goes_other (g ∷ gs) i h = let p = or_parts (has i g.ranks) (in_any gs i) h in rw p.0 (goes_other gs i p.1)

pub goes-member : {gs : List Group} → Pairs Disjoint gs → {a : Group} → Memᴰ a gs → (i : ℕ) → Memᴰ i a.ranks → goes gs i ≡ a.retained
unfolding goes
goes-member none {a = a} x5 i k = elim x5 [ ]
goes-member (more f o) {a} (Memᴰ.head e) i k = let h = mem-has i a.ranks k in rw (← e, h)
goes-member (more {x = b} f o) {a} (Memᴰ.tail m) i k = let h = is_false (has i b.ranks) (λ p. f a m i (has-mem i b.ranks p) k) in
    rw h (goes-member o m i k)

pub group-in : {a : Group} {gs : List Group} → Memᴰ a gs → (i : ℕ) → Memᴰ i a.ranks → in_any gs i ≡ true
unfolding in_any
group-in {a = a} (Memᴰ.head e) i k = let h = mem-has i a.ranks k in rw (← e, h)
group-in (Memᴰ.tail {x = b} m) i k = or_right (has i b.ranks) (group-in m i k)

-- Two of the groups that share a rank are one.
one-group : {gs : List Group} → Pairs Disjoint gs → {b c : Group} → Memᴰ b gs → Memᴰ c gs → (i : ℕ) → Memᴰ i b.ranks → Memᴰ i c.ranks
    → b ≡ c
one-group none {b = b} {c = c} x10 _ i x y = elim x10 [ ]
one-group (more h o) (Memᴰ.head p) (Memᴰ.head q) i x y = p ∙ sym q
one-group (more h o) {b} {c} (Memᴰ.head p) (Memᴰ.tail q) i x y = absurd (h c q i (rw (← p) x) y)
one-group (more h o) {b} {c} (Memᴰ.tail p) (Memᴰ.head q) i x y = absurd (h b p i (rw (← q) y) x)
one-group (more h o) (Memᴰ.tail p) (Memᴰ.tail q) i x y = one-group o p q i x y

module _ (copies : List Boundary) where
  slot-other : (gs : List Group) → Mine gs → (i : ℕ) → in_any gs i ≡ false → slot copies gs i ≡ copy_at copies i ∷ []
  unfolding slot in_any
  slot-other [] mine i h = refl
  slot-other (g ∷ gs) mine i h =
      let p = or_parts (has i g.ranks) (in_any gs i) h in
      let q : eqb i g.retained ≡ false = ne_eqb i g.retained (λ z. clash (mem-has i g.ranks (rw z (mine g (Memᴰ.head refl)))) p.0) in
      rw (q, p.0) (slot-other gs (λ h m. mine h (Memᴰ.tail m)) i p.1)

  slot-member : {gs : List Group} → Pairs Disjoint gs → Mine gs → {a : Group} → Memᴰ a gs → (i : ℕ) → Memᴰ i a.ranks
      → slot copies gs i ≡ cond (eqb i a.retained) (consolidated copies a ∷ []) []
  unfolding slot
  slot-member none mine {a = a} x7 i k = elim x7 [ ]
  slot-member (more f o) mine {a} (Memᴰ.head e) i k = let h = mem-has i a.ranks k in rw (← e, h)
  slot-member {gs = gs} (more {x = b} f o) mine {a} (Memᴰ.tail m) i k =
      let h = is_false (has i b.ranks) (λ p. f a m i (has-mem i b.ranks p) k) in
      let q : eqb i b.retained ≡ false = ne_eqb i b.retained (λ z. clash (mem-has i b.ranks (rw z (mine b (Memᴰ.head refl)))) h) in
      rw (q, h) (slot-member o (λ g n. mine g (Memᴰ.tail n)) m i k)

  module _ (gs : List Group) (w : WellGrouped (length copies) gs) where
    mine-all : Mine gs
    mine-all g m = (w.good g m).mine

    -- what goes into a rank of no group is that rank alone
    only : (i : ℕ) → in_any gs i ≡ false → (j : ℕ) → goes gs j ≡ i → j ≡ i
    only i h j e =
        by-test (in_any gs j)
        (λ t. let r = any-group j gs t in clash (group-in r.1 i (rw (← e, goes-member w.apart r.1 j r.2) (mine-all r.0 r.1))) h)
        (λ f. sym (goes_other gs j f) ∙ e)

    alone : (i : ℕ) → i < length copies → in_any gs i ≡ false → members (goes gs) (length copies) i ≡ i ∷ []
    unfolding members
    alone i b h =
        pairs-ext (λ x y p q. omega arith) _ (i ∷ []) (keep-pairs (λ j. eqb (goes gs j) i) (up_strict 0 (length copies)))
        (more (λ y m. absurd (Memᴰ.not-nil m)) none)
        λ j. (
          λ m. Memᴰ.head (only i h j (eqb-true (goes gs j) i (keep-mem (λ j. eqb (goes gs j) i) (up_from 0 (length copies)) m).1)),
          λ m. rw (Memᴰ.eq_of_singleton m)
              (mem-keep (λ j. eqb (goes gs j) i) (mem_up 0 (length copies) i (omega arith) (omega arith)) (eq-eqb (goes gs i) i (goes_other gs i h))),
        )

    -- what goes into a retained rank is its group
    into : {a : Group} → Memᴰ a gs → (j : ℕ) → eqb (goes gs j) a.retained ≡ has j a.ranks
    into {a} m j =
        by-test (has j a.ranks)
        (λ t. eq-eqb (goes gs j) a.retained (goes-member w.apart m j (has-mem j a.ranks t)) ∙ sym t)
        (λ f. ne_eqb (goes gs j) a.retained (λ e. elsewhere f e) ∙ sym f)
      where
        among : in_any gs j ≡ true → goes gs j ≡ a.retained → Memᴰ j a.ranks
        among t e =
            let r = any-group j gs t in
            let q : r.0 ≡ a = one-group w.apart r.1 m a.retained (rw (← e, goes-member w.apart r.1 j r.2) (mine-all r.0 r.1))
            (mine-all a m) in
            rw (← q) r.2

        elsewhere : has j a.ranks ≡ false → goes gs j ≡ a.retained → ⊥
        elsewhere f e =
            by-test (in_any gs j) (λ t. clash (mem-has j a.ranks (among t e)) f)
            (λ o. clash (mem-has j a.ranks (rw (← goes_other gs j o, e) (mine-all a m))) f)

    group : {a : Group} → Memᴰ a gs → members (goes gs) (length copies) a.retained ≡ a.ranks
    unfolding members
    group {a} m =
        keep-ext (λ j. eqb (goes gs j) a.retained) (λ j. has j a.ranks) (up_from 0 (length copies)) (λ j _. into m j)
        ∙ ranks-are (length copies) a (w.good a m)

    module _ (two : (a : Group) → Memᴰ a gs → 2 ≤ length a.ranks) where
      -- what is kept at a rank, by its group and by the plan
      group-merged : {a : Group} → Memᴰ a gs → consolidated copies a ≡ merged copies (members (goes gs) (length copies) a.retained) a.retained
      unfolding consolidated members_of merged
      group-merged {a} m = rw (group m, ne_eqb (length a.ranks) 1 (λ e. let k = two a m in omega arith)) refl

      at-member : {a : Group} → Memᴰ a gs → (i : ℕ) → Memᴰ i a.ranks → (t : Bool) → eqb i a.retained ≡ t
          → cond t (consolidated copies a ∷ []) [] ≡ cond (eqb (goes gs i) i) (merged copies (members (goes gs) (length copies) i) i ∷ []) []
      at-member {a} m i k true e =
          let z = eqb-true i a.retained e in
          rw (goes-member w.apart m i k, z, eq-eqb a.retained a.retained refl) (ap (λ (b : Boundary). b ∷ []) (group-merged m))
      at-member {a} m i k false e =
          let q : eqb a.retained i ≡ false = ne_eqb a.retained i (λ z. clash (eq-eqb i a.retained (sym z)) e) in
          rw (goes-member w.apart m i k, q) refl

      at_other : (i : ℕ) → i < length copies → in_any gs i ≡ false
          → slot copies gs i ≡ cond (eqb (goes gs i) i) (merged copies (members (goes gs) (length copies) i) i ∷ []) []
      unfolding merged
      at_other i b h = let q = eq-eqb (goes gs i) i (goes_other gs i h) in rw (q, alone i b h) (slot-other gs mine-all i h)

      at-rank : (i : ℕ) → i < length copies → slot copies gs i ≡ cond (eqb (goes gs i) i) (merged copies (members (goes gs) (length copies) i) i ∷ []) []
      at-rank i b =
          by-test (in_any gs i)
          (λ t. let r = any-group i gs t in slot-member w.apart mine-all r.1 i r.2 ∙ at-member r.1 i r.2 (eqb i r.0.retained) refl)
          (at_other i b)

      pub kept-planned : kept copies gs ≡ planned copies (goes gs)
      unfolding kept planned gather
      kept-planned = go (up_from 0 (length copies)) (λ i m. let u = up_mem 0 (length copies) m in omega arith)
        where
          go : (l : List ℕ) → ((i : ℕ) → Memᴰ i l → i < length copies)
              → gather (slot copies gs) l ≡ map (λ i. merged copies (members (goes gs) (length copies) i) i) (keep (λ i. eqb (goes gs i) i) l)
          go [] h = refl
          go (i ∷ is) h = rw (at-rank i (h i (Memᴰ.head refl))) (one (eqb (goes gs i) i) (go is (λ j m. h j (Memᴰ.tail m))))
            where
              one : (t : Bool) → gather (slot copies gs) is ≡ map (λ i. merged copies (members (goes gs) (length copies) i) i)
                  (keep (λ i. eqb (goes gs i) i) is)
                  → cond t (merged copies (members (goes gs) (length copies) i) i ∷ []) [] ++ gather (slot copies gs) is
                  ≡ map (λ i. merged copies (members (goes gs) (length copies) i) i)
                  (cond t (i ∷ keep (λ i. eqb (goes gs i) i) is) (keep (λ i. eqb (goes gs i) i) is))
              one true e = ap (λ (m : List Boundary). merged copies (members (goes gs) (length copies) i) i ∷ m) e
              one false e = e

-- Plans that agree on the ranks keep the same.
pub planned-ext : (copies : List Boundary) (p q : ℕ → ℕ) → ((i : ℕ) → i < length copies → p i ≡ q i) → planned copies p ≡ planned copies q
unfolding planned members
planned-ext copies p q h =
    ap (map (λ i. merged copies (keep (λ j. eqb (p j) i) (up_from 0 (length copies))) i))
    (keep-ext (λ i. eqb (p i) i) (λ i. eqb (q i) i) (up_from 0 (length copies)) (λ i m. ap (λ k. eqb k i) (agree m)))
    ∙ go (keep (λ i. eqb (q i) i) (up_from 0 (length copies)))
  where
    agree : {i : ℕ} → Memᴰ i (up_from 0 (length copies)) → p i ≡ q i
    agree {i} m = let u = up_mem 0 (length copies) m in h i (omega arith)

    go : (l : List ℕ) → map (λ i. merged copies (keep (λ j. eqb (p j) i) (up_from 0 (length copies))) i) l ≡ map
        (λ i. merged copies (keep (λ j. eqb (q j) i) (up_from 0 (length copies))) i) l
    go [] = refl
    go (i ∷ is) = rw (keep-ext (λ j. eqb (p j) i) (λ j. eqb (q j) i) (up_from 0 (length copies)) (λ j m. ap (λ k. eqb k i) (agree m)), go is) refl

keeps-all : (alone : Bool) (b : Boundary) (l : List Boundary)
    → ((cond alone b (consolidate b l)).ends ≡ b.ends) × ((cond alone b (consolidate b l)).bits ≡ b.bits) × ((cond alone b (consolidate b l)).ramp ≡ b.ramp)
unfolding consolidate
keeps-all true b l = (refl, refl, refl)
keeps-all false b l = (refl, refl, refl)

-- What goes into a rank has the ends, the width and the ramp of the copy there.
pub merged_keeps : (copies : List Boundary) (js : List ℕ) (i : ℕ)
    → ((merged copies js i).ends ≡ (copy_at copies i).ends) × ((merged copies js i).bits ≡ (copy_at copies i).bits)
    × ((merged copies js i).ramp ≡ (copy_at copies i).ramp)
unfolding merged
merged_keeps copies js i = keeps-all (eqb (length js) 1) (copy_at copies i) (map (copy_at copies) js)

-- The k-th boundary that a plan keeps is what goes into the k-th rank that stays, and has the ends of the copy there.
module _ (copies : List Boundary) (plan : ℕ → ℕ) (k : ℕ) {i : ℕ} (h : k < length (keep (λ j. eqb (plan j) j) (up_from 0 (length copies))))
    (e : get_or (keep (λ j. eqb (plan j) j) (up_from 0 (length copies))) k 0 ≡ i) where
  pub planned-at : get_or (planned copies plan) k no_boundary ≡ merged copies (members plan (length copies) i) i
  unfolding planned
  planned-at =
      map_at (λ j. merged copies (members plan (length copies) j) j) (keep (λ j. eqb (plan j) j) (up_from 0 (length copies))) k 0 no_boundary h
      ∙ ap (λ (j : ℕ). merged copies (members plan (length copies) j) j) e

  pub planned-ends : (get_or (planned copies plan) k no_boundary).ends ≡ (copy_at copies i).ends
  planned-ends = ap (λ (b : Boundary). b.ends) planned-at ∙ (merged_keeps copies (members plan (length copies) i) i).0
