-- The owners that touch a region are the ranks that touch it.
use mathlib.Core.Path.{◌≡◌, refl, sym, ◌∙◌, ap, subst}
use mathlib.Core.Logic.{⊎_elim, by_cases}
use mathlib.Core.Bool.{Bool, true, false, cond, not, ◌&&◌, ◌||◌}
use mathlib.Core.List.{List, [], ◌∷◌, ◌++◌, map, Memᴰ}
use Prim.Native.Nat.{ℕ, zero, suc, ◌-◌, ◌<◌, ◌≤◌}
use native.Mathlib.Omega.{arith}
use native.Mathlib.Decide.{ℕ_discrete}
use borrow.Author.Tests.{eqb-true, eqb-false, ne_eqb, not-true}
use lib.Dec.{eqb}
use lib.ListN.{length, get_or, length-append, length-map}
use lib.Seq.{get_or-append_seam}
use Rattle.lists.specs.Rows.{rows}
use Rattle.lists.proofs.Rows.{rows_at, length-rows}
use Rattle.order.specs.Lists.{up_from}
use Rattle.order.specs.Pairs.{Pairs, none, more}
use Rattle.order.proofs.Bools.{clash, and_parts, or_cases}
use Rattle.order.proofs.Members.{get_d-mem, mem-get_d}
use Rattle.order.proofs.Pairs.{pairs-append, pairs-at, pairs-ext}
use Rattle.order.proofs.Keep.{keep-mem, mem-keep, keep-pairs}
use Rattle.order.proofs.Numbers.{up_mem, mem_up, up_strict}
use Rattle.graph.specs.Records.{Record, record_in, records_in}
use Rattle.grid.specs.Cells.{Grid}
use Rattle.areas.specs.Assessments.{Assessment, record_of, regions_of, assess, records}
use Rattle.areas.proofs.Records.{records-iff}
use Rattle.context.specs.FullPair.{touches}
use Rattle.context.proofs.FullPair.{touches-iff}
use Rattle.context.specs.Listing.{Item}
use Rattle.serial_groups.specs.Listing.{no_span, spans_of}
use Rattle.serial_groups.specs.Regions.{assess_at, touching}
use Rattle.serial_groups.specs.Tables.{Paired}
use Rattle.serial_candidates.specs.Owners.{in_record}
use Rattle.serial_candidates.specs.Touchers.{with_owner, touched, touching_after, touchers}
use Rattle.serial_candidates.specs.declared.touching.Touching.{Touching}
use Rattle.serial_candidates.proofs.OwnerLaws.{owned-rising, span_of}

-- what is held of a list of owners
abbrev pub held_of : List ℕ → Touching
held_of l = record { count = length l; first = get_or l 0 0; second = get_or l 1 0; last = get_or l (length l - 1) 0 }

same-held : {a b c d x y z w : ℕ} → a ≡ x → b ≡ y → c ≡ z → d ≡ w
    → ◌≡◌ {A = Touching} (record { count = a; first = b; second = c; last = d }) (record { count = x; first = y; second = z; last = w })
same-held e f g h = rw (e, f, g, h)

first_more : (l : List ℕ) (o : ℕ) → cond (eqb (length l) 0) o (get_or l 0 0) ≡ get_or (l ++ (o ∷ [])) 0 0
first_more [] o = refl
first_more (x ∷ xs) o = rw (ne_eqb (length (x ∷ xs)) 0 (λ z. omega arith))

second_more : (l : List ℕ) (o : ℕ) → cond (eqb (length l) 1) o (get_or l 1 0) ≡ get_or (l ++ (o ∷ [])) 1 0
second_more [] o = refl
second_more (x ∷ []) o = refl
second_more (x ∷ y ∷ ys) o = rw (ne_eqb (length (x ∷ y ∷ ys)) 1 (λ z. omega arith))

last_more : (l : List ℕ) (o : ℕ) → o ≡ get_or (l ++ (o ∷ [])) (length (l ++ (o ∷ [])) - 1) 0
last_more l o = let e : length l ≡ length (l ++ (o ∷ [])) - 1 = omega (arith, length-append l (o ∷ [])) in
    sym (get_or-append_seam l o [] 0) ∙ ap (λ (n : ℕ). get_or (l ++ (o ∷ [])) n 0) e

held_more : (l : List ℕ) (o : ℕ) → with_owner (held_of l) o ≡ held_of (l ++ (o ∷ []))
held_more l o = same-held (sym (length-append l (o ∷ []))) (first_more l o) (second_more l o) (last_more l o)

module _ (f : ℕ → Record) (r : ℕ) where
  -- the owner is added
  abbrev adds : List ℕ → ℕ → Bool
  adds l k = in_record r (f k) && (eqb (length l) 0 || not (eqb (get_or l (length l - 1) 0) (f k).owner))

  pub told : (k : ℕ) → touching_after f r k ≡ held_of (touchers f r k)
  unfolding touching_after touchers
  told zero = refl
  told (suc k) = ap (λ (t : Touching). touched t (f k).owner (in_record r (f k))) (told k) ∙ go (touchers f r k) (adds (touchers f r k) k)
    where
      go : (l : List ℕ) (b : Bool) → cond b (with_owner (held_of l) (f k).owner) (held_of l) ≡ held_of (cond b (l ++ ((f k).owner ∷ [])) l)
      go l true = held_more l (f k).owner
      go l false = refl

  -- an owner of a record that touches the region
  pub record Touches (k i : ℕ) : Type 0 where
    pub place : ℕ
    pub below : place < k
    pub owner : (f place).owner ≡ i
    pub hit : in_record r (f place) ≡ true

  later : {k i : ℕ} → Touches k i → Touches (suc k) i
  later t = record { place = t.place; below = omega (arith, t.below); owner = t.owner; hit = t.hit }

  pub toucher-touches : (k : ℕ) {i : ℕ} → Memᴰ i (touchers f r k) → Touches k i
  unfolding touchers
  toucher-touches zero m = absurd (mathlib.Core.List.Memᴰ.not-nil m)
  toucher-touches (suc k) {i} m = go (adds (touchers f r k) k) refl m (λ n. toucher-touches k n)
    where
      one : in_record r (f k) ≡ true → Memᴰ i ((f k).owner ∷ []) → Touches (suc k) i
      one h (mathlib.Core.List.Memᴰ.head e) = record { place = k; below = omega arith; owner = sym e; hit = h }
      one h (mathlib.Core.List.Memᴰ.tail n) = absurd (mathlib.Core.List.Memᴰ.not-nil n)

      go : (b : Bool) → adds (touchers f r k) k ≡ b → Memᴰ i (cond b (touchers f r k ++ ((f k).owner ∷ [])) (touchers f r k))
          → (Memᴰ i (touchers f r k) → Touches k i) → Touches (suc k) i
      go true e n ih =
          ⊎_elim (λ (a : Memᴰ i (touchers f r k)). later (ih a)) (λ (a : Memᴰ i ((f k).owner ∷ [])). one (and_parts (in_record r (f k)) _ e).0 a)
          (mathlib.Core.List.Memᴰ.append_cases (touchers f r k) n)
      go false e n ih = later (ih n)

  -- an owner that is not added is the last one
  is_last : (l : List ℕ) (o : ℕ) → (eqb (length l) 0 || not (eqb (get_or l (length l - 1) 0) o)) ≡ false → Memᴰ o l
  is_last l o h = go (eqb (length l) 0) refl (eqb (get_or l (length l - 1) 0) o) refl h
    where
      go : (a : Bool) → eqb (length l) 0 ≡ a → (b : Bool) → eqb (get_or l (length l - 1) 0) o ≡ b → (a || not b) ≡ false → Memᴰ o l
      go true x b y z = clash {t = true} refl z
      go false x false y z = clash {t = true} refl z
      go false x true y z = let n = eqb-false (length l) 0 x in
          subst (λ (v : ℕ). Memᴰ v l) (eqb-true (get_or l (length l - 1) 0) o y) (get_d-mem l 0 (length l - 1) (omega arith))

  touches-toucher : (k j : ℕ) → j < k → in_record r (f j) ≡ true → Memᴰ (f j).owner (touchers f r k)
  unfolding touchers
  touches-toucher zero j h e = absurd (omega arith)
  touches-toucher (suc k) j h e =
      by_cases (ℕ_discrete j k)
      (λ q. subst (λ (m : ℕ). Memᴰ (f m).owner (touchers f r (suc k))) (sym q) (here (subst (λ (m : ℕ). in_record r (f m) ≡ true) q e)))
      (λ q. earlier (touches-toucher k j (omega arith) e))
    where
      here : in_record r (f k) ≡ true → Memᴰ (f k).owner (touchers f r (suc k))
      here t = go (eqb (length (touchers f r k)) 0 || not (eqb (get_or (touchers f r k) (length (touchers f r k) - 1) 0) (f k).owner)) refl
        where
          go : (b : Bool) → (eqb (length (touchers f r k)) 0 || not (eqb (get_or (touchers f r k) (length (touchers f r k) - 1) 0) (f k).owner)) ≡ b
              → Memᴰ (f k).owner (cond (adds (touchers f r k) k) (touchers f r k ++ ((f k).owner ∷ [])) (touchers f r k))
          go true x = rw (t, x) (mathlib.Core.List.Memᴰ.append_right (touchers f r k) (mathlib.Core.List.Memᴰ.head refl))
          go false x = rw (t, x) (is_last (touchers f r k) (f k).owner x)

      earlier : Memᴰ (f j).owner (touchers f r k) → Memᴰ (f j).owner (touchers f r (suc k))
      earlier m = go (adds (touchers f r k) k)
        where
          go : (b : Bool) → Memᴰ (f j).owner (cond b (touchers f r k ++ ((f k).owner ∷ [])) (touchers f r k))
          go true = mathlib.Core.List.Memᴰ.append_left ((f k).owner ∷ []) m
          go false = m

  last-most : {l : List ℕ} → Pairs (λ i j. i < j) l → {x : ℕ} → Memᴰ x l → x ≤ get_or l (length l - 1) 0
  last-most {l} p {x} m =
      let w = mem-get_d 0 m in
      by_cases (ℕ_discrete w.0 (length l - 1)) (λ e. let q : get_or l w.0 0 ≡ get_or l (length l - 1) 0 = ap (λ (n : ℕ). get_or l n 0) e in omega (arith, w.2))
      (λ e. let q = pairs-at 0 p w.0 (length l - 1) (omega (arith, w.1)) (omega (arith, w.1)) in omega (arith, w.2))

  touchers-rise : (m : ℕ) → ((i j : ℕ) → i < j → j < m → (f i).owner ≤ (f j).owner) → (k : ℕ) → k ≤ m → Pairs (λ i j. i < j) (touchers f r k)
  unfolding touchers
  touchers-rise m h zero l = none
  touchers-rise m h (suc k) l = go (adds (touchers f r k) k) refl (touchers-rise m h k (omega arith))
    where
      above : Pairs (λ i j. i < j) (touchers f r k) → adds (touchers f r k) k ≡ true → (x : ℕ) → Memᴰ x (touchers f r k) → x < (f k).owner
      above before e x a =
          let t = toucher-touches k (get_d-mem (touchers f r k) 0 (length (touchers f r k) - 1) (some a)) in
          let u = last-most before a in
          let v = h t.place k t.below (omega arith) in
          ⊎_elim (λ (z : eqb (length (touchers f r k)) 0 ≡ true). let y = eqb-true (length (touchers f r k)) 0 z in let s = some a in absurd (omega arith))
          (λ (z : not (eqb (get_or (touchers f r k) (length (touchers f r k) - 1) 0) (f k).owner) ≡ true). let n =
          eqb-false (get_or (touchers f r k) (length (touchers f r k) - 1) 0) (f k).owner
          (not-true (eqb (get_or (touchers f r k) (length (touchers f r k) - 1) 0) (f k).owner) z) in apart n u v t.owner)
          (or_cases (eqb (length (touchers f r k)) 0) (not (eqb (get_or (touchers f r k) (length (touchers f r k) - 1) 0) (f k).owner))
          (and_parts (in_record r (f k))
          (eqb (length (touchers f r k)) 0 || not (eqb (get_or (touchers f r k) (length (touchers f r k) - 1) 0) (f k).owner)) e).1)
        where
          some : {y : ℕ} {l : List ℕ} → Memᴰ y l → length l - 1 < length l
          some (mathlib.Core.List.Memᴰ.head e) = omega arith
          some (mathlib.Core.List.Memᴰ.tail n) = omega arith

          apart : {x p q s : ℕ} → (p ≡ q → ⊥) → x ≤ p → s ≤ q → s ≡ p → x < q
          apart n u v o = omega arith

      go : (b : Bool) → adds (touchers f r k) k ≡ b → Pairs (λ i j. i < j) (touchers f r k)
          → Pairs (λ i j. i < j) (cond b (touchers f r k ++ ((f k).owner ∷ [])) (touchers f r k))
      go true e before = pairs-append before (more (λ y n. absurd (mathlib.Core.List.Memᴰ.not-nil n)) none) (λ x y a n. last x y (above before e x a) n)
        where
          last : (x y : ℕ) → x < (f k).owner → Memᴰ y ((f k).owner ∷ []) → x < y
          last x y u (mathlib.Core.List.Memᴰ.head q) = omega arith
          last x y u (mathlib.Core.List.Memᴰ.tail n) = absurd (mathlib.Core.List.Memᴰ.not-nil n)
      go false e before = before

module _ (dirs : List ℕ) (g : Grid) (l : List Item) {owners lefts rights : List ℕ} {n : ℕ} (w : Paired dirs g l owners lefts rights n) (r : ℕ) where
  abbrev f : ℕ → Record
  f = record_in owners lefts rights

  record-at : (j : ℕ) → j < n → Memᴰ (f j) (records dirs g (spans_of l))
  unfolding records_in
  record-at j h = subst (λ (m : List Record). Memᴰ (f j) m) w.all
      (subst (λ (x : Record). Memᴰ x (rows n f)) (rows_at n f j (f 0) h) (get_d-mem (rows n f) (f 0) j (omega (arith, length-rows n f))))

  at-record : {x : Record} → Memᴰ x (records dirs g (spans_of l)) → (j : ℕ) × (j < n) × (f j ≡ x)
  unfolding records_in
  at-record {x} m =
      let p = mem-get_d (f 0) (subst (λ (m : List Record). Memᴰ x m) (sym w.all) m) in
      let h : p.0 < n = omega (arith, p.1, length-rows n f) in
      (p.0, h, sym (rows_at n f p.0 (f 0) h) ∙ p.2)

  rise : (i j : ℕ) → i < j → j < n → (f i).owner ≤ (f j).owner
  unfolding records_in records
  rise i j h k =
      let o : Pairs (λ (a b : Record). a.owner ≤ b.owner) (rows n f) =
      subst (λ (m : List Record). Pairs (λ (a b : Record). a.owner ≤ b.owner) m) (sym w.all)
      (owned-rising 0 (map (λ s. (assess dirs g (spans_of l) s).pairs) (spans_of l))) in
      let q = pairs-at (f 0) o i j h (omega (arith, length-rows n f)) in
      let a = ap (λ (x : Record). x.owner) (rows_at n f i (f 0) (omega arith)) in
      let b = ap (λ (x : Record). x.owner) (rows_at n f j (f 0) k) in
      omega arith

  assess-is : (i : ℕ) → assess dirs g (spans_of l) (get_or (spans_of l) i no_span) ≡ assess_at dirs g l i
  unfolding assess_at
  assess-is i = ap (assess dirs g (spans_of l)) (span_of dirs g l i)

  to : (i : ℕ) → Memᴰ i (touchers f r n) → Memᴰ i (touching dirs g l r)
  unfolding touching
  to i m =
      let t = toucher-touches f r n m in
      let p = (records-iff dirs g (spans_of l) no_span (f t.place)).0 (record-at t.place t.below) in
      let e = t.owner in
      let q = subst (λ (k : ℕ). Memᴰ (regions_of (f t.place)) (assess dirs g (spans_of l) (get_or (spans_of l) k no_span)).pairs) e p.1 in
      let v = subst (λ (x : Assessment). Memᴰ (regions_of (f t.place)) x.pairs) (assess-is i) q in
      mem-keep (λ j. touches (assess_at dirs g l j) r) (mem_up 0 (length l) i (omega arith) (omega (arith, p.0, e, length-map l (λ (x : Item). x.span))))
      ((touches-iff (assess_at dirs g l i) r).1 (regions_of (f t.place), v, t.hit))

  from : (i : ℕ) → Memᴰ i (touching dirs g l r) → Memᴰ i (touchers f r n)
  unfolding touching
  from i m =
      let k = keep-mem (λ j. touches (assess_at dirs g l j) r) (up_from 0 (length l)) m in
      let u = up_mem 0 (length l) k.0 in
      let t = (touches-iff (assess_at dirs g l i) r).0 k.1 in
      let v : Memᴰ t.0 (assess dirs g (spans_of l) (get_or (spans_of l) i no_span)).pairs =
      subst (λ (x : Assessment). Memᴰ t.0 x.pairs) (sym (assess-is i)) t.1 in
      let x = at-record ((records-iff dirs g (spans_of l) no_span (record_of i t.0)).1 (omega (arith, length-map l (λ (y : Item). y.span)), v)) in
      subst (λ (z : Record). Memᴰ z.owner (touchers f r n)) x.2
      (touches-toucher f r n x.0 x.1 (subst (λ (z : Record). in_record r z ≡ true) (sym x.2) t.2))

  touching-rises : Pairs (λ i j. i < j) (touching dirs g l r)
  unfolding touching
  touching-rises = keep-pairs (λ j. touches (assess_at dirs g l j) r) (up_strict 0 (length l))

  -- the ranks that touch the region, in order
  pub touchers-are : touchers f r n ≡ touching dirs g l r
  touchers-are = pairs-ext (λ x y p q. omega arith) (touchers f r n) (touching dirs g l r) (touchers-rise f r n rise n (omega arith)) touching-rises
      (λ i. (to i, from i))

  -- what is held says so
  pub touching-held : touching_after f r n ≡ held_of (touching dirs g l r)
  touching-held = told f r n ∙ ap held_of touchers-are
