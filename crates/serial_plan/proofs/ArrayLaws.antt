-- Arrays filled from the first number on, and the parts of the chosen links.
use mathlib.Core.Path.{◌≡◌, refl, sym, ◌∙◌, ap, subst}
use mathlib.Core.Logic.{by_cases}
use mathlib.Core.Bool.{Bool, true, false, cond, ◌&&◌, ◌||◌}
use mathlib.Core.List.{List, ◌∷◌, map}
use Prim.Native.Nat.{ℕ, suc, ◌+◌, ◌-◌, ◌≤◌, ◌<◌, min, max}
use native.Mathlib.Omega.{arith}
use native.Mathlib.Decide.{ℕ_discrete}
use borrow.Author.Tests.{eq-eqb, ne_eqb}
use lib.Dec.{eqb}
use mir.Val.{bool_byte}
use lib.ListN.{length, get_or, set, length-set, replicate, length-replicate, get_or-replicate}
use lib.Seq.{get_or-set_same, get_or-set_other}
use Rattle.lists.specs.Rows.{at}
use Rattle.order.specs.Lists.{keep, up_from}
use Rattle.graph.specs.Parts.{join, component_of}
use Rattle.order.specs.Tests.{any}
use Rattle.serial_plan.specs.Arrays.{is_on, edge_row, chosen_from, part_from, joins_at, joined_from, FirstAre}
use Rattle.order.proofs.SortedFirst.{up-down}

-- a test as a mark
pub test-mark : {a b : Bool} {v : ℕ} → v ≡ bool_byte a → a ≡ b → v ≡ cond b 1 0
test-mark {a} {b} {v} e h = e ∙ (as_mark a ∙ ap (λ (t : Bool). cond t 1 0) h)
  where
    as_mark : (t : Bool) → bool_byte t ≡ cond t 1 0
    as_mark true = refl
    as_mark false = refl

pub pick_yes : (c high low : ℕ) → c ≡ high → low ≡ cond (eqb c high) low c
pick_yes c high low e = let h = eq-eqb c high e in rw h

pub pick_no : (c high low : ℕ) → (c ≡ high → ⊥) → c ≡ cond (eqb c high) low c
pick_no c high low n = let h = ne_eqb c high n in rw h

pub filled_next : {f : ℕ → ℕ} {i : ℕ} {xs : List ℕ} (v : ℕ) → FirstAre f i xs → i < 256 → v ≡ f i → FirstAre f (i + 1) (set xs i v)
filled_next {f} {i} {xs} v p l e = record {
  size = length-set xs i v ∙ p.size;
  each = λ j h. by_cases (ℕ_discrete j i)
      (λ q. ap (λ (m : ℕ). get_or (set xs i v) m 0) q ∙ (get_or-set_same xs i v 0 (omega (arith, p.size)) ∙ (e ∙ ap f (sym q))))
      (λ q. get_or-set_other xs i j v 0 q ∙ p.each j (omega arith));
}

pub filled-as : {f g : ℕ → ℕ} {n : ℕ} {xs : List ℕ} → FirstAre f n xs → ((i : ℕ) → i < n → f i ≡ g i) → FirstAre g n xs
filled-as p e = record { size = p.size; each = λ i l. p.each i l ∙ e i l }

pub filled-all : {f : ℕ → ℕ} {k : ℕ} {xs : List ℕ} → FirstAre f k xs → 256 ≤ k → FirstAre f 256 xs
filled-all p n = record { size = p.size; each = λ i l. p.each i (omega arith) }

-- an array whose first i numbers are changed
pub record Mapped (g : ℕ → ℕ) (i : ℕ) (xs ys : List ℕ) : Type 0 where
  pub done : FirstAre (λ j. g (at xs j)) i ys
  pub left : (j : ℕ) → i ≤ j → at ys j ≡ at xs j

pub mapped_next : {g : ℕ → ℕ} {i : ℕ} {xs ys : List ℕ} (v : ℕ) → Mapped g i xs ys → i < 256 → v ≡ g (at ys i) → Mapped g (i + 1) xs (set ys i v)
mapped_next {g} {i} {xs} {ys} v p l e = record {
  done = filled_next v p.done l (e ∙ ap g (p.left i (omega arith)));
  left = λ j h. get_or-set_other ys i j v 0 (λ q. omega arith) ∙ p.left j (omega arith);
}

pub mapped-all : {g : ℕ → ℕ} {k : ℕ} {xs ys : List ℕ} → Mapped g k xs ys → 256 ≤ k → FirstAre (λ j. g (at xs j)) 256 ys
mapped-all p n = filled-all p.done n

pub join-as : (a b low high : ℕ) (xs : List ℕ) {ys : List ℕ} → low ≡ min a b → high ≡ max a b → FirstAre (λ i. cond (eqb (at xs i) high) low (at xs i)) 256 ys
    → FirstAre (λ i. join a b (at xs i)) 256 ys
unfolding join
join-as a b low high xs e h p =
    filled-as p (λ i l. ap (λ (m : ℕ). cond (eqb (at xs i) m) low (at xs i)) h ∙ ap (λ (m : ℕ). cond (eqb (at xs i) (max a b)) m (at xs i)) e)

abbrev linked : Bool → ℕ → ℕ → List ℕ → ℕ → ℕ
linked on first second xs i = cond on (join (at xs first) (at xs second) (at xs i)) (at xs i)

pub link-yes : (on first second u v : ℕ) (xs : List ℕ) {ys : List ℕ} → on ≡ 1 → u ≡ first → v ≡ second
    → FirstAre (λ i. join (at xs u) (at xs v) (at xs i)) 256 ys
    → FirstAre (λ i. cond (eqb on 1) (join (at xs first) (at xs second) (at xs i)) (at xs i)) 256 ys
link-yes on first second u v xs e a b p =
    let h = eq-eqb on 1 e in
    rw h (filled-as p (λ i l. ap (λ (m : ℕ). join (at xs m) (at xs v) (at xs i)) a ∙ ap (λ (m : ℕ). join (at xs first) (at xs m) (at xs i)) b))

pub link-no : (on first second : ℕ) (xs : List ℕ) → (on ≡ 1 → ⊥) → length xs ≡ 256
    → FirstAre (λ i. cond (eqb on 1) (join (at xs first) (at xs second) (at xs i)) (at xs i)) 256 xs
link-no on first second xs n e = let h = ne_eqb on 1 n in rw h (record { size = e; each = λ i l. refl })

module _ (chosen firsts seconds : List ℕ) (n : ℕ) where
  abbrev parted : ℕ → ℕ → ℕ
  parted k i = part_from chosen firsts seconds k (n - k) i

  part_step : (j : ℕ) → j < n → (i : ℕ)
      → parted j i ≡ cond (is_on chosen j) (join (parted (suc j) (at firsts j)) (parted (suc j) (at seconds j)) (parted (suc j) i)) (parted (suc j) i)
  unfolding part_from chosen_from keep component_of
  part_step j l i = ap (λ (ks : List ℕ). component_of (map (edge_row firsts seconds) (keep (is_on chosen) ks)) i) (up-down j n l) ∙ choose (is_on chosen j)
    where
      later : List ℕ
      later = keep (is_on chosen) (up_from (suc j) (n - suc j))

      before : ℕ → ℕ
      before = component_of (map (edge_row firsts seconds) later)

      choose : (b : Bool) → component_of (map (edge_row firsts seconds) (cond b (j ∷ later) later)) i ≡ cond b
          (join (before (at firsts j)) (before (at seconds j)) (before i)) (before i)
      choose true = refl
      choose false = refl

  pub parts-start : {xs : List ℕ} → FirstAre (λ i. i) 256 xs → FirstAre (parted n) 256 xs
  unfolding part_from chosen_from keep component_of up_from
  parts-start p = filled-as p (λ i l. let e : n - n ≡ 0 = omega arith in ap (λ (m : ℕ). part_from chosen firsts seconds n m i) (sym e))

  turn : (j : ℕ) {xs ys : List ℕ} → j < n → at firsts j < 256 → at seconds j < 256 → FirstAre (parted (suc j)) 256 xs
      → FirstAre (linked (is_on chosen j) (at firsts j) (at seconds j) xs) 256 ys → FirstAre (parted j) 256 ys
  turn j {xs} {ys} l a b p q = filled-as q (λ i h.
      let x : at xs i ≡ parted (suc j) i = p.each i h in
      let y : at xs (at firsts j) ≡ parted (suc j) (at firsts j) = p.each (at firsts j) a in
      let z : at xs (at seconds j) ≡ parted (suc j) (at seconds j) = p.each (at seconds j) b in
      rw (x, y, z) (sym (part_step j l i)))

  pub parts_next : {k : ℕ} {xs ys : List ℕ} → 0 < k → k ≤ n → at firsts (k - 1) < 256 → at seconds (k - 1) < 256 → FirstAre (parted k) 256 xs →
      FirstAre (linked (is_on chosen (k - 1)) (at firsts (k - 1)) (at seconds (k - 1)) xs) 256 ys → FirstAre (parted (k - 1)) 256 ys
  parts_next {k} {xs} l h a b p q =
      let z : k ≡ suc (k - 1) = omega arith in
      turn (k - 1) (omega arith) a b (subst (λ (m : ℕ). FirstAre (parted m) 256 xs) z p) q

  pub parts-end : {k : ℕ} {xs : List ℕ} → FirstAre (parted k) 256 xs → k ≡ 0 → FirstAre (part_from chosen firsts seconds 0 n) 256 xs
  parts-end {k} {xs} p e =
      let z : n - 0 ≡ n = omega arith in
      subst (λ (m : ℕ). FirstAre (part_from chosen firsts seconds 0 m) 256 xs) z (subst (λ (m : ℕ). FirstAre (parted m) 256 xs) e p)

  abbrev marked : ℕ → ℕ → ℕ
  marked k i = cond (joined_from chosen firsts seconds k (n - k) i) 1 0

  joined_step : (j : ℕ) → j < n → (i : ℕ)
      → joined_from chosen firsts seconds j (n - j) i ≡ (is_on chosen j && joins_at firsts seconds i j)
      || joined_from chosen firsts seconds (suc j) (n - suc j) i
  unfolding joined_from chosen_from keep any
  joined_step j l i = ap (λ (ks : List ℕ). any (joins_at firsts seconds i) (keep (is_on chosen) ks)) (up-down j n l) ∙ choose (is_on chosen j)
    where
      later : List ℕ
      later = keep (is_on chosen) (up_from (suc j) (n - suc j))

      choose : (b : Bool) → any (joins_at firsts seconds i) (cond b (j ∷ later) later) ≡ (b && joins_at firsts seconds i j) || any (joins_at firsts seconds i)
          later
      choose true = refl
      choose false = refl

  pub marks-start : FirstAre (marked n) 256 (replicate 256 0)
  unfolding joined_from chosen_from keep any up_from
  marks-start = record {
    size = length-replicate {A = ℕ} 256 0;
    each = λ i l.
        get_or-replicate {A = ℕ} 256 i 0 0 l
        ∙ (let e : n - n ≡ 0 = omega arith in ap (λ (m : ℕ). cond (joined_from chosen firsts seconds n m i) 1 0) (sym e));
  }

  either : (a b : Bool) → ◌≡◌ {A = ℕ} (cond a 1 (cond b 1 0)) (cond (a || b) 1 0)
  either true b = refl
  either false b = refl

  mark-turn : (j : ℕ) {xs ys : List ℕ} → j < n → FirstAre (marked (suc j)) 256 xs
      → FirstAre (λ i. cond (is_on chosen j && joins_at firsts seconds i j) 1 (at xs i)) 256 ys → FirstAre (marked j) 256 ys
  mark-turn j {xs} l p q = filled-as q (λ i h.
      ap (λ (m : ℕ). cond (is_on chosen j && joins_at firsts seconds i j) 1 m) (p.each i h)
      ∙ (either (is_on chosen j && joins_at firsts seconds i j) (joined_from chosen firsts seconds (suc j) (n - suc j) i)
      ∙ ap (λ (b : Bool). cond b 1 0) (sym (joined_step j l i))))

  pub marks-next : {k : ℕ} {xs ys : List ℕ} → 0 < k → k ≤ n → FirstAre (marked k) 256 xs
      → FirstAre (λ i. cond (is_on chosen (k - 1) && joins_at firsts seconds i (k - 1)) 1 (at xs i)) 256 ys → FirstAre (marked (k - 1)) 256 ys
  marks-next {k} {xs} l h p q =
      let z : k ≡ suc (k - 1) = omega arith in
      mark-turn (k - 1) (omega arith) (subst (λ (m : ℕ). FirstAre (marked m) 256 xs) z p) q

  pub marks-end : {k : ℕ} {xs : List ℕ} → FirstAre (marked k) 256 xs → k ≡ 0 → FirstAre (λ i. cond (joined_from chosen firsts seconds 0 n i) 1 0) 256 xs
  marks-end {k} {xs} p e =
      let z : n - 0 ≡ n = omega arith in
      subst (λ (m : ℕ). FirstAre (λ i. cond (joined_from chosen firsts seconds 0 m i) 1 0) 256 xs) z (subst (λ (m : ℕ). FirstAre (marked m) 256 xs) e p)

-- the two ranks of a chosen link
pub mark-yes : (on first second : ℕ) {a b : ℕ} (xs : List ℕ) → on ≡ 1 → a ≡ first → b ≡ second → length xs ≡ 256 → first < 256 → second < 256
    → FirstAre (λ i. cond (eqb on 1 && (eqb i first || eqb i second)) 1 (at xs i)) 256 (set (set xs a 1) b 1)
mark-yes on first second {a} {b} xs e p q n l h =
    let o = eq-eqb on 1 e in
    rw (o, p, q) (record {
      size = length-set (set xs first 1) second 1 ∙ (length-set xs first 1 ∙ n);
      each = λ i m.
          by_cases (ℕ_discrete i second)
          (λ s.
          let t = eq-eqb i second s in
          ap (λ (z : ℕ). get_or (set (set xs first 1) second 1) z 0) s
          ∙ (get_or-set_same (set xs first 1) second 1 0 (omega (arith, length-set xs first 1, n)) ∙ (rw (t, or-true (eqb i first)) refl)))
          (λ s.
          let t = ne_eqb i second s in
          get_or-set_other (set xs first 1) second i 1 0 s
          ∙ by_cases (ℕ_discrete i first)
          (λ r. let u = eq-eqb i first r in ap (λ (z : ℕ). get_or (set xs first 1) z 0) r ∙ (get_or-set_same xs first 1 0 (omega (arith, n)) ∙ (rw u refl)))
          (λ r. let u = ne_eqb i first r in get_or-set_other xs first i 1 0 r ∙ (rw (u, t) refl)));
    })
  where
    or-true : (x : Bool) → (x || true) ≡ true
    or-true true = refl
    or-true false = refl

pub mark-no : (on first second : ℕ) (xs : List ℕ) → (on ≡ 1 → ⊥) → length xs ≡ 256
    → FirstAre (λ i. cond (eqb on 1 && (eqb i first || eqb i second)) 1 (at xs i)) 256 xs
mark-no on first second xs n e = let h = ne_eqb on 1 n in rw h (record { size = e; each = λ i l. refl })
