-- A source added at the end of its walk leaves every other walk as it was.
use mathlib.Core.Path.{◌≡◌, refl, sym, ◌∙◌, ap, subst}
use mathlib.Core.Logic.{by_cases}
use mathlib.Core.List.{List}
use Prim.Native.Nat.{ℕ, zero, suc, ◌+◌, ◌-◌, ◌*◌, ◌%◌, ◌≤◌, ◌<◌}
use native.Mathlib.Omega.{arith}
use native.Mathlib.Decide.{dec_lt, ℕ_discrete}
use lib.ListN.{length, get_or, set, length-set}
use lib.Seq.{get_or-set_same, get_or-set_other}
use Rattle.answer_sorting.specs.Keys.{key_in}
use Rattle.answer_firsts.specs.Links.{halves, link_cell, link_at, source_no, Reached, Linked, Numbered, Missing, PlaceAdded, Covers}
use Rattle.answer_firsts.proofs.Walks.{cell-within}

-- one that is there already
pub grown-same : {heads : ℕ} {job : List ℕ} {base first count p x : ℕ} {links places : List ℕ} → Linked heads job base first count links places
    → x ≡ key_in job base p → Numbered job base first count places x → PlaceAdded heads job base first count p places links places count
grown-same {job = job} {base} {first} {count} {places = places} g e a = record {
  linked = g;
  least = omega arith;
  most = omega arith;
  old = λ k h. refl;
  new = λ k h l. absurd (omega arith);
  there = subst (Numbered job base first count places) e a;
}

-- the cells after a new number: that of its walk has it, its own two are empty, and the others are as they were
pub record Linking (heads count cell : ℕ) (links after : List ℕ) : Type 0 where
  pub long : length after ≡ length links
  pub here : get_or after cell 0 ≡ count + 1
  pub left : get_or after (heads + 2 * count) 0 ≡ 0
  pub right : get_or after (heads + 2 * count + 1) 0 ≡ 0
  pub other : (j : ℕ) → j < heads + 2 * count → (j ≡ cell → ⊥) → get_or after j 0 ≡ get_or links j 0

pub linking : (heads : ℕ) (links : List ℕ) (count cell v : ℕ) → heads + 2 * count + 1 < length links → cell < heads + 2 * count → v ≡ count + 1
    → Linking heads count cell links (set (set (set links cell v) (heads + 2 * count) 0) (heads + 2 * count + 1) 0)
linking heads links count cell v room within e =
    let a = set links cell v in
    let b = set a (heads + 2 * count) 0 in
    let la : length a ≡ length links = length-set links cell v in
    let lb : length b ≡ length a = length-set a (heads + 2 * count) 0 in
    let behind : (j : ℕ) → j < heads + 2 * count → get_or (set b (heads + 2 * count + 1) 0) j 0 ≡ get_or a j 0
    = λ j h. get_or-set_other b (heads + 2 * count + 1) j 0 0 (λ z. omega arith) ∙ get_or-set_other a (heads + 2 * count) j 0 0 (λ z. omega arith) in
    record {
      long = length-set b (heads + 2 * count + 1) 0 ∙ (lb ∙ la);
      here = behind cell within ∙ (get_or-set_same links cell v 0 (omega arith) ∙ e);
      left = get_or-set_other b (heads + 2 * count + 1) (heads + 2 * count) 0 0 (λ z. omega arith) ∙ get_or-set_same a (heads + 2 * count) 0 0 (omega arith);
      right = get_or-set_same b (heads + 2 * count + 1) 0 0 (omega arith);
      other = λ j h n. behind j h ∙ get_or-set_other links cell j v 0 n;
    }

module _ {heads : ℕ} {job : List ℕ} {base first count x cell : ℕ} {links places new : List ℕ} (g : Linked heads job base first count links places)
    (low : first ≤ count) (room : 4 * count + 4 ≤ heads)
    (m : Missing heads job base first count links places x cell) (within : cell < heads + 2 * count) (l : Linking heads count cell links new) where
  -- cells in use are not the one that was empty
  used : (j : ℕ) → j < heads + 2 * count → first < get_or links j 0 → get_or new j 0 ≡ get_or links j 0
  used j h o = l.other j h (λ z. let e = ap (λ (c : ℕ). get_or links c 0) z in let f = m.empty in omega arith)

  same-walk : (z d : ℕ) → ((e : ℕ) → e < d → first < link_at heads links z e) → link_cell heads new z d ≡ link_cell heads links z d
  unfolding link_cell
  same-walk z zero along = refl
  same-walk z (suc d) along =
      let before : (e : ℕ) → e < d → first < link_at heads links z e = λ e h. along e (omega arith) in
      ap (λ (c : ℕ). heads + 2 * (get_or new c 0 - 1) + halves z d % 2) (same-walk z d before)
      ∙ ap (λ (v : ℕ). heads + 2 * (v - 1) + halves z d % 2) (used (link_cell heads links z d) (cell-within g (omega arith) z d before) (along d (omega arith)))

  same-link : (z d : ℕ) → ((e : ℕ) → e < d → first < link_at heads links z e) → first < link_at heads links z d
      → link_at heads new z d ≡ link_at heads links z d
  same-link z d along o = ap (λ (c : ℕ). get_or new c 0) (same-walk z d along) ∙ used (link_cell heads links z d) (cell-within g (omega arith) z d along) o

  still-along : (z d : ℕ) → ((e : ℕ) → e < d → first < link_at heads links z e) → (e : ℕ) → e < d → first < link_at heads new z e
  still-along z d along e h = rw (same-link z e (λ i k. along i (omega arith)) (along e h)) (along e h)

  still-reached : (z k : ℕ) → first ≤ k → Reached heads first links z k → Reached heads first new z k
  still-reached z k h r = record {
    steps = r.steps;
    there = same-link z r.steps r.along (rw r.there (omega arith)) ∙ r.there;
    along = still-along z r.steps r.along;
  }

  new-reached : Reached heads first new x count
  new-reached = record {
    steps = m.steps;
    there = ap (λ (c : ℕ). get_or new c 0) (same-walk x m.steps m.along ∙ sym m.there) ∙ l.here;
    along = still-along x m.steps m.along;
  }

  new-cells : (c : ℕ) → c < heads + 2 * (count + 1) → get_or new c 0 ≤ count + 1
  new-cells c h =
      by_cases (ℕ_discrete c cell) (λ z. rw (z, l.here) (omega arith))
      (λ z. by_cases (dec_lt c (heads + 2 * count)) (λ i. let old = g.cells c i in rw (l.other c i z) (omega arith))
      (λ i. by_cases (ℕ_discrete c (heads + 2 * count)) (λ e. rw (e, l.left) (omega arith))
      (λ e. let f : c ≡ heads + 2 * count + 1 = omega arith in rw (f, l.right) (omega arith))))

  new-onward : (c : ℕ) → c < heads + 2 * (count + 1) → first < get_or new c 0 → c < heads + 2 * (get_or new c 0 - 1)
  new-onward c h o =
      by_cases (ℕ_discrete c cell) (λ z. let e = ap (λ (i : ℕ). get_or new i 0) z ∙ l.here in omega arith)
      (λ z. by_cases (dec_lt c (heads + 2 * count))
      (λ i. let e = l.other c i z in let old = g.onward c i (subst (λ (v : ℕ). first < v) e o) in omega arith)
      (λ i. by_cases (ℕ_discrete c (heads + 2 * count))
      (λ e. let f = ap (λ (i : ℕ). get_or new i 0) e ∙ l.left in absurd (omega arith))
      (λ e. let n : c ≡ heads + 2 * count + 1 = omega arith in let f = ap (λ (i : ℕ). get_or new i 0) n ∙ l.right in absurd (omega arith))))

  module _ (p : ℕ) (after : List ℕ) (is : x ≡ key_in job base p) (there : base + 8 * p + 8 ≤ length job)
      (long : length after ≡ length places) (old : (k : ℕ) → k < count → get_or after k 0 ≡ get_or places k 0) (last : get_or after count 0 ≡ p) where
    old-source : (k : ℕ) → k < count → source_no job base after k ≡ source_no job base places k
    old-source k h = ap (key_in job base) (old k h)

    last-source : source_no job base after count ≡ x
    last-source = ap (key_in job base) last ∙ sym is

    pub grown-new : PlaceAdded heads job base first count p places new after (count + 1)
    grown-new = record {
      linked = record {
        small = g.small;
        few = omega arith;
        cells-long = omega (arith, l.long, g.cells-long);
        places-long = omega (arith, long, g.places-long);
        cells = new-cells;
        onward = new-onward;
        inside = λ k h i. by_cases (ℕ_discrete k count) (λ z. rw (z, last) there) (λ z. rw (old k (omega arith)) (g.inside k h (omega arith)));
        reach = λ k h i. by_cases (ℕ_discrete k count)
            (λ z. subst (λ (n : ℕ). Reached heads first new (source_no job base after n) n) (sym z)
            (subst (λ (y : ℕ). Reached heads first new y count) (sym last-source) new-reached))
            (λ z. subst (λ (y : ℕ). Reached heads first new y k) (sym (old-source k (omega arith)))
            (still-reached (source_no job base places k) k h (g.reach k h (omega arith))));
        differ = λ i j h k n e. by_cases (ℕ_discrete j count)
            (λ z. m.none i h (omega arith) (sym (old-source i (omega arith)) ∙ (e ∙ (ap (source_no job base after) z ∙ last-source))))
            (λ z. g.differ i j h k (omega arith) (sym (old-source i (omega arith)) ∙ (e ∙ old-source j (omega arith))));
      };
      least = omega arith;
      most = omega arith;
      old = old;
      new = λ k h i. let z : k ≡ count = omega arith in ap (λ (n : ℕ). get_or after n 0) z ∙ last;
      there = record { number = count; low = low; high = omega arith; is = last-source ∙ is };
    }

pub covers-start : {heads : ℕ} {job : List ℕ} {base first count : ℕ} {links places : List ℕ} (from : ℕ) → Linked heads job base first count links places
    → Covers heads job base first count from 0 places links places count
covers-start from g = record {
  linked = g;
  least = omega arith;
  most = omega arith;
  old = λ k h. refl;
  new = λ k h l. absurd (omega arith);
  there = λ j h. absurd (omega arith);
}

module _ {heads : ℕ} {job : List ℕ} {base first count from i p : ℕ} {places links now cells after : List ℕ} {found more : ℕ}
    (c : Covers heads job base first count from i places links now found)
    (g : PlaceAdded heads job base first found p now cells after more) (e : p ≡ from + i) where
  -- a source that is there stays there
  still-among : (x : ℕ) → Numbered job base first found now x → Numbered job base first more after x
  still-among x a = record {
    number = a.number;
    low = a.low;
    high = omega (arith, a.high, g.least);
    is = ap (key_in job base) (g.old a.number a.high) ∙ a.is;
  }

  pub covers-next : Covers heads job base first count from (i + 1) places cells after more
  covers-next = record {
    linked = g.linked;
    least = omega (arith, c.least, g.least);
    most = omega (arith, c.most, g.most);
    old = λ k h. g.old k (omega (arith, c.least)) ∙ c.old k h;
    new = λ k h l. by_cases (dec_lt k found)
        (λ z. let b = c.new k h z in let o = g.old k z in (omega arith, omega arith))
        (λ z. let n = g.new k (omega arith) l in (omega arith, omega arith));
    there = λ j h. by_cases (ℕ_discrete j i)
        (λ z. subst (λ (q : ℕ). Numbered job base first more after (key_in job base q)) (let f : p ≡ from + j = omega arith in f) g.there)
        (λ z. still-among (key_in job base (from + j)) (c.there j (omega arith)));
  }

pub covers-end : {heads : ℕ} {job : List ℕ} {base first count from i n : ℕ} {places links after : List ℕ} {more : ℕ}
    → Covers heads job base first count from i places links after more → i ≡ n → Covers heads job base first count from n places links after more
covers-end {heads} {job} {base} {first} {count} {from} {i} {n} {places} {links} {after} {more} c e =
    subst (λ (m : ℕ). Covers heads job base first count from m places links after more) e c
