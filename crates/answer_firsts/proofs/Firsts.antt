-- The numbers of a kept boundary stand each once for its own sources.
use mathlib.Core.Path.{◌≡◌, refl, sym, ◌∙◌, ap, subst}
use mathlib.Core.Logic.{by_cases, ⊎_elim}
use mathlib.Core.List.Memᴰ
use mathlib.Core.List.{List, [], ◌++◌, Memᴰ}
use Prim.Native.Nat.{ℕ, zero, suc, ◌+◌, ◌-◌, ◌*◌, ◌≤◌, ◌<◌}
use native.Mathlib.Omega.{arith}
use native.Mathlib.Decide.{dec_lt}
use lib.ListN.{length, get_or, replicate, length-replicate}
use Rattle.lists.specs.Rows.{rows}
use Rattle.lists.proofs.Rows.{zero-at}
use Rattle.order.specs.Keys.{sort_by, sort_once_by}
use Rattle.order.specs.Pairs.{Distinct, none, more}
use Rattle.order.proofs.Once.{sort-distinct}
use Rattle.wire.specs.Bytes.{AreBytes}
use Rattle.format.specs.Sizes.{source_size}
use Rattle.format.specs.Records.{source_at}
use Rattle.format.specs.Decode.{source_records}
use Rattle.format.specs.declared.records.Source.{Source}
use Rattle.serial_merging.specs.Keys.{source_key}
use Rattle.serial_merging.proofs.Copies.{source-order}
use Rattle.answer_sorting.specs.Keys.{key_in}
use Rattle.answer_sorting.specs.Parts.{placed_sources}
use Rattle.answer_sorting.proofs.Parts.{source_of, source-of-inj, source_is}
use Rattle.answer_firsts.specs.Links.{source_no, Linked, Covers}
use Rattle.answer_firsts.specs.Firsts.{FirstSources}

module _ {A : Type 0} where
  -- a row is a member, and a member is a row
  row-mem : (n : ℕ) (f : ℕ → A) (k : ℕ) → k < n → Memᴰ (f k) (rows n f)
  unfolding rows
  row-mem zero f k h = absurd (omega arith)
  row-mem (suc n) f zero h = Memᴰ.head refl
  row-mem (suc n) f (suc k) h = Memᴰ.tail (row-mem n (λ i. f (suc i)) k (omega arith))

  mem-row : (n : ℕ) (f : ℕ → A) (y : A) → Memᴰ y (rows n f) → (k : ℕ) × (k < n) × (y ≡ f k)
  unfolding rows
  mem-row zero f y m = absurd (Memᴰ.not-nil m)
  mem-row (suc n) f y (Memᴰ.head e) = (0, omega arith, e)
  mem-row (suc n) f y (Memᴰ.tail m) = let r = mem-row n (λ i. f (suc i)) y m in (suc r.0, omega (arith, r.1), r.2)

  -- rows that differ number by number have each member once
  rows-distinct : (n : ℕ) (f : ℕ → A) → ((i j : ℕ) → i < j → j < n → f i ≡ f j → ⊥) → Distinct (rows n f)
  unfolding rows
  rows-distinct zero f h = none
  rows-distinct (suc n) f h =
      more (λ y m e. let r = mem-row n (λ k. f (suc k)) y m in h 0 (suc r.0) (omega arith) (omega (arith, r.1)) (e ∙ r.2))
      (rows-distinct n (λ k. f (suc k)) (λ i j k l. h (suc i) (suc j) (omega arith) (omega arith)))

-- no number yet: from zeros, and after the numbers of the boundary before
pub linked-zero : (most : ℕ) {job : List ℕ} {base : ℕ} → most ≤ 4096 → Linked (4 * most) job base 0 0 (replicate (6 * most) 0) (replicate most 0)
linked-zero most h = record {
  small = omega arith;
  few = omega arith;
  cells-long = omega (arith, length-replicate {A = ℕ} (6 * most) 0);
  places-long = omega (arith, length-replicate {A = ℕ} most 0);
  cells = λ c l. omega (arith, zero-at (6 * most) c);
  onward = λ c l o. let z = zero-at (6 * most) c in absurd (omega arith);
  inside = λ k l m. absurd (omega arith);
  reach = λ k l m. absurd (omega arith);
  differ = λ i j l m n e. omega arith;
}

module _ {heads : ℕ} {job : List ℕ} {base : ℕ} where
  pub linked-new : {first count : ℕ} {links places : List ℕ} → Linked heads job base first count links places
      → Linked heads job base count count links places
  linked-new g = record {
    small = g.small;
    few = g.few;
    cells-long = g.cells-long;
    places-long = g.places-long;
    cells = g.cells;
    onward = λ c l o. let z = g.cells c l in absurd (omega arith);
    inside = λ k l m. absurd (omega arith);
    reach = λ k l m. absurd (omega arith);
    differ = λ i j l m n e. omega arith;
  }

  pub firsts-none : {count : ℕ} {links places : List ℕ} → Linked heads job base count count links places
      → FirstSources heads job base count count links places []
  unfolding rows
  firsts-none {count} {links} {places} g =
      let none : count - count ≡ 0 = omega arith in
      record { linked = g; low = omega arith; members = rw none (λ y. (λ m. m, λ m. m)) }

module _ (job : List ℕ) (base : ℕ) (bytes : AreBytes job) where
  -- the source at a place is that of its number
  source-there : (p : ℕ) → base + 8 * p + 8 ≤ length job → source_at job (base + p * source_size) ≡ source_of (key_in job base p)
  source-there p h = ap (source_at job) (let e : base + p * 8 ≡ base + 8 * p = omega arith in e) ∙ source_is job bytes (base + 8 * p) h

  -- places whose sources have one number have one source
  source-same : (p q : ℕ) → base + 8 * p + 8 ≤ length job → base + 8 * q + 8 ≤ length job → key_in job base p ≡ key_in job base q
      → source_at job (base + p * source_size) ≡ source_at job (base + q * source_size)
  source-same p q h k e = source-there p h ∙ (ap source_of e ∙ sym (source-there q k))

module _ {heads : ℕ} {job : List ℕ} {base : ℕ} (bytes : AreBytes job) where
  module _ {first count : ℕ} {links places : List ℕ} {xs : List Source} (g : FirstSources heads job base first count links places xs) where
    pub firsts-sorted : sort_by source_key (placed_sources job base places first (count - first)) ≡ sort_once_by source_key xs
    firsts-sorted = sort-distinct source-order xs (placed_sources job base places first (count - first)) once g.members
      where
        inside : (k : ℕ) → k < count - first → base + 8 * get_or places (first + k) 0 + 8 ≤ length job
        inside k h = g.linked.inside (first + k) (omega arith) (omega arith)

        once : Distinct (placed_sources job base places first (count - first))
        once = rows-distinct (count - first) (λ k. source_at job (base + get_or places (first + k) 0 * source_size)) (λ i j h k e.
            g.linked.differ (first + i) (first + j) (omega arith) (omega arith) (omega arith)
            (source-of-inj (source_no job base places (first + i)) (source_no job base places (first + j))
            (sym (source-there job base bytes (get_or places (first + i) 0) (inside i (omega arith)))
            ∙ (e ∙ source-there job base bytes (get_or places (first + j) 0) (inside j k)))))

    module _ {from n more : ℕ} {links' places' : List ℕ} (room : base + 8 * (from + n) ≤ length job)
        (c : Covers heads job base first count from n places links' places' more) where
      abbrev old_row : ℕ → Source
      old_row k = source_at job (base + get_or places (first + k) 0 * source_size)

      abbrev new_row : ℕ → Source
      new_row k = source_at job (base + get_or places' (first + k) 0 * source_size)

      abbrev part-row : ℕ → Source
      part-row k = source_at job (base + from * source_size + k * source_size)

      stays : (k : ℕ) → first + k < count → new_row k ≡ old_row k
      stays k h = ap (λ (p : ℕ). source_at job (base + p * source_size)) (c.old (first + k) h)

      part-is : (j p : ℕ) → p ≡ from + j → part-row j ≡ source_at job (base + p * source_size)
      part-is j p e = ap (source_at job) (let z : base + from * 8 + j * 8 ≡ base + p * 8 = omega arith in z)

      known : (y : Source) → Memᴰ y (rows (more - first) new_row) → Memᴰ y (xs ++ rows n part-row)
      known y m =
          let r = mem-row (more - first) new_row y m in
          let k = r.0 in
          let h = r.1 in
          let low = g.low in
          by_cases (dec_lt (first + k) count)
          (λ l. Memᴰ.append_left (rows n part-row) ((g.members y).0
          (subst (λ (z : Source). Memᴰ z (rows (count - first) old_row)) (sym (r.2 ∙ stays k l)) (row-mem (count - first) old_row k (omega arith)))))
          (λ l. let p = get_or places' (first + k) 0 in
          let new = c.new (first + k) (omega arith) (omega arith) in
          let e = part-is (p - from) p (omega arith) in
          Memᴰ.append_right xs (subst (λ (z : Source). Memᴰ z (rows n part-row)) (e ∙ sym r.2) (row-mem n part-row (p - from) (omega arith))))

      old-known : (y : Source) → Memᴰ y xs → Memᴰ y (rows (more - first) new_row)
      old-known y m =
          let r = mem-row (count - first) old_row y ((g.members y).1 m) in
          let h = r.1 in
          let least = c.least in
          subst (λ (z : Source). Memᴰ z (rows (more - first) new_row)) (stays r.0 (omega arith) ∙ sym r.2)
          (row-mem (more - first) new_row r.0 (omega arith))

      part-known : (y : Source) → Memᴰ y (rows n part-row) → Memᴰ y (rows (more - first) new_row)
      part-known y m =
          let r = mem-row n part-row y m in
          let j = r.0 in
          let h = r.1 in
          let a = c.there j (omega arith) in
          let k = a.number in
          let low = a.low in
          let high = a.high in
          let at : first + (k - first) ≡ k = omega arith in
          let p = get_or places' k 0 in
          let inside = c.linked.inside k low high in
          let same : new_row (k - first) ≡ source_at job (base + p * source_size)
          = ap (λ (i : ℕ). source_at job (base + get_or places' i 0 * source_size)) at in
          let e : new_row (k - first) ≡ part-row j
          = same ∙ (source-same job base bytes p (from + j) inside (omega arith) a.is ∙ sym (part-is j (from + j) refl)) in
          subst (λ (z : Source). Memᴰ z (rows (more - first) new_row)) (e ∙ sym r.2) (row-mem (more - first) new_row (k - first) (omega arith))

      pub firsts-next : FirstSources heads job base first more links' places' (xs ++ source_records job (base + from * source_size) n)
      unfolding source_records
      firsts-next = record {
        linked = c.linked;
        low = omega (arith, g.low, c.least);
        members = λ y. (known y, λ m. ⊎_elim (old-known y) (part-known y) (Memᴰ.append_cases xs m));
      }
