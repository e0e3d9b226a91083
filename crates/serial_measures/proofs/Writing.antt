-- The table of the links' numbers: written link by link, read, and cleared.
use mathlib.Core.Path.{◌≡◌, sym, ◌∙◌, ap, subst}
use mathlib.Core.Logic.{by_cases}
use mathlib.Core.List.{List}
use Prim.Native.Nat.{ℕ, ◌+◌, ◌*◌, ◌-◌, ◌≤◌, ◌<◌}
use native.Mathlib.Omega.{arith}
use native.Mathlib.Decide.{ℕ_discrete}
use borrow.Author.Tests.{eq-eqb, ne_eqb}
use lib.ListN.{length}
use Rattle.areas.specs.Words.{word, labels_in}
use Rattle.areas.proofs.Words.{labels-same}
use Rattle.lists.specs.Rows.{at}
use Rattle.wire.specs.Bytes.{u32_bytes, splice}
use Rattle.wire.proofs.Words.{four_bytes}
use Rattle.serial_walk.specs.Slices.{put}
use Rattle.serial_walk.proofs.Puts.{put-at, put-off}
use Rattle.label_table.proofs.Table.{table-set, table-blank, word-cleared, all-cleared}
use Rattle.serial_measures.specs.Tables.{LinkRegions, Labels, Written, Later, Cleared, table_number, RegionNumbers}

pub write-start : {start : List ℕ} {n : ℕ} (regions : List ℕ) → Labels start n → Written start start n regions 0
write-start regions L =
    record { words = λ x. 0; table = table-blank L.clear; own = λ j l. absurd (omega arith); named = λ x p. absurd (omega arith) }

-- the place of a link's word
abbrev spot : List ℕ → ℕ → ℕ
spot regions k = at regions k - 1

below : {regions : List ℕ} {links k n : ℕ} → LinkRegions regions links n → k < links → spot regions k < n
below {regions} {links} {k} R inside = omega (arith, R.from k inside, R.to k inside)

-- the word of link k is there; j is k as an index
pub word-there : {regions : List ℕ} {links n k j : ℕ} → LinkRegions regions links n → k < links → j ≡ k → (work : List ℕ) → 8 * n ≤ length work
    → (0 < at regions j) × (4 * n + 4 * at regions j ≤ length work)
word-there {regions} {k = k} R inside e work room =
    let t = ap (at regions) e in
    (omega (arith, t, R.from k inside), omega (arith, t, R.to k inside))

module _ {start work : List ℕ} {n : ℕ} {regions : List ℕ} {links k j : ℕ} (R : LinkRegions regions links n) (room : 8 * n ≤ length start) (inside : k < links)
    (index : j ≡ k) where
  pub write-next : Written start work n regions k → {next : List ℕ} → next ≡ splice work (4 * n + 4 * (at regions j - 1)) (u32_bytes (k + 1))
      → Written start next n regions (k + 1)
  write-next W {next} q =
      let e : next ≡ splice work (4 * n + 4 * (at regions k - 1)) (u32_bytes (k + 1)) =
      q ∙ ap (λ (z : ℕ). splice work (4 * n + 4 * (at regions z - 1)) (u32_bytes (k + 1))) index in
      subst (λ (z : List ℕ). Written start z n regions (k + 1)) (sym e) (record {
        words = put W.words (spot regions k) (k + 1);
        table = table-set W.table (omega arith) (spot regions k) (k + 1) (below R inside) (omega (arith, R.few));
        own = own;
        named = named;
      })
    where
      own : (j : ℕ) → j < k + 1 → put W.words (spot regions k) (k + 1) (at regions j - 1) ≡ j + 1
      own j l =
          by_cases (ℕ_discrete j k)
          (λ q. ap (λ (z : ℕ). put W.words (spot regions k) (k + 1) (at regions z - 1)) q
          ∙ (put-at W.words (spot regions k) (k + 1) ∙ ap (λ (z : ℕ). z + 1) (sym q)))
          (λ q.
          put-off W.words (spot regions k) (k + 1) (at regions j - 1)
          (λ s. q (R.apart j k (omega arith) inside (omega (arith, s, R.from j (omega arith), R.from k inside))))
          ∙ W.own j (omega arith))

      named : (y : ℕ) → 0 < put W.words (spot regions k) (k + 1) y → (put W.words (spot regions k) (k + 1) y ≤ k + 1)
          × (at regions (put W.words (spot regions k) (k + 1) y - 1) ≡ y + 1)
      named y p =
          by_cases (ℕ_discrete y (spot regions k))
          (λ q.
          let v : put W.words (spot regions k) (k + 1) y ≡ k + 1 = ap (put W.words (spot regions k) (k + 1)) q
          ∙ put-at W.words (spot regions k) (k + 1) in
          let s : put W.words (spot regions k) (k + 1) y - 1 ≡ k = omega (arith, v) in
          let t : at regions k ≡ y + 1 = omega (arith, q, R.from k inside) in
          (omega (arith, v), ap (λ (z : ℕ). at regions z) s ∙ t))
          (λ q.
          let v : put W.words (spot regions k) (k + 1) y ≡ W.words y = put-off W.words (spot regions k) (k + 1) y q in
          let o = W.named y (omega (arith, v, p)) in
          (omega (arith, v, o.0), ap (λ (z : ℕ). at regions (z - 1)) v ∙ o.1))

  pub clear_next : Cleared start work n regions links k → {next : List ℕ} → next ≡ splice work (4 * n + 4 * (at regions j - 1)) (u32_bytes 0)
      → Cleared start next n regions links (k + 1)
  clear_next C q =
      word-cleared C (omega (arith, C.table.as_long)) (below R inside) later
      (q ∙ ap (λ (z : ℕ). splice work (4 * n + 4 * (at regions z - 1)) (u32_bytes 0)) index)
    where
      later : (y : ℕ) → (y ≡ spot regions k → ⊥) → Later regions links k y → Later regions links (k + 1) y
      later y d o = record {
        link = o.link;
        from = by_cases (ℕ_discrete o.link k) (λ s. let t : at regions k ≡ y + 1 = sym (ap (at regions) s) ∙ o.is in absurd (d (omega (arith, t))))
            (λ s. omega (arith, o.from, s));
        inside = o.inside;
        is = o.is;
      }

pub clear-start : {start work : List ℕ} {n : ℕ} {regions : List ℕ} {links : ℕ} → Written start work n regions links → Cleared start work n regions links 0
clear-start W = record {
  words = W.words;
  table = W.table;
  left_over = λ x p. record { link = W.words x - 1; from = omega arith; inside = omega (arith, p, (W.named x p).0); is = (W.named x p).1 };
}

pub clear-end : {start work : List ℕ} {n : ℕ} {regions : List ℕ} {links : ℕ} → Labels start n → Cleared start work n regions links links → work ≡ start
clear-end L C = all-cleared C (omega (arith, L.room)) L.clear (λ x o. omega (arith, o.from, o.inside))

module _ {start work : List ℕ} {n : ℕ} {regions : List ℕ} {links : ℕ} (L : Labels start n) (W : Written start work n regions links) where
  same-label : (i : ℕ) → i < n → word work i ≡ word start i
  same-label i l =
      let a = four_bytes work (4 * i) (omega (arith, L.room, W.table.as_long)) in
      let b = four_bytes start (4 * i) (omega (arith, L.room)) in
      let t0 = W.table.before (4 * i) (omega arith) in
      let t1 = W.table.before (4 * i + 1) (omega arith) in
      let t2 = W.table.before (4 * i + 2) (omega arith) in
      let t3 = W.table.before (4 * i + 3) (omega arith) in
      omega (arith, a, b, t0, t1, t2, t3)

  -- the labels are as they were
  pub written-labels : labels_in work n ≡ labels_in start n
  written-labels = labels-same work n start same-label

  word-is : (r : ℕ) → 0 < r → r ≤ n → table_number work n r ≡ W.words (r - 1)
  word-is r p l = let h = ne_eqb r 0 (λ e. omega arith) in rw h (W.table.word (r - 1) (omega arith))

  zero_is : (r : ℕ) → r ≡ 0 → table_number work n r ≡ 0
  zero_is r e = let h = eq-eqb r 0 e in rw h

  pub written-numbered : LinkRegions regions links n → RegionNumbers work n regions links
  written-numbered R = record {
    few = R.few;
    room = omega (arith, L.room, W.table.as_long);
    most = λ i l. omega (arith, same-label i l, L.most i l);
    within = λ r l.
        by_cases (ℕ_discrete r 0) (λ e. omega (arith, zero_is r e)) λ e.
        by_cases (ℕ_discrete (W.words (r - 1)) 0) (λ z. omega (arith, word-is r (omega arith) l, z))
        (λ z. omega (arith, word-is r (omega arith) l, (W.named (r - 1) (omega (arith, z))).0));
    named = λ r l p.
        by_cases (ℕ_discrete r 0) (λ e. absurd (omega (arith, zero_is r e, p))) λ e.
        let q = word-is r (omega arith) l in
        let o = W.named (r - 1) (omega (arith, q, p)) in
        let s : r - 1 + 1 ≡ r = omega (arith, e) in
        ap (λ (z : ℕ). at regions (z - 1)) q ∙ (o.1 ∙ s);
    own = λ k l. word-is (at regions k) (R.from k l) (R.to k l) ∙ W.own k l;
  }
