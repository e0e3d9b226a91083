-- Giving labels their numbers, and taking them away.
use mathlib.Core.Path.{◌≡◌, refl, sym, ◌∙◌, ap, subst, subst₂}
use mathlib.Core.Logic.{inl, inr, ⊎_elim, by_cases}
use mathlib.Core.List.{List}
use Prim.Native.Nat.{ℕ, ◌+◌, ◌*◌, ◌-◌, ◌≤◌, ◌<◌}
use native.Mathlib.Omega.{arith}
use native.Mathlib.Decide.{ℕ_discrete}
use lib.ListN.{length, set, length-set}
use lib.Seq.{get_or-set_same, get_or-set_other}
use Rattle.lists.specs.Rows.{at}
use Rattle.wire.specs.Bytes.{splice, u32_at, u32_bytes}
use Rattle.serial_walk.specs.Slices.{put}
use Rattle.label_table.specs.Table.{Table, OnlyOf}
use Rattle.serial_bridges.specs.Names.{Labelled, LabelStands, Named, EndNumbers, Forgotten}
use Rattle.serial_walk.proofs.Puts.{put-at, put-off}
use Rattle.label_table.proofs.Table.{table-set, table-blank, word-cleared, all-cleared}

-- one more label has a word: it had one, or gets the one of its place
pub record Next (K : ℕ) (lefts rights : List ℕ) (regions base : ℕ) (start work : List ℕ) (f : ℕ → ℕ) (x v : ℕ) : Type 0 where
  pub words : ℕ → ℕ
  pub table : Table start regions base words work
  pub named : (y : ℕ) → 0 < words y → Named K lefts rights y (words y)
  pub grown : (y : ℕ) → 0 < f y → words y ≡ f y
  pub given : words x ≡ v + 1

module _ {K : ℕ} {lefts rights : List ℕ} {regions base : ℕ} {start work : List ℕ} {f : ℕ → ℕ} (T : Table start regions base f work)
    (N : (y : ℕ) → 0 < f y → Named K lefts rights y (f y)) (fits : base + 4 * regions ≤ length start) (x : ℕ) (l : x < regions) where
  pub next-old : {work' : List ℕ} (v : ℕ) → f x ≡ v + 1 → work' ≡ work → Next K lefts rights regions base start work' f x v
  next-old v e s = record { words = f; table = subst (Table start regions base f) (sym s) T; named = N; grown = λ y h. refl; given = e }

  pub next-new : {work' : List ℕ} (v : ℕ) → f x ≡ 0 → v < 8192 → Named K lefts rights x (v + 1) → work' ≡ splice work (base + 4 * x) (u32_bytes (v + 1)) →
      Next K lefts rights regions base start work' f x v
  next-new v z b n s = record {
    words = put f x (v + 1);
    table = subst (Table start regions base (put f x (v + 1))) (sym s) (table-set T fits x (v + 1) l (omega arith));
    named = λ y h.
        by_cases (ℕ_discrete y x)
        (λ e. subst₂ (Named K lefts rights) (sym e) (sym (ap (put f x (v + 1)) e ∙ put-at f x (v + 1))) n)
        (λ e. subst (Named K lefts rights y) (sym (put-off f x (v + 1) y e)) (N y (omega (arith, put-off f x (v + 1) y e))));
    grown = λ y h. put-off f x (v + 1) y (λ e. omega (arith, ap f e));
    given = put-at f x (v + 1);
  }

-- both ends of record k have their numbers
pub numbered-one : {K : ℕ} {lefts rights : List ℕ} {regions base : ℕ} {start work small_lefts small_rights : List ℕ} {k : ℕ}
    (N : EndNumbers K lefts rights regions base start work small_lefts small_rights k) → k < K → {work₁ work₂ : List ℕ} {v w : ℕ}
    (A : Next K lefts rights regions base start work₁ N.words (at lefts k - 1) v)
    → (C : Next K lefts rights regions base start work₂ A.words (at rights k - 1) w) →
    EndNumbers K lefts rights regions base start work₂ (set small_lefts k v) (set small_rights k w) (k + 1)
numbered-one {lefts = lefts} {rights} {small_lefts = small_lefts} {small_rights} {k} N b {v = v} {w} A C = record {
  words = C.words;
  table = C.table;
  named = C.named;
  lefts-are = simp length-set N.lefts-are;
  rights-are = simp length-set N.rights-are;
  left = λ i l.
      by_cases (ℕ_discrete i k)
      (λ e.
      ap (λ (z : ℕ). C.words (at lefts z - 1)) e ∙ C.grown (at lefts k - 1) (omega (arith, A.given)) ∙ A.given
      ∙ ap (λ (z : ℕ). z + 1) (sym (ap (at (set small_lefts k v)) e ∙ get_or-set_same small_lefts k v 0 (omega (arith, N.lefts-are)))))
      (λ e.
      let o = N.left i (omega arith) in
      let p = A.grown (at lefts i - 1) (omega arith) in
      C.grown (at lefts i - 1) (omega arith) ∙ p ∙ o ∙ ap (λ (z : ℕ). z + 1) (sym (get_or-set_other small_lefts k i v 0 e)));
  right = λ i l.
      by_cases (ℕ_discrete i k)
      (λ e.
      ap (λ (z : ℕ). C.words (at rights z - 1)) e ∙ C.given
      ∙ ap (λ (z : ℕ). z + 1) (sym (ap (at (set small_rights k w)) e ∙ get_or-set_same small_rights k w 0 (omega (arith, N.rights-are)))))
      (λ e.
      let o = N.right i (omega arith) in
      let p = A.grown (at rights i - 1) (omega arith) in
      C.grown (at rights i - 1) (omega arith) ∙ p ∙ o ∙ ap (λ (z : ℕ). z + 1) (sym (get_or-set_other small_rights k i w 0 e)));
}

-- two labels have one number only if they are one
pub named-apart : {K : ℕ} {lefts rights : List ℕ} {x y v : ℕ} → Named K lefts rights x v → Named K lefts rights y v → x ≡ y
named-apart {K} {lefts} {rights} {x} {y} {v} A C =
    ⊎_elim (λ a. ⊎_elim (λ c. both_left a c) (λ c. absurd (omega (arith, a.1, c.1))) C.is)
    (λ a. ⊎_elim (λ c. absurd (omega (arith, a.1, c.1))) (λ c. both_right a c) C.is) A.is
  where
    both_left : (at lefts A.place ≡ x + 1) × (v ≡ 2 * A.place + 1) → (at lefts C.place ≡ y + 1) × (v ≡ 2 * C.place + 1) → x ≡ y
    both_left a c = omega (arith, a.0, c.0, ap (at lefts) (let z : A.place ≡ C.place = omega (arith, a.1, c.1) in z))

    both_right : (at rights A.place ≡ x + 1) × (v ≡ 2 * A.place + 2) → (at rights C.place ≡ y + 1) × (v ≡ 2 * C.place + 2) → x ≡ y
    both_right a c = omega (arith, a.0, c.0, ap (at rights) (let z : A.place ≡ C.place = omega (arith, a.1, c.1) in z))

-- the words of record k's ends are 0 again
pub forgotten-one : {K : ℕ} {lefts rights : List ℕ} {regions base : ℕ} {start work : List ℕ} {k : ℕ} → Forgotten K lefts rights regions base start work k →
    Labelled K lefts rights regions → base + 4 * regions ≤ length work → k < K → {work₁ work₂ : List ℕ}
    → work₁ ≡ splice work (base + 4 * (at lefts k - 1)) (u32_bytes 0) →
    work₂ ≡ splice work₁ (base + 4 * (at rights k - 1)) (u32_bytes 0) → Forgotten K lefts rights regions base start work₂ (k + 1)
forgotten-one {K} {lefts} {rights} {regions} {base} {start} {k = k} F L fits b {work₁} e₁ e₂ =
    word-cleared F₁ (omega (arith, F₁.table.as_long, F.table.as_long)) (omega (arith, L.right-from k b, L.right-to k b)) later e₂
  where
    -- all but the left end's
    F₁ : OnlyOf (λ x. (x ≡ at lefts k - 1 → ⊥) × LabelStands K lefts rights k x) start regions base work₁
    F₁ = word-cleared F fits (omega (arith, L.left-from k b, L.left-to k b)) (λ x d s. (d, s)) e₁

    later : (x : ℕ) → (x ≡ at rights k - 1 → ⊥) → (x ≡ at lefts k - 1 → ⊥) × LabelStands K lefts rights k x → LabelStands K lefts rights (k + 1) x
    later x e t =
        let s = t.1 in
        record {
          place = s.place;
          from =
              by_cases (ℕ_discrete s.place k)
              (λ z. absurd (⊎_elim (λ u. t.0 (omega (arith, u, ap (at lefts) z))) (λ u. e (omega (arith, u, ap (at rights) z))) s.end))
              (λ z. omega (arith, s.from));
          inside = s.inside;
          end = s.end;
        }

-- no label has a number
pub unnumbered : {K : ℕ} {lefts rights : List ℕ} {regions base : ℕ} (start : List ℕ) {small_lefts small_rights : List ℕ}
    → ((x : ℕ) → x < regions → u32_at start (base + 4 * x) ≡ 0) →
    K ≤ length small_lefts → K ≤ length small_rights → EndNumbers K lefts rights regions base start start small_lefts small_rights 0
unnumbered {regions = regions} {base} start z a b = record {
  words = λ x. 0;
  table = table-blank z;
  named = λ x h. absurd (omega arith);
  lefts-are = a;
  rights-are = b;
  left = λ i l. absurd (omega arith);
  right = λ i l. absurd (omega arith);
}

-- where labels have numbers, none is forgotten yet
pub remembered : {K : ℕ} {lefts rights : List ℕ} {regions base : ℕ} {start work small_lefts small_rights : List ℕ} {k : ℕ} →
    EndNumbers K lefts rights regions base start work small_lefts small_rights k → Forgotten K lefts rights regions base start work 0
remembered N = record {
  words = N.words;
  table = N.table;
  left_over = λ x h.
      let n = N.named x h in
      record { place = n.place; from = omega arith; inside = n.inside; end = ⊎_elim (λ u. inl u.0) (λ u. inr u.0) n.is };
}

-- once all is forgotten, all is as it was
pub restored : {K : ℕ} {lefts rights : List ℕ} {regions base : ℕ} {start work : List ℕ} → Forgotten K lefts rights regions base start work K
    → base + 4 * regions ≤ length start →
    ((x : ℕ) → x < regions → u32_at start (base + 4 * x) ≡ 0) → work ≡ start
restored F fits z = all-cleared F fits z (λ x s. omega (arith, s.from, s.inside))

-- a label's word after number_of: that it had, or that of place p
pub next-step : {K : ℕ} {lefts rights : List ℕ} {regions base : ℕ} {start work work' : List ℕ} {f : ℕ → ℕ} → Table start regions base f work →
    ((y : ℕ) → 0 < f y → Named K lefts rights y (f y)) → base + 4 * regions ≤ length start → (x : ℕ) → x < regions → (v p : ℕ) → p < 8192
    → Named K lefts rights x (p + 1) →
    ((u32_at work (base + 4 * x) ≡ 0 → ⊥) → (u32_at work (base + 4 * x) ≡ v + 1) × (work' ≡ work)) →
    (u32_at work (base + 4 * x) ≡ 0 → (v ≡ p) × (work' ≡ splice work (base + 4 * x) (u32_bytes (p + 1)))) → Next K lefts rights regions base start work' f x v
next-step {K} {lefts} {rights} {regions} {base} {start} {work} {work'} {f} T N fits x l v p b n old new =
    by_cases (ℕ_discrete (f x) 0)
    (λ z. let r = new (T.word x l ∙ z) in subst (Next K lefts rights regions base start work' f x) (sym r.0) (next-new T N fits x l p z b n r.1))
    (λ z. let r = old (λ y. z (sym (T.word x l) ∙ y)) in next-old T N fits x l v (sym (T.word x l) ∙ r.0) r.1)

-- record k's ends get their numbers; j is k as an index
pub numbered-at : {K : ℕ} {lefts rights : List ℕ} {regions base : ℕ} {start work work₁ work₂ small_lefts small_rights : List ℕ} {k j v w : ℕ} → j ≡ k → k < K →
    Labelled K lefts rights regions → base + 4 * regions ≤ length work → EndNumbers K lefts rights regions base start work small_lefts small_rights k →
    ((u32_at work (base + 4 * (at lefts j - 1)) ≡ 0 → ⊥) → (u32_at work (base + 4 * (at lefts j - 1)) ≡ v + 1) × (work₁ ≡ work)) →
    (u32_at work (base + 4 * (at lefts j - 1)) ≡ 0 → (v ≡ 2 * k) × (work₁ ≡ splice work (base + 4 * (at lefts j - 1)) (u32_bytes (2 * k + 1)))) →
    ((u32_at work₁ (base + 4 * (at rights j - 1)) ≡ 0 → ⊥) → (u32_at work₁ (base + 4 * (at rights j - 1)) ≡ w + 1) × (work₂ ≡ work₁)) →
    (u32_at work₁ (base + 4 * (at rights j - 1)) ≡ 0 → (w ≡ 2 * k + 1) × (work₂ ≡ splice work₁ (base + 4 * (at rights j - 1)) (u32_bytes (2 * k + 1 + 1)))) →
    EndNumbers K lefts rights regions base start work₂ (set small_lefts j v) (set small_rights j w) (k + 1)
numbered-at {K} {lefts} {rights} {regions} {base} {start} {work} {work₁} {work₂} {small_lefts} {small_rights} {k} {j} {v} {w} e b L fits N₀ old₁ new₁ old₂
    new₂ =
    subst (λ (i : ℕ). EndNumbers K lefts rights regions base start work₂ (set small_lefts j v) (set small_rights j w) (i + 1)) e (numbered-one N in-range A C)
  where
    N : EndNumbers K lefts rights regions base start work small_lefts small_rights j
    N = subst (EndNumbers K lefts rights regions base start work small_lefts small_rights) (sym e) N₀

    in-range : j < K
    in-range = omega arith

    room : base + 4 * regions ≤ length start
    room = omega (arith, N.table.as_long)

    A : Next K lefts rights regions base start work₁ N.words (at lefts j - 1) v
    A =
        next-step N.table N.named room (at lefts j - 1) (omega (arith, L.left-from j in-range, L.left-to j in-range)) v (2 * k) (omega (arith, L.few))
        (record { place = j; inside = in-range; is = inl (omega (arith, L.left-from j in-range), omega arith) }) old₁ new₁

    C : Next K lefts rights regions base start work₂ A.words (at rights j - 1) w
    C =
        next-step A.table A.named room (at rights j - 1) (omega (arith, L.right-from j in-range, L.right-to j in-range)) w (2 * k + 1)
        (omega (arith, L.few))
        (record { place = j; inside = in-range; is = inr (omega (arith, L.right-from j in-range), omega arith) }) old₂ new₂

-- the words of record k's ends are 0 again; j is k as an index
pub forgotten-at : {K : ℕ} {lefts rights : List ℕ} {regions base : ℕ} {start work work₁ work₂ : List ℕ} {k j : ℕ} → j ≡ k → k < K
    → Labelled K lefts rights regions →
    base + 4 * regions ≤ length work → Forgotten K lefts rights regions base start work k → work₁ ≡ splice work (base + 4 * (at lefts j - 1)) (u32_bytes 0) →
    work₂ ≡ splice work₁ (base + 4 * (at rights j - 1)) (u32_bytes 0) → Forgotten K lefts rights regions base start work₂ (k + 1)
forgotten-at {K} {lefts} {rights} {regions} {base} {start} {work} {work₁} {work₂} {k} {j} e b L fits F e₁ e₂ =
    subst (λ (i : ℕ). Forgotten K lefts rights regions base start work₂ (i + 1)) e
    (forgotten-one (subst (Forgotten K lefts rights regions base start work) (sym e) F) L fits (omega arith) e₁ e₂)
