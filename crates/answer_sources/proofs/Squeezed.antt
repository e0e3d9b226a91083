-- Sorting the part of one place more.
use mathlib.Core.Path.{◌≡◌, refl, sym, ◌∙◌, ap, subst}
use mathlib.Core.Logic.{◌≢◌, ◌⊎◌, by_cases, inl, inr, ⊎_elim}
use mathlib.Core.List.{List}
use Prim.Native.Nat.{ℕ, ◌+◌, ◌-◌, ◌≤◌, ◌<◌}
use native.Mathlib.Decide.{ℕ_discrete}
use native.Mathlib.Omega.{arith}
use lib.Dec.{leb}
use lib.ListN.{length, get_or, set, take, drop, length-set}
use lib.Seq.{get_or-set_same, get_or-set_other, drop-drop}
use Rattle.wire.specs.Bytes.{part}
use Rattle.wire.proofs.Parts.{part-part}
use Rattle.order.specs.Sorting.{sort_once}
use Rattle.sorting.specs.Between.{between, Front}
use Rattle.answer_sources.specs.Laying.{Apart}
use Rattle.answer_sources.specs.Squeezed.{part_of, Squeezed}

module _ (before after : List ℕ) (a m : ℕ) where
  part-earlier : (i : ℕ) → take i after ≡ take i before → a + m ≤ i → part after a m ≡ part before a m
  unfolding part
  part-earlier i e h =
      let z : 0 + a ≡ a = omega arith in
      ap (λ (k : ℕ). part after k m) (sym z)
      ∙ sym (part-part after 0 i a m h)
      ∙ ap (λ (l : List ℕ). part l a m) e
      ∙ part-part before 0 i a m h
      ∙ ap (λ (k : ℕ). part before k m) z

  part-later : (i : ℕ) → drop i after ≡ drop i before → i ≤ a → part after a m ≡ part before a m
  unfolding part
  part-later i e h =
      let z : i + (a - i) ≡ a = omega arith in
      ap (λ (k : ℕ). take m (drop k after)) (sym z)
      ∙ ap (take m) (sym (drop-drop (a - i) i after))
      ∙ ap (λ (l : List ℕ). take m (drop (a - i) l)) e
      ∙ ap (take m) (drop-drop (a - i) i before)
      ∙ ap (λ (k : ℕ). take m (drop k before)) z

  -- a part that does not overlap is as it was
  part-kept : {from to r : ℕ} {kept : List ℕ} → Front before from to kept after r → (a + m ≤ from) ⊎ (to ≤ a) → part after a m ≡ part before a m
  part-kept {from} {to} f d = ⊎_elim (λ h. part-earlier from f.earlier h) (λ h. part-later to f.later h) d

pub squeezed-start : (starts keys counts : List ℕ) → Squeezed starts keys counts keys counts 0
squeezed-start starts keys counts = record {
  keys-long = refl;
  counts-long = refl;
  less = λ w. omega arith;
  later = λ w h. refl;
  done = λ w h. absurd (omega arith);
  todo = λ w h. refl;
}

module _ {starts keys₀ counts₀ keys counts : List ℕ} {q limit : ℕ} (clear : Apart starts counts₀ limit) (s : Squeezed starts keys₀ counts₀ keys counts q) where
  pub same : get_or counts q 0 ≡ get_or counts₀ q 0
  same = s.later q (omega arith)

  pub part-within : get_or starts q 0 + get_or counts q 0 ≤ limit
  part-within = omega (arith, clear.ends q, same)

  module _ {keys' : List ℕ} {a to e v : ℕ} (h : q < length counts) (x : a ≡ get_or starts q 0) (t : to ≡ a + get_or counts q 0)
      (f : Front keys a to (sort_once leb (between keys a to)) keys' e) (y : v ≡ e - a) (long : length keys' ≡ length keys) where
    whole : between keys a to ≡ part_of keys₀ starts counts₀ q
    whole =
        let z : to - a ≡ get_or counts₀ q 0 = omega (arith, same, t) in
        ap (part keys a) z ∙ ap (λ (k : ℕ). part keys k (get_or counts₀ q 0)) x ∙ s.todo q (omega arith)

    smaller : v ≤ get_or counts₀ q 0
    smaller = omega (arith, f.within, y, same, t)

    this : part keys' (get_or starts q 0) v ≡ sort_once leb (part_of keys₀ starts counts₀ q)
    this =
        ap (λ (k : ℕ). part keys' k v) (sym x)
        ∙ ap (part keys' a) y
        ∙ f.holds
        ∙ ap (sort_once leb) whole

    off : (w m : ℕ) → w ≢ q → m ≤ get_or counts₀ w 0 → part keys' (get_or starts w 0) m ≡ part keys (get_or starts w 0) m
    off w m d l =
        part-kept keys keys' (get_or starts w 0) m f
        (⊎_elim (λ g. inl (omega (arith, g, x))) (λ g. inr (omega (arith, g, x, same, t))) (clear.apart w q d))

    count-other : (w : ℕ) → w ≢ q → get_or (set counts q v) w 0 ≡ get_or counts w 0
    count-other w d = get_or-set_other counts q w v 0 d

    count-this : get_or (set counts q v) q 0 ≡ v
    count-this = get_or-set_same counts q v 0 h

    pub squeezed-next : Squeezed starts keys₀ counts₀ keys' (set counts q v) (q + 1)
    squeezed-next = record {
      keys-long = long ∙ s.keys-long;
      counts-long = length-set counts q v ∙ s.counts-long;
      less = λ w.
          by_cases (ℕ_discrete w q)
          (λ i. rw (i, count-this) smaller)
          (λ d. rw (count-other w d) (s.less w));
      later = λ w l. count-other w (λ i. omega arith) ∙ s.later w (omega arith);
      done = λ w l.
          by_cases (ℕ_discrete w q)
          (λ i. rw (i, count-this) this)
          (λ d. rw (count-other w d) (off w (get_or counts w 0) d (s.less w) ∙ s.done w (omega arith)));
      todo = λ w l. off w (get_or counts₀ w 0) (λ i. omega arith) (omega arith) ∙ s.todo w (omega arith);
    }

pub squeezed-end : {starts keys₀ counts₀ keys counts : List ℕ} {q n : ℕ} → Squeezed starts keys₀ counts₀ keys counts q → q ≤ n → n ≤ q
    → Squeezed starts keys₀ counts₀ keys counts n
squeezed-end {starts} {keys₀} {counts₀} {keys} {counts} {q} {n} a h l = let e : q ≡ n = omega arith in
    subst (λ (z : ℕ). Squeezed starts keys₀ counts₀ keys counts z) e a
