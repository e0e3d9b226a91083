-- Lists joined member by member, by place.
use mathlib.Core.Path.{◌≡◌, refl, sym, ◌∙◌, ap}
use mathlib.Core.List.{List, [], ◌∷◌, ◌++◌, map, flat_map, append-nil}
use Prim.Native.Nat.{ℕ, zero, suc, ◌+◌, ◌≤◌, ◌<◌}
use native.Mathlib.Omega.{arith}
use lib.ListN.{length, get_or, take, drop, length-append}
use lib.Seq.{take-suc, take-length, take-append_seam, drop-append-add, get_or-take, get_or-drop}
use Rattle.lists.specs.Rows.{rows, sum}
use Rattle.lists.proofs.Flat.{flat_map-append}
use Rattle.answer_sources.specs.Laying.{sum_below}
use Rattle.answer_encoding.specs.Pieces.{pieces}

flat-one : {A B : Type 0} (f : A → List B) (x : A) → flat_map f (x ∷ []) ≡ f x
unfolding flat_map
flat-one f x = append-nil (f x)

module _ {A : Type 0} (f : A → List ℕ) (l : List A) (d : A) (g : ℕ → List ℕ) where
  pieces-take : (n : ℕ) → n ≤ length l → ((k : ℕ) → k < n → g k ≡ f (get_or l k d)) → pieces n g ≡ flat_map f (take n l)
  unfolding pieces flat_map
  pieces-take zero h e = refl
  pieces-take (suc n) h e =
      ap (λ (t : List ℕ). t ++ g n) (pieces-take n (omega arith) (λ k i. e k (omega arith)))
      ∙ ap (λ (t : List ℕ). flat_map f (take n l) ++ t) (e n (omega arith) ∙ sym (flat-one f (get_or l n d)))
      ∙ sym (ap (flat_map f) (take-suc l n d (omega arith)) ∙ flat_map-append f (take n l) (get_or l n d ∷ []))

  -- Pieces that are those of a list's members.
  pub pieces-flat : (n : ℕ) → n ≡ length l → ((k : ℕ) → k < length l → g k ≡ f (get_or l k d)) → pieces n g ≡ flat_map f l
  pieces-flat n e h = pieces-take n (omega arith) (λ k i. h k (omega arith)) ∙ ap (λ (k : ℕ). flat_map f (take k l)) e ∙ ap (flat_map f) (take-length l)

-- Pieces of pieces.
pub flat-flat : {A B C : Type 0} (f : B → List C) (g : A → List B) (l : List A) → flat_map f (flat_map g l) ≡ flat_map (λ x. flat_map f (g x)) l
unfolding flat_map
flat-flat f g [] = refl
flat-flat f g (x ∷ l) = flat_map-append f (g x) (flat_map g l) ∙ ap (λ t. flat_map f (g x) ++ t) (flat-flat f g l)

-- The sum of a list's numbers, by place.
pub below-sum : {A : Type 0} (h : A → ℕ) (l : List A) (d : A) (g : ℕ → ℕ) → ((k : ℕ) → k < length l → g k ≡ h (get_or l k d))
    → sum_below g (length l) ≡ sum (map h l)
unfolding sum rows
below-sum h [] d g e = refl
below-sum h (x ∷ l) d g e = let a = e 0 (omega arith) in let b = below-sum h l d (λ k. g (suc k)) (λ k i. e (suc k) (omega arith)) in omega arith

-- A member's piece, where it stands.
flat-part : {A B : Type 0} (f : A → List B) (l : List A) (d : A) (g : ℕ → ℕ) (k : ℕ) → k < length l
    → ((i : ℕ) → i < length l → g i ≡ length (f (get_or l i d)))
    → take (length (f (get_or l k d))) (drop (sum_below g k) (flat_map f l)) ≡ f (get_or l k d)
unfolding flat_map sum rows
flat-part f [] d g k h e = absurd (omega arith)
flat-part f (x ∷ l) d g zero h e = take-append_seam (f x) (flat_map f l)
flat-part f (x ∷ l) d g (suc k) h e =
    let a = e 0 (omega arith) in
    ap (λ (j : ℕ). take (length (f (get_or l k d))) (drop (j + sum_below (λ i. g (suc i)) k) (f x ++ flat_map f l))) a
    ∙ ap (take (length (f (get_or l k d)))) (drop-append-add (f x) (flat_map f l) (sum_below (λ i. g (suc i)) k))
    ∙ flat-part f l d (λ i. g (suc i)) k (omega arith) (λ i j. e (suc i) (omega arith))

pub flat-at : {A B : Type 0} (f : A → List B) (l : List A) (d : A) (g : ℕ → ℕ) (k : ℕ)
    → k < length l → ((i : ℕ) → i < length l → g i ≡ length (f (get_or l i d)))
    → (i : ℕ) (b : B) → i < length (f (get_or l k d)) → get_or (flat_map f l) (sum_below g k + i) b ≡ get_or (f (get_or l k d)) i b
flat-at f l d g k h e i b j =
    sym (get_or-drop (sum_below g k) (flat_map f l) i b)
    ∙ sym (get_or-take (length (f (get_or l k d))) (drop (sum_below g k) (flat_map f l)) i b j)
    ∙ ap (λ t. get_or t i b) (flat-part f l d g k h e)

-- Their place is within the whole.
pub flat-within : {A B : Type 0} (f : A → List B) (l : List A) (d : A) (g : ℕ → ℕ) (k : ℕ) → k < length l
    → ((i : ℕ) → i < length l → g i ≡ length (f (get_or l i d)))
    → sum_below g k + length (f (get_or l k d)) ≤ length (flat_map f l)
unfolding flat_map sum rows
flat-within f [] d g k h e = absurd (omega arith)
flat-within f (x ∷ l) d g zero h e = omega (arith, length-append (f x) (flat_map f l))
flat-within f (x ∷ l) d g (suc k) h e =
    let a = e 0 (omega arith) in
    let b = flat-within f l d (λ i. g (suc i)) k (omega arith) (λ i j. e (suc i) (omega arith)) in
    omega (arith, length-append (f x) (flat_map f l))
