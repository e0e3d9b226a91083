-- Laws of `gather`.
use mathlib.Core.Path.{◌≡◌, refl, ◌∙◌, ap, subst}
use mathlib.Core.Logic.{⊎_elim}
use mathlib.Core.List.{List, [], ◌∷◌, ◌++◌, append_assoc, append-nil, Memᴰ}
use mathlib.Core.List.Permᴰ
use mathlib.Core.List.{Permᴰ}
use Rattle.order.specs.Lists.{gather}
use Rattle.order.specs.Pairs.{Pairs, none, more}
use Rattle.order.proofs.Pairs.{pairs-append}

-- two lists swapped in front of a third
perm-front : {A : Type 0} (l m n : List A) → Permᴰ (l ++ (m ++ n)) (m ++ (l ++ n))
perm-front l m n = rw (← append_assoc l m n, ← append_assoc m l n) (Permᴰ.append_right n (Permᴰ.append_comm l m))

module _ {A B : Type 0} (f : A → List B) where
  pub gather_append : (l m : List A) → gather f (l ++ m) ≡ gather f l ++ gather f m
  unfolding gather
  gather_append [] m = refl
  gather_append (x ∷ xs) m = rw (gather_append xs m, append_assoc)

  -- the last one last
  pub gather-last : (l : List A) (x : A) → gather f (l ++ (x ∷ [])) ≡ gather f l ++ f x
  unfolding gather
  gather-last l x = gather_append l (x ∷ []) ∙ ap (λ (m : List B). gather f l ++ m) (append-nil (f x))

  pub gather-mem : (l : List A) {y : B} → Memᴰ y (gather f l) → (x : A) × Memᴰ x l × Memᴰ y (f x)
  unfolding gather
  gather-mem [] n = absurd (mathlib.Core.List.Memᴰ.not-nil n)
  gather-mem (x ∷ xs) {y} n =
      ⊎_elim (λ (k : Memᴰ y (f x)). (x, mathlib.Core.List.Memᴰ.head refl, k))
      (λ (k : Memᴰ y (gather f xs)). let r = gather-mem xs k in (r.0, mathlib.Core.List.Memᴰ.tail r.1, r.2))
      (mathlib.Core.List.Memᴰ.append_cases (f x) n)

  pub mem-gather : {x : A} {l : List A} {y : B} → Memᴰ x l → Memᴰ y (f x) → Memᴰ y (gather f l)
  unfolding gather
  mem-gather {y = y} (mathlib.Core.List.Memᴰ.head {xs = xs} e) k = mathlib.Core.List.Memᴰ.append_left (gather f xs) (subst (λ (z : A). Memᴰ y (f z)) e k)
  mem-gather (mathlib.Core.List.Memᴰ.tail {x = x} n) k = mathlib.Core.List.Memᴰ.append_right (f x) (mem-gather n k)

  pub gather-perm : {l m : List A} → Permᴰ l m → Permᴰ (gather f l) (gather f m)
  unfolding gather
  gather-perm Permᴰ.nil = Permᴰ.nil
  gather-perm (Permᴰ.cons {b = b} e p) = rw e (Permᴰ.append_left (f b) (gather-perm p))
  gather-perm (Permᴰ.swap {a = a} {b = b} {l = l} e h) = rw (← e, ← h) (perm-front (f a) (f b) (gather f l))
  gather-perm (Permᴰ.trans p q) = Permᴰ.trans (gather-perm p) (gather-perm q)

  -- within the list of each member, and across the lists of every two
  pub gather_pairs : {R : B → B → Type 0} → ((x : A) → Pairs R (f x)) → {l : List A}
      → Pairs (λ x y. (b c : B) → Memᴰ b (f x) → Memᴰ c (f y) → R b c) l → Pairs R (gather f l)
  unfolding gather
  gather_pairs o none = none
  gather_pairs o (more {x = x} {xs = xs} g t) =
      pairs-append (o x) (gather_pairs o t) (λ b c m n. let r = gather-mem xs n in g r.0 r.1 b c m r.2)

-- lists that agree, or are permuted, for each member
module _ {A B : Type 0} (f g : A → List B) where
  pub gather_ext : (l : List A) → ((x : A) → Memᴰ x l → f x ≡ g x) → gather f l ≡ gather g l
  unfolding gather
  gather_ext [] h = refl
  gather_ext (x ∷ xs) h = rw (h x (mathlib.Core.List.Memᴰ.head refl), gather_ext xs (λ y n. h y (mathlib.Core.List.Memᴰ.tail n)))

  pub gather-perms : ((x : A) → Permᴰ (f x) (g x)) → (l : List A) → Permᴰ (gather f l) (gather g l)
  unfolding gather
  gather-perms h [] = Permᴰ.nil
  gather-perms h (x ∷ xs) = Permᴰ.trans (Permᴰ.append_right (gather f xs) (h x)) (Permᴰ.append_left (g x) (gather-perms h xs))
