-- Groups that are disjoint.
use mathlib.Core.Path.{◌≡◌, refl, ◌∙◌}
use mathlib.Core.Logic.{⊎_elim}
use mathlib.Core.Bool.{Bool, true, false, ◌||◌}
use mathlib.Core.List.Memᴰ
use mathlib.Core.List.Permᴰ
use mathlib.Core.List.{List, [], ◌∷◌, ◌++◌, reverse_aux, Memᴰ, Permᴰ}
use Prim.Native.Nat.{ℕ, ◌<◌}
use native.Mathlib.Omega.{arith}
use Rattle.order.specs.Lists.{keep, up_from, has}
use Rattle.order.specs.Pairs.{Pairs, more}
use Rattle.order.proofs.Bools.{clash, is_false, or_cases}
use Rattle.order.proofs.Members.{perm-mem}
use Rattle.order.proofs.Pairs.{pairs-ext, perm-pairs}
use Rattle.order.proofs.Keep.{keep-mem, mem-keep, keep-pairs}
use Rattle.order.proofs.Numbers.{mem_up, up_strict, has-mem, mem-has}
use Rattle.serial_merging.specs.Groups.{Group, in_any, Good, Disjoint, WellGrouped}

pub retained-below : {n : ℕ} {g : Group} → Good n g → g.retained < n
retained-below {g = g} good = good.below g.retained good.mine

-- A rank in one of two groups is not in the other.
pub outside : (g h : Group) → Disjoint g h → (i : ℕ) → Memᴰ i g.ranks → has i h.ranks ≡ false
outside g h d i m = is_false (has i h.ranks) (λ e. d i m (has-mem i h.ranks e))

pub disjoint-symm : (g h : Group) → Disjoint g h → Disjoint h g
disjoint-symm g h d i m n = d i n m

pub any_false : (i : ℕ) (gs : List Group) → ((h : Group) → Memᴰ h gs → has i h.ranks ≡ false) → in_any gs i ≡ false
unfolding in_any
any_false i [] f = refl
any_false i (g ∷ gs) f = rw (f g (Memᴰ.head refl)) (any_false i gs (λ h m. f h (Memᴰ.tail m)))

pub any-group : (i : ℕ) (gs : List Group) → in_any gs i ≡ true → (g : Group) × Memᴰ g gs × Memᴰ i g.ranks
unfolding in_any
any-group i [] e = clash e refl
any-group i (g ∷ gs) e =
    ⊎_elim (λ (h : has i g.ranks ≡ true). (g, Memᴰ.head refl, has-mem i g.ranks h))
    (λ (h : in_any gs i ≡ true). let r = any-group i gs h in (r.0, Memᴰ.tail r.1, r.2))
    (or_cases (has i g.ranks) (in_any gs i) e)

pub any-perm : {l m : List Group} → Permᴰ l m → (i : ℕ) → in_any l i ≡ in_any m i
unfolding in_any
any-perm Permᴰ.nil i = refl
any-perm (Permᴰ.cons e p) i = rw (e, any-perm p i)
any-perm (Permᴰ.swap {a = a} {b = b} {l = l} e f) i = rw (← e, ← f) (go (has i a.ranks) (has i b.ranks))
  where
    go : (p q : Bool) → p || (q || in_any l i) ≡ q || (p || in_any l i)
    go true true = refl
    go true false = refl
    go false q = refl
any-perm (Permᴰ.trans p q) i = any-perm p i ∙ any-perm q i

-- Of all ranks, a group's are its ranks.
pub ranks-are : (n : ℕ) (g : Group) → Good n g → keep (λ i. has i g.ranks) (up_from 0 n) ≡ g.ranks
ranks-are n g w = pairs-ext (λ i j a b. omega arith) _ g.ranks (keep-pairs (λ i. has i g.ranks) (up_strict 0 n)) w.ascending λ i. (
  λ m. has-mem i g.ranks (keep-mem (λ i. has i g.ranks) (up_from 0 n) m).1,
  λ m. mem-keep (λ i. has i g.ranks) (mem_up 0 n i (omega arith) (let k = w.below i m in omega arith)) (mem-has i g.ranks m),
)

pub well-perm : {n : ℕ} {l m : List Group} → Permᴰ l m → WellGrouped n l → WellGrouped n m
well-perm p w = record { good = λ g m. w.good g (perm-mem (Permᴰ.symm p) m); apart = perm-pairs disjoint-symm p w.apart }

-- What a merge of g rests on, after those of ds.
pub record Next (n : ℕ) (g : Group) (ds : List Group) : Type 0 where
  pub good : Good n g
  pub goods : (h : Group) → Memᴰ h ds → Good n h
  pub apart : (h : Group) → Memᴰ h ds → Disjoint g h

-- g is next, the groups ds before it and gs after it.
pub next_of : {n : ℕ} (g : Group) (gs ds : List Group) → WellGrouped n (reverse_aux (g ∷ gs) ds) → Next n g ds
next_of {n} g gs ds w = go (well-perm (Permᴰ.reverse_aux (g ∷ gs) ds) w)
  where
    first : Pairs Disjoint (g ∷ (gs ++ ds)) → (h : Group) → Memᴰ h (gs ++ ds) → Disjoint g h
    first (more f p) h m = f h m

    go : WellGrouped n (g ∷ (gs ++ ds)) → Next n g ds
    go v = record {
      good = v.good g (Memᴰ.head refl);
      goods = λ h m. v.good h (Memᴰ.tail (Memᴰ.append_right gs m));
      apart = λ h m. first v.apart h (Memᴰ.append_right gs m);
    }
