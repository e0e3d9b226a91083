-- Numbers written after those that are there, and the last of them sorted.
use mathlib.Core.Path.{◌≡◌, refl, sym, ◌∙◌, ap}
use mathlib.Core.Bool.{Bool}
use mathlib.Core.List.{List, [], ◌∷◌, ◌++◌, append_assoc, append-nil}
use Prim.Native.Nat.{ℕ, ◌+◌, ◌-◌, ◌≤◌, ◌<◌}
use native.Mathlib.Numerals.{add-one}
use native.Mathlib.Omega.{arith}
use lib.ListN.{length, set, take, drop, length-append, length-set}
use lib.Seq.{take-suc-set, length-take-le, take-take, take-add, take_at, drop_at}
use Rattle.wire.specs.Bytes.{part, splice}
use Rattle.wire.proofs.Parts.{length-splice, take-splice}
use Rattle.order.specs.Lists.{up_from}
use Rattle.order.specs.Sorting.{sort}
use Rattle.order.proofs.Merge.{sort-length}
use Rattle.sorting.specs.Between.{between}
use Rattle.answer_sources.proofs.Stands.{up_next}
use Rattle.answer_gathering.specs.Runs.{Prefix, Appended}

pub filled-start : (l : List ℕ) → Prefix l 0 []
filled-start l = record { many = refl; there = refl }

pub filled_is : {l xs ys : List ℕ} {n m : ℕ} → Prefix l n xs → n ≡ m → xs ≡ ys → Prefix l m ys
filled_is {l} {xs} {ys} {n} {m} f e h = record { many = sym e ∙ (f.many ∙ ap length h); there = ap (λ (k : ℕ). take k l) (sym e) ∙ (f.there ∙ h) }

pub filled_put : {l xs : List ℕ} {n : ℕ} (v : ℕ) → Prefix l n xs → n < length l → Prefix (set l n v) (n + 1) (xs ++ (v ∷ []))
filled_put {l} {xs} {n} v f h = record {
  many = omega (arith, f.many, length-append xs (v ∷ []));
  there = rw add-one (take-suc-set l n v h ∙ ap (λ (t : List ℕ). t ++ (v ∷ [])) f.there);
}

pub filled-then : {l m xs ys : List ℕ} {n r : ℕ} → Prefix l n xs → Appended l n ys m r → Prefix m r (xs ++ ys)
filled-then {xs = xs} {ys = ys} f g = record {
  many = omega (arith, g.ends, f.many, length-append xs ys);
  there = g.there ∙ ap (λ (t : List ℕ). t ++ ys) f.there;
}

pub added_none : (l : List ℕ) (n : ℕ) → Appended l n [] l n
added_none l n = record { long = refl; ends = omega arith; there = sym (append-nil (take n l)) }

pub added_is : {l m xs ys : List ℕ} {n r s : ℕ} → Appended l n xs m r → r ≡ s → xs ≡ ys → Appended l n ys m s
added_is {l} {m} {xs} {ys} {n} {r} {s} f e h = record {
  long = f.long;
  ends = sym e ∙ (f.ends ∙ ap (λ (t : List ℕ). n + length t) h);
  there = ap (λ (k : ℕ). take k m) (sym e) ∙ (f.there ∙ ap (λ (t : List ℕ). take n l ++ t) h);
}

added-put : {l m xs : List ℕ} {n r : ℕ} (v : ℕ) → Appended l n xs m r → r < length m → Appended l n (xs ++ (v ∷ [])) (set m r v) (r + 1)
added-put {l} {m} {xs} {n} {r} v f h = record {
  long = length-set m r v ∙ f.long;
  ends = omega (arith, f.ends, length-append xs (v ∷ []));
  there = rw add-one (take-suc-set m r v h ∙ (ap (λ (t : List ℕ). t ++ (v ∷ [])) f.there ∙ append_assoc (take n l) xs (v ∷ [])));
}

pub added_then : {l m o xs ys : List ℕ} {n r s : ℕ} → Appended l n xs m r → Appended m r ys o s → Appended l n (xs ++ ys) o s
added_then {l} {xs = xs} {ys = ys} {n = n} f g = record {
  long = g.long ∙ f.long;
  ends = omega (arith, g.ends, f.ends, length-append xs ys);
  there = g.there ∙ (ap (λ (t : List ℕ). t ++ ys) f.there ∙ append_assoc (take n l) xs ys);
}

-- One more of a run.
pub places-next : {l m : List ℕ} {to r : ℕ} (p k : ℕ) → Appended l to (up_from p k) m r → r ≡ to + k → to + k < length m
    → Appended l to (up_from p (k + 1)) (set m (to + k) (p + k)) (to + (k + 1))
places-next {l} {m} {to} {r} p k f e h =
    let g : Appended l to (up_from p k) m (to + k) = added_is f e refl in
    added_is (added-put (p + k) g h) (omega arith) (sym (up_next p k))

pub places-start : (l : List ℕ) (p to : ℕ) → Appended l to (up_from p 0) l (to + 0)
unfolding up_from
places-start l p to = added_is (added_none l to) (omega arith) refl

pub run_end : {l m : List ℕ} {to r : ℕ} (run : ℕ → List ℕ) (k n : ℕ) → Appended l to (run k) m r → r ≡ to + k → k ≤ n → n ≤ k → Appended l to (run n) m (to + n)
run_end run k n f d h g = let e : k ≡ n = omega arith in added_is f (omega arith) (ap run e)

-- What was written after `from` is what stands there.
module _ {l₀ l ys : List ℕ} {from to : ℕ} (f : Appended l₀ from ys l to) (h : from ≤ length l₀) where
  front_long : length (take from l₀) ≡ from
  front_long = length-take-le from l₀ h

  joined : take from l ++ take (to - from) (drop from l) ≡ take from l₀ ++ ys
  joined =
      let e : from + (to - from) ≡ to = omega (arith, f.ends) in
      sym (take-add from (to - from) l) ∙ (ap (λ (k : ℕ). take k l) e ∙ f.there)

  first-same : take from l ≡ take from l₀
  first-same =
      let e : from ≤ to = omega (arith, f.ends) in
      sym (take-take from to l e) ∙ (ap (take from) f.there ∙ take_at (take from l₀) ys from front_long)

  last-there : between l from to ≡ ys
  unfolding part
  last-there =
      sym (drop_at (take from l) (take (to - from) (drop from l)) from (ap length first-same ∙ front_long))
      ∙ (ap (drop from) joined ∙ drop_at (take from l₀) ys from front_long)

  pub added-sorted : (le : ℕ → ℕ → Bool) {m : List ℕ} → to ≤ length l → m ≡ splice l from (sort le (between l from to)) → Appended l₀ from (sort le ys) m to
  added-sorted le {m} b e =
      let z : sort le (between l from to) ≡ sort le ys = ap (sort le) last-there in
      let q : to ≡ from + length (sort le ys) = omega (arith, sort-length le ys, f.ends) in
      record {
        long = ap length (e ∙ ap (splice l from) z) ∙ (length-splice l from (sort le ys) (omega (arith, q, b)) ∙ f.long);
        ends = q;
        there =
            ap (take to) (e ∙ ap (splice l from) z)
            ∙ (ap (λ (k : ℕ). take k (splice l from (sort le ys))) q
            ∙ (take-splice l from (sort le ys) (omega (arith, q, b)) ∙ ap (λ (t : List ℕ). t ++ sort le ys) first-same));
      }
