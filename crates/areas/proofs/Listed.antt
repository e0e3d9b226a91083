-- What another listing of the spans changes: nothing of labels, and of the records only whose they are.
use mathlib.Core.Path.{◌≡◌, refl, sym, ◌∙◌, ap}
use mathlib.Core.List.Permᴰ
use mathlib.Core.List.{List, [], ◌∷◌, map, head-eq_of_cons-eq, tail-eq_of_cons-eq, Permᴰ}
use Prim.Native.Nat.{ℕ, suc}
use native.Mathlib.Omega.{arith}
use lib.ListN.{length, length-map, length-append}
use Rattle.lists.specs.Rows.{sum}
use Rattle.order.specs.Pairs.{SameMembers}
use Rattle.order.proofs.Members.{perm-mem}
use Rattle.position.specs.Order.{canonical}
use Rattle.position.specs.declared.Span.{Span}
use Rattle.position.proofs.Order.{ordered, canonical-ordered}
use Rattle.grid.specs.Cells.{Grid}
use Rattle.areas.specs.Assessments.{RegionPair, record_of, owned, assess, records}
use Rattle.areas.proofs.Assessments.{assess-same}
use Rattle.lists.proofs.Rows.{sum-perm}

pub perm_same : {A : Type 0} {l m : List A} → Permᴰ l m → SameMembers l m
perm_same p = λ y. (λ k. perm-mem p k, λ k. perm-mem (Permᴰ.symm p) k)

pub eq-same : {A : Type 0} {l m : List A} → l ≡ m → SameMembers l m
eq-same e = λ y. (λ k. rw (← e) k, λ k. rw e k)

owned-length : (i : ℕ) (pss : List (List RegionPair)) → length (owned i pss) ≡ sum (map (λ (ps : List RegionPair). length ps) pss)
unfolding owned sum
owned-length i [] = refl
owned-length i (ps ∷ rest) = length-append (map (record_of i) ps) (owned (suc i) rest)
    ∙ (let a = length-map ps (record_of i) in let b = owned-length (suc i) rest in omega arith)

module _ (dirs : List ℕ) (g : Grid) where
  pairs-same : (ss ts us vs : List Span) → SameMembers (map canonical ss) (map canonical ts) → map canonical us ≡ map canonical vs
      → map (λ s. (assess dirs g ss s).pairs) us ≡ map (λ s. (assess dirs g ts s).pairs) vs
  pairs-same ss ts [] [] m h = refl
  pairs-same ss ts [] (v ∷ vs) m h = let k : ◌≡◌ {A = ℕ} 0 (suc (length (map canonical vs))) = ap length h in absurd (omega arith)
  pairs-same ss ts (u ∷ us) [] m h = let k : ◌≡◌ {A = ℕ} (suc (length (map canonical us))) 0 = ap length h in absurd (omega arith)
  pairs-same ss ts (u ∷ us) (v ∷ vs) m h = rw (assess-same dirs g ss ts m u v (head-eq_of_cons-eq h), pairs-same ss ts us vs m (tail-eq_of_cons-eq h)) refl

  -- spans that are the same but for which end is first make the same records
  pub records-same : (ss ts : List Span) → map canonical ss ≡ map canonical ts → records dirs g ss ≡ records dirs g ts
  unfolding records
  records-same ss ts e = ap (owned 0) (pairs-same ss ts ss ts (eq-same e) e)

  pair_counts : List Span → List Span → List ℕ
  pair_counts ss us = map (λ (ps : List RegionPair). length ps) (map (λ s. (assess dirs g ss s).pairs) us)

  counts-canonical : (ss us : List Span) → pair_counts ss us ≡ pair_counts ss (map canonical us)
  unfolding pair_counts
  counts-canonical ss us = ap (map (λ (ps : List RegionPair). length ps)) (pairs-same ss ss us (map canonical us) (eq-same refl) (again us))
    where
      again : (vs : List Span) → map canonical vs ≡ map canonical (map canonical vs)
      again [] = refl
      again (v ∷ vs) = rw (ordered (canonical v) (canonical-ordered v), ← again vs) refl

  counts-perm : (ss : List Span) {us vs : List Span} → Permᴰ us vs → sum (pair_counts ss us) ≡ sum (pair_counts ss vs)
  unfolding pair_counts
  counts-perm ss p = sum-perm (Permᴰ.map (λ (ps : List RegionPair). length ps) (Permᴰ.map (λ s. (assess dirs g ss s).pairs) p))

  records-total : (ss : List Span) → length (records dirs g ss) ≡ sum (pair_counts ss ss)
  unfolding records pair_counts
  records-total ss = owned-length 0 (map (λ s. (assess dirs g ss s).pairs) ss)

  counts_same : (ss ts us : List Span) → SameMembers (map canonical ss) (map canonical ts) → pair_counts ss us ≡ pair_counts ts us
  unfolding pair_counts
  counts_same ss ts us m = ap (map (λ (ps : List RegionPair). length ps)) (pairs-same ss ts us us m refl)

  -- in another order, with ends either way round, they make as many
  pub records-count : (ss ts : List Span) → Permᴰ (map canonical ss) (map canonical ts) → length (records dirs g ss) ≡ length (records dirs g ts)
  records-count ss ts p =
      records-total ss ∙ (ap sum (counts-canonical ss ss) ∙ (counts-perm ss p
      ∙ (ap sum (sym (counts-canonical ss ts) ∙ counts_same ss ts ts (perm_same p)) ∙ sym (records-total ts))))
