-- One more step assessed, and steps one after another.
use mathlib.Core.Path.{◌≡◌, refl, sym, ◌∙◌, ap, ap₂, subst}
use mathlib.Core.Bool.{true, false, cond}
use mathlib.Core.List.{List, [], ◌∷◌, ◌++◌, map, map-append, append_assoc, append-nil}
use Prim.Native.Nat.{ℕ, suc, ◌+◌, ◌-◌, ◌≤◌, ◌<◌, min, max}
use native.Mathlib.Omega.{arith}
use borrow.Author.Tests.{eq-eqb, ne_eqb}
use lib.ListN.{length, length-append}
use Rattle.order.specs.Lists.{keep, gather, up_from}
use Rattle.order.specs.Keys.{by_key, sort_once_by}
use Rattle.order.specs.Sorting.{include}
use Rattle.order.proofs.Gather.{gather-last}
use Rattle.order.proofs.Keep.{keep_append}
use Rattle.graph.specs.Path.{Edge}
use Rattle.areas.specs.Areas.{label_at}
use Rattle.areas.specs.Assessments.{RegionPair, pair_key, is_separated, label_pair, assessment, region_pair}
use Rattle.areas.proofs.Assessments.{pair-order}
use Rattle.areas.specs.Words.{word, labels_in}
use Rattle.areas.proofs.Words.{label-in}
use Rattle.areas_assessments.specs.declared.steps.Assessed.{Assessed}
use Rattle.grid.specs.Steps.{step_of}
use Rattle.areas_assessments.specs.Stored.{PairsAscending, Inserted, Late}
use Rattle.areas_assessments.specs.Holding.{PairsListed, HoldsAssessment, Advances, StepRoom, Grown}
use Rattle.areas_assessments.proofs.Including.{once_last}
use Rattle.areas_assessments.proofs.Listing.{listed-put}
use Rattle.order.proofs.Numbers.{up-last}

module _ (ls : List ℕ) (ds : List Edge) (e : Edge) where
  kept_same : label_at ls e.left ≡ label_at ls e.right → keep (is_separated ls) (ds ++ (e ∷ [])) ≡ keep (is_separated ls) ds
  unfolding keep
  kept_same h =
      let f : is_separated ls e ≡ false = rw (eq-eqb (label_at ls e.left) (label_at ls e.right) h) in
      keep_append (is_separated ls) ds (e ∷ []) ∙ (ap (λ (b : _). keep (is_separated ls) ds ++ cond b (e ∷ []) []) f ∙ append-nil (keep (is_separated ls) ds))

  kept_more : (label_at ls e.left ≡ label_at ls e.right → ⊥) → keep (is_separated ls) (ds ++ (e ∷ [])) ≡ keep (is_separated ls) ds ++ (e ∷ [])
  unfolding keep
  kept_more h =
      let f : is_separated ls e ≡ true = rw (ne_eqb (label_at ls e.left) (label_at ls e.right) h) in
      keep_append (is_separated ls) ds (e ∷ []) ∙ ap (λ (b : _). keep (is_separated ls) ds ++ cond b (e ∷ []) []) f

  one_more : length (ds ++ (e ∷ [])) ≡ length ds + 1
  one_more = length-append ds (e ∷ [])

  pairs-more : (label_at ls e.left ≡ label_at ls e.right → ⊥)
      → (assessment ls (ds ++ (e ∷ []))).pairs ≡ include (by_key pair_key) (label_pair ls e) (assessment ls ds).pairs
  unfolding assessment
  pairs-more h =
      ap (λ (z : List Edge). sort_once_by pair_key (map (label_pair ls) z)) (kept_more h)
      ∙ (ap (sort_once_by pair_key) (map-append (label_pair ls) (keep (is_separated ls) ds) (e ∷ []))
      ∙ once_last pair-order (label_pair ls e) (map (label_pair ls) (keep (is_separated ls) ds)))

-- no step
pub advance-none : (ls : List ℕ) {es : List Edge} {most start : ℕ} {lefts rights : List ℕ} {s : Assessed} → es ≡ []
    → Advances most ls es start lefts rights s lefts rights s
advance-none ls {es} {most} {start} {lefts} {rights} {s} h lefts₀ rights₀ ds was =
    subst (λ (z : List Edge). HoldsAssessment most (assessment ls z) lefts₀ rights₀ start lefts rights s)
    (sym (ap (λ (z : List Edge). ds ++ z) h ∙ append-nil ds)) was

module _ (ls : List ℕ) (e : Edge) {most start : ℕ} {lefts rights : List ℕ} {s : Assessed} where
  -- a step whose labels are equal
  pub advance-same : {s' : Assessed} → label_at ls e.left ≡ label_at ls e.right → s'.removed ≡ s.removed + 1 → s'.separated ≡ s.separated
      → s'.end ≡ s.end →
      Advances most ls (e ∷ []) start lefts rights s lefts rights s'
  unfolding assessment
  advance-same {s'} h er es ee lefts₀ rights₀ ds was = record {
    removed = omega (arith, er, was.removed, one_more ls ds e);
    separated = es ∙ (was.separated ∙ ap length (sym (kept_same ls ds e h)));
    pairs = subst (λ (ps : List RegionPair). PairsListed most ps lefts₀ rights₀ start lefts rights s'.end)
        (ap (λ (z : List Edge). sort_once_by pair_key (map (label_pair ls) z)) (sym (kept_same ls ds e h)))
        (subst (λ (k : ℕ). PairsListed most (assessment ls ds).pairs lefts₀ rights₀ start lefts rights k) (sym ee) was.pairs);
  }

  -- a step whose labels differ
  pub advance-put : {lefts' rights' : List ℕ} {s' : Assessed} (p : RegionPair) → (label_at ls e.left ≡ label_at ls e.right → ⊥) → p ≡ label_pair ls e →
      s'.removed ≡ s.removed + 1 → s'.separated ≡ s.separated + 1 → Late most lefts rights lefts' rights' s.end s'.end →
      (s.end ≤ most → PairsAscending lefts rights start s.end → Inserted most p lefts rights lefts' rights' start s.end s'.end) →
      Advances most ls (e ∷ []) start lefts rights s lefts' rights' s'
  unfolding assessment
  advance-put {lefts'} {rights'} {s'} p h ep er es late ins lefts₀ rights₀ ds was = record {
    removed = omega (arith, er, was.removed, one_more ls ds e);
    separated = omega (arith, es, was.separated, ap length (kept_more ls ds e h), length-append (keep (is_separated ls) ds) (e ∷ []));
    pairs = subst (λ (ps : List RegionPair). PairsListed most ps lefts₀ rights₀ start lefts' rights' s'.end)
        (ap (λ (q : RegionPair). include (by_key pair_key) q (assessment ls ds).pairs) ep ∙ sym (pairs-more ls ds e h))
        (listed-put (map (label_pair ls) (keep (is_separated ls) ds)) was.pairs p late ins);
  }

-- A loop over k from first on, each turn of which assesses the steps f k: at k the steps before it are assessed, at most m.
pub record Going (ls : List ℕ) (f : ℕ → List Edge) (first start : ℕ) (lefts₀ rights₀ : List ℕ) (s₀ : Assessed) (lefts rights : List ℕ) (s : Assessed)
    (k m : ℕ) : Type 0 where
  pub reached : first ≤ k
  pub lefts-are : length lefts ≡ length lefts₀
  pub rights-are : length rights ≡ length rights₀
  pub grown : Grown (length lefts₀) start m s₀ s
  pub did : Advances (length lefts₀) ls (gather f (up_from first (k - first))) start lefts₀ rights₀ s₀ lefts rights s

module _ (ls : List ℕ) (f : ℕ → List Edge) {first start : ℕ} {lefts₀ rights₀ : List ℕ} {s₀ : Assessed} where
  pub going_start : (m p : ℕ) → StepRoom start p lefts₀ rights₀ s₀ → Going ls f first start lefts₀ rights₀ s₀ lefts₀ rights₀ s₀ first m
  unfolding up_from gather
  going_start m p r =
      let e : first - first ≡ 0 = omega arith in
      record {
        reached = omega arith;
        lefts-are = refl;
        rights-are = refl;
        grown = record { from = r.from; to = r.to; removed = omega arith; separated = omega arith };
        did = advance-none ls (ap (λ (n : ℕ). gather f (up_from first n)) e);
      }

  module _ {lefts rights : List ℕ} {s : Assessed} {k m : ℕ} (g : Going ls f first start lefts₀ rights₀ s₀ lefts rights s k m) where
    -- there is room for p more
    pub going-room : (p q : ℕ) → StepRoom start p lefts₀ rights₀ s₀ → m + q ≤ p → StepRoom start q lefts rights s
    going-room p q r h = record {
      from = g.grown.from;
      to = omega (arith, g.grown.to, g.lefts-are);
      removed = omega (arith, g.grown.removed, r.removed);
      separated = omega (arith, g.grown.separated, r.separated);
      alike = omega (arith, g.lefts-are, g.rights-are, r.alike);
      few = omega (arith, g.lefts-are, r.few);
    }

    pub going_next : {lefts' rights' : List ℕ} {s' : Assessed} (m' q : ℕ) → m + q ≤ m' → length lefts' ≡ length lefts → length rights' ≡ length rights
        → Grown (length lefts) start q s s' →
        Advances (length lefts) ls (f k) start lefts rights s lefts' rights' s' → Going ls f first start lefts₀ rights₀ s₀ lefts' rights' s' (k + 1) m'
    going_next {lefts'} {rights'} {s'} m' q h el er grew adv = record {
      reached = omega (arith, g.reached);
      lefts-are = el ∙ g.lefts-are;
      rights-are = er ∙ g.rights-are;
      grown = record {
        from = grew.from;
        to = omega (arith, grew.to, g.lefts-are);
        removed = omega (arith, grew.removed, g.grown.removed);
        separated = omega (arith, grew.separated, g.grown.separated);
      };
      did = λ l r ds was.
          subst (λ (z : List Edge). HoldsAssessment (length lefts₀) (assessment ls z) l r start lefts' rights' s')
          (append_assoc ds (gather f (up_from first (k - first))) (f k) ∙ ap (λ (z : List Edge). ds ++ z) joined)
          (subst (λ (z : ℕ). Advances z ls (f k) start lefts rights s lefts' rights' s') g.lefts-are adv l r (ds ++ gather f (up_from first (k - first)))
          (g.did l r ds was));
    }
      where
        joined : gather f (up_from first (k - first)) ++ f k ≡ gather f (up_from first (k + 1 - first))
        joined =
            let e : k + 1 - first ≡ suc (k - first) = omega (arith, g.reached) in
            let d : first + (k - first) ≡ k = omega (arith, g.reached) in
            ap (λ (z : ℕ). gather f (up_from first (k - first)) ++ f z) (sym d)
            ∙ (sym (gather-last f (up_from first (k - first)) (first + (k - first)))
            ∙ (ap (gather f) (sym (up-last first (k - first))) ∙ ap (λ (z : ℕ). gather f (up_from first z)) (sym e)))

    -- all of them
    pub going_end : (n : ℕ) {es : List Edge} → k - first ≡ n → es ≡ gather f (up_from first n)
        → Advances (length lefts₀) ls es start lefts₀ rights₀ s₀ lefts rights s
    going_end n {es} e h =
        subst (λ (z : List Edge). Advances (length lefts₀) ls z start lefts₀ rights₀ s₀ lefts rights s) (ap (λ (z : ℕ). gather f (up_from first z)) e ∙ sym h)
        g.did

-- more may have been allowed
pub grown-more : {most start m : ℕ} {s t : Assessed} (n : ℕ) → Grown most start m s t → m ≤ n → Grown most start n s t
grown-more n g h = record { from = g.from; to = g.to; removed = omega (arith, g.removed); separated = omega (arith, g.separated) }

pub grown-none : {start m : ℕ} {lefts rights : List ℕ} {s : Assessed} (n : ℕ) → StepRoom start m lefts rights s → Grown (length lefts) start n s s
grown-none n r = record { from = r.from; to = r.to; removed = omega arith; separated = omega arith }

-- the labels x and y of two cells
module _ (bytes : List ℕ) {n i j x y : ℕ} (a : i < n) (b : j < n) (ex : x ≡ word bytes i) (ey : y ≡ word bytes j) where
  left-label : x ≡ label_at (labels_in bytes n) i
  left-label = ex ∙ sym (label-in bytes n i a)

  right-label : y ≡ label_at (labels_in bytes n) j
  right-label = ey ∙ sym (label-in bytes n j b)

  pub labels-alike : x ≡ y → label_at (labels_in bytes n) i ≡ label_at (labels_in bytes n) j
  labels-alike h = sym left-label ∙ (h ∙ right-label)

  pub labels_apart : (x ≡ y → ⊥) → label_at (labels_in bytes n) i ≡ label_at (labels_in bytes n) j → ⊥
  labels_apart h e = h (left-label ∙ (e ∙ sym right-label))

  pub label-pair : {lo hi : ℕ} → lo ≡ min x y → hi ≡ max x y → region_pair lo hi ≡ label_pair (labels_in bytes n) (step_of i j)
  label-pair e f = ap₂ region_pair (e ∙ ap₂ min left-label right-label) (f ∙ ap₂ max left-label right-label)

-- the same steps, told otherwise
pub advance-as : (ls : List ℕ) {ds es : List Edge} {most start : ℕ} {lefts rights lefts' rights' : List ℕ} {s s' : Assessed} → ds ≡ es →
    Advances most ls ds start lefts rights s lefts' rights' s' → Advances most ls es start lefts rights s lefts' rights' s'
advance-as ls {ds} {es} {most} {start} {lefts} {rights} {lefts'} {rights'} {s} {s'} e a =
    subst (λ (z : List Edge). Advances most ls z start lefts rights s lefts' rights' s') e a
