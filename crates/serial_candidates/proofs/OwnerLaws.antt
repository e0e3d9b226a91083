-- The arrays of a listing's records: what each rank has of them, and which ranks can be linked.
use mathlib.Core.Path.{◌≡◌, refl, sym, ◌∙◌, ap}
use mathlib.Core.Logic.{⊎_elim}
use mathlib.Core.Bool.{not, ◌&&◌}
use mathlib.Core.List.Memᴰ
use mathlib.Core.List.{List, [], ◌∷◌, ◌++◌, map, append-nil, Memᴰ}
use Prim.Native.Nat.{ℕ, zero, suc, ◌+◌, ◌<◌, ◌≤◌}
use native.Mathlib.Omega.{arith}
use borrow.Author.Tests.{eq-eqb, ne_eqb}
use lib.Dec.{eqb}
use lib.ListN.{length, get_or, length-map, get_or-map}
use Rattle.order.specs.Lists.{keep}
use Rattle.order.specs.Pairs.{Pairs, none, more}
use Rattle.order.proofs.Keep.{keep_append, keep_all, keep-none}
use Rattle.order.proofs.Pairs.{pairs-append}
use Rattle.position.specs.declared.Span.{Span}
use Rattle.graph.specs.Records.{Record, record_in, records_in, no_record}
use Rattle.grid.specs.Cells.{Grid}
use Rattle.areas.specs.Assessments.{RegionPair, record_of, owned, assess, records}
use Rattle.position.specs.Order.{pos_same}
use Rattle.context.specs.Numbers.{is_full}
use Rattle.context.specs.FullPair.{no_pair, has_full_pair}
use Rattle.context.specs.Listing.{Item}
use Rattle.serial_groups.specs.Listing.{no_item, no_span, spans_of}
use Rattle.serial_groups.specs.Regions.{assess_at}
use Rattle.serial_groups.specs.Links.{linkable}
use Rattle.serial_groups.specs.Tables.{Boundaries, Counted, Paired, FirstPairs}
use Rattle.serial_candidates.specs.Owners.{owner_records, Firsts}
use Rattle.serial_candidates.specs.Linkable.{can_link}

of-rank : (s : ℕ) (ps : List RegionPair) {r : Record} → Memᴰ r (map (record_of s) ps) → r.owner ≡ s
of-rank s ps m = let w = Memᴰ.of_map (record_of s) ps m in sym (ap (λ (r : Record). r.owner) w.2)

owned-from : (s : ℕ) (pss : List (List RegionPair)) {r : Record} → Memᴰ r (owned s pss) → s ≤ r.owner
unfolding owned
owned-from s [] m = absurd (Memᴰ.not-nil m)
owned-from s (ps ∷ rest) {r} m =
    ⊎_elim (λ (k : Memᴰ r (map (record_of s) ps)). omega (arith, of-rank s ps k))
    (λ (k : Memᴰ r (owned (suc s) rest)). omega (arith, owned-from (suc s) rest k)) (Memᴰ.append_cases (map (record_of s) ps) m)

-- the records are by rising ranks
pub owned-rising : (s : ℕ) (pss : List (List RegionPair)) → Pairs (λ (a b : Record). a.owner ≤ b.owner) (owned s pss)
unfolding owned
owned-rising s [] = none
owned-rising s (ps ∷ rest) = pairs-append (level ps) (owned-rising (suc s) rest)
    (λ x y (m : Memᴰ x (map (record_of s) ps)) (k : Memᴰ y (owned (suc s) rest)). omega (arith, of-rank s ps m, owned-from (suc s) rest k))
  where
    level : (ps : List RegionPair) → Pairs (λ (a b : Record). a.owner ≤ b.owner) (map (record_of s) ps)
    level [] = none
    level (p ∷ qs) = more {x = record_of s p} (λ y m. omega (arith, of-rank s qs m)) (level qs)

own_of : (d : List RegionPair) (j i s : ℕ) (pss : List (List RegionPair)) → j ≡ s + i → i < length pss
    → keep (λ (r : Record). eqb r.owner j) (owned s pss) ≡ map (record_of j) (get_or pss i d)
unfolding owned
own_of d j i s [] e h = absurd (omega arith)
own_of d j zero s (ps ∷ rest) e h =
    keep_append (λ (r : Record). eqb r.owner j) (map (record_of s) ps) (owned (suc s) rest)
    ∙ (ap (λ (l : List Record). keep (λ (r : Record). eqb r.owner j) (map (record_of s) ps) ++ l)
    (keep-none (λ (r : Record). eqb r.owner j) (owned (suc s) rest)
    (λ r m. let k = owned-from (suc s) rest m in ne_eqb r.owner j (λ z. omega arith)))
    ∙ (append-nil (keep (λ (r : Record). eqb r.owner j) (map (record_of s) ps))
    ∙ (keep_all (λ (r : Record). eqb r.owner j) (map (record_of s) ps) (λ r m. let k = of-rank s ps m in eq-eqb r.owner j (omega arith))
    ∙ ap (λ (n : ℕ). map (record_of n) ps) (let z : s ≡ j = omega arith in z))))
own_of d j (suc i) s (ps ∷ rest) e h =
    keep_append (λ (r : Record). eqb r.owner j) (map (record_of s) ps) (owned (suc s) rest)
    ∙ (ap (λ (l : List Record). l ++ keep (λ (r : Record). eqb r.owner j) (owned (suc s) rest))
    (keep-none (λ (r : Record). eqb r.owner j) (map (record_of s) ps) (λ r m. let k = of-rank s ps m in ne_eqb r.owner j (λ z. omega arith)))
    ∙ own_of d j i (suc s) rest (omega arith) (omega arith))

first-lower : (i : ℕ) (ps : List RegionPair) → (get_or (map (record_of i) ps) 0 no_record).left ≡ (get_or ps 0 no_pair).lower
first-lower i [] = refl
first-lower i (p ∷ ps) = refl

first-higher : (i : ℕ) (ps : List RegionPair) → (get_or (map (record_of i) ps) 0 no_record).right ≡ (get_or ps 0 no_pair).higher
first-higher i [] = refl
first-higher i (p ∷ ps) = refl

same-link : {s t : Span} {a b x y p q u v : ℕ} → s ≡ t → a ≡ b → x ≡ y → p ≡ q → u ≡ v
    → ((not (pos_same s.a s.b) && eqb a 0) && is_full x p u) ≡ ((not (pos_same t.a t.b) && eqb b 0) && is_full y q v)
same-link e f g h k = rw (e, f, g, h, k)

module _ (dirs : List ℕ) (g : Grid) (l : List Item) where
  pairs_at : Span → List RegionPair
  pairs_at s = (assess dirs g (spans_of l) s).pairs

  -- the span of a rank
  pub span_of : (i : ℕ) → get_or (spans_of l) i no_span ≡ (get_or l i no_item).span
  span_of i = get_or-map (λ (x : Item). x.span) l i no_item

  pub owner-pairs : {owners lefts rights : List ℕ} {n : ℕ} → Paired dirs g l owners lefts rights n → (i : ℕ) → i < length l
      → owner_records (record_in owners lefts rights) n i ≡ map (record_of i) (assess_at dirs g l i).pairs
  unfolding owner_records records_in records assess_at pairs_at
  owner-pairs w i h =
      ap (keep (λ (r : Record). eqb r.owner i)) w.all
      ∙ (own_of (pairs_at no_span) i i 0 (map pairs_at (spans_of l)) (omega arith)
      (omega (arith, length-map (spans_of l) pairs_at, length-map l (λ (x : Item). x.span)))
      ∙ ap (map (record_of i)) (get_or-map pairs_at (spans_of l) i no_span ∙ ap pairs_at (span_of i)))

  -- what the arrays say of first pairs is so
  pub first-pairs-are : {owners lefts rights counts lowers highers : List ℕ} {n : ℕ} → length l ≤ 256 → Paired dirs g l owners lefts rights n
      → Firsts owners lefts rights n counts lowers highers → FirstPairs dirs g l counts lowers highers
  first-pairs-are few w f = record {
    counts-are = λ i h. f.counts-are i (omega arith)
        ∙ (ap (λ (m : List Record). length m) (owner-pairs w i h) ∙ length-map (assess_at dirs g l i).pairs (record_of i));
    lower-is = λ i h. f.lower-is i (omega arith)
        ∙ (ap (λ (m : List Record). (get_or m 0 no_record).left) (owner-pairs w i h) ∙ first-lower i (assess_at dirs g l i).pairs);
    higher-is = λ i h. f.higher-is i (omega arith)
        ∙ (ap (λ (m : List Record). (get_or m 0 no_record).right) (owner-pairs w i h) ∙ first-higher i (assess_at dirs g l i).pairs);
  }

  -- what they say of the ranks that can be linked is so
  pub linkable-is : {own bits ramps removed separated counts lowers highers : List ℕ} → Boundaries l own bits ramps → Counted dirs g l removed separated
      → FirstPairs dirs g l counts lowers highers → (i : ℕ) → i < length l
      → can_link own ramps removed separated counts i ≡ linkable dirs g l i
  unfolding can_link linkable has_full_pair
  linkable-is b c f i h = same-link (sym (b.ends i h)) (sym (b.ramp-ends i h)) (c.removed-is i h) (c.separated-is i h) (f.counts-are i h)
