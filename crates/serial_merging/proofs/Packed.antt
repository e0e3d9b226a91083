-- Keys of coordinates and of sources, each pair of numbers of 32 bits in one number: the same order.
use mathlib.Core.Path.{◌≡◌, refl, ◌∙◌, ap}
use mathlib.Core.Bool.{Bool, true, false, cond}
use mathlib.Core.List.Permᴰ
use mathlib.Core.List.{List, [], ◌∷◌, ◌++◌, map, Memᴰ}
use Prim.Native.Nat.{ℕ}
use lib.Dec.{leb}
use Rattle.lists.specs.Rows.{All, none, more}
use Rattle.order.specs.Orders.{same}
use Rattle.order.specs.Sorting.{insert, sort, include, sort_once}
use Rattle.order.specs.Keys.{lex_le, by_key, sort_once_by, pack}
use Rattle.order.proofs.Members.{perm-mem}
use Rattle.order.proofs.Lexical.{lex-behind, lex-one}
use Rattle.order.proofs.Packed.{lex-pack}
use Rattle.order.proofs.Sort.{sort-perm}
use Rattle.position.specs.Order.{pos_le, swapped, canonical}
use Rattle.position.specs.declared.Span.{Span}
use Rattle.format.specs.Values.{Boundary}
use Rattle.format.specs.Fits.{SpanEncodable, SourceFits}
use Rattle.format.specs.declared.records.Source.{Source}
use Rattle.context.specs.Listing.{span_key, ends_key}
use Rattle.serial_merging.specs.Keys.{source_key, sources_key}

pub canonical-fits : (s : Span) → SpanEncodable s → SpanEncodable (canonical s)
unfolding canonical
canonical-fits s f = go (pos_le s.a s.b)
  where
    go : (t : Bool) → SpanEncodable (cond t s (swapped s))
    go true = f
    go false = record { a = f.b; b = f.a }

abbrev pub pack_first : Span → ℕ
pack_first s = pack s.a.x s.a.y

abbrev pub pack_second : Span → ℕ
pack_second s = pack s.b.x s.b.y

abbrev pub pack_source : Source → ℕ
pack_source s = pack s.from s.to

-- two spans, whatever follows
pub span-packed : (s t : Span) (l m : List ℕ) → SpanEncodable s → SpanEncodable t
    → lex_le (span_key s ++ l) (span_key t ++ m) ≡ lex_le (pack_first s ∷ pack_second s ∷ l) (pack_first t ∷ pack_second t ∷ m)
unfolding span_key
span-packed s t l m f g =
    lex-pack s.a.x s.a.y t.a.x t.a.y (s.b.x ∷ s.b.y ∷ l) (t.b.x ∷ t.b.y ∷ m) f.a.y g.a.y
    ∙ lex-behind (pack_first s) (pack_first t) (s.b.x ∷ s.b.y ∷ l) (t.b.x ∷ t.b.y ∷ m) (pack_second s ∷ l) (pack_second t ∷ m)
    (lex-pack s.b.x s.b.y t.b.x t.b.y l m f.b.y g.b.y)

pub ends-packed : (b c : Boundary) → SpanEncodable b.ends → SpanEncodable c.ends
    → lex_le (ends_key b) (ends_key c)
    ≡ lex_le (pack_first (canonical b.ends) ∷ pack_second (canonical b.ends) ∷ []) (pack_first (canonical c.ends) ∷ pack_second (canonical c.ends) ∷ [])
unfolding ends_key span_key
ends-packed b c f g = span-packed (canonical b.ends) (canonical c.ends) [] [] (canonical-fits b.ends f) (canonical-fits c.ends g)

pub source-packed : (s t : Source) → SourceFits s → SourceFits t → leb (pack_source s) (pack_source t) ≡ lex_le (source_key s) (source_key t)
unfolding source_key
source-packed s t f g = rw (lex-pack s.from s.to t.from t.to [] [] f.to g.to, lex-one (pack_source s) (pack_source t)) refl

pub sources-packed : (ss ts : List Source) → All SourceFits ss → All SourceFits ts
    → lex_le (sources_key ss) (sources_key ts) ≡ lex_le (map pack_source ss) (map pack_source ts)
unfolding sources_key lex_le
sources-packed [] ts f g = refl
sources-packed (s ∷ ss) [] f g = refl
sources-packed (s ∷ ss) (t ∷ ts) (more p f) (more q g) =
    lex-pack s.from s.to t.from t.to (sources_key ss) (sources_key ts) p.to q.to
    ∙ lex-behind (pack_source s) (pack_source t) (sources_key ss) (sources_key ts) (map pack_source ss) (map pack_source ts) (sources-packed ss ts f g)

-- sorting with each member once goes through a map that keeps the order of the members
module _ {A B : Type 0} (f : A → B) (le : A → A → Bool) (other : B → B → Bool) (P : A → Type 0) (h : (x y : A) → P x → P y → other (f x) (f y) ≡ le x y) where
  include-all : (a : A) {l : List A} → P a → All P l → All P (include le a l)
  unfolding include
  include-all a p none = more p none
  include-all a p (more {x} {xs} q k) = go (same le a x) (le a x) (include-all a p k)
    where
      go : (s t : Bool) → All P (include le a xs) → All P (cond s (x ∷ xs) (cond t (a ∷ x ∷ xs) (x ∷ include le a xs)))
      go true t i = more q k
      go false true i = more p (more q k)
      go false false i = more q i

  pub once-all : {l : List A} → All P l → All P (sort_once le l)
  unfolding sort_once
  once-all none = none
  once-all (more {x} p k) = include-all x p (once-all k)

  include-packed : (a : A) {l : List A} → P a → All P l → include other (f a) (map f l) ≡ map f (include le a l)
  unfolding include
  include-packed a p none = refl
  include-packed a p (more {x} {xs} q k) = rw (h a x p q, h x a q p) (go (same le a x) (le a x) (include-packed a p k))
    where
      go : (s t : Bool) → include other (f a) (map f xs) ≡ map f (include le a xs)
          → cond s (f x ∷ map f xs) (cond t (f a ∷ f x ∷ map f xs) (f x ∷ include other (f a) (map f xs))) ≡ map f
          (cond s (x ∷ xs) (cond t (a ∷ x ∷ xs) (x ∷ include le a xs)))
      go true t e = refl
      go false true e = refl
      go false false e = ap (λ (l : List B). f x ∷ l) e

  pub once-packed : {l : List A} → All P l → sort_once other (map f l) ≡ map f (sort_once le l)
  unfolding sort_once
  once-packed none = refl
  once-packed (more {x} p k) = rw (once-packed k) (include-packed x p (once-all k))

pub sources-once : (ss : List Source) → All SourceFits ss → map pack_source (sort_once_by source_key ss) ≡ sort_once leb (map pack_source ss)
sources-once ss a = rw (once-packed pack_source (by_key source_key) leb SourceFits source-packed a) refl

-- orders that agree on the members sort them alike
module _ {A : Type 0} (le other : A → A → Bool) where
  insert-alike : (a : A) (l : List A) → ((y : A) → Memᴰ y l → le a y ≡ other a y) → insert le a l ≡ insert other a l
  unfolding insert
  insert-alike a [] h = refl
  insert-alike a (x ∷ xs) h = rw (h x (Memᴰ.head refl), insert-alike a xs (λ y m. h y (Memᴰ.tail m))) refl

  pub sort-alike : (l : List A) → ((x y : A) → Memᴰ x l → Memᴰ y l → le x y ≡ other x y) → sort le l ≡ sort other l
  unfolding sort
  sort-alike [] h = refl
  sort-alike (x ∷ xs) h =
      ap (insert le x) (sort-alike xs (λ y z m n. h y z (Memᴰ.tail m) (Memᴰ.tail n)))
      ∙ insert-alike x (sort other xs) (λ y m. h x y (Memᴰ.head refl) (Memᴰ.tail (perm-mem (Permᴰ.symm (sort-perm other xs)) m)))

pub sources-fit : (ss : List Source) → All SourceFits ss → All SourceFits (sort_once_by source_key ss)
sources-fit ss a = once-all pack_source (by_key source_key) leb SourceFits source-packed a
