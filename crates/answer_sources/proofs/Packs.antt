-- Sources sorted as numbers, and observations compared by packed keys.
use mathlib.Core.Path.{◌≡◌, sym, ◌∙◌}
use mathlib.Core.List.{List, ◌∷◌}
use Prim.Native.Nat.{ℕ, ◌<◌}
use lib.Dec.{leb}
use Rattle.lists.specs.Rows.{All}
use Rattle.order.specs.Keys.{lex_le, by_key, pack}
use Rattle.order.specs.Sorting.{sort_once}
use Rattle.order.proofs.Lexical.{lex-behind}
use Rattle.order.proofs.Packed.{lex-pack}
use Rattle.format.specs.Values.{Observation}
use Rattle.format.specs.Fits.{SourceFits}
use Rattle.format.specs.declared.records.Source.{Source}
use Rattle.length.specs.Total.{total_key}
use Rattle.context.specs.Listing.{span_key}
use Rattle.serial_merging.specs.Keys.{sources_key, observation_key}
use Rattle.serial_merging.specs.Copies.{sorted_sources}
use Rattle.serial_merging.proofs.Packed.{sources-packed, sources-once}
use Rattle.answer_sources.specs.Packed.{source_pack, packed}

-- Sources sorted as numbers are the sorted sources.
pub sorted-packed : (ss : List Source) → All SourceFits ss → sort_once leb (packed ss) ≡ packed (sorted_sources ss)
unfolding packed source_pack
sorted-packed ss a = sym (sources-once ss a)

-- a pair packed, before lists that order alike
lex-two : (x y u v : ℕ) (xs ys xs' ys' : List ℕ) → y < 0x1_0000_0000 → v < 0x1_0000_0000 → lex_le xs ys ≡ lex_le xs' ys'
    → lex_le (pack x y ∷ xs) (pack u v ∷ ys) ≡ lex_le (x ∷ y ∷ xs') (u ∷ v ∷ ys')
lex-two x y u v xs ys xs' ys' h l e = sym (lex-pack x y u v xs ys h l) ∙ lex-behind x u (y ∷ xs) (v ∷ ys) (y ∷ xs') (v ∷ ys') (lex-behind y v xs ys xs' ys' e)

sources-le : (ss ts : List Source) → All SourceFits ss → All SourceFits ts → lex_le (packed ss) (packed ts) ≡ lex_le (sources_key ss) (sources_key ts)
unfolding packed source_pack
sources-le ss ts a b = sym (sources-packed ss ts a b)

-- Two observations' keys, ends and sources packed.
pub observation-le : (o p : Observation) → o.ends.a.y < 0x1_0000_0000 → o.ends.b.y < 0x1_0000_0000 → p.ends.a.y < 0x1_0000_0000
    → p.ends.b.y < 0x1_0000_0000
    → All SourceFits o.sources → All SourceFits p.sources
    → lex_le (pack o.ends.a.x o.ends.a.y ∷ pack o.ends.b.x o.ends.b.y ∷ total_key o.bits ∷ packed o.sources)
    (pack p.ends.a.x p.ends.a.y ∷ pack p.ends.b.x p.ends.b.y ∷ total_key p.bits ∷ packed p.sources)
    ≡ by_key observation_key o p
unfolding observation_key span_key
observation-le o p a b c d e f =
    lex-two o.ends.a.x o.ends.a.y p.ends.a.x p.ends.a.y
    (pack o.ends.b.x o.ends.b.y ∷ total_key o.bits ∷ packed o.sources)
    (pack p.ends.b.x p.ends.b.y ∷ total_key p.bits ∷ packed p.sources)
    (o.ends.b.x ∷ o.ends.b.y ∷ total_key o.bits ∷ sources_key o.sources)
    (p.ends.b.x ∷ p.ends.b.y ∷ total_key p.bits ∷ sources_key p.sources)
    a c
    (lex-two o.ends.b.x o.ends.b.y p.ends.b.x p.ends.b.y
    (total_key o.bits ∷ packed o.sources)
    (total_key p.bits ∷ packed p.sources)
    (total_key o.bits ∷ sources_key o.sources)
    (total_key p.bits ∷ sources_key p.sources)
    b d
    (lex-behind (total_key o.bits) (total_key p.bits) (packed o.sources) (packed p.sources) (sources_key o.sources) (sources_key p.sources)
    (sources-le o.sources p.sources e f)))
