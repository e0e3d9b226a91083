-- Small maps, by computing. The corridor of document 01: 4 × 1 walkable cells of elevation 0, spans (8,0)-(8,8) and (16,0)-(16,8) of width 8.
use mathlib.Core.Path.{◌≡◌, refl}
use mathlib.Core.Bool.{true, false}
use mathlib.Core.List.{List, [], ◌∷◌, map}
use Prim.Native.Nat.{ℕ}
use lib.Ieee.{binary64, neg, add, sub, mul, div, lt, le, of_bits, of_int, to_bits}
use Rattle.order.specs.Lists.{up_from}
use Rattle.order.specs.Tests.{every}
use Rattle.length.specs.Root.{is_square}
use Rattle.length.specs.Length.{length_of}
use Rattle.position.specs.declared.WalkPosition.{WalkPosition}
use Rattle.position.specs.declared.Span.{Span}
use Rattle.graph.specs.Labels.{count}
use Rattle.graph.specs.Parts.{component_of}
use Rattle.grid.specs.Cells.{Grid}
use Rattle.grid.specs.Directions.{eight}
use Rattle.areas.specs.Cases.{span_of}
use Rattle.serial_links.specs.Limits.{Limits, limits000}
use Rattle.serial_links.specs.Geometry.{squares}
use Rattle.order.specs.Sorting.{sort}
use Rattle.order.specs.Keys.{lex_le}
use Rattle.context.specs.Listing.{Item, ends_key, listing}
use Rattle.serial_groups.specs.Links.{LinkAt, links}
use Rattle.serial_groups.specs.Groups.{LinkGroup}
use Rattle.serial_groups.specs.Serial.{chain_sum, chain_total, end_distance, serial_groups}
use Rattle.serial_groups.specs.Flat.{accepted}
use Rattle.serial_groups.specs.Representative.{eligible, retained}
use Rattle.serial_groups.specs.Plan.{merge_plan}

-- a boundary of a width, with the span that stands for it
abbrev item_of : ℕ → Span → Span → Item
item_of bits ends span = record {
  boundary =
      record { ends = ends; bits = bits; ramp = record { end = 0; lower = 0; upper = 0; id = 0 }; sources = []; observations = [] };
  span = span;
}

-- of width 8, upright at a column of pixels
abbrev upright_at : ℕ → Item
upright_at x = item_of 0x4020_0000_0000_0000 (span_of x 0 x 8) (span_of x 0 x 8)

abbrev corridor : Grid
corridor = record { width = 4; height = 1; cells = 1 ∷ 1 ∷ 1 ∷ 1 ∷ [] }

abbrev items : List Item
items = upright_at 8 ∷ upright_at 16 ∷ []

abbrev link_over : ℕ → ℕ → ℕ → LinkAt
link_over r i j = record { region = r; first = i; second = j }

pub corridor-links : links eight corridor [] items ≡ link_over 2 0 1 ∷ []
unfolding links component_of count up_from
corridor-links = refl

pub corridor-accepted : accepted limits000 eight corridor [] items ≡ record { ranks = 0 ∷ 1 ∷ []; links = link_over 2 0 1 ∷ [] } ∷ []
unfolding accepted component_of count up_from length_of of_int of_bits to_bits neg add sub mul div lt le
corridor-accepted = refl

pub corridor-retained : retained limits000 items (0 ∷ 1 ∷ []) ≡ 0
unfolding retained length_of of_int of_bits to_bits neg add sub mul div lt le
corridor-retained = refl

pub corridor-plan : map (merge_plan limits000 eight corridor [] items) (0 ∷ 1 ∷ []) ≡ 0 ∷ 0 ∷ []
unfolding merge_plan component_of count up_from length_of of_int of_bits to_bits neg add sub mul div lt le
corridor-plan = refl

-- with an anchor in its second cell
abbrev anchored : List WalkPosition
anchored = record { x = 1; y = 0 } ∷ []

pub anchored-links : links eight corridor anchored items ≡ []
unfolding links component_of count up_from
anchored-links = refl

pub anchored-accepted : accepted limits000 eight corridor anchored items ≡ []
unfolding accepted component_of count up_from
anchored-accepted = refl

-- listed the other way round, one of them turned
corridor-listing : listing (upright_at 16 ∷ item_of 0 (span_of 8 8 8 0) (span_of 8 8 8 0) ∷ [])
    ≡ item_of 0 (span_of 8 8 8 0) (span_of 8 8 8 0) ∷ upright_at 16 ∷ []
unfolding ends_key sort lex_le
corridor-listing = refl

-- boundaries of one centre, which the spans of a list stand for
same-centre : links eight corridor [] (item_of 0 (span_of 8 0 8 8) (span_of 8 0 8 8) ∷ item_of 0 (span_of 4 4 12 4) (span_of 16 0 16 8) ∷ []) ≡ []
unfolding links component_of count up_from
same-centre = refl

-- three spans touch the middle of a fork
abbrev fork : Grid
fork = record { width = 3; height = 2; cells = 1 ∷ 1 ∷ 1 ∷ 0 ∷ 1 ∷ 0 ∷ [] }

three-touch : links eight fork [] (upright_at 8 ∷ item_of 0 (span_of 8 8 16 8) (span_of 8 8 16 8) ∷ upright_at 16 ∷ []) ≡ []
unfolding links component_of count up_from
three-touch = refl

-- three spans component_of a longer corridor: one serial group, and no flat one of what it leaves
abbrev long : Grid
long = record { width = 5; height = 1; cells = 1 ∷ 1 ∷ 1 ∷ 1 ∷ 1 ∷ [] }

abbrev three : List Item
three = upright_at 8 ∷ upright_at 16 ∷ upright_at 24 ∷ []

serial-three : accepted limits000 eight long [] three ≡ record { ranks = 0 ∷ 1 ∷ 2 ∷ []; links = link_over 2 0 1 ∷ link_over 3 1 2 ∷ [] } ∷ []
unfolding accepted component_of count up_from length_of of_int of_bits to_bits neg add sub mul div lt le
serial-three = refl

-- a column below one region makes its link fail: none of the chain's four spans is in a serial group
abbrev bulged : Grid
bulged = record {
  width = 5;
  height = 4;
  cells = 1 ∷ 1 ∷ 1 ∷ 1 ∷ 1 ∷ 0 ∷ 0 ∷ 0 ∷ 1 ∷ 0 ∷ 0 ∷ 0 ∷ 0 ∷ 1 ∷ 0 ∷ 0 ∷ 0 ∷ 0 ∷ 1 ∷ 0 ∷ [];
}

failing-rejects : serial_groups limits000 eight bulged [] (map upright_at (8 ∷ 16 ∷ 24 ∷ 32 ∷ [])) ≡ []
unfolding serial_groups component_of count up_from length_of of_int of_bits to_bits neg add sub mul div lt le
failing-rejects = refl

-- the middle one has the least sum
retained-middle : retained limits000 three (0 ∷ 1 ∷ 2 ∷ []) ≡ 1
unfolding retained length_of of_int of_bits to_bits neg add sub mul div lt le
retained-middle = refl

-- widths 16 and 8: at most the least and 8; 24 is over
wide : eligible limits000
    (item_of 0x4030_0000_0000_0000 (span_of 8 0 8 8) (span_of 8 0 8 8)
    ∷ upright_at 16 ∷ item_of 0x4038_0000_0000_0000 (span_of 24 0 24 8) (span_of 24 0 24 8) ∷ [])
    (0 ∷ 1 ∷ 2 ∷ []) ≡ 0 ∷ 1 ∷ []
unfolding eligible of_bits add lt le
wide = refl

-- centres that are √10 ÷ 2, √2 ÷ 2 and 1 ÷ 2 apart: the sum is taken in ascending order, where the order of the links gives another f64
abbrev uneven : List Item
uneven =
    item_of 0 (span_of 0 0 0 0) (span_of 0 0 0 0) ∷ item_of 0 (span_of 0 0 1 3) (span_of 0 0 1 3)
    ∷ item_of 0 (span_of 1 1 1 3) (span_of 1 1 1 3) ∷ item_of 0 (span_of 1 1 2 3) (span_of 1 1 2 3) ∷ []

ascending : chain_sum uneven (record { ranks = 0 ∷ 1 ∷ 2 ∷ 3 ∷ []; links = link_over 2 0 1 ∷ link_over 3 1 2 ∷ link_over 4 2 3 ∷ [] }) ≡ of_bits binary64
    0x4006_4E53_B70C_FC9C
unfolding chain_sum length_of of_bits to_bits add
ascending = refl

-- of its links the last alone is exact; the chain of that one is exact, and none with another
exact-links :
    map (λ (ks : List LinkAt). (chain_total uneven (record { ranks = []; links = ks })).exact)
    ((link_over 4 2 3 ∷ []) ∷ (link_over 2 0 1 ∷ link_over 4 2 3 ∷ []) ∷ (link_over 4 2 3 ∷ link_over 3 1 2 ∷ []) ∷ [])
    ≡ true ∷ false ∷ false ∷ []
unfolding every is_square squares
exact-links = refl

-- "A sum or end distance of exactly 384.0 passes; 384.5 doesn't": spans of a hall of 51 × 1 cells, the last of the second list aslant
abbrev hall : Grid
hall = record { width = 51; height = 1; cells = map (λ i. 1) (up_from 0 51) }

exactly-384 : accepted limits000 eight hall []
    (upright_at 8 ∷ upright_at 200 ∷ upright_at 392 ∷ []) ≡ record { ranks = 0 ∷ 1 ∷ 2 ∷ []; links = link_over 2 0 1 ∷ link_over 3 1 2 ∷ [] } ∷ []
unfolding accepted component_of count up_from length_of of_int of_bits to_bits neg add sub mul div lt le
exactly-384 = refl

over-384 : accepted limits000 eight hall []
    (upright_at 8 ∷ upright_at 200 ∷ item_of 0x4020_0000_0000_0000 (span_of 392 0 393 8) (span_of 392 0 393 8) ∷ []) ≡ []
unfolding accepted component_of count up_from length_of of_int of_bits to_bits neg add sub mul div lt le
over-384 = refl

-- a fifth boundary rejects the whole chain, serial and flat
five : accepted limits000 eight (record { width = 6; height = 1; cells = map (λ i. 1) (up_from 0 6) }) [] (map upright_at (8 ∷ 16 ∷ 24 ∷ 32 ∷ 40 ∷ [])) ≡ []
unfolding accepted component_of count up_from length_of of_int of_bits to_bits neg add sub mul div lt le
five = refl

-- Thresholds of a studio's own: the group sizes, the others those of source document 000.
abbrev sized : ℕ → ℕ → Limits
sized least most = record {
  least_spans = least;
  most_spans = most;
  chain = limits000.chain;
  width = limits000.width;
  geometry = limits000.geometry;
  duplicate = limits000.duplicate;
  envelope = limits000.envelope;
  cosine = limits000.cosine;
}

-- with five as the largest the chain of five is one serial group
five-of-five :
    accepted (sized 3 5) eight (record { width = 6; height = 1; cells = map (λ i. 1) (up_from 0 6) }) [] (map upright_at (8 ∷ 16 ∷ 24 ∷ 32 ∷ 40 ∷ []))
    ≡ record { ranks = 0 ∷ 1 ∷ 2 ∷ 3 ∷ 4 ∷ []; links = link_over 2 0 1 ∷ link_over 3 1 2 ∷ link_over 4 2 3 ∷ link_over 5 3 4 ∷ [] } ∷ []
unfolding accepted component_of count up_from length_of of_int of_bits to_bits neg add sub mul div lt le
five-of-five = refl

-- two bridges are no serial group of at least three, and one of at least two; a flat group has two in either case
two-of-three : serial_groups limits000 eight corridor [] items ≡ []
unfolding serial_groups component_of count up_from length_of of_int of_bits to_bits neg add sub mul div lt le
two-of-three = refl

two-of-two : serial_groups (sized 2 2) eight corridor [] items ≡ record { ranks = 0 ∷ 1 ∷ []; links = link_over 2 0 1 ∷ [] } ∷ []
unfolding serial_groups component_of count up_from length_of of_int of_bits to_bits neg add sub mul div lt le
two-of-two = refl

flat-two : accepted (sized 16 16) eight corridor [] items ≡ record { ranks = 0 ∷ 1 ∷ []; links = link_over 2 0 1 ∷ [] } ∷ []
unfolding accepted component_of count up_from length_of of_int of_bits to_bits neg add sub mul div lt le
flat-two = refl

-- centres in line, one and three steps of (8, 8) pixels apart: as f64s the ends are further apart than the sum, so with the sum as the limit the sum passes and
-- the ends don't
abbrev aslant : List Item
aslant =
    item_of 0 (span_of 0 8 8 0) (span_of 0 8 8 0) ∷ item_of 0 (span_of 8 16 16 8) (span_of 8 16 16 8)
    ∷ item_of 0 (span_of 32 40 40 32) (span_of 32 40 40 32) ∷ []

abbrev in_line : LinkGroup
in_line = record { ranks = 0 ∷ 1 ∷ 2 ∷ []; links = link_over 2 0 1 ∷ link_over 3 1 2 ∷ [] }

ends-beyond-sum : (chain_sum aslant in_line ≡ of_bits binary64 0x4046_A09E_667F_3BCC) × (end_distance aslant in_line ≡ of_bits binary64 0x4046_A09E_667F_3BCD)
unfolding chain_sum end_distance length_of of_bits to_bits add
ends-beyond-sum = (refl, refl)
