-- The bytes of an answer, piece by piece, from what was gathered of the kept boundaries.

use Rattle.std.specs.Prelude.{cond, ℕ, zero, suc, ◌+◌, ◌-◌, ◌/◌, ◌%◌, ltb, length, get_or}
use mathlib.Core.List.{List, [], ◌++◌, flat_map}
use Rattle.wire.specs.Bytes.{u32_bytes}
use Rattle.position.specs.Order.{canonical}
use Rattle.position.specs.declared.Span.{Span}
use Rattle.format.specs.Records.{source_bytes, boundary_bytes, observation_bytes}
use Rattle.format.specs.Decode.{ramp_of}
use Rattle.format.specs.Encode.{ramp_record, answer_words}
use Rattle.format.specs.declared.records.Source.{Source}
use Rattle.format.specs.declared.records.BoundaryRecord.{BoundaryRecord}
use Rattle.format.specs.Records.{observation_words}
use Rattle.order.specs.Keys.{sort_by}
use Rattle.serial_merging.specs.Keys.{source_key}
use Rattle.answer_sorting.specs.Parts.{placed_sources}
use Rattle.answer_sources.specs.Laying.{sum_below, elements}
use Rattle.answer_sources.specs.Placed.{boundary_rows}
use Rattle.answer_sources.specs.Squeezed.{part_of}

-- n pieces, one after another.
unfoldable pub pieces : ℕ → (ℕ → List ℕ) → List ℕ
pieces zero f = []
pieces (suc n) f = pieces n f ++ f n

-- What two numbers packed in one were.
unfoldable pub key_source : ℕ → Source
key_source v = record { from = v / 0x1_0000_0000; to = v % 0x1_0000_0000 }

unfoldable pub key_span : ℕ → ℕ → Span
key_span v w = record { a = record { x = v / 0x1_0000_0000; y = v % 0x1_0000_0000 }; b = record { x = w / 0x1_0000_0000; y = w % 0x1_0000_0000 } }

-- The bit pattern whose place in the total order it is.
unfoldable pub key_bits : ℕ → ℕ
key_bits v =
    cond (ltb v 0x8000_0000_0000_0000) (0xFFFF_FFFF_FFFF_FFFF - v) (cond (ltb v 0x1_0000_0000_0000_0000) (v - 0x8000_0000_0000_0000) v)

-- A kept boundary's record, from the job's with other counts.
unfoldable pub kept_record : BoundaryRecord → ℕ → ℕ → BoundaryRecord
kept_record x own seen = record { ends = canonical x.ends; bits = x.bits; sources = own; observations = seen; ramp = ramp_record (ramp_of x.ramp) }

unfoldable pub kept_piece : (bs : ℕ → BoundaryRecord) (kept owns seens : List ℕ) → ℕ → List ℕ
kept_piece bs kept owns seens k = boundary_bytes (kept_record (bs (get_or kept k 0)) (get_or owns k 0) (get_or seens k 0))

-- The source whose number stands at place i.
unfoldable pub key_piece : (keys : List ℕ) → ℕ → List ℕ
key_piece keys i = source_bytes (key_source (get_or keys i 0))

-- Those of the numbers from `from` on.
abbrev pub run_from : (keys : List ℕ) (from n : ℕ) → List ℕ
run_from keys from n = pieces n (λ i. key_piece keys (from + i))

-- How many sources the observation at place p has, and their bytes.
abbrev pub run_length : (starts counts keys : List ℕ) → ℕ → ℕ
run_length starts counts keys p = length (part_of keys starts counts p)

unfoldable pub place_run : (starts counts keys : List ℕ) → ℕ → List ℕ
place_run starts counts keys p = run_from keys (get_or starts p 0) (run_length starts counts keys p)

-- The record of the observation at place p.
unfoldable pub place_piece : (first second third starts counts keys : List ℕ) → ℕ → List ℕ
place_piece first second third starts counts keys p =
    observation_bytes (observation_words (key_span (get_or first p 0) (get_or second p 0)) (key_bits (get_or third p 0)) (run_length starts counts keys p))

-- The sources of the n observations whose places stand from `from` on.
abbrev pub runs_from : (seen starts counts keys : List ℕ) (from n : ℕ) → List ℕ
runs_from seen starts counts keys from n = pieces n (λ i. place_run starts counts keys (get_or seen (from + i) 0))

-- The bytes of own sources, sorted: of the job's from `from` on those whose places stand in `owned` from a on, n of them.
unfoldable pub own_piece : (s : List ℕ) (from : ℕ) (owned : List ℕ) (a n : ℕ) → List ℕ
own_piece s from owned a n = flat_map source_bytes (sort_by source_key (placed_sources s from owned a n))

-- "Each boundary's own, then those of its observations."
unfoldable pub group_piece : (s : List ℕ) (from : ℕ) (owns seens owned seen starts counts keys : List ℕ) → ℕ → List ℕ
group_piece s from owns seens owned seen starts counts keys k =
    own_piece s from owned (sum_below (elements owns) k) (get_or owns k 0)
    ++ runs_from seen starts counts keys (sum_below (elements seens) k) (get_or seens k 0)

-- How many sources the first n of the observations have.
abbrev pub cited_total : (seen starts counts keys : List ℕ) → ℕ → ℕ
cited_total seen starts counts keys n = sum_below (λ q. run_length starts counts keys (get_or seen q 0)) n

-- An answer's sections: boundaries, observations, sources.
abbrev pub section_bytes : (s : List ℕ) (at from count : ℕ) (kept owns seens owned seen first second third starts counts keys : List ℕ) → List ℕ
section_bytes s at from count kept owns seens owned seen first second third starts counts keys =
    pieces count (kept_piece (boundary_rows s at) kept owns seens)
    ++ (pieces (sum_below (elements seens) count) (λ q. place_piece first second third starts counts keys (get_or seen q 0))
    ++ pieces count (group_piece s from owns seens owned seen starts counts keys))

-- The header's words, then the sections.
unfoldable pub written_bytes : (s : List ℕ) (at from count : ℕ) (kept owns seens owned seen first second third starts counts keys : List ℕ) → List ℕ
written_bytes s at from count kept owns seens owned seen first second third starts counts keys =
    flat_map u32_bytes (answer_words count (sum_below (elements seens) count)
    (sum_below (elements owns) count + cited_total seen starts counts keys (sum_below (elements seens) count)))
    ++ section_bytes s at from count kept owns seens owned seen first second third starts counts keys
