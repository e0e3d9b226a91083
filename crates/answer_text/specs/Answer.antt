-- The answer_text of an answer's bytes, and what a writer of text does to a lent slice.
use Rattle.std.specs.Prelude.{ℕ, ◌+◌, ◌*◌, ◌≤◌, ◌≡◌, Bool, cond, ◌&&◌, List, [], leb, length, take, drop}
use Rattle.wire.specs.Bytes.{splice, u32_at}
use Rattle.format.specs.Sizes.{answer_header_size, answer_boundary_size, observation_size, source_size}
use Rattle.format.specs.Records.{observation_at}
use Rattle.format.specs.Values.{Observation}
use Rattle.format.specs.Decode.{observation_records, source_records, decode_answer}
use Rattle.format.specs.declared.records.ObservationRecord.{ObservationRecord}
use Rattle.format.specs.declared.records.Source.{Source}
use Rattle.answer_text.specs.Lines.{answer_lines}
use Rattle.answer_text.specs.declared.walk.Cursor.{Cursor}

-- There is room for a text at a place of a slice.
abbrev pub TextRoom : List ℕ → List ℕ → ℕ → Type 0
TextRoom text out at = at + length text ≤ length out

-- A text was written at a place of a slice, and nothing else; it ends at r.
pub record Writes (text out : List ℕ) (at : ℕ) (after : List ℕ) (r : ℕ) : Type 0 where
  pub is : after ≡ splice out at text
  pub end : r ≡ at + length text

-- The observations and the sources that a cursor has not passed.
abbrev pub observations_at : List ℕ → Cursor → List ObservationRecord
observations_at s c = observation_records s c.observation c.observations

abbrev pub sources_at : List ℕ → Cursor → List Source
sources_at s c = source_records s c.source c.sources

-- The next observation, with the next sources.
unfoldable pub observation_here : List ℕ → Cursor → Observation
observation_here s c = record {
  ends = (observation_at s c.observation).ends;
  bits = (observation_at s c.observation).bits;
  sources = take (observation_at s c.observation).sources (sources_at s c);
}

-- They lie in the answer.
pub record SectionsInside (s : List ℕ) (c : Cursor) : Type 0 where
  pub observations : c.observation + c.observations * observation_size ≤ length s
  pub sources : c.source + c.sources * source_size ≤ length s

-- The second cursor is past n more observations and m more sources than the first; past the end there are none.
pub record Moved (s : List ℕ) (c d : Cursor) (n m : ℕ) : Type 0 where
  pub inside : SectionsInside s d
  pub observations : observations_at s d ≡ drop n (observations_at s c)
  pub sources : sources_at s d ≡ drop m (sources_at s c)

-- The length that an answer's counts give it.
abbrev pub answer_length : List ℕ → ℕ
answer_length s = answer_header_size + u32_at s 0 * answer_boundary_size + u32_at s 4 * observation_size + u32_at s 8 * source_size

-- An answer that is there answer_whole, and room for its answer_text: thrice its length always suffices.
unfoldable pub answer_whole : List ℕ → ℕ → Bool
answer_whole s room = leb answer_header_size (length s) && (leb (answer_length s) (length s) && leb (answer_length s * 3) room)

-- What is written for an answer's bytes into a slice of a length: the answer_text, and nothing where the answer is not answer_whole or room is short.
unfoldable pub answer_text : List ℕ → ℕ → List ℕ
unfolding answer_whole answer_lines decode_answer
answer_text s room = cond (answer_whole s room) (answer_lines (decode_answer s)) []
