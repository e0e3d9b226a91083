-- The program choke-list, as a function of the bytes on its standard input (document 01, 'Corridor').
use Rattle.std.specs.Prelude.{ℕ, ◌≤◌, ◌≡◌, cond, List, [], ◌∷◌, ◌++◌, ltb, length, take, replicate}
use Rattle.answer_text.specs.Lines.{newline}
use Rattle.answer_text.specs.Answer.{Writes}
use Rattle.thresholds.specs.Block.{block000}
use Rattle.results.specs.Calls.{reduce_result}
use Rattle.printing.specs.Printed.{printed}

-- "lends 40,960 bytes of work"
abbrev pub lent_work : ℕ
lent_work = 40_960

-- "and 65,536 of answer"
abbrev pub lent_answer : ℕ
lent_answer = 65_536

-- What both hold at first.
abbrev pub zeros : ℕ → List ℕ
zeros n = replicate n 0

-- "input over 65,536 bytes prints `too large`"
abbrev pub most_input : ℕ
most_input = 65_536

abbrev pub too_large : List ℕ
too_large = (116 ∷ 111 ∷ 111 ∷ 32 ∷ 108 ∷ 97 ∷ 114 ∷ 103 ∷ 101 ∷ []) ++ newline

-- "reads a job from standard input, runs Reduce on it"; "the listing program lends those of source document 000": what it prints for an input.
unfoldable pub choke_list : List ℕ → List ℕ
unfolding printed reduce_result
choke_list input = cond (ltb most_input (length input)) too_large (printed (reduce_result input block000 (zeros lent_work) (zeros lent_answer)))

-- Reading an input into a buffer put n bytes at its start: as many of the input's first bytes as there are, or as the buffer holds.
pub record Reads (input buffer : List ℕ) (n : ℕ) : Type 0 where
  pub counted : n ≤ length buffer
  pub first : take n buffer ≡ take (length buffer) input

-- What was written at the start of out is printed for every input that reading left so in the buffer.
pub record PrintsRead (buffer : List ℕ) (n : ℕ) (out after : List ℕ) (r : ℕ) : Type 0 where
  pub for-input : (input : List ℕ) → Reads input buffer n → Writes (choke_list input) out 0 after r
