-- Bare records in bytes, each three little-endian words: owner, left region, right region. What the driver's functions on them answer.
use Rattle.std.specs.Prelude.{◌≡◌, Bool, true, false, ◌&&◌, List, ◌++◌, ℕ, ◌+◌, ◌*◌, ◌-◌, ◌/◌, ◌%◌, ◌≤◌, ◌<◌, ltb, leb, length, get_or, drop, replicate}
use Rattle.lists.specs.Rows.{rows}
use Rattle.wire.specs.Bytes.{splice, u32_at}
use Rattle.graph.specs.Records.{Record}
use Rattle.serial_walk.specs.Marks.{bridge_marks}
use Rattle.marks_closing.specs.Marks.{choke_marks}
use Rattle.probe.specs.declared.bare_records.Fault.{Fault}
use Rattle.probe.specs.declared.bare_records.Fault.TheVariants.{Uneven, TooMany, Unfit, ShortMarks, Falling}

abbrev pub owner_at : List ℕ → ℕ → ℕ
owner_at s k = u32_at s (12 * k)

abbrev pub left_at : List ℕ → ℕ → ℕ
left_at s k = u32_at s (12 * k + 4)

abbrev pub right_at : List ℕ → ℕ → ℕ
right_at s k = u32_at s (12 * k + 8)

-- the first n records of the bytes
unfoldable pub records_at : List ℕ → ℕ → List Record
records_at s n = rows n (λ k. record { owner = owner_at s k; left = left_at s k; right = right_at s k })

-- the owner is below 256, and the regions are from 1 to `regions`
abbrev pub fitting : ℕ → ℕ → ℕ → ℕ → Bool
fitting owner left right regions = (((ltb owner 256 && ltb 0 left) && leb left regions) && ltb 0 right) && leb right regions

-- record k of the bytes is such
unfoldable pub fits_at : List ℕ → ℕ → ℕ → Bool
fits_at s regions k = fitting (owner_at s k) (left_at s k) (right_at s k) regions

-- the first n records stand in three lists of 4,096
pub record Loaded (s : List ℕ) (n : ℕ) (owners lefts rights : List ℕ) : Type 0 where
  pub owners-are : length owners ≡ 4096
  pub lefts-are : length lefts ≡ 4096
  pub rights-are : length rights ≡ 4096
  pub owner : (i : ℕ) → i < n → get_or owners i 0 ≡ owner_at s i
  pub left : (i : ℕ) → i < n → get_or lefts i 0 ≡ left_at s i
  pub right : (i : ℕ) → i < n → get_or rights i 0 ≡ right_at s i

-- the first n records fit
abbrev pub AllFit : List ℕ → ℕ → ℕ → Type 0
AllFit s regions n = (k : ℕ) → k < n → fits_at s regions k ≡ true

-- the owners of the first n records do not fall
abbrev pub OwnersRise : List ℕ → ℕ → Type 0
OwnersRise s n = (k : ℕ) → 0 < k → k < n → owner_at s (k - 1) ≤ owner_at s k

-- a list that can be marked, with so many regions and room for so many marks
pub record SoundList (s : List ℕ) (regions room : ℕ) : Type 0 where
  pub even : length s % 12 ≡ 0
  pub few : length s / 12 ≤ 4096
  pub fit : AllFit s regions (length s / 12)
  pub wide : 256 ≤ room

-- the number and the detail that a fault of a list has at C
abbrev pub fault_number : Fault → ℕ
fault_number Uneven = 1
fault_number (TooMany n) = 2
fault_number (Unfit k) = 3
fault_number ShortMarks = 4
fault_number (Falling k) = 5

abbrev pub fault_detail : Fault → ℕ
fault_detail Uneven = 0
fault_detail (TooMany n) = n
fault_detail (Unfit k) = k
fault_detail ShortMarks = 0
fault_detail (Falling k) = k

-- what is wrong with it, by number and detail; number 0 where nothing is
pub data ListCheck (s : List ℕ) (regions room number detail : ℕ) : Type 0 where
  uneven : (length s % 12 ≡ 0 → ⊥) → number ≡ 1 → detail ≡ 0 → ListCheck s regions room number detail
  many : length s % 12 ≡ 0 → 4096 < length s / 12 → number ≡ 2 → detail ≡ length s / 12 → ListCheck s regions room number detail
  unfit : (k : ℕ) → length s % 12 ≡ 0 → length s / 12 ≤ 4096 → k < length s / 12 → AllFit s regions k → fits_at s regions k ≡ false
      → number ≡ 3 → detail ≡ k → ListCheck s regions room number detail
  short : length s % 12 ≡ 0 → length s / 12 ≤ 4096 → AllFit s regions (length s / 12) → room < 256 → number ≡ 4 → detail ≡ 0
      → ListCheck s regions room number detail
  sound : SoundList s regions room → number ≡ 0 → detail ≡ length s / 12 → ListCheck s regions room number detail

-- work and marks are as they were
pub record Untouched (work marks work_end marks_end : List ℕ) : Type 0 where
  pub work-kept : work_end ≡ work
  pub marks-kept : marks_end ≡ marks

-- the table of words at the start of work is 0, and the first 256 marks are those that f gives the records
pub record MarksLeft (f : List Record → ℕ → List ℕ) (s work marks work_end marks_end : List ℕ) : Type 0 where
  pub work-is : work_end ≡ splice work 0 (replicate (4 * (length work / 4)) 0)
  pub marks-are : marks_end ≡ f (records_at s (length s / 12)) 256 ++ drop 256 marks

-- the bridges of bytes s, with work and marks at entry and at exit
pub data BridgesAnswer (s work marks work_end marks_end : List ℕ) (number detail : ℕ) : Type 0 where
  declined : ListCheck s (length work / 4) (length marks) number detail → 0 < number → Untouched work marks work_end marks_end
      → BridgesAnswer s work marks work_end marks_end number detail
  answered : ListCheck s (length work / 4) (length marks) number detail → number ≡ 0 → MarksLeft bridge_marks s work marks work_end marks_end
      → BridgesAnswer s work marks work_end marks_end number detail

-- their marks: after those checks, 5 where an owner is below the one before it
pub data ChokesAnswer (s work marks work_end marks_end : List ℕ) (number detail : ℕ) : Type 0 where
  refused : ListCheck s (length work / 4) (length marks) number detail → 0 < number → Untouched work marks work_end marks_end
      → ChokesAnswer s work marks work_end marks_end number detail
  falling : (k : ℕ) → SoundList s (length work / 4) (length marks) → 0 < k → k < length s / 12 → OwnersRise s k → owner_at s k < owner_at s (k - 1)
      → number ≡ 5 → detail ≡ k → Untouched work marks work_end marks_end → ChokesAnswer s work marks work_end marks_end number detail
  marked : ListCheck s (length work / 4) (length marks) number detail → number ≡ 0 → OwnersRise s (length s / 12)
      → MarksLeft choke_marks s work marks work_end marks_end → ChokesAnswer s work marks work_end marks_end number detail
