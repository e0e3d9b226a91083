-- Parts of a list of numbers, each sorted where it stands, with each number once.
use Rattle.std.specs.Prelude.{◌≡◌, List, ℕ, ◌+◌, ◌*◌, ◌≤◌, ◌<◌, leb, length, get_or}
use Rattle.wire.specs.Bytes.{part}
use Rattle.order.specs.Sorting.{sort_once}
use Rattle.format.specs.Sizes.{source_size}
use Rattle.format.specs.Decode.{source_records}
use Rattle.answer_sources.specs.Packed.{packed}
use Rattle.answer_sources.specs.Laying.{Apart}

-- The part of place w.
abbrev pub part_of : (keys starts counts : List ℕ) → ℕ → List ℕ
part_of keys starts counts w = part keys (get_or starts w 0) (get_or counts w 0)

-- The parts of n places are of the first so many sources, which are in the job, and there is room for their numbers.
pub record KeysRoom (s : List ℕ) (from n : ℕ) (keys starts counts : List ℕ) : Type 0 where
  pub total : ℕ
  pub starts-room : n ≤ length starts
  pub counts-room : n ≤ length counts
  pub clear : Apart starts counts total
  pub keys-room : total ≤ length keys
  pub sources-in : from + total * source_size ≤ length s

-- The parts of n places hold the numbers of the sources there.
pub record KeysRead (s : List ℕ) (from n : ℕ) (starts counts before keys : List ℕ) : Type 0 where
  pub long : length keys ≡ length before
  pub there : (q : ℕ) → q < n → part_of keys starts counts q ≡ packed (source_records s (from + get_or starts q 0 * source_size) (get_or counts q 0))

-- The parts of n places stand in `keys`, and there is room to sort each.
pub record PartsRoom (keys spare starts counts : List ℕ) (n : ℕ) : Type 0 where
  pub starts-room : n ≤ length starts
  pub counts-room : n ≤ length counts
  pub clear : Apart starts counts (length keys)
  pub spare-room : (q : ℕ) → get_or starts q 0 + get_or counts q 0 ≤ length spare

-- The parts of the places below q are sorted, the others as they were.
pub record Squeezed (starts keys₀ counts₀ keys counts : List ℕ) (q : ℕ) : Type 0 where
  pub keys-long : length keys ≡ length keys₀
  pub counts-long : length counts ≡ length counts₀
  pub less : (w : ℕ) → get_or counts w 0 ≤ get_or counts₀ w 0
  pub later : (w : ℕ) → q ≤ w → get_or counts w 0 ≡ get_or counts₀ w 0
  pub done : (w : ℕ) → w < q → part_of keys starts counts w ≡ sort_once leb (part_of keys₀ starts counts₀ w)
  pub todo : (w : ℕ) → q ≤ w → part_of keys starts counts₀ w ≡ part_of keys₀ starts counts₀ w
