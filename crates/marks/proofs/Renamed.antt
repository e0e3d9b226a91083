-- Records under small numbers have the marks of the records under their labels.
use mathlib.Core.Path.{◌≡◌, ap}
use mathlib.Core.List.{List}
use Prim.Native.Nat.{ℕ}
use Rattle.lists.proofs.Rows.{rows_same}
use Rattle.graph.specs.Records.{records_in}
use Rattle.graph.specs.Bridges.{mark_of}
use Rattle.graph.proofs.Renaming.{same-marks}
use Rattle.serial_bridges.specs.Names.{Labelled, EndNumbers}
use Rattle.serial_bridges.proofs.Small.{renaming}
use Rattle.marks_closing.specs.Marks.{bit, choke_marks}

pub renamed-marks : {K : ℕ} {lefts rights : List ℕ} {regions base : ℕ} {start work small_lefts small_rights : List ℕ} → Labelled K lefts rights regions
    → EndNumbers K lefts rights regions base start work small_lefts small_rights K → (owners : List ℕ) (n : ℕ)
    → choke_marks (records_in owners small_lefts small_rights K) n ≡ choke_marks (records_in owners lefts rights K) n
unfolding choke_marks
renamed-marks {K} {lefts} {rights} {small_lefts = small_lefts} {small_rights} L N owners n =
    rows_same n (λ b. bit (mark_of (records_in owners small_lefts small_rights K) b)) (λ b. bit (mark_of (records_in owners lefts rights K) b))
    (λ b l. ap bit (same-marks (renaming L N owners) b))
