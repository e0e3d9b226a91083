-- What Mark leaves at each of its returns.
use mathlib.Core.Path.{◌≡◌, sym, ◌∙◌, ap}
use mathlib.Core.List.{List}
use mathlib.Core.Option.{none}
use Prim.Native.Nat.{ℕ, ◌+◌, ◌*◌, ◌-◌, ◌≤◌, ◌<◌}
use native.Mathlib.Omega.{arith}
use lib.ListN.{length, get_or, take, drop}
use Rattle.grid.specs.Cells.{map_of}
use Rattle.lists.specs.Rows.{rows}
use Rattle.lists.proofs.Rows.{rows_at, rows_same}
use Rattle.wire.specs.Bytes.{splice}
use Rattle.format.specs.Decode.{decode}
use Rattle.format.specs.declared.header.Header.{Header}
use Rattle.grid.specs.Directions.{directions_of}
use Rattle.grid.proofs.Directions.{directions-eight}
use Rattle.graph.specs.Records.{Record}
use Rattle.graph.specs.Bridges.{mark_of}
use Rattle.areas.specs.Assessments.{records}
use Rattle.areas.specs.Spans.{spans_in}
use Rattle.marks_closing.specs.Marks.{bit, choke_marks}
use Rattle.checks.specs.Numbers.{marks_too_short}
use Rattle.checks.specs.Checks.{first_refusal}
use Rattle.checks_calls.specs.Refusals.{mark_checks}
use Rattle.results.specs.Rules.{grid_of}
use Rattle.results.specs.Results.{work_size, max_pairs, own_ends, marks_of, mark_with, left_by}
use Rattle.results.specs.Returns.{PairAnswer, many, few}
use Rattle.results.specs.Calls.{mark_result}
use Rattle.results.proofs.Own.{boundary-count}
use Rattle.results.proofs.Results.{mark-many, mark-short, mark-success}
use Rattle.analysis.specs.Bridging.{MarkedWithin}
use Rattle.analysis.specs.Plans.{Headed, OwnJob, OwnEnds}
use Rattle.analysis.proofs.Headed.{headed-laid, count-is}
use Rattle.analysis.proofs.OwnEnds.{own-labels, own-records}
use Rattle.analysis.proofs.Within.{parted-many, parted-few}
use Rattle.chokes.specs.Marking.{Analysed, first_copied}

-- a partition by the spans in the array is one by the boundaries' own ends
pub own-analysed : {s : List ℕ} {h : Header} {work : List ℕ} (m : OwnJob s h work) {n count : ℕ} (e : n ≡ h.counts.width * h.counts.height)
    (k : count ≡ h.counts.boundaries) {ends : List ℕ} (o : OwnEnds s ends) (dirs : List ℕ) {after marks : List ℕ} {pairs : ℕ}
    → MarkedWithin max_pairs dirs (map_of h.counts.width h.counts.height (take (48 + n - 48) (drop 48 s))) (spans_in ends count) marks work after pairs
    → Analysed dirs (decode s) (own_ends (decode s)) work after marks pairs
own-analysed m e k o dirs r = rw (← own-records m e k o dirs, ← own-labels m e k o dirs) r

-- the boundaries
module _ {s : List ℕ} {h : Header} (d : Headed s h) {n : ℕ} (e : n ≡ h.counts.boundaries) where
  pub mark-few : n ≤ 256
  mark-few = omega (arith, (headed-laid d).within.boundaries)

  pub mark-count : n ≡ length (decode s).boundaries
  mark-count = e ∙ (count-is d ∙ sym (boundary-count s))

module _ (dirs s work marks : List ℕ) where
  module _ (e : first_refusal (mark_checks s) ≡ none) (w : work_size (decode s) ≤ length work) {after chokes : List ℕ} {pairs : ℕ}
      (y : Analysed dirs (decode s) (own_ends (decode s)) work after chokes pairs) where
    abbrev rs : List Record
    rs = records dirs (grid_of (decode s)) (own_ends (decode s))

    -- 13
    pub marked-many : {number detail : ℕ} → PairAnswer pairs number detail → 0 < number → left_by number detail after marks ≡ mark_with dirs s work marks
    marked-many (many h p q) l = rw (p, q, y.work-is) (mark-many dirs s work marks e w (parted-many y h))
    marked-many (few h p q) l = absurd (omega arith)

    -- 23
    pub mark-no-room : pairs ≤ max_pairs → length marks < length (decode s).boundaries → left_by marks_too_short 0 after marks ≡ mark_with dirs s work marks
    mark-no-room h l = rw y.work-is (sym (mark-short dirs s work marks e w (parted-few y h) l))

    marks-copied : pairs ≤ max_pairs → (n : ℕ) → n ≤ 256 → n ≡ length (decode s).boundaries → rows n (λ k. get_or chokes k 0) ≡ marks_of dirs (decode s)
    unfolding marks_of choke_marks
    marks-copied h n l z =
        rows_same n (λ k. get_or chokes k 0) (λ b. bit (mark_of rs b))
        (λ k i. ap (λ (b : List ℕ). get_or b k 0) (y.told (parted-few y h)) ∙ rows_at 256 (λ b. bit (mark_of rs b)) k 0 (omega arith))
        ∙ ap (λ m. rows m (λ b. bit (mark_of rs b))) z

    -- success
    pub mark-done : pairs ≤ max_pairs → {n : ℕ} → n ≤ 256 → n ≡ length (decode s).boundaries → n ≤ length marks → {out : List ℕ}
        → out ≡ first_copied chokes n marks
        → left_by 0 n after out ≡ mark_with dirs s work marks
    mark-done h {n} l z m {out} o =
        let c : out ≡ splice marks 0 (marks_of dirs (decode s)) = o ∙ ap (λ bs. splice marks 0 bs) (marks-copied h n l z) in
        let q = mark-success dirs s work marks e w (parted-few y h) (omega (arith, z)) in
        rw (c, z, y.work-is) (sym q)

-- with the eight directions it is the call's
pub mark-as : (s work marks : List ℕ) → mark_with (directions_of 495) s work marks ≡ mark_result s work marks
unfolding mark_result
mark-as s work marks = ap (λ (dirs : List ℕ). mark_with dirs s work marks) directions-eight
