-- A job past its checks, with its header: its cells, where its records stand, and its boundaries by rank.
use mathlib.Core.Path.{◌≡◌, ◌∙◌, ap, subst}
use mathlib.Core.Bool.{Bool, false, not, ◌&&◌, ◌||◌}
use mathlib.Core.List.{List}
use mathlib.Core.Option.{none}
use Prim.Native.Nat.{ℕ, ◌+◌, ◌*◌, ◌≤◌, ◌<◌}
use native.Mathlib.Nat.{mul-le-mul}
use native.Mathlib.Omega.{arith}
use borrow.Author.Tests.{leb-false}
use lib.Dec.{leb}
use lib.ListN.{length}
use Rattle.order.specs.Lists.{up_from}
use Rattle.order.specs.Sorting.{sort}
use Rattle.order.proofs.Bools.{or_parts}
use Rattle.wire.specs.Bytes.{splice}
use Rattle.position.specs.declared.WalkPosition.{WalkPosition}
use Rattle.format.specs.Bounds.{max_bases}
use Rattle.format.specs.Sizes.{base_size, boundary_size}
use Rattle.format.specs.Records.{base_at}
use Rattle.format.specs.Header.{header_at, counts_at, map_cells, bases_start}
use Rattle.format.specs.Decode.{decode}
use Rattle.format.specs.declared.header.Counts.{Counts}
use Rattle.format.specs.declared.header.Header.{Header}
use Rattle.context.specs.AnchorLoop.{AnchorsIn}
use Rattle.context.specs.Held.{is_none}
use Rattle.serial_ranks.specs.Tables.{KeysOf}
use Rattle.places.specs.Orders.{by_two}
use Rattle.checks.specs.Checks.{first_refusal, each}
use Rattle.checks.specs.Faults.{anchor_fault}
use Rattle.checks.specs.Passed.{Laid}
use Rattle.checks.specs.Single.{cell_check, base_check}
use Rattle.checks_calls.specs.Refusals.{job_checks, layout_checks, record_checks, boundary_checks}
use Rattle.checks.proofs.Firsts.{none_left, none_right, none-head, each_none}
use Rattle.checks.proofs.Limits.{cells-limit, sections}
use Rattle.checks_calls.proofs.Passing.{boundaries-passed}
use Rattle.analysis.specs.Plans.{RankedBy, Headed}
use Rattle.analysis.proofs.Checked.{boundaries_at, Checked, checked}
use Rattle.analysis.proofs.RankedTables.{ranks-of}
use Rattle.analysis.proofs.Mapped.{header-counts}

-- check 7: each base has no anchor, or one on the map
module _ (s : List ℕ) (c : Counts) (e : first_refusal (record_checks s c) ≡ none) where
  anchor-right : (k : ℕ) → k < c.bases → anchor_fault c.width c.height (base_at s (bases_start c + k * base_size)).anchor ≡ false
  unfolding record_checks base_check
  anchor-right k h =
      let a = none_right (each (map_cells c) (cell_check s)) _ e in
      let b = none_left (each c.bases (base_check s c.width c.height (bases_start c))) _ a in
      (none-head _ _ (each_none (base_check s c.width c.height (bases_start c)) c.bases k h b)).0

anchor-on : (width height : ℕ) (p : WalkPosition) → anchor_fault width height p ≡ false → is_none p ≡ false → p.y * width + p.x < width * height
anchor-on width height p f n =
    let z : (leb width p.x || leb height p.y) ≡ false = subst (λ (t : Bool). (not t && (leb width p.x || leb height p.y)) ≡ false) n f in
    let a = or_parts (leb width p.x) (leb height p.y) z in
    let x : p.x < width = leb-false width p.x a.0 in
    let y : p.y < height = leb-false height p.y a.1 in
    let m : (p.y + 1) * width ≤ height * width = mul-le-mul (omega arith) (omega arith) in
    omega (arith, m)

module _ {s : List ℕ} {h : Header} (d : Headed s h) where
  pub headed-checked : Checked d.distinct s
  headed-checked = checked d.distinct s d.bytes d.passed

  pub headed-laid : Laid s h
  headed-laid = rw d.header (boundaries-passed d.distinct s d.passed).1

  pub counts-are : h.counts ≡ counts_at s 0
  counts-are = header-counts d.header headed-laid

  pub start_is : h.offsets.boundaries ≡ boundaries_at s
  start_is = ap (λ (x : Header). x.offsets.boundaries) d.header ∙ headed-checked.start

  pub count-is : h.counts.boundaries ≡ (counts_at s 0).boundaries
  count-is = ap (λ (c : Counts). c.boundaries) counts-are

  pub bases-start : h.offsets.bases ≡ bases_start (counts_at s 0)
  bases-start = (sections s h headed-laid).bases-at ∙ ap bases_start counts-are

  pub bases-few : (counts_at s 0).bases ≤ max_bases
  bases-few = subst (λ (c : Counts). c.bases ≤ max_bases) counts-are headed-laid.within.bases

  pub bases-inside : bases_start (counts_at s 0) + (counts_at s 0).bases * base_size ≤ length s
  bases-inside =
      let e = (sections s h headed-laid).bases-in in
      subst (λ (c : Counts). bases_start c + c.bases * base_size ≤ length s) counts-are (omega (arith, e, (sections s h headed-laid).bases-at))

  pub headed-cells : h.counts.width * h.counts.height ≤ 1_048_576
  headed-cells = cells-limit h.counts headed-laid.within

  pub anchors-in : AnchorsIn s (bases_start (counts_at s 0)) (counts_at s 0).bases (counts_at s 0).width ((counts_at s 0).width * (counts_at s 0).height)
  unfolding boundary_checks job_checks header_at
  anchors-in =
      let c = counts_at s 0 in
      let recs : first_refusal (record_checks s c) ≡ none = none_right (layout_checks s) (record_checks s c) (none_left (job_checks s) _ d.passed) in
      record { each = λ k l. record { on = anchor-on c.width c.height (base_at s (bases_start c + k * base_size)).anchor (anchor-right s c recs k l) } }

  -- the keys of the boundaries are in the job, and their order is that of the ranks
  module _ (at n : ℕ) (a : at ≡ h.offsets.boundaries) (e : n ≡ h.counts.boundaries) where
    pub keys_in_lem : (n ≤ 256) × (at + n * boundary_size ≤ length s)
    keys_in_lem = (omega (arith, e, headed-laid.within.boundaries), omega (arith, e, a, (sections s h headed-laid).boundaries-in))

    pub headed-ranked : {first second order : List ℕ} (old : List ℕ) → KeysOf s at boundary_size n first second → n ≤ length old
        → order ≡ splice old 0 (sort (by_two first second) (up_from 0 n)) → RankedBy (decode s) order
    headed-ranked {first} {second} {order} old keys room o =
        let x : at ≡ boundaries_at s = a ∙ start_is in
        let y : n ≡ (counts_at s 0).boundaries = e ∙ count-is in
        let k = subst (λ (i : ℕ). KeysOf s (boundaries_at s) boundary_size i first second) y
        (subst (λ (i : ℕ). KeysOf s i boundary_size n first second) x keys) in
        let z : order ≡ splice old 0 (sort (by_two first second) (up_from 0 (counts_at s 0).boundaries)) = o
        ∙ ap (λ (i : ℕ). splice old 0 (sort (by_two first second) (up_from 0 i))) y in
        rw z (ranks-of headed-checked first second k old (omega (arith, y))).each
