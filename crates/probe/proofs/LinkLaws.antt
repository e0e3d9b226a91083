-- What the link function asks of a job that passed its checks, and what it tells.
use mathlib.Core.Path.{◌≡◌, refl, sym, ◌∙◌, ap}
use mathlib.Core.Bool.{Bool, true, false}
use mathlib.Core.List.{List, ◌++◌, append_assoc}
use Prim.Native.Nat.{ℕ, ◌+◌, ◌*◌, ◌≤◌, ◌<◌}
use native.Mathlib.Omega.{arith}
use lib.Dec.{T}
use lib.Ieee.{Float, nan, inf, fin, eq, is_nan}
use lib.ListN.{length, length-append}
use Rattle.std.proofs.Common.{inl, inr}
use Rattle.std.proofs.lemmas.Float.{le_refl, lt_irrefl, lt-or-eq, T_from_false}
use Rattle.lists.proofs.Rows.{length-rows}
use Rattle.wire.specs.Bytes.{u32_bytes, u64_bytes, splice}
use Rattle.wire.proofs.Numbers.{length-bytes}
use Rattle.position.specs.Order.{canonical}
use Rattle.position.specs.declared.Span.{Span}
use Rattle.format.specs.Sizes.{boundary_size}
use Rattle.format.specs.Header.{counts_at, boundaries_start}
use Rattle.format.specs.Records.{boundary_at}
use Rattle.format.specs.Decode.{decode}
use Rattle.format.specs.declared.header.Header.{Header}
use Rattle.format.specs.declared.header.Counts.{Counts}
use Rattle.format.specs.declared.records.BoundaryRecord.{BoundaryRecord}
use Rattle.areas.specs.Words.{labels_in}
use Rattle.context.specs.RegionStats.{region_cells}
use Rattle.context.specs.Held.{one, first_cells}
use Rattle.serial_links.specs.Limits.{Limits}
use Rattle.serial_links.specs.Link.{Side, Link, link_of}
use Rattle.serial_links.specs.Measure.{Measured, measured}
use Rattle.serial_links.specs.Flat.{inside_flat}
use Rattle.serial_links.specs.Held.{SpanBounded}
use Rattle.serial_links.specs.HeldLink.{side, no_cell, link_after, measured_in}
use Rattle.serial_links.specs.declared.link.Link.{Link as LinkHeld}
use Rattle.serial_links.proofs.Cells.{after-measured}
use Rattle.serial_measures.specs.Judging.{AllCells}
use Rattle.analysis.specs.Plans.{Headed}
use Rattle.analysis.proofs.Checked.{boundaries_at, canonical-on-map, on-map-bounded}
use Rattle.analysis.proofs.Headed.{headed-checked, headed-laid, counts-are, start_is, count-is}
use Rattle.analysis.proofs.Mapped.{map-cells, map-long}
use Rattle.probe.specs.Regions.{cell_labels}
use Rattle.probe.specs.Links.{float_bits, kind_of, transverse, longitudinal, four_bytes, side_of, link_bytes}
use Rattle.probe.proofs.WritingLaws.{beside}

-- a NaN is unlike itself, and a number is like itself
pub nan_unlike : (x : Float) → is_nan x ≡ true → eq x x ≡ false
unfolding eq is_nan
nan_unlike nan e = refl
nan_unlike (inf s) e = cc
nan_unlike (fin s m d) e = cc

is_true : (b : Bool) → T b → b ≡ true
is_true true h = refl
is_true false h = absurd h

pub number_like : (x : Float) → is_nan x ≡ false → eq x x ≡ true
number_like x e =
    elim (lt-or-eq x x (le_refl x (T_from_false (is_nan x) e))) [ inl l ↦ absurd (lt_irrefl x l) | inr h ↦ is_true (eq x x) h ]

-- the boundary at a place
module _ {s : List ℕ} {h : Header} (d : Headed s h) (i at : ℕ) (a : at ≡ h.offsets.boundaries) (below : i < h.counts.boundaries) where
  place_is : at + i * 40 ≡ boundaries_start (counts_at s 0) + i * boundary_size
  place_is = let e : at ≡ boundaries_at s = a ∙ start_is d in omega arith

  pub record-there : at + i * 40 + 40 ≤ length s
  record-there = omega (arith, a, start_is d, count-is d, (headed-checked d).inside, below)

  in_count : i < (counts_at s 0).boundaries
  in_count = omega (arith, count-is d, below)

  module _ {b : BoundaryRecord} (r : b ≡ boundary_at s (at + i * 40)) where
    read_is : b ≡ boundary_at s (boundaries_start (counts_at s 0) + i * boundary_size)
    read_is = r ∙ ap (boundary_at s) place_is

    pub ends-bounded : {e : Span} → e ≡ canonical b.ends → SpanBounded e
    unfolding boundary_at
    ends-bounded {e} q =
        let c = headed-checked d in
        let o = canonical-on-map (counts_at s 0).width (counts_at s 0).height _ (c.on i in_count) in
        let both = on-map-bounded (counts_at s 0).width (counts_at s 0).height _ o c.allowed.width c.allowed.height in
        let z : e ≡ canonical (boundary_at s (boundaries_start (counts_at s 0) + i * boundary_size)).ends = q
        ∙ ap (λ (x : BoundaryRecord). canonical x.ends) read_is in
        rw z (record { first = both.0; second = both.1 })

    pub bits-bounded : b.bits ≤ 0x40D0_0000_0000_0000
    unfolding boundary_at
    bits-bounded = rw read_is ((headed-checked d).widths i in_count)

    pub side-is : {e : Span} → e ≡ canonical b.ends → side e b.bits ≡ side_of s i
    unfolding side_of
    side-is {e} q = ap (λ (x : Span). side x b.bits) q ∙ ap (λ (x : BoundaryRecord). side (canonical x.ends) x.bits) read_is

-- the link of two of them
pub linked : {s : List ℕ} {h : Header} (d : Headed s h) (i k at : ℕ) → at ≡ h.offsets.boundaries → i < h.counts.boundaries → k < h.counts.boundaries
    → {a b : BoundaryRecord} {e f : Span}
    → a ≡ boundary_at s (at + i * 40) → b ≡ boundary_at s (at + k * 40) → e ≡ canonical a.ends → f ≡ canonical b.ends
    → no_cell (link_of (side e a.bits) (side f b.bits)) ≡ no_cell (link_of (side_of s i) (side_of s k))
linked {s} d i k at z l m {a} {b} {e} {f} p q x y =
    ap (λ (t : Side). no_cell (link_of t (side f b.bits))) (side-is d i at z l p x)
    ∙ ap (λ (t : Side). no_cell (link_of (side_of s i) t)) (side-is d k at z m q y)

-- four writes, one after another
pub four-writes : (s : List ℕ) (kind across along inside : ℕ) {e f g l : List ℕ} → 24 ≤ length s → e ≡ splice s 0 (u32_bytes kind)
    → f ≡ splice e 4 (u64_bytes across)
    → g ≡ splice f 12 (u64_bytes along) → l ≡ splice g 20 (u32_bytes inside) → l ≡ splice s 0 (four_bytes kind across along inside)
four-writes s kind across along inside h p q r w =
    let k = length-bytes 4 kind in
    let x = length-bytes 8 across in
    let y = length-bytes 8 along in
    let a : length (u32_bytes kind ++ u64_bytes across) ≡ 12 = length-append (u32_bytes kind) (u64_bytes across) ∙ omega arith in
    let b : length ((u32_bytes kind ++ u64_bytes across) ++ u64_bytes along) ≡ 20 = length-append (u32_bytes kind ++ u64_bytes across) (u64_bytes along)
    ∙ omega arith in
    w ∙ (ap (λ (t : List ℕ). splice t 20 (u32_bytes inside)) (r
    ∙ (ap (λ (t : List ℕ). splice t 12 (u64_bytes along)) (q ∙ (ap (λ (t : List ℕ). splice t 4 (u64_bytes across)) p
    ∙ beside s 0 4 (u32_bytes kind) (u64_bytes across) k (omega arith)))
    ∙ beside s 0 12 (u32_bytes kind ++ u64_bytes across) (u64_bytes along) a (omega arith)))
    ∙ (beside s 0 20 ((u32_bytes kind ++ u64_bytes across) ++ u64_bytes along) (u32_bytes inside) b (omega arith)
    ∙ ap (splice s 0) (append_assoc (u32_bytes kind ++ u64_bytes across) (u64_bytes along) (u32_bytes inside)
    ∙ append_assoc (u32_bytes kind) (u64_bytes across) (u64_bytes along ++ u32_bytes inside))))

-- what the link holds after the cells of its region is what it measures
module _ {s : List ℕ} {h : Header} (d : Headed s h) {n : ℕ} (e : n ≡ h.counts.width * h.counts.height) (labels : List ℕ) (region first second : ℕ) where
  abbrev link : Link
  link = link_of (side_of s first) (side_of s second)

  cells_are : n ≡ length (decode s).cells
  cells_are = e ∙ (sym (map-long d.header (headed-laid d) n e) ∙ ap (λ (l : List ℕ). length l) (map-cells d.header (headed-laid d) n e))

  region-is : first_cells (labels_in labels n) region n ≡ region_cells (cell_labels s labels) region
  unfolding first_cells region_cells labels_in
  region-is =
      ap (λ (m : ℕ). first_cells (labels_in labels m) region m) cells_are
      ∙ ap (λ (m : ℕ). first_cells (cell_labels s labels) region m) (sym (length-rows (length (decode s).cells) _))

  held-is : (limits : Limits) {start r : LinkHeld} → start ≡ no_cell link
      → AllCells limits h.counts.width (labels_in labels n) region n start r
      → r ≡ link_after limits link (counts_at s 0).width (region_cells (cell_labels s labels) region)
  held-is limits {start} {r} p f =
      f link p
      ∙ (ap (λ (x : ℕ). link_after limits link x (first_cells (labels_in labels n) region n)) (ap (λ (c : Counts). c.width) (counts-are d))
      ∙ ap (link_after limits link (counts_at s 0).width) region-is)

  pub link-told : (limits : Limits) {start r : LinkHeld} {m : Measured} {kind across along inside : ℕ} → start ≡ no_cell link
      → AllCells limits h.counts.width (labels_in labels n) region n start r → m ≡ measured_in limits r
      → kind ≡ kind_of m → across ≡ float_bits (transverse m) → along ≡ float_bits (longitudinal m) → inside ≡ one r.inside
      → four_bytes kind across along inside ≡ link_bytes limits s labels region first second
  unfolding link_bytes link_after
  link-told limits {start} {r} {m} p f q k x y z =
      let cs : List ℕ = region_cells (cell_labels s labels) region in
      let w : ℕ = (counts_at s 0).width in
      let held : r ≡ link_after limits link w cs = held-is limits p f in
      let is : m ≡ measured limits link w cs = q ∙ (ap (measured_in limits) held ∙ after-measured limits link w cs) in
      let flat : r.inside ≡ inside_flat limits link w cs = ap (λ (t : LinkHeld). t.inside) held in
      rw (k, x, y, z, is, flat) refl

-- places as the code widens them, and limits as it is given them
pub link-named : (s labels out : List ℕ) (region : ℕ) {end : List ℕ} {l limits : Limits} {first second i k : ℕ} → l ≡ limits → i ≡ first → k ≡ second
    → end ≡ splice out 0 (link_bytes l s labels region i k)
    → end ≡ splice out 0 (link_bytes limits s labels region first second)
link-named s labels out region {limits = limits} {first} {i = i} {k} l p q e =
    let n : Limits → ℕ → ℕ → List ℕ = λ x a b. splice out 0 (link_bytes x s labels region a b) in
    e ∙ (ap (λ (x : Limits). n x i k) l ∙ (ap (λ (x : ℕ). n limits x k) p ∙ ap (λ (x : ℕ). n limits first x) q))
