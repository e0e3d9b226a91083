-- The labels that the open bytes of a map make, in bytes, are those of its areas.
use mathlib.Core.Path.{◌≡◌, refl, sym, ◌∙◌, ap, subst}
use mathlib.Core.List.{List, flat_map, Memᴰ}
use Prim.Native.Nat.{ℕ, ◌+◌, ◌*◌, ◌≤◌}
use native.Mathlib.Nat.{mul-le-mul}
use native.Mathlib.Omega.{arith}
use lib.ListN.{length, take, drop}
use Rattle.lists.specs.Rows.{rows}
use Rattle.lists.proofs.Rows.{length-rows}
use Rattle.wire.specs.Bytes.{part, splice, u32_bytes}
use Rattle.wire.proofs.Parts.{length_part, length-splice, take-splice, drop-splice, splice-same, splice-before}
use Rattle.position.specs.declared.Span.{Span}
use Rattle.graph.specs.Labels.{labels, label_count}
use Rattle.grid.specs.Cells.{Grid, size, walkable}
use Rattle.grid.specs.Directions.{IsDirection}
use Rattle.areas.specs.Areas.{area_labels}
use Rattle.areas.specs.Open.{open_byte, named}
use Rattle.areas.specs.Spans.{Sides}
use Rattle.areas.proofs.Areas.{area-labels-length}
use Rattle.areas.proofs.OpenLabels.{open-among, open-labels, open-count}
use Rattle.areas_components.specs.Dues.{dues}
use Rattle.areas_components.specs.Joining.{OpenBytesSound}
use Rattle.areas_components.specs.Numbered.{ComponentLabels}
use Rattle.areas_components.proofs.DueLaws.{dues-long}
use Rattle.areas_components.proofs.LabelWords.{bytes-length, sound-of}
use Rattle.areas_partition.specs.Partitioned.{AreasIn}

-- a map that can be analysed has at most 1,048,576 cells
pub few-cells : {width height : ℕ} → Sides width height → width * height ≤ 1048576
few-cells s = omega (arith, mul-le-mul s.wide s.high)

pub flat-long : (dirs : List ℕ) (g : Grid) (ss : List Span) → length (flat_map u32_bytes (area_labels dirs g ss)) ≡ 4 * size g
flat-long dirs g ss = bytes-length (area_labels dirs g ss) ∙ ap (λ (n : ℕ). 4 * n) (area-labels-length dirs g ss)

-- m has the open bytes from base on, and is as w past ten bytes a cell
pub record Marked (dirs : List ℕ) (g : Grid) (ss : List Span) (base : ℕ) (w m : List ℕ) : Type 0 where
  pub long : length m ≡ length w
  pub bytes : part m base (size g) ≡ rows (size g) (open_byte dirs g ss)
  pub rest : drop (10 * size g) m ≡ drop (10 * size g) w

module _ (dirs : List ℕ) (g : Grid) (ss : List Span) (base : ℕ) (w : List ℕ) (room : 10 * size g ≤ length w) where
  pub marked-open : {m : List ℕ} → base + size g ≤ 10 * size g → m ≡ splice w base (rows (size g) (open_byte dirs g ss)) → Marked dirs g ss base w m
  marked-open {m} within e =
      let many = length-rows (size g) (open_byte dirs g ss) in
      let bytes = rows (size g) (open_byte dirs g ss) in
      let fits : base + length bytes ≤ length w = omega (arith, many) in
      record {
        long = ap length e ∙ length-splice w base bytes fits;
        bytes = ap (part m base) (sym many) ∙ (ap (λ (x : List ℕ). part x base (length bytes)) e ∙ splice-same w base bytes fits);
        rest = ap (drop (10 * size g)) e ∙ drop-splice w base bytes fits (10 * size g) (omega (arith, many));
      }

  -- the due bytes after the open bytes
  module _ {m v : List ℕ} (within : base + 2 * size g ≤ 10 * size g) (h : Marked dirs g ss base w m)
      (e : v ≡ splice m (base + size g) (dues g.width (part m base (size g)))) where
    abbrev ds : List ℕ
    ds = dues g.width (part m base (size g))

    many : length ds ≡ size g
    many = dues-long g.width (part m base (size g)) ∙ length_part m base (size g) (omega (arith, h.long))

    fits : base + size g + length ds ≤ length m
    fits = omega (arith, many, h.long)

    open_kept : part v base (size g) ≡ part m base (size g)
    open_kept = ap (λ (x : List ℕ). part x base (size g)) e ∙ splice-before m (base + size g) ds fits base (size g) (omega arith)

    pub marked-due : Marked dirs g ss base w v
    marked-due = record {
      long = ap length e ∙ (length-splice m (base + size g) ds fits ∙ h.long);
      bytes = open_kept ∙ h.bytes;
      rest = ap (drop (10 * size g)) e ∙ (drop-splice m (base + size g) ds fits (10 * size g) (omega (arith, many)) ∙ h.rest);
    }

    pub due-there : part v (base + size g) (size g) ≡ dues g.width (part v base (size g))
    due-there =
        ap (part v (base + size g)) (sym many) ∙ (ap (λ (x : List ℕ). part x (base + size g) (length ds)) e
        ∙ (splice-same m (base + size g) ds fits ∙ ap (dues g.width) (sym open_kept)))

  module _ (each : (d : ℕ) → Memᴰ d dirs → IsDirection d) {m : List ℕ} (h : Marked dirs g ss base w m) where
    pub marked-sound : OpenBytesSound g.cells g.width (part m base (size g))
    marked-sound = subst (OpenBytesSound g.cells g.width) (sym h.bytes)
        (sound-of g g.width (rows (size g) (open_byte dirs g ss)) (open-among dirs g ss each))

    module _ {w' : List ℕ} {r : ℕ}
        (numbered : (i : Grid) → i.cells ≡ g.cells → ComponentLabels (size g) (walkable i) (named g.width (part m base (size g))) m w' r) where
      abbrev flat : List ℕ
      flat = flat_map u32_bytes (area_labels dirs g ss)

      labels-are : w' ≡ splice m 0 flat
      labels-are =
          (numbered g refl).same
          ∙ ap (λ (l : List ℕ). splice m 0 (flat_map u32_bytes l))
          (ap (λ (b : List ℕ). labels (size g) (walkable g) (named g.width b)) h.bytes ∙ open-labels dirs g ss each)

      flat-fits : 0 + length flat ≤ length m
      flat-fits = omega (arith, flat-long dirs g ss, h.long)

      labels-first : take (4 * size g) w' ≡ flat
      labels-first =
          let e : 4 * size g ≡ 0 + length flat = omega (arith, flat-long dirs g ss) in
          ap (take (4 * size g)) labels-are ∙ (ap (λ (k : ℕ). take k (splice m 0 flat)) e ∙ take-splice m 0 flat flat-fits)

      pub areas-in : AreasIn dirs g ss w w' r
      areas-in = record {
        long = ap length labels-are ∙ (length-splice m 0 flat flat-fits ∙ h.long);
        first = labels-first;
        rest = ap (drop (10 * size g)) labels-are ∙ (drop-splice m 0 flat flat-fits (10 * size g) (omega (arith, flat-long dirs g ss)) ∙ h.rest);
        total = (numbered g refl).total ∙ (ap (λ (b : List ℕ). label_count (size g) (walkable g) (named g.width b)) h.bytes ∙ open-count dirs g ss each);
      }
