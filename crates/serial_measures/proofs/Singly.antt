-- A link measured by a pass of its own.
use mathlib.Core.Path.{◌≡◌, ◌∙◌, ap, subst}
use mathlib.Core.Bool.{cond}
use mathlib.Core.List.{List}
use Prim.Native.Nat.{ℕ, ◌+◌, ◌/◌, ◌%◌, ◌<◌}
use lib.Dec.{eqb}
use Rattle.areas.specs.Words.{word, labels_in}
use Rattle.serial_links.specs.Limits.{Limits}
use Rattle.serial_links.specs.HeldLink.{link_with_cell, link_after}
use Rattle.serial_links.specs.declared.link.Link.{Link as LinkHeld}
use Rattle.serial_links.proofs.Cells.{after_none, after_next}
use Rattle.context.proofs.CountLoop.{pass-next}
use Rattle.serial_measures.specs.Judging.{AllCells}
use Rattle.serial_measures.proofs.Turns.{no_cells}

pub one-start : (limits : Limits) (width : ℕ) (ls : List ℕ) (region : ℕ) (start : LinkHeld) → AllCells limits width ls region 0 start start
one-start limits width ls region start k e = e ∙ (after_none limits k width ∙ ap (λ (cs : List ℕ). link_after limits k width cs) (no_cells ls region))

pub one-next : (limits : Limits) (width : ℕ) (bytes : List ℕ) (n region : ℕ) {i : ℕ} {start link t : LinkHeld}
    → AllCells limits width (labels_in bytes n) region i start link
    → i < n → {v : ℕ} → v ≡ word bytes i → t ≡ cond (eqb region v) (link_with_cell limits link (i % width) (i / width)) link
    → AllCells limits width (labels_in bytes n) region (i + 1) start t
one-next limits width bytes n region {i} now l q f k e =
    pass-next (link_after limits k width) bytes n region (now k e) l q
    (λ cs h. ap (λ (x : LinkHeld). link_with_cell limits x (i % width) (i / width)) h ∙ after_next limits k width cs i) f

pub one_end : (limits : Limits) (width : ℕ) (ls : List ℕ) (region : ℕ) {i n : ℕ} {start link : LinkHeld} → i ≡ n → AllCells limits width ls region i start link
    → AllCells limits width ls region n start link
one_end limits width ls region {start = start} {link = link} e now = subst (λ (z : ℕ). AllCells limits width ls region z start link) e now
