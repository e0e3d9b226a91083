-- Of the bytes of a map the areas and the assessments read bit 0 alone.
use mathlib.Core.Path.{◌≡◌, refl, ◌∙◌, ap, ap₂, fun_ext}
use mathlib.Core.Bool.{not, ◌||◌}
use mathlib.Core.List.{List, [], ◌∷◌, map}
use Prim.Native.Nat.{ℕ}
use lib.ListN.{length}
use Rattle.order.specs.Lists.{keep}
use Rattle.position.specs.declared.Span.{Span}
use Rattle.graph.specs.Path.{Edge}
use Rattle.graph.specs.Labels.{labels}
use Rattle.grid.specs.Cells.{Grid, size, with_cells, walkable}
use Rattle.grid.proofs.Walkable.{same-steps}
use Rattle.areas.specs.Cuts.{cut_by, is_cut, cut_steps, uncut_steps}
use Rattle.areas.specs.Areas.{area_labels}
use Rattle.areas.specs.Assessments.{Assessment, assessment, assess, owned, records}

module _ (g : Grid) (cs : List ℕ) (whole : length cs ≡ size g) (same : (i : ℕ) → walkable (with_cells g cs) i ≡ walkable g i) (dirs : List ℕ) where
  same-cut : (s : Span) (e : Edge) → cut_by (with_cells g cs) s e ≡ cut_by g s e
  unfolding cut_by
  same-cut s e = refl

  same-is-cut : (ss : List Span) (e : Edge) → is_cut (with_cells g cs) ss e ≡ is_cut g ss e
  unfolding is_cut
  same-is-cut [] e = refl
  same-is-cut (s ∷ ss) e = ap₂ ◌||◌ (same-cut s e) (same-is-cut ss e)

  same-cut-steps : (s : Span) → cut_steps dirs (with_cells g cs) s ≡ cut_steps dirs g s
  unfolding cut_steps
  same-cut-steps s = ap₂ keep (fun_ext (same-cut s)) (same-steps g cs same dirs whole)

  same-uncut : (ss : List Span) → uncut_steps dirs (with_cells g cs) ss ≡ uncut_steps dirs g ss
  unfolding uncut_steps
  same-uncut ss = ap₂ keep (fun_ext (λ e. ap not (same-is-cut ss e))) (same-steps g cs same dirs whole)

  pub same-labels : (ss : List Span) → area_labels dirs (with_cells g cs) ss ≡ area_labels dirs g ss
  unfolding area_labels
  same-labels ss =
      ap (λ (n : ℕ). labels n (walkable (with_cells g cs)) (uncut_steps dirs (with_cells g cs) ss)) whole
      ∙ ap₂ (labels (size g)) (fun_ext same) (same-uncut ss)

  pub same-assess : (ss : List Span) (s : Span) → assess dirs (with_cells g cs) ss s ≡ assess dirs g ss s
  unfolding assess
  same-assess ss s = ap₂ assessment (same-labels ss) (same-cut-steps s)

  pub same-records : (ss : List Span) → records dirs (with_cells g cs) ss ≡ records dirs g ss
  unfolding records
  same-records ss = ap (λ (f : Span → Assessment). owned 0 (map (λ s. (f s).pairs) ss)) (fun_ext (same-assess ss))
