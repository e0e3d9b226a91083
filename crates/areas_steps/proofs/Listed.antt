-- The spans of a list, one after another.
use mathlib.Core.Path.{◌≡◌, refl, sym, ◌∙◌, ap}
use mathlib.Core.List.{List, [], ◌∷◌, ◌++◌}
use Prim.Native.Nat.{ℕ, ◌+◌}
use native.Mathlib.Numerals.{add-one}
use Rattle.lists.specs.Rows.{rows}
use Rattle.lists.proofs.Rows.{rows_last}
use Rattle.position.specs.declared.Span.{Span}
use Rattle.grid.specs.Cells.{Grid}
use Rattle.areas.specs.Open.{open_byte}
use Rattle.areas.specs.Spans.{span_in, spans_in}
use Rattle.areas_steps.specs.Marks.{WorkHolds}

pub spans-none : (ends : List ℕ) → [] ≡ spans_in ends 0
unfolding spans_in rows
spans-none ends = refl

pub spans-last : (ends : List ℕ) (k : ℕ) {s : Span} → s ≡ span_in ends k → spans_in ends k ++ (s ∷ []) ≡ spans_in ends (k + 1)
unfolding spans_in
spans-last ends k e = ap (λ (t : Span). rows k (span_in ends) ++ (t ∷ [])) e
    ∙ (sym (rows_last k (span_in ends)) ∙ ap (λ (n : ℕ). rows n (span_in ends)) (sym (add-one k)))

-- the same bytes of equal lists of spans
pub held-as : {base n : ℕ} {before work : List ℕ} (dirs : List ℕ) (g : Grid) {ss ts : List Span} → ss ≡ ts → WorkHolds base n (open_byte dirs g ss) before work
    → WorkHolds base n (open_byte dirs g ts) before work
held-as dirs g e h = rw (← e) h
