-- What sound open bytes give the joins.
use mathlib.Core.Path.{◌≡◌, refl, sym, ◌∙◌, ap, subst}
use mathlib.Core.Bool.{true}
use mathlib.Core.List.{List, ◌++◌, flat_map}
use Prim.Native.Nat.{ℕ, ◌+◌, ◌*◌, ◌≤◌, ◌<◌}
use native.Mathlib.Omega.{arith}
use lib.ListN.{length, get_or, take}
use Rattle.wire.specs.Bytes.{part, splice, u32_bytes}
use Rattle.wire.proofs.Parts.{part_at, length_part}
use Rattle.graph.specs.Path.{Edge}
use Rattle.graph.specs.Labelling.{Among}
use Rattle.graph.specs.Labels.{labels}
use Rattle.graph.proofs.Parts.{part_ext}
use Rattle.grid.specs.Cells.{Grid, walkable}
use Rattle.grid.specs.Steps.{step_of}
use Rattle.grid.proofs.Index.{walkable-on}
use Rattle.areas.specs.Open.{later, bit_at, named}
use Rattle.areas.proofs.Named.{names-named}
use Rattle.areas.specs.Words.{word}
use Rattle.areas_components.specs.Dues.{dues, runs, run_start}
use Rattle.areas_components.specs.Forests.{Forest, Kept}
use Rattle.areas_components.specs.Joining.{OpenBytesSound, StepsWithin, Joinable, JoinedAll}
use Rattle.areas_components.specs.Numbered.{walks, ComponentLabels}
use Rattle.areas_components.proofs.WordLaws.{kept-none, kept_trans, drop_more}
use Rattle.areas_components.proofs.ForestLaws.{forest-ext}
use Rattle.areas_components.proofs.StepLaws.{kept_at}
use Rattle.areas_components.proofs.DueLaws.{enough, due-leads, due-enough}
use Rattle.areas_components.proofs.RunLaws.{start-below, runs-forest}
use Rattle.areas_components.proofs.LabelWords.{labels-bytes}

-- a walkable cell is one of the cells
walks-below : (cells : List ℕ) (i : ℕ) → walks cells i ≡ true → i < length cells
unfolding walkable
walks-below cells i h = walkable-on (record { width = 0; height = 0; cells = cells }) i h

module _ {n width base : ℕ} {cells : List ℕ} (s : List ℕ) (e : length cells ≡ n) (apart : 4 * n ≤ base) (room : base + n ≤ length s)
    (sound : OpenBytesSound cells width (part s base n)) where
  pub sound-within : {w : List ℕ} → Kept n s w → (i : ℕ) → i < n → StepsWithin n width (get_or w (base + i) 0) i
  sound-within {w} k i l =
      record { here = l; there = λ b small h. there b small (ap (λ (x : ℕ). bit_at x b) (part_at s base n i l ∙ sym (kept_at k (base + i) (omega arith))) ∙ h) }
    where
      there : (b : ℕ) → b < 4 → bit_at (get_or (part s base n) i 0) b ≡ true → i + later width b < n
      there b small h =
          let m = names-named width (part s base n) (step_of i (i + later width b))
          (record { cell = i; bit = b; below = omega (arith, length_part s base n room); small = small; is_set = h; edge = refl }) in
          omega (arith, walks-below cells (i + later width b) (sound.ends (step_of i (i + later width b)) m).1)

pub kept-part : {n base : ℕ} {s w : List ℕ} (m : ℕ) → 4 * n ≤ base → Kept n s w → part w base m ≡ part s base m
unfolding part
kept-part {n} {base} {s} {w} m l k = ap (take m) (drop_more (4 * n) base s w l k.rest)

kept-splice : {n : ℕ} {s w : List ℕ} (bs : List ℕ) → length bs ≡ 4 * n → Kept n s w → splice w 0 bs ≡ splice s 0 bs
unfolding splice
kept-splice {n} {s} {w} bs e k = ap (λ (x : List ℕ). bs ++ x) (drop_more (4 * n) (0 + length bs) s w (omega arith) k.rest)

-- the open bytes are sound, the due bytes stand after them, and t has the parents of the runs
module _ {n width base : ℕ} {cells : List ℕ} (s : List ℕ) {t : List ℕ} (e : length cells ≡ n) (some : 0 < width) (apart : 4 * n ≤ base)
    (room : base + 2 * n ≤ length s) (sound : OpenBytesSound cells width (part s base n)) (due : part s (base + n) n ≡ dues width (part s base n))
    (k : Kept n s t)
    (first : (i : ℕ) → i < n → word t i ≡ run_start (part s base n) i) where
  long : length (part s base n) ≡ n
  long = length_part s base n (omega arith)

  due-here : part t (base + n) n ≡ dues width (part s base n)
  due-here = kept-part n (omega arith) k ∙ due

  due-within : (i : ℕ) → i < n → StepsWithin n width (get_or t (base + n + i) 0) i
  due-within i l = record { here = l; there = λ b small h. lead b small (ap (λ (x : ℕ). bit_at x b) (sym byte) ∙ h) }
    where
      byte : get_or t (base + n + i) 0 ≡ get_or (dues width (part s base n)) i 0
      byte = sym (part_at t (base + n) n i l) ∙ ap (λ (x : List ℕ). get_or x i 0) due-here

      lead : (b : ℕ) → b < 4 → bit_at (get_or (dues width (part s base n)) i 0) b ≡ true → i + later width b < n
      lead b small h =
          let is_open = due-leads width (part s base n) some i b small (omega (arith, long)) h in
          (sound-within s e apart (omega arith) sound (kept-none n s) i l).there b small (ap (λ (x : ℕ). bit_at x b) (sym (part_at s base n i l)) ∙ is_open)

  pub due-joinable : width < 4294967296 → n ≤ 1048576 → Joinable n width (base + n) t
  due-joinable narrow few = record {
    some = some;
    narrow = narrow;
    few = few;
    apart = omega arith;
    room = omega (arith, k.size);
    usable = λ m l. record {
      small = omega arith;
      room = omega (arith, k.size);
      falls = λ j q. omega (arith, first j (omega arith), start-below width (part s base n) j);
    };
    within = due-within;
  }

  module _ {u : List ℕ} (j : JoinedAll n width (part t (base + n) n) t u) where
    pub joined : Forest (named width (part s base n)) n (word u)
    joined =
        let bytes = part s base n in
        let f = j.forest (named width (runs bytes)) (runs-forest width bytes n (word t) long first) in
        let f' : Forest (enough width bytes) n (word u) = subst (λ (x : List ℕ). Forest (named width x ++ named width (runs bytes)) n (word u)) due-here f in
        forest-ext (part_ext (enough width bytes) (named width bytes) (λ a b. let p = due-enough width bytes some a b in (p.1, p.0))) f'

    pub whole : {v : List ℕ} {r : ℕ} → ((es : List Edge) → Forest es n (word u) → Among (walks cells) es → ComponentLabels n (walks cells) es u v r) →
        (g : Grid) → g.cells ≡ cells → ComponentLabels n (walkable g) (named width (part s base n)) s v r
    unfolding walkable
    whole {v} {r} d g same =
        let es = named width (part s base n) in
        let m = d es joined sound.ends in
        let flat = flat_map u32_bytes (labels n (walks cells) es) in
        subst (λ (cs : List ℕ). ComponentLabels n (walks cs) es s v r) (sym same)
        (record { same = m.same ∙ kept-splice flat (labels-bytes n (walks cells) es) (kept_trans n k j.kept); total = m.total })
