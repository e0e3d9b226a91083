-- The labels of anchors, base by base, and that a region is anchored exactly if it is among them.
use mathlib.Core.Path.{◌≡◌, refl, sym, ◌∙◌, ap}
use mathlib.Core.Bool.{Bool, true, false, ◌||◌}
use mathlib.Core.List.{List, [], ◌∷◌, ◌++◌, map, map-append, append-nil, append_assoc}
use Prim.Native.Nat.{ℕ, zero, suc, ◌+◌, ◌*◌, ◌<◌, ◌≤◌}
use native.Mathlib.Numerals.{add-one}
use native.Mathlib.Omega.{arith}
use lib.Dec.{eqb}
use lib.ListN.{length, get_or, set, take, length-set}
use lib.Seq.{take-length, take-suc-set}
use Rattle.lists.specs.Rows.{rows}
use Rattle.lists.proofs.Rows.{rows_last}
use Rattle.order.specs.Lists.{gather, has}
use Rattle.position.specs.declared.WalkPosition.{WalkPosition}
use Rattle.format.specs.Sizes.{base_size}
use Rattle.format.specs.Records.{base_at}
use Rattle.format.specs.Decode.{anchor_of, base_of, base_records}
use Rattle.format.specs.declared.records.BaseRecord.{BaseRecord}
use Rattle.grid.specs.Cells.{Grid}
use Rattle.areas.specs.Areas.{label_at}
use Rattle.areas.specs.Words.{word, labels_in}
use Rattle.areas.proofs.Words.{label-in}
use Rattle.context.specs.Anchors.{optional, anchors_of, is_anchored}
use Rattle.context.specs.Held.{is_none}
use Rattle.context.specs.AnchorLoop.{anchors_in, anchor_labels, LabelAdded, LabelsRead}

-- no label is added where there is no anchor
pub none-added : {width : ℕ} {ls : List ℕ} {p : WalkPosition} {anchors : List ℕ} {found : ℕ} → is_none p ≡ true
    → LabelAdded width ls p anchors found anchors found
unfolding anchor_of
none-added {anchors = anchors} {found} h = record { kept = refl; most = omega arith; read = rw h (sym (append-nil (take found anchors))) }

-- the label at the place of the anchor's cell is added
pub one-added : (s : List ℕ) {n width : ℕ} {p : WalkPosition} {anchors : List ℕ} {found v i : ℕ} → is_none p ≡ false → p.y * width + p.x < n
    → found < length anchors → v ≡ word s i → i ≡ p.y * width + p.x → LabelAdded width (labels_in s n) p anchors found (set anchors found v) (found + 1)
unfolding anchor_of
one-added s {n} {width} {p} {anchors} {found} {v} h on room e f = record {
  kept = length-set anchors found v;
  most = omega arith;
  read = rw (h, add-one) (take-suc-set anchors found v room ∙ ap (λ (x : ℕ). take found anchors ++ (x ∷ [])) label);
}
  where
    label : v ≡ label_at (labels_in s n) (p.y * width + p.x)
    label = e ∙ (ap (word s) f ∙ sym (label-in s n (p.y * width + p.x) on))

anchors-append : (bs : List BaseRecord) (b : BaseRecord)
    → anchors_of (map base_of (bs ++ (b ∷ []))) ≡ anchors_of (map base_of bs) ++ optional (anchor_of b.anchor)
unfolding anchors_of gather base_of
anchors-append [] b = append-nil (optional (anchor_of b.anchor))
anchors-append (d ∷ ds) b = ap (λ (l : List WalkPosition). optional (anchor_of d.anchor) ++ l) (anchors-append ds b)
    ∙ sym (append_assoc (optional (anchor_of d.anchor)) (anchors_of (map base_of ds)) (optional (anchor_of b.anchor)))

-- with one base more
anchors-next : (job : List ℕ) (at i : ℕ) → anchors_in job at (i + 1) ≡ anchors_in job at i ++ optional (anchor_of (base_at job (at + i * base_size)).anchor)
unfolding base_records
anchors-next job at i =
    let base : ℕ → BaseRecord = λ k. base_at job (at + k * base_size) in
    rw add-one (ap (λ (l : List BaseRecord). anchors_of (map base_of l)) (rows_last i base) ∙ anchors-append (rows i base) (base i))

pub read_next : (job : List ℕ) (at i width : ℕ) (ls : List ℕ) {b : BaseRecord} {before after : List ℕ} {found r : ℕ} → b ≡ base_at job (at + i * base_size)
    → take found before ≡ anchor_labels width ls (anchors_in job at i) → LabelAdded width ls b.anchor before found after r
    → take r after ≡ anchor_labels width ls (anchors_in job at (i + 1))
read_next job at i width ls {b} {before} {after} {found} {r} e f a =
    let label : WalkPosition → ℕ = λ p. label_at ls (p.y * width + p.x) in
    let last : BaseRecord → List WalkPosition = λ d. optional (anchor_of d.anchor) in
    a.read
    ∙ (ap (λ (l : List ℕ). l ++ anchor_labels width ls (last b)) f
    ∙ (sym (map-append label (anchors_in job at i) (last b))
    ∙ (ap (λ (d : BaseRecord). anchor_labels width ls (anchors_in job at i ++ last d)) e ∙ ap (anchor_labels width ls) (sym (anchors-next job at i)))))

pub all_read : {job : List ℕ} {at i count width : ℕ} {ls anchors : List ℕ} {found : ℕ} → i ≡ count → found ≤ length anchors
    → take found anchors ≡ anchor_labels width ls (anchors_in job at i) → LabelsRead job at count width ls anchors found
all_read {job} {at} {width = width} {ls} e f h = record { fits = f; read = h ∙ ap (λ (k : ℕ). anchor_labels width ls (anchors_in job at k)) e }

-- the search, one label after another
has_last : (r : ℕ) (l : List ℕ) (i : ℕ) → i < length l → (eqb r (get_or l i 0) || has r (take i l)) ≡ has r (take (suc i) l)
unfolding has
has_last r [] i h = absurd (omega arith)
has_last r (x ∷ xs) zero h = refl
has_last r (x ∷ xs) (suc i) h = turned (eqb r (get_or xs i 0)) (eqb r x) (has r (take i xs))
    ∙ ap (λ (t : Bool). eqb r x || t) (has_last r xs i (omega arith))
  where
    turned : (a b c : Bool) → (a || (b || c)) ≡ (b || (a || c))
    turned true true c = refl
    turned true false c = refl
    turned false b c = refl

pub has-next : (r : ℕ) (l : List ℕ) (i : ℕ) {found : Bool} → i < length l → found ≡ has r (take i l) → (eqb r (get_or l i 0) || found) ≡ has r (take (i + 1) l)
has-next r l i h e = rw (add-one, e) (has_last r l i h)

pub has_all : (r : ℕ) (l : List ℕ) {i : ℕ} {found : Bool} → i ≡ length l → found ≡ has r (take i l) → found ≡ has r l
has_all r l {i} e h = h ∙ ap (has r) (ap (λ (k : ℕ). take k l) e ∙ take-length l)

-- it finds what the rule says
pub among-anchored : (g : Grid) (ls : List ℕ) (ps : List WalkPosition) (r : ℕ) → has r (anchor_labels g.width ls ps) ≡ is_anchored g ls ps r
unfolding has is_anchored
among-anchored g ls [] r = refl
among-anchored g ls (p ∷ ps) r = ap (λ (t : Bool). eqb r (label_at ls (p.y * g.width + p.x)) || t) (among-anchored g ls ps r)
