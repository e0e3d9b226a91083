-- Records under small numbers have the bridges of the records under their labels.
use mathlib.Core.Path.{◌≡◌, sym, ◌∙◌, ap, subst}
use mathlib.Core.Logic.{⊎_elim}
use mathlib.Core.Bool.{Bool, cond}
use mathlib.Core.List.{List}
use Prim.Native.Nat.{ℕ, ◌+◌, ◌*◌, ◌-◌, ◌≤◌, ◌<◌}
use native.Mathlib.Omega.{arith}
use Rattle.lists.specs.Rows.{at}
use Rattle.lists.proofs.Rows.{rows_same}
use Rattle.graph.specs.Records as records
use Rattle.graph.specs.Records.{records_in}
use Rattle.graph.specs.Bridges.{is_bridge}
use Rattle.graph.proofs.Records.{records-length, records-at}
use Rattle.graph.proofs.Renaming.{Occurs, Renaming, same-bridges}
use Rattle.graph.specs.Slices.{Graph}
use Rattle.serial_walk.specs.Marks.{bridge_marks}
use Rattle.serial_bridges.specs.Names.{Labelled, Named, EndNumbers}
use Rattle.serial_bridges.proofs.Names.{named-apart}

module _ {K : ℕ} {lefts rights : List ℕ} {regions base : ℕ} {start work small_lefts small_rights : List ℕ} (L : Labelled K lefts rights regions)
    (N : EndNumbers K lefts rights regions base start work small_lefts small_rights K) where
  below : (x v : ℕ) → Named K lefts rights x (v + 1) → v < 2 * K
  below x v n = ⊎_elim (λ u. omega (arith, u.1, n.inside)) (λ u. omega (arith, u.1, n.inside)) n.is

  -- the small numbers are in range
  pub small-graph : (R : ℕ) → 2 * K ≤ R → R ≤ 8192 → Graph K R small_lefts small_rights
  small-graph R enough near = record {
    few = L.few;
    near = near;
    lefts-are = N.lefts-are;
    rights-are = N.rights-are;
    left_in = λ k l. omega (
      arith,
      below (at lefts k - 1) (at small_lefts k)
          (subst (Named K lefts rights (at lefts k - 1)) (N.left k l) (N.named (at lefts k - 1) (omega (arith, N.left k l)))),
    );
    right-in = λ k l. omega (
      arith,
      below (at rights k - 1) (at small_rights k)
          (subst (Named K lefts rights (at rights k - 1)) (N.right k l) (N.named (at rights k - 1) (omega (arith, N.right k l)))),
    );
  }

  module _ (owners : List ℕ) where
    abbrev rs : List records.Record
    rs = records_in owners lefts rights K

    abbrev ss : List records.Record
    ss = records_in owners small_lefts small_rights K

    occurs : (a : ℕ) → Occurs rs a → (0 < a) × (0 < N.words (a - 1))
    occurs a o =
        let l : o.place < K = omega (arith, o.inside, records-length owners lefts rights K) in
        let e = records-at owners lefts rights K o.place l in
        ⊎_elim
        (λ u.
        let q : at lefts o.place ≡ a = sym (ap (λ (r : records.Record). r.left) e) ∙ u in
        (omega (arith, q, L.left-from o.place l), omega (arith, ap (λ (z : ℕ). N.words (z - 1)) q, N.left o.place l)))
        (λ u.
        let q : at rights o.place ≡ a = sym (ap (λ (r : records.Record). r.right) e) ∙ u in
        (omega (arith, q, L.right-from o.place l), omega (arith, ap (λ (z : ℕ). N.words (z - 1)) q, N.right o.place l)))
        o.end

    -- the records under small numbers are those under their labels, renamed
    pub renaming : Renaming (λ (a : ℕ). N.words (a - 1) - 1) rs ss
    renaming = record {
      as_many = records-length owners small_lefts small_rights K ∙ sym (records-length owners lefts rights K);
      owner = λ k l.
          let b : k < K = omega (arith, l, records-length owners lefts rights K) in
          ap (λ (r : records.Record). r.owner) (records-at owners small_lefts small_rights K k b)
          ∙ sym (ap (λ (r : records.Record). r.owner) (records-at owners lefts rights K k b));
      left = λ k l.
          let b : k < K = omega (arith, l, records-length owners lefts rights K) in
          let m : at small_lefts k ≡ N.words (at lefts k - 1) - 1 = omega (arith, N.left k b) in
          ap (λ (r : records.Record). r.left) (records-at owners small_lefts small_rights K k b) ∙ m
          ∙ sym (ap (λ (r : records.Record). N.words (r.left - 1) - 1) (records-at owners lefts rights K k b));
      right = λ k l.
          let b : k < K = omega (arith, l, records-length owners lefts rights K) in
          let m : at small_rights k ≡ N.words (at rights k - 1) - 1 = omega (arith, N.right k b) in
          ap (λ (r : records.Record). r.right) (records-at owners small_lefts small_rights K k b) ∙ m
          ∙ sym (ap (λ (r : records.Record). N.words (r.right - 1) - 1) (records-at owners lefts rights K k b));
      apart = λ a b x y e.
          let p = occurs a x in
          let q = occurs b y in
          let w : N.words (b - 1) ≡ N.words (a - 1) = omega (arith, p.1, q.1, e) in
          let z : a - 1 ≡ b - 1
          = named-apart (N.named (a - 1) p.1) (subst (Named K lefts rights (b - 1)) w (N.named (b - 1) q.1)) in
          omega (arith, p.0, q.0, z);
    }

    -- the marks are the same
    pub small-marks : (n : ℕ) → bridge_marks (records_in owners small_lefts small_rights K) n ≡ bridge_marks (records_in owners lefts rights K) n
    unfolding bridge_marks
    small-marks n =
        rows_same n (λ b. cond (is_bridge ss b) 1 0) (λ b. cond (is_bridge rs b) 1 0) (λ b l. ap (λ (t : Bool). cond t 1 0) (same-bridges renaming b))
