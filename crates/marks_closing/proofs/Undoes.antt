-- Joins taken back, last first.
use mathlib.Core.Path.{◌≡◌, refl, sym, ◌∙◌, ap, subst}
use mathlib.Core.Logic.{by_cases}
use mathlib.Core.List.{List}
use Prim.Native.Nat.{ℕ, zero, suc, ◌+◌, ◌-◌, ◌≤◌, ◌<◌}
use native.Mathlib.Omega.{arith}
use native.Mathlib.Decide.{ℕ_discrete}
use lib.ListN.{length, set, length-set}
use lib.Seq.{get_or-set_same, get_or-set_other}
use Rattle.lists.specs.Rows.{at}
use Rattle.marks_closing.specs.Log.{ForestTables, forest_tables, taken_back, undone, Undoable}

pub undone-none : (s : ForestTables) (n : ℕ) → undone s n 0 ≡ s
unfolding undone
undone-none s n = refl

-- the last of them first
pub undone-last : (s : ForestTables) (n d : ℕ) → undone s n (suc d) ≡ undone (taken_back s (n + d)) n d
unfolding undone
undone-last s n d = refl

-- the log stays
pub undone-joined : (s : ForestTables) (n d : ℕ) → (undone s n d).joined ≡ s.joined
unfolding undone
undone-joined s n zero = refl
undone-joined s n (suc d) = undone-joined (taken_back s (n + d)) n d

pub undone-earlier : (s : ForestTables) (n d : ℕ) → (undone s n d).earlier ≡ s.earlier
unfolding undone
undone-earlier s n zero = refl
undone-earlier s n (suc d) = undone-earlier (taken_back s (n + d)) n d

-- the later of them, and then the earlier
pub undone-add : (s : ForestTables) (n d e : ℕ) → undone s n (d + e) ≡ undone (undone s (n + d) e) n d
unfolding undone
undone-add s n d zero = let z : d + 0 ≡ d = omega arith in ap (undone s n) z
undone-add s n d (suc e) =
    let one : d + suc e ≡ suc (d + e) = omega arith in
    let last : n + (d + e) ≡ n + d + e = omega arith in
    ap (undone s n) one ∙ (ap (λ (i : ℕ). undone (taken_back s i) n (d + e)) last ∙ undone-add (taken_back s (n + d + e)) n d e)

-- what is taken back depends on the forest and on these joins alone
pub record Alike (n d : ℕ) (s t : ForestTables) : Type 0 where
  pub parents : s.parents ≡ t.parents
  pub heights : s.heights ≡ t.heights
  pub joined : (k : ℕ) → n ≤ k → k < n + d → at s.joined k ≡ at t.joined k
  pub earlier : (k : ℕ) → n ≤ k → k < n + d → at s.earlier k ≡ at t.earlier k

alike-back : {n d : ℕ} {s t : ForestTables} → Alike n (suc d) s t → Alike n d (taken_back s (n + d)) (taken_back t (n + d))
alike-back {n} {d} {s} {t} a =
    let j : at s.joined (n + d) ≡ at t.joined (n + d) = a.joined (n + d) (omega arith) (omega arith) in
    let b : at s.earlier (n + d) ≡ at t.earlier (n + d) = a.earlier (n + d) (omega arith) (omega arith) in
    record {
      parents = rw (a.parents, j);
      heights = rw (a.parents, a.heights, j, b);
      joined = λ k l m. a.joined k l (omega arith);
      earlier = λ k l m. a.earlier k l (omega arith);
    }

pub undone-parents : (n d : ℕ) {s t : ForestTables} → Alike n d s t → (undone s n d).parents ≡ (undone t n d).parents
unfolding undone
undone-parents n zero a = a.parents
undone-parents n (suc d) a = undone-parents n d (alike-back a)

pub undone-heights : (n d : ℕ) {s t : ForestTables} → Alike n d s t → (undone s n d).heights ≡ (undone t n d).heights
unfolding undone
undone-heights n zero a = a.heights
undone-heights n (suc d) a = undone-heights n d (alike-back a)

-- a parent that is its vertex leaves all parents vertices
set_below : (l : List ℕ) (c : ℕ) → c < length l → ((i : ℕ) → i < length l → at l i < length l) → (i : ℕ) → i < length l → at (set l c c) i < length l
set_below l c h below i g =
    by_cases (ℕ_discrete i c) (λ e. omega (arith, ap (at (set l c c)) e, get_or-set_same l c c 0 h))
    (λ d. omega (arith, get_or-set_other l c i c 0 d, below i g))

-- the joins from k on are taken back
pub record Undoing (start : ForestTables) (n m : ℕ) (s : ForestTables) (k : ℕ) : Type 0 where
  pub ready : Undoable s n k
  pub same-parents : length s.parents ≡ length start.parents
  pub same-heights : length s.heights ≡ length start.heights
  pub rest : undone s n (k - n) ≡ undone start n (m - n)

pub undoing-start : {s : ForestTables} {n m : ℕ} → Undoable s n m → Undoing s n m s m
undoing-start u = record { ready = u; same-parents = refl; same-heights = refl; rest = refl }

module _ {start s : ForestTables} {n m k : ℕ} (u : Undoing start n m s k) (left : n < k) where
  pub undoing-low : at s.joined (k - 1) < length s.parents
  undoing-low = u.ready.inside (k - 1) (omega arith) (omega arith)

  pub undoing-high : at s.parents (at s.joined (k - 1)) < length s.heights
  undoing-high = omega (arith, u.ready.below (at s.joined (k - 1)) undoing-low, u.ready.sized)

  last : undone s n (k - n) ≡ undone (taken_back s (k - 1)) n (k - 1 - n)
  last =
      let count : k - n ≡ suc (k - 1 - n) = omega arith in
      let place : n + (k - 1 - n) ≡ k - 1 = omega arith in
      ap (undone s n) count ∙ (undone-last s n (k - 1 - n) ∙ ap (λ (i : ℕ). undone (taken_back s i) n (k - 1 - n)) place)

  stepped : Undoing start n m (taken_back s (k - 1)) (k - 1)
  stepped = record {
    ready = record {
      below = λ i l. simp length-set (set_below s.parents (at s.joined (k - 1)) undoing-low u.ready.below i (simp length-set at l));
      sized = simp length-set u.ready.sized;
      from = omega arith;
      joined-room = omega (arith, u.ready.joined-room);
      earlier-room = omega (arith, u.ready.earlier-room);
      inside = λ i l g. simp length-set (u.ready.inside i l (omega arith));
    };
    same-parents = simp length-set u.same-parents;
    same-heights = simp length-set u.same-heights;
    rest = sym last ∙ u.rest;
  }

  pub undoing-next : {t : ForestTables} → t ≡ taken_back s (k - 1) → Undoing start n m t (k - 1)
  undoing-next e = subst (λ (t : ForestTables). Undoing start n m t (k - 1)) (sym e) stepped

pub undoing-end : {start s : ForestTables} {n m k : ℕ} → Undoing start n m s k → (n < k → ⊥) → s ≡ undone start n (m - n)
undoing-end {start} {s} {n} {m} {k} u h =
    let z : k - n ≡ 0 = omega (arith, u.ready.from) in
    sym (undone-none s n) ∙ (ap (undone s n) (sym z) ∙ u.rest)
