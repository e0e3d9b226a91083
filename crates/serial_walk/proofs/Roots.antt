-- The walk between two roots: at the start, past a record, and at the end.
use Prim.Native.Nat.{ℕ, ◌+◌, ◌≤◌}
use native.Mathlib.Omega.{arith}
use mathlib.Core.Path.{◌≡◌, ◌∙◌, subst}
use mathlib.Core.Logic.{inl}
use mathlib.Core.List.{List}
use lib.ListN.{length, replicate, length-replicate, get_or-replicate}
use Rattle.lists.specs.Rows.{at}
use Rattle.serial_walk.proofs.Zeros.{zeros-le}
use Rattle.serial_walk.specs.Walk.{Walk}
use Rattle.graph.specs.Slices.{Graph, Owners}
use Rattle.serial_walk.specs.Slices.{Sized, PartedBy, OwnerMarked, Between}
use Rattle.serial_walk.proofs.Passing.{nothing, end, step-on}
use Rattle.serial_walk.proofs.Turn.{Loop}

-- no region is found and no record is marked
pub started : {K R : ℕ} {owners lefts rights disc stack parents nexts lows : List ℕ} → Graph K R lefts rights → Owners K owners → K ≤ length owners →
    Sized R disc stack parents nexts lows → ((x : ℕ) → at disc x ≡ 0) → (n : ℕ) → n ≡ 256
    → Between K R owners lefts rights disc stack parents nexts lows (replicate n 0) 0 0
started {K} {lefts = lefts} {rights} {disc} G O o Z c n e = record {
  graph = G;
  sized = Z;
  owners-are = o;
  marks-are = length-replicate n 0 ∙ e;
  marked = O;
  walk = nothing K (at lefts) (at rights) c (zeros-le (at disc) (length disc));
  sound = λ b l. inl (get_or-replicate n b 0 0 (omega (arith, length-replicate {A = ℕ} n 0)));
}

-- every record is passed: a boundary with a record that parts its regions is marked
pub finished : {K R : ℕ} {owners lefts rights disc stack parents nexts lows marks : List ℕ} {r time : ℕ}
    → Between K R owners lefts rights disc stack parents nexts lows marks r time →
    r ≡ K → (b : ℕ) → PartedBy K owners lefts rights b → at marks b ≡ 1
finished {K} {R} {owners} {lefts} {rights} {disc} {stack} {parents} {nexts} {lows} {marks} {r} {time} B e b p =
    subst (λ (x : ℕ). at marks x ≡ 1) p.owned
    (end K (at lefts) (at rights)
    (subst (λ (x : ℕ). Walk K (at lefts) (at rights) (length disc) x (OwnerMarked owners marks) (at disc) (at stack) (at parents) (at nexts) (at lows) 0 time) e
    B.walk)
    p.place p.inside p.parted)

-- a record whose end was found before is passed
pub passed : {K R : ℕ} {owners lefts rights disc stack parents nexts lows marks : List ℕ} {r time : ℕ}
    → Between K R owners lefts rights disc stack parents nexts lows marks r time →
    (at disc (at lefts r) ≡ 0 → ⊥) → Between K R owners lefts rights disc stack parents nexts lows marks (r + 1) time
passed {K} {R} {owners} {lefts} {rights} B h = record {
  graph = B.graph;
  sized = B.sized;
  owners-are = B.owners-are;
  marks-are = B.marks-are;
  marked = B.marked;
  walk = step-on K (at lefts) (at rights) B.walk (omega arith);
  sound = B.sound;
}

-- the walk from a root is done
pub ended : {K R : ℕ} {owners lefts rights disc stack parents nexts lows marks : List ℕ} {r time : ℕ}
    → Loop K R owners lefts rights disc stack parents nexts lows marks r 0 time →
    Between K R owners lefts rights disc stack parents nexts lows marks (r + 1) time
ended {K} {R} {owners} {lefts} {rights} L = record {
  graph = L.graph;
  sized = L.sized;
  owners-are = L.owners-are;
  marks-are = L.marks-are;
  marked = L.marked;
  walk = step-on K (at lefts) (at rights) L.walk L.begun;
  sound = L.sound;
}
