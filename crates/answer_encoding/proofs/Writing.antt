-- Records and pieces written side by side.
use mathlib.Core.Path.{◌≡◌, refl, sym, ◌∙◌, ap}
use mathlib.Core.Logic.{by_cases}
use mathlib.Core.List.{List, [], ◌++◌}
use Prim.Native.Nat.{ℕ, zero, suc, ◌+◌, ◌*◌, ◌≤◌}
use native.Mathlib.Decide.{ℕ_discrete}
use native.Mathlib.Numerals.{add-one}
use native.Mathlib.Omega.{arith}
use lib.ListN.{length, take, drop, length-append, take-append-drop}
use Rattle.wire.specs.Bytes.{splice}
use Rattle.wire.proofs.Parts.{length-splice}
use Rattle.answer_encoding.specs.Pieces.{pieces}
use Rattle.format.proofs.Writes.{then-write}

-- A write beside a write is one.
-- Nothing written.
pub write-none : (s : List ℕ) (i : ℕ) → s ≡ splice s i []
unfolding splice
write-none s i =
    let e : i + 0 ≡ i = omega arith in
    sym (ap (λ (k : ℕ). take i s ++ drop k s) e ∙ take-append-drop i s)

pub pieces_none : (s : List ℕ) (i : ℕ) (f : ℕ → List ℕ) → s ≡ splice s i (pieces 0 f)
unfolding pieces
pieces_none s i f = write-none s i

pub pieces-next : (n : ℕ) (f : ℕ → List ℕ) → pieces (n + 1) f ≡ pieces n f ++ f n
unfolding pieces
pieces-next n f = rw add-one refl

pub length-next : (n : ℕ) (f : ℕ → List ℕ) → length (pieces (n + 1) f) ≡ length (pieces n f) + length (f n)
length-next n f = ap length (pieces-next n f) ∙ length-append (pieces n f) (f n)

-- One piece more.
pub piece-written : (s : List ℕ) (i n : ℕ) (f : ℕ → List ℕ) {t u : List ℕ} {j : ℕ} → i + length (pieces n f) ≤ length s → j ≡ i + length (pieces n f)
    → t ≡ splice s i (pieces n f) → u ≡ splice t j (f n) → u ≡ splice s i (pieces (n + 1) f)
piece-written s i n f h e p q = then-write s i (pieces n f) (f n) h e p q ∙ ap (splice s i) (sym (pieces-next n f))

pub length-written : (s : List ℕ) (i : ℕ) (bs : List ℕ) {t : List ℕ} → i + length bs ≤ length s → t ≡ splice s i bs → length t ≡ length s
length-written s i bs h e = ap length e ∙ length-splice s i bs h

-- Pieces of m bytes each.
pub length-even : (m n : ℕ) (f : ℕ → List ℕ) → ((k : ℕ) → length (f k) ≡ m) → length (pieces n f) ≡ n * m
unfolding pieces
length-even m zero f e = let z : 0 * m ≡ 0 = omega arith in sym z
length-even m (suc n) f e = length-append (pieces n f) (f n) ∙ (let z : suc n * m ≡ n * m + m = omega arith in omega (arith, length-even m n f e, e n))

-- Fewer pieces are no longer.
pub length-fewer : (f : ℕ → List ℕ) (k n : ℕ) → k ≤ n → length (pieces k f) ≤ length (pieces n f)
unfolding pieces
length-fewer f k zero h = let e : k ≡ 0 = omega arith in rw e (omega arith)
length-fewer f k (suc n) h =
    by_cases (ℕ_discrete k (suc n))
    (λ e. rw e (omega arith))
    (λ d. omega (arith, length-fewer f k n (omega arith), length-append (pieces n f) (f n)))
