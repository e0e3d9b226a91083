-- Where no two records have one owner, the marks are the bridges.
use mathlib.Core.Path.{◌≡◌, refl, sym, ap}
use mathlib.Core.Bool.{Bool, true, false}
use mathlib.Core.Logic.{by_cases}
use mathlib.Core.List.{List}
use Prim.Native.Nat.{ℕ, zero, suc, ◌+◌, ◌≤◌, ◌<◌}
use native.Mathlib.Omega.{arith}
use native.Mathlib.Decide.{dec_lt}
use borrow.Author.Tests.{ltb-true}
use lib.Dec.{ltb}
use lib.ListN.{length, take}
use Rattle.order.proofs.Bools.{clash}
use Rattle.std.specs.List.{IsAllAdjacentAnswer}
use Rattle.std.proofs.lemmas.List.{get_or-take, length-take}
use Rattle.lists.specs.Rows.{at}
use Rattle.lists.proofs.Rows.{rows_same}
use Rattle.graph.specs.Records.{Record, records_in, record_at}
use Rattle.graph.specs.Bridges.{is_bridge, mark_of}
use Rattle.graph.proofs.Records.{records-length, records-at}
use Rattle.graph.proofs.Bridges.{OneRecord, mark-single}
use Rattle.serial_walk.specs.Marks.{bridge_marks}
use Rattle.marks_closing.specs.Marks.{bit, choke_marks}
use Rattle.marks.specs.Owned.{SingleOwners}

module _ (owners lefts rights : List ℕ) (K : ℕ) (s : SingleOwners K owners) where
  abbrev rs : List Record
  rs = records_in owners lefts rights K

  owner : (k : ℕ) → k < length rs → (record_at rs k).owner ≡ at owners k
  owner k l = ap (λ (r : Record). r.owner) (records-at owners lefts rights K k (omega (arith, records-length owners lefts rights K)))

  one : (b : ℕ) → OneRecord rs b
  one b k l p q e f =
      let size = records-length owners lefts rights K in
      by_cases (dec_lt k l) (λ h. absurd (omega (arith, s k l h (omega (arith, size)), owner k p, owner l q)))
      (λ h. by_cases (dec_lt l k) (λ g. absurd (omega (arith, s l k g (omega (arith, size)), owner k p, owner l q))) (λ g. omega arith))

  pub single-marks : (n : ℕ) → bridge_marks (records_in owners lefts rights K) n ≡ choke_marks (records_in owners lefts rights K) n
  unfolding bridge_marks choke_marks
  single-marks n =
      rows_same n (λ b. bit (is_bridge rs b)) (λ b. bit (mark_of rs b)) (λ b l. ap bit (sym (mark-single rs b (one b))))

-- each owner is below the next, so any two are in order
single-below : (owners : List ℕ) (n : ℕ) → ((k : ℕ) → k + 1 < n → at owners k < at owners (k + 1)) → SingleOwners n owners
single-below owners n h i zero l m = absurd (omega arith)
single-below owners n h i (suc j) l m =
    let step = h j (omega arith) in
    let next = ap (at owners) (let z : suc j ≡ j + 1 = omega arith in z) in
    by_cases (dec_lt i j) (λ g. omega (arith, single-below owners n h i j g (omega arith), step, next))
    (λ g. let e : i ≡ j = omega arith in omega (arith, step, next, ap (at owners) e))

-- what the slice's test says of the first n owners
pub single-sorted : (owners : List ℕ) (n : ℕ) (r : Bool) → n ≤ length owners → IsAllAdjacentAnswer (λ x y b. b ≡ ltb x y) (take n owners) r → r ≡ true
    → SingleOwners n owners
single-sorted owners n true room h e =
    single-below owners n
    (λ k l.
    let x = get_or-take n owners k 0 (omega arith) in
    let y = get_or-take n owners (k + 1) 0 l in
    omega (arith, x, y, ltb-true _ _ (sym (h k 0 (omega (arith, length-take n owners))))))
single-sorted owners n false room h e = clash e refl
