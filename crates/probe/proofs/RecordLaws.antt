-- Records read one by one, and what the bridge walk and marking ask of them.
use mathlib.Core.Path.{◌≡◌, refl, ◌∙◌, ap}
use mathlib.Core.Bool.{Bool, true, false, ◌&&◌}
use mathlib.Core.List.{List, ◌++◌}
use Prim.Native.Nat.{ℕ, zero, suc, ◌+◌, ◌*◌, ◌-◌, ◌≤◌, ◌<◌}
use native.Mathlib.Omega.{arith}
use borrow.Author.Tests.{ltb-true, leb-true, le-ltb}
use lib.Dec.{ltb, leb}
use lib.ListN.{length, get_or, set, drop, replicate, length-replicate, get_or-replicate, get_or-append}
use Rattle.lists.proofs.Rows.{length-rows, rows_same}
use Rattle.wire.specs.Bytes.{splice, u32_at}
use Rattle.wire.proofs.Parts.{length-splice}
use Rattle.wire.proofs.Words.{four_bytes}
use Rattle.graph.specs.Records.{Record, record_in, records_in}
use Rattle.serial_walk.specs.Marks.{bridge_marks}
use Rattle.marks_closing.specs.Marks.{choke_marks}
use Rattle.marks_closing.specs.Ranges.{RisingOwners}
use Rattle.serial_bridges.specs.Names.{Labelled}
use Rattle.graph.specs.Slices.{Owners}
use Rattle.probe.specs.Probe.{put_first}
use Rattle.probe.specs.Records.{owner_at, left_at, right_at, records_at, fitting, fits_at, fault_number, Loaded, AllFit, OwnersRise}
use Rattle.probe.specs.declared.bare_records.Fault.{Fault}
use Rattle.probe.specs.declared.bare_records.Fault.TheVariants.{Uneven, TooMany, Unfit, ShortMarks, Falling}

-- what was read is the records of the bytes
pub same-records : {s owners lefts rights : List ℕ} {n : ℕ} → Loaded s n owners lefts rights → records_in owners lefts rights n ≡ records_at s n
unfolding records_in records_at
same-records {s} {owners} {lefts} {rights} {n} a =
    rows_same n (record_in owners lefts rights) (λ k. record { owner = owner_at s k; left = left_at s k; right = right_at s k })
    (λ k h.
    let p : get_or owners k 0 ≡ owner_at s k = a.owner k h in
    let q : get_or lefts k 0 ≡ left_at s k = a.left k h in
    let r : get_or rights k 0 ≡ right_at s k = a.right k h in
    ap (λ (x : ℕ). made x (get_or lefts k 0) (get_or rights k 0)) p ∙ ap (λ (x : ℕ). made (owner_at s k) x (get_or rights k 0)) q
    ∙ ap (made (owner_at s k) (left_at s k)) r)
  where
    made : ℕ → ℕ → ℕ → Record
    made x y z = record { owner = x; left = y; right = z }

both_first : (p q : Bool) → (p && q) ≡ true → p ≡ true
both_first true q e = refl
both_first false q e = e

both-second : (p q : Bool) → (p && q) ≡ true → q ≡ true
both-second true q e = e
both-second false true e = refl
both-second false false e = e

-- the numbers of a record that fits
record Fitting (owner left right regions : ℕ) : Type 0 where
  small : owner < 256
  left-from : 0 < left
  left-to : left ≤ regions
  right-from : 0 < right
  right-to : right ≤ regions

fitting-is : (o l r n : ℕ) → fitting o l r n ≡ true → Fitting o l r n
fitting-is o l r n e =
    let a : (((ltb o 256 && ltb 0 l) && leb l n) && ltb 0 r) ≡ true = both_first (((ltb o 256 && ltb 0 l) && leb l n) && ltb 0 r) (leb r n) e in
    let b : ((ltb o 256 && ltb 0 l) && leb l n) ≡ true = both_first ((ltb o 256 && ltb 0 l) && leb l n) (ltb 0 r) a in
    let c : (ltb o 256 && ltb 0 l) ≡ true = both_first (ltb o 256 && ltb 0 l) (leb l n) b in
    record {
      small = ltb-true o 256 (both_first (ltb o 256) (ltb 0 l) c);
      left-from = ltb-true 0 l (both-second (ltb o 256) (ltb 0 l) c);
      left-to = leb-true l n (both-second (ltb o 256 && ltb 0 l) (leb l n) b);
      right-from = ltb-true 0 r (both-second ((ltb o 256 && ltb 0 l) && leb l n) (ltb 0 r) a);
      right-to = leb-true r n (both-second (((ltb o 256 && ltb 0 l) && leb l n) && ltb 0 r) (leb r n) e);
    }

fits-is : (s : List ℕ) (n k : ℕ) → fits_at s n k ≡ true → Fitting (owner_at s k) (left_at s k) (right_at s k) n
unfolding fits_at
fits-is s n k e = fitting-is (owner_at s k) (left_at s k) (right_at s k) n e

pub loaded-owners : {s owners lefts rights : List ℕ} {n : ℕ} (regions : ℕ) → Loaded s n owners lefts rights → AllFit s regions n → Owners n owners
loaded-owners {s} {owners} {lefts} {rights} {n} regions a f k h = omega (arith, a.owner k h, (fits-is s regions k (f k h)).small)

pub loaded-labels : {s owners lefts rights : List ℕ} {n : ℕ} {regions : ℕ} → Loaded s n owners lefts rights → n ≤ 4096 → AllFit s regions n
    → Labelled n lefts rights regions
loaded-labels {s} {owners} {lefts} {rights} {n} {regions} a few f = record {
  few = few;
  lefts-are = omega (arith, a.lefts-are);
  rights-are = omega (arith, a.rights-are);
  left-from = λ k h. omega (arith, a.left k h, (fits-is s regions k (f k h)).left-from);
  left-to = λ k h. omega (arith, a.left k h, (fits-is s regions k (f k h)).left-to);
  right-from = λ k h. omega (arith, a.right k h, (fits-is s regions k (f k h)).right-from);
  right-to = λ k h. omega (arith, a.right k h, (fits-is s regions k (f k h)).right-to);
}

-- a byte and a word of zeros at the start
zero-byte : (w : List ℕ) (n i : ℕ) → i < n → get_or (splice w 0 (replicate n 0)) i 0 ≡ 0
unfolding splice
zero-byte w n i h = get_or-append (replicate n 0) (drop (0 + length {A = ℕ} (replicate n 0)) w) 0 i (omega (arith, h, length-replicate {A = ℕ} n 0))
    ∙ get_or-replicate n i 0 0 h

pub zero_word : (w : List ℕ) (regions : ℕ) → 4 * regions ≤ length w → (x : ℕ) → x < regions → u32_at (splice w 0 (replicate (4 * regions) 0)) (0 + 4 * x) ≡ 0
zero_word w regions l x h =
    let e : length (splice w 0 (replicate (4 * regions) 0)) ≡ length w =
    length-splice w 0 (replicate (4 * regions) 0) (omega (arith, length-replicate {A = ℕ} (4 * regions) 0)) in
    omega (
      arith,
      four_bytes (splice w 0 (replicate (4 * regions) 0)) (0 + 4 * x) (omega arith),
      zero-byte w (4 * regions) (0 + 4 * x) (omega arith),
      zero-byte w (4 * regions) (0 + 4 * x + 1) (omega arith),
      zero-byte w (4 * regions) (0 + 4 * x + 2) (omega arith),
      zero-byte w (4 * regions) (0 + 4 * x + 3) (omega arith),
    )

pub bridges-long : (rs : List Record) → length (bridge_marks rs 256) ≡ 256
unfolding bridge_marks
bridges-long rs = length-rows 256 _

pub chokes-long : (rs : List Record) → length (choke_marks rs 256) ≡ 256
unfolding choke_marks
chokes-long rs = length-rows 256 _

-- 256 marks before the rest
first_marks : {found : List ℕ} (marks ms : List ℕ) → found ≡ ms → length ms ≡ 256 → 256 ≤ length marks → put_first marks found ≡ ms ++ drop 256 marks
unfolding put_first
first_marks marks ms e long h = ap (put_first marks) e ∙ rw (long, le-ltb (length marks) 256 h)

zeros-are : {z : List ℕ} (w : List ℕ) (regions : ℕ) → z ≡ splice w 0 (replicate (4 * regions - 0) 0) → z ≡ splice w 0 (replicate (4 * regions) 0)
zeros-are w regions e = e ∙ ap (λ (n : ℕ). splice w 0 (replicate n 0)) (let q : 4 * regions - 0 ≡ 4 * regions = omega arith in q)

-- the table that was set to 0
pub zero_room : {z : List ℕ} (w : List ℕ) (regions : ℕ) → z ≡ splice w 0 (replicate (4 * regions - 0) 0) → 4 * regions ≤ length w → 0 + 4 * regions ≤ length z
zero_room {z} w regions e l = omega (
  arith,
  ap (λ (t : List ℕ). length t) (zeros-are w regions e),
  length-splice w 0 (replicate (4 * regions) 0) (omega (arith, length-replicate {A = ℕ} (4 * regions) 0)),
)

pub zero-table : {z : List ℕ} (w : List ℕ) (regions : ℕ) → z ≡ splice w 0 (replicate (4 * regions - 0) 0) → 4 * regions ≤ length w → (x : ℕ) → x < regions
    → u32_at z (0 + 4 * x) ≡ 0
zero-table w regions e l x h = ap (λ (t : List ℕ). u32_at t (0 + 4 * x)) (zeros-are w regions e) ∙ zero_word w regions l x h

-- the marks that f gives the records that were read stand before the rest
pub marks-end : (f : List Record → ℕ → List ℕ) → ((rs : List Record) → length (f rs 256) ≡ 256) → {s owners lefts rights found out : List ℕ} {n : ℕ}
    (marks : List ℕ) → Loaded s n owners lefts rights → found ≡ f (records_in owners lefts rights n) 256 → 256 ≤ length marks → out ≡ put_first marks found
    → out ≡ f (records_at s n) 256 ++ drop 256 marks
marks-end f long {s} {n = n} marks a e h q =
    q ∙ first_marks marks (f (records_at s n) 256) (e ∙ ap (λ (rs : List Record). f rs 256) (same-records a)) (long (records_at s n)) h

-- owners that do not fall from one record to the next rise over any distance
rise-over : (f : ℕ → ℕ) (n : ℕ) → ((k : ℕ) → 0 < k → k < n → f (k - 1) ≤ f k) → (i d : ℕ) → i + d < n → f i ≤ f (i + d)
rise-over f n h i zero l = omega (arith, ap f (let q : i + 0 ≡ i = omega arith in q))
rise-over f n h i (suc d) l =
    omega (
      arith,
      rise-over f n h i d (omega arith),
      h (i + suc d) (omega arith) l,
      ap f (let q : i + suc d - 1 ≡ i + d = omega arith in q),
    )

pub loaded-rising : {s owners lefts rights : List ℕ} {n : ℕ} → Loaded s n owners lefts rights → OwnersRise s n → RisingOwners n owners
loaded-rising {s} {owners} {n = n} a h i j b l =
    omega (
      arith,
      a.owner i (omega arith),
      a.owner j l,
      rise-over (owner_at s) n h i (j - i) (omega arith),
      ap (owner_at s) (let q : i + (j - i) ≡ j = omega arith in q),
    )

-- a fault's number is a refusal's
pub fault-above : (f : Fault) → 0 < fault_number f
fault-above Uneven = omega arith
fault-above (TooMany n) = omega arith
fault-above (Unfit k) = omega arith
fault-above ShortMarks = omega arith
fault-above (Falling k) = omega arith
