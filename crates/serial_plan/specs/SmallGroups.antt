-- Groups that pass are small enough to be looked at whole.
use mathlib.Core.Path.{◌≡◌}
use mathlib.Core.Bool.{Bool, true, ◌&&◌}
use mathlib.Core.List.{List}
use Prim.Native.Nat.{ℕ, suc, ◌≤◌}
use native.Mathlib.Omega.{arith}
use borrow.Author.Tests.{eqb-true, leb-true}
use lib.Dec.{eqb, leb}
use lib.Ieee.{le}
use lib.ListN.{length, get_or}
use Rattle.order.proofs.Bools.{and_parts}
use Rattle.order.proofs.Keep.{keep-length}
use Rattle.areas.specs.Spans.{span_in}
use Rattle.serial_links.specs.Limits.{Limits}
use Rattle.serial_links.specs.Geometry.{centre_distance}
use Rattle.order.specs.Tests.{every}
use Rattle.serial_groups.specs.Flat.{least_flat_spans}
use Rattle.serial_plan.specs.Arrays.{is_on}
use Rattle.serial_plan.specs.Rules.{SmallGroup}
use Rattle.serial_plan.specs.Shape.{degree_in, ends_in, chain_in, path_in, all_alike_in}
use Rattle.serial_plan.specs.declared.tables.Tables.{Tables}
use Rattle.serial_plan.specs.Tables.{serial_by, flat_by}
use Rattle.serial_plan.specs.Told.{serial_in, flat_in}

module _ (lowers highers regions firsts seconds : List ℕ) (least most : ℕ) where
  -- how many ranks and links a path has: two ranks at least, for it has two ends
  pub path-sizes : (rs js : List ℕ) → path_in lowers highers regions firsts seconds least most rs js ≡ true
      → (2 ≤ length rs) × (length rs ≤ most) × (suc (length js) ≡ length rs)
  unfolding path_in ends_in
  path-sizes rs js h =
      let p = and_parts _ _ h in
      let q = and_parts _ _ p.0 in
      let s = and_parts (leb least (length rs)) (leb (length rs) most) q.0 in
      let u = and_parts _ _ q.1 in
      let v = and_parts (eqb (suc (length js)) (length rs)) (eqb (length (ends_in firsts seconds rs js)) 2) u.0 in
      let two = eqb-true (length (ends_in firsts seconds rs js)) 2 v.1 in (
        omega (arith, two, keep-length (λ i. eqb (degree_in firsts seconds js i) 1) rs),
        leb-true (length rs) most s.1,
        eqb-true (suc (length js))
            (length rs) v.0,
      )

passed-path : (a b c : Bool) → (a && b) && c ≡ true → b ≡ true
passed-path a b c h = (and_parts a b (and_parts (a && b) c h).0).1

module _ (limits : Limits) (own lowers highers regions firsts seconds : List ℕ) where
  serial-sized : (passing : List ℕ) → limits.most_spans ≤ 16 → (rs js : List ℕ)
      → serial_in limits own lowers highers regions firsts seconds passing rs js ≡ true → SmallGroup rs js
  unfolding serial_in
  serial-sized passing m rs js h =
      let q = passed-path (every (is_on passing) js) (path_in lowers highers regions firsts seconds limits.least_spans limits.most_spans rs js)
      (le (chain_in firsts seconds own js) limits.chain && le
      (centre_distance (span_in own (get_or (ends_in firsts seconds rs js) 0 0)) (span_in own (get_or (ends_in firsts seconds rs js) 1 0))) limits.chain) h in
      let s = path-sizes lowers highers regions firsts seconds limits.least_spans limits.most_spans rs js q in
      (omega (arith, s.0), omega (arith, s.1), omega (arith, s.1, s.2))

  flat-sized : limits.most_spans ≤ 16 → (rs js : List ℕ) → flat_in limits own lowers highers regions firsts seconds rs js ≡ true → SmallGroup rs js
  unfolding flat_in
  flat-sized m rs js h =
      let p = and_parts (path_in lowers highers regions firsts seconds least_flat_spans limits.most_spans rs js) (all_alike_in limits own rs) h in
      let s = path-sizes lowers highers regions firsts seconds least_flat_spans limits.most_spans rs js p.0 in
      (omega (arith, s.0), omega (arith, s.1), omega (arith, s.1, s.2))

pub serial-small : (passing : List ℕ) (limits : Limits) (t : Tables) → limits.most_spans ≤ 16 → (rs js : List ℕ) → serial_by limits t passing rs js ≡ true
    → SmallGroup rs js
serial-small passing limits t = serial-sized limits t.own.now t.lowers.now t.highers.now t.regions.now t.firsts.now t.seconds.now passing

pub flat-small : (limits : Limits) (t : Tables) → limits.most_spans ≤ 16 → (rs js : List ℕ) → flat_by limits t rs js ≡ true → SmallGroup rs js
flat-small limits t = flat-sized limits t.own.now t.lowers.now t.highers.now t.regions.now t.firsts.now t.seconds.now
