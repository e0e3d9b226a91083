-- total_order of bit patterns is a total order: the place tells patterns apart.
use mathlib.Core.Path.{◌≡◌, refl}
use mathlib.Core.Bool.{Bool, true, false, cond}
use Prim.Native.Nat.{ℕ, ◌+◌, ◌-◌}
use native.Mathlib.Omega.{arith}
use borrow.Author.Tests.{ltb-true, ltb-false}
use lib.Dec.{ltb}
use Rattle.order.specs.Orders.{TotalOrder}
use Rattle.order.proofs.Numbers.{leb-order}
use Rattle.length.specs.Total.{total_key, total_le}

abbrev half : ℕ
half = 0x8000_0000_0000_0000

abbrev full : ℕ
full = 0x1_0000_0000_0000_0000

pub total-key-inj : (a b : ℕ) → total_key a ≡ total_key b → a ≡ b
unfolding total_key
total-key-inj a b e = go (ltb a half) (ltb a full) (ltb b half) (ltb b full) refl refl refl refl e
  where
    go : (p q r s : Bool) → ltb a half ≡ p → ltb a full ≡ q → ltb b half ≡ r → ltb b full ≡ s
        → cond p (a + half) (cond q (0xFFFF_FFFF_FFFF_FFFF - a) a) ≡ cond r (b + half) (cond s (0xFFFF_FFFF_FFFF_FFFF - b) b) → a ≡ b
    go true q true s e f g h k = omega arith
    go true q false true e f g h k = omega (arith, ltb-true a half e, ltb-false b half g, ltb-true b full h)
    go true q false false e f g h k = omega (arith, ltb-true a half e, ltb-false b full h)
    go false true true s e f g h k = omega (arith, ltb-false a half e, ltb-true a full f, ltb-true b half g)
    go false true false true e f g h k = omega (arith, ltb-true a full f, ltb-true b full h)
    go false true false false e f g h k = omega (arith, ltb-true a full f, ltb-false b full h)
    go false false true s e f g h k = omega (arith, ltb-false a full f, ltb-true b half g)
    go false false false true e f g h k = omega (arith, ltb-false a full f, ltb-true b full h)
    go false false false false e f g h k = k

pub total-order : TotalOrder total_le
unfolding total_le
total-order = record {
  orders = record {
    total = λ a b. leb-order.orders.total (total_key a) (total_key b);
    trans = λ a b c. leb-order.orders.trans (total_key a) (total_key b) (total_key c);
  };
  anti = λ a b e f. total-key-inj a b (leb-order.anti (total_key a) (total_key b) e f);
}
