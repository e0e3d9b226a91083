-- The steps that open bytes name, one by one.
use mathlib.Core.Path.{◌≡◌, sym}
use mathlib.Core.Bool.{true}
use mathlib.Core.List.Memᴰ
use mathlib.Core.List.{List, Memᴰ}
use Prim.Native.Nat.{ℕ, ◌+◌, ◌<◌}
use native.Mathlib.Omega.{arith}
use lib.ListN.{length, get_or}
use Rattle.order.specs.Lists.{keep, up_from}
use Rattle.order.proofs.Keep.{keep-mem, mem-keep}
use Rattle.order.proofs.Gather.{gather-mem, mem-gather}
use Rattle.order.proofs.Numbers.{up_mem, mem_up}
use Rattle.graph.specs.Path.{Edge}
use Rattle.grid.specs.Steps.{step_of}
use Rattle.areas.specs.Open.{later, bit_at, named_from, named}

-- a bit of the byte of one of the first n cells names the edge
pub record Names (width : ℕ) (bytes : List ℕ) (n : ℕ) (e : Edge) : Type 0 where
  pub cell : ℕ
  pub bit : ℕ
  pub below : cell < n
  pub small : bit < 4
  pub is_set : bit_at (get_or bytes cell 0) bit ≡ true
  pub edge : step_of cell (cell + later width bit) ≡ e

module _ (width : ℕ) (bytes : List ℕ) where
  pub named-names : (e : Edge) → Memᴰ e (named width bytes) → Names width bytes (length bytes) e
  unfolding named named_from
  named-names e m =
      let u = gather-mem (λ i. named_from width (get_or bytes i 0) i) (up_from 0 (length bytes)) m in
      let v = Memᴰ.of_map (λ k. step_of u.0 (u.0 + later width k)) (keep (bit_at (get_or bytes u.0 0)) (up_from 0 4)) u.2 in
      let w = keep-mem (bit_at (get_or bytes u.0 0)) (up_from 0 4) v.1 in
      record {
        cell = u.0;
        bit = v.0;
        below = omega (arith, up_mem 0 (length bytes) u.1);
        small = omega (arith, up_mem 0 4 w.0);
        is_set = w.1;
        edge = v.2;
      }

  pub names-named : (e : Edge) → Names width bytes (length bytes) e → Memᴰ e (named width bytes)
  unfolding named named_from
  names-named e w =
      mem-gather (λ i. named_from width (get_or bytes i 0) i) (mem_up 0 (length bytes) w.cell (omega arith) (omega (arith, w.below)))
      (Memᴰ.cast (sym w.edge)
      (Memᴰ.map (λ k. step_of w.cell (w.cell + later width k))
      (mem-keep (bit_at (get_or bytes w.cell 0)) (mem_up 0 4 w.bit (omega arith) (omega (arith, w.small))) w.is_set)))
