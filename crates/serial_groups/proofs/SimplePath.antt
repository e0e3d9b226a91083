-- The computed test of a simple path is what it means.
use mathlib.Core.Path.{◌≡◌}
use mathlib.Core.Logic.{◌↔◌}
use mathlib.Core.Bool.{Bool, true, not, ◌&&◌}
use mathlib.Core.List.{List}
use Prim.Native.Nat.{ℕ, suc, ◌≤◌}
use native.Mathlib.Omega.{arith}
use borrow.Author.Tests.{eqb-true, eqb-false, eq-eqb, ne_eqb, leb-true, le-leb, not-true}
use lib.Dec.{leb, eqb}
use lib.ListN.{length}
use Rattle.order.proofs.Bools.{and_parts, and_both}
use Rattle.grid.specs.Cells.{Grid}
use Rattle.serial_links.specs.Limits.{Limits}
use Rattle.order.specs.Tests.{every}
use Rattle.context.specs.Listing.{Item}
use Rattle.serial_groups.specs.Groups.{LinkGroup}
use Rattle.serial_groups.specs.SimplePath.{degree, ends_of, first_end, last_end, is_path, outer_region, simple_path, IsSimplePath}
use Rattle.order.proofs.Tests.{every-mem, mem-every}
use Rattle.order.proofs.Keep.{keep-length}

module _ (limits : Limits) (dirs : List ℕ) (g : Grid) (l : List Item) (least : ℕ) (a : LinkGroup) where
  pub simple-path-iff : (simple_path limits dirs g l least a ≡ true) ↔ IsSimplePath limits dirs g l least a
  unfolding simple_path is_path
  simple-path-iff = (to, from)
    where
      ranks : ℕ
      ranks = length a.ranks

      regular : ℕ → Bool
      regular i = leb 1 (degree a i) && leb (degree a i) 2

      one : ℕ
      one = outer_region dirs g l a (first_end a)

      other : ℕ
      other = outer_region dirs g l a (last_end a)

      to : simple_path limits dirs g l least a ≡ true → IsSimplePath limits dirs g l least a
      to h =
          let p = and_parts ((leb least ranks && leb ranks limits.most_spans) && is_path a) (not (eqb one other)) h in
          let q = and_parts (leb least ranks && leb ranks limits.most_spans) (is_path a) p.0 in
          let s = and_parts (leb least ranks) (leb ranks limits.most_spans) q.0 in
          let u = and_parts (eqb (suc (length a.links)) ranks && eqb (length (ends_of a)) 2) (every regular a.ranks) q.1 in
          let v = and_parts (eqb (suc (length a.links)) ranks) (eqb (length (ends_of a)) 2) u.0 in
          record {
            enough = leb-true least ranks s.0;
            most = leb-true ranks limits.most_spans s.1;
            one_fewer = eqb-true (suc (length a.links)) ranks v.0;
            two_ends = eqb-true (length (ends_of a)) 2 v.1;
            degrees = λ i m. let d = and_parts (leb 1 (degree a i)) (leb (degree a i) 2) (every-mem regular m u.1) in
                (leb-true 1 (degree a i) d.0, leb-true (degree a i) 2 d.1);
            outer = eqb-false one other (not-true (eqb one other) p.1);
          }

      from : IsSimplePath limits dirs g l least a → simple_path limits dirs g l least a ≡ true
      from w =
          and_both
          (and_both (and_both (le-leb least ranks w.enough) (le-leb ranks limits.most_spans w.most))
          (and_both (and_both (eq-eqb (suc (length a.links)) ranks w.one_fewer) (eq-eqb (length (ends_of a)) 2 w.two_ends))
          (mem-every regular a.ranks (λ i m. and_both (le-leb 1 (degree a i) (w.degrees i m).0) (le-leb (degree a i) 2 (w.degrees i m).1)))))
          (let e = ne_eqb one other w.outer in rw e)

  -- two ends are two ranks
  pub path-two : IsSimplePath limits dirs g l least a → 2 ≤ length a.ranks
  unfolding ends_of
  path-two w = omega (arith, w.two_ends, keep-length (λ i. eqb (degree a i) 1) a.ranks)
