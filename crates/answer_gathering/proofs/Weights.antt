-- How much of the room the ranks take.
use mathlib.Core.Path.{◌≡◌, refl, sym, ◌∙◌, ap}
use mathlib.Core.Logic.{by_cases}
use mathlib.Core.Bool.{Bool, true, false, cond}
use mathlib.Core.List.Permᴰ
use mathlib.Core.List.{List, ◌∷◌, map, map-map}
use Prim.Native.Nat.{ℕ, zero, suc, ◌+◌, ◌≤◌}
use native.Mathlib.Decide.{ℕ_discrete}
use native.Mathlib.Omega.{arith}
use borrow.Author.Tests.{eq-eqb, ne_eqb, lt-ltb, le-ltb, ltb-false, ltb-true}
use lib.Dec.{eqb, ltb}
use lib.ListN.{length, get_or}
use Rattle.lists.specs.Rows.{rows, sum}
use Rattle.lists.proofs.Rows.{sum-last, rows_same, sum-perm}
use Rattle.order.specs.Lists.{up_from}
use Rattle.order.proofs.Bools.{by-test}
use Rattle.answer_sources.specs.Laying.{sum_below, own_count, seen_count}
use Rattle.answer_sources.specs.Gathered.{PlacesOrder}
use Rattle.answer_sources.proofs.Layouts.{below_none}
use Rattle.answer_sources.proofs.Stands.{place-below}
use Rattle.answer_gathering.specs.Runs.{into, lower, own_weight, seen_weight}
use Rattle.answer_gathering.specs.Room.{OwnsRoom, SeensRoom, GatherRoom}

-- Those that go into a lower rank, and those that go into this one.
weight-split : (x i v : ℕ) → cond (ltb x i) v 0 + cond (eqb x i) v 0 ≡ cond (ltb x (i + 1)) v 0
weight-split x i v =
    by_cases (ℕ_discrete x i)
    (λ e. rw (le-ltb x i (omega (arith, e)), eq-eqb x i e, lt-ltb x (i + 1) (omega (arith, e))) (omega arith))
    (λ d. by-test (ltb x i)
    (λ t. rw (t, ne_eqb x i d, lt-ltb x (i + 1) (omega (arith, ltb-true x i t))) (omega arith))
    (λ t. rw (t, ne_eqb x i d, le-ltb x (i + 1) (let h = ltb-false x i t in more x i h d)) (omega arith)))
  where
    more : (x i : ℕ) → i ≤ x → (x ≡ i → ⊥) → i + 1 ≤ x
    more x i h d = by_cases (ℕ_discrete x i) (λ e. absurd (d e)) (λ n. omega arith)

pub lower-next : (plan : List ℕ) (w : ℕ → ℕ) (i n : ℕ) → sum_below (lower plan w i) n + sum_below (into plan w i) n ≡ sum_below (lower plan w (i + 1)) n
lower-next plan w i zero = omega (arith, below_none (lower plan w i), below_none (into plan w i), below_none (lower plan w (i + 1)))
lower-next plan w i (suc n) =
    omega (
      arith,
      lower-next plan w i n,
      sum-last n (lower plan w i),
      sum-last n (into plan w i),
      sum-last n (lower plan w (i + 1)),
      weight-split (get_or plan n 0) i (w n),
    )

cond-most : (b : Bool) (v : ℕ) → cond b v 0 ≤ v
cond-most true v = omega arith
cond-most false v = omega arith

pub lower-all : (plan : List ℕ) (w : ℕ → ℕ) (i n : ℕ) → sum_below (lower plan w i) n ≤ sum_below w n
lower-all plan w i zero = omega (arith, below_none (lower plan w i))
lower-all plan w i (suc n) = omega (arith, lower-all plan w i n, sum-last n (lower plan w i), sum-last n w, cond-most (ltb (get_or plan n 0) i) (w n))

-- A sum over the places is a sum over the ranks.
rows-up : (f : ℕ → ℕ) (a n : ℕ) → map f (up_from a n) ≡ rows n (λ k. f (a + k))
unfolding up_from rows
rows-up f a zero = refl
rows-up f a (suc n) =
    let e : a ≡ a + 0 = omega arith in
    ap (λ (z : ℕ). f z ∷ map f (up_from (suc a) n)) e
    ∙ ap (λ (t : List ℕ). f (a + 0) ∷ t)
    (rows-up f (suc a) n ∙ rows_same n (λ k. f (suc a + k)) (λ k. f (a + suc k)) (λ k h. ap f (let d : suc a + k ≡ a + suc k = omega arith in d)))

below_up : (f : ℕ → ℕ) (n : ℕ) → sum_below f n ≡ sum (map f (up_from 0 n))
below_up f n = ap sum (sym (rows-up f 0 n ∙ rows_same n (λ k. f (0 + k)) f (λ k h. ap f (let d : 0 + k ≡ k = omega arith in d))))

below-order : (order : List ℕ) (n : ℕ) → PlacesOrder order n → (f : ℕ → ℕ) → sum_below (λ j. f (get_or order j 0)) n ≡ sum_below f n
below-order order n p f =
    below_up (λ j. f (get_or order j 0)) n
    ∙ (sym (ap sum (map-map f (λ j. get_or order j 0) (up_from 0 n)))
    ∙ (sym (sum-perm (Permᴰ.map f p)) ∙ sym (below_up f n)))

below_suc : (f : ℕ → ℕ) (n : ℕ) → sum_below (λ j. suc (f j)) n ≡ n + sum_below f n
below_suc f zero = omega (arith, below_none f, below_none (λ j. suc (f j)))
below_suc f (suc n) = omega (arith, below_suc f n, sum-last n f, sum-last n (λ j. suc (f j)))

module _ {s : List ℕ} {at n from base heads : ℕ} {order plan stands firsts starts links kept owns seens owned seen places : List ℕ}
    (room : GatherRoom s at n from base heads order plan stands firsts starts links kept owns seens owned seen places) where
  own-weight : sum_below (own_weight s at order) n ≡ sum_below (own_count s at) n
  own-weight = below-order order n room.ordered (own_count s at)

  seen-weight : sum_below (seen_weight order (seen_count s at)) n ≤ base + n
  seen-weight = omega (arith, below-order order n room.ordered (seen_count s at), below_suc (λ j. seen_count s at (get_or order j 0)) n, room.seen-small)

  pub owns-room : OwnsRoom s at from base order starts heads kept owns n
  owns-room = record {
    own = record {
      few = room.few;
      order-in = place-below order n room.ordered;
      records-in = room.records-in;
      starts-room = room.starts-room;
      inside = room.own_in;
      small = room.own-few;
    };
    owned-room = rw own-weight room.own-small;
    kept-room = room.kept-room;
    owns-room = room.owns-room;
  }

  pub seens-room : SeensRoom s at base order plan stands firsts seens seen places n
  seens-room = record {
    own = record {
      few = room.few;
      base-few = room.base-few;
      order-in = place-below order n room.ordered;
      records-in = room.records-in;
      firsts-room = room.firsts-room;
      places-in = room.places-in;
      standing = room.standing;
    };
    small = omega (arith, seen-weight, room.few, room.base-few);
    seens-room = room.seens-room;
    seen-room = omega (arith, seen-weight, room.seen-room);
    spare-room = omega (arith, seen-weight, room.places-room);
  }

-- Room stays room in lists that are as long.
pub owns-room-same : {s order starts kept owns kept' owns' : List ℕ} {at from base heads n : ℕ} → OwnsRoom s at from base order starts heads kept owns n
    → length kept' ≡ length kept → length owns' ≡ length owns → OwnsRoom s at from base order starts heads kept' owns' n
owns-room-same r a b = record {
  own = r.own;
  owned-room = r.owned-room;
  kept-room = omega (arith, r.kept-room, a);
  owns-room = omega (arith, r.owns-room, b);
}

pub seens-room-same : {s order plan stands firsts seens seen spare seens' seen' spare' : List ℕ} {at base n : ℕ}
    → SeensRoom s at base order plan stands firsts seens seen spare n
    → length seens' ≡ length seens → length seen' ≡ length seen → length spare' ≡ length spare
    → SeensRoom s at base order plan stands firsts seens' seen' spare' n
seens-room-same r a b c = record {
  own = r.own;
  small = r.small;
  seens-room = omega (arith, r.seens-room, a);
  seen-room = omega (arith, r.seen-room, b);
  spare-room = omega (arith, r.spare-room, c);
}
