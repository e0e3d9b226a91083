-- Room for what is worked out of a job, for what is gathered of it, and for its answer.
use mathlib.Core.Path.{◌≡◌, refl, sym, ap, subst}
use mathlib.Core.List.{List}
use Prim.Native.Nat.{ℕ, ◌+◌, ◌*◌, ◌≤◌}
use native.Mathlib.Omega.{arith}
use lib.ListN.{length, length-replicate, replicate}
use Rattle.format.specs.Decode.{source_records}
use Rattle.format.specs.Encode.{encode_answer}
use Rattle.format.specs.Values.{Boundary}
use Rattle.answer_firsts.proofs.Firsts.{linked-zero}
use Rattle.answer_sources.specs.Laying.{seen_count, sources_in}
use Rattle.answer_sources.specs.Standing.{Standing}
use Rattle.answer_sources.specs.Placed.{CopiesPlaced, PlaceRoom, PlacedInside, JobPlaces, boundary_rows, observation_rows}
use Rattle.answer_sources.specs.Gathered.{PlacesOrder}
use Rattle.answer_sources.proofs.Layouts.{apart_none}
use Rattle.answer_gathering.specs.Room.{GatherRoom}
use Rattle.answer_encoding.specs.Answered.{Answered, WorkRoom, WorkedOut, GatherArrays}

-- New arrays, of a numbers and of b.
pub work-room : {n m count : ℕ} (a b : ℕ) → count ≤ a → a ≤ 4096 → m + n ≤ b → n ≤ 256
    → WorkRoom n m count (replicate 256 0) (replicate b 0) (replicate b 0) (replicate b 0) (replicate b 0) (replicate b 0) (replicate a 0)
work-room a b h k l f =
    let x = length-replicate {A = ℕ} a 0 in
    let y = length-replicate {A = ℕ} b 0 in
    record {
      keys-room = omega arith;
      keys-few = omega arith;
      firsts-room = omega (arith, length-replicate {A = ℕ} 256 0);
      starts-room = omega arith;
      counts-room = omega arith;
      clear = apart_none b b;
      ranks = record { first-room = omega arith; second-room = omega arith; third-room = omega arith };
    }

pub gather-arrays : {n m count links : ℕ} (most b : ℕ) → links ≡ 6 * most → count ≤ most → most ≤ 4096 → m + n ≤ b
    → GatherArrays n m count (4 * most) (replicate links 0) (replicate most 0) (replicate b 0) (replicate b 0)
gather-arrays most b e h k l =
    let y = length-replicate {A = ℕ} b 0 in
    record {
      most = most;
      heads-are = refl;
      most-room = h;
      most-few = k;
      links-new = ap (λ (k : ℕ). replicate k 0) e;
      owned-new = refl;
      seen-room = omega arith;
      places-room = omega arith;
    }

-- Of a job's counts.
module _ {s : List ℕ} {at n ats m from count : ℕ} (j : JobPlaces s at n ats m from count) where
  pub all-places : JobPlaces s at n ats m from (sources_in s at n ats m)
  all-places = subst (JobPlaces s at n ats m from) (sym j.sources-add) j

  pub place-room : {firsts first second third starts counts keys spare : List ℕ} → WorkRoom n m count firsts first second third starts counts keys
      → count ≤ length spare → PlaceRoom n m (sources_in s at n ats m) keys spare firsts starts counts first second third
  place-room w h = record {
    keys-room = omega (arith, j.sources-add, w.keys-room);
    spare-room = omega (arith, j.sources-add);
    plan = record { firsts-room = w.firsts-room; starts-room = w.starts-room; counts-room = w.counts-room; clear = w.clear };
    ranks = w.ranks;
  }

  pub worked-out : {order plan stands firsts first second third starts counts keys : List ℕ} → Standing order plan (seen_count s at) n stands
      → CopiesPlaced (boundary_rows s at) (observation_rows s ats) (source_records s from (sources_in s at n ats m)) m n stands firsts first second third starts
      counts keys
      → PlacedInside (boundary_rows s at) (observation_rows s ats) (source_records s from (sources_in s at n ats m)) m n (sources_in s at n ats m) firsts starts
      → length keys ≤ 4096 → n ≤ length firsts → m + n ≤ length starts
      → WorkedOut s at n ats m from count order plan stands firsts first second third starts counts keys
  worked-out t p i k f l =
      let e = sym j.sources-add in
      record { standing = t; placed = rw e p; inside = rw e i; keys-few = k; firsts-room = f; starts-room = l }

  -- Once they are placed.
  module _ {order plan stands firsts first second third starts counts keys links owned seen places : List ℕ} {heads : ℕ}
      (w : WorkedOut s at n ats m from count order plan stands firsts first second third starts counts keys)
      (g : GatherArrays n m count heads links owned seen places) where
    pub gather-room : PlacesOrder order n
        → GatherRoom s at n from m heads order plan stands firsts starts links (replicate 256 0) (replicate 256 0) (replicate 256 0) owned seen places
    gather-room o =
        let x = length-replicate {A = ℕ} 256 0 in
        let few = j.countable.boundary-limit in
        let links-new = g.links-new in
        let owned-new = g.owned-new in
        record {
          few = few;
          base-few = j.countable.observation-limit;
          ordered = o;
          records-in = j.countable.boundaries-in;
          seen-room = g.seen-room;
          places-room = g.places-room;
          starts-room = w.starts-room;
          firsts-room = w.firsts-room;
          kept-room = omega arith;
          owns-room = omega arith;
          seens-room = omega arith;
          places-in = w.inside.seen-in;
          own_in = λ b h. omega (arith, w.inside.own_in b h, j.sources-in);
          own-few = λ b h. omega (arith, w.inside.own_in b h, g.most-room, g.most-few);
          own-small = omega (arith, w.inside.own_room, g.most-room, g.heads-are);
          seen-small = w.inside.seen-room;
          linked = rw (g.heads-are, links-new, owned-new) (linked-zero g.most g.most-few);
          standing = w.standing;
        }

pub answered-same : {ks ls : List Boundary} {before after : List ℕ} {r : ℕ} → ks ≡ ls → Answered (encode_answer ks) before after r
    → Answered (encode_answer ls) before after r
answered-same {before} {after} {r} e a = subst (λ (k : List Boundary). Answered (encode_answer k) before after r) e a
