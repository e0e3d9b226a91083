-- The own sources of those that go into one rank, one rank after another: each kind once.
use mathlib.Core.Path.{◌≡◌, refl, sym, ◌∙◌, ap, subst}
use mathlib.Core.Bool.{Bool, true, false, cond}
use mathlib.Core.List.{List, [], ◌++◌, append-nil}
use Prim.Native.Nat.{ℕ, ◌+◌, ◌*◌, ◌≤◌, ◌<◌}
use native.Mathlib.Omega.{arith}
use borrow.Author.Tests.{eq-eqb, ne_eqb}
use lib.Dec.{eqb}
use lib.ListN.{length, get_or}
use Rattle.wire.specs.Bytes.{AreBytes}
use Rattle.format.specs.Sizes.{source_size}
use Rattle.format.specs.Decode.{source_records}
use Rattle.format.specs.declared.records.Source.{Source}
use Rattle.answer_firsts.specs.Links.{Linked, Covers}
use Rattle.answer_firsts.specs.Firsts.{FirstSources}
use Rattle.answer_firsts.proofs.Firsts.{firsts-none, firsts-next}
use Rattle.answer_sources.specs.Laying.{sum_below, own_count}
use Rattle.answer_sources.proofs.Lays.{below_next}
use Rattle.answer_gathering.specs.Runs.{own_at, own_into, own_weight, into, FirstsBy}
use Rattle.answer_gathering.specs.Room.{OwnRoom}
use Rattle.answer_gathering.proofs.Goings.{gather-last, gather_none, into-part}

pub place_in : {s : List ℕ} {at from base : ℕ} {order starts : List ℕ} {n j b : ℕ} → OwnRoom s at from base order starts n → j < n → b ≡ get_or order j 0
    → b < n
place_in {j = j} room h e = rw e (room.order-in j h)

-- The own sources of rank j, which has place b: m from place p on.
module _ {s : List ℕ} {at from base : ℕ} {order starts : List ℕ} {n j : ℕ} (room : OwnRoom s at from base order starts n) (h : j < n) {b p m : ℕ}
    (e : b ≡ get_or order j 0) (start : p ≡ get_or starts (base + b) 0) (many : m ≡ own_count s at b) where
  pub own-inside : from + 8 * (p + m) ≤ length s
  own-inside = omega (arith, start, many, room.inside b (place_in room h e))

  pub own-small : p + m ≤ 0x1_0000
  own-small = omega (arith, start, many, room.small b (place_in room h e))

  own-records : source_records s (from + p * source_size) m ≡ own_at s at from base order starts j
  own-records =
      ap (λ (k : ℕ). source_records s (from + k * source_size) m) (start ∙ ap (λ (k : ℕ). get_or starts (base + k) 0) e)
      ∙ ap (source_records s (from + get_or starts (base + get_or order j 0) 0 * source_size)) (many ∙ ap (own_count s at) e)

module _ {s : List ℕ} {at from base : ℕ} {order plan starts : List ℕ} {heads first i : ℕ} where
  pub by-none : {links owned : List ℕ} → Linked heads s from first first links owned
      → FirstsBy s at from base order plan starts heads first i 0 first owned links owned
  by-none {links} {owned} g = record {
    firsts = subst (FirstSources heads s from first first links owned) (sym (gather_none (own_at s at from base order starts) plan i)) (firsts-none g);
    old = λ q h. refl;
    room = omega arith;
  }

  -- What stands before them compared with what stands there, and with what stood there earlier.
  pub by-now : {j count : ℕ} {before links owned : List ℕ} → FirstsBy s at from base order plan starts heads first i j count before links owned
      → FirstsBy s at from base order plan starts heads first i j count owned links owned
  by-now f = record { firsts = f.firsts; old = λ q h. refl; room = f.room }

  pub by-since : {j k count more : ℕ} {before links owned links' owned' : List ℕ}
      → FirstsBy s at from base order plan starts heads first i j count before links owned
      → FirstsBy s at from base order plan starts heads first i k more owned links' owned'
      → FirstsBy s at from base order plan starts heads first i k more before links' owned'
  by-since f g = record { firsts = g.firsts; old = λ q h. g.old q h ∙ f.old q h; room = g.room }

  pub by_end : {count : ℕ} {before links owned : List ℕ} (j n : ℕ) → FirstsBy s at from base order plan starts heads first i j count before links owned
      → j ≤ n → n ≤ j → FirstsBy s at from base order plan starts heads first i n count before links owned
  by_end {count} {before} {links} {owned} j n f h k =
      let e : j ≡ n = omega arith in
      subst (λ (z : ℕ). FirstsBy s at from base order plan starts heads first i z count before links owned) e f

  module _ {j count : ℕ} {before links owned : List ℕ}
      (f : FirstsBy s at from base order plan starts heads first i j count before links owned) {z : ℕ} (e : z ≡ get_or plan j 0) where
    all-next : (t : Bool) → eqb (get_or plan j 0) i ≡ t
        → own_into s at from base order plan starts (j + 1) i ≡ own_into s at from base order plan starts j i
        ++ cond t (own_at s at from base order starts j) []
    all-next t d =
        gather-last (own_at s at from base order starts) plan j i
        ∙ ap (λ (b : Bool). own_into s at from base order plan starts j i ++ cond b (own_at s at from base order starts j) []) d

    -- A rank that goes elsewhere.
    pub by-else : (z ≡ i → ⊥) → FirstsBy s at from base order plan starts heads first i (j + 1) count before links owned
    by-else d = record {
      firsts = subst (FirstSources heads s from first count links owned)
          (sym (all-next false (ne_eqb (get_or plan j 0) i (λ q. d (e ∙ q))) ∙ append-nil (own_into s at from base order plan starts j i))) f.firsts;
      old = f.old;
      room = omega (arith, f.room, below_next (into plan (own_weight s at order) i) j);
    }

    module _ (d : z ≡ i) {n b p m : ℕ} (room : OwnRoom s at from base order starts n) (h : j < n) (place : b ≡ get_or order j 0)
        (start : p ≡ get_or starts (base + b) 0) (many : m ≡ own_count s at b) where
      goes_in : eqb (get_or plan j 0) i ≡ true
      goes_in = eq-eqb (get_or plan j 0) i (sym e ∙ d)

      weighs : into plan (own_weight s at order) i j ≡ m
      weighs = ap (λ (t : Bool). cond t (own_weight s at order j) 0) goes_in ∙ sym (many ∙ ap (own_count s at) place)

      pub by-room : 4 * (first + sum_below (into plan (own_weight s at order) i) n) ≤ heads → 4 * (count + m) ≤ heads
      by-room l = omega (arith, l, f.room, weighs, into-part plan (own_weight s at order) i j n h)

      -- One that goes into rank i.
      pub by_next : AreBytes s → {r : ℕ} {links' owned' : List ℕ} → Covers heads s from first count p m owned links' owned' r
          → FirstsBy s at from base order plan starts heads first i (j + 1) r before links' owned'
      by_next bytes {r} {links'} {owned'} c = record {
        firsts = subst (FirstSources heads s from first r links' owned')
            (sym (all-next true goes_in
            ∙ ap (λ (l : List Source). own_into s at from base order plan starts j i ++ l) (sym (own-records room h place start many))))
            (firsts-next bytes f.firsts (own-inside room h place start many) c);
        old = λ q l. c.old q (omega (arith, f.firsts.low)) ∙ f.old q l;
        room = omega (arith, f.room, c.most, weighs, below_next (into plan (own_weight s at order) i) j);
      }
