-- Pieces written one after another.
use mathlib.Core.Path.{◌≡◌, refl, ◌∙◌, ap}
use mathlib.Core.List.{List, ◌++◌}
use Prim.Native.Nat.{ℕ, ◌+◌, ◌*◌, ◌≤◌, ◌<◌}
use native.Mathlib.Omega.{arith}
use lib.ListN.{length, get_or, length-append}
use Rattle.wire.specs.Bytes.{splice}
use Rattle.format.specs.Records.{source_bytes, boundary_bytes, observation_bytes, boundary_at}
use Rattle.format.specs.declared.records.BoundaryRecord.{BoundaryRecord}
use Rattle.format.proofs.RecordTrips.{source-trip, boundary-trip, observation-trip}
use Rattle.answer_sources.specs.Laying.{sum_below, elements}
use Rattle.answer_sources.specs.Placed.{boundary_rows}
use Rattle.format.specs.Records.{observation_words}
use Rattle.position.specs.declared.Span.{Span}
use Rattle.answer_sources.proofs.Lays.{below_next}
use Rattle.lists.specs.Rows.{sum, rows}
use Rattle.lists.proofs.Rows.{sum-prefix}
use Rattle.answer_encoding.specs.Pieces.{pieces, key_source, key_span, key_bits, kept_record, kept_piece, key_piece, run_from, run_length, place_run}
use Rattle.answer_encoding.specs.Pieces.{place_piece, runs_from, own_piece, group_piece, cited_total}
use Rattle.answer_encoding.specs.Answered.{RunsWritten, OwnPieceRoom, SourceRoom}
use Rattle.answer_encoding.proofs.Writing.{pieces_none, length-next, piece-written, length-written, length-even, length-fewer}
use Rattle.answer_encoding.proofs.Lengths.{part-short}
use Rattle.answer_encoding.proofs.Owns.{own-long}
use Rattle.format.proofs.Writes.{then-write}

-- The first i pieces stand from `at` on.
pub record Writes (before : List ℕ) (at : ℕ) (f : ℕ → List ℕ) (i : ℕ) (after : List ℕ) : Type 0 where
  pub wrote : after ≡ splice before at (pieces i f)
  pub long : length after ≡ length before

pub writes_start : (s : List ℕ) (at : ℕ) (f : ℕ → List ℕ) → Writes s at f 0 s
writes_start s at f = record { wrote = pieces_none s at f; long = refl }

pub writes-next : {s t : List ℕ} {at i : ℕ} {f : ℕ → List ℕ} (j : ℕ) (b : List ℕ) {u : List ℕ} → Writes s at f i t → at + length (pieces (i + 1) f) ≤ length s
    → j ≡ at + length (pieces i f) → u ≡ splice t j b → b ≡ f i → Writes s at f (i + 1) u
writes-next {s} {t} {at} {i} {f} j b {u} w h e p q =
    let n = length-next i f in
    let x = piece-written s at i f (omega arith) e w.wrote (p ∙ ap (splice t j) q) in
    record { wrote = x; long = length-written s at (pieces (i + 1) f) h x }

pub writes_end : {s t : List ℕ} {at i n : ℕ} {f : ℕ → List ℕ} → Writes s at f i t → i ≤ n → n ≤ i → t ≡ splice s at (pieces n f)
writes_end {s} {t} {at} {i} {n} {f} w h l = let e : i ≡ n = omega arith in w.wrote ∙ ap (λ (k : ℕ). splice s at (pieces k f)) e

-- One source.
pub key-is : (keys : List ℕ) (i : ℕ) {v : ℕ} → v ≡ get_or keys i 0 → source_bytes (key_source v) ≡ key_piece keys i
unfolding key_piece
key-is keys i e = ap (λ (v : ℕ). source_bytes (key_source v)) e

pub run_long : (keys : List ℕ) (from n : ℕ) → length (run_from keys from n) ≡ n * 8
unfolding key_piece
run_long keys from n = length-even 8 n (λ i. key_piece keys (from + i)) (λ k. source-trip.size (key_source (get_or keys (from + k) 0)))

-- One boundary.
pub kept-long : (bs : ℕ → BoundaryRecord) (kept owns seens : List ℕ) (n : ℕ) → length (pieces n (kept_piece bs kept owns seens)) ≡ n * 40
unfolding kept_piece
kept-long bs kept owns seens n =
    length-even 40 n (kept_piece bs kept owns seens) (λ k. boundary-trip.size (kept_record (bs (get_or kept k 0)) (get_or owns k 0) (get_or seens k 0)))

pub kept-is : (s : List ℕ) (at : ℕ) (kept owns seens : List ℕ) (k : ℕ) {x : BoundaryRecord} {p own seen : ℕ} → x ≡ boundary_at s (at + p * 40)
    → p ≡ get_or kept k 0 → own ≡ get_or owns k 0 → seen ≡ get_or seens k 0
    → boundary_bytes (kept_record x own seen) ≡ kept_piece (boundary_rows s at) kept owns seens k
unfolding kept_piece
kept-is s at kept owns seens k {x} {p} {own} {seen} e f g h =
    ap (λ (y : BoundaryRecord). boundary_bytes (kept_record y own seen)) (e ∙ ap (boundary_rows s at) f)
    ∙ ap (λ (z : ℕ). boundary_bytes (kept_record (boundary_rows s at (get_or kept k 0)) z seen)) g
    ∙ ap (λ (z : ℕ). boundary_bytes (kept_record (boundary_rows s at (get_or kept k 0)) (get_or owns k 0) z)) h

-- One observation.
module _ (first second third starts counts keys : List ℕ) where
  pub place_is : (p : ℕ) {e : Span} {v w x b n : ℕ} → v ≡ get_or first p 0 → w ≡ get_or second p 0 → x ≡ get_or third p 0 → e ≡ key_span v w → b ≡ key_bits x
      → n ≡ run_length starts counts keys p
      → observation_bytes (observation_words e b n) ≡ place_piece first second third starts counts keys p
  unfolding place_piece
  place_is p {e} {v} {w} {x} {b} {n} f g h i j k =
      ap (λ (z : Span). observation_bytes (observation_words z b n)) (i ∙ ap (λ (y : ℕ). key_span y w) f ∙ ap (key_span (get_or first p 0)) g)
      ∙ ap (λ (z : ℕ). observation_bytes (observation_words (key_span (get_or first p 0) (get_or second p 0)) z n)) (j ∙ ap key_bits h)
      ∙ ap (λ (z : ℕ). observation_bytes (observation_words (key_span (get_or first p 0) (get_or second p 0)) (key_bits (get_or third p 0)) z)) k

  pub places-long : (seen : List ℕ) (n : ℕ) → length (pieces n (λ q. place_piece first second third starts counts keys (get_or seen q 0))) ≡ n * 28
  unfolding place_piece
  places-long seen n =
      length-even 28 n (λ q. place_piece first second third starts counts keys (get_or seen q 0))
      (λ q. observation-trip.size
      (observation_words (key_span (get_or first (get_or seen q 0) 0) (get_or second (get_or seen q 0) 0)) (key_bits (get_or third (get_or seen q 0) 0))
      (run_length starts counts keys (get_or seen q 0))))

-- One observation's sources.
module _ (seen starts counts keys : List ℕ) (from : ℕ) where
  abbrev pub run_at : ℕ → List ℕ
  run_at i = place_run starts counts keys (get_or seen (from + i) 0)

  pub run_is : (i : ℕ) {p a c : ℕ} → p ≡ get_or seen (from + i) 0 → a ≡ get_or starts p 0 → c ≡ run_length starts counts keys p → run_from keys a c ≡ run_at i
  unfolding place_run
  run_is i {p} {a} {c} e f g =
      ap (λ (z : ℕ). run_from keys z c) f
      ∙ ap (run_from keys (get_or starts p 0)) g
      ∙ ap (place_run starts counts keys) e

  -- The places and lengths of the first i runs, which end at `to`.
  pub record Running (s : List ℕ) (at i n : ℕ) (t : List ℕ) (to : ℕ) : Type 0 where
    pub below-count : i ≤ n
    pub writes : Writes s at run_at i t
    pub place : to ≡ at + length (pieces i run_at)

  pub running-start : (s : List ℕ) (at n : ℕ) → Running s at 0 n s at
  unfolding pieces
  running-start s at n = record { below-count = omega arith; writes = writes_start s at run_at; place = omega arith }

-- One observation more.
module _ {seen starts counts keys : List ℕ} {from : ℕ} where
  module _ {s t : List ℕ} {at i n to : ℕ} (r : Running seen starts counts keys from s at i n t to)
      (h : at + length (runs_from seen starts counts keys from n) ≤ length s) (l : i < n) where
    run_fits : at + length (pieces (i + 1) (run_at seen starts counts keys from)) ≤ length s
    run_fits = omega (arith, length-fewer (run_at seen starts counts keys from) (i + 1) n (omega arith))

    module _ {p a c : ℕ} (e : p ≡ get_or seen (from + i) 0) (f : a ≡ get_or starts p 0) (g : c ≡ run_length starts counts keys p) where
      next-long : length (pieces (i + 1) (run_at seen starts counts keys from)) ≡ length (pieces i (run_at seen starts counts keys from)) + c * 8
      next-long = omega (arith, length-next i (run_at seen starts counts keys from), ap length (run_is seen starts counts keys from i e f g), run_long keys a c)

      pub run_room : to + c * 8 ≤ length t
      run_room = omega (arith, run_fits, next-long, r.place, r.writes.long)

      pub running-next : {u : List ℕ} → u ≡ splice t to (run_from keys a c) → Running seen starts counts keys from s at (i + 1) n u (to + c * 8)
      running-next q = record {
        below-count = omega arith;
        writes = writes-next to (run_from keys a c) r.writes run_fits r.place q (run_is seen starts counts keys from i e f g);
        place = omega (arith, next-long, r.place);
      }

  pub running-end : {s t : List ℕ} {at i n to : ℕ} → Running seen starts counts keys from s at i n t to → n ≤ i
      → RunsWritten s at (runs_from seen starts counts keys from n) t to
  running-end {at} {i} {n} r l = let e : i ≡ n = omega (arith, r.below-count) in record {
    wrote = writes_end r.writes r.below-count l;
    end = r.place ∙ ap (λ (k : ℕ). at + length (pieces k (run_at seen starts counts keys from))) e;
  }

-- The sources of the first observations.
module _ (seen starts counts keys : List ℕ) where
  pub record Cited (n i t : ℕ) : Type 0 where
    pub below-count : i ≤ n
    pub value : t ≡ cited_total seen starts counts keys i
    pub small : t ≤ i * 4096

  pub cited-start : (n : ℕ) → Cited n 0 0
  unfolding sum rows
  cited-start n = record { below-count = omega arith; value = refl; small = omega arith }

  pub cited-next : {n i t : ℕ} (p c : ℕ) → length keys ≤ 4096 → Cited n i t → i < n → p ≡ get_or seen i 0 → c ≡ run_length starts counts keys p
      → Cited n (i + 1) (t + c)
  cited-next {n} {i} {t} p c h r l e f =
      let g : c ≡ run_length starts counts keys (get_or seen i 0) = f ∙ ap (run_length starts counts keys) e in
      let m = part-short keys (get_or starts p 0) (get_or counts p 0) in
      record {
        below-count = omega arith;
        value = omega (arith, r.value, below_next (λ q. run_length starts counts keys (get_or seen q 0)) i);
        small = omega (arith, r.small, m.1);
      }

  pub cited-end : {n i t : ℕ} → Cited n i t → n ≤ i → (t ≡ cited_total seen starts counts keys n) × (t ≤ n * 4096)
  cited-end {n} {i} r l = let e : i ≡ n = omega (arith, r.below-count) in (r.value ∙ ap (cited_total seen starts counts keys) e, omega (arith, r.small))

-- Each boundary's sources.
module _ (job : List ℕ) (from : ℕ) (owns seens owned seen starts counts keys : List ℕ) where
  abbrev pub group_at : ℕ → List ℕ
  group_at k = group_piece job from owns seens owned seen starts counts keys k

  pub record Grouping (s : List ℕ) (at k n : ℕ) (t : List ℕ) (to a q : ℕ) : Type 0 where
    pub below-count : k ≤ n
    pub writes : Writes s at group_at k t
    pub place : to ≡ at + length (pieces k group_at)
    pub owns-are : a ≡ sum_below (elements owns) k
    pub seens_are : q ≡ sum_below (elements seens) k

  pub grouping-start : (s : List ℕ) (at n : ℕ) → Grouping s at 0 n s at 0 0
  unfolding pieces sum rows
  grouping-start s at n = record { below-count = omega arith; writes = writes_start s at group_at; place = omega arith; owns-are = refl; seens_are = refl }

-- One boundary more.
module _ {job : List ℕ} {from : ℕ} {owns seens owned seen starts counts keys : List ℕ} where
  module _ {s t : List ℕ} {at k n to a q : ℕ} (r : Grouping job from owns seens owned seen starts counts keys s at k n t to a q)
      (h : SourceRoom job from n owns seens owned seen starts counts keys at s) (l : k < n)
      {own m : ℕ} (e : own ≡ get_or owns k 0) (f : m ≡ get_or seens k 0) where
    pub own-sum : a + own ≡ sum_below (elements owns) (k + 1)
    own-sum = omega (arith, r.owns-are, below_next (elements owns) k)

    pub seen-sum : q + m ≡ sum_below (elements seens) (k + 1)
    seen-sum = omega (arith, r.seens_are, below_next (elements seens) k)

    own-within : a + own ≤ sum_below (elements owns) n
    own-within = omega (arith, own-sum, sum-prefix (k + 1) n (elements owns) (omega arith))

    pub own-few : a + own ≤ 4096
    own-few = omega (arith, own-within, h.own-limit)

    pub seen_few : q + m ≤ 1280
    seen_few = omega (arith, seen-sum, sum-prefix (k + 1) n (elements seens) (omega arith), h.seen-limit)

    group-is : own_piece job from owned a own ++ runs_from seen starts counts keys q m ≡ group_at job from owns seens owned seen starts counts keys k
    unfolding group_piece
    group-is =
        ap (λ (z : ℕ). own_piece job from owned z own ++ runs_from seen starts counts keys q m) r.owns-are
        ∙ ap (λ (z : ℕ). own_piece job from owned (sum_below (elements owns) k) z ++ runs_from seen starts counts keys q m) e
        ∙ ap (λ (z : ℕ). own_piece job from owned (sum_below (elements owns) k) (get_or owns k 0) ++ runs_from seen starts counts keys z m) r.seens_are
        ∙ ap (λ (z : ℕ). own_piece job from owned (sum_below (elements owns) k) (get_or owns k 0)
        ++ runs_from seen starts counts keys (sum_below (elements seens) k) z) f

    group-long : length (pieces (k + 1) (group_at job from owns seens owned seen starts counts keys))
        ≡ length (pieces k (group_at job from owns seens owned seen starts counts keys)) + (own * 8 + length (runs_from seen starts counts keys q m))
    group-long = omega (
      arith,
      length-next k (group_at job from owns seens owned seen starts counts keys),
      ap length group-is,
      length-append (own_piece job from owned a own) (runs_from seen starts counts keys q m),
      own-long job from owned a own,
    )

    group-fits : at + length (pieces (k + 1) (group_at job from owns seens owned seen starts counts keys)) ≤ length s
    group-fits = omega (arith, length-fewer (group_at job from owns seens owned seen starts counts keys) (k + 1) n (omega arith), h.room)

    pub own_room : {p : ℕ} → p ≡ to → OwnPieceRoom job from owned a own p t
    own_room g = record {
      limit = own-few;
      inside = λ i b. h.own-inside (a + i) (omega (arith, own-within));
      room = omega (arith, group-fits, group-long, r.place, r.writes.long);
    }

    module _ {u : List ℕ} (w : u ≡ splice t to (own_piece job from owned a own)) where
      own-fits : to + length (own_piece job from owned a own) ≤ length t
      own-fits = omega (arith, own-long job from owned a own, (own_room refl).room)

      pub seen-room : to + own * 8 + length (runs_from seen starts counts keys q m) ≤ length u
      seen-room = omega (arith, length-written t to (own_piece job from owned a own) own-fits w, group-fits, group-long, r.place, r.writes.long)

      pub grouping-next : {v : List ℕ} {end : ℕ} → RunsWritten u (to + own * 8) (runs_from seen starts counts keys q m) v end
          → Grouping job from owns seens owned seen starts counts keys s at (k + 1) n v end (a + own) (q + m)
      grouping-next x = record {
        below-count = omega arith;
        writes = writes-next to (own_piece job from owned a own ++ runs_from seen starts counts keys q m) r.writes group-fits r.place
            (then-write t to (own_piece job from owned a own) (runs_from seen starts counts keys q m) own-fits
            (omega (arith, own-long job from owned a own)) w x.wrote)
            group-is;
        place = omega (arith, x.end, group-long, r.place);
        owns-are = own-sum;
        seens_are = seen-sum;
      }

  pub grouping-end : {s t : List ℕ} {at k n to a q : ℕ} → Grouping job from owns seens owned seen starts counts keys s at k n t to a q → n ≤ k
      → t ≡ splice s at (pieces n (group_at job from owns seens owned seen starts counts keys))
  grouping-end r l = writes_end r.writes r.below-count l
