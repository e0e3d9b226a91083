-- An answer's records, one after another.
use mathlib.Core.Path.{◌≡◌, refl, sym, ◌∙◌, ap, subst}
use mathlib.Core.Logic.{by_cases}
use mathlib.Core.List.{List, [], ◌∷◌, ◌++◌, flat_map, append-nil}
use Prim.Native.Nat.{ℕ, suc, ◌+◌, ◌-◌, ◌*◌, ◌≤◌, ◌<◌, min}
use native.Mathlib.Decide.{dec_lt}
use native.Mathlib.Omega.{arith}
use lib.ListN.{length, take, drop, length-take, length-drop, drop_of_length-le}
use lib.Seq.{take_at, drop_at, take_all, drop-drop}
use Rattle.lists.specs.Rows.{rows, sum}
use Rattle.lists.proofs.Rows.{length-rows, rows_same, rows_split}
use Rattle.format.specs.Records.{boundary_at, observation_at, source_at}
use Rattle.format.specs.Decode.{boundary_records, observation_records, source_records, observations_with, boundary_with, boundaries_with, source_count, ramp_of}
use Rattle.format.specs.declared.records.BoundaryRecord.{BoundaryRecord}
use Rattle.format.specs.declared.records.ObservationRecord.{ObservationRecord}
use Rattle.format.specs.declared.records.Source.{Source}
use Rattle.format.proofs.Distribution.{length-observations_with}
use Rattle.answer_text.specs.Lines.{source_line, source_lines, observation_fields, observation_line, observation_text, observation_texts, boundary_fields}
use Rattle.answer_text.specs.Lines.{boundary_line, boundary_text, boundary_texts}
use Rattle.answer_text.specs.Answer.{TextRoom, Writes, observations_at, sources_at, observation_here, SectionsInside, Moved}
use Rattle.answer_text.specs.declared.walk.Cursor.{Cursor}
use Rattle.answer_text.proofs.Writing.{Left, start, next, done, retell, room}

-- Records of a size, side by side.
module _ {A : Type 0} (read : List ℕ → ℕ → A) (s : List ℕ) (size : ℕ) where
  abbrev pub table : ℕ → ℕ → List A
  table i n = rows n (λ k. read s (i + k * size))

  pub table-cut : (i n m : ℕ) → table i (n + m) ≡ table i n ++ table (i + n * size) m
  table-cut i n m =
      rows_split n m (λ k. read s (i + k * size))
      ∙ ap (λ (t : List A). table i n ++ t)
      (rows_same m (λ k. read s (i + (n + k) * size)) (λ k. read s (i + n * size + k * size))
      (λ k h. let e : i + (n + k) * size ≡ i + n * size + k * size = omega arith in ap (read s) e))

  pub table-first : (i n j : ℕ) → i + size ≡ j → table i (suc n) ≡ read s i ∷ table j n
  unfolding rows
  table-first i n j h =
      let e : i + 0 * size ≡ i = omega arith in
      ap (λ (k : ℕ). read s k ∷ rows n (λ k. read s (i + suc k * size))) e
      ∙ ap (λ (t : List A). read s i ∷ t)
      (rows_same n (λ k. read s (i + suc k * size)) (λ k. read s (j + k * size))
      (λ k l. let f : i + suc k * size ≡ j + k * size = omega arith in ap (read s) f))

  -- As many as there are, of those that are asked for.
  pub table-take : (i a n : ℕ) → take a (table i n) ≡ table i (min a n)
  table-take i a n =
      by_cases (dec_lt a n)
      (λ h.
      let e : n ≡ a + (n - a) = omega arith in
      let f : min a n ≡ a = omega arith in
      ap (λ (k : ℕ). take a (table i k)) e
      ∙ ap (take a) (table-cut i a (n - a))
      ∙ take_at (table i a) (table (i + a * size) (n - a)) a (length-rows a (λ k. read s (i + k * size)))
      ∙ ap (table i) (sym f))
      λ h.
      let f : min a n ≡ n = omega arith in
      take_all a (table i n) (omega (arith, length-rows n (λ k. read s (i + k * size)))) ∙ ap (table i) (sym f)

  pub table-drop : (i a n : ℕ) → drop a (table i n) ≡ table (i + min a n * size) (n - min a n)
  unfolding rows
  table-drop i a n =
      by_cases (dec_lt a n)
      (λ h.
      let e : n ≡ a + (n - a) = omega arith in
      let f : a ≡ min a n = omega arith in
      ap (λ (k : ℕ). drop a (table i k)) e
      ∙ ap (drop a) (table-cut i a (n - a))
      ∙ drop_at (table i a) (table (i + a * size) (n - a)) a (length-rows a (λ k. read s (i + k * size)))
      ∙ ap (λ (k : ℕ). table (i + k * size) (n - k)) f)
      λ h.
      let f : 0 ≡ n - min a n = omega arith in
      let l : length (table i n) ≤ a = omega (arith, length-rows n (λ k. read s (i + k * size))) in
      drop_of_length-le (table i n) l ∙ ap (table (i + min a n * size)) f

-- Sources.
module _ (s : List ℕ) where
  source_first : (i n j : ℕ) → i + 8 ≡ j → source_lines (source_records s i (suc n)) ≡ source_line (source_at s i) ++ source_lines (source_records s j n)
  unfolding source_lines source_records flat_map
  source_first i n j h = ap (flat_map source_line) (table-first source_at s 8 i n j h)

  source-none : (i : ℕ) → source_lines (source_records s i 0) ≡ []
  unfolding source_lines source_records flat_map rows
  source-none i = refl

  -- The lines of the first i of n sources from a place on are written.
  abbrev pub SourcesLeft : ℕ → ℕ → List ℕ → ℕ → List ℕ → ℕ → ℕ → Type 0
  SourcesLeft from n out at now i p = Left (source_lines (source_records s from n)) out at (source_lines (source_records s (from + i * 8) (n - i)) ∷ []) now p

  module _ (from n : ℕ) (out : List ℕ) (at : ℕ) where
    pub sources-start : TextRoom (source_lines (source_records s from n)) out at → SourcesLeft from n out at out 0 at
    sources-start h =
        let e : from ≡ from + 0 * 8 = omega arith in
        let f : n ≡ n - 0 = omega arith in
        start _ (append-nil _
        ∙ sym (ap (λ (k : ℕ). source_lines (source_records s k n)) e ∙ ap (λ (k : ℕ). source_lines (source_records s (from + 0 * 8) k)) f)) h

    split : {now : List ℕ} {i p : ℕ} → i < n → SourcesLeft from n out at now i p
        → Left (source_lines (source_records s from n)) out at
        (source_line (source_at s (from + i * 8)) ∷ source_lines (source_records s (from + (i + 1) * 8) (n - (i + 1))) ∷ []) now p
    split {i = i} h l =
        let e : n - i ≡ suc (n - (i + 1)) = omega arith in
        let f : from + i * 8 + 8 ≡ from + (i + 1) * 8 = omega arith in
        retell _ (append-nil _ ∙ ap (λ (k : ℕ). source_lines (source_records s (from + i * 8) k)) e
        ∙ source_first (from + i * 8) (n - (i + 1)) (from + (i + 1) * 8) f
        ∙ ap (λ (t : List ℕ). source_line (source_at s (from + i * 8)) ++ t) (sym (append-nil _))) l

    pub source-room : {now : List ℕ} {i p : ℕ} (r : Source) → r ≡ source_at s (from + i * 8) → i < n → SourcesLeft from n out at now i p
        → TextRoom (source_line r) now p
    source-room {now} {i} {p} r e h l = subst (λ (x : Source). TextRoom (source_line x) now p) (sym e) (room (split h l))

    pub sources_next : {now after : List ℕ} {i p q : ℕ} (r : Source) → r ≡ source_at s (from + i * 8) → i < n → SourcesLeft from n out at now i p
        → Writes (source_line r) now p after q → SourcesLeft from n out at after (i + 1) q
    sources_next {now} {after} {i} {p} {q} r e h l w = next (split h l) (subst (λ (x : Source). Writes (source_line x) now p after q) e w)

    pub sources-end : {now : List ℕ} {i p : ℕ} → n ≤ i → SourcesLeft from n out at now i p → Writes (source_lines (source_records s from n)) out at now p
    sources-end {i = i} h l =
        let e : n - i ≡ 0 = omega arith in
        done (retell [] (append-nil _ ∙ ap (λ (k : ℕ). source_lines (source_records s (from + i * 8) k)) e ∙ source-none (from + i * 8)) l)

-- Fewer than are asked for are all.
module _ {A : Type 0} (l : List A) (a n m : ℕ) (e : length l ≡ n) (h : m ≡ min a n) where
  take-least : take m l ≡ take a l
  take-least =
      by_cases (dec_lt a n) (λ k. let f : m ≡ a = omega arith in ap (λ (j : ℕ). take j l) f) λ k.
      take_all m l (omega arith) ∙ sym (take_all a l (omega arith))

  drop-least : drop m l ≡ drop a l
  drop-least =
      by_cases (dec_lt a n) (λ k. let f : m ≡ a = omega arith in ap (λ (j : ℕ). drop j l) f) λ k.
      let f : length l ≤ m = omega arith in
      let g : length l ≤ a = omega arith in
      drop_of_length-le l f ∙ sym (drop_of_length-le l g)

  length-least : length (take a l) ≡ m
  length-least = length-take a l ∙ omega arith

module _ (s : List ℕ) (c : Cursor) where
  pub length-observations : length (observations_at s c) ≡ c.observations
  unfolding observation_records
  length-observations = length-rows c.observations (λ k. observation_at s (c.observation + k * 28))

  pub length-sources : length (sources_at s c) ≡ c.sources
  unfolding source_records
  length-sources = length-rows c.sources (λ k. source_at s (c.source + k * 8))

  -- n of the sources left, of k that are asked for, and what is left of them.
  module _ (k n : ℕ) (h : n ≡ min k c.sources) where
    pub sources-taken : source_records s c.source n ≡ take k (sources_at s c)
    unfolding source_records
    sources-taken = ap (λ (j : ℕ). table source_at s 8 c.source j) h ∙ sym (table-take source_at s 8 c.source k c.sources)

    pub sources-dropped : source_records s (c.source + n * 8) (c.sources - n) ≡ drop k (sources_at s c)
    unfolding source_records
    sources-dropped = ap (λ (j : ℕ). table source_at s 8 (c.source + j * 8) (c.sources - j)) h ∙ sym (table-drop source_at s 8 c.source k c.sources)

  observations-cons : 0 < c.observations
      → observations_at s c ≡ observation_at s c.observation ∷ observation_records s (c.observation + 28) (c.observations - 1)
  unfolding observation_records
  observations-cons h =
      let e : c.observations ≡ suc (c.observations - 1) = omega arith in
      ap (λ (j : ℕ). table observation_at s 28 c.observation j) e
      ∙ table-first observation_at s 28 c.observation (c.observations - 1) (c.observation + 28) refl

  -- The next observation is written in two pieces, and then passed.
  module _ (o : ObservationRecord) (n : ℕ) (e : o ≡ observation_at s c.observation) (h : n ≡ min o.sources c.sources) where
    here-count : n ≡ min (observation_at s c.observation).sources c.sources
    here-count = h ∙ ap (λ (x : ObservationRecord). min x.sources c.sources) e

    here-text : observation_fields o.ends o.bits n ++ source_lines (source_records s c.source n) ≡ observation_text (observation_here s c)
    unfolding observation_text observation_line observation_here
    here-text =
        let p = observation_at s c.observation in
        ap (λ (x : ObservationRecord). observation_fields x.ends x.bits n ++ source_lines (source_records s c.source n)) e
        ∙ ap (λ (j : ℕ). observation_fields p.ends p.bits j ++ source_lines (source_records s c.source n))
        (sym (length-least (sources_at s c) p.sources c.sources n length-sources here-count))
        ∙ ap (λ (l : List Source). observation_fields p.ends p.bits (length (take p.sources (sources_at s c))) ++ source_lines l)
        (sources-taken p.sources n here-count)

    pub here-start : (out : List ℕ) → TextRoom (observation_text (observation_here s c)) out c.at
        → Left (observation_text (observation_here s c)) out c.at (observation_fields o.ends o.bits n ∷ source_lines (source_records s c.source n) ∷ [])
        out c.at
    here-start out r = start _ (ap (λ (t : List ℕ). observation_fields o.ends o.bits n ++ t) (append-nil _) ∙ here-text) r

    pub here-sources : SectionsInside s c → c.source + n * 8 ≤ length s
    here-sources i = omega (arith, i.sources, here-count)

    pub here-moved : SectionsInside s c → 0 < c.observations → (at : ℕ)
        → Moved s c (record {
          at = at;
          observation = c.observation + 28;
          observations = c.observations - 1;
          source = c.source + n * 8;
          sources = c.sources - n;
        }) 1 (observation_at s c.observation).sources
    here-moved i k at = record {
      inside = record { observations = omega (arith, i.observations); sources = omega (arith, i.sources, here-count) };
      observations = sym (ap (drop 1) (observations-cons k));
      sources = sources-dropped (observation_at s c.observation).sources n here-count;
    }

  next-observations : (m : ℕ) → 0 < c.observations → observation_texts (observations_with (take (suc m) (observations_at s c)) (sources_at s c))
      ≡ observation_text (observation_here s c) ++ observation_texts
      (observations_with (take m (drop 1 (observations_at s c))) (drop (observation_at s c.observation).sources (sources_at s c)))
  unfolding observation_texts observations_with observation_here flat_map
  next-observations m h =
      ap (λ (l : List ObservationRecord). observation_texts (observations_with (take (suc m) l) (sources_at s c))) (observations-cons h)
      ∙ ap (λ (l : List ObservationRecord).
      observation_text (observation_here s c) ++ observation_texts
      (observations_with (take m l) (drop (observation_at s c.observation).sources (sources_at s c)))) (sym (ap (drop 1) (observations-cons h)))

  next-count : (m : ℕ) → 0 < c.observations
      → source_count (take (suc m) (observations_at s c)) ≡ (observation_at s c.observation).sources + source_count (take m (drop 1 (observations_at s c)))
  unfolding source_count sum
  next-count m h =
      ap (λ (l : List ObservationRecord). source_count (take (suc m) l)) (observations-cons h)
      ∙ ap (λ (l : List ObservationRecord). (observation_at s c.observation).sources + source_count (take m l)) (sym (ap (drop 1) (observations-cons h)))

-- The first i of n observations are written with their sources.
pub record ObservationsLeft (s : List ℕ) (n : ℕ) (c : Cursor) (out now : List ℕ) (i : ℕ) (d : Cursor) : Type 0 where
  pub text : Left (observation_texts (observations_with (take n (observations_at s c)) (sources_at s c))) out c.at
      (observation_texts (observations_with (take (n - i) (observations_at s d)) (sources_at s d)) ∷ []) now d.at
  pub inside : SectionsInside s d
  pub enough : n - i ≤ d.observations
  pub observations : drop (n - i) (observations_at s d) ≡ drop n (observations_at s c)
  pub sources : drop (source_count (take (n - i) (observations_at s d))) (sources_at s d) ≡ drop (source_count (take n (observations_at s c))) (sources_at s c)

module _ (s : List ℕ) (n : ℕ) (c : Cursor) (out : List ℕ) where
  pub observations-start : SectionsInside s c → n ≤ c.observations
      → TextRoom (observation_texts (observations_with (take n (observations_at s c)) (sources_at s c))) out c.at → ObservationsLeft s n c out out 0 c
  observations-start i h r =
      let e : n - 0 ≡ n = omega arith in
      record {
        text = start _ (append-nil _ ∙ ap (λ (k : ℕ). observation_texts (observations_with (take k (observations_at s c)) (sources_at s c))) e) r;
        inside = i;
        enough = omega arith;
        observations = ap (λ (k : ℕ). drop k (observations_at s c)) e;
        sources = ap (λ (k : ℕ). drop (source_count (take k (observations_at s c))) (sources_at s c)) e;
      }

  module _ {now : List ℕ} {i : ℕ} {d : Cursor} (l : ObservationsLeft s n c out now i d) (h : i < n) where
    pub some_left : 0 < d.observations
    some_left = omega (arith, l.enough)

    again : n - i ≡ suc (n - (i + 1))
    again = omega arith

    cut : Left (observation_texts (observations_with (take n (observations_at s c)) (sources_at s c))) out c.at
        (observation_text (observation_here s d) ∷ observation_texts
        (observations_with (take (n - (i + 1)) (drop 1 (observations_at s d))) (drop (observation_at s d.observation).sources (sources_at s d))) ∷ []) now
        d.at
    cut =
        retell _ (append-nil _ ∙ ap (λ (k : ℕ). observation_texts (observations_with (take k (observations_at s d)) (sources_at s d))) again
        ∙ next-observations s d (n - (i + 1)) some_left ∙ ap (λ (t : List ℕ). observation_text (observation_here s d) ++ t) (sym (append-nil _))) l.text

    pub observation-room : TextRoom (observation_text (observation_here s d)) now d.at
    observation-room = room cut

    module _ {after : List ℕ} (e : Cursor) (w : Writes (observation_text (observation_here s d)) now d.at after e.at)
        (m : Moved s d e 1 (observation_at s d.observation).sources) where
      pub observations-next : ObservationsLeft s n c out after (i + 1) e
      observations-next =
          let k = n - (i + 1) in
          let f : drop k (observations_at s e) ≡ drop (n - i) (observations_at s d)
          = ap (drop k) m.observations ∙ drop-drop k 1 (observations_at s d)
          ∙ ap (λ (j : ℕ). drop j (observations_at s d)) (let q : 1 + k ≡ n - i = omega arith in q) in
          let g : drop (source_count (take k (observations_at s e))) (sources_at s e) ≡ drop (source_count (take (n - i) (observations_at s d)))
          (sources_at s d)
          = ap (λ (x : List ObservationRecord). drop (source_count (take k x)) (sources_at s e)) m.observations
          ∙ ap (drop (source_count (take k (drop 1 (observations_at s d))))) m.sources
          ∙ drop-drop (source_count (take k (drop 1 (observations_at s d)))) (observation_at s d.observation).sources (sources_at s d)
          ∙ ap (λ (j : ℕ). drop j (sources_at s d)) (sym (next-count s d k some_left)
          ∙ ap (λ (j : ℕ). source_count (take j (observations_at s d))) (sym again)) in
          record {
            text = retell _ (ap (λ (t : List ℕ). t ++ [])
                (ap (λ (x : List ObservationRecord).
                observation_texts (observations_with (take k x) (drop (observation_at s d.observation).sources (sources_at s d)))) (sym m.observations)
                ∙ ap (λ (x : List Source). observation_texts (observations_with (take k (observations_at s e)) x)) (sym m.sources))) (next cut w);
            inside = m.inside;
            enough = omega (
              arith,
              l.enough,
              length-observations s e,
              length-observations s d,
              ap length m.observations,
              length-drop 1 (observations_at s d),
            );
            observations = f ∙ l.observations;
            sources = g ∙ l.sources;
          }

  module _ {now : List ℕ} {i : ℕ} {d : Cursor} (l : ObservationsLeft s n c out now i d) (h : n ≤ i) where
    over : n - i ≡ 0
    over = omega arith

    pub observations-written : Writes (observation_texts (observations_with (take n (observations_at s c)) (sources_at s c))) out c.at now d.at
    unfolding observation_texts observations_with flat_map
    observations-written = done
        (retell [] (append-nil _ ∙ ap (λ (k : ℕ). observation_texts (observations_with (take k (observations_at s d)) (sources_at s d))) over) l.text)

    pub observations-moved : Moved s c d n (source_count (take n (observations_at s c)))
    unfolding source_count sum
    observations-moved = record {
      inside = l.inside;
      observations = ap (λ (k : ℕ). drop k (observations_at s d)) (sym over) ∙ l.observations;
      sources = ap (λ (k : ℕ). drop (source_count (take k (observations_at s d))) (sources_at s d)) (sym over) ∙ l.sources;
    }

-- The boundary at a place is written in three pieces, the last of them from the cursor past its own sources, and then passed.
module _ (s : List ℕ) (place : ℕ) (c : Cursor) (b : BoundaryRecord) (n m : ℕ) (e : b ≡ boundary_at s place) (h : n ≡ min b.sources c.sources)
    (k : m ≡ min b.observations c.observations) where
  abbrev pub whole_of : BoundaryRecord → List ℕ
  whole_of r = boundary_text (boundary_with r (take r.observations (observations_at s c)) (sources_at s c))

  abbrev pub after-own : ℕ → Cursor
  after-own at = record { at = at; observation = c.observation; observations = c.observations; source = c.source + n * 8; sources = c.sources - n }

  text_of : boundary_fields b.ends b.bits n m (ramp_of b.ramp)
      ++ (source_lines (source_records s c.source n) ++ observation_texts
      (observations_with (take m (observations_at s c)) (source_records s (c.source + n * 8) (c.sources - n))))
      ≡ whole_of b
  unfolding boundary_text boundary_line boundary_with
  text_of =
      let os = observations_at s c in
      let ss = sources_at s c in
      let own : source_records s c.source n ≡ take b.sources ss = sources-taken s c b.sources n h in
      let others : source_records s (c.source + n * 8) (c.sources - n) ≡ drop b.sources ss = sources-dropped s c b.sources n h in
      let seen : take m os ≡ take b.observations os = take-least os b.observations c.observations m (length-observations s c) k in
      let count : n ≡ length (take b.sources ss) = sym (length-least ss b.sources c.sources n (length-sources s c) h) in
      let count2 : m ≡ length (observations_with (take b.observations os) (drop b.sources ss))
      = sym (length-observations_with (take b.observations os) (drop b.sources ss)
      ∙ length-least os b.observations c.observations m (length-observations s c) k) in
      ap (λ (x : List Source). boundary_fields b.ends b.bits n m (ramp_of b.ramp)
      ++ (source_lines x ++ observation_texts (observations_with (take m os) (source_records s (c.source + n * 8) (c.sources - n))))) own
      ∙ ap (λ (x : List Source). boundary_fields b.ends b.bits n m (ramp_of b.ramp)
      ++ (source_lines (take b.sources ss) ++ observation_texts (observations_with (take m os) x))) others
      ∙ ap (λ (x : List ObservationRecord).
      boundary_fields b.ends b.bits n m (ramp_of b.ramp)
      ++ (source_lines (take b.sources ss) ++ observation_texts (observations_with x (drop b.sources ss)))) seen
      ∙ ap (λ (x : ℕ). boundary_fields b.ends b.bits x m (ramp_of b.ramp)
      ++ (source_lines (take b.sources ss) ++ observation_texts (observations_with (take b.observations os) (drop b.sources ss)))) count
      ∙ ap (λ (x : ℕ). boundary_fields b.ends b.bits (length (take b.sources ss)) x (ramp_of b.ramp)
      ++ (source_lines (take b.sources ss) ++ observation_texts (observations_with (take b.observations os) (drop b.sources ss)))) count2

  pub whole-start : (out : List ℕ) → TextRoom (whole_of (boundary_at s place)) out c.at
      → Left (whole_of (boundary_at s place)) out c.at
      (boundary_fields b.ends b.bits n m (ramp_of b.ramp) ∷ source_lines (source_records s c.source n) ∷ observation_texts
      (observations_with (take m (observations_at s c)) (source_records s (c.source + n * 8) (c.sources - n))) ∷ []) out c.at
  whole-start out r =
      start _ (ap (λ (t : List ℕ). boundary_fields b.ends b.bits n m (ramp_of b.ramp) ++ (source_lines (source_records s c.source n) ++ t))
      (append-nil _) ∙ text_of ∙ ap whole_of e) r

  pub own-inside : SectionsInside s c → c.source + n * 8 ≤ length s
  own-inside i = omega (arith, i.sources, h)

  pub rest-inside : SectionsInside s c → (at : ℕ) → SectionsInside s (after-own at)
  rest-inside i at = record { observations = i.observations; sources = omega (arith, i.sources, h) }

  pub seen_few : m ≤ c.observations
  seen_few = omega (arith, k)

  pub whole-moved : (at : ℕ) (r : Cursor) → Moved s (after-own at) r m (source_count (take m (observations_at s c)))
      → Moved s c r (boundary_at s place).observations
      ((boundary_at s place).sources + source_count (take (boundary_at s place).observations (observations_at s c)))
  whole-moved at r v =
      let os = observations_at s c in
      let ss = sources_at s c in
      let seen : take m os ≡ take b.observations os = take-least os b.observations c.observations m (length-observations s c) k in
      let past : Moved s c r b.observations (b.sources + source_count (take b.observations os)) = record {
        inside = v.inside;
        observations = v.observations ∙ drop-least os b.observations c.observations m (length-observations s c) k;
        sources = v.sources
            ∙ ap (λ (x : List ObservationRecord). drop (source_count (take m os)) (source_records s (c.source + n * 8) (c.sources - n))) seen
            ∙ ap (drop (source_count (take m os))) (sources-dropped s c b.sources n h)
            ∙ ap (λ (x : List ObservationRecord). drop (source_count x) (drop b.sources ss)) seen
            ∙ drop-drop (source_count (take b.observations os)) b.sources ss;
      } in
      subst (λ (x : BoundaryRecord). Moved s c r x.observations (x.sources + source_count (take x.observations os))) e past

-- The first i of n boundaries are written.
pub record BoundariesLeft (s : List ℕ) (place n : ℕ) (c : Cursor) (out now : List ℕ) (i : ℕ) (d : Cursor) : Type 0 where
  pub text : Left (boundary_texts (boundaries_with (boundary_records s place n) (observations_at s c) (sources_at s c))) out c.at
      (boundary_texts (boundaries_with (boundary_records s (place + i * 40) (n - i)) (observations_at s d) (sources_at s d)) ∷ []) now d.at
  pub inside : SectionsInside s d

module _ (s : List ℕ) (place n : ℕ) (c : Cursor) (out : List ℕ) where
  abbrev pub rest : ℕ → ℕ → List ObservationRecord → List Source → List ℕ
  rest p k os ss = boundary_texts (boundaries_with (boundary_records s p k) os ss)

  abbrev pub head_of : ℕ → Cursor → List ℕ
  head_of p d = boundary_text (boundary_with (boundary_at s p) (take (boundary_at s p).observations (observations_at s d)) (sources_at s d))

  next-boundary : (p k q : ℕ) (d : Cursor) → p + 40 ≡ q → rest p (suc k) (observations_at s d) (sources_at s d)
      ≡ head_of p d ++ rest q k (drop (boundary_at s p).observations (observations_at s d))
      (drop ((boundary_at s p).sources + source_count (take (boundary_at s p).observations (observations_at s d))) (sources_at s d))
  unfolding boundary_texts boundaries_with boundary_records flat_map
  next-boundary p k q d h = ap (λ (l : List BoundaryRecord). boundary_texts (boundaries_with l (observations_at s d) (sources_at s d)))
      (table-first boundary_at s 40 p k q h)

  pub boundaries-start : SectionsInside s c → TextRoom (rest place n (observations_at s c) (sources_at s c)) out c.at → BoundariesLeft s place n c out out 0 c
  boundaries-start i r =
      let e : place + 0 * 40 ≡ place = omega arith in
      let f : n - 0 ≡ n = omega arith in
      record {
        text = start _ (append-nil _ ∙ ap (λ (k : ℕ). rest k (n - 0) (observations_at s c) (sources_at s c)) e
            ∙ ap (λ (k : ℕ). rest place k (observations_at s c) (sources_at s c)) f) r;
        inside = i;
      }

  module _ {now : List ℕ} {i : ℕ} {d : Cursor} (l : BoundariesLeft s place n c out now i d) (h : i < n) where
    abbrev here : ℕ
    here = place + i * 40

    part_left : Left (rest place n (observations_at s c) (sources_at s c)) out c.at
        (head_of here d ∷ rest (place + (i + 1) * 40) (n - (i + 1)) (drop (boundary_at s here).observations (observations_at s d))
        (drop ((boundary_at s here).sources + source_count (take (boundary_at s here).observations (observations_at s d))) (sources_at s d)) ∷ []) now d.at
    part_left =
        let e : n - i ≡ suc (n - (i + 1)) = omega arith in
        let f : here + 40 ≡ place + (i + 1) * 40 = omega arith in
        retell _ (append-nil _ ∙ ap (λ (k : ℕ). rest here k (observations_at s d) (sources_at s d)) e
        ∙ next-boundary here (n - (i + 1)) (place + (i + 1) * 40) d f ∙ ap (λ (t : List ℕ). head_of here d ++ t) (sym (append-nil _))) l.text

    pub boundary-room : TextRoom (head_of here d) now d.at
    boundary-room = room part_left

    pub boundaries-next : {after : List ℕ} (e : Cursor) → Writes (head_of here d) now d.at after e.at
        → Moved s d e (boundary_at s here).observations
        ((boundary_at s here).sources + source_count (take (boundary_at s here).observations (observations_at s d)))
        → BoundariesLeft s place n c out after (i + 1) e
    boundaries-next e w m = record {
      text = retell _ (ap (λ (t : List ℕ). t ++ [])
          (ap (λ (x : List ObservationRecord).
          rest (place + (i + 1) * 40) (n - (i + 1)) x
          (drop ((boundary_at s here).sources + source_count (take (boundary_at s here).observations (observations_at s d))) (sources_at s d)))
          (sym m.observations) ∙ ap (rest (place + (i + 1) * 40) (n - (i + 1)) (observations_at s e)) (sym m.sources))) (next part_left w);
      inside = m.inside;
    }

  pub boundaries-written : {now : List ℕ} {i : ℕ} {d : Cursor} → BoundariesLeft s place n c out now i d → n ≤ i
      → Writes (rest place n (observations_at s c) (sources_at s c)) out c.at now d.at
  unfolding boundary_texts boundaries_with boundary_records flat_map rows
  boundaries-written {i = i} {d = d} l h =
      let e : n - i ≡ 0 = omega arith in
      done (retell [] (append-nil _ ∙ ap (λ (k : ℕ). rest (place + i * 40) k (observations_at s d) (sources_at s d)) e) l.text)
