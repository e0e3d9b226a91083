-- What the stages leave, taken together.
use mathlib.Core.Path.{◌≡◌, sym, ◌∙◌, ap, subst}
use mathlib.Core.List.{List, ◌∷◌}
use Prim.Native.Nat.{ℕ, suc, ◌+◌, ◌*◌, ◌≤◌, ◌<◌}
use native.Mathlib.Omega.{arith}
use borrow.Author.Tests.{eq-eqb}
use lib.Dec.{leb}
use lib.ListN.{length, get_or, take, drop}
use Rattle.lists.specs.Rows.{All}
use Rattle.lists.proofs.Rows.{length-rows, rows_same, sum-prefix}
use Rattle.lists.proofs.Each.{all_take, all_drop}
use Rattle.wire.specs.Bytes.{AreBytes}
use Rattle.order.specs.Sorting.{sort_once}
use Rattle.position.specs.declared.Span.{Span}
use Rattle.format.specs.Values.{Observation}
use Rattle.format.specs.Records.{source_at, boundary_at, observation_at}
use Rattle.format.specs.Decode.{source_records}
use Rattle.format.specs.Fits.{SourceFits}
use Rattle.format.proofs.RecordTrips.{source-trip}
use Rattle.format.proofs.RowTrips.{rows_fit}
use Rattle.serial_merging.specs.Copies.{sorted_sources, canon, canon_observation}
use Rattle.length.specs.Total.{total_key}
use Rattle.order.specs.Keys.{by_key}
use Rattle.serial_merging.specs.Keys.{observation_key}
use Rattle.places.specs.Orders.{rest_key, place_key, by_run}
use Rattle.order.specs.Keys.{pack}
use Rattle.answer_sources.specs.Packed.{packed, KeyAt}
use Rattle.answer_sources.specs.Laying.{sum_below, own_count, seen_count, cited_count, own_start, LaidAll}
use Rattle.answer_sources.specs.Squeezed.{part_of, KeysRoom, KeysRead, PartsRoom, Squeezed}
use Rattle.answer_sources.specs.Ranked.{RankKeys}
use Rattle.answer_sources.specs.Placed.{observation_from, boundary_of, itself, HoldsObservation, CopiesPlaced, PlacedInside, JobPlaces, PlaceRoom}
use Rattle.answer_sources.specs.Placed.{boundary_rows, observation_rows}
use Rattle.answer_sources.proofs.Lays.{below_next}
use Rattle.answer_sources.proofs.Decoded.{rows-part}
use Rattle.answer_sources.proofs.Layouts.{apart-wider}
use Rattle.serial_merging.proofs.Packed.{sources-fit}
use Rattle.answer_sources.proofs.Packs.{sorted-packed, observation-le}

-- Sources from a place on are a part of all.
pub records-part : (s : List ℕ) (from count a c : ℕ) → a + c ≤ count
    → source_records s (from + a * 8) c ≡ take c (drop a (source_records s from count))
unfolding source_records
records-part s from count a c h =
    rows_same c (λ k. source_at s (from + a * 8 + k * 8)) (λ k. source_at s (from + (a + k) * 8)) (λ k l. ap (source_at s) (omega arith))
    ∙ sym (rows-part count a c (λ k. source_at s (from + k * 8)) h)

pub records-length : (s : List ℕ) (from count : ℕ) → length (source_records s from count) ≡ count
unfolding source_records
records-length s from count = length-rows count (λ k. source_at s (from + k * 8))

module _ {s : List ℕ} {at n ats m from count : ℕ} (j : JobPlaces s at n ats m from count) where
  total : sum_below (own_count s at) n + sum_below (cited_count s ats) (sum_below (seen_count s at) n) ≡ count
  total = rw j.observations-add j.sources-add

  pub places-few : m + n ≤ 1280
  places-few = omega (arith, j.countable.observation-limit, j.countable.boundary-limit)

  -- Room to read and to sort the parts, once they are laid.
  module _ {stands keys₀ spare firsts₀ firsts starts₀ starts counts₀ counts f g h : List ℕ} (r : PlaceRoom n m count keys₀ spare firsts₀ starts₀ counts₀ f g h)
      (l : LaidAll stands (own_count s at) (seen_count s at) (cited_count s ats) m n firsts starts counts)
      (x : length starts ≡ length starts₀) (y : length counts ≡ length counts₀) where
    pub keys-room : KeysRoom s from (m + n) keys₀ starts counts
    keys-room = record {
      total = count;
      starts-room = omega (arith, r.plan.starts-room, x);
      counts-room = omega (arith, r.plan.counts-room, y);
      clear = apart-wider l.clear (omega (arith, total));
      keys-room = r.keys-room;
      sources-in = j.sources-in;
    }

    pub parts-room : {keys : List ℕ} → KeysRead s from (m + n) starts counts keys₀ keys → PartsRoom keys spare starts counts (m + n)
    parts-room k = record {
      starts-room = omega (arith, r.plan.starts-room, x);
      counts-room = omega (arith, r.plan.counts-room, y);
      clear = apart-wider l.clear (omega (arith, total, k.long, r.keys-room));
      spare-room = λ q. omega (arith, l.clear.ends q, total, r.spare-room);
    }

  own-end : (b : ℕ) → b < n → own_start (own_count s at) (seen_count s at) (cited_count s ats) b + own_count s at b ≤ count
  own-end b h =
      let x = sum-prefix (b + 1) n (own_count s at) (omega arith) in
      let y = sum-prefix b n (seen_count s at) (omega arith) in
      let z = sum-prefix (sum_below (seen_count s at) b) m (cited_count s ats) (omega (arith, j.observations-add)) in
      omega (arith, below_next (own_count s at) b, j.sources-add)

  place-below : (b k : ℕ) → b < n → k < seen_count s at b → sum_below (seen_count s at) b + k < m
  place-below b k h l =
      let y = sum-prefix (b + 1) n (seen_count s at) (omega arith) in
      omega (arith, below_next (seen_count s at) b, j.observations-add)

  cited-end : (b p : ℕ) → b < n → p < m → sum_below (own_count s at) (suc b) + sum_below (cited_count s ats) p + cited_count s ats p ≤ count
  cited-end b p h l =
      let x = sum-prefix (suc b) n (own_count s at) (omega arith) in
      let z = sum-prefix (p + 1) m (cited_count s ats) (omega arith) in
      omega (arith, below_next (cited_count s ats) p, j.sources-add)

  module _ {stands keys₀ keys₁ keys₂ firsts starts counts₁ counts₂ f₀ g₀ h₀ f₁ g₁ h₁ f₂ g₂ h₂ : List ℕ} (bytes : AreBytes s)
      (k : KeysRead s from (m + n) starts counts₁ keys₀ keys₁)
      (l : LaidAll stands (own_count s at) (seen_count s at) (cited_count s ats) m n firsts starts counts₁)
      (q : Squeezed starts keys₁ counts₁ keys₂ counts₂ (m + n))
      (r : RankKeys (λ i. (observation_at s (ats + i * 28)).ends) (λ i. (observation_at s (ats + i * 28)).bits) 0 m f₀ g₀ h₀ f₁ g₁ h₁)
      (t : RankKeys (λ i. (boundary_at s (at + i * 40)).ends) (λ i. (boundary_at s (at + i * 40)).bits) m n f₁ g₁ h₁ f₂ g₂ h₂) where
    all_fit : All SourceFits (source_records s from count)
    unfolding source_records
    all_fit = rows_fit source-trip count s from bytes j.sources-in

    part-fit : (a c : ℕ) → All SourceFits (take c (drop a (source_records s from count)))
    part-fit a c = all_take c (all_drop a all_fit)

    -- a part's sources, sorted
    run_of : (w a c : ℕ) → w < m + n → get_or starts w 0 ≡ a → get_or counts₁ w 0 ≡ c → a + c ≤ count
        → part_of keys₂ starts counts₂ w ≡ packed (sorted_sources (take c (drop a (source_records s from count))))
    run_of w a c h x y z =
        q.done w h
        ∙ ap (sort_once leb) (k.there w h ∙ (λ i. packed (source_records s (from + x i * 8) (y i))) ∙ ap packed (records-part s from count a c z))
        ∙ sorted-packed (take c (drop a (source_records s from count))) (part-fit a c)

    key-kept : (p : ℕ) (e : Span) (bits : ℕ) → p < m → KeyAt f₁ g₁ h₁ (0 + p) e bits → KeyAt f₂ g₂ h₂ p e bits
    key-kept p e bits h o =
        let z : 0 + p ≡ p = omega arith in
        let i = subst (λ (w : ℕ). KeyAt f₁ g₁ h₁ w e bits) z o in
        record {
          first-is = t.first-before p h ∙ i.first-is;
          second_is = t.second-before p h ∙ i.second_is;
          third-is = t.third-before p h ∙ i.third-is;
          first_fits = i.first_fits;
          second_fits = i.second_fits;
        }

    itself-holds : (b : ℕ) → b < n → get_or stands b 0 ≡ 1
        → HoldsObservation f₂ g₂ h₂ starts counts₂ keys₂ (m + b)
        (itself (canon (boundary_of (boundary_rows s at) (observation_rows s ats) (source_records s from count) b)))
    unfolding itself canon boundary_of
    itself-holds b h o = record {
      key = t.there b h;
      run = run_of (m + b) (own_start (own_count s at) (seen_count s at) (cited_count s ats) b) (own_count s at b) (omega arith) (l.laid.own-start b h)
          (l.laid.own-count b h ∙ rw (eq-eqb (get_or stands b 0) 1 o)) (own-end b h);
      fits = sources-fit (take (own_count s at b) (drop (own_start (own_count s at) (seen_count s at) (cited_count s ats) b) (source_records s from count)))
          (part-fit (own_start (own_count s at) (seen_count s at) (cited_count s ats) b) (own_count s at b));
    }

    seen-holds : (b i : ℕ) → b < n → i < seen_count s at b
        → HoldsObservation f₂ g₂ h₂ starts counts₂ keys₂ (sum_below (seen_count s at) b + i)
        (canon_observation (observation_from (boundary_rows s at) (observation_rows s ats) (source_records s from count) (sum_below (own_count s at) (suc b))
        (sum_below (seen_count s at) b + i)))
    unfolding canon_observation observation_from
    seen-holds b i h o =
        let p = sum_below (seen_count s at) b + i in
        let u = place-below b i h o in
        record {
          key = key-kept p _ _ u (r.there p u);
          run = run_of p (sum_below (own_count s at) (suc b) + sum_below (cited_count s ats) p) (cited_count s ats p) (omega arith) (l.laid.cited-start b i h o)
              (l.laid.cited-count b i h o) (cited-end b p h u);
          fits = sources-fit (take (cited_count s ats p) (drop (sum_below (own_count s at) (suc b) + sum_below (cited_count s ats) p)
              (source_records s from count)))
              (part-fit (sum_below (own_count s at) (suc b) + sum_below (cited_count s ats) p) (cited_count s ats p));
        }

    pub placed : CopiesPlaced (boundary_rows s at) (observation_rows s ats) (source_records s from count) m n stands firsts f₂ g₂ h₂ starts counts₂ keys₂
    placed = record {
      first-there = l.laid.first-there;
      own-start = l.laid.own-start;
      own_in = λ b h. omega (arith, own-end b h, l.laid.own-start b h, records-length s from count);
      itself-there = itself-holds;
      seen-there = seen-holds;
    }

  -- where they are
  pub placed-inside : {stands firsts starts counts : List ℕ} → LaidAll stands (own_count s at) (seen_count s at) (cited_count s ats) m n firsts starts counts
      → PlacedInside (boundary_rows s at) (observation_rows s ats) (source_records s from count) m n count firsts starts
  placed-inside l = record {
    own_in = λ b h. omega (arith, own-end b h, l.laid.own-start b h);
    own_room = omega (arith, j.sources-add);
    seen-in = λ b h.
        let y = sum-prefix (b + 1) n (seen_count s at) (omega arith) in
        omega (arith, below_next (seen_count s at) b, l.laid.first-there b h, j.observations-add);
    seen-room = omega (arith, j.observations-add);
  }

-- Places that stand for observations are ordered as these are.
module _ {first second third starts counts keys : List ℕ} where
  key_of : {p : ℕ} (o : Observation) → HoldsObservation first second third starts counts keys p o
      → place_key first second third starts counts keys p ≡ pack o.ends.a.x o.ends.a.y ∷ pack o.ends.b.x o.ends.b.y ∷ total_key
      o.bits ∷ packed o.sources
  unfolding place_key rest_key
  key_of o h = rw (h.key.first-is, h.key.second_is, h.key.third-is, h.run)

  pub holds-le : {p q : ℕ} (o u : Observation) → HoldsObservation first second third starts counts keys p o
      → HoldsObservation first second third starts counts keys q u
      → by_run first second third starts counts keys p q ≡ by_key observation_key o u
  unfolding by_run
  holds-le o u h k =
      rw (key_of o h, key_of u k)
      (observation-le o u h.key.first_fits h.key.second_fits k.key.first_fits k.key.second_fits h.fits k.fits)
