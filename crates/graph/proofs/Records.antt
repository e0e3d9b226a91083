-- Records in arrays, and what is left when some records are taken away.
use mathlib.Core.Path.{◌≡◌, refl, sym, ap, subst}
use mathlib.Core.Bool.{Bool, true, false, cond}
use mathlib.Core.List.Memᴰ
use mathlib.Core.List.{List, [], ◌∷◌, Memᴰ}
use Prim.Native.Nat.{ℕ, zero, suc, ◌<◌}
use native.Mathlib.Omega.{arith}
use lib.ListN.{length}
use Rattle.lists.proofs.Rows.{length-rows, rows_at}
use Rattle.graph.specs.Path.{Edge, Path}
use Rattle.graph.specs.Records.{Record, no_record, record_in, records_in, record_at, record_edge, edges, without, Remains}
use Rattle.graph.proofs.Paths.{path-more}

module _ (owners lefts rights : List ℕ) (n : ℕ) where
  pub records-length : length (records_in owners lefts rights n) ≡ n
  unfolding records_in
  records-length = length-rows n (record_in owners lefts rights)

  pub records-at : (k : ℕ) → k < n → record_at (records_in owners lefts rights n) k ≡ record_in owners lefts rights k
  unfolding records_in
  records-at k h = rows_at n (record_in owners lefts rights) k no_record h

-- a record that is left behind a first one
remains-behind : {gone : ℕ → Record → Bool} {s r : Record} {rs : List Record} → Remains (λ k. gone (suc k)) rs r → Remains gone (s ∷ rs) r
remains-behind w = record { place = suc w.place; inside = omega arith; spared = w.spared; stands = w.stands }

-- what is left are the records record_at the places that are not named
pub without-remains : (gone : ℕ → Record → Bool) (rs : List Record) {r : Record} → Memᴰ r (without gone rs) → Remains gone rs r
unfolding without
without-remains gone [] n = absurd (Memᴰ.not-nil n)
without-remains gone (s ∷ rs) {r} n = go (gone 0 s) refl n (λ m. remains-behind (without-remains (λ k. gone (suc k)) rs m))
  where
    rest : List Record
    rest = without (λ k. gone (suc k)) rs

    first : gone 0 s ≡ false → Memᴰ r (s ∷ rest) → (Memᴰ r rest → Remains gone (s ∷ rs) r) → Remains gone (s ∷ rs) r
    first e (Memᴰ.head q) i = record { place = 0; inside = omega arith; spared = e; stands = sym q }
    first e (Memᴰ.tail m) i = i m

    go : (t : Bool) → gone 0 s ≡ t → Memᴰ r (cond t rest (s ∷ rest)) → (Memᴰ r rest → Remains gone (s ∷ rs) r) → Remains gone (s ∷ rs) r
    go true e n i = i n
    go false e n i = first e n i

pub remains-without : (gone : ℕ → Record → Bool) (rs : List Record) {r : Record} → Remains gone rs r → Memᴰ r (without gone rs)
unfolding without
remains-without gone [] w = absurd (omega arith)
remains-without gone (s ∷ rs) {r} w = go w.place w.inside w.spared w.stands (λ v. remains-without (λ k. gone (suc k)) rs v)
  where
    rest : List Record
    rest = without (λ k. gone (suc k)) rs

    behind : (t : Bool) → Memᴰ r rest → Memᴰ r (cond t rest (s ∷ rest))
    behind true m = m
    behind false m = Memᴰ.tail m

    go : (k : ℕ) → k < suc (length rs) → gone k (record_at (s ∷ rs) k) ≡ false → record_at (s ∷ rs) k ≡ r → (Remains (λ k. gone (suc k)) rs r → Memᴰ r rest)
        → Memᴰ r (cond (gone 0 s) rest (s ∷ rest))
    go zero l e q i = rw e (Memᴰ.head (sym q))
    go (suc k) l e q i = behind (gone 0 s) (i (record { place = k; inside = omega arith; spared = e; stands = q }))

-- taking nothing away changes nothing
pub without-none : (gone : ℕ → Record → Bool) (rs : List Record) → ((k : ℕ) → k < length rs → gone k (record_at rs k) ≡ false) → without gone rs ≡ rs
unfolding without
without-none gone [] h = refl
without-none gone (s ∷ rs) h = rw (h 0 (omega arith)) (ap (λ (l : List Record). s ∷ l) (without-none (λ k. gone (suc k)) rs (λ k l. h (suc k) (omega arith))))

-- the edges of what is left, by place
pub edge-remains : (gone : ℕ → Record → Bool) (rs : List Record) {e : Edge} → Memᴰ e (edges (without gone rs)) → (r : Record) × Remains gone rs r
    × (record_edge r ≡ e)
unfolding edges
edge-remains gone rs m = let w = Memᴰ.of_map record_edge (without gone rs) m in (w.0, without-remains gone rs w.1, w.2)

pub remains-edge : (gone : ℕ → Record → Bool) (rs : List Record) {r : Record} → Remains gone rs r → Memᴰ (record_edge r) (edges (without gone rs))
unfolding edges
remains-edge gone rs l = Memᴰ.map record_edge (remains-without gone rs l)

-- the less is taken away, the more paths there are
pub without-path : (more less : ℕ → Record → Bool) (rs : List Record)
    → ((k : ℕ) → k < length rs → more k (record_at rs k) ≡ false → less k (record_at rs k) ≡ false) →
    {a b : ℕ} → Path (edges (without more rs)) a b → Path (edges (without less rs)) a b
without-path more less rs h = path-more (λ e m. let w = edge-remains more rs m in Memᴰ.cast (sym w.2) (remains-edge less rs (spare w.1)))
  where
    spare : {r : Record} → Remains more rs r → Remains less rs r
    spare w = record { place = w.place; inside = w.inside; spared = h w.place w.inside w.spared; stands = w.stands }

-- and without any record taken away there are all
pub path-without : (gone : ℕ → Record → Bool) (rs : List Record) {a b : ℕ} → Path (edges (without gone rs)) a b → Path (edges rs) a b
path-without gone rs {a} {b} p =
    subst (λ (l : List Record). Path (edges l) a b) (without-none (λ k r. false) rs (λ k l. refl)) (without-path gone (λ k r. false) rs (λ k l e. refl) p)
