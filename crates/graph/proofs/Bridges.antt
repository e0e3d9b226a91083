-- The computed tests of a bridge and of a mark are what the two mean, and how they are related.
use mathlib.Core.Path.{◌≡◌, refl, sym, ◌∙◌, ap}
use mathlib.Core.Logic.{◌↔◌, ◌⊎◌, inl, inr}
use mathlib.Core.Bool.{Bool, true, false, ◌&&◌}
use mathlib.Core.List.{List, [], ◌∷◌}
use Prim.Native.Nat.{ℕ, zero, suc, ◌<◌}
use native.Mathlib.Omega.{arith}
use borrow.Author.Tests.{eqb-true, eq-eqb, ne_eqb, not-true}
use lib.ListN.{length}
use Rattle.order.proofs.Bools.{and_parts, and_both, clash, by-test, is_false, or_cases, or_right}
use Rattle.graph.specs.Path.{Path}
use Rattle.graph.specs.Parts.{same_part}
use Rattle.graph.specs.Records.{Record, record_at, edges, without, only, of_owner}
use Rattle.graph.specs.Bridges.{Bridge, Closed, is_parted, is_bridge, mark_of, some_record}
use Rattle.graph.proofs.Parts.{other-part}
use Rattle.graph.proofs.Records.{without-path}

-- some record passes the test
some-record : (t : ℕ → Record → Bool) (rs : List Record) → some_record t rs ≡ true → (k : ℕ) × (k < length rs) × (t k (record_at rs k) ≡ true)
unfolding some_record
some-record t [] h = clash h refl
some-record t (r ∷ rs) h = go (or_cases (t 0 r) (some_record (λ k. t (suc k)) rs) h) (λ i. some-record (λ k. t (suc k)) rs i)
  where
    go : (t 0 r ≡ true) ⊎ (some_record (λ k. t (suc k)) rs ≡ true)
        → (some_record (λ k. t (suc k)) rs ≡ true → (k : ℕ) × (k < length rs) × (t (suc k) (record_at rs k) ≡ true)) →
        (k : ℕ) × (k < suc (length rs)) × (t k (record_at (r ∷ rs) k) ≡ true)
    go (inl e) i = (0, omega arith, e)
    go (inr e) i = let w = i e in (suc w.0, omega arith, w.2)

record-some : (t : ℕ → Record → Bool) (rs : List Record) (k : ℕ) → k < length rs → t k (record_at rs k) ≡ true → some_record t rs ≡ true
unfolding some_record
record-some t [] k l e = absurd (omega arith)
record-some t (r ∷ rs) zero l e = rw e
record-some t (r ∷ rs) (suc k) l e = or_right (t 0 r) (record-some (λ k. t (suc k)) rs k (omega arith) e)

pub parted-iff : (gone : ℕ → Record → Bool) (rs : List Record) (r : Record)
    → (is_parted gone rs r ≡ true) ↔ (Path (edges (without gone rs)) r.left r.right → ⊥)
unfolding is_parted
parted-iff gone rs r = (
  λ h. (other-part (edges (without gone rs)) r.left r.right).0 (not-true (same_part (edges (without gone rs)) r.left r.right) h),
  λ h. rw ((other-part (edges (without gone rs)) r.left r.right).1 h),
)

-- some record of the boundary has two regions that are unconnected without what is then gone, which may depend on the record's place
record Some (gone : ℕ → ℕ → Record → Bool) (rs : List Record) (b : ℕ) : Type 0 where
  place : ℕ
  inside : place < length rs
  owned : (record_at rs place).owner ≡ b
  parted : Path (edges (without (gone place) rs)) (record_at rs place).left (record_at rs place).right → ⊥

some-iff : (gone : ℕ → ℕ → Record → Bool) (rs : List Record) (b : ℕ)
    → (some_record (λ k r. of_owner b k r && is_parted (gone k) rs r) rs ≡ true) ↔ Some gone rs b
some-iff gone rs b = (to, from)
  where
    test : ℕ → Record → Bool
    test k r = of_owner b k r && is_parted (gone k) rs r

    to : some_record test rs ≡ true → Some gone rs b
    to h =
        let w = some-record test rs h in
        let p = and_parts (of_owner b w.0 (record_at rs w.0)) (is_parted (gone w.0) rs (record_at rs w.0)) w.2 in
        record {
          place = w.0;
          inside = w.1;
          owned = eqb-true (record_at rs w.0).owner b p.0;
          parted = (parted-iff (gone w.0) rs (record_at rs w.0)).0 p.1;
        }

    from : Some gone rs b → some_record test rs ≡ true
    from w =
        record-some test rs w.place w.inside
        (and_both (eq-eqb (record_at rs w.place).owner b w.owned) ((parted-iff (gone w.place) rs (record_at rs w.place)).1 w.parted))

pub bridge-iff : (rs : List Record) (b : ℕ) → (is_bridge rs b ≡ true) ↔ Bridge rs b
unfolding is_bridge
bridge-iff rs b = (
  λ h. let w = (some-iff only rs b).0 h in record { place = w.place; inside = w.inside; owned = w.owned; parted = w.parted },
  λ w. (some-iff only rs b).1 (record { place = w.place; inside = w.inside; owned = w.owned; parted = w.parted }),
)

pub mark-iff : (rs : List Record) (b : ℕ) → (mark_of rs b ≡ true) ↔ Closed rs b
unfolding mark_of
mark-iff rs b = (
  λ h. let w = (some-iff (λ k. of_owner b) rs b).0 h in record { place = w.place; inside = w.inside; owned = w.owned; parted = w.parted },
  λ w. (some-iff (λ k. of_owner b) rs b).1 (record { place = w.place; inside = w.inside; owned = w.owned; parted = w.parted }),
)

-- a bridge is closed too: more is taken away
pub bridge-closed : {rs : List Record} {b : ℕ} → Bridge rs b → Closed rs b
bridge-closed {rs} {b} w = record {
  place = w.place;
  inside = w.inside;
  owned = w.owned;
  parted = λ p. w.parted (without-path (of_owner b) (only w.place) rs other p);
}
  where
    other : (k : ℕ) → k < length rs → of_owner b k (record_at rs k) ≡ false → only w.place k (record_at rs k) ≡ false
    other k l e = ne_eqb k w.place (λ q. clash (eq-eqb (record_at rs k).owner b (ap (λ (i : ℕ). (record_at rs i).owner) q ∙ w.owned)) e)

-- every bridge is marked
pub bridge-marked : (rs : List Record) (b : ℕ) → is_bridge rs b ≡ true → mark_of rs b ≡ true
bridge-marked rs b h = (mark-iff rs b).1 (bridge-closed ((bridge-iff rs b).0 h))

-- the boundary has no second record
abbrev pub OneRecord : List Record → ℕ → Type 0
OneRecord rs b = (k l : ℕ) → k < length rs → l < length rs → (record_at rs k).owner ≡ b → (record_at rs l).owner ≡ b → k ≡ l

closed-single : {rs : List Record} {b : ℕ} → OneRecord rs b → Closed rs b → Bridge rs b
closed-single {rs} {b} one w = record {
  place = w.place;
  inside = w.inside;
  owned = w.owned;
  parted = λ p. w.parted (without-path (only w.place) (of_owner b) rs other p);
}
  where
    other : (k : ℕ) → k < length rs → only w.place k (record_at rs k) ≡ false → of_owner b k (record_at rs k) ≡ false
    other k l e = ne_eqb (record_at rs k).owner b (λ q. clash (eq-eqb k w.place (one k w.place l w.inside q w.owned)) e)

-- with at most one record, the mark says whether the boundary is a bridge
pub mark-single : (rs : List Record) (b : ℕ) → OneRecord rs b → mark_of rs b ≡ is_bridge rs b
mark-single rs b one =
    by-test (is_bridge rs b) (λ e. bridge-marked rs b e ∙ sym e)
    (λ e. is_false (mark_of rs b) (λ m. clash ((bridge-iff rs b).1 (closed-single one ((mark-iff rs b).0 m))) e) ∙ sym e)

-- without a record there is no mark
pub mark-none : (rs : List Record) (b : ℕ) → ((k : ℕ) → k < length rs → (record_at rs k).owner ≡ b → ⊥) → mark_of rs b ≡ false
mark-none rs b none = is_false (mark_of rs b) (λ m. let w = (mark-iff rs b).0 m in none w.place w.inside w.owned)
