-- Records owner by owner: the steps of the count.
use mathlib.Core.Path.{◌≡◌, refl, sym, ◌∙◌, ap, subst}
use mathlib.Core.Logic.{by_cases}
use mathlib.Core.Bool.{Bool, true, false, cond}
use mathlib.Core.List.{List, [], ◌∷◌, ◌++◌, append-nil}
use Prim.Native.Nat.{ℕ, ◌+◌, ◌<◌, ◌≤◌}
use native.Mathlib.Numerals.{add-one}
use native.Mathlib.Omega.{arith}
use native.Mathlib.Decide.{ℕ_discrete}
use borrow.Author.Tests.{eq-eqb, ne_eqb}
use lib.Dec.{eqb}
use lib.ListN.{length, get_or, length-append, set, length-set, replicate, length-replicate, get_or-replicate}
use lib.Seq.{get_or-set_same, get_or-set_other}
use Rattle.lists.specs.Rows.{rows}
use Rattle.lists.proofs.Rows.{rows_last, length-rows}
use Rattle.order.specs.Lists.{keep}
use Rattle.order.proofs.Keep.{keep_append, keep-length}
use Rattle.graph.specs.Records.{Record, record_in, no_record}
use Rattle.serial_candidates.specs.Owners.{owner_records, Firsts}

one_kept : (b : Bool) (l : List Record) (x : Record) → l ++ cond b (x ∷ []) [] ≡ cond b (l ++ (x ∷ [])) l
one_kept true l x = refl
one_kept false l x = append-nil l

own-last : (f : ℕ → Record) (k i : ℕ) → owner_records f (k + 1) i ≡ cond (eqb (f k).owner i) (owner_records f k i ++ (f k ∷ [])) (owner_records f k i)
unfolding owner_records keep
own-last f k i =
    rw add-one (ap (keep (λ (r : Record). eqb r.owner i)) (rows_last k f)
    ∙ (keep_append (λ (r : Record). eqb r.owner i) (rows k f) (f k ∷ [])
    ∙ one_kept (eqb (f k).owner i) (keep (λ (r : Record). eqb r.owner i) (rows k f)) (f k)))

first_of : (l : List Record) (x : Record) {n : ℕ} → n ≡ length l → get_or (l ++ (x ∷ [])) 0 no_record ≡ cond (eqb n 0) x (get_or l 0 no_record)
first_of [] x {n} e = rw (eq-eqb n 0 e)
first_of (y ∷ ys) x {n} e = rw (ne_eqb n 0 (λ z. omega arith))

-- a first region is set with the first record
field_next : (field : Record → ℕ) (xs : List ℕ) (i : ℕ) (l : List Record) (x : Record) {n : ℕ} → i < length xs → n ≡ length l
    → get_or xs i 0 ≡ field (get_or l 0 no_record)
    → get_or (cond (eqb n 0) (set xs i (field x)) xs) i 0 ≡ field (get_or (l ++ (x ∷ [])) 0 no_record)
field_next field xs i l x {n} h e g = go (eqb n 0) (first_of l x e)
  where
    go : (b : Bool) → get_or (l ++ (x ∷ [])) 0 no_record ≡ cond b x (get_or l 0 no_record)
        → get_or (cond b (set xs i (field x)) xs) i 0 ≡ field (get_or (l ++ (x ∷ [])) 0 no_record)
    go true q = get_or-set_same xs i (field x) 0 h ∙ sym (ap field q)
    go false q = g ∙ sym (ap field q)

field-other : (xs : List ℕ) (i j v : ℕ) (b : Bool) → (j ≡ i → ⊥) → get_or (cond b (set xs i v) xs) j 0 ≡ get_or xs j 0
field-other xs i j v true h = get_or-set_other xs i j v 0 h
field-other xs i j v false h = refl

length-cond : (xs : List ℕ) (i v : ℕ) (b : Bool) {n : ℕ} → length xs ≡ n → length (cond b (set xs i v) xs) ≡ n
length-cond xs i v true e = length-set xs i v ∙ e
length-cond xs i v false e = e

pub firsts-start : (owners lefts rights : List ℕ) (n : ℕ) → n ≡ 256 → Firsts owners lefts rights 0 (replicate n 0) (replicate n 0) (replicate n 0)
unfolding owner_records keep rows
firsts-start owners lefts rights n e = record {
  counts-length = length-replicate n 0 ∙ e;
  lowers-length = length-replicate n 0 ∙ e;
  highers-length = length-replicate n 0 ∙ e;
  counts-are = λ i h. get_or-replicate n i 0 0 (omega (arith, length-replicate {A = ℕ} n 0));
  lower-is = λ i h. get_or-replicate n i 0 0 (omega (arith, length-replicate {A = ℕ} n 0));
  higher-is = λ i h. get_or-replicate n i 0 0 (omega (arith, length-replicate {A = ℕ} n 0));
}

module _ (owners lefts rights : List ℕ) (k : ℕ) {counts lowers highers : List ℕ} (h : Firsts owners lefts rights k counts lowers highers) where
  abbrev f : ℕ → Record
  f = record_in owners lefts rights

  abbrev o : ℕ
  o = get_or owners k 0

  mine : (i : ℕ) → i ≡ o → owner_records f (k + 1) i ≡ owner_records f k i ++ (f k ∷ [])
  mine i e = own-last f k i ∙ ap (λ (b : Bool). cond b (owner_records f k i ++ (f k ∷ [])) (owner_records f k i)) (eq-eqb o i (sym e))

  others : (i : ℕ) → (i ≡ o → ⊥) → owner_records f (k + 1) i ≡ owner_records f k i
  others i e = own-last f k i ∙ ap (λ (b : Bool). cond b (owner_records f k i ++ (f k ∷ [])) (owner_records f k i)) (ne_eqb o i (λ z. e (sym z)))

  count_next : (i : ℕ) → i < 256 → get_or (set counts o (get_or counts o 0 + 1)) i 0 ≡ length (owner_records f (k + 1) i)
  count_next i l =
      by_cases (ℕ_discrete i o)
      (λ e. rw (mine i e, length-append (owner_records f k i) (f k ∷ []), ← e)
      (get_or-set_same counts i (get_or counts i 0 + 1) 0 (omega (arith, h.counts-length)) ∙ ap (λ (n : ℕ). n + 1) (h.counts-are i l)))
      (λ e. rw (others i e) (get_or-set_other counts o i (get_or counts o 0 + 1) 0 e ∙ h.counts-are i l))

  field_is : (field : Record → ℕ) (xs : List ℕ) → length xs ≡ 256 → ((i : ℕ) → i < 256 → get_or xs i 0 ≡ field (get_or (owner_records f k i) 0 no_record))
      → (i : ℕ)
      → i < 256
      → get_or (cond (eqb (get_or counts o 0) 0) (set xs o (field (f k))) xs) i 0 ≡ field (get_or (owner_records f (k + 1) i) 0 no_record)
  field_is field xs s g i l =
      by_cases (ℕ_discrete i o)
      (λ e. subst (λ (j : ℕ). get_or (cond (eqb (get_or counts j 0) 0) (set xs j (field (f k))) xs) i 0 ≡ field
      (get_or (owner_records f k i ++ (f k ∷ [])) 0 no_record)) e
      (field_next field xs i (owner_records f k i) (f k) (omega arith) (h.counts-are i l) (g i l))
      ∙ sym (ap (λ (m : List Record). field (get_or m 0 no_record)) (mine i e)))
      (λ e. rw (others i e) (field-other xs o i (field (f k)) (eqb (get_or counts o 0) 0) e ∙ g i l))

  pub firsts-next : Firsts owners lefts rights (k + 1) (set counts o (get_or counts o 0 + 1))
      (cond (eqb (get_or counts o 0) 0) (set lowers o (get_or lefts k 0)) lowers) (cond (eqb (get_or counts o 0) 0) (set highers o (get_or rights k 0)) highers)
  firsts-next = record {
    counts-length = length-set counts o (get_or counts o 0 + 1) ∙ h.counts-length;
    lowers-length = length-cond lowers o (get_or lefts k 0) (eqb (get_or counts o 0) 0) h.lowers-length;
    highers-length = length-cond highers o (get_or rights k 0) (eqb (get_or counts o 0) 0) h.highers-length;
    counts-are = count_next;
    lower-is = field_is (λ (r : Record). r.left) lowers h.lowers-length h.lower-is;
    higher-is = field_is (λ (r : Record). r.right) highers h.highers-length h.higher-is;
  }

-- an owner has no more records than there are
own-few : (f : ℕ → Record) (k i : ℕ) → length (owner_records f k i) ≤ k
unfolding owner_records
own-few f k i = omega (arith, keep-length (λ (r : Record). eqb r.owner i) (rows k f), length-rows k f)

pub count-few : {owners lefts rights : List ℕ} {k : ℕ} {counts lowers highers : List ℕ} → Firsts owners lefts rights k counts lowers highers → k ≤ 4096
    → (i : ℕ) → i < 256 → get_or counts i 0 ≤ 4096
count-few {owners} {lefts} {rights} {k} h l i m = omega (arith, h.counts-are i m, own-few (record_in owners lefts rights) k i)

pub firsts-end : {owners lefts rights : List ℕ} {k n : ℕ} {c l h : List ℕ} → k ≡ n → Firsts owners lefts rights k c l h → Firsts owners lefts rights n c l h
firsts-end e w = rw (← e) w

-- one record more, by its owner's rank
pub firsts_at : {owners lefts rights : List ℕ} {k rank : ℕ} {c c' l l' h h' : List ℕ} → rank ≡ get_or owners k 0 → c' ≡ set c rank (get_or c rank 0 + 1)
    → l' ≡ cond (eqb (get_or c rank 0) 0) (set l rank (get_or lefts k 0)) l
    → h' ≡ cond (eqb (get_or c rank 0) 0) (set h rank (get_or rights k 0)) h → Firsts owners lefts rights k c l h → Firsts owners lefts rights (k + 1) c' l' h'
firsts_at {owners} {lefts} {rights} {k} e p q s w = rw (p, q, s, e) (firsts-next owners lefts rights k w)
