-- Links collected by rising regions.
use mathlib.Core.Path.{◌≡◌, refl, sym, ◌∙◌, ap, subst}
use mathlib.Core.Logic.{⊎_elim, by_cases}
use mathlib.Core.Bool.{Bool, true, false, cond, not, ◌&&◌, ◌||◌}
use mathlib.Core.List.{List, [], ◌∷◌, ◌++◌, map, map-append, append-nil}
use Prim.Native.Nat.{ℕ, zero, suc, ◌+◌, ◌-◌, ◌*◌, ◌<◌, ◌≤◌}
use native.Mathlib.Omega.{arith}
use native.Mathlib.Decide.{ℕ_discrete}
use borrow.Author.Tests.{eqb-true, eqb-false, ne_eqb, leb-true, leb-false}
use lib.Dec.{eqb, leb}
use lib.ListN.{length, get_or, set, length-set, replicate, length-replicate}
use lib.Seq.{get_or-set_same, get_or-set_other}
use Rattle.lists.specs.Rows.{rows}
use Rattle.lists.proofs.Rows.{rows_last, rows_same}
use Rattle.order.specs.Lists.{keep, up_from, has}
use Rattle.order.proofs.Bools.{clash, and_parts, or_cases}
use Rattle.order.proofs.Keep.{keep_append}
use Rattle.serial_groups.specs.Links.{LinkAt}
use Rattle.serial_groups.specs.Tables.{links_in}
use Rattle.graph.specs.Records.{record_in}
use Rattle.serial_candidates.specs.Owners.{OwnersBelow}
use Rattle.serial_candidates.specs.Next.{next_after}
use Rattle.serial_candidates.specs.Gives.{has_region, TwoBelow, joins_two}
use Rattle.serial_candidates.specs.Touchers.{touching_after}
use Rattle.serial_candidates.specs.declared.touching.Touching.{Touching}
use Rattle.serial_candidates.specs.Found.{Given, seen, found, found_link, up_to, Collected, LinkAdded, AllFound}
use Rattle.serial_candidates.proofs.NextLaws.{next-least, next-above, two-ranks}
use Rattle.order.proofs.Numbers.{up-last}

-- one number no more than another
unit-mono : (v a x : ℕ) → a ≤ x → cond (leb v a) 1 0 ≤ cond (leb v x) 1 0
unit-mono v a x h = go (leb v a) refl (leb v x) refl
  where
    go : (p : Bool) → leb v a ≡ p → (q : Bool) → leb v x ≡ q → cond p 1 0 ≤ cond q 1 0
    go true e true f = omega arith
    go true e false f = let y = leb-true v a e in let z = leb-false v x f in absurd (omega arith)
    go false e q f = omega arith

unit-hit : (v a x : ℕ) → x ≡ v → a < x → cond (leb v a) 1 0 + 1 ≤ cond (leb v x) 1 0
unit-hit v a x e h = go (leb v a) refl (leb v x) refl
  where
    go : (p : Bool) → leb v a ≡ p → (q : Bool) → leb v x ≡ q → cond p 1 0 + 1 ≤ cond q 1 0
    go true f q g = let y = leb-true v a f in absurd (omega arith)
    go false f true g = omega arith
    go false f false g = let y = leb-false v x g in absurd (omega arith)

module _ (lowers highers : List ℕ) (a x : ℕ) (h : a < x) where
  -- the region is one of the rank's
  abbrev hits : ℕ → Bool
  hits i = eqb x (get_or lowers i 0) || eqb x (get_or highers i 0)

  term-hit : (i : ℕ) → hits i ≡ true
      → cond (leb (get_or lowers i 0) a) 1 0 + cond (leb (get_or highers i 0) a) 1 0 + 1 ≤ cond (leb (get_or lowers i 0) x) 1 0
      + cond (leb (get_or highers i 0) x) 1 0
  term-hit i t =
      ⊎_elim (λ (e : eqb x (get_or lowers i 0) ≡ true).
      omega (arith, unit-hit (get_or lowers i 0) a x (eqb-true x (get_or lowers i 0) e) h, unit-mono (get_or highers i 0) a x (omega arith)))
      (λ (e : eqb x (get_or highers i 0) ≡ true).
      omega (arith, unit-hit (get_or highers i 0) a x (eqb-true x (get_or highers i 0) e) h, unit-mono (get_or lowers i 0) a x (omega arith)))
      (or_cases (eqb x (get_or lowers i 0)) (eqb x (get_or highers i 0)) t)

  up-mono : (n : ℕ) → up_to lowers highers a n ≤ up_to lowers highers x n
  unfolding up_to
  up-mono zero = omega arith
  up-mono (suc n) = omega (arith, up-mono n, unit-mono (get_or lowers n 0) a x (omega arith), unit-mono (get_or highers n 0) a x (omega arith))

  up_one : (n i : ℕ) → i < n → hits i ≡ true → up_to lowers highers a n + 1 ≤ up_to lowers highers x n
  unfolding up_to
  up_one zero i l t = absurd (omega arith)
  up_one (suc n) i l t =
      by_cases (ℕ_discrete i n) (λ e. omega (arith, up-mono n, term-hit n (subst (λ (j : ℕ). hits j ≡ true) e t)))
      (λ e. omega (arith, up_one n i (omega arith) t, unit-mono (get_or lowers n 0) a x (omega arith), unit-mono (get_or highers n 0) a x (omega arith)))

  up-two : (n i j : ℕ) → i < n → j < n → (i ≡ j → ⊥) → hits i ≡ true → hits j ≡ true → up_to lowers highers a n + 2 ≤ up_to lowers highers x n
  unfolding up_to
  up-two zero i j l m d t u = absurd (omega arith)
  up-two (suc n) i j l m d t u =
      by_cases (ℕ_discrete i n) (λ e. omega (arith, up_one n j (omega arith) u, term-hit n (subst (λ (k : ℕ). hits k ≡ true) e t)))
      (λ e. by_cases (ℕ_discrete j n) (λ f. omega (arith, up_one n i (omega arith) t, term-hit n (subst (λ (k : ℕ). hits k ≡ true) f u)))
      (λ f. omega (
        arith,
        up-two n i j (omega arith) (omega arith) d t u,
        unit-mono (get_or lowers n 0) a x (omega arith),
        unit-mono (get_or highers n 0) a x (omega arith),
      )))

up-most : (lowers highers : List ℕ) (x n : ℕ) → up_to lowers highers x n ≤ 2 * n
unfolding up_to
up-most lowers highers x zero = omega arith
up-most lowers highers x (suc n) = omega (arith, up-most lowers highers x n, small (leb (get_or lowers n 0) x), small (leb (get_or highers n 0) x))
  where
    small : (b : Bool) → cond b 1 0 ≤ 1
    small true = omega arith
    small false = omega arith

module _ (t : ℕ → Bool) where
  keep-last : (m : ℕ) → keep t (up_from 1 (suc m)) ≡ keep t (up_from 1 m) ++ cond (t (suc m)) (suc m ∷ []) []
  unfolding keep
  keep-last m = let e : 1 + m ≡ suc m = omega arith in
      ap (keep t) (up-last 1 m ∙ ap (λ (k : ℕ). up_from 1 m ++ (k ∷ [])) e) ∙ keep_append t (up_from 1 m) (suc m ∷ [])

  keep-gap : (a e : ℕ) → ((y : ℕ) → a < y → t y ≡ false) → keep t (up_from 1 (a + e)) ≡ keep t (up_from 1 a)
  keep-gap a zero h = let z : a + 0 ≡ a = omega arith in ap (λ (k : ℕ). keep t (up_from 1 k)) z
  keep-gap a (suc e) h =
      let z : a + suc e ≡ suc (a + e) = omega arith in
      ap (λ (k : ℕ). keep t (up_from 1 k)) z
      ∙ (keep-last (a + e) ∙ (ap (λ (b : Bool). keep t (up_from 1 (a + e)) ++ cond b (suc (a + e) ∷ []) []) (h (suc (a + e)) (omega arith))
      ∙ (append-nil (keep t (up_from 1 (a + e))) ∙ keep-gap a e h)))

  keep-within : (a e : ℕ) → ((y : ℕ) → a < y → y ≤ a + e → t y ≡ false) → keep t (up_from 1 (a + e)) ≡ keep t (up_from 1 a)
  keep-within a zero h = let z : a + 0 ≡ a = omega arith in ap (λ (k : ℕ). keep t (up_from 1 k)) z
  keep-within a (suc e) h =
      let z : a + suc e ≡ suc (a + e) = omega arith in
      ap (λ (k : ℕ). keep t (up_from 1 k)) z
      ∙ (keep-last (a + e) ∙ (ap (λ (b : Bool). keep t (up_from 1 (a + e)) ++ cond b (suc (a + e) ∷ []) []) (h (suc (a + e)) (omega arith) (omega arith))
      ∙ (append-nil (keep t (up_from 1 (a + e))) ∙ keep-within a e (λ y l m. h y l (omega arith)))))

  -- what passes is no more than either number
  keep_same : (a b : ℕ) → ((y : ℕ) → a < y → t y ≡ false) → ((y : ℕ) → b < y → t y ≡ false) → keep t (up_from 1 a) ≡ keep t (up_from 1 b)
  keep_same a b h k =
      let z : a + b ≡ b + a = omega arith in
      sym (keep-gap a b h) ∙ (ap (λ (m : ℕ). keep t (up_from 1 m)) z ∙ keep-gap b a k)

-- what a region that gives a link shows
record Shown (d : Given) (r : ℕ) : Type 0 where
  two : (seen d r).count ≡ 2
  first : has_region d.marks d.lowers d.highers r (seen d r).first ≡ true
  second : has_region d.marks d.lowers d.highers r (seen d r).second ≡ true

shown : (d : Given) (r : ℕ) → found d r ≡ true → Shown d r
unfolding found joins_two
shown d r h =
    let p = (and_parts (not (has r d.anchors)) _ h).1 in
    let q = and_parts (eqb (seen d r).count 2) _ p in
    let u = (and_parts (has_region d.marks d.lowers d.highers r (seen d r).first && has_region d.marks d.lowers d.highers r (seen d r).second)
    _ q.1).0 in
    let v = and_parts (has_region d.marks d.lowers d.highers r (seen d r).first) (has_region d.marks d.lowers d.highers r (seen d r).second)
    u in
    record { two = eqb-true (seen d r).count 2 q.0; first = v.0; second = v.1 }

module _ (d : Given) (n : ℕ) (below : OwnersBelow d.owners d.count n) where
  abbrev next : ℕ → ℕ
  next after = next_after d.marks d.lowers d.highers after n

  -- a region that gives a link is no nearer than the next one
  found-next : (after y : ℕ) → found d y ≡ true → after < y → (0 < next after) × (next after ≤ y)
  found-next after y h l =
      let s = shown d y h in
      next-least d.marks d.lowers d.highers after n (seen d y).first y (two-ranks d.owners d.lefts d.rights y below s.two).0 s.first l

  between : (after y : ℕ) → after < y → (0 < next after → y < next after) → found d y ≡ false
  between after y l h = go (found d y) refl
    where
      go : (b : Bool) → found d y ≡ b → b ≡ false
      go true e = let w = found-next after y e l in let z = h w.0 in absurd (omega (arith, w.1))
      go false e = refl

  room_next : (after r : ℕ) → found d r ≡ true → after < r → up_to d.lowers d.highers after n + 2 ≤ up_to d.lowers d.highers r n
  room_next after r h l =
      let s = shown d r h in
      let t = two-ranks d.owners d.lefts d.rights r below s.two in
      up-two d.lowers d.highers after r l n (seen d r).first (seen d r).second t.0 t.1 t.2
      (and_parts (eqb (get_or d.marks (seen d r).first 0) 1)
      (eqb r (get_or d.lowers (seen d r).first 0) || eqb r (get_or d.highers (seen d r).first 0)) s.first).1
      (and_parts (eqb (get_or d.marks (seen d r).second 0) 1)
      (eqb r (get_or d.lowers (seen d r).second 0) || eqb r (get_or d.highers (seen d r).second 0)) s.second).1

  pub collected-start : (k : ℕ) → k ≡ 256 → Collected d n 0 0 (replicate k 0) (replicate k 0) (replicate k 0)
  unfolding links_in rows keep up_from
  collected-start k e = record {
    regions-length = length-replicate k 0 ∙ e;
    firsts-length = length-replicate k 0 ∙ e;
    seconds-length = length-replicate k 0 ∙ e;
    room = omega arith;
    all = refl;
  }

  -- there is room for a link
  pub has_room : {after count : ℕ} {rs fs ss : List ℕ} → n ≤ 256 → Collected d n after count rs fs ss → (r : ℕ) → after < r → found d r ≡ true → count < 256
  has_room l c r h e = omega (arith, c.room, room_next _ r e h, up-most d.lowers d.highers r n)

  kept_next : (after r : ℕ) → r ≡ next after → 0 < r → keep (found d) (up_from 1 r) ≡ keep (found d) (up_from 1 after) ++ cond (found d r) (r ∷ []) []
  kept_next after r e h =
      let l : after < r = rw e (next-above d.marks d.lowers d.highers after n (rw (← e) h)) in
      let s : r ≡ suc (after + (r - after - 1)) = omega arith in
      let m = after + (r - after - 1) in
      let last : keep (found d) (up_from 1 r) ≡ keep (found d) (up_from 1 m) ++ cond (found d r) (r ∷ []) [] =
      subst (λ (k : ℕ). keep (found d) (up_from 1 k) ≡ keep (found d) (up_from 1 m) ++ cond (found d k) (k ∷ []) []) (sym s) (keep-last (found d) m) in
      last ∙ ap (λ (k : List ℕ). k ++ cond (found d r) (r ∷ []) []) (gap after (r - after - 1) (λ y a b. between after y a (λ z. omega arith)))
    where
      gap : (a e : ℕ) → ((y : ℕ) → a < y → y ≤ a + e → found d y ≡ false) → keep (found d) (up_from 1 (a + e)) ≡ keep (found d) (up_from 1 a)
      gap a e h = keep-within (found d) a e h

links-more : (rs fs ss : List ℕ) (c r a b : ℕ) → c < length rs → c < length fs → c < length ss
    → links_in (set rs c r) (set fs c a) (set ss c b) (c + 1) ≡ links_in rs fs ss c ++ (record { region = r; first = a; second = b } ∷ [])
unfolding links_in
links-more rs fs ss c r a b h k m =
    let e : c + 1 ≡ suc c = omega arith in
    let F : ℕ → LinkAt = λ i. record { region = get_or (set rs c r) i 0; first = get_or (set fs c a) i 0; second = get_or (set ss c b) i 0 } in
    let G : ℕ → LinkAt = λ i. record { region = get_or rs i 0; first = get_or fs i 0; second = get_or ss i 0 } in
    ap (λ (i : ℕ). rows i F) e
    ∙ (rows_last c F
    ∙ (ap (λ (l : List LinkAt). l ++ (F c ∷ []))
    (rows_same c F G (λ i l. same_at (get_or-set_other rs c i r 0 (λ z. omega arith)) (get_or-set_other fs c i a 0 (λ z. omega arith))
    (get_or-set_other ss c i b 0 (λ z. omega arith))))
    ∙ ap (λ (x : LinkAt). rows c G ++ (x ∷ [])) (same_at (get_or-set_same rs c r 0 h) (get_or-set_same fs c a 0 k) (get_or-set_same ss c b 0 m))))
  where
    same_at : {x y z u v w : ℕ} → x ≡ u → y ≡ v → z ≡ w
        → ◌≡◌ {A = LinkAt} (record { region = x; first = y; second = z }) (record { region = u; first = v; second = w })
    same_at e f g = rw (e, f, g)

module _ {d : Given} {n : ℕ} (below : OwnersBelow d.owners d.count n) where
  -- one region more
  pub collected-next : {after count r count' : ℕ} {rs fs ss rs' fs' ss' : List ℕ} → n ≤ 256 → Collected d n after count rs fs ss
      → r ≡ next_after d.marks d.lowers d.highers after n → 0 < r
      → LinkAdded d r count rs fs ss count' rs' fs' ss' → Collected d n r count' rs' fs' ss'
  unfolding found_link
  collected-next {after} {count} {r} {count'} {rs} {fs} {ss} {rs'} {fs'} {ss'} few c e h a = go (found d r) refl
    where
      l : after < r
      l = rw e (next-above d.marks d.lowers d.highers after n (rw (← e) h))

      kept : (b : Bool) → found d r ≡ b → keep (found d) (up_from 1 r) ≡ keep (found d) (up_from 1 after) ++ cond b (r ∷ []) []
      kept b q = kept_next d n below after r e h ∙ ap (λ (x : Bool). keep (found d) (up_from 1 after) ++ cond x (r ∷ []) []) q

      go : (b : Bool) → found d r ≡ b → Collected d n r count' rs' fs' ss'
      go true q =
          let w = a.more q in
          let roomy = has_room d n below few c r l q in
          let e0 = w.0 in
          let e1 = w.1 in
          let e2 = w.2 in
          let e3 = w.3 in
          record {
            regions-length = ap (λ (x : List ℕ). length x) e1 ∙ (length-set rs count r ∙ c.regions-length);
            firsts-length = ap (λ (x : List ℕ). length x) e2 ∙ (length-set fs count (seen d r).first ∙ c.firsts-length);
            seconds-length = ap (λ (x : List ℕ). length x) e3 ∙ (length-set ss count (seen d r).second ∙ c.seconds-length);
            room = omega (arith, e0, c.room, room_next d n below after r q l);
            all = rw (e0, e1, e2, e3)
                (links-more rs fs ss count r (seen d r).first (seen d r).second (omega (arith, c.regions-length)) (omega (arith, c.firsts-length))
                (omega (arith, c.seconds-length))
                ∙ (ap (λ (x : List LinkAt). x ++ (found_link d r ∷ [])) c.all
                ∙ (sym (map-append (found_link d) (keep (found d) (up_from 1 after)) (r ∷ [])) ∙ ap (map (found_link d)) (sym (kept true q)))));
          }
      go false q =
          let w = a.same q in
          let e0 = w.0 in
          let e1 = w.1 in
          let e2 = w.2 in
          let e3 = w.3 in
          record {
            regions-length = ap (λ (x : List ℕ). length x) e1 ∙ c.regions-length;
            firsts-length = ap (λ (x : List ℕ). length x) e2 ∙ c.firsts-length;
            seconds-length = ap (λ (x : List ℕ). length x) e3 ∙ c.seconds-length;
            room = omega (arith, e0, c.room, up-mono d.lowers d.highers after r l n);
            all = rw (e0, e1, e2, e3) (c.all ∙ ap (map (found_link d)) (sym (kept false q ∙ append-nil (keep (found d) (up_from 1 after)))));
          }

  -- no region is left
  pub collected-all : {after count : ℕ} {rs fs ss : List ℕ} → n ≤ 256 → Collected d n after count rs fs ss
      → next_after d.marks d.lowers d.highers after n ≡ 0 → AllFound d rs fs ss count
  collected-all {after} few c e = record {
    most = omega (arith, c.room, up-most d.lowers d.highers after n);
    all = λ top h. c.all ∙ ap (map (found_link d)) (keep_same (found d) after top (λ y l. between d n below after y l (λ z. absurd (omega arith))) h);
  }

pub two-below : (owners lefts rights : List ℕ) {n k : ℕ} (r : ℕ) {t : Touching} → OwnersBelow owners k n
    → t ≡ touching_after (record_in owners lefts rights) r k
    → TwoBelow t.count t.first t.second n
two-below owners lefts rights r h e = record { both = rw e (λ q. let w = two-ranks owners lefts rights r h q in (w.0, w.1)) }

pub gives_found : (d : Given) (r : ℕ) {t : Touching} {b : Bool} → t ≡ seen d r
    → b ≡ (not (has r d.anchors) && joins_two d.own d.marks d.lowers d.highers r t.count
    t.first t.second) → b ≡ found d r
unfolding found
gives_found d r e g = g ∙ ap
    (λ (t : Touching). not (has r d.anchors) && joins_two d.own d.marks d.lowers d.highers r
    t.count t.first t.second) e

-- where the region gives a link, there is room for it
pub room : (d : Given) (r : ℕ) {count : ℕ} {t : Touching} {b : Bool} → (found d r ≡ true → count < 256) → t ≡ seen d r
    → b ≡ (not (has r d.anchors) && joins_two d.own d.marks d.lowers d.highers r t.count t.first t.second) → b ≡ true → count < 256
room d r few e g told = few (sym (gives_found d r e g) ∙ told)

pub added-one : {d : Given} {r count : ℕ} {rs fs ss : List ℕ} {t : Touching} → t ≡ seen d r → found d r ≡ true
    → LinkAdded d r count rs fs ss (count + 1) (set rs count r) (set fs count t.first) (set ss count t.second)
added-one {d} {r} {count} {rs} {fs} {ss} e h =
    record {
      more = λ q. (refl, refl, ap (λ (t : Touching). set fs count t.first) e, ap (λ (t : Touching). set ss count t.second) e);
      same = λ q. clash h q;
    }

pub added_none : {d : Given} {r count : ℕ} {rs fs ss : List ℕ} → found d r ≡ false → LinkAdded d r count rs fs ss count rs fs ss
added_none h = record { more = λ q. clash q h; same = λ q. (refl, refl, refl, refl) }

-- what is left of the numbers of regions
abbrev pub left : ℕ → ℕ
left r = cond (eqb r 0) 0 (4294967296 - r)

pub less-left : (d : Given) (n : ℕ) {r q : ℕ} → (r ≡ 0 → ⊥) → r < 4294967296 → q ≡ next_after d.marks d.lowers d.highers r n → left q < left r
less-left d n {r} {q} h l e = rw (ne_eqb r 0 h) (go (eqb q 0) refl)
  where
    go : (b : Bool) → eqb q 0 ≡ b → cond b 0 (4294967296 - q) < 4294967296 - r
    go true f = omega arith
    go false f =
        let z = eqb-false q 0 f in
        let p : 0 < q = omega arith in
        let a : r < q = rw e (next-above d.marks d.lowers d.highers r n (rw (← e) p)) in
        omega arith

pub above : (d : Given) (n : ℕ) {after r : ℕ} → r ≡ next_after d.marks d.lowers d.highers after n → (r ≡ 0 → ⊥) → after < r
above d n {after} {r} e h = let p : 0 < r = omega arith in rw e (next-above d.marks d.lowers d.highers after n (rw (← e) p))
