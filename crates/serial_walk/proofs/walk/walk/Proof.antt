use Prim.Native.Nat.{ℕ, ◌+◌, ◌-◌, ◌<◌, min}
use native.Mathlib.Omega.{arith}
use mathlib.Core.Path.{◌≡◌, refl, sym, ◌∙◌, ap, subst}
use mathlib.Core.Logic.{⊎_elim}
use mathlib.Core.List.{List}
use borrow.Author.Rules.{rules}
use lib.ListN.{length, set}
use Rattle.lists.specs.Rows.{at}
use Rattle.serial_walk.specs.Walk.{zero_count, RecordJoins, First}
use Rattle.serial_walk.specs.declared.frame.Frame.{Frame}
use Rattle.serial_walk.proofs.Chains.{chain-in, follows, follows-as}
use Rattle.serial_walk.proofs.Puts.{set-as}
use Rattle.serial_walk.proofs.Turn.{Loop, Hand, Stop, slots, take, skipped, seen, end-in, recast}
use Rattle.serial_walk.proofs.Entering.{rooted}
use Rattle.serial_walk.proofs.Heights.{high, unrolled, roomy, timely, falls, found_at, leaving, left_at, emptied-at}
use Rattle.serial_walk.proofs.Roots.{ended}
use Rattle.serial_walk.proofs.walk.walk.Statement.{statement}
use Rattle.serial_walk.proofs.walk.walk.Tie as tie

abbrev invariant-loop : tie.invariant-loop-f
invariant-loop owners lefts rights count heads left-nexts right-nexts disc stack parents nexts lows marks r root start time h top f₀ w₀ f w =
    Hand count owners lefts rights disc stack parents nexts lows marks r top time f

abbrev decreases-loop : tie.decreases-loop-f
decreases-loop owners lefts rights count heads left-nexts right-nexts disc stack parents nexts lows marks r root start time h top f₀ w₀ f w = count - f.next

abbrev invariant-walk : tie.invariant-walk
invariant-walk owners lefts rights count heads left-nexts right-nexts disc₀ stack₀ parents₀ nexts₀ lows₀ marks₀ r root start time₀ h₀ disc stack parents
    nexts lows marks time h = Loop count (length heads) owners lefts rights disc stack parents nexts lows marks r h time

abbrev decreases-walk : tie.decreases-walk
decreases-walk owners lefts rights count heads left-nexts right-nexts disc₀ stack₀ parents₀ nexts₀ lows₀ marks₀ r root start time₀ h₀ disc stack parents
    nexts lows marks time h = zero_count (at disc) (length disc) + zero_count (at disc) (length disc) + h

-- the start; where the root is entered
abbrev Start : Type 0
Start = tie.Start invariant-loop decreases-loop invariant-walk decreases-walk

abbrev Rooted : Type 0
Rooted = tie.After-enter invariant-loop decreases-loop invariant-walk decreases-walk

abbrev begun : Rooted → Start
begun c = search

-- a turn of the walk; its test passed; the start
abbrev Outer : Type 0
Outer = tie.At-walk invariant-loop decreases-loop invariant-walk decreases-walk

abbrev High : Type 0
High = tie.In-walk invariant-loop decreases-loop invariant-walk decreases-walk

abbrev rooted-in : Outer → Rooted
rooted-in c = search

abbrev asked : Outer → Start
asked c = begun (rooted-in c)

-- a turn of the inner loop; the walk's test before it, passed; the turn of the walk; the start
abbrev Inner : Type 0
Inner = tie.At-loop-f invariant-loop decreases-loop invariant-walk decreases-walk

abbrev high-in : Inner → High
high-in c = search

abbrev outer : Inner → Outer
outer c = (high-in c).before

abbrev start-in : Inner → Start
start-in c = asked (outer c)

-- where the inner loop has stopped; its last turn
abbrev Met : Type 0
Met = tie.Joined-count-f invariant-loop decreases-loop invariant-walk decreases-walk

abbrev last : Met → Inner
last c = search

-- a region was found there; later the frame below is saved, and the new one entered
abbrev Found : Type 0
Found = tie.Then-j-count invariant-loop decreases-loop invariant-walk decreases-walk

abbrev Saved : Type 0
Saved = tie.After-save invariant-loop decreases-loop invariant-walk decreases-walk

abbrev found_in : Saved → Found
found_in c = search

abbrev Entered : Type 0
Entered = tie.After-enter-then-j-count invariant-loop decreases-loop invariant-walk decreases-walk

abbrev saved-in : Entered → Saved
saved-in c = search

-- how the inner loop stopped
stopped : (c : Met) →
    Stop (start-in (last c)).args.count (length (start-in (last c)).args.heads.now) (start-in (last c)).args.lefts.now
    (start-in (last c)).args.rights.now (outer (last c)).walk.disc (last c).loop-f.f c.if-count-f.w c.if-count-f.j
stopped c =
    ⊎_elim
    (λ v. record {
      is = λ l. absurd (omega (arith, v.j-is));
      joins = λ l. absurd (omega (arith, v.j-is));
      within = λ l. absurd (omega (arith, v.j-is));
      new = λ l. absurd (omega (arith, v.j-is));
      all = λ l. v.if-count-f.true;
    })
    (λ v.
    let e = v.w-is in
    let t = v.other_end-w.ensures in
    record {
      is = λ l. v.j-is;
      joins = λ l. subst (λ (x : ℕ). RecordJoins _ _ _ _ x) (sym e) t;
      within = λ l. omega (arith, e, end-in (start-in (last c)).requires.0.graph (omega (arith, v.if-count-f.false)) t);
      new = λ l. ap (at (outer (last c)).walk.disc) e ∙ sym v.time_of-d.ensures ∙ v.if-d-eq0.true;
      all = λ l. absurd (omega (arith, v.j-is, v.if-count-f.false));
    })
    c.if-count-f.branch-raw

-- a turn of the inner loop that goes on: the frame moves to the next record in the chain of its region
abbrev turn-of : tie.After-next_record-f invariant-loop decreases-loop invariant-walk decreases-walk → Inner
turn-of c = search

next_one : (c : tie.After-next_record-f invariant-loop decreases-loop invariant-walk decreases-walk) →
    First (start-in (turn-of c)).args.count (at (start-in (turn-of c)).args.lefts.now) (at (start-in (turn-of c)).args.rights.now)
    ((turn-of c).loop-f.f.next + 1) (turn-of c).loop-f.f.region c.next_record-f.result.next
next_one c =
    let seen = c.before.before in
    let a = (start-in (turn-of c)).args in
    let f = (turn-of c).loop-f.f in
    let k : f.next < a.count = omega (arith, seen.if-count-f.false) in
    let z = c.after.ensures in
    let g = seen.if-f.f in
    let en : g.next ≡ f.next = ⊎_elim (λ w. ap (λ (x : Frame). x.next) w.f-is ∙ w.lowered-f.ensures.2) (λ w. ap (λ (x : Frame). x.next) w.f-is)
    seen.if-f.branch-raw in
    let er : g.region ≡ f.region =
    ⊎_elim (λ w. ap (λ (x : Frame). x.region) w.f-is ∙ w.lowered-f.ensures.0) (λ w. ap (λ (x : Frame). x.region) w.f-is) seen.if-f.branch-raw in
    subst (First a.count (at a.lefts.now) (at a.rights.now) (f.next + 1) f.region) (sym c.next_record-f.ensures.2)
    (follows-as (start-in (turn-of c)).requires.1 f g c.after.result en er k ((turn-of c).loop-f.invariant.touching k) z.0 z.1)

add-time : tie.Need-overflow_add-time invariant-loop decreases-loop invariant-walk decreases-walk
add-time c =
    let start : Start = search in
    let s = start.requires.0 in
    omega (arith, s.walk.count, s.sized.disc-are, s.graph.near)

enter-requires : tie.Need-enter-requires invariant-loop decreases-loop invariant-walk decreases-walk
enter-requires c κs =
    let start : Start = search in
    let p = start.requires in
    let s = slots p.0.sized 0 (omega (arith, p.2)) in
    (omega (arith, c.opened.ensures.0, p.2, p.0.sized.disc-are), s.0, s.1, s.2, s.3)

walk-holds : tie.Need-walk-init invariant-loop decreases-loop invariant-walk decreases-walk
walk-holds c =
    let entered : Rooted = search in
    let e = entered.enter.ensures in
    let o = entered.opened.ensures in
    let a = (begun entered).args in
    let p = (begun entered).requires in
    recast _ _ _ _ _ _ _ _ (e.0 ∙ set-as a.disc.now o.0 o.3) (e.1 ∙ set-as a.stack.now refl o.0)
    (e.2 ∙ set-as a.parents.now refl o.1) (e.3 ∙ set-as a.nexts.now refl o.2) (e.4 ∙ set-as a.lows.now refl o.3) refl refl refl
    (rooted p.0 a.root (at a.heads.now a.root) (omega (arith, p.2, p.0.sized.disc-are)) p.3 p.4 (p.1.head a.root p.2))

-- the slots of the frame on top
top-slots : (c : High) →
    (c.walk.h - 1 < length c.walk.stack) × (c.walk.h - 1 < length c.walk.parents)
    × (c.walk.h - 1 < length c.walk.nexts) × (c.walk.h - 1 < length c.walk.lows)
top-slots c =
    let m = c.walk in
    slots m.invariant.sized (m.h - 1) (omega (arith, high m.invariant, c.walk-test.true))

loop-holds : tie.Need-loop-f-init invariant-loop decreases-loop invariant-walk decreases-walk
loop-holds c =
    let turning : High = search in
    let e = c.load-f.ensures in
    take c.load-f.result (unrolled turning.walk.invariant turning.walk-test.true) e.0 e.1 e.2 e.3

other-end-requires : tie.Need-other_end-w-requires invariant-loop decreases-loop invariant-walk decreases-walk
other-end-requires c κs =
    let turn : Inner = search in
    let start = start-in turn in
    let k : turn.loop-f.f.next < start.args.count = omega (arith, c.if-count-f.false) in
    (omega (arith, start.requires.0.graph.lefts-are), omega (arith, start.requires.0.graph.rights-are), turn.loop-f.invariant.touching k)

time-of-requires : tie.Need-time_of-d-requires invariant-loop decreases-loop invariant-walk decreases-walk
time-of-requires c κs =
    let turn : Inner = search in
    omega (
      arith,
      end-in (start-in turn).requires.0.graph (omega (arith, c.if-count-f.false)) c.other_end-w.ensures,
      (outer turn).walk.invariant.sized.disc-are,
    )

after-requires : tie.Need-after-requires invariant-loop decreases-loop invariant-walk decreases-walk
after-requires c κs =
    let turn : Inner = search in
    let p = (start-in turn).requires in
    let k = c.if-count-f.false in
    chain-in p.0.graph p.1 c.if-f.f.next
    (⊎_elim (λ w. omega (arith, k, ap (λ (x : Frame). x.next) w.f-is, w.lowered-f.ensures.2)) (λ w. omega (arith, k, ap (λ (x : Frame). x.next) w.f-is))
    c.if-f.branch-raw)

loop-again : tie.Need-loop-f-preserved invariant-loop decreases-loop invariant-walk decreases-walk
loop-again c =
    let turn = turn-of c in
    let k : turn.loop-f.f.next < (start-in turn).args.count = omega (arith, c.if-count-f.false) in
    let h = turn.loop-f.invariant in
    let m = c.next_record-f.ensures in
    ⊎_elim
    (λ w.
    let l = w.lowered-f.ensures in
    let e = w.f-is in
    let t = w.time_of-d.ensures in
    seen h c.next_record-f.result w.other_end-w.result (m.0 ∙ ap (λ (x : Frame). x.region) e ∙ l.0) (m.1 ∙ ap (λ (x : Frame). x.parent) e ∙ l.1) (next_one c)
    (m.3 ∙ ap (λ (x : Frame). x.low) e ∙ l.3 ∙ ap (λ (x : ℕ). min turn.loop-f.f.low x) t) k w.other_end-w.ensures (λ z. omega (arith, w.if-f.true, z))
    (λ z. w.if-d-eq0.false (t ∙ z)))
    (λ w.
    let e = w.f-is in
    skipped h c.next_record-f.result (m.0 ∙ ap (λ (x : Frame). x.region) e) (m.1 ∙ ap (λ (x : Frame). x.parent) e) (next_one c)
    (m.3 ∙ ap (λ (x : Frame). x.low) e) k (omega (arith, w.if-f.false)))
    c.if-f.branch-raw

after-requires-2 : tie.Need-after-requires-then-j-count invariant-loop decreases-loop invariant-walk decreases-walk
after-requires-2 c κs =
    let found = c.before.before in
    let turn = last found.before in
    let p = (start-in turn).requires in
    chain-in p.0.graph p.1 turn.loop-f.f.next (omega (arith, (stopped found.before).is found.if-j-count.true, found.if-j-count.true))

save-requires : tie.Need-save-requires invariant-loop decreases-loop invariant-walk decreases-walk
save-requires c κs =
    let s = top-slots (search) in
    (s.2, s.3)

opened-requires-2 : tie.Need-opened-requires-then-j-count invariant-loop decreases-loop invariant-walk decreases-walk
opened-requires-2 c κs =
    let found : Found = search in
    (stopped found.before).within found.if-j-count.true

enter-requires-2 : tie.Need-enter-requires-then-j-count invariant-loop decreases-loop invariant-walk decreases-walk
enter-requires-2 c κs =
    let found : Found = search in
    let saved : Saved = search in
    let m = (outer (last found.before)).walk in
    let v = stopped found.before in
    let j = found.if-j-count.true in
    let s = slots m.invariant.sized m.h (roomy m.invariant _ (v.within j) (v.new j)) in (
      omega (arith, c.opened-then-j-count.ensures.0, v.within j, m.invariant.sized.disc-are),
      s.0,
      s.1,
      omega (arith, s.2, saved.save.auto),
      omega (arith, s.3, saved.save.auto),
    )

add-h : tie.Need-overflow_add-h invariant-loop decreases-loop invariant-walk decreases-walk
add-h c =
    let found : Found = search in
    let turn = last found.before in
    omega (arith, high (outer turn).walk.invariant, (start-in turn).requires.0.graph.near)

walk-less : tie.Need-walk-smaller-then-j-count invariant-loop decreases-loop invariant-walk decreases-walk
walk-less c =
    let found : Found = search in
    let entered : Entered = search in
    let m = (outer (last found.before)).walk in
    let v = stopped found.before in
    let j = found.if-j-count.true in
    let o = entered.opened-then-j-count.ensures in
    let e = entered.enter-then-j-count.ensures.0 ∙ set-as m.disc o.0 o.3 in
    omega (
      arith,
      ap (λ (x : List ℕ). zero_count (at x) (length x)) e,
      falls m.invariant found.if-count-f.w (m.time + 1) (v.within j) (v.new j) (omega arith),
    )

walk-again : tie.Need-walk-preserved-then-j-count invariant-loop decreases-loop invariant-walk decreases-walk
walk-again c =
    let entered : Entered = search in
    let opened = entered.before in
    let saved = saved-in entered in
    let found = found_in saved in
    let moved = saved.before in
    let met = found.before in
    let turn = last met in
    let inv = turn.loop-f.invariant in
    let m = (outer turn).walk in
    let f = turn.loop-f.f in
    let g = moved.next_record.result in
    let a = (start-in turn).args in
    let p = (start-in turn).requires in
    let w = met.if-count-f.w in
    let v = stopped met in
    let j = found.if-j-count.true in
    let o = opened.opened-then-j-count.ensures in
    let e = entered.enter-then-j-count.ensures in
    let s = saved.save.ensures in
    let n = moved.next_record.ensures in
    let k : f.next < a.count = omega (arith, v.is j, j) in
    let z = moved.after-then-j-count.ensures in
    let q : First a.count (at a.lefts.now) (at a.rights.now) (f.next + 1) f.region g.next
    = subst (First a.count (at a.lefts.now) (at a.rights.now) (f.next + 1) f.region) (sym n.2)
    (follows p.1 f.next f.region _ k (inv.touching k) z.0 z.1) in
    recast _ _ _ _ _ _ _ _ (e.0 ∙ set-as m.disc o.0 o.3) (e.1 ∙ set-as m.stack refl o.0) (e.2 ∙ set-as m.parents refl o.1)
    (e.3 ∙ ap (λ (x : List ℕ). set x m.h opened.opened-then-j-count.result.next) s.0 ∙ set-as (set m.nexts (m.h - 1) g.next) refl o.2)
    (e.4 ∙ ap (λ (x : List ℕ). set x m.h opened.opened-then-j-count.result.low) s.1 ∙ set-as (set m.lows (m.h - 1) g.low) refl o.3) refl refl
    refl
    (found_at m.invariant f g w met.if-count-f.j (at a.heads.now w) (high-in turn).walk-test.true inv v j q n.3 (p.1.head w (v.within j)))

walk-again-2 : tie.Need-walk-preserved-then-top-eq0 invariant-loop decreases-loop invariant-walk decreases-walk
walk-again-2 c =
    let turn = last c.before.before in
    emptied-at (outer turn).walk.invariant turn.loop-f.f (high-in turn).walk-test.true c.if-top-eq0.true turn.loop-f.invariant
    ((stopped c.before.before).all c.if-j-count.false)

-- no region was found, and there is a frame below
abbrev Lower : Type 0
Lower = tie.Else-top-eq0 invariant-loop decreases-loop invariant-walk decreases-walk

leave-requires : tie.Need-leave-requires invariant-loop decreases-loop invariant-walk decreases-walk
leave-requires c κs =
    let lower : Lower = search in
    let turn = last lower.before.before in
    leaving (outer turn).walk.invariant turn.loop-f.f (high-in turn).walk-test.true lower.if-top-eq0.false turn.loop-f.invariant

walk-again-3 : tie.Need-walk-preserved invariant-loop decreases-loop invariant-walk decreases-walk
walk-again-3 c =
    let lower : Lower = search in
    let met = lower.before.before in
    let turn = last met in
    let e = c.leave.ensures in
    recast _ _ _ _ _ _ _ _ refl refl refl refl e.0 e.1 refl refl
    (left_at (outer turn).walk.invariant turn.loop-f.f (high-in turn).walk-test.true lower.if-top-eq0.false turn.loop-f.invariant
    ((stopped met).all lower.if-j-count.false))

returns : tie.Need-returns invariant-loop decreases-loop invariant-walk decreases-walk
returns c = ended (recast _ _ _ _ _ _ _ _ refl refl refl refl refl refl (let z : 0 ≡ c.walk.h = omega (arith, c.walk-test.false) in z) refl
    c.walk.invariant)

pub walk_spec : {M : Type 1} → statement M
walk_spec =
    tie.close
    (tie.spec
    invariant-loop
    decreases-loop
    invariant-walk
    decreases-walk
    add-time
    (λ c κs. let start : Start = search in start.requires.2)
    enter-requires
    walk-holds
    (λ c. omega arith)
    (λ c κs. top-slots (search))
    loop-holds
    other-end-requires
    time-of-requires
    (λ c κs. search rules)
    after-requires
    (λ c κs. search rules)
    (λ c. omega (arith, c.if-count-f.false, (next_one c).onward))
    loop-again
    after-requires-2
    (λ c κs. search rules)
    save-requires
    (λ c. let turn : Outer = search in omega (arith, timely turn.walk.invariant))
    opened-requires-2
    enter-requires-2
    add-h
    walk-less
    walk-again
    (λ c. let high : High = search in omega (arith, high.walk-test.true))
    walk-again-2
    (λ c. let lower : Lower = search in omega (arith, lower.if-top-eq0.false))
    leave-requires
    (λ c. let high : High = search in omega (arith, high.walk-test.true))
    walk-again-3
    (λ c. c.walk.invariant.sized.disc-are ∙ sym (asked c.before).requires.0.sized.disc-are)
    (λ c. c.walk.invariant.sized.stack-are ∙ sym (asked c.before).requires.0.sized.stack-are)
    (λ c. c.walk.invariant.sized.parents-are ∙ sym (asked c.before).requires.0.sized.parents-are)
    (λ c. c.walk.invariant.sized.nexts-are ∙ sym (asked c.before).requires.0.sized.nexts-are)
    (λ c. c.walk.invariant.sized.lows-are ∙ sym (asked c.before).requires.0.sized.lows-are)
    returns)
