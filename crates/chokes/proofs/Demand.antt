-- Demand 3 for the calls.
use mathlib.Core.Path.{◌≡◌, refl, sym, ◌∙◌, ap}
use mathlib.Core.List.{List, []}
use Prim.Native.Nat.{ℕ, ◌+◌}
use lib.ListN.{length, take, drop}
use lib.Seq.{take_at}
use Rattle.areas.specs.Words.{labelled}
use Rattle.wire.specs.Bytes.{splice}
use Rattle.format.specs.Values.{Base, Job}
use Rattle.grid.specs.Cells.{Grid}
use Rattle.context.specs.Anchors.{anchors_of}
use Rattle.context.specs.Listing.{Item}
use Rattle.grid.specs.Directions.{eight}
use Rattle.serial_links.specs.Limits.{Limits}
use Rattle.thresholds.specs.Block.{limits_in}
use Rattle.serial_merging.specs.Groups.{Groups, no_groups, all_groups}
use Rattle.serial_merging.specs.Runs.{rules_answer}
use Rattle.serial_merging.specs.Relisted.{Relisted, DistinctEnds}
use Rattle.serial_merging.proofs.Independence.{groups-well}
use Rattle.serial_merging.proofs.Symmetric.{relisted-symmetric}
use Rattle.results.specs.Rules.{grid_of, rules_on, rules_of}
use Rattle.results.specs.Results.{Outcome, labels_of, answer_of, reduce_with, reduce_by_list_with}
use Rattle.results.specs.Calls.{reduce_result, reduce_by_list_result}
use Rattle.chokes.specs.Demand.{reduce, reduce_by_list, job_of, spans_of, checks_of, run_of, left, SameMap, Made, wrote, SameBytes}
use Rattle.results.proofs.Results.{reduced-success}
use Rattle.results.proofs.Planned.{groups-unmatched}
use Rattle.results.proofs.Rules.{listing-independent, rules-well}

-- What was written at the start of a slice is what the slice starts with.
pub first-written : (s bs : List ℕ) → take (length bs) (splice s 0 bs) ≡ bs
unfolding splice
first-written s bs = take_at bs (drop (0 + length bs) s) (length bs) refl

-- The calls' contracts, as `Made` takes them.
pub reduce-left : (s block work answer : List ℕ) → reduce_result s block work answer ≡ left block eight (reduce s) work answer
unfolding reduce_result reduce_with left
reduce-left s block work answer = refl

pub by-list-left : (s l block work answer : List ℕ) → reduce_by_list_result s l block work answer ≡ left block eight (reduce_by_list s l) work answer
unfolding reduce_by_list_result reduce_by_list_with left
by-list-left s l block work answer = refl

no-groups-every : all_groups no_groups ≡ []
unfolding all_groups
no-groups-every = refl

module _ (block dirs : List ℕ) where
  abbrev limits : Limits
  limits = limits_in block

  module _ (m : Made block dirs) where
    abbrev pub given : List ℕ
    given = answer_of limits dirs (job_of m.call) (spans_of m.call)

    made : m.after ≡ record {
      number = 0;
      detail = length given;
      work = labelled (labels_of dirs (job_of m.call) (spans_of m.call)) m.work;
      out = splice m.answer 0 given;
    }
    unfolding left
    made =
        let a = m.accepted in
        m.promised ∙ reduced-success limits dirs (checks_of block m.call) (job_of m.call) (spans_of m.call) m.work m.answer a.input a.room
        a.pairs a.fits

    pub wrote-answer : wrote block dirs m ≡ given
    wrote-answer = ap (λ (o : Outcome). take o.detail o.out) made ∙ first-written m.answer given

    succeeded : m.after.number ≡ 0
    succeeded = ap (λ (o : Outcome). o.number) made

  same-rules : (a b : Job) → SameMap a b → rules_of limits dirs a ≡ rules_of limits dirs b
  same-rules a b s =
      ap (λ (g : Grid). rules_on limits dirs g (anchors_of a.bases)) s.grid
      ∙ ap (λ (bs : List Base). rules_on limits dirs (grid_of b) (anchors_of bs)) s.bases

  -- Demand 3. For every run A and run B, each a Reduce or a Reduce by list that is accepted (`Made`), with one block of thresholds, on one map with the same
  -- bases (`SameMap`), no two boundaries of A with the same ends in either order (`DistinctEnds`), and B's listing another one of A's boundaries and spans
  -- (`Relisted`: any order, "its ends either way round", "an observation takes its sources along", sources and observations shuffled).
  pub same_bytes : (a b : Made block dirs) → SameMap (job_of a.call) (job_of b.call) → DistinctEnds (job_of a.call).boundaries
      → Relisted (run_of a.call) (run_of b.call) → SameBytes block dirs a b
  unfolding run_of
  same_bytes a b s d r =
      let rules = rules_of limits dirs (job_of b.call) in
      let i = listing-independent limits dirs (job_of b.call) (run_of a.call) (run_of b.call) d r in
      let e : answer_of limits dirs (job_of a.call) (spans_of a.call) ≡ rules_answer rules (run_of a.call)
      = ap (λ (rules : List Item → Groups). rules_answer rules (run_of a.call)) (same-rules (job_of a.call) (job_of b.call) s) in
      let w : wrote block dirs a ≡ rules_answer rules (run_of a.call) = wrote-answer a ∙ e in
      record {
        numbers = (succeeded a, succeeded b);
        ruled = wrote-answer a;
        bytes = w ∙ (i.answers ∙ sym (wrote-answer b));
        finished = λ ms after m t. i.merges ms after m t ∙ sym w;
        merges = i;
        disjoint = (groups-well rules (rules-well limits dirs (job_of b.call)) (run_of b.call)).apart;
        no-groups = λ n. ap all_groups (groups-unmatched limits dirs (job_of b.call) (spans_of b.call) n) ∙ no-groups-every;
        turned = relisted-symmetric r;
      }
