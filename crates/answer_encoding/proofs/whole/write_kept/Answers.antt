use Rattle.std.proofs.Common.{◌≡◌, ℕ, ◌*◌, ◌≤◌, List, refl, arith}
use Rattle.answer_sources.specs.Laying.{sum_below, elements}
use Rattle.answer_encoding.specs.Answered.{Writable}
use Rattle.answer_encoding.proofs.Wholes.{count-few, seen_few, own-few, own-inside, record-in, sources-long, all-written, short-answer, full-answer}
use Rattle.answer_encoding.proofs.whole.write_kept.Goals as goal

-- there are few of each, once all are counted
few : {s : List ℕ} {at from count o n r : ℕ} {kept owns seens owned seen first second third starts counts keys : List ℕ}
    → Writable s at from count kept owns seens owned seen first second third starts counts keys
    → o ≡ sum_below (elements seens) count → n ≡ sum_below (elements owns) count → r ≤ o * 4096
    → (count ≤ 256) × (o ≤ 1280) × (n ≤ 4096) × (r ≤ 1280 * 4096)
few w e f h = (count-few w, omega (arith, seen_few w), omega (arith, own-few w), omega (arith, seen_few w))

pub sum_first-observations-requires : goal.sum_first-observations-requires
sum_first-observations-requires c = count-few c.requires

pub sum_first-requires : goal.sum_first-requires
sum_first-requires c = count-few c.requires

pub sum_runs-requires : goal.sum_runs-requires
sum_runs-requires c = (omega (arith, seen_few c.requires, c.sum_first-observations.ensures), c.requires.keys-few)

pub overflow_add-sources : goal.overflow_add-sources
overflow_add-sources c = omega (arith, few c.requires c.sum_first-observations.ensures c.sum_first.ensures c.sum_runs.ensures.1)

pub overflow_mul-runs : goal.overflow_mul-runs
overflow_mul-runs c = omega (arith, few c.requires c.sum_first-observations.ensures c.sum_first.ensures c.sum_runs.ensures.1)

pub overflow_add-runs : goal.overflow_add-runs
overflow_add-runs c = omega (arith, few c.requires c.sum_first-observations.ensures c.sum_first.ensures c.sum_runs.ensures.1)

pub overflow_mul-total : goal.overflow_mul-total
overflow_mul-total c = omega (arith, few c.requires c.sum_first-observations.ensures c.sum_first.ensures c.sum_runs.ensures.1)

pub overflow_add-total : goal.overflow_add-total
overflow_add-total c = omega (arith, few c.requires c.sum_first-observations.ensures c.sum_first.ensures c.sum_runs.ensures.1)

pub returns-then-answer-total : goal.returns-then-answer-total
returns-then-answer-total c = λ n ks e g.
    short-answer c.requires c.sum_first-observations.ensures c.sum_first.ensures c.sum_runs.ensures.0 refl e g (omega arith) refl

pub overflow_cast-observations : goal.overflow_cast-observations
overflow_cast-observations c = omega (arith, few c.requires c.sum_first-observations.ensures c.sum_first.ensures c.sum_runs.ensures.1)

pub overflow_cast-sources : goal.overflow_cast-sources
overflow_cast-sources c = omega (arith, few c.requires c.sum_first-observations.ensures c.sum_first.ensures c.sum_runs.ensures.1)

pub write_header-requires : goal.write_header-requires
write_header-requires c =
    (omega arith, omega (arith, few c.requires c.sum_first-observations.ensures c.sum_first.ensures c.sum_runs.ensures.1))

pub write_boundaries-requires : goal.write_boundaries-requires
write_boundaries-requires c = record { inside = record-in c.requires; room = omega arith; limit = count-few c.requires }

pub write_observations-requires : goal.write_observations-requires
write_observations-requires c = (omega arith, omega (arith, seen_few c.requires, c.sum_first-observations.ensures))

pub write_sources-requires : goal.write_sources-requires
write_sources-requires c =
    record {
      limit = count-few c.requires;
      own-limit = own-few c.requires;
      own-inside = own-inside c.requires;
      seen-limit = seen_few c.requires;
      room = omega (arith, sources-long c.requires c.sum_first-observations.ensures c.sum_first.ensures c.sum_runs.ensures.0);
    }

pub returns : goal.returns
returns c = λ n ks e g.
    full-answer c.requires c.sum_first-observations.ensures c.sum_first.ensures c.sum_runs.ensures.0 refl e g (omega arith)
    (all-written c.requires c.sum_first-observations.ensures c.sum_first.ensures c.sum_runs.ensures.0 c.args.answer.now (omega arith)
    c.write_header.ensures c.write_boundaries.ensures c.write_observations.ensures c.write_sources.ensures)
