use Rattle.std.proofs.Common.{arith}
use Rattle.answer_gathering.proofs.Sights.{place-itself, places-seen}
use Rattle.answer_gathering.proofs.seen.add_seen_places.Goals as goal

pub returns-then-stand-eq1 : goal.returns-then-stand-eq1
returns-then-stand-eq1 c = place-itself c.args.stand _ _ (omega arith) c.append_places.ensures

pub returns : goal.returns
returns c = places-seen c.args.stand _ (λ e. omega arith) c.append_places-2.ensures
