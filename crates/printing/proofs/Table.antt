-- The twelve cases hold.
use Rattle.length.proofs.Cases.{length-case}
use Rattle.areas.proofs.Cases.{cut-cases}
use Rattle.graph.proofs.Cases.{bridge-cases, mark-cases}
use Rattle.results.proofs.Refused.{negative-zero-case, count-case}
use Rattle.results.proofs.Cases.{one-cell-case, corridor-case}
use Rattle.printing.specs.Table.{TwelveCases}
use Rattle.printing.proofs.Corridor.{corridor-list}

pub twelve-cases : TwelveCases
twelve-cases = record {
  case1 = length-case;
  cases2to4 = cut-cases;
  cases5to8 = bridge-cases;
  cases5to8-marks = mark-cases;
  case9 = negative-zero-case;
  case10 = count-case;
  case11 = one-cell-case;
  case12 = corridor-case;
  case12-printed = corridor-list;
}
