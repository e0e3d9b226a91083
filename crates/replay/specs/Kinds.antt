-- The byte that stands for a kind of item.
use Rattle.std.specs.Prelude.{ℕ}
use Rattle.replay.specs.declared.calls.Call.{Call}
use Rattle.replay.specs.declared.calls.Call.TheVariants.{Reduce, ReduceByList, Mark, AreaCards}
use Rattle.replay.specs.declared.reading.Kind.{Kind}
use Rattle.replay.specs.declared.reading.Kind.TheVariants.{Call as OfCall, Input}

abbrev pub call_byte : Call → ℕ
call_byte Reduce = 0
call_byte ReduceByList = 1
call_byte Mark = 2
call_byte AreaCards = 3

abbrev pub kind_byte : Kind → ℕ
kind_byte (OfCall call) = call_byte call
kind_byte Input = 4
