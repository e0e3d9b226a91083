-- The worked case.
use mathlib.Core.Path.{refl}
use mathlib.Core.List.{flat_map}
use Rattle.order.specs.Lists.{up_from}
use Rattle.wire.specs.Bytes.{words, bytes}
use Rattle.context.specs.RegionStats.{region_stats}
use Rattle.context.specs.Cards.{card_words, card_bytes, cards}
use Rattle.context.specs.CardCases.{TwoCards}

pub two-cards : TwoCards
unfolding cards card_bytes card_words region_stats words flat_map bytes up_from
two-cards = record { written = refl }
