-- Boundaries with distinct ends.
use mathlib.Core.Path.{◌≡◌, ◌∙◌}
use mathlib.Core.Bool.{false, and_comm}
use mathlib.Core.List.{List, map}
use Rattle.order.specs.Keys.{by_key}
use Rattle.order.specs.Pairs.{Pairs}
use Rattle.order.proofs.Bools.{is_false, and_parts}
use Rattle.order.proofs.Pairs.{pairs-imp, pairs-map}
use Rattle.order.proofs.Keys.{lex-order}
use Rattle.position.specs.Order.{canonical}
use Rattle.format.specs.Values.{Boundary}
use Rattle.context.specs.Listing.{ends_key}
use Rattle.serial_merging.specs.Copies.{canon}
use Rattle.serial_merging.specs.Merging.{same_ends}
use Rattle.serial_merging.specs.Relisted.{DistinctEnds}
use Rattle.serial_merging.proofs.Keys.{span-inj}
use Rattle.serial_merging.proofs.Copies.{key-canon}

abbrev pub Unlike : Boundary → Boundary → Type 0
Unlike b c = same_ends b c ≡ false

pub unlike-symm : (b c : Boundary) → Unlike b c → Unlike c b
unlike-symm b c h = and_comm (by_key ends_key c b) (by_key ends_key b c) ∙ h

pub distinct-unlike : {l : List Boundary} → DistinctEnds l → Pairs Unlike l
unfolding ends_key
distinct-unlike = pairs-imp
    (λ b c h. is_false (same_ends b c)
    (λ e. let p = and_parts (by_key ends_key b c) (by_key ends_key c b) e in
    h (span-inj (canonical b.ends) (canonical c.ends) (lex-order.anti (ends_key b) (ends_key c) p.0 p.1))))

pub copies-unlike : {l : List Boundary} → Pairs Unlike l → Pairs Unlike (map canon l)
copies-unlike = pairs-map canon (λ b c h. rw (key-canon b, key-canon c) h)
