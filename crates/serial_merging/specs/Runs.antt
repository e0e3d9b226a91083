-- A run of Reduce or Reduce by list on one map with its bases, and the answer that the rules give.
use Rattle.std.specs.Prelude.{◌≡◌, cond, ℕ, eqb, length}
use mathlib.Core.List.{List, map, zip_with}
use Rattle.position.specs.Order.{canonical}
use Rattle.position.specs.declared.Span.{Span}
use Rattle.format.specs.Values.{Boundary}
use Rattle.format.specs.Encode.{encode_answer}
use Rattle.context.specs.Listing.{Item, listing}
use Rattle.serial_merging.specs.Copies.{canon, copies_of}
use Rattle.serial_merging.specs.Groups.{Groups, no_groups, all_groups}
use Rattle.serial_merging.specs.Kept.{kept}

-- The boundaries as they are listed, and the spans that the run partitions by.
pub record Run : Type 0 where
  pub boundaries : List Boundary
  pub spans : List Span

-- "In Reduce a boundary's span is its own ends."
abbrev pub reduce_run : List Boundary → Run
reduce_run bs = record { boundaries = bs; spans = map (λ (b : Boundary). b.ends) bs }

abbrev pub Matched : Run → Type 0
Matched r = length r.boundaries ≡ length r.spans

abbrev pub item_of : Boundary → Span → Item
item_of b s = record { boundary = b; span = s }

-- "span i belongs to boundary i"
unfoldable pub items_of : Run → List Item
unfolding zip_with
items_of r = zip_with item_of r.boundaries r.spans

unfoldable pub canon_item : Item → Item
canon_item i = record { boundary = canon i.boundary; span = canonical i.span }

-- The rules give groups from the listing of canonical copies, each with its span.
module _ (rules : List Item → Groups) where
  -- "If spans and boundaries differ in number: sorted canonical copies, no merge."
  unfoldable pub groups_of : Run → Groups
  groups_of r = cond (eqb (length r.boundaries) (length r.spans)) (rules (listing (map canon_item (items_of r)))) no_groups

  unfoldable pub kept_of : Run → List Boundary
  kept_of r = kept (copies_of r.boundaries) (all_groups (groups_of r))

  unfoldable pub rules_answer : Run → List ℕ
  rules_answer r = encode_answer (kept_of r)
