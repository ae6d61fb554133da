-- The lines of a list's items, one after another.
use Rattle.std.proofs.Common.{◌≡◌, ◌<◌, ◌+◌, ℕ, List, length, take, get_or, subst}
use Rattle.std.specs.List.{flat_map}
use Rattle.byte_ports.specs.Sinks.{SinkView, Whole, Part}
use Rattle.byte_ports.proofs.Joined.{whole_each, part_each}

module _ {A : Type 0} (text : A → List ℕ) (old between new : SinkView) (items : List A) (i : ℕ) (item : A) where
  -- one more item, whole
  pub whole_item : i < length items → item ≡ get_or items i item → Whole old between (flat_map text (take i items)) → Whole between new (text item)
      → Whole old new (flat_map text (take (i + 1) items))
  whole_item below is before after = whole_each text old between new items i item below before (subst (λ x. Whole between new (text x)) is after)

  -- a fault at an item leaves a part of all
  pub part_item : i < length items → item ≡ get_or items i item → Whole old between (flat_map text (take i items)) → Part between new (text item)
      → Part old new (flat_map text items)
  part_item below is before after = part_each text old between new items i item below before (subst (λ x. Part between new (text x)) is after)
