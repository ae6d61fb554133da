-- What is found in the contents of a held forest.
use Rattle.std.proofs.Common.{◌≡◌, ℕ, sym}
use Rattle.std.specs.Option.{option_map}
use Rattle.shadow_node.specs.Forest.{PlainForest}
use Rattle.shadow_node.specs.Fields.{SettledFields, contents_of}
use Rattle.shadow_node.specs.Find.{first_with, first_settled}
use Rattle.shadow_node.proofs.Found.{contents_of_node, first_with-contents}

-- the contents of what is found in the forest
pub first_with_held : (tag : ℕ) (held : PlainForest SettledFields) → first_with tag (contents_of held) ≡ option_map contents_of_node (first_settled tag held)
first_with_held tag held = sym (first_with-contents tag held)
