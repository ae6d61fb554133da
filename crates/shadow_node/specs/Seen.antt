-- What a mount can see of a tag in a forest.
use Rattle.std.specs.Prelude.{ℕ, Bool, nat_eq, Option}
use Rattle.std.specs.Option.{option_map}
use Rattle.std.specs.List.{find}
use Rattle.shadow_node.specs.Forest.{PlainForest, PlainNode}
use Rattle.shadow_node.specs.Fields.{SettledFields}
use Rattle.shadow_node.specs.Find.{first_settled}
use Rattle.shadow_node.specs.Shown.{descendants, is_shown}

-- whether the first node of a tag is shown, where there is one
abbrev pub shown_in : PlainForest SettledFields → ℕ → Option Bool
shown_in forest tag = option_map is_shown (find (λ here. nat_eq here.settled.fields.tag tag) (descendants forest))

-- the first node of a tag, with all below it, with states and frames; and whether it is shown
pub record Sight : Type 0 where
  pub tree : Option (PlainNode SettledFields)
  pub shown : Option Bool

abbrev pub sight_of : PlainForest SettledFields → ℕ → Sight
sight_of forest tag = record { tree = first_settled tag forest; shown = shown_in forest tag }
