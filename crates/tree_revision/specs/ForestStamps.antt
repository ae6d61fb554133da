-- The stamps of a forest, before and after a commit.
use Rattle.std.specs.Prelude.{◌≡◌, ◌≢◌, ◌⊎◌, ℕ, is_some, Some}
use Rattle.std.specs.FinMap.{get}
use Rattle.shadow_node.specs.Forest.{PlainForest}
use Rattle.shadow_node.specs.Fields.{SettledFields}
use Rattle.shadow_node.specs.Find.{first_settled}
use Rattle.shadow_node.specs.Seen.{sight_of}
use Rattle.shadow_node.specs.Stamps.{StampMap}

-- a map has the tags of a forest, and no other
abbrev pub HasTagsOf : StampMap → PlainForest SettledFields → Type 0
HasTagsOf stamps forest = (tag : ℕ) → is_some (get stamps tag) ≡ is_some (first_settled tag forest)

-- a commit leaves a tag its stamp where a mount sees of it what it saw, and else gives it the new number
abbrev pub IsStampAfter : (old new : PlainForest SettledFields) → (before : StampMap) → (number tag stamp : ℕ) → Type 0
IsStampAfter old new before number tag stamp =
    ((sight_of old tag ≡ sight_of new tag) × (get before tag ≡ Some stamp))
    ⊎ ((sight_of old tag ≢ sight_of new tag) × (stamp ≡ number))

-- the stamps after a commit: so of each tag of the new forest, and no other tag has one
pub record AreStampsAfter (old new : PlainForest SettledFields) (before : StampMap) (number : ℕ) (after : StampMap) : Type 0 where
  pub mounted : HasTagsOf after new
  pub each : (tag stamp : ℕ) → get after tag ≡ Some stamp → IsStampAfter old new before number tag stamp
