-- Stamps: since when a node stands as it does.
use Rattle.std.specs.Prelude.{◌≡◌, ℕ, ◌≤◌, List, length, take, IsSome, Some}
use Rattle.std.specs.FinMap.{get}
use Rattle.shadow_frame.specs.declared.Size.{Size}
use Rattle.shadow_node.specs.Seen.{Sight, sight_of}
use Rattle.shadow_node.specs.Stamps.{StampMap}
use Rattle.tree_revision.specs.Records.{PlainRecord}
use Rattle.tree_revision.specs.Forests.{settled_of}
use Rattle.tree_revision.specs.ForestStamps.{HasTagsOf}

-- what a mount can see of a tag in the revision of that number
abbrev pub seen_at : Size → List PlainRecord → (number : ℕ) → ℕ → Sight
seen_at first entries number tag = sight_of (settled_of first (take number entries)) tag

-- from a number on each revision shows of a tag what the newest one shows
abbrev pub IsUnchangedFrom : Size → List PlainRecord → ℕ → (from : ℕ) → Type 0
IsUnchangedFrom first entries tag from =
    (number : ℕ) → from ≤ number → number ≤ length entries
    → seen_at first entries number tag ≡ seen_at first entries (length entries) tag

-- the stamp of a mounted tag: the least number from which on it stands as it does in the newest revision
pub record IsStamp (first : Size) (entries : List PlainRecord) (tag stamp : ℕ) : Type 0 where
  pub mounted : IsSome (seen_at first entries (length entries) tag).tree
  pub reached : stamp ≤ length entries
  pub unchanged : IsUnchangedFrom first entries tag stamp
  pub least : (from : ℕ) → from ≤ length entries → IsUnchangedFrom first entries tag from → stamp ≤ from

-- stamps map exactly the tags that are mounted, each to its stamp
pub record AreStampsOf (first : Size) (stamps : StampMap) (entries : List PlainRecord) : Type 0 where
  pub mounted : HasTagsOf stamps (settled_of first entries)
  pub each : (tag stamp : ℕ) → get stamps tag ≡ Some stamp → IsStamp first entries tag stamp
