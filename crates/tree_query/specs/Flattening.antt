-- Host trees that a flattening may give, and points that may be asked for.
use Rattle.std.specs.Prelude.{◌≡◌, ◌≤◌, length}
use Rattle.shadow_frame.specs.declared.Point.{Point}
use Rattle.shadow_node.specs.Forest.{PlainForest}
use Rattle.shadow_node.specs.Fields.{SettledFields}
use Rattle.tree_settle.specs.Limits.{IsForestInLimits}
use Rattle.host_views.specs.Plain.{PlainHostTree}
use Rattle.view_flatten.specs.HostTree.{host_tree_of}
use Rattle.tree_query.specs.Bounds.{IsPlaceWithin}

-- a tree is a flattening: the host tree of a revision's forest, which has at most 2,000 views
pub record IsFlattening (tree : PlainHostTree) : Type 0 where
  pub forest : PlainForest SettledFields
  pub limits : IsForestInLimits forest
  pub same : tree ≡ host_tree_of forest
  pub count : length tree ≤ 2000

-- a point may be asked for where each coordinate is at most 5,000,000,000,000,000,000 in amount: among them is the middle of each place that a node is measured at, whatever its size
abbrev pub IsPointInRange : Point → Type 0
IsPointInRange point = IsPlaceWithin 5000000000000000000 point
