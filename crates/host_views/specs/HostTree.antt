-- When placed views make a host tree.
use Rattle.std.specs.Prelude.{◌≡◌, ◌≢◌, ◌≤◌, ℕ, Bool, true, nat_eq, ◌||◌}
use Rattle.std.specs.List.{AllByRecursion, IsDistinct, list_any}
use Rattle.host_views.specs.Plain.{PlainPlacedView, PlainHostTree, host_tags}

-- whether a tree has a view of that tag
abbrev pub has_tag : PlainHostTree → ℕ → Bool
has_tag tree tag = list_any (λ placed. nat_eq placed.tag tag) tree

-- a view of a host tree has a tag of a node, and its parent is the root or another view of the tree
pub record IsPlacedIn (tree : PlainHostTree) (placed : PlainPlacedView) : Type 0 where
  pub tag : 1 ≤ placed.tag
  pub other : placed.parent ≢ placed.tag
  pub parent : nat_eq placed.parent 0 || has_tag tree placed.parent ≡ true

-- views that make a host tree: their tags differ, and each is placed in it
pub record IsHostTree (tree : PlainHostTree) : Type 0 where
  pub tags : IsDistinct nat_eq (host_tags tree)
  pub views : AllByRecursion (IsPlacedIn tree) tree
