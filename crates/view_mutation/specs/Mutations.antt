-- The mutations that lead from one host tree to another: five lists, one after the other.
use Rattle.std.specs.Prelude.{ℕ, ◌+◌, List, [], ◌∷◌, ◌++◌, Bool, false, not, Option, Some, None, nat_eq, if◌then◌else◌, filter, map, drop}
use Rattle.std.specs.List.{flat_map}
use Rattle.host_views.specs.declared.HostView.{HostView}
use Rattle.host_views.specs.Plain.{PlainHostTree, PlainMutation, create, delete, insert, remove, update, host_tags, children_at}
use Rattle.host_views.specs.Same.{is_same_view}
use Rattle.host_views.specs.HostTree.{has_tag}

-- how long the longest equal prefix of two lists is
abbrev pub common_prefix : List ℕ → List ℕ → ℕ
common_prefix (x ∷ xs) (y ∷ ys) = if nat_eq x y then common_prefix xs ys + 1 else 0
common_prefix _ _ = 0

-- how many children of a host parent stay: the longest prefix of its children that is equal in both trees
abbrev pub staying : (old new : PlainHostTree) → ℕ → ℕ
staying old new parent = common_prefix (children_at old parent) (children_at new parent)

-- removes of these children of a host parent, which begin at that index, with indexes falling
abbrev pub removes_from : (parent index : ℕ) → List ℕ → List PlainMutation
removes_from parent index [] = []
removes_from parent index (tag ∷ tags) = removes_from parent (index + 1) tags ++ remove parent tag index ∷ []

-- inserts of these children of a host parent, which begin at that index, with indexes rising
abbrev pub inserts_from : (parent index : ℕ) → List ℕ → List PlainMutation
inserts_from parent index [] = []
inserts_from parent index (tag ∷ tags) = insert parent tag index ∷ inserts_from parent (index + 1) tags

-- the removes at one host parent: its old children after those that stay
abbrev pub removes_at : (old new : PlainHostTree) → ℕ → List PlainMutation
removes_at old new parent = removes_from parent (staying old new parent) (drop (staying old new parent) (children_at old parent))

-- the inserts at one host parent: its new children after those that stay
abbrev pub inserts_at : (old new : PlainHostTree) → ℕ → List PlainMutation
inserts_at old new parent = inserts_from parent (staying old new parent) (drop (staying old new parent) (children_at new parent))

-- the view of a tag
abbrev pub view_at : PlainHostTree → ℕ → Option HostView
view_at [] tag = None
view_at (placed ∷ others) tag = if nat_eq placed.tag tag then Some placed.view else view_at others tag

-- whether a view differs from the one that its tag had
abbrev pub is_other_view : Option HostView → HostView → Bool
is_other_view None view = false
is_other_view (Some was) view = not (is_same_view was view)

-- what leads from one host tree to another: removes at the host parents of the old tree, the root first and then each view in host preorder; deletes of the tags
-- of the old tree that are not in the new one, in old host preorder; creates of the tags of the new tree that are not in the old one, and updates of the tags
-- in both whose views differ, in new host preorder; and inserts at the host parents of the new tree
abbrev pub mutations_between : (old new : PlainHostTree) → List PlainMutation
mutations_between old new =
    flat_map (removes_at old new) (0 ∷ host_tags old)
    ++ map (λ placed. delete placed.tag) (filter (λ placed. not (has_tag new placed.tag)) old)
    ++ map (λ placed. create placed.tag placed.view) (filter (λ placed. not (has_tag old placed.tag)) new)
    ++ map (λ placed. update placed.tag placed.view) (filter (λ placed. is_other_view (view_at old placed.tag) placed.view) new)
    ++ flat_map (inserts_at old new) (0 ∷ host_tags new)
