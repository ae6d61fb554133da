-- Names for parts of the definition of mutations, by which contracts inside and proofs speak of them.
use Rattle.std.specs.Prelude.{ℕ, List, ◌∷◌, not, filter, map}
use Rattle.host_views.specs.Plain.{PlainHostTree, PlainMutation, create, delete, update, host_tags}
use Rattle.host_views.specs.HostTree.{has_tag}
use Rattle.view_mutation.specs.Mutations.{view_at, is_other_view}

-- the host parents of a tree: the root, and then each view in host preorder
abbrev pub host_parents : PlainHostTree → List ℕ
host_parents tree = 0 ∷ host_tags tree

-- deletes of the tags of the old tree that are not in the new one, in old host preorder
abbrev pub deletes : (old new : PlainHostTree) → List PlainMutation
deletes old new = map (λ placed. delete placed.tag) (filter (λ placed. not (has_tag new placed.tag)) old)

-- creates of the tags of the new tree that are not in the old one, in new host preorder
abbrev pub creates : (old new : PlainHostTree) → List PlainMutation
creates old new = map (λ placed. create placed.tag placed.view) (filter (λ placed. not (has_tag old placed.tag)) new)

-- updates of the tags in both whose views differ, in new host preorder
abbrev pub updates : (old new : PlainHostTree) → List PlainMutation
updates old new = map (λ placed. update placed.tag placed.view) (filter (λ placed. is_other_view (view_at old placed.tag) placed.view) new)
