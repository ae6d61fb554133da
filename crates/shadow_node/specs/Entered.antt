-- What a mount enters: the nodes that can have changed since the base.
use Rattle.std.specs.Prelude.{◌≡◌, ℕ, ◌+◌, Bool, true, not, ◌&&◌, nat_eq, nat_le, count_by, Some}
use Rattle.std.specs.List.{list_any}
use Rattle.shadow_kinds.specs.Traits.{forms_context_of}
use Rattle.shadow_node.specs.Forest.{PlainForest, PlainNode, preorder}
use Rattle.shadow_node.specs.Fields.{SettledFields}
use Rattle.shadow_node.specs.Find.{first_settled}
use Rattle.shadow_node.specs.Seen.{sight_of}
use Rattle.shadow_node.specs.Shown.{descendants, line_of}

-- a context that is unchanged since a base: its stamp, the number from which on it stands as it does, is at most the base
abbrev pub is_unchanged_since : (stamps : ℕ → ℕ) → (base : ℕ) → SettledFields → Bool
is_unchanged_since stamps base settled = forms_context_of settled.fields.kind settled.fields.props && nat_le (stamps settled.fields.tag) base

-- a node has the tag of a context of the forest that is unchanged since a base
abbrev pub is_kept_since : (stamps : ℕ → ℕ) → (base : ℕ) → PlainForest SettledFields → SettledFields → Bool
is_kept_since stamps base forest was = list_any (λ now. nat_eq now.fields.tag was.fields.tag && is_unchanged_since stamps base now) (preorder forest)

-- how many nodes of a forest neither pass a test nor lie below one that does
abbrev pub count_outside : (SettledFields → Bool) → PlainForest SettledFields → ℕ
count_outside test forest = count_by (λ here. not (list_any test (line_of here))) (descendants forest)

-- the nodes of the new forest outside its contexts that are unchanged since the base, and the nodes of the old one outside those contexts
abbrev pub entered_between : (stamps : ℕ → ℕ) → (base : ℕ) → (old new : PlainForest SettledFields) → ℕ
entered_between stamps base old new = count_outside (is_unchanged_since stamps base) new + count_outside (is_kept_since stamps base new) old

-- each context of the new forest that is unchanged since the base stands in the old one with the same settled subtree, and is shown in both or in neither
abbrev pub AreAlikeSince : (stamps : ℕ → ℕ) → (base : ℕ) → (old new : PlainForest SettledFields) → Type 0
AreAlikeSince stamps base old new =
    (tree : PlainNode SettledFields) → first_settled tree.fields.fields.tag new ≡ Some tree → is_unchanged_since stamps base tree.fields ≡ true
    → sight_of old tree.fields.fields.tag ≡ sight_of new tree.fields.fields.tag
