-- What each kind of node is and forms.
use Rattle.std.specs.Prelude.{ℤ, pos, Bool, true, false, ◌||◌, Option, Some, None, is_some, int_le, int_lt}
use Rattle.std.specs.Ordering.{int_eq}
use Rattle.prop_table.specs.Props.{PropList, value_at}
use Rattle.prop_table.specs.declared.rows.TheConstants.{BACKGROUND, OPACITY, Z, CLIP, COLLAPSABLE, POINTER, BORDER, TEST_MARK, NATIVE_MARK, HIDDEN, ACCESSIBLE, ELEVATION, SHADOW, OUTLINE}
use Rattle.shadow_kinds.specs.declared.Kind.{Kind}
use Rattle.shadow_kinds.specs.declared.Kind.TheVariants.{View, Text, Image, Scroll, Input}

-- a row has exactly that number
abbrev pub is_number : ℤ → Option ℤ → Bool
is_number n None = false
is_number n (Some value) = int_eq value n

-- a row has that number or a greater one
abbrev pub is_at_least : ℤ → Option ℤ → Bool
is_at_least n None = false
is_at_least n (Some value) = int_le n value

-- a row has a smaller number
abbrev pub is_below : ℤ → Option ℤ → Bool
is_below n None = false
is_below n (Some value) = int_lt value n

-- a kind whose nodes have no children
abbrev pub is_leaf_of : Kind → Bool
is_leaf_of View = false
is_leaf_of Text = true
is_leaf_of Image = true
is_leaf_of Scroll = false
is_leaf_of Input = true

-- a kind whose nodes have native state
abbrev pub has_state_of : Kind → Bool
has_state_of View = false
has_state_of Text = false
has_state_of Image = false
has_state_of Scroll = true
has_state_of Input = true

-- a node that is the host parent of what lies below it; of the kinds, a view alone depends on its props
abbrev pub forms_context_of : Kind → PropList → Bool
forms_context_of View props =
    is_below (pos 100) (value_at props OPACITY) || is_some (value_at props Z) || is_number (pos 1) (value_at props CLIP)
    || is_number (pos 0) (value_at props COLLAPSABLE) || is_number (pos 1) (value_at props POINTER) || is_number (pos 1) (value_at props NATIVE_MARK)
    || is_number (pos 1) (value_at props ACCESSIBLE) || is_at_least (pos 1) (value_at props ELEVATION)
forms_context_of Text props = true
forms_context_of Image props = true
forms_context_of Scroll props = true
forms_context_of Input props = true

-- a node that shows something of its own
abbrev pub shows_itself_of : PropList → Bool
shows_itself_of props =
    is_at_least (pos 16777216) (value_at props BACKGROUND) || is_at_least (pos 1) (value_at props BORDER) || is_number (pos 1) (value_at props TEST_MARK)
    || is_at_least (pos 16777216) (value_at props SHADOW) || is_at_least (pos 1) (value_at props OUTLINE)

-- a node that has a host view: it forms a context, or shows something of its own
abbrev pub forms_view_of : Kind → PropList → Bool
forms_view_of kind props = forms_context_of kind props || shows_itself_of props

-- a node that hides itself and what lies below it
abbrev pub is_hidden_of : PropList → Bool
is_hidden_of props = is_number (pos 1) (value_at props HIDDEN)
