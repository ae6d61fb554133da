-- What each kind forms in scripts of version 1, whose props have sixteen rows.
use Rattle.std.specs.Prelude.{pos, Bool, true, ◌||◌, is_some}
use Rattle.prop_table.specs.Props.{PropList, value_at}
use Rattle.prop_table.specs.declared.rows.TheConstants.{BACKGROUND, OPACITY, Z, CLIP, COLLAPSABLE, POINTER, BORDER, TEST_MARK, NATIVE_MARK}
use Rattle.shadow_kinds.specs.Traits.{is_number, is_at_least, is_below}
use Rattle.shadow_kinds.specs.declared.Kind.{Kind}
use Rattle.shadow_kinds.specs.declared.Kind.TheVariants.{View, Text, Image, Scroll, Input}

-- a node of version 1 that is the host parent of what lies below it
abbrev pub v1_forms_context_of : Kind → PropList → Bool
v1_forms_context_of View props =
    is_below (pos 100) (value_at props OPACITY) || is_some (value_at props Z) || is_number (pos 1) (value_at props CLIP)
    || is_number (pos 0) (value_at props COLLAPSABLE) || is_number (pos 1) (value_at props POINTER) || is_number (pos 1) (value_at props NATIVE_MARK)
v1_forms_context_of Text props = true
v1_forms_context_of Image props = true
v1_forms_context_of Scroll props = true
v1_forms_context_of Input props = true

-- a node of version 1 that has a host view
abbrev pub v1_forms_view_of : Kind → PropList → Bool
v1_forms_view_of kind props =
    v1_forms_context_of kind props || is_at_least (pos 16777216) (value_at props BACKGROUND) || is_at_least (pos 1) (value_at props BORDER)
    || is_number (pos 1) (value_at props TEST_MARK)
