-- Whether script nodes keep any.
use Rattle.std.specs.Prelude.{Bool, true, false, ◌||◌}
use Rattle.tree_build.specs.Script.{ScriptForest, no_more, written, kept, kept_with}

-- a kept node is among them
abbrev pub has_kept : ScriptForest → Bool
has_kept no_more = false
has_kept (written fields children siblings) = has_kept children || has_kept siblings
has_kept (kept tag change siblings) = true
has_kept (kept_with tag change children siblings) = true
