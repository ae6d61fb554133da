-- Which nodes a walk does not enter.
use Rattle.std.specs.Prelude.{Bool, false}
use Rattle.std.specs.List.Sorted.{IsNonDecreasing}
use Rattle.shadow_node.specs.Entered.{is_unchanged_since}
use Rattle.shadow_node.specs.Fields.{SettledFields}
use Rattle.shadow_node.specs.Pruned.{has_one_of}
use Rattle.shadow_node.specs.Stamps.{StampMap, stamp_in}
use Rattle.view_flatten.specs.declared.skips.Skip.{Skip}
use Rattle.view_flatten.specs.declared.skips.Skip.TheVariants.{Nothing, Since, Tags}

-- whether a walk with these stamps does not enter a node: none, the contexts that are unchanged since the base, or the nodes of the tags
abbrev pub skips : Skip → StampMap → SettledFields → Bool
skips Nothing stamps settled = false
skips (Since base) stamps settled = is_unchanged_since (stamp_in stamps) base settled
skips (Tags tags) stamps settled = has_one_of tags.now settled

-- the tags rise, where nodes are skipped by their tags
abbrev pub DoTagsRise : Skip → Type 0
DoTagsRise Nothing = Unit {0}
DoTagsRise (Since base) = Unit {0}
DoTagsRise (Tags tags) = IsNonDecreasing tags.now
