-- How the code takes the step to the next revision. Only contracts inside the crate cite it.
use Rattle.std.specs.Prelude.{◌≡◌, ◌≤◌, ◌+◌, ℕ, List, ◌++◌, map, Option, Some, None, unwrap_or}
use Rattle.std.specs.Option.{option_map, option_or}
use Rattle.std.specs.Ordering.{nat_cmp}
use Rattle.std.specs.FinMap.{FinMap, get, insert}
use Rattle.shadow_frame.specs.declared.Size.{Size}
use Rattle.native_state.specs.Families.{cell_in}
use Rattle.native_state.specs.declared.StateCell.{StateCell}
use Rattle.native_state.specs.declared.StateChange.{StateChange}
use Rattle.native_state.specs.declared.Family.{Family}
use Rattle.native_state.specs.State.{cell_after}
use Rattle.shadow_node.specs.Forest.{PlainForest}
use Rattle.shadow_node.specs.Fields.{NodeFields, SettledFields, contents_of}
use Rattle.shadow_node.specs.Frames.{settled_forest}
use Rattle.shadow_node.specs.Stamps.{StampMap}
use Rattle.tree_build.specs.declared.builds.BuildRefusal.{BuildRefusal}
use Rattle.tree_build.specs.declared.builds.BuildRefusal.TheVariants.{Unkept as BuildUnkept, ChildOfLeaf as BuildChildOfLeaf, TwiceTag as BuildTwiceTag, TooDeep as BuildTooDeep, TooManyNodes as BuildTooManyNodes, Memory as BuildMemory}
use Rattle.tree_revision.specs.Settled.{SettledRevision}
use Rattle.tree_revision.specs.Prepared.{new_nodes, first_family, other_kind, too_many_families}
use Rattle.tree_revision.specs.declared.record.Cancel.{Cancel}
use Rattle.tree_revision.specs.declared.record.Cancel.TheVariants.{Unkept, ChildOfLeaf, TwiceTag, TooDeep, TooManyNodes}
use Rattle.tree_revision.specs.declared.next.PrepareRefusal.{PrepareRefusal}
use Rattle.tree_revision.specs.declared.next.PrepareRefusal.TheVariants.{Cancel as CancelRefusal, Memory}

-- a refusal that is a cancel has that cause
abbrev pub IsFor : Option Cancel → PrepareRefusal → Type 0
IsFor why (CancelRefusal cause) = why ≡ Some cause
IsFor why Memory = Unit {0}

-- what a refusal to build is to the change that asks for the forest
abbrev pub refusal_for : BuildRefusal → PrepareRefusal
refusal_for (BuildUnkept tag) = CancelRefusal (Unkept tag)
refusal_for (BuildChildOfLeaf tag) = CancelRefusal (ChildOfLeaf tag)
refusal_for (BuildTwiceTag tag) = CancelRefusal (TwiceTag tag)
refusal_for BuildTooDeep = CancelRefusal TooDeep
refusal_for BuildTooManyNodes = CancelRefusal TooManyNodes
refusal_for BuildMemory = Memory

-- no family changed more often than that
abbrev pub AreCountsWithin : ℕ → FinMap nat_cmp Family → Type 0
AreCountsWithin most families = (tag : ℕ) (family : Family) → get families tag ≡ Some family → family.cell.count ≤ most

-- the families that the tags of nodes begin with, where they have none yet
abbrev pub first_families : FinMap nat_cmp Family → List NodeFields → List (ℕ × Family)
first_families families nodes = map first_family (new_nodes families nodes)

-- no node has another kind than its family, and the families of those that are new are added to a list
pub record AreGathered (families : FinMap nat_cmp Family) (nodes : List NodeFields) (before after : List (ℕ × Family)) : Type 0 where
  pub kinds : other_kind families nodes ≡ None
  pub added : after ≡ before ++ first_families families nodes

-- why families may not grow by those of nodes
abbrev pub growth_cause : FinMap nat_cmp Family → List NodeFields → Option Cancel
growth_cause families nodes = option_or (other_kind families nodes) (too_many_families families nodes)

-- families with that cell at a tag that has a family
abbrev pub families_with_cell : FinMap nat_cmp Family → ℕ → StateCell → FinMap nat_cmp Family
families_with_cell families tag cell =
    unwrap_or (option_map (λ family. insert families tag (record { kind = family.kind; cell = cell })) (get families tag)) families

-- families with a change of that one's state, where it is there
abbrev pub families_changed : ℕ → StateChange → FinMap nat_cmp Family → FinMap nat_cmp Family
families_changed tag change families =
    unwrap_or (option_map (λ family. insert families tag (record { kind = family.kind; cell = cell_after change family.cell })) (get families tag)) families

-- the revision after a front, of that size, with those families and with that forest, which is settled, and with these stamps
abbrev pub settled_next : SettledRevision → Size → FinMap nat_cmp Family → PlainForest SettledFields → StampMap → SettledRevision
settled_next front size families forest stamps = record {
  number = front.number + 1;
  size = size;
  forest = settled_forest size (cell_in families) (contents_of forest);
  families = families;
  stamps = stamps;
}
