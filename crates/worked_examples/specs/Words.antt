-- Short words for the scripts of worked examples.
use Rattle.std.specs.Prelude.{ℕ, ℤ, pos, List, [], ◌∷◌, ◌++◌, codes, Some, None, slice_set, replicate}
use Rattle.std.specs.List.{fold}
use Rattle.shadow_kinds.specs.declared.Kind.{Kind}
use Rattle.prop_table.specs.Props.{PropList}
use Rattle.prop_table.specs.Table.{v2_rules, start_of}
use Rattle.shadow_node.specs.declared.NodeEdit.{NodeEdit}
use Rattle.tree_build.specs.Script.{ScriptForest, written}
use Rattle.tree_revision.specs.Script.{PlainAct, PlainStep, PlainActor, PlainScript}

-- rows with their numbers
abbrev pub with_rows : List (ℕ × ℤ) → PropList
with_rows rows = fold (λ props row. slice_set props row.0 (Some row.1)) (start_of v2_rules) rows

-- a written node with those rows, and no label
abbrev pub written_node : ℕ → Kind → List (ℕ × ℤ) → ScriptForest → ScriptForest → ScriptForest
written_node tag kind rows children siblings =
    written (record { tag = tag; kind = kind; props = with_rows rows; label = [] }) children siblings

-- a change of those rows
abbrev pub edit_of_rows : List (ℕ × ℤ) → NodeEdit
edit_of_rows rows = record { rows = fold (λ edit row. slice_set edit row.0 (Some (Some row.1))) (replicate 22 None) rows; label = None }

-- a step on surface 1
abbrev pub on_one : PlainAct → PlainStep
on_one act = record { surface = 1; act = act }

-- an actor of that name with those steps
abbrev pub actor_named : List ℕ → List PlainStep → PlainActor
actor_named name steps = record { name = name; steps = steps }

-- a script of that version with surface 1, of 100 by 100 points
abbrev pub script_with : ℕ → List PlainActor → List ℕ → PlainScript
script_with version actors turns = record {
  version = version;
  surfaces = (record { id = 1; size = record { width = pos 100; height = pos 100 } }) ∷ [];
  actors = actors;
  turns = turns;
}

-- lines, each with its end
abbrev pub lines : List (List ℕ) → List ℕ
lines [] = []
lines (line ∷ others) = line ++ codes "\n" ++ lines others
