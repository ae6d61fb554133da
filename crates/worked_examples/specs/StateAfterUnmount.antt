-- A state change of a node that was unmounted.
use Rattle.std.specs.Prelude.{ℕ, pos, List, [], ◌∷◌, codes}
use Rattle.prop_table.specs.declared.rows.TheConstants.{HEIGHT, WIDTH}
use Rattle.shadow_kinds.specs.declared.Kind.TheVariants.{Scroll}
use Rattle.native_state.specs.declared.StateChange.TheVariants.{Set}
use Rattle.tree_build.specs.Script.{no_more}
use Rattle.tree_revision.specs.Records.{complete, state}
use Rattle.tree_revision.specs.Script.{PlainScript, commit}
use Rattle.worked_examples.specs.Words.{actor_named, lines, on_one, script_with, written_node}

abbrev pub script : PlainScript
script = script_with 1
    (actor_named (codes "js")
    (on_one (commit (complete (written_node 7 Scroll ((WIDTH, pos 100) ∷ (HEIGHT, pos 100) ∷ [])
    no_more
    no_more)))
    ∷ on_one (commit (complete no_more))
    ∷ [])
    ∷ actor_named (codes "ui")
    (on_one (commit (state 7 (Set (record { x = pos 0; y = pos 1 }))))
    ∷ [])
    ∷ [])
    (0 ∷ 0 ∷ 0 ∷ 0 ∷ 1 ∷ [])

abbrev pub report : List ℕ
report = lines (
    codes "report 1" ∷
    codes "surface 1" ∷
    codes "commit 1 js 0 complete held 0" ∷
    codes "commit 2 js 1 complete held 1" ∷
    codes "actor js" ∷
    codes "step 0 on 1 admitted 1 tries 1" ∷
    codes "step 1 on 1 admitted 2 tries 1" ∷
    codes "actor ui" ∷
    codes "step 0 on 1 cancelled 2 tries 1 cause 8 NotMounted 7" ∷
    codes "mounts 1" ∷
    codes "transaction 0 2 closing" ∷
    codes "views 1" ∷
    codes "end" ∷
    [])
