-- Two actors add to one state, and the one that comes too late tries again.
use Rattle.std.specs.Prelude.{ℕ, pos, List, [], ◌∷◌, codes}
use Rattle.prop_table.specs.declared.rows.TheConstants.{HEIGHT, WIDTH}
use Rattle.shadow_kinds.specs.declared.Kind.TheVariants.{Scroll}
use Rattle.native_state.specs.declared.StateChange.TheVariants.{Add}
use Rattle.tree_build.specs.Script.{no_more}
use Rattle.tree_revision.specs.Records.{complete, state}
use Rattle.tree_revision.specs.Script.{PlainScript, commit}
use Rattle.worked_examples.specs.Words.{actor_named, lines, on_one, script_with, written_node}

abbrev pub script : PlainScript
script = script_with 1
    (actor_named (codes "js")
    (on_one (commit (complete (written_node 7 Scroll ((WIDTH, pos 100) ∷ (HEIGHT, pos 100) ∷ [])
    no_more
    no_more)))
    ∷ [])
    ∷ actor_named (codes "a")
    (on_one (commit (state 7 (Add (record { x = pos 0; y = pos 10 }))))
    ∷ [])
    ∷ actor_named (codes "b")
    (on_one (commit (state 7 (Add (record { x = pos 0; y = pos 10 }))))
    ∷ [])
    ∷ [])
    (0 ∷ 0 ∷ 1 ∷ 2 ∷ 1 ∷ 2 ∷ 2 ∷ 2 ∷ [])

abbrev pub report : List ℕ
report = lines (
    codes "report 1" ∷
    codes "surface 1" ∷
    codes "commit 1 js 0 complete held 0" ∷
    codes "commit 2 a 0 state held 0" ∷
    codes "commit 3 b 0 state held 0" ∷
    codes "actor js" ∷
    codes "step 0 on 1 admitted 1 tries 1" ∷
    codes "actor a" ∷
    codes "step 0 on 1 admitted 2 tries 1" ∷
    codes "actor b" ∷
    codes "step 0 on 1 admitted 3 tries 2" ∷
    codes "mounts 1" ∷
    codes "transaction 0 3 closing" ∷
    codes "create 7 scroll frame 0 0 100 100 state 2 0 20 width=100 height=100" ∷
    codes "insert 0 7 0" ∷
    codes "views 1" ∷
    codes "view 7 in 0 at 0 scroll frame 0 0 100 100 state 2 0 20 width=100 height=100" ∷
    codes "end" ∷
    [])
