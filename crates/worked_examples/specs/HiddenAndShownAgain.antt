-- A hidden view, shown and hidden again, with what lies in it.
use Rattle.std.specs.Prelude.{ℕ, pos, List, [], ◌∷◌, codes}
use Rattle.prop_table.specs.declared.rows.TheConstants.{HEIGHT, HIDDEN, LEFT, TOP, WIDTH}
use Rattle.shadow_kinds.specs.declared.Kind.TheVariants.{Text, View}
use Rattle.tree_build.specs.Script.{no_more}
use Rattle.tree_revision.specs.Records.{complete, props}
use Rattle.tree_revision.specs.Script.{PlainScript, commit, mount}
use Rattle.worked_examples.specs.Words.{actor_named, edit_of_rows, lines, on_one, script_with, written_node}

abbrev pub script : PlainScript
script = script_with 2
    (actor_named (codes "js")
    (on_one (commit (complete (written_node 2 View ((LEFT, pos 10) ∷ (TOP, pos 10) ∷ (WIDTH, pos 50) ∷ (HEIGHT, pos 50) ∷ (HIDDEN, pos 1) ∷ [])
    (written_node 3 Text ((LEFT, pos 5) ∷ (TOP, pos 5) ∷ (WIDTH, pos 10) ∷ (HEIGHT, pos 10) ∷ [])
    no_more
    no_more)
    no_more)))
    ∷ on_one mount
    ∷ on_one (commit (props 2 (edit_of_rows ((HIDDEN, pos 0) ∷ []))))
    ∷ on_one mount
    ∷ on_one (commit (props 2 (edit_of_rows ((HIDDEN, pos 1) ∷ []))))
    ∷ on_one mount
    ∷ [])
    ∷ [])
    ([])

abbrev pub report : List ℕ
report = lines (
    codes "report 1" ∷
    codes "surface 1" ∷
    codes "commit 1 js 0 complete held 0" ∷
    codes "commit 2 js 2 props held 1" ∷
    codes "commit 3 js 4 props held 2" ∷
    codes "actor js" ∷
    codes "step 0 on 1 admitted 1 tries 1" ∷
    codes "step 1 on 1 mounted 0 1" ∷
    codes "step 2 on 1 admitted 2 tries 1" ∷
    codes "step 3 on 1 mounted 1 2" ∷
    codes "step 4 on 1 admitted 3 tries 1" ∷
    codes "step 5 on 1 mounted 2 3" ∷
    codes "mounts 1" ∷
    codes "transaction 0 1 by js 1" ∷
    codes "transaction 1 2 by js 3" ∷
    codes "create 3 text frame 15 15 10 10 left=5 top=5 width=10 height=10" ∷
    codes "insert 0 3 0" ∷
    codes "transaction 2 3 by js 5" ∷
    codes "remove 0 3 0" ∷
    codes "delete 3" ∷
    codes "views 1" ∷
    codes "end" ∷
    [])
