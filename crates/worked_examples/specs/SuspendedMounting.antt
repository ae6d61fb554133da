-- Commits go on while mounts stand still.
use Rattle.std.specs.Prelude.{ℕ, pos, List, [], ◌∷◌, codes}
use Rattle.prop_table.specs.declared.rows.TheConstants.{WIDTH}
use Rattle.shadow_kinds.specs.declared.Kind.TheVariants.{Text}
use Rattle.tree_build.specs.Script.{no_more}
use Rattle.tree_revision.specs.Records.{complete, props, resume, suspend}
use Rattle.tree_revision.specs.Script.{PlainScript, commit, mount}
use Rattle.worked_examples.specs.Words.{actor_named, edit_of_rows, lines, on_one, script_with, written_node}

abbrev pub script : PlainScript
script = script_with 2
    (actor_named (codes "js")
    (on_one (commit (complete (written_node 2 Text ((WIDTH, pos 10) ∷ [])
    no_more
    no_more)))
    ∷ on_one mount
    ∷ on_one (commit suspend)
    ∷ on_one (commit (props 2 (edit_of_rows ((WIDTH, pos 20) ∷ []))))
    ∷ on_one mount
    ∷ on_one (commit resume)
    ∷ on_one mount
    ∷ [])
    ∷ [])
    ([])

abbrev pub report : List ℕ
report = lines (
    codes "report 1" ∷
    codes "surface 1" ∷
    codes "commit 1 js 0 complete held 0" ∷
    codes "commit 2 js 2 suspend held 1" ∷
    codes "commit 3 js 3 props held 2" ∷
    codes "commit 4 js 5 resume held 3" ∷
    codes "actor js" ∷
    codes "step 0 on 1 admitted 1 tries 1" ∷
    codes "step 1 on 1 mounted 0 1" ∷
    codes "step 2 on 1 admitted 2 tries 1" ∷
    codes "step 3 on 1 admitted 3 tries 1" ∷
    codes "step 4 on 1 empty 1" ∷
    codes "step 5 on 1 admitted 4 tries 1" ∷
    codes "step 6 on 1 mounted 1 4" ∷
    codes "mounts 1" ∷
    codes "transaction 0 1 by js 1" ∷
    codes "create 2 text frame 0 0 10 0 width=10" ∷
    codes "insert 0 2 0" ∷
    codes "transaction 1 4 by js 6" ∷
    codes "update 2 text frame 0 0 20 0 width=20" ∷
    codes "views 1" ∷
    codes "view 2 in 0 at 0 text frame 0 0 20 0 width=20" ∷
    codes "end" ∷
    [])
