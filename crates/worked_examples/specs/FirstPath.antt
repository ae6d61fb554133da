-- A view in a view that forms no view of its own, completed and mounted.
use Rattle.std.specs.Prelude.{ℕ, pos, List, [], ◌∷◌, codes}
use Rattle.prop_table.specs.declared.rows.TheConstants.{BACKGROUND, HEIGHT, LEFT, TOP, WIDTH}
use Rattle.shadow_kinds.specs.declared.Kind.TheVariants.{View}
use Rattle.tree_build.specs.Script.{no_more}
use Rattle.tree_revision.specs.Records.{complete}
use Rattle.tree_revision.specs.Script.{PlainScript, commit, mount}
use Rattle.worked_examples.specs.Words.{actor_named, lines, on_one, script_with, written_node}

abbrev pub script : PlainScript
script = script_with 1
    (actor_named (codes "js")
    (on_one (commit (complete (written_node 2 View ((LEFT, pos 10) ∷ (TOP, pos 10) ∷ (WIDTH, pos 50) ∷ (HEIGHT, pos 50) ∷ [])
    (written_node 3 View ((LEFT, pos 5) ∷ (TOP, pos 5) ∷ (WIDTH, pos 10) ∷ (HEIGHT, pos 10) ∷ (BACKGROUND, pos 4278190080) ∷ [])
    no_more
    no_more)
    no_more)))
    ∷ on_one mount
    ∷ [])
    ∷ [])
    ([])

abbrev pub report : List ℕ
report = lines (
    codes "report 1" ∷
    codes "surface 1" ∷
    codes "commit 1 js 0 complete held 0" ∷
    codes "actor js" ∷
    codes "step 0 on 1 admitted 1 tries 1" ∷
    codes "step 1 on 1 mounted 0 1" ∷
    codes "mounts 1" ∷
    codes "transaction 0 1 by js 1" ∷
    codes "create 3 view frame 15 15 10 10 left=5 top=5 width=10 height=10 background=4278190080" ∷
    codes "insert 0 3 0" ∷
    codes "views 1" ∷
    codes "view 3 in 0 at 0 view frame 15 15 10 10 left=5 top=5 width=10 height=10 background=4278190080" ∷
    codes "end" ∷
    [])
