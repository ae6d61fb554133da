-- The children of one host parent stand by z, and where z is equal in preorder.
use Rattle.std.specs.Prelude.{ℕ, pos, negsuc, List, [], ◌∷◌, codes}
use Rattle.prop_table.specs.declared.rows.TheConstants.{Z}
use Rattle.shadow_kinds.specs.declared.Kind.TheVariants.{View}
use Rattle.tree_build.specs.Script.{no_more}
use Rattle.tree_revision.specs.Records.{complete}
use Rattle.tree_revision.specs.Script.{PlainScript, commit, mount}
use Rattle.worked_examples.specs.Words.{actor_named, lines, on_one, script_with, written_node}

abbrev pub script : PlainScript
script = script_with 1
    (actor_named (codes "js")
    (on_one (commit (complete (written_node 2 View ((Z, pos 0) ∷ [])
    no_more
    (written_node 3 View ((Z, pos 5) ∷ [])
    no_more
    (written_node 4 View ((Z, pos 0) ∷ [])
    no_more
    (written_node 5 View ((Z, negsuc 0) ∷ [])
    no_more
    no_more))))))
    ∷ on_one mount
    ∷ [])
    ∷ [])
    ([])

abbrev pub report : List ℕ
report = lines (
    codes "report 1" ∷
    codes "surface 1" ∷
    codes "commit 1 js 0 complete held 0" ∷
    codes "actor js" ∷
    codes "step 0 on 1 admitted 1 tries 1" ∷
    codes "step 1 on 1 mounted 0 1" ∷
    codes "mounts 1" ∷
    codes "transaction 0 1 by js 1" ∷
    codes "create 5 view frame 0 0 0 0 z=-1" ∷
    codes "create 2 view frame 0 0 0 0 z=0" ∷
    codes "create 4 view frame 0 0 0 0 z=0" ∷
    codes "create 3 view frame 0 0 0 0 z=5" ∷
    codes "insert 0 5 0" ∷
    codes "insert 0 2 1" ∷
    codes "insert 0 4 2" ∷
    codes "insert 0 3 3" ∷
    codes "views 1" ∷
    codes "view 5 in 0 at 0 view frame 0 0 0 0 z=-1" ∷
    codes "view 2 in 0 at 1 view frame 0 0 0 0 z=0" ∷
    codes "view 4 in 0 at 2 view frame 0 0 0 0 z=0" ∷
    codes "view 3 in 0 at 3 view frame 0 0 0 0 z=5" ∷
    codes "end" ∷
    [])
