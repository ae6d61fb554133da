-- A surface is stopped, and a tree that keeps a node of it is cancelled.
use Rattle.std.specs.Prelude.{ℕ, List, [], ◌∷◌, codes, None}
use Rattle.shadow_kinds.specs.declared.Kind.TheVariants.{Text}
use Rattle.tree_build.specs.Script.{kept, no_more}
use Rattle.tree_revision.specs.Records.{complete, stop}
use Rattle.tree_revision.specs.Script.{PlainScript, commit, mount}
use Rattle.worked_examples.specs.Words.{actor_named, lines, on_one, script_with, written_node}

abbrev pub script : PlainScript
script = script_with 1
    (actor_named (codes "js")
    (on_one (commit (complete (written_node 2 Text ([])
    no_more
    (written_node 3 Text ([])
    no_more
    no_more))))
    ∷ on_one mount
    ∷ on_one (commit stop)
    ∷ on_one mount
    ∷ on_one (commit (complete (kept 2 None no_more)))
    ∷ on_one (commit (complete (written_node 2 Text ([])
    no_more
    no_more)))
    ∷ [])
    ∷ [])
    ([])

abbrev pub report : List ℕ
report = lines (
    codes "report 1" ∷
    codes "surface 1" ∷
    codes "commit 1 js 0 complete held 0" ∷
    codes "commit 2 js 2 stop held 1" ∷
    codes "commit 3 js 5 complete held 2" ∷
    codes "actor js" ∷
    codes "step 0 on 1 admitted 1 tries 1" ∷
    codes "step 1 on 1 mounted 0 1" ∷
    codes "step 2 on 1 admitted 2 tries 1" ∷
    codes "step 3 on 1 mounted 1 2" ∷
    codes "step 4 on 1 cancelled 2 tries 1 cause 1 Unkept 2" ∷
    codes "step 5 on 1 admitted 3 tries 1" ∷
    codes "mounts 1" ∷
    codes "transaction 0 1 by js 1" ∷
    codes "create 2 text frame 0 0 0 0" ∷
    codes "create 3 text frame 0 0 0 0" ∷
    codes "insert 0 2 0" ∷
    codes "insert 0 3 1" ∷
    codes "transaction 1 2 by js 3" ∷
    codes "remove 0 3 1" ∷
    codes "remove 0 2 0" ∷
    codes "delete 2" ∷
    codes "delete 3" ∷
    codes "transaction 2 3 closing" ∷
    codes "create 2 text frame 0 0 0 0" ∷
    codes "insert 0 2 0" ∷
    codes "views 1" ∷
    codes "view 2 in 0 at 0 text frame 0 0 0 0" ∷
    codes "end" ∷
    [])
