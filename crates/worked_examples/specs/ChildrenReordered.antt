-- The children after an equal prefix are removed and inserted again.
use Rattle.std.specs.Prelude.{ℕ, List, [], ◌∷◌, codes, None}
use Rattle.shadow_kinds.specs.declared.Kind.TheVariants.{Text}
use Rattle.tree_build.specs.Script.{kept, no_more}
use Rattle.tree_revision.specs.Records.{complete}
use Rattle.tree_revision.specs.Script.{PlainScript, commit, mount}
use Rattle.worked_examples.specs.Words.{actor_named, lines, on_one, script_with, written_node}

abbrev pub script : PlainScript
script = script_with 1
    (actor_named (codes "js")
    (on_one (commit (complete (written_node 2 Text ([])
    no_more
    (written_node 3 Text ([])
    no_more
    (written_node 4 Text ([])
    no_more
    no_more)))))
    ∷ on_one mount
    ∷ on_one (commit (complete (kept 2 None (kept 4 None (kept 3 None no_more)))))
    ∷ on_one mount
    ∷ [])
    ∷ [])
    ([])

abbrev pub report : List ℕ
report = lines (
    codes "report 1" ∷
    codes "surface 1" ∷
    codes "commit 1 js 0 complete held 0" ∷
    codes "commit 2 js 2 complete held 1" ∷
    codes "actor js" ∷
    codes "step 0 on 1 admitted 1 tries 1" ∷
    codes "step 1 on 1 mounted 0 1" ∷
    codes "step 2 on 1 admitted 2 tries 1" ∷
    codes "step 3 on 1 mounted 1 2" ∷
    codes "mounts 1" ∷
    codes "transaction 0 1 by js 1" ∷
    codes "create 2 text frame 0 0 0 0" ∷
    codes "create 3 text frame 0 0 0 0" ∷
    codes "create 4 text frame 0 0 0 0" ∷
    codes "insert 0 2 0" ∷
    codes "insert 0 3 1" ∷
    codes "insert 0 4 2" ∷
    codes "transaction 1 2 by js 3" ∷
    codes "remove 0 4 2" ∷
    codes "remove 0 3 1" ∷
    codes "insert 0 4 1" ∷
    codes "insert 0 3 2" ∷
    codes "views 1" ∷
    codes "view 2 in 0 at 0 text frame 0 0 0 0" ∷
    codes "view 4 in 0 at 1 text frame 0 0 0 0" ∷
    codes "view 3 in 0 at 2 text frame 0 0 0 0" ∷
    codes "end" ∷
    [])
