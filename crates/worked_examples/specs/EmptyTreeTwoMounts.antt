-- An empty tree, and two mounts: the first without mutations, the second empty.
use Rattle.std.specs.Prelude.{ℕ, List, [], ◌∷◌, codes}
use Rattle.tree_build.specs.Script.{no_more}
use Rattle.tree_revision.specs.Records.{complete}
use Rattle.tree_revision.specs.Script.{PlainScript, commit, mount}
use Rattle.worked_examples.specs.Words.{actor_named, lines, on_one, script_with}

abbrev pub script : PlainScript
script = script_with 1
    (actor_named (codes "js")
    (on_one (commit (complete no_more))
    ∷ on_one mount
    ∷ on_one mount
    ∷ [])
    ∷ [])
    ([])

abbrev pub report : List ℕ
report = lines (
    codes "report 1" ∷
    codes "surface 1" ∷
    codes "commit 1 js 0 complete held 0" ∷
    codes "actor js" ∷
    codes "step 0 on 1 admitted 1 tries 1" ∷
    codes "step 1 on 1 mounted 0 1" ∷
    codes "step 2 on 1 empty 1" ∷
    codes "mounts 1" ∷
    codes "transaction 0 1 by js 1" ∷
    codes "views 1" ∷
    codes "end" ∷
    [])
