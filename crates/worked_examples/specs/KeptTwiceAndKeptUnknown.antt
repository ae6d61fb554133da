-- A tree that keeps a node twice, and one that keeps a node which is not there.
use Rattle.std.specs.Prelude.{ℕ, List, [], ◌∷◌, codes, None}
use Rattle.shadow_kinds.specs.declared.Kind.TheVariants.{View}
use Rattle.tree_build.specs.Script.{kept, no_more}
use Rattle.tree_revision.specs.Records.{complete}
use Rattle.tree_revision.specs.Script.{PlainScript, commit}
use Rattle.worked_examples.specs.Words.{actor_named, lines, on_one, script_with, written_node}

abbrev pub script : PlainScript
script = script_with 1
    (actor_named (codes "js")
    (on_one (commit (complete (written_node 2 View ([])
    no_more
    no_more)))
    ∷ on_one (commit (complete (kept 2 None (kept 2 None no_more))))
    ∷ on_one (commit (complete (kept 2 None (kept 2 None (kept 9 None no_more)))))
    ∷ [])
    ∷ [])
    ([])

abbrev pub report : List ℕ
report = lines (
    codes "report 1" ∷
    codes "surface 1" ∷
    codes "commit 1 js 0 complete held 0" ∷
    codes "actor js" ∷
    codes "step 0 on 1 admitted 1 tries 1" ∷
    codes "step 1 on 1 cancelled 1 tries 1 cause 3 TwiceTag 2" ∷
    codes "step 2 on 1 cancelled 1 tries 1 cause 1 Unkept 9" ∷
    codes "mounts 1" ∷
    codes "transaction 0 1 closing" ∷
    codes "views 1" ∷
    codes "end" ∷
    [])
