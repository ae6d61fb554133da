-- What is unchanged since the base stands there as it stands now.
use Rattle.std.proofs.Common.{◌≡◌, ◌≤◌, ℕ, Bool, true, false, List, length, take, take_all, arith, refl, ap, sym, ◌∙◌}
use Rattle.std.specs.Prelude.{◌&&◌, nat_le, Option, Some, None, is_some, unwrap_or}
use Rattle.std.specs.FinMap.{get}
use Rattle.std.proofs.lemmas.Bool.{leb-true}
use Rattle.shadow_frame.specs.declared.Size.{Size}
use Rattle.shadow_kinds.specs.Traits.{forms_context_of}
use Rattle.shadow_node.specs.Find.{first_settled}
use Rattle.shadow_node.specs.Seen.{sight_of}
use Rattle.shadow_node.specs.Stamps.{StampMap, stamp_in}
use Rattle.shadow_node.specs.Entered.{AreAlikeSince}
use Rattle.tree_revision.specs.Records.{PlainRecord}
use Rattle.tree_revision.specs.Settled.{SettledRevision}
use Rattle.tree_revision.specs.Forests.{settled_of}
use Rattle.tree_revision.specs.Stamps.{seen_at, AreStampsOf}
use Rattle.tree_revision.specs.Stands.{HasContentOf}

-- the second of two tests that hold together
second_holds : (a b : Bool) → (a && b) ≡ true → b ≡ true
second_holds true b both = both
second_holds false b both = absurd cc

-- a mounted tag is seen from its stamp on as it is seen now
seen_since : (first : Size) (entries : List PlainRecord) (stamps : StampMap) (tag number : ℕ) (found : Option ℕ) → AreStampsOf first stamps entries
    → get stamps tag ≡ found → is_some found ≡ true → stamp_in stamps tag ≤ number → number ≤ length entries
    → seen_at first entries number tag ≡ seen_at first entries (length entries) tag
seen_since first entries stamps tag number None are is some low within = absurd cc
seen_since first entries stamps tag number (Some stamp) are is some low within =
    (are.each tag stamp is).unchanged number (omega (arith, low, ap (λ found. unwrap_or found 0) is)) within

-- a revision has the content of some records, and another one that of the first of them
pub alike_since : (first : Size) (entries : List PlainRecord) (old new : SettledRevision) → HasContentOf first old (take old.number entries) → HasContentOf first new entries
    → old.number ≤ length entries → AreAlikeSince (stamp_in new.stamps) old.number old.forest new.forest
alike_since first entries old new was is within tree found unchanged =
    let tag = tree.fields.fields.tag in
    let low : stamp_in new.stamps tag ≤ old.number =
    leb-true (stamp_in new.stamps tag) old.number
    (second_holds (forms_context_of tree.fields.fields.kind tree.fields.fields.props) (nat_le (stamp_in new.stamps tag) old.number) unchanged) in
    let mounted : is_some (get new.stamps tag) ≡ true =
    is.stamps.mounted tag ∙ ap (λ forest. is_some (first_settled tag forest)) (sym is.forest) ∙ ap is_some found in
    let all : take (length entries) entries ≡ entries = take_all (length entries) entries (omega arith) in
    ap (λ forest. sight_of forest tag) was.forest
    ∙ seen_since first entries new.stamps tag old.number (get new.stamps tag) is.stamps refl mounted low within
    ∙ ap (λ entries. sight_of (settled_of first entries) tag) all
    ∙ ap (λ forest. sight_of forest tag) (sym is.forest)
