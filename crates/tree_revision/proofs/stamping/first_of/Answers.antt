use Rattle.std.proofs.Common.{sym, ap, ◌∙◌, length, take, drop, take-append-drop}
use Rattle.std.specs.Option.{option_map}
use Rattle.page_map.proofs.Rising.{find_here, find_at_end}
use Rattle.tree_revision.specs.Unchanged.{seen_place}
use Rattle.tree_build.proofs.Tagged.{find_passed}
use Rattle.tree_revision.proofs.stamping.first_of.Goals as goal
use Rattle.tree_revision.proofs.stamping.first_of.Goals.{in_default-via-in-Some+else-first-tag, in_default-via-in_default}

pub returns-in-Some : goal.returns-in-Some
returns-in-Some c =
    let es = c.args.places.now in
    let i = c.index_of.result in
    sym (ap (option_map seen_place) (find_here c.args.tag es (take i es) (drop i es) c.in-Some.first.now _ (sym (take-append-drop i es)) c.index_of.ensures.below (sym c.split_at.ensures.back ∙ c.in-Some.ensures.cases.0) c.if-first-tag.true))

pub returns-in_default : goal.returns-in_default
returns-in_default c =
    let es = c.args.places.now in
    let i = c.index_of.result in
    sym (ap (option_map seen_place) (
    elim c.in_default.branch [
      | in_default-via-in-Some+else-first-tag w ↦ find_passed c.args.tag es i w.in-Some.first.now _ c.requires c.index_of.ensures.below c.index_of.ensures.rest (sym c.split_at.ensures.back ∙ w.in-Some.ensures.cases.0) w.if-first-tag.false
      | in_default-via-in_default w ↦ let none = rw w.in_default.is at c.split_first.ensures.cases in find_at_end c.args.tag es (take i es) (drop i es) (sym (take-append-drop i es)) c.index_of.ensures.below (ap length (sym c.split_at.ensures.back) ∙ none)
    ]
    ))
