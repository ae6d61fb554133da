use Rattle.std.proofs.Common.{sym, ap, ◌∙◌, length, take, drop, take-append-drop}
use Rattle.page_map.proofs.Rising.{find_here, find_at_end}
use Rattle.view_mutation.proofs.ByNumber.{find_passed}
use Rattle.view_mutation.proofs.pairs.first_of.Goals as goal
use Rattle.view_mutation.proofs.pairs.first_of.Goals.{in_default-via-in-Some+else-first-number, in_default-via-in_default}

pub returns-in-Some : goal.returns-in-Some
returns-in-Some g c =
    let es = c.args.pairs.now in
    let i = c.start_of.result in
    sym (find_here c.args.number es (take i es) (drop i es) c.in-Some.first.now _ (sym (take-append-drop i es)) c.start_of.ensures.below (sym c.split_at.ensures.back ∙ c.in-Some.ensures.cases.0) c.if-first-number.true)

pub returns-in_default : goal.returns-in_default
returns-in_default g c =
    let es = c.args.pairs.now in
    let i = c.start_of.result in
    sym (
    elim c.in_default.branch [
      | in_default-via-in-Some+else-first-number w ↦ find_passed c.args.number es i w.in-Some.first.now _ c.requires c.start_of.ensures.below c.start_of.ensures.rest (sym c.split_at.ensures.back ∙ w.in-Some.ensures.cases.0) w.if-first-number.false
      | in_default-via-in_default w ↦ let none = rw w.in_default.is at c.split_first.ensures.cases in find_at_end c.args.number es (take i es) (drop i es) (sym (take-append-drop i es)) c.start_of.ensures.below (ap length (sym c.split_at.ensures.back) ∙ none)
    ]
    )
