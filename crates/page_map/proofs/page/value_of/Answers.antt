use Rattle.std.proofs.Common.{sym, ap, ◌∙◌, length, take, drop, take-append-drop}
use Rattle.page_map.proofs.Rising.{find_here, find_past, find_at_end}
use Rattle.page_map.proofs.page.value_of.Goals as goal
use Rattle.page_map.proofs.page.value_of.Goals.{in_default-via-in-Some+else-first-tag, in_default-via-in_default}

pub returns-in-Some : goal.returns-in-Some
returns-in-Some g c =
    let es = c.args.entries.now in
    let i = c.place_of.result in
    sym (find_here c.args.tag es (take i es) (drop i es) c.in-Some.first.now _ (sym (take-append-drop i es)) c.place_of.ensures.below (sym c.split_at.ensures.back ∙ c.in-Some.ensures.cases.0) c.if-first-tag.true)

pub returns-in_default : goal.returns-in_default
returns-in_default g c =
    let es = c.args.entries.now in
    let i = c.place_of.result in
    elim c.in_default.branch [
      | in_default-via-in-Some+else-first-tag w ↦ sym (find_past c.args.tag es (take i es) (drop i es) w.in-Some.first.now _ (sym (take-append-drop i es)) c.requires c.place_of.ensures.below c.place_of.ensures.rest (sym c.split_at.ensures.back ∙ w.in-Some.ensures.cases.0) w.if-first-tag.false)
      | in_default-via-in_default w ↦ let none = rw w.in_default.is at c.split_first.ensures.cases in sym (find_at_end c.args.tag es (take i es) (drop i es) (sym (take-append-drop i es)) c.place_of.ensures.below (ap length (sym c.split_at.ensures.back) ∙ none))
    ]
