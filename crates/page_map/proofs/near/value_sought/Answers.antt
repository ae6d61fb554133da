use Rattle.std.proofs.Common.{sym, ap, ◌∙◌, length, take, drop, take-append-drop}
use Rattle.page_map.proofs.Joined.{here_rises}
use Rattle.page_map.proofs.Parts.{found_in_page}
use Rattle.page_map.proofs.Rising.{find_here, find_past, find_at_end}
use Rattle.page_map.proofs.near.value_sought.Goals as goal
use Rattle.page_map.proofs.near.value_sought.Goals.{in_default-via-in-Some+else-first-tag, in_default-via-in_default}

pub place_of-at-requires : goal.place_of-at-requires
place_of-at-requires g c = here_rises c.args.pages.now c.args.tag _ _ _ c.parted.ensures c.requires.rises

pub returns-in-Some : goal.returns-in-Some
returns-in-Some g c =
    let es = c.parted.result.1.now in
    let i = c.place_of-at.result in
    let found = sym (find_here c.args.tag es (take i es) (drop i es) c.in-Some.first.now _ (sym (take-append-drop i es)) c.place_of-at.ensures.below (sym c.split_at.ensures.back ∙ c.in-Some.ensures.cases.0) c.if-first-tag.true) in
    found ∙ found_in_page c.args.pages.now c.requires.rises c.args.tag _ es _ c.parted.ensures

pub returns-in_default : goal.returns-in_default
returns-in_default g c =
    let es = c.parted.result.1.now in
    let i = c.place_of-at.result in
    let rises = here_rises c.args.pages.now c.args.tag _ _ _ c.parted.ensures c.requires.rises in
    let whole = found_in_page c.args.pages.now c.requires.rises c.args.tag _ es _ c.parted.ensures in
    elim c.in_default.branch [
      | in_default-via-in-Some+else-first-tag w ↦ sym (find_past c.args.tag es (take i es) (drop i es) w.in-Some.first.now _ (sym (take-append-drop i es)) rises c.place_of-at.ensures.below c.place_of-at.ensures.rest (sym c.split_at.ensures.back ∙ w.in-Some.ensures.cases.0) w.if-first-tag.false) ∙ whole
      | in_default-via-in_default w ↦ let none = rw w.in_default.is at c.split_first.ensures.cases in sym (find_at_end c.args.tag es (take i es) (drop i es) (sym (take-append-drop i es)) c.place_of-at.ensures.below (ap length (sym c.split_at.ensures.back) ∙ none)) ∙ whole
    ]
