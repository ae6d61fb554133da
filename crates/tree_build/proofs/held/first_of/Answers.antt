use Rattle.std.proofs.Common.{sym, ap, ◌∙◌, length, take, drop, take-append-drop, Bor}
use Rattle.std.specs.Option.{option_map}
use Rattle.page_map.proofs.Rising.{find_here, find_at_end}
use Rattle.shadow_node.specs.Falls.{Shared}
use Rattle.tree_build.proofs.Tagged.{find_passed}
use Rattle.tree_build.proofs.held.first_of.Goals as goal
use Rattle.tree_build.proofs.held.first_of.Goals.{in_default-via-in-Some+else-first-tag, in_default-via-in_default}

pub returns-in-Some : goal.returns-in-Some
returns-in-Some c =
    let es = c.args.nodes.now in
    let i = c.place_of.result in
    sym (ap (option_map (λ (node : Bor Shared). node.now.value)) (find_here c.args.tag es (take i es) (drop i es) c.in-Some.first.now _ (sym (take-append-drop i es)) c.place_of.ensures.below (sym c.split_at.ensures.back ∙ c.in-Some.ensures.cases.0) c.if-first-tag.true))

pub returns-in_default : goal.returns-in_default
returns-in_default c =
    let es = c.args.nodes.now in
    let i = c.place_of.result in
    sym (ap (option_map (λ (node : Bor Shared). node.now.value)) (
    elim c.in_default.branch [
      | in_default-via-in-Some+else-first-tag w ↦ find_passed c.args.tag es i w.in-Some.first.now _ c.requires c.place_of.ensures.below c.place_of.ensures.rest (sym c.split_at.ensures.back ∙ w.in-Some.ensures.cases.0) w.if-first-tag.false
      | in_default-via-in_default w ↦ let none = rw w.in_default.is at c.split_first.ensures.cases in find_at_end c.args.tag es (take i es) (drop i es) (sym (take-append-drop i es)) c.place_of.ensures.below (ap length (sym c.split_at.ensures.back) ∙ none)
    ]
    ))
