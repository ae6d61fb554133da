use Rattle.std.proofs.Common.{sym, subst, ap, ◌∙◌}
use Rattle.std.specs.Prelude.{option_and_then}
use Rattle.shadow_node.specs.Forest.{depth_of}
use Rattle.tree_query.specs.Found.{HasRoomFrom, found_from, rectangle_of}
use Rattle.tree_query.proofs.Measures.{found_at_top}
use Rattle.tree_query.proofs.Rooms.{levels_of, room_at_top}
use Rattle.tree_query.proofs.measuring.measure.Goals as goal

pub find_place-requires-clause-levels : goal.find_place-requires-clause-levels
find_place-requires-clause-levels c = levels_of c.args.forest.now c.requires

pub find_place-requires-clause-room : goal.find_place-requires-clause-room
find_place-requires-clause-room c =
    subst (HasRoomFrom (depth_of c.args.forest.now)) (sym c.begin_at_top.ensures) (room_at_top c.args.against c.args.forest.now c.requires)

pub returns-in_err-found-clause-place : goal.returns-in_err-found-clause-place
returns-in_err-found-clause-place c =
    let forest = c.args.forest.now in
    let found = sym c.in_err-found.was ∙ c.find_place.ensures.found ∙ ap (λ begin. found_from c.args.tag c.args.against begin forest) c.begin_at_top.ensures in
    c.from_residual.ensures ∙ ap (option_and_then rectangle_of) found ∙ found_at_top c.args.tag c.args.against forest

pub returns-clause-place : goal.returns-clause-place
returns-clause-place c =
    let forest = c.args.forest.now in
    let found = sym c.in_ok-found.was ∙ c.find_place.ensures.found ∙ ap (λ begin. found_from c.args.tag c.args.against begin forest) c.begin_at_top.ensures in
    c.rectangle.ensures.place ∙ ap (option_and_then rectangle_of) found ∙ found_at_top c.args.tag c.args.against forest
