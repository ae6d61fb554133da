use Rattle.std.proofs.Common.{◌≡◌, rules, subst, sym}
use Rattle.std.specs.Prelude.{pos}
use Rattle.shadow_kinds.specs.Axes.{z_order_of}
use Rattle.view_flatten.specs.Sites.{HasRoomBelow, shown_host}
use Rattle.view_flatten.proofs.Added.{room_shown}
use Rattle.view_mutation.proofs.Compared.{compared_still}
use Rattle.view_mutation.proofs.together.compare_kept.Goals as goal

pub returns-then-are_still : goal.returns-then-are_still
returns-then-are_still c _ =
    let was = c.args.was.now.tree.fields in
    let is = c.args.is.now.tree.fields in
    let hosts = c.args.hosts in
    let level : z_order_of is.fields.props ≡ pos 0 = search rules in
    let still : hosts.was ≡ hosts.is = c.are_still.ensures c.if-are_still.true c.requires.parent in
    compared_still (shown_host hosts.was was) (shown_host hosts.is is) was is c.args.list.now (λ i. shown_host (still i) (c.requires.same i)) c.requires.same level

pub add_own-requires-clause-old_place : goal.add_own-requires-clause-old_place
add_own-requires-clause-old_place c = subst (HasRoomBelow 1) (sym c.shown.ensures.old) (room_shown 1 c.args.hosts.was c.args.was.now.tree.fields c.requires.old_place)

pub add_own-requires-clause-new_place : goal.add_own-requires-clause-new_place
add_own-requires-clause-new_place c = subst (HasRoomBelow 1) (sym c.shown.ensures.new) (room_shown 1 c.args.hosts.is c.args.is.now.tree.fields c.requires.new_place)
