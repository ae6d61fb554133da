use Rattle.std.proofs.Common.{rules, [], ◌∙◌}
use Rattle.shadow_kinds.specs.declared.Kind.TheVariants.{View}
use Rattle.frame_watch.proofs.SmallMounts.{lone_mount, changed_mount, lone_tree}
use Rattle.frame_watch.proofs.tests.keeps_frame_of_scrolled_view.Goals as goal

pub mount-requires : goal.mount-requires
mount-requires c =
    let still = c.in_ok-still.still.value in
    record {
      old = [];
      new = lone_tree still;
      mount = rw (c.create.ensures, c.insert.ensures) (lone_mount c.in_ok-follow.follow View still (search rules) (search rules));
    }

pub changes-requires : goal.changes-requires
changes-requires c =
    let still = c.in_ok-still.still.value in
    let moved = c.in_ok-moved.moved.value in
    let mounted = c.in_ok-created.ensures.mounted [] (lone_tree still)
    (rw (c.create.ensures, c.insert.ensures) (lone_mount c.in_ok-follow.follow View still (search rules) (search rules)))
    in
    record {
      old = lone_tree still;
      new = lone_tree moved;
      mount = rw c.update.ensures (changed_mount c.registry.result.now View still moved (c.registry.ensures ∙ mounted) (search rules) (search rules) (search rules));
    }
