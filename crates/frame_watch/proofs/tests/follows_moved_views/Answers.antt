use Rattle.std.proofs.Common.{rules, []}
use Rattle.shadow_kinds.specs.declared.Kind.TheVariants.{View}
use Rattle.frame_watch.proofs.SmallMounts.{outer_mount, inner_mount, outer_tree, inner_tree}
use Rattle.frame_watch.proofs.tests.follows_moved_views.Goals as goal

pub mount-requires : goal.mount-requires
mount-requires c =
    let three = c.in_ok-three.three.value in
    let four = c.in_ok-four.four.value in
    record {
      old = [];
      new = outer_tree three four;
      mount = rw (c.create.ensures, c.create-2.ensures, c.insert.ensures, c.insert-2.ensures)
          (outer_mount c.in_ok-follow.follow View three four (search rules) (search rules) (search rules));
    }

pub mount-requires-2 : goal.mount-requires-2
mount-requires-2 c =
    let two = c.in_ok-two.two.value in
    let three = c.in_ok-three.three.value in
    let four = c.in_ok-four.four.value in
    let inner_three = c.in_ok-inner_three.inner_three.value in
    let inner_four = c.in_ok-inner_four.inner_four.value in
    let mounted = c.in_ok-created.ensures.mounted [] (outer_tree three four)
    (rw (c.create.ensures, c.create-2.ensures, c.insert.ensures, c.insert-2.ensures) (outer_mount c.in_ok-follow.follow View three four (search rules) (search rules) (search rules)))
    in
    record {
      old = outer_tree three four;
      new = inner_tree two inner_three inner_four;
      mount = rw (c.remove.ensures, c.remove-2.ensures, c.create-3.ensures, c.update.ensures, c.update-2.ensures, c.insert-3.ensures, c.insert-4.ensures, c.insert-5.ensures)
          (inner_mount c.mount.new.self View two three four inner_three inner_four mounted (search rules) (search rules) (search rules) (search rules) (search rules)
          (search rules) (search rules));
    }
