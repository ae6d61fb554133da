use Rattle.tree_build.proofs.Differ.{differ_moved}
use Rattle.tree_build.proofs.limits.do_differ.Goals as goal

pub returns : goal.returns
returns c = λ rises.
    let differ = rw c.deref-2.ensures.value at (c.do_rise-2.ensures rises) in
    differ_moved c.args.tags.now.items c.sort_unstable.new.self.items c.sort_unstable.ensures.permutation differ
