use Rattle.std.proofs.Common.{◌≡◌, ap, subst, ◌∙◌, length, nat_eq, rules}
use Rattle.std.specs.List.{IsDistinct}
use Rattle.shadow_node.specs.Fields.{contents_of, tags_of}
use Rattle.tree_build.proofs.Repeats.{length-tags}
use Rattle.tree_build.proofs.Within.{differing_unrepeated}
use Rattle.tree_build.proofs.limits.count_of_differing.Goals as goal

pub returns-then-do_differ-clause-differ : goal.returns-then-do_differ-clause-differ
returns-then-do_differ-clause-differ c = λ _.
    let tags = tags_of (contents_of c.args.forest.now) in
    let all : c.push_tags.new.tags.items ≡ tags = search rules in
    differing_unrepeated tags (subst (IsDistinct nat_eq) all (search rules))

pub returns-then-do_differ-clause-count : goal.returns-then-do_differ-clause-count
returns-then-do_differ-clause-count c =
    let all : c.push_tags.new.tags.items ≡ tags_of (contents_of c.args.forest.now) = search rules in
    let count : c.len-count.result ≡ length c.push_tags.new.tags.items = search rules in
    count ∙ ap length all ∙ length-tags c.args.forest.now
