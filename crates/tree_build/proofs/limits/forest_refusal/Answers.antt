use Rattle.std.proofs.Common.{sym, ◌∙◌}
use Rattle.shadow_node.specs.Fields.{contents_of, tags_of}
use Rattle.tree_build.proofs.Repeats.{repeated_from_none}
use Rattle.tree_build.proofs.Within.{refused_twice}
use Rattle.tree_build.proofs.limits.forest_refusal.Goals as goal

pub returns-in-Some-2 : goal.returns-in-Some-2
returns-in-Some-2 c =
    let tags = tags_of (contents_of c.args.forest.now) in
    let found = repeated_from_none c.new-seen.result.keys c.first_repeated.new.seen.keys tags c.in_ok-tag.field-0 c.new-seen.ensures.empty c.in_ok-tag.ensures.repeated in
    sym (refused_twice c.args.forest.now c.in-Some-2.tag (found ∙ c.in-Some-2.is))

pub size_refusal-requires-2-clause-differ : goal.size_refusal-requires-2-clause-differ
size_refusal-requires-2-clause-differ c =
    let tags = tags_of (contents_of c.args.forest.now) in
    let found = repeated_from_none c.new-seen.result.keys c.first_repeated.new.seen.keys tags c.in_ok-tag.field-0 c.new-seen.ensures.empty c.in_ok-tag.ensures.repeated in
    found ∙ c.in_default-2.is
