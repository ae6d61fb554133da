use Rattle.std.proofs.Common.{ap, ◌∙◌, rules}
use Rattle.std.specs.Prelude.{Some, None, nat_eq, if◌then◌else◌}
use Rattle.std.specs.Option.{option_or}
use Rattle.tree_build.specs.Index.{found_in}
use Rattle.tree_build.proofs.Tagged.{found_pushed}
use Rattle.tree_build.proofs.held.push.Goals as goal

pub returns : goal.returns
returns c = λ tag.
    ap (λ nodes. found_in nodes tag) c.in_ok-push.ensures.items
    ∙ found_pushed c.args.nodes.now.items c.tag.result c.args.node tag
    ∙ ap (λ own. option_or (found_in c.args.nodes.now.items tag) (if nat_eq own tag then Some c.args.node.now.value else None)) (search rules)
