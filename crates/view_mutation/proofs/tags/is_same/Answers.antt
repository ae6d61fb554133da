use Rattle.std.proofs.Common.{◌≡◌, ◌∙◌, rules}
use Rattle.shadow_frame.specs.Same.{is_same_point}
use Rattle.view_mutation.proofs.SameSkipped.{same_from_origin}
use Rattle.view_mutation.proofs.tags.is_same.Goals as goal

pub returns-then-is : goal.returns-then-is
returns-then-is c =
    let was = c.args.was.now in
    let is = c.args.is.now in
    let same : c.eq.result ≡ is_same_point was.origin is.origin = search rules in
    same ∙ same_from_origin was.origin is.origin was.spot.tree.fields is.spot.tree.fields (c.requires c.if-was.true c.if-is.true)
