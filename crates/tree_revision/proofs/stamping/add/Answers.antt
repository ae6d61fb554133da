use Rattle.std.proofs.Common.{ap, ◌∙◌, rules}
use Rattle.std.specs.Prelude.{Some, None, nat_eq, if◌then◌else◌}
use Rattle.std.specs.Option.{option_or}
use Rattle.tree_revision.specs.Unchanged.{seen_by, seen_place}
use Rattle.tree_revision.specs.declared.stamping.Place.{Place}
use Rattle.tree_revision.proofs.Places.{seen_pushed}
use Rattle.tree_revision.proofs.stamping.add.Goals as goal

pub returns : goal.returns
returns c = λ tag.
    let place : Place = record { node = c.args.node; shown = c.args.shown } in
    ap (λ places. seen_by places tag) c.in_ok-push.ensures.items
    ∙ seen_pushed c.args.places.now.items c.tag.result place tag
    ∙ ap (λ own. option_or (seen_by c.args.places.now.items tag) (if nat_eq own tag then Some (seen_place place) else None)) (search rules)
