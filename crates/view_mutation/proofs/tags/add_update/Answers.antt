use Rattle.std.proofs.Common.{◌∙◌, ap, subst, sym}
use Rattle.view_mutation.specs.Lookups.{place_by}
use Rattle.view_mutation.specs.SameSkipped.{IsSameAsBefore}
use Rattle.view_mutation.proofs.tags.add_update.Goals as goal

pub is_other-requires : goal.is_other-requires
is_other-requires c =
    subst (λ o. IsSameAsBefore o c.args.placed.now) (sym (c.place_of.ensures ∙ ap (place_by c.args.index.now c.args.known.now) c.tag-tag.ensures.tag)) c.requires
