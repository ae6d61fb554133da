use Rattle.std.proofs.Common.{◌∙◌, subst, OnOk}
use Rattle.view_mutation.specs.Children.{tags_in}
use Rattle.view_mutation.specs.Lookups.{IsListed}
use Rattle.view_mutation.specs.Mutations.{common_prefix, removes_from}
use Rattle.view_mutation.proofs.Lists.{after_staying}
use Rattle.view_mutation.proofs.children.add_removes_at.Goals as goal

pub returns : goal.returns
returns c =
    subst (λ more. OnOk c.add_removes_from.result (IsListed c.args.list.now more c.add_removes_from.new.list))
    (after_staying (removes_from c.args.parent) _ _ _ _ c.tags_at-tags.ensures (c.staying-stay.ensures.prefix ∙ (λ i. common_prefix (tags_in (c.tags_at-tags.ensures i)) (tags_in (c.tags_at.ensures i)))))
    c.add_removes_from.ensures
