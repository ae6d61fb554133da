use Rattle.std.proofs.Common.{rules, refl, ap, sym, ◌∙◌, subst}
use Rattle.counts.specs.Raised.{raised}
use Rattle.tree_revision.specs.Settled.{KeptRevision}
use Rattle.mount_coordinator.specs.Mounted.{entered_from}
use Rattle.view_flatten.specs.HostTree.{host_tree_of}
use Rattle.view_mutation.specs.Leads.{LeadOn}
use Rattle.view_mutation.specs.Since.{AreTagged}
use Rattle.shadow_node.specs.Stamps.{stamp_in}
use Rattle.shadow_node.specs.Entered.{AreAlikeSince}
use Rattle.mount_coordinator.proofs.Mounting.{leads, base_tagged, front_tagged, front_alike, nothing_newer, finished}
use Rattle.mount_coordinator.proofs.coordinator.Coordinator.finish.Goals as goal

pub lead_to-requires-clause-leads : goal.lead_to-requires-clause-leads
lead_to-requires-clause-leads c =
    subst (λ to. LeadOn (host_tree_of c.args.self.now.base.forest) (host_tree_of to.newest.forest)) (sym c.in_ok-to.ensures)
    (leads c.requires.first c.requires.entries c.args.self.now.base c.args.front c.requires.stands c.requires.mounted)

pub lead_to-requires-clause-old_tags : goal.lead_to-requires-clause-old_tags
lead_to-requires-clause-old_tags c = base_tagged c.requires.first c.requires.entries c.args.self.now.base c.args.front c.requires.stands c.requires.mounted

pub lead_to-requires-clause-new_tags : goal.lead_to-requires-clause-new_tags
lead_to-requires-clause-new_tags c =
    subst (λ to. AreTagged to.newest.forest) (sym c.in_ok-to.ensures)
    (front_tagged c.requires.first c.requires.entries c.args.self.now.base c.args.front c.requires.stands c.requires.mounted)

pub lead_to-requires-clause-alike : goal.lead_to-requires-clause-alike
lead_to-requires-clause-alike c =
    let base = c.args.self.now.base in
    subst (λ to. AreAlikeSince (stamp_in to.newest.stamps) base.number base.forest to.newest.forest) (sym c.in_ok-to.ensures)
    (front_alike c.requires.first c.requires.entries base c.args.front c.requires.stands c.requires.mounted)

pub returns-then-number : goal.returns-then-number
returns-then-number c = λ first entries stands mounted.
    nothing_newer first entries c.args.self.now.base c.args.front stands mounted c.args.self.now refl (search rules)

pub returns : goal.returns
returns c = λ first entries stands mounted.
    finished first entries c.args.self.now.base c.args.front stands mounted c.in_ok-transaction.transaction c.args.self.now c.lead_to.new.self
    refl (search rules) (search rules) (search rules) (search rules) (search rules)
    (c.in_ok-transaction.ensures.entered ∙ ap (λ (to : KeptRevision). raised c.args.self.now.entered (entered_from c.args.self.now.base to.newest)) c.in_ok-to.ensures)
