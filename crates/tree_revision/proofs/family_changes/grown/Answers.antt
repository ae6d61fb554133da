use Rattle.std.proofs.Common.{◌++◌, length, arith, sym, ap, subst, ◌∙◌}
use Rattle.std.specs.FinMap.{len}
use Rattle.page_map.specs.Entries.{TagsDiffer, all_added}
use Rattle.shadow_node.specs.Forest.{preorder}
use Rattle.shadow_node.specs.Fields.{contents_of}
use Rattle.tree_revision.specs.Steps.{first_families}
use Rattle.tree_revision.proofs.Added.{len_grown, length_first}
use Rattle.tree_revision.proofs.Gathered.{added_differ}
use Rattle.tree_revision.proofs.family_changes.grown.Goals as goal

pub with_new-requires : goal.with_new-requires
with_new-requires c =
    let families = c.args.families.now in
    let nodes = preorder (contents_of c.args.forest.now) in
    let is = c.deref.ensures.value ∙ c.in_ok-add_all.ensures.gathered.added ∙ ap (λ before. before ++ first_families families nodes) c.new-new.ensures.items in
    subst TagsDiffer (sym is) (added_differ families nodes c.requires)

pub returns-clause-made : goal.returns-clause-made
returns-clause-made c =
    let families = c.args.families.now in
    let nodes = preorder (contents_of c.args.forest.now) in
    let is = c.deref.ensures.value ∙ c.in_ok-add_all.ensures.gathered.added ∙ ap (λ before. before ++ first_families families nodes) c.new-new.ensures.items in
    let long = ap length is ∙ length_first families nodes in
    let count = ap len (c.in_ok-with_new.ensures.map ∙ ap (all_added families) is) ∙ len_grown families nodes c.requires in
    record {
      nodes = c.in_ok-with_new.ensures.nodes;
      never_falls = c.in_ok-with_new.ensures.never_falls;
      at_most = omega (arith, c.in_ok-with_new.ensures.at_most, long, count);
    }
