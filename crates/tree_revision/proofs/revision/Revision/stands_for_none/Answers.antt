use Rattle.std.proofs.Common.{◌≡◌, [], ap, ◌∙◌, subst}
use Rattle.tree_revision.specs.Stands.{StandsFor}
use Rattle.tree_revision.proofs.Standing.{none_stands}
use Rattle.tree_revision.proofs.revision.Revision.stands_for_none.Goals as goal

pub returns : goal.returns
returns c =
    let content = c.self.inside.content in
    let zero : content.number ≡ 0 = ap (λ r. r.newest.number) c.self.view_is ∙ c.requires in
    subst (λ r. StandsFor r.newest.size r []) c.self.view_is
    (none_stands (λ older. older.value) content c.self.inside.still c.self.invariant c.is_first.ensures zero)
