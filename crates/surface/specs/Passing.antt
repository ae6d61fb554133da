-- What stands of a pass over a host's calls.
use Rattle.std.specs.Prelude.{◌≡◌}
use Rattle.tree_revision.specs.Ports.{Lasts}
use Rattle.commit_spine.specs.SpinePasses.{PassValue}
use Rattle.commit_spine.specs.SpinePorts.{spine_told}

-- a pass goes on: it is of the same spine, has the same shares, has seen no less, and no count fell
pub record PassGoesOn (old new : PassValue) : Type 0 where
  pub spine : new.spine ≡ old.spine
  pub shares : new.kept.shares ≡ old.kept.shares
  pub lasts : Lasts (spine_told old) (spine_told new)
