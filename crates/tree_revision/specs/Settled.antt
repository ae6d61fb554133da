-- A revision as the code keeps it.
use Rattle.std.specs.Prelude.{◌≡◌, ◌≤◌, ℕ, Some, refl}
use Rattle.std.specs.Coded.{Coded, code_by, coded×, coded_ℕ}
use Rattle.std.specs.Ordering.{nat_cmp}
use Rattle.std.specs.FinMap as map
use Rattle.shadow_frame.specs.declared.Size.{Size}
use Rattle.shadow_frame.specs.contracts.Size as size
use Rattle.native_state.specs.Families.{cell_in}
use Rattle.native_state.specs.declared.Family.{Family}
use Rattle.native_state.specs.contracts.Family as family
use Rattle.shadow_node.specs.Forest.{PlainForest, none}
use Rattle.shadow_node.specs.Fields.{SettledFields, contents_of}
use Rattle.shadow_node.specs.Frames.{settled_forest}
use Rattle.shadow_node.specs.Code.{coded_forest, coded_settled}
use Rattle.shadow_node.specs.Stamps.{StampMap}
use Rattle.tree_settle.specs.Limits.{IsSizeInRange, IsForestInLimits}
use Rattle.tree_revision.specs.ForestStamps.{HasTagsOf}

-- what a revision is made of: its number, the surface's size, the forest with states and frames, the families with their cells, and the stamps
pub record SettledRevision : Type 0 where
  pub number : ℕ
  pub size : Size
  pub forest : PlainForest SettledFields
  pub families : map.FinMap nat_cmp Family
  pub stamps : StampMap

-- a surface before its first commit
abbrev pub opened : Size → SettledRevision
opened size = record { number = 0; size = size; forest = none; families = map.empty; stamps = map.empty }

-- a surface's newest revision, and the one that may be mounted with it
pub record KeptRevision : Type 0 where
  pub newest : SettledRevision
  pub mountable : SettledRevision

-- a revision keeps the limits of size and forest, its forest is settled, no family changed more often than there were commits, its stamps are those of its tags, and number 0 is the surface before its first commit
pub record IsWithinLimits (revision : SettledRevision) : Type 0 where
  pub size : IsSizeInRange revision.size
  pub forest : IsForestInLimits revision.forest
  pub settled : revision.forest ≡ settled_forest revision.size (cell_in revision.families) (contents_of revision.forest)
  pub counts : (tag : ℕ) (family : Family) → map.get revision.families tag ≡ Some family → family.cell.count ≤ revision.number
  pub stamps : HasTagsOf revision.stamps revision.forest
  pub first : revision.number ≡ 0 → revision ≡ opened revision.size

abbrev pub coded_revision : Coded SettledRevision
coded_revision =
    code_by (ℕ × (Size × (PlainForest SettledFields × (map.FinMap nat_cmp Family × StampMap))))
    (coded× coded_ℕ (coded× (size.the_row).coded (coded× (coded_forest coded_settled) (coded× (map.code coded_ℕ (family.the_row).coded) (map.code coded_ℕ coded_ℕ)))))
    (λ r. (r.number, (r.size, (r.forest, (r.families, r.stamps)))))
    (λ p. record { number = p.0; size = p.1.0; forest = p.1.1.0; families = p.1.1.1.0; stamps = p.1.1.1.1 }) (λ _. refl)

abbrev pub coded_kept : Coded KeptRevision
coded_kept =
    code_by (SettledRevision × SettledRevision) (coded× coded_revision coded_revision)
    (λ r. (r.newest, r.mountable)) (λ p. record { newest = p.0; mountable = p.1 }) (λ _. refl)
