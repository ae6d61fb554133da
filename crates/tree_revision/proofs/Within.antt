-- How often families changed.
use Rattle.std.proofs.Common.{◌≡◌, ◌≤◌, ◌+◌, ℕ, List, [], ◌∷◌, true, false, cond, map, Some, None, refl, sym, subst, ◌∙◌, arith}
use Rattle.std.specs.Prelude.{unwrap_or}
use Rattle.std.specs.Option.{option_map}
use Rattle.std.specs.Ordering.{nat_cmp, eq_by_cmp}
use Rattle.std.specs.Cmp.{nat_cmp_total}
use Rattle.std.specs.FinMap.{FinMap, get, insert, get-insert}
use Rattle.native_state.specs.declared.StateChange.{StateChange}
use Rattle.native_state.specs.declared.Family.{Family}
use Rattle.native_state.specs.State.{cell_after}
use Rattle.page_map.specs.Entries.{all_added}
use Rattle.shadow_node.specs.Fields.{NodeFields}
use Rattle.tree_revision.specs.Prepared.{first_family}
use Rattle.tree_revision.specs.Steps.{AreCountsWithin, families_changed}

-- below a higher bound
pub counts_more : (most more : ℕ) (families : FinMap nat_cmp Family) → most ≤ more → AreCountsWithin most families → AreCountsWithin more families
counts_more most more families le within tag family is = omega (arith, le, within tag family is)

-- with one more family
pub counts_inserted : (most : ℕ) (families : FinMap nat_cmp Family) (tag : ℕ) (new : Family) → new.cell.count ≤ most → AreCountsWithin most families → AreCountsWithin most (insert families tag new)
counts_inserted most families tag new le within q family is =
    elim (eq_by_cmp nat_cmp q tag) as (λ b. cond b (Some new) (get families q) ≡ Some family → family.cell.count ≤ most) [
      | true ↦ λ e. let same : new ≡ family = cc in subst (λ f. f.cell.count ≤ most) same le
      | false ↦ within q family
    ] (sym (get-insert nat_cmp_total families tag new q) ∙ is)

-- with the families that nodes begin with
pub counts_grown : (most : ℕ) (families : FinMap nat_cmp Family) (nodes : List NodeFields) → AreCountsWithin most families → AreCountsWithin most (all_added families (map first_family nodes))
counts_grown most families [] within = within
counts_grown most families (fields ∷ nodes) within =
    let first = first_family fields in
    counts_grown most (insert families first.0 first.1) nodes (counts_inserted most families first.0 first.1 (omega arith) within)

-- after a change of one of them
pub counts_changed : (most : ℕ) (families : FinMap nat_cmp Family) (tag : ℕ) (change : StateChange) → AreCountsWithin most families → AreCountsWithin (most + 1) (families_changed tag change families)
counts_changed most families tag change within =
    let more = counts_more most (most + 1) families (omega arith) within in
    let after = λ (family : Family). let changed : Family = record { kind = family.kind; cell = cell_after change family.cell } in changed in
    elim (get families tag) as (λ o. get families tag ≡ o → AreCountsWithin (most + 1) (unwrap_or (option_map (λ family. insert families tag (after family)) o) families)) [
      | None ↦ λ _. more
      | Some family ↦ λ is. counts_inserted (most + 1) families tag (after family) (omega (arith, within tag family is)) more
    ] refl
