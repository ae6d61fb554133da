-- Finite maps: a change at one key.
use Rattle.std.proofs.Common.{◌≡◌, ℕ, true, false, cond, Option, None, Some, refl, ap, ◌∙◌, arith}
use Rattle.std.specs.Prelude.{nat_eq}
use Rattle.std.proofs.lemmas.Bool.Decides.{nat_tests}
use Rattle.std.specs.Option.{option_map, unwrap_or}
use Rattle.std.specs.Ordering.{nat_cmp, eq_by_cmp}
use Rattle.std.specs.Cmp.{nat_cmp_total}
use Rattle.std.specs.FinMap.{FinMap, get, get-insert, get-remove, same_map, nat_cmp-IsAntisymmetric}
use Rattle.std.specs.FinMap as table
use Rattle.host_views.specs.Registry.{changed_at}

-- two maps that answer alike are one
pub same_table : {X : Type 0} (m n : FinMap nat_cmp X) → ((q : ℕ) → get m q ≡ get n q) → m ≡ n
same_table m n h = same_map nat_cmp_total nat_cmp-IsAntisymmetric m n h

-- a change where something stands, and where nothing does
pub changed_there : {X : Type 0} (tag : ℕ) (change : X → X) (m : FinMap nat_cmp X) (v : X) → get m tag ≡ Some v → changed_at tag change m ≡ table.insert m tag (change v)
changed_there tag change m v e = ap (λ o. unwrap_or (option_map (λ value. table.insert m tag (change value)) o) m) e

pub changed_nowhere : {X : Type 0} (tag : ℕ) (change : X → X) (m : FinMap nat_cmp X) → get m tag ≡ None → changed_at tag change m ≡ m
changed_nowhere tag change m e = ap (λ o. unwrap_or (option_map (λ value. table.insert m tag (change value)) o) m) e

-- the order of numbers ties equal numbers alone
pub by_number : (q k : ℕ) → eq_by_cmp nat_cmp q k ≡ nat_eq q k
by_number q k = grind (arith, nat_tests)

-- what an insert leaves at each tag
pub get_inserted : {X : Type 0} (m : FinMap nat_cmp X) (k : ℕ) (v : X) (q : ℕ) → get (table.insert m k v) q ≡ cond (nat_eq q k) (Some v) (get m q)
get_inserted m k v q = get-insert nat_cmp_total m k v q ∙ ap (λ b. cond b (Some v) (get m q)) (by_number q k)

-- what a remove leaves at each tag
pub get_removed : {X : Type 0} (m : FinMap nat_cmp X) (k q : ℕ) → get (table.remove m k) q ≡ cond (nat_eq q k) None (get m q)
get_removed m k q = get-remove nat_cmp_total m k q ∙ ap (λ b. cond b None (get m q)) (by_number q k)

changed_from : {X : Type 0} (m : FinMap nat_cmp X) (tag : ℕ) (change : X → X) (q : ℕ) (o : Option X) → get m tag ≡ o
    → get (changed_at tag change m) q ≡ cond (nat_eq q tag) (option_map change o) (get m q)
changed_from m tag change q None e =
    ap (λ n. get n q) (changed_nowhere tag change m e)
    ∙ elim (nat_eq q tag) as (λ b. nat_eq q tag ≡ b → get m q ≡ cond b None (get m q)) [
      | true ↦ λ same. ap (get m) (grind (arith, nat_tests)) ∙ e
      | false ↦ λ _. refl
    ] refl
changed_from m tag change q (Some v) e = ap (λ n. get n q) (changed_there tag change m v e) ∙ get_inserted m tag (change v) q

-- what a change leaves at each tag
pub get_changed : {X : Type 0} (m : FinMap nat_cmp X) (tag : ℕ) (change : X → X) (q : ℕ) → get (changed_at tag change m) q ≡ cond (nat_eq q tag) (option_map change (get m q)) (get m q)
get_changed m tag change q =
    changed_from m tag change q (get m tag) refl
    ∙ elim (nat_eq q tag) as (λ b. nat_eq q tag ≡ b → cond b (option_map change (get m tag)) (get m q) ≡ cond b (option_map change (get m q)) (get m q)) [
      | true ↦ λ same. ap (λ t. option_map change (get m t)) (grind (arith, nat_tests))
      | false ↦ λ _. refl
    ] refl
