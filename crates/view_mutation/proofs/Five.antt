-- The five lists, one after the other.
use Rattle.std.proofs.Common.{◌≡◌, ℕ, List, [], ◌++◌, map, ap, ◌∙◌, Option}
use Rattle.std.specs.List.{flat_map}
use Rattle.host_views.specs.declared.HostView.{HostView}
use Rattle.view_flatten.specs.declared.placing.Placed.{Placed}
use Rattle.host_views.specs.declared.Mutation.{Mutation}
use Rattle.host_views.specs.Plain.{PlainMutation, children_at, plain_mutation}
use Rattle.view_mutation.specs.Mutations.{mutations_between, view_at}
use Rattle.view_mutation.specs.Shorthands.{host_parents}
use Rattle.view_mutation.specs.Lookups.{IsListed, deletes_by, creates_by, updates_by}
use Rattle.view_mutation.specs.Children.{removes_by, inserts_by}
use Rattle.view_mutation.proofs.Index.{same_removes, same_deletes, same_creates, same_updates, same_inserts}
use Rattle.view_flatten.specs.Placed.{plain_places}

-- five lists, one after the other
five_listed : (l0 l1 l2 l3 l4 l5 : List Mutation) (a b c d e : List PlainMutation) → l0 ≡ []
    → IsListed l0 a l1 → IsListed l1 b l2 → IsListed l2 c l3 → IsListed l3 d l4 → IsListed l4 e l5 → map plain_mutation l5 ≡ a ++ b ++ c ++ d ++ e
five_listed l0 l1 l2 l3 l4 l5 a b c d e z k1 k2 k3 k4 k5 =
    k5.listed
    ∙ ap (λ r. r ++ e)
    (k4.listed
    ∙ ap (λ r. r ++ d) (k3.listed ∙ ap (λ r. r ++ c) (k2.listed ∙ ap (λ r. r ++ b) (k1.listed ∙ ap (λ l. map plain_mutation l ++ a) z))))

-- the five lists of two trees, by what is known of their children and of their views
pub all_listed : (old new : List Placed) (old_children new_children : ℕ → List ℕ) (old_known new_known : ℕ → Option HostView) (l0 l1 l2 l3 l4 l5 : List Mutation)
    → ((parent : ℕ) → old_children parent ≡ children_at (plain_places old) parent) → ((parent : ℕ) → new_children parent ≡ children_at (plain_places new) parent)
    → ((tag : ℕ) → old_known tag ≡ view_at (plain_places old) tag) → ((tag : ℕ) → new_known tag ≡ view_at (plain_places new) tag) → l0 ≡ []
    → IsListed l0 (flat_map (removes_by old_children new_children) (host_parents (plain_places old))) l1
    → IsListed l1 (deletes_by new_known (plain_places old)) l2
    → IsListed l2 (creates_by old_known (plain_places new)) l3
    → IsListed l3 (updates_by old_known (plain_places new)) l4
    → IsListed l4 (flat_map (inserts_by old_children new_children) (host_parents (plain_places new))) l5
    → map plain_mutation l5 ≡ mutations_between (plain_places old) (plain_places new)
all_listed old new old_children new_children old_known new_known l0 l1 l2 l3 l4 l5 h k o n z k1 k2 k3 k4 k5 =
    let was = plain_places old in
    let now = plain_places new in
    five_listed l0 l1 l2 l3 l4 l5 _ _ _ _ _ z k1 k2 k3 k4 k5
    ∙ (λ i. same_removes old_children new_children was now h k i ++ same_deletes new_known was now n i ++ same_creates old_known was now o i ++ same_updates old_known was now o i
    ++ same_inserts old_children new_children was now h k i)
