-- An index of the views by their tags.
use Rattle.std.proofs.Common.{◌≡◌, ℕ, suc, ◌+◌, ◌≤◌, List, length, arith, [], ◌∷◌, true, false, cond, Option, Some, is_some, not, map, refl, ap, ◌∙◌}
use Rattle.std.specs.Prelude.{filter, nat_eq, ◌||◌}
use Rattle.std.specs.FinMap.{find}
use Rattle.std.specs.List.{flat_map, slice_get}
use Rattle.std.specs.Option.{option_and_then, option_map}
use Rattle.std.specs.Ordering.{nat_cmp}
use Rattle.std.proofs.lemmas.List.{length-map}
use Rattle.host_views.specs.declared.HostView.{HostView}
use Rattle.host_views.specs.HostTree.{has_tag}
use Rattle.view_flatten.specs.declared.placing.Placed.{Placed}
use Rattle.host_views.specs.Plain.{PlainHostTree, create, delete, host_tags, children_at}
use Rattle.view_mutation.specs.Mutations.{view_at, removes_at, inserts_at}
use Rattle.view_mutation.specs.Shorthands.{deletes, creates, updates, host_parents}
use Rattle.view_mutation.specs.Children.{HaveFewChildren, removes_by, inserts_by}
use Rattle.view_mutation.specs.Lookups.{deletes_by, creates_by, updates_by, view_by, place_at, place_by}
use Rattle.view_flatten.specs.Placed.{plain_place, plain_places}
use Rattle.view_mutation.specs.Pairs.{pairs_at}
use Rattle.view_mutation.proofs.ByNumber.{find_kept, same_number}

-- the view of a tag is that of its first place
pub view_at_places : (places : List Placed) (tag : ℕ) → option_map (λ placed. (plain_place placed).view) (place_at places tag) ≡ view_at (plain_places places) tag
view_at_places [] tag = refl
view_at_places (placed ∷ others) tag =
    elim (nat_eq (plain_place placed).tag tag) as (λ b. option_map (λ placed. (plain_place placed).view) (cond b (Some placed) (place_at others tag)) ≡ cond b (Some (plain_place placed).view) (view_at (plain_places others) tag)) [
      | true ↦ refl
      | false ↦ view_at_places others tag
    ]

-- by an index of places it is found
pub indexed_views : (index : List (ℕ × ℕ)) (places : List Placed) → ((tag : ℕ) → place_by index places tag ≡ place_at places tag) → (tag : ℕ) → view_by index places tag ≡ view_at (plain_places places) tag
indexed_views index places h tag = ap (option_map (λ placed. (plain_place placed).view)) (h tag) ∙ view_at_places places tag

-- the tags of places with where each stands, from an index on
abbrev pub indexed_from : ℕ → List Placed → List (ℕ × ℕ)
indexed_from at [] = []
indexed_from at (placed ∷ others) = ((plain_place placed).tag, at) ∷ indexed_from (at + 1) others

-- what is found among them is the first place of a tag
found_from : (g : ℕ → Option Placed) (at : ℕ) (places : List Placed) (tag : ℕ) → ((k : ℕ) → g (at + k) ≡ slice_get places k) → option_and_then g (find nat_cmp tag (indexed_from at places)) ≡ place_at places tag
found_from g at [] tag h = refl
found_from g at (placed ∷ others) tag h =
    let here : g at ≡ Some placed = let e : at ≡ at + 0 = omega arith in ap g e ∙ h 0 in
    let rest = found_from g (at + 1) others tag (λ k. let e : (at + 1) + k ≡ at + suc k = omega arith in ap g e ∙ h (suc k)) in
    ap (λ b. option_and_then g (cond b (Some at) (find nat_cmp tag (indexed_from (at + 1) others)))) (same_number tag (plain_place placed).tag)
    ∙ elim (nat_eq (plain_place placed).tag tag) as (λ b. option_and_then g (cond b (Some at) (find nat_cmp tag (indexed_from (at + 1) others))) ≡ cond b (Some placed) (place_at others tag)) [
      | true ↦ here
      | false ↦ rest
    ]

-- so it is in the order of the tags
pub index_found : (pairs sorted : List (ℕ × ℕ)) (places : List Placed) → pairs ≡ indexed_from 0 places → ((tag : ℕ) → pairs_at sorted tag ≡ pairs_at pairs tag)
    → (tag : ℕ) → place_by sorted places tag ≡ place_at places tag
index_found pairs sorted places is kept tag =
    ap (option_and_then (λ at. slice_get places at)) (find_kept pairs sorted tag (kept tag) ∙ ap (find nat_cmp tag) is)
    ∙ found_from (λ at. slice_get places at) 0 places tag (λ k. let e : 0 + k ≡ k = omega arith in ap (slice_get places) e)

-- a tag is there exactly where it has a view
pub has_tag_by_view : (tree : PlainHostTree) (tag : ℕ) → is_some (view_at tree tag) ≡ has_tag tree tag
has_tag_by_view [] tag = refl
has_tag_by_view (placed ∷ others) tag =
    elim (nat_eq placed.tag tag) as (λ b. is_some (cond b (Some placed.view) (view_at others tag)) ≡ (b || has_tag others tag)) [
      | true ↦ refl
      | false ↦ has_tag_by_view others tag
    ]

pub same_deletes : (known : ℕ → Option HostView) (old new : PlainHostTree) → ((tag : ℕ) → known tag ≡ view_at new tag) → deletes_by known old ≡ deletes old new
same_deletes known old new h = λ i. map (λ placed. delete placed.tag) (filter (λ placed. not ((ap is_some (h placed.tag) ∙ has_tag_by_view new placed.tag) i)) old)

pub same_creates : (known : ℕ → Option HostView) (old new : PlainHostTree) → ((tag : ℕ) → known tag ≡ view_at old tag) → creates_by known new ≡ creates old new
same_creates known old new h = λ i. map (λ placed. create placed.tag placed.view) (filter (λ placed. not ((ap is_some (h placed.tag) ∙ has_tag_by_view old placed.tag) i)) new)

pub same_updates : (known : ℕ → Option HostView) (old new : PlainHostTree) → ((tag : ℕ) → known tag ≡ view_at old tag) → updates_by known new ≡ updates old new
same_updates known old new h = ap (λ k. updates_by k new) (λ i tag. h tag i)

-- the children of a host parent are views of the tree
children_le : (tree : PlainHostTree) (parent : ℕ) → length (children_at tree parent) ≤ length tree
children_le [] parent = omega arith
children_le (placed ∷ others) parent =
    elim (nat_eq placed.parent parent) as (λ b. length (host_tags (cond b (placed ∷ filter (λ placed. nat_eq placed.parent parent) others) (filter (λ placed. nat_eq placed.parent parent) others))) ≤ suc (length others)) [
      | true ↦ omega (arith, children_le others parent)
      | false ↦ omega (arith, children_le others parent)
    ]

-- a tree of few views has few children at each host parent
pub few_children : (children : ℕ → List ℕ) (views : List Placed) → length views ≤ 2000 → ((parent : ℕ) → children parent ≡ children_at (plain_places views) parent) → HaveFewChildren children
few_children children views few h parent =
    let count : length (children parent) ≡ length (children_at (plain_places views) parent) = ap length (h parent) in
    omega (arith, count, children_le (plain_places views) parent, length-map views plain_place)

pub same_removes : (known_old known_new : ℕ → List ℕ) (old new : PlainHostTree) → ((parent : ℕ) → known_old parent ≡ children_at old parent) → ((parent : ℕ) → known_new parent ≡ children_at new parent)
    → flat_map (removes_by known_old known_new) (host_parents old) ≡ flat_map (removes_at old new) (host_parents old)
same_removes known_old known_new old new h k = λ i. flat_map (removes_by (λ parent. h parent i) (λ parent. k parent i)) (host_parents old)

pub same_inserts : (known_old known_new : ℕ → List ℕ) (old new : PlainHostTree) → ((parent : ℕ) → known_old parent ≡ children_at old parent) → ((parent : ℕ) → known_new parent ≡ children_at new parent)
    → flat_map (inserts_by known_old known_new) (host_parents new) ≡ flat_map (inserts_at old new) (host_parents new)
same_inserts known_old known_new old new h k = λ i. flat_map (inserts_by (λ parent. h parent i) (λ parent. k parent i)) (host_parents new)
