-- Between host trees in step there are updates alone.
use Rattle.std.proofs.Common.{◌≡◌, ℕ, List, [], ◌∷◌, ◌++◌, map, Bool, true, false, not, cond, Option, Some, nat_eq, refl, ap, sym, ◌∙◌, subst, append-nil, drop, length, arith}
use Rattle.std.specs.Prelude.{filter, ◌||◌}
use Rattle.std.specs.List.{AllByRecursion, IsDistinct, flat_map, list_any}
use Rattle.std.proofs.lemmas.Bool.{eq-eqb}
use Rattle.std.proofs.lemmas.List.{drop_all}
use Rattle.std.proofs.lemmas.Map.Keys.{IsDistinct-head, IsDistinct-tail}
use Rattle.host_views.specs.declared.HostView.{HostView}
use Rattle.host_views.specs.HostTree.{has_tag}
use Rattle.host_views.specs.Plain.{PlainHostTree, PlainMutation, PlainPlacedView, children_at, create, delete, host_tags, update}
use Rattle.host_views.specs.Same.{is_same_view}
use Rattle.view_flatten.proofs.Agree.{none_kept}
use Rattle.view_flatten.proofs.Distinct.{each_of_two, each_then}
use Rattle.view_mutation.specs.InStep.{AreInStep, stands_of, update_before, updates_in_step}
use Rattle.view_mutation.specs.Mutations.{common_prefix, inserts_at, inserts_from, is_other_view, mutations_between, removes_at, removes_from, staying, view_at}
use Rattle.view_mutation.specs.Shorthands.{host_parents}

-- the tags of a tree, by where its views stand
tags_by_stand : (tree : PlainHostTree) → host_tags tree ≡ map (λ stand. stand.1) (stands_of tree)
tags_by_stand [] = refl
tags_by_stand (placed ∷ others) = ap (λ tags. placed.tag ∷ tags) (tags_by_stand others)

pub same_host_tags : (old new : PlainHostTree) → AreInStep old new → host_tags old ≡ host_tags new
same_host_tags old new step = tags_by_stand old ∙ ap (map (λ stand. stand.1)) step ∙ sym (tags_by_stand new)

-- the children of a host parent, by where the views stand
pub children_by_stand : (tree : PlainHostTree) (parent : ℕ) → children_at tree parent ≡ map (λ stand. stand.1) (filter (λ stand. nat_eq stand.0 parent) (stands_of tree))
children_by_stand [] parent = refl
children_by_stand (placed ∷ others) parent =
    elim (nat_eq placed.parent parent) as (λ b. host_tags (cond b (placed ∷ filter (λ placed. nat_eq placed.parent parent) others) (filter (λ placed. nat_eq placed.parent parent) others))
    ≡ map (λ stand. stand.1) (cond b ((placed.parent, placed.tag) ∷ filter (λ stand. nat_eq stand.0 parent) (stands_of others)) (filter (λ stand. nat_eq stand.0 parent) (stands_of others)))) [
      | true ↦ ap (λ tags. placed.tag ∷ tags) (children_by_stand others parent)
      | false ↦ children_by_stand others parent
    ]

same_children : (old new : PlainHostTree) → AreInStep old new → (parent : ℕ) → children_at old parent ≡ children_at new parent
same_children old new step parent =
    children_by_stand old parent ∙ ap (λ stands. map (λ stand. stand.1) (filter (λ stand. nat_eq stand.0 parent) stands)) step ∙ sym (children_by_stand new parent)

-- all of a list stays in front of itself
prefix_whole : (tags : List ℕ) → common_prefix tags tags ≡ length tags
prefix_whole [] = refl
prefix_whole (tag ∷ tags) = rw (eq-eqb tag tag refl, prefix_whole tags) (omega arith)

-- a map to lists that are empty
flat_nothing : {X Y : Type 0} (f : X → List Y) (xs : List X) → ((x : X) → f x ≡ []) → flat_map f xs ≡ []
flat_nothing f [] none = refl
flat_nothing f (x ∷ xs) none = rw (none x, flat_nothing f xs none) refl

-- nothing is left after all that stays
none_after : (old new : PlainHostTree) (tags : List ℕ) (parent : ℕ) → children_at old parent ≡ tags → children_at new parent ≡ tags → drop (staying old new parent) tags ≡ []
none_after old new tags parent o n =
    ap (λ k. drop k tags) ((λ i. common_prefix (o i) (n i)) ∙ prefix_whole tags) ∙ drop_all (length tags) tags (omega arith)

no_removes : (old new : PlainHostTree) → AreInStep old new → flat_map (removes_at old new) (host_parents old) ≡ []
no_removes old new step =
    flat_nothing (removes_at old new) (host_parents old)
    (λ parent. ap (removes_from parent (staying old new parent)) (none_after old new (children_at old parent) parent refl (sym (same_children old new step parent))))

no_inserts : (old new : PlainHostTree) → AreInStep old new → flat_map (inserts_at old new) (host_parents new) ≡ []
no_inserts old new step =
    flat_nothing (inserts_at old new) (host_parents new)
    (λ parent. ap (inserts_from parent (staying old new parent)) (none_after old new (children_at new parent) parent (same_children old new step parent) refl))

-- whether a tree has a tag, by its tags
tag_among : (tree : PlainHostTree) (tag : ℕ) → has_tag tree tag ≡ list_any (λ t. nat_eq t tag) (host_tags tree)
tag_among [] tag = refl
tag_among (placed ∷ others) tag = ap (λ b. nat_eq placed.tag tag || b) (tag_among others tag)

or_true : (b : Bool) → (b || true) ≡ true
or_true true = refl
or_true false = refl

-- a tree has the tag of each of its views
each_there : (tree : PlainHostTree) → AllByRecursion (λ placed. has_tag tree placed.tag ≡ true) tree
each_there [] = tt
each_there (placed ∷ others) = (
  ap (λ b. b || has_tag others placed.tag) (eq-eqb placed.tag placed.tag refl),
  each_then (λ other. has_tag others other.tag ≡ true) (λ other. has_tag (placed ∷ others) other.tag ≡ true)
      (λ other h. ap (λ b. nat_eq placed.tag other.tag || b) h ∙ or_true (nat_eq placed.tag other.tag)) others (each_there others),
)

-- and so has one that is in step with it
none_missing : (old new : PlainHostTree) → host_tags old ≡ host_tags new → filter (λ placed. not (has_tag new placed.tag)) old ≡ []
none_missing old new same =
    none_kept (λ placed. not (has_tag new placed.tag)) old
    (each_then (λ placed. has_tag old placed.tag ≡ true) (λ placed. not (has_tag new placed.tag) ≡ false)
    (λ placed h. ap not (tag_among new placed.tag ∙ ap (list_any (λ t. nat_eq t placed.tag)) (sym same) ∙ sym (tag_among old placed.tag) ∙ h)) old (each_there old))

-- where tags differ, the view of each tag is that of its one place
of_tags : (P : ℕ → Type 0) (tree : PlainHostTree) → AllByRecursion P (host_tags tree) → AllByRecursion (λ placed. P placed.tag) tree
of_tags P [] h = tt
of_tags P (placed ∷ others) h = (h.0, of_tags P others h.1)

each_view : (tree : PlainHostTree) → IsDistinct nat_eq (host_tags tree) → AllByRecursion (λ placed. view_at tree placed.tag ≡ Some placed.view) tree
each_view [] d = tt
each_view (placed ∷ others) d = (
  ap (λ b. cond b (Some placed.view) (view_at others placed.tag)) (eq-eqb placed.tag placed.tag refl),
  each_then (λ other. (nat_eq placed.tag other.tag ≡ false) × (view_at others other.tag ≡ Some other.view)) (λ other. view_at (placed ∷ others) other.tag ≡ Some other.view)
      (λ other h. ap (λ b. cond b (Some placed.view) (view_at others other.tag)) h.0 ∙ h.1) others
      (each_of_two (λ other. nat_eq placed.tag other.tag ≡ false) (λ other. view_at others other.tag ≡ Some other.view) others
      (of_tags (λ tag. nat_eq placed.tag tag ≡ false) others (IsDistinct-head nat_eq placed.tag (host_tags others) d))
      (each_view others (IsDistinct-tail nat_eq placed.tag (host_tags others) d))),
)

abbrev first_tag_of : List (ℕ × ℕ) → ℕ
first_tag_of [] = 0
first_tag_of (stand ∷ others) = stand.1

-- the updates by what is known of each tag are those view by view
updates_known : (known : ℕ → Option HostView) (old new : PlainHostTree) → AreInStep old new → AllByRecursion (λ was. known was.tag ≡ Some was.view) old
    → map (λ placed. update placed.tag placed.view) (filter (λ placed. is_other_view (known placed.tag) placed.view) new) ≡ updates_in_step old new
updates_known known [] [] step each = refl
updates_known known [] (is ∷ new) step each = let no : ⊥ = cc in absurd no
updates_known known (was ∷ old) [] step each = let no : ⊥ = cc in absurd no
updates_known known (was ∷ old) (is ∷ new) step each =
    let tag : was.tag ≡ is.tag = ap first_tag_of step in
    let others : AreInStep old new = ap (drop 1) step in
    let left = filter (λ placed. is_other_view (known placed.tag) placed.view) new in
    ap (λ o. map (λ placed. update placed.tag placed.view) (cond (is_other_view o is.view) (is ∷ left) left)) (ap known (sym tag) ∙ each.0)
    ∙ elim (not (is_same_view was.view is.view)) as (λ b. map (λ placed. update placed.tag placed.view) (cond b (is ∷ left) left) ≡ cond b (update is.tag is.view ∷ updates_in_step old new) (updates_in_step old new)) [
      | true ↦ ap (λ list. update is.tag is.view ∷ list) (updates_known known old new others each.1)
      | false ↦ updates_known known old new others each.1
    ]

-- between host trees in step there are updates alone, view by view
pub in_step_mutations : (old new : PlainHostTree) → AreInStep old new → IsDistinct nat_eq (host_tags new) → mutations_between old new ≡ updates_in_step old new
in_step_mutations old new step d =
    let tags = same_host_tags old new step in
    let known = updates_known (view_at old) old new step (each_view old (subst (IsDistinct nat_eq) (sym tags) d)) in
    (λ i. no_removes old new step i ++ map (λ placed. delete placed.tag) (none_missing old new tags i) ++ map (λ placed. create placed.tag placed.view) (none_missing new old (sym tags) i)
    ++ known i ++ no_inserts old new step i)
    ∙ append-nil (updates_in_step old new)

-- one more update at the end
pub update_more : (was is : PlainPlacedView) (others : List PlainMutation) → update_before was is [] ++ others ≡ update_before was is others
update_more was is others =
    elim (not (is_same_view was.view is.view)) as (λ b. cond b (update is.tag is.view ∷ []) [] ++ others ≡ cond b (update is.tag is.view ∷ others) others) [
      | true ↦ refl
      | false ↦ refl
    ]
