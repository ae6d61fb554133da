-- Each of the five lists leads a registry on.
use Rattle.std.proofs.Common.{◌≡◌, ◌≤◌, inl, inr, ℕ, List, [], ◌∷◌, drop, map, filter, Bool, true, false, cond, not, Option, Some, None, is_some, nat_eq, arith, refl, ap, sym, ◌∙◌, subst}
use Rattle.std.specs.List.{AllByRecursion, IsDistinct, flat_map, list_any}
use Rattle.std.proofs.lemmas.Bool.{cases_Bool}
use Rattle.host_views.specs.declared.HostView.{HostView}
use Rattle.host_views.specs.HostTree.{IsHostTree, has_tag}
use Rattle.host_views.specs.Plain.{PlainPlacedView, PlainHostTree, PlainMutation, create, delete, update, host_tags, children_at}
use Rattle.host_views.specs.Same.{is_same_view}
use Rattle.host_views.proofs.Same.{same_views}
use Rattle.view_mutation.specs.Mutations.{view_at, is_other_view, staying, removes_at, inserts_at}
use Rattle.view_mutation.specs.Shorthands.{host_parents, deletes, creates, updates}
use Rattle.view_mutation.specs.Leads.{HaveOneKind}
use Rattle.view_mutation.proofs.Index.{has_tag_by_view}
use Rattle.view_mutation.proofs.Shows.{changed, IsParent, created, deleted, updated}
use Rattle.view_mutation.proofs.Leading.{LeadTo, lead_same, lead_nowhere, lead_one, lead_removes, lead_inserts, MayJoin}
use Rattle.view_mutation.proofs.Still.{still, still_all, still_between, lead_views, lead_parents, of_each}
use Rattle.view_mutation.proofs.Trees.{IsFoundIn, all_found, all_parents, distinct_parents, distinct_kept, no_children_of, no_children_past, no_child_of, no_view, some_view, child_there, child_differs, one_parent, parts_new, each_after, has_tag_among}
use Rattle.view_mutation.proofs.Kept.{kept, length_kept, kept_and_old, kept_and_new, kept_without_old, kept_without_new, not_kept}

-- after the removes each old parent has the children that stay
pub removes_lead : (old new : PlainHostTree) → IsHostTree old
    → LeadTo (flat_map (removes_at old new) (host_parents old)) (view_at old) (children_at old) (view_at old) (kept old new)
removes_lead old new ho =
    let views = view_at old in
    let step : (parent : ℕ) (parents : List ℕ) → IsParent views parent
    → LeadTo (removes_at old new parent) views (changed (still (children_at old) (kept old new) parents) parent (children_at old parent)) views (changed (still (children_at old) (kept old new) parents) parent (kept old new parent)) =
    λ parent parents p.
    let rest = still (children_at old) (kept old new) parents in
    subst (λ kids. LeadTo (removes_at old new parent) views (changed rest parent kids) views (changed rest parent (kept old new parent))) (kept_and_old old new parent)
    (lead_removes views rest parent (staying old new parent) (kept old new parent) (drop (staying old new parent) (children_at old parent)) p (length_kept old new parent)) in
    let start : (q : ℕ) → still (children_at old) (kept old new) (host_parents old) q ≡ children_at old q =
    still_all (children_at old) (kept old new) (host_parents old)
    (λ q e. let bare = no_children_past old q ho e in kept_without_old old new q bare ∙ sym bare) in
    lead_same (flat_map (removes_at old new) (host_parents old)) views views views views (still (children_at old) (kept old new) (host_parents old)) (kept old new) (children_at old) (kept old new)
    (λ q. refl) (λ q. refl) start (λ q. refl)
    (lead_parents (removes_at old new) (children_at old) (kept old new) views (IsParent views) step (host_parents old) (distinct_parents old ho) (all_parents old ho))

-- the views of the tags in both trees
abbrev pub view_in_both : (old new : PlainHostTree) → ℕ → Option HostView
view_in_both old new tag = cond (has_tag new tag) (view_at old tag) None

-- views that change one after another, by a mutation of each item that passes a test
lead_filtered : (f : PlainPlacedView → PlainMutation) (test : PlainPlacedView → Bool) (from to : ℕ → Option HostView) (children : ℕ → List ℕ) (Q : PlainPlacedView → Type 0)
    → ((x : PlainPlacedView) (views : ℕ → Option HostView) → Q x
    → LeadTo (cond (test x) (f x ∷ []) []) (changed views x.tag (from x.tag)) children (changed views x.tag (to x.tag)) children)
    → (xs : PlainHostTree) → IsDistinct nat_eq (host_tags xs) → AllByRecursion Q xs
    → ((q : ℕ) → list_any (nat_eq q) (host_tags xs) ≡ false → to q ≡ from q)
    → LeadTo (map f (filter test xs)) from children to children
lead_filtered f test from to children Q step xs d each past =
    let g = λ (x : PlainPlacedView). cond (test x) (f x ∷ []) [] in
    subst (λ ms. LeadTo ms from children to children) (sym (of_each f test xs))
    (lead_same (flat_map g xs) (still from to (host_tags xs)) to from to children children children children
    (still_all from to (host_tags xs) past) (λ q. refl) (λ q. refl) (λ q. refl)
    (lead_views (λ x. x.tag) g from to children Q step xs d each))

-- after the deletes the tags in both are there
pub deletes_lead : (old new : PlainHostTree) → IsHostTree old → IsHostTree new → LeadTo (deletes old new) (view_at old) (kept old new) (view_in_both old new) (kept old new)
deletes_lead old new ho hn =
    lead_filtered (λ placed. delete placed.tag) (λ placed. not (has_tag new placed.tag)) (view_at old) (view_in_both old new) (kept old new) (IsFoundIn old)
    step old ho.tags (all_found old ho)
    (λ q e. elim (has_tag new q) as (λ b. cond b (view_at old q) None ≡ view_at old q) [ true ↦ refl | false ↦ sym (no_view old q (has_tag_among old q ∙ e)) ])
  where
    step : (x : PlainPlacedView) (views : ℕ → Option HostView) → IsFoundIn old x
        → LeadTo (cond (not (has_tag new x.tag)) (delete x.tag ∷ []) []) (changed views x.tag (view_at old x.tag)) (kept old new) (changed views x.tag (view_in_both old new x.tag)) (kept old new)
    step x views found =
        elim (cases_Bool (has_tag new x.tag)) as (λ c. LeadTo (cond (not (has_tag new x.tag)) (delete x.tag ∷ []) []) (changed views x.tag (view_at old x.tag)) (kept old new) (changed views x.tag (view_in_both old new x.tag)) (kept old new)) [
          | inl there ↦ rw there (lead_nowhere _ _ (kept old new) (kept old new) (λ q. refl) (λ q. refl))
          | inr gone ↦
              let low : 1 ≤ x.tag = found.tag in
              let bare : kept old new x.tag ≡ [] = kept_without_new old new x.tag (no_children_of new new x.tag hn.views (λ z. omega arith) gone) in
              let apart : (q : ℕ) → list_any (nat_eq x.tag) (kept old new q) ≡ false = λ q. not_kept old new x.tag q (no_child_of new x.tag q (sym (has_tag_among new x.tag) ∙ gone)) in
              rw (gone, found.view)
              (lead_one (delete x.tag) (changed views x.tag (Some x.view)) (changed views x.tag None) (kept old new) (kept old new)
              (λ registry s. deleted registry views (kept old new) x.tag x.view low bare apart s))
        ]

-- the views of the new tree's tags, the old view where there is one
abbrev pub view_before_updates : (old new : PlainHostTree) → ℕ → Option HostView
view_before_updates old new tag = cond (has_tag new tag) (cond (has_tag old tag) (view_at old tag) (view_at new tag)) None

-- a tag whose view is found is there
found_there : (tree : PlainHostTree) (x : PlainPlacedView) → IsFoundIn tree x → has_tag tree x.tag ≡ true
found_there tree x found = sym (has_tag_by_view tree x.tag) ∙ ap is_some found.view

-- after the creates the new tree's tags are there
pub creates_lead : (old new : PlainHostTree) → IsHostTree old → IsHostTree new → LeadTo (creates old new) (view_in_both old new) (kept old new) (view_before_updates old new) (kept old new)
creates_lead old new ho hn =
    lead_filtered (λ placed. create placed.tag placed.view) (λ placed. not (has_tag old placed.tag)) (view_in_both old new) (view_before_updates old new) (kept old new) (IsFoundIn new)
    step new hn.tags (all_found new hn)
    (λ q e. rw (has_tag_among new q ∙ e) refl)
  where
    step : (x : PlainPlacedView) (views : ℕ → Option HostView) → IsFoundIn new x
        → LeadTo (cond (not (has_tag old x.tag)) (create x.tag x.view ∷ []) []) (changed views x.tag (view_in_both old new x.tag)) (kept old new) (changed views x.tag (view_before_updates old new x.tag)) (kept old new)
    step x views found =
        elim (cases_Bool (has_tag old x.tag)) as (λ c. LeadTo (cond (not (has_tag old x.tag)) (create x.tag x.view ∷ []) []) (changed views x.tag (view_in_both old new x.tag)) (kept old new) (changed views x.tag (view_before_updates old new x.tag)) (kept old new)) [
          | inl there ↦ rw (found_there new x found, there) (lead_nowhere _ _ (kept old new) (kept old new) (λ q. refl) (λ q. refl))
          | inr missing ↦
              let low : 1 ≤ x.tag = found.tag in
              let bare : kept old new x.tag ≡ [] = kept_without_old old new x.tag (no_children_of old old x.tag ho.views (λ z. omega arith) missing) in
              rw (found_there new x found, missing, found.view, no_view old x.tag missing)
              (lead_one (create x.tag x.view) (changed views x.tag None) (changed views x.tag (Some x.view)) (kept old new) (kept old new)
              (λ registry s. created registry views (kept old new) x.tag x.view low bare s))
        ]

-- an update where the views differ
update_where_other : (views : ℕ → Option HostView) (children : ℕ → List ℕ) (tag : ℕ) (was view : HostView) → 1 ≤ tag → was.kind ≡ view.kind
    → LeadTo (cond (not (is_same_view was view)) (update tag view ∷ []) []) (changed views tag (Some was)) children (changed views tag (Some view)) children
update_where_other views children tag was view low kind =
    elim (cases_Bool (is_same_view was view)) as (λ c. LeadTo (cond (not (is_same_view was view)) (update tag view ∷ []) []) (changed views tag (Some was)) children (changed views tag (Some view)) children) [
      | inl same ↦ rw same (lead_nowhere _ _ children children (λ q. ap (λ v. changed views tag (Some v) q) ((same_views was view).0 same)) (λ q. refl))
      | inr other ↦
          rw other
          (lead_one (update tag view) (changed views tag (Some was)) (changed views tag (Some view)) children children (λ registry s. updated registry views children tag was view low kind s))
    ]

-- after the updates each tag has the new view
pub updates_lead : (old new : PlainHostTree) → IsHostTree old → IsHostTree new → HaveOneKind old new
    → LeadTo (updates old new) (view_before_updates old new) (kept old new) (view_at new) (kept old new)
updates_lead old new ho hn one =
    lead_filtered (λ placed. update placed.tag placed.view) (λ placed. is_other_view (view_at old placed.tag) placed.view) (view_before_updates old new) (view_at new) (kept old new) (IsFoundIn new)
    step new hn.tags (all_found new hn)
    (λ q e. rw (has_tag_among new q ∙ e) (no_view new q (has_tag_among new q ∙ e)))
  where
    step : (x : PlainPlacedView) (views : ℕ → Option HostView) → IsFoundIn new x
        → LeadTo (cond (is_other_view (view_at old x.tag) x.view) (update x.tag x.view ∷ []) []) (changed views x.tag (view_before_updates old new x.tag)) (kept old new) (changed views x.tag (view_at new x.tag)) (kept old new)
    step x views found =
        elim (cases_Bool (has_tag old x.tag)) as (λ c. LeadTo (cond (is_other_view (view_at old x.tag) x.view) (update x.tag x.view ∷ []) []) (changed views x.tag (view_before_updates old new x.tag)) (kept old new) (changed views x.tag (view_at new x.tag)) (kept old new)) [
          | inl there ↦
              let known = some_view old x.tag there in
              rw (found_there new x found, there, known.1, found.view)
              (update_where_other views (kept old new) x.tag known.0 x.view found.tag (one x.tag known.0 x.view known.1 found.view))
          | inr missing ↦ rw (found_there new x found, missing, no_view old x.tag missing) (lead_nowhere _ _ (kept old new) (kept old new) (λ q. refl) (λ q. refl))
        ]

-- after the inserts each new parent has its new children
pub inserts_lead : (old new : PlainHostTree) → IsHostTree new
    → LeadTo (flat_map (inserts_at old new) (host_parents new)) (view_at new) (kept old new) (view_at new) (children_at new)
inserts_lead old new hn =
    lead_same (flat_map (inserts_at old new) (host_parents new)) views views views views (still (kept old new) (children_at new) (host_parents new)) (children_at new) (kept old new) (children_at new)
    (λ q. refl) (λ q. refl)
    (still_all (kept old new) (children_at new) (host_parents new) (λ q e. let bare = no_children_past new q hn e in bare ∙ sym (kept_without_new old new q bare)))
    (λ q. refl)
    (lead_parents (inserts_at old new) (kept old new) (children_at new) views (IsParent views) step (host_parents new) (distinct_parents new hn) (all_parents new hn))
  where
    views : ℕ → Option HostView
    views = view_at new

    may_join : (parent : ℕ) (parents : List ℕ) (tag : ℕ) → list_any (nat_eq tag) (children_at new parent) ≡ true
        → MayJoin (view_at new) (still (kept old new) (children_at new) parents) parent tag
    may_join parent parents tag e = record {
      there = some_view new tag (child_there new tag parent e);
      other = child_differs new new tag parent hn.views e;
      apart = still_between (λ q kids. (q ≡ parent → ⊥) → list_any (nat_eq tag) kids ≡ false) (kept old new) (children_at new)
          (λ q n. not_kept old new tag q (one_parent new tag parent q hn.tags e n)) (λ q n. one_parent new tag parent q hn.tags e n) parents;
    }

    step : (parent : ℕ) (parents : List ℕ) → IsParent (view_at new) parent
        → LeadTo (inserts_at old new parent) (view_at new) (changed (still (kept old new) (children_at new) parents) parent (kept old new parent)) (view_at new) (changed (still (kept old new) (children_at new) parents) parent (children_at new parent))
    step parent parents p =
        let rest = still (kept old new) (children_at new) parents in
        let coming = drop (staying old new parent) (children_at new parent) in
        subst (λ kids. LeadTo (inserts_at old new parent) (view_at new) (changed rest parent (kept old new parent)) (view_at new) (changed rest parent kids)) (kept_and_new old new parent)
        (lead_inserts (view_at new) rest parent (staying old new parent) (kept old new parent) coming p (length_kept old new parent)
        (each_after (MayJoin (view_at new) rest parent) (children_at new parent) (may_join parent parents) (staying old new parent))
        (parts_new (kept old new parent) coming (subst (IsDistinct nat_eq) (sym (kept_and_new old new parent)) (distinct_kept (λ placed. nat_eq placed.parent parent) new hn.tags))))
