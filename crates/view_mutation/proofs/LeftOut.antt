-- Views that two host trees have in common may be left out of both.
use Rattle.std.proofs.Common.{◌≡◌, ℕ, suc, List, [], ◌∷◌, ◌++◌, length, map, filter, drop, Bool, true, false, cond, not, ◌&&◌, Some, is_some, nat_eq, refl, ap, sym, ◌∙◌, inl, inr, arith, add-one}
use Rattle.std.specs.List.{AllByRecursion, flat_map}
use Rattle.std.proofs.lemmas.Bool.{and_right, cases_Bool, eq-eqb, eqb-true}
use Rattle.std.proofs.lemmas.List.{drop_all}
use Rattle.host_views.specs.HostTree.{has_tag}
use Rattle.host_views.specs.Plain.{PlainPlacedView, PlainHostTree, PlainMutation, create, delete, update, host_tags, children_at}
use Rattle.host_views.proofs.Same.{same_itself}
use Rattle.view_mutation.specs.Mutations.{common_prefix, removes_from, inserts_from, removes_at, inserts_at, view_at, is_other_view, mutations_between}
use Rattle.view_mutation.specs.Shorthands.{host_parents, deletes, creates, updates}
use Rattle.view_flatten.proofs.Agree.{same_filter}
use Rattle.view_flatten.proofs.Distinct.{each_then}
use Rattle.view_flatten.proofs.Stable.{filter_twice}
use Rattle.view_mutation.proofs.Index.{has_tag_by_view}

-- a list is its own prefix
whole_prefix : (xs : List ℕ) → common_prefix xs xs ≡ length xs
whole_prefix [] = refl
whole_prefix (x ∷ xs) = rw (eq-eqb x x refl, add-one) (ap suc (whole_prefix xs))

-- so that nothing is left of it
nothing_after : (xs ys : List ℕ) → xs ≡ ys → drop (common_prefix xs ys) xs ≡ []
nothing_after xs ys e = ap (λ ys. drop (common_prefix xs ys) xs) (sym e) ∙ drop_all (common_prefix xs xs) xs (omega (arith, whole_prefix xs))

nothing_before : (xs ys : List ℕ) → xs ≡ ys → drop (common_prefix xs ys) ys ≡ []
nothing_before xs ys e = ap (λ xs. drop (common_prefix xs ys) ys) e ∙ drop_all (common_prefix ys ys) ys (omega (arith, whole_prefix ys))

-- a view that a tree has at its tag
abbrev pub IsOwn : PlainHostTree → PlainPlacedView → Type 0
IsOwn tree placed = view_at tree placed.tag ≡ Some placed.view

-- the tags of inner views, whose host parents are closed: below a closed one both trees have the same children, and they have the same views at inner tags
pub record AreLeftOut (closed inner : ℕ → Bool) (old new : PlainHostTree) : Type 0 where
  pub even_old : AllByRecursion (λ placed. closed placed.parent ≡ inner placed.tag) old
  pub even_new : AllByRecursion (λ placed. closed placed.parent ≡ inner placed.tag) new
  pub own_old : AllByRecursion (IsOwn old) old
  pub own_new : AllByRecursion (IsOwn new) new
  pub within : (tag : ℕ) → inner tag ≡ true → closed tag ≡ true
  pub children : (parent : ℕ) → closed parent ≡ true → children_at old parent ≡ children_at new parent
  pub views : (tag : ℕ) → inner tag ≡ true → view_at old tag ≡ view_at new tag

-- a tree without its inner views
abbrev pub without : (ℕ → Bool) → PlainHostTree → PlainHostTree
without inner tree = filter (λ placed. not (inner placed.tag)) tree

module _ (closed inner : ℕ → Bool) where
  -- below a closed host parent there are no children any more, and below each other one the same
  children_without : (tree : PlainHostTree) → AllByRecursion (λ placed. closed placed.parent ≡ inner placed.tag) tree → (parent : ℕ)
      → children_at (without inner tree) parent ≡ cond (closed parent) [] (children_at tree parent)
  children_without tree even parent =
      ap host_tags
      (filter_twice (λ placed. nat_eq placed.parent parent) (λ placed. not (inner placed.tag)) tree
      ∙ same_filter (λ placed. not (inner placed.tag) && nat_eq placed.parent parent) (λ placed. not (closed parent) && nat_eq placed.parent parent) tree
      (each_then (λ (placed : PlainPlacedView). closed placed.parent ≡ inner placed.tag)
      (λ placed. (not (inner placed.tag) && nat_eq placed.parent parent) ≡ (not (closed parent) && nat_eq placed.parent parent)) by_parent tree even))
      ∙ whole (closed parent)
    where
      by_parent : (placed : PlainPlacedView) → closed placed.parent ≡ inner placed.tag → (not (inner placed.tag) && nat_eq placed.parent parent) ≡ (not (closed parent) && nat_eq placed.parent parent)
      by_parent placed e =
          elim (cases_Bool (nat_eq placed.parent parent)) [
            | inl child ↦ ap (λ b. not b && nat_eq placed.parent parent) (sym e ∙ ap closed (eqb-true placed.parent parent child))
            | inr other ↦ and_right (not (inner placed.tag)) (nat_eq placed.parent parent) other ∙ sym (and_right (not (closed parent)) (nat_eq placed.parent parent) other)
          ]

      nothing : (tree : PlainHostTree) → filter (λ placed. false) tree ≡ []
      nothing [] = refl
      nothing (placed ∷ tree) = nothing tree

      whole : (b : Bool) → host_tags (filter (λ placed. not b && nat_eq placed.parent parent) tree) ≡ cond b [] (children_at tree parent)
      whole true = ap host_tags (nothing tree)
      whole false = refl

  -- a tag that is not inner has the same view
  view_without : (tag : ℕ) → inner tag ≡ false → (tree : PlainHostTree) → view_at (without inner tree) tag ≡ view_at tree tag
  view_without tag e [] = refl
  view_without tag e (placed ∷ others) =
      elim (cases_Bool (nat_eq placed.tag tag)) [
        | inl here ↦
            let stays : inner placed.tag ≡ false = ap inner (eqb-true placed.tag tag here) ∙ e in
            ap (λ b. view_at (cond (not b) (placed ∷ without inner others) (without inner others)) tag) stays
            ∙ ap (λ b. cond b (Some placed.view) (view_at (without inner others) tag)) here ∙ sym (ap (λ b. cond b (Some placed.view) (view_at others tag)) here)
        | inr other ↦
            past (inner placed.tag) other ∙ view_without tag e others ∙ sym (ap (λ b. cond b (Some placed.view) (view_at others tag)) other)
      ]
    where
      past : (b : Bool) → nat_eq placed.tag tag ≡ false → view_at (cond (not b) (placed ∷ without inner others) (without inner others)) tag ≡ view_at (without inner others) tag
      past true other = refl
      past false other = ap (λ b. cond b (Some placed.view) (view_at (without inner others) tag)) other

  -- what is kept by a test, where inner views do not pass and the others pass alike
  same_without : (p q : PlainPlacedView → Bool) (tree : PlainHostTree)
      → AllByRecursion (λ placed. (inner placed.tag ≡ true → p placed ≡ false) × (inner placed.tag ≡ false → q placed ≡ p placed)) tree → filter q (without inner tree) ≡ filter p tree
  same_without p q tree h =
      filter_twice q (λ placed. not (inner placed.tag)) tree
      ∙ same_filter (λ placed. not (inner placed.tag) && q placed) p tree
      (each_then (λ (placed : PlainPlacedView). (inner placed.tag ≡ true → p placed ≡ false) × (inner placed.tag ≡ false → q placed ≡ p placed)) (λ placed. (not (inner placed.tag) && q placed) ≡ p placed)
      (λ placed k. by_inner placed k (inner placed.tag) refl) tree h)
    where
      by_inner : (placed : PlainPlacedView) → (inner placed.tag ≡ true → p placed ≡ false) × (inner placed.tag ≡ false → q placed ≡ p placed) → (b : Bool) → inner placed.tag ≡ b
          → (not b && q placed) ≡ p placed
      by_inner placed k true e = sym (k.0 e)
      by_inner placed k false e = k.1 e

  -- what host parents give, where inner ones give nothing
  same_parents : (f g : ℕ → List PlainMutation) → ((parent : ℕ) → g parent ≡ f parent) → (tree : PlainHostTree) → ((tag : ℕ) → inner tag ≡ true → f tag ≡ [])
      → flat_map g (host_parents (without inner tree)) ≡ flat_map f (host_parents tree)
  same_parents f g same tree nothing = (λ i. flat_map (λ parent. same parent i) (host_parents (without inner tree))) ∙ ap (λ r. f 0 ++ r) (others tree)
    where
      others : (tree : PlainHostTree) → flat_map f (host_tags (without inner tree)) ≡ flat_map f (host_tags tree)
      others [] = refl
      others (placed ∷ tree) =
          elim (cases_Bool (inner placed.tag)) [
            | inl gone ↦
                ap (λ b. flat_map f (host_tags (cond (not b) (placed ∷ without inner tree) (without inner tree)))) gone ∙ others tree
                ∙ ap (λ r. r ++ flat_map f (host_tags tree)) (sym (nothing placed.tag gone))
            | inr stays ↦
                ap (λ b. flat_map f (host_tags (cond (not b) (placed ∷ without inner tree) (without inner tree)))) stays ∙ ap (λ r. f placed.tag ++ r) (others tree)
          ]

  module _ (old new : PlainHostTree) (h : AreLeftOut closed inner old new) where
    no_removes : (parent : ℕ) → closed parent ≡ true → removes_at old new parent ≡ []
    no_removes parent e =
        ap (removes_from parent (common_prefix (children_at old parent) (children_at new parent))) (nothing_after (children_at old parent) (children_at new parent) (h.children parent e))

    no_inserts : (parent : ℕ) → closed parent ≡ true → inserts_at old new parent ≡ []
    no_inserts parent e =
        ap (inserts_from parent (common_prefix (children_at old parent) (children_at new parent))) (nothing_before (children_at old parent) (children_at new parent) (h.children parent e))

    same_removes_at : (parent : ℕ) → removes_at (without inner old) (without inner new) parent ≡ removes_at old new parent
    same_removes_at parent =
        (λ i. by_children (children_without old h.even_old parent i) (children_without new h.even_new parent i)) ∙ by_closed (closed parent) refl
      where
        by_children : List ℕ → List ℕ → List PlainMutation
        by_children xs ys = removes_from parent (common_prefix xs ys) (drop (common_prefix xs ys) xs)

        by_closed : (b : Bool) → closed parent ≡ b → by_children (cond b [] (children_at old parent)) (cond b [] (children_at new parent)) ≡ removes_at old new parent
        by_closed true e = ap (removes_from parent 0) (nothing_after [] [] refl) ∙ sym (no_removes parent e)
        by_closed false e = refl

    same_inserts_at : (parent : ℕ) → inserts_at (without inner old) (without inner new) parent ≡ inserts_at old new parent
    same_inserts_at parent =
        (λ i. by_children (children_without old h.even_old parent i) (children_without new h.even_new parent i)) ∙ by_closed (closed parent) refl
      where
        by_children : List ℕ → List ℕ → List PlainMutation
        by_children xs ys = inserts_from parent (common_prefix xs ys) (drop (common_prefix xs ys) ys)

        by_closed : (b : Bool) → closed parent ≡ b → by_children (cond b [] (children_at old parent)) (cond b [] (children_at new parent)) ≡ inserts_at old new parent
        by_closed true e = ap (inserts_from parent 0) (nothing_before [] [] refl) ∙ sym (no_inserts parent e)
        by_closed false e = refl

    -- a tag is there in the one tree as in the whole one
    same_has_tag : (tag : ℕ) → inner tag ≡ false → (tree : PlainHostTree) → has_tag (without inner tree) tag ≡ has_tag tree tag
    same_has_tag tag e tree = sym (has_tag_by_view (without inner tree) tag) ∙ ap is_some (view_without tag e tree) ∙ has_tag_by_view tree tag

    same_deletes : deletes (without inner old) (without inner new) ≡ deletes old new
    same_deletes =
        ap (map (λ placed. delete placed.tag))
        (same_without (λ placed. not (has_tag new placed.tag)) (λ placed. not (has_tag (without inner new) placed.tag)) old
        (each_then (IsOwn old) (λ placed. (inner placed.tag ≡ true → not (has_tag new placed.tag) ≡ false) × (inner placed.tag ≡ false → not (has_tag (without inner new) placed.tag) ≡ not (has_tag new placed.tag)))
        (λ placed own. (
          (λ e. ap not (sym (has_tag_by_view new placed.tag) ∙ ap is_some (sym (h.views placed.tag e) ∙ own))),
          (λ e. ap not (same_has_tag placed.tag e new)),
        )) old h.own_old))

    same_creates : creates (without inner old) (without inner new) ≡ creates old new
    same_creates =
        ap (map (λ placed. create placed.tag placed.view))
        (same_without (λ placed. not (has_tag old placed.tag)) (λ placed. not (has_tag (without inner old) placed.tag)) new
        (each_then (IsOwn new) (λ placed. (inner placed.tag ≡ true → not (has_tag old placed.tag) ≡ false) × (inner placed.tag ≡ false → not (has_tag (without inner old) placed.tag) ≡ not (has_tag old placed.tag)))
        (λ placed own. (
          (λ e. ap not (sym (has_tag_by_view old placed.tag) ∙ ap is_some (h.views placed.tag e ∙ own))),
          (λ e. ap not (same_has_tag placed.tag e old)),
        )) new h.own_new))

    same_updates : updates (without inner old) (without inner new) ≡ updates old new
    same_updates =
        ap (map (λ placed. update placed.tag placed.view))
        (same_without (λ placed. is_other_view (view_at old placed.tag) placed.view) (λ placed. is_other_view (view_at (without inner old) placed.tag) placed.view) new
        (each_then (IsOwn new) (λ placed. (inner placed.tag ≡ true → is_other_view (view_at old placed.tag) placed.view ≡ false)
        × (inner placed.tag ≡ false → is_other_view (view_at (without inner old) placed.tag) placed.view ≡ is_other_view (view_at old placed.tag) placed.view))
        (λ placed own. (
          (λ e. ap (λ was. is_other_view was placed.view) (h.views placed.tag e ∙ own) ∙ ap not (same_itself placed.view)),
          (λ e. ap (λ was. is_other_view was placed.view) (view_without placed.tag e old)),
        )) new h.own_new))

    -- the mutations are those between the trees without their inner views
    pub same_mutations : mutations_between (without inner old) (without inner new) ≡ mutations_between old new
    same_mutations =
        let removes = same_parents (removes_at old new) (removes_at (without inner old) (without inner new)) same_removes_at old (λ tag e. no_removes tag (h.within tag e)) in
        let inserts = same_parents (inserts_at old new) (inserts_at (without inner old) (without inner new)) same_inserts_at new (λ tag e. no_inserts tag (h.within tag e)) in
        λ i. removes i ++ same_deletes i ++ same_creates i ++ same_updates i ++ inserts i
