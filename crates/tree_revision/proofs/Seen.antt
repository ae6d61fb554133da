-- What is seen of a tag in a forest, and that each node of a forest is what is seen of its tag.
use Rattle.std.proofs.Common.{◌≡◌, ℕ, List, [], ◌∷◌, ◌++◌, Bool, true, false, cond, not, ◌&&◌, ◌||◌, Option, Some, None, is_some, nat_eq, refl, ap, sym, ◌∙◌, subst}
use Rattle.std.specs.List.{IsDistinct, list_any, find}
use Rattle.std.specs.Option.{option_map, option_or}
use Rattle.std.proofs.lemmas.Bool.{eq-eqb, ne_eqb}
use Rattle.std.proofs.lemmas.List.Folds.{find-append}
use Rattle.shadow_kinds.specs.Traits.{is_hidden_of}
use Rattle.shadow_node.specs.Forest.{PlainForest, none, node, PlainNode}
use Rattle.shadow_node.specs.Fields.{SettledFields}
use Rattle.shadow_node.specs.Find.{first_settled}
use Rattle.shadow_node.specs.Shown.{Descendant, descendants_below, is_shown}
use Rattle.shadow_node.specs.Seen.{shown_in, sight_of}
use Rattle.clone_path.proofs.Tags.{all_tags, all_tags-node, each_in_first, each_in_second, IsNone, none_found, found_apart}
use Rattle.clone_path.proofs.OneNode.{differ_below}
use Rattle.tree_revision.specs.Unchanged.{SeenNode, shown_here, seen_below, AreSeenIn}

-- the node that is seen, and whether it is shown
abbrev tree_of : Option SeenNode → Option (PlainNode SettledFields)
tree_of = option_map (λ seen. seen.tree)

abbrev shown_of : Option SeenNode → Option Bool
shown_of = option_map (λ seen. seen.shown)

-- the first of two answers, mapped
mapped_or : {A B : Type 0} (f : A → B) (a b : Option A) → option_map f (option_or a b) ≡ option_or (option_map f a) (option_map f b)
mapped_or f None b = refl
mapped_or f (Some x) b = refl

-- the node that is seen is the first one
pub tree_seen : (above : Bool) (tag : ℕ) (forest : PlainForest SettledFields) → tree_of (seen_below above tag forest) ≡ first_settled tag forest
tree_seen above tag none = refl
tree_seen above tag (node f k s) =
    let here = shown_here above f in
    elim (nat_eq f.fields.tag tag) as (λ b. tree_of (cond b (Some (record { tree = record { fields = f; children = k }; shown = here })) (option_or (seen_below here tag k) (seen_below above tag s)))
    ≡ cond b (Some (record { fields = f; children = k })) (option_or (first_settled tag k) (first_settled tag s))) [
      | true ↦ refl
      | false ↦ mapped_or (λ seen. seen.tree) (seen_below here tag k) (seen_below above tag s) ∙ (λ i. option_or (tree_seen here tag k i) (tree_seen above tag s i))
    ]

-- none of the ancestors is hidden
abbrev all_shown : List SettledFields → Bool
all_shown above = not (list_any (λ settled. is_hidden_of settled.fields.props) above)

-- it is shown where neither it nor an ancestor is hidden
shown_one_more : (hidden any : Bool) → not (hidden || any) ≡ (not any && not hidden)
shown_one_more true true = refl
shown_one_more true false = refl
shown_one_more false true = refl
shown_one_more false false = refl

-- and it is shown where it is said to be
shown_seen_below : (above : List SettledFields) (tag : ℕ) (forest : PlainForest SettledFields)
    → option_map is_shown (find (λ here. nat_eq here.settled.fields.tag tag) (descendants_below above forest)) ≡ shown_of (seen_below (all_shown above) tag forest)
shown_seen_below above tag none = refl
shown_seen_below above tag (node f k s) =
    let is_here : Descendant → Bool = λ here. nat_eq here.settled.fields.tag tag in
    let one : all_shown (f ∷ above) ≡ shown_here (all_shown above) f = shown_one_more (is_hidden_of f.fields.props) (list_any (λ settled. is_hidden_of settled.fields.props) above) in
    elim (nat_eq f.fields.tag tag) as (λ b. option_map is_shown (cond b (Some (record { settled = f; above = above })) (find is_here (descendants_below (f ∷ above) k ++ descendants_below above s)))
    ≡ shown_of (cond b (Some (record { tree = record { fields = f; children = k }; shown = shown_here (all_shown above) f })) (option_or (seen_below (shown_here (all_shown above) f) tag k) (seen_below (all_shown above) tag s)))) [
      | true ↦ ap Some one
      | false ↦ ap (option_map is_shown) (find-append is_here (descendants_below (f ∷ above) k) (descendants_below above s))
          ∙ mapped_or is_shown (find is_here (descendants_below (f ∷ above) k)) (find is_here (descendants_below above s))
          ∙ (λ i. option_or (shown_seen_below (f ∷ above) tag k i) (shown_seen_below above tag s i))
          ∙ ap (λ shown. option_or (shown_of (seen_below shown tag k)) (shown_of (seen_below (all_shown above) tag s))) one
          ∙ sym (mapped_or (λ seen. seen.shown) (seen_below (shown_here (all_shown above) f) tag k) (seen_below (all_shown above) tag s))
    ]

pub shown_seen : (tag : ℕ) (forest : PlainForest SettledFields) → shown_in forest tag ≡ shown_of (seen_below true tag forest)
shown_seen tag forest = shown_seen_below [] tag forest

-- where the same is seen of a tag, a mount sees the same
pub same_sights : (tag : ℕ) (old new : PlainForest SettledFields) → seen_below true tag old ≡ seen_below true tag new → sight_of old tag ≡ sight_of new tag
same_sights tag old new same =
    let tree : first_settled tag old ≡ first_settled tag new = sym (tree_seen true tag old) ∙ ap tree_of same ∙ tree_seen true tag new in
    let shown : shown_in old tag ≡ shown_in new tag = shown_seen tag old ∙ ap shown_of same ∙ sym (shown_seen tag new) in
    λ i. record { tree = tree i; shown = shown i }

-- where a mount sees the same, the nodes that are seen are equal, and shown alike
pub same_seen : (tag : ℕ) (old new : PlainForest SettledFields) (was is : SeenNode) → seen_below true tag old ≡ Some was → seen_below true tag new ≡ Some is
    → sight_of old tag ≡ sight_of new tag → (was.tree ≡ is.tree) × (was.shown ≡ is.shown)
same_seen tag old new was is e f same =
    let tree : Some was.tree ≡ Some is.tree = sym (ap tree_of e) ∙ tree_seen true tag old ∙ ap (λ sight. sight.tree) same ∙ sym (tree_seen true tag new) ∙ ap tree_of f in
    let shown : Some was.shown ≡ Some is.shown = sym (ap shown_of e) ∙ sym (shown_seen tag old) ∙ ap (λ sight. sight.shown) same ∙ shown_seen tag new ∙ ap shown_of f in
    (cc, cc)

-- a node that is seen is there
some_of_tree : (seen : Option SeenNode) → is_some (tree_of seen) ≡ is_some seen
some_of_tree None = refl
some_of_tree (Some seen) = refl

pub is_some_seen : (above : Bool) (tag : ℕ) (forest : PlainForest SettledFields) → is_some (seen_below above tag forest) ≡ is_some (first_settled tag forest)
is_some_seen above tag forest = sym (some_of_tree (seen_below above tag forest)) ∙ ap is_some (tree_seen above tag forest)

-- nothing is seen where nothing is there
none_is : {A : Type 0} (o : Option A) → is_some o ≡ false → o ≡ None
none_is None e = refl
none_is (Some x) e = absurd cc

-- the second of two answers, where the first is none
pub second_of : {A : Type 0} (a b : Option A) → is_some a ≡ false → option_or a b ≡ b
second_of a b e = ap (λ a. option_or a b) (none_is a e)

-- the first node is seen
seen_first : (above : Bool) (f : SettledFields) (k s : PlainForest SettledFields)
    → seen_below above f.fields.tag (node f k s) ≡ Some (record { tree = record { fields = f; children = k }; shown = shown_here above f })
seen_first above f k s = rw (eq-eqb f.fields.tag f.fields.tag refl) refl

-- what is seen below the first node, where its own tag is another
pub seen_later : (above : Bool) (tag : ℕ) (f : SettledFields) (k s : PlainForest SettledFields) → nat_eq f.fields.tag tag ≡ false
    → seen_below above tag (node f k s) ≡ option_or (seen_below (shown_here above f) tag k) (seen_below above tag s)
seen_later above tag f k s other = rw other refl

-- a tag that is found in a forest is another than one that is none of its tags
other_than : (above : Bool) (here tag : ℕ) (forest : PlainForest SettledFields) (found : SeenNode) → seen_below above tag forest ≡ Some found
    → IsNone here (all_tags forest) → nat_eq here tag ≡ false
other_than above here tag forest found e absent =
    ne_eqb here tag (λ same.
    let there : is_some (first_settled tag forest) ≡ true = sym (is_some_seen above tag forest) ∙ ap is_some e in
    let gone : is_some (first_settled here forest) ≡ false = none_found here forest absent in
    let both : is_some (first_settled tag forest) ≡ false = subst (λ t. is_some (first_settled t forest) ≡ false) same gone in
    cc)

-- a part of a forest whose tags differ is seen in a whole one, where what is seen in the part is
parts_seen : (whole : PlainForest SettledFields) (above : Bool) (forest : PlainForest SettledFields) → IsDistinct nat_eq (all_tags forest)
    → ((tag : ℕ) (found : SeenNode) → seen_below above tag forest ≡ Some found → seen_below true tag whole ≡ Some found) → AreSeenIn whole above forest
unfolding IsDistinct
parts_seen whole above none differ in_whole = tt
parts_seen whole above (node f k s) differ in_whole =
    let here = shown_here above f in
    let parts = differ_below f k s differ in
    let all : IsDistinct nat_eq (f.fields.tag ∷ all_tags k ++ all_tags s) = subst (IsDistinct nat_eq) (all_tags-node f k s) differ in (
      in_whole f.fields.tag _ (seen_first above f k s),
      parts_seen whole here k parts.0
          (λ tag found e. in_whole tag found
          (seen_later above tag f k s (other_than here f.fields.tag tag k found e (in_first f.fields.tag (all_tags k) (all_tags s) all.0)) ∙ ap (λ a. option_or a (seen_below above tag s)) e)),
      parts_seen whole above s parts.1
          (λ tag found e. in_whole tag found
          (seen_later above tag f k s (other_than above f.fields.tag tag s found e (in_second f.fields.tag (all_tags k) (all_tags s) all.0))
          ∙ second_of (seen_below here tag k) (seen_below above tag s) (is_some_seen here tag k ∙ apart tag k s found above e all.1) ∙ e)),
    )
  where
    in_first : (t : ℕ) (xs ys : List ℕ) → IsNone t (xs ++ ys) → IsNone t xs
    in_first t xs ys = each_in_first (λ y. nat_eq t y ≡ false) xs ys

    in_second : (t : ℕ) (xs ys : List ℕ) → IsNone t (xs ++ ys) → IsNone t ys
    in_second t xs ys = each_in_second (λ y. nat_eq t y ≡ false) xs ys

    -- a tag that is found after a tree is not found in it
    apart : (tag : ℕ) (k s : PlainForest SettledFields) (found : SeenNode) (above : Bool) → seen_below above tag s ≡ Some found → IsDistinct nat_eq (all_tags k ++ all_tags s)
        → is_some (first_settled tag k) ≡ false
    apart tag k s found above e differ = elim (is_some (first_settled tag k)) as (λ b. is_some (first_settled tag k) ≡ b → is_some (first_settled tag k) ≡ false) [
      | true ↦ λ there. let not_after = none_found tag s (found_apart tag k (all_tags s) there differ) in
          let after : is_some (first_settled tag s) ≡ true = sym (is_some_seen above tag s) ∙ ap is_some e in absurd cc
      | false ↦ λ gone. gone
    ] refl

-- each node of a forest whose tags differ is what is seen of its tag
pub all_seen : (forest : PlainForest SettledFields) → IsDistinct nat_eq (all_tags forest) → AreSeenIn forest true forest
all_seen forest differ = parts_seen forest true forest differ (λ tag found e. e)
