-- The host ancestors of a view, as they are found among the views before it, are those of its node.
use Rattle.std.proofs.Common.{◌≡◌, ◌⊎◌, ◌≤◌, ℕ, zero, suc, List, [], ◌∷◌, ◌++◌, Bool, true, false, cond, ◌||◌, length, nat_eq, refl, ap, sym, ◌∙◌, subst, inl, inr, arith}
use Rattle.std.proofs.lemmas.Bool.{eq-eqb, eqb-true, ne_eqb, or_cases, or_left, or_right}
use Rattle.std.specs.List.{AllByRecursion, IsDistinct, flat_map}
use Rattle.std.specs.Prelude.{Contains}
use Rattle.shadow_node.specs.Forest.{PlainForest}
use Rattle.shadow_node.specs.Fields.{SettledFields, contents_of, tags_of}
use Rattle.shadow_node.specs.Shown.{Descendant, descendants}
use Rattle.host_views.specs.HostTree.{has_tag}
use Rattle.host_views.specs.Plain.{PlainPlacedView, PlainHostTree, host_tags}
use Rattle.view_flatten.specs.HostTree.{host_parent, host_tree_of, placed_below, viewed, views_below}
use Rattle.view_flatten.specs.Places.{placed_at}
use Rattle.view_flatten.proofs.Below.{IsChild, children_below}
use Rattle.view_flatten.proofs.Distinct.{each_of_two, each_then}
use Rattle.view_flatten.proofs.Lines.{IsLined, IsOwnLine, each_own_line, line_in, line_of_tag, tags_below, viewed_lined}
use Rattle.view_flatten.proofs.Order.{each_kept, tag_at, tags_at}
use Rattle.view_flatten.proofs.Shorthands.{has_view}
use Rattle.view_flatten.proofs.Viewed.{IsIn, contained, each_in}
use Rattle.view_flatten.proofs.Views.{each_placed_view}
use Rattle.tree_query.specs.HostLines.{HaveLinesOfNodes, tags_of_contexts}
use Rattle.tree_query.specs.Topmost.{host_line}

-- a tag is that of the root, or of one of some views
abbrev IsKnown : PlainHostTree → ℕ → Type 0
IsKnown earlier tag = (nat_eq tag 0 || has_tag earlier tag) ≡ true

-- all tags of some views are tags of others
abbrev HasAllOf : (more earlier : PlainHostTree) → Type 0
HasAllOf more earlier = (tag : ℕ) → has_tag earlier tag ≡ true → has_tag more tag ≡ true

-- each view stands behind its host parent
abbrev AreBehindParents : (earlier : PlainHostTree) → PlainHostTree → Type 0
AreBehindParents earlier [] = Unit {0}
AreBehindParents earlier (placed ∷ others) = IsKnown earlier placed.parent × AreBehindParents (placed ∷ earlier) others

still_known : (earlier more : PlainHostTree) (tag : ℕ) → HasAllOf more earlier → IsKnown earlier tag → IsKnown more tag
still_known earlier more tag all e =
    elim (or_cases (nat_eq tag 0) (has_tag earlier tag) e) [
      | inl root ↦ or_left (nat_eq tag 0) (has_tag more tag) root
      | inr there ↦ or_right (nat_eq tag 0) (has_tag more tag) (all tag there)
    ]

one_more : (placed : PlainPlacedView) (earlier : PlainHostTree) → HasAllOf (placed ∷ earlier) earlier
one_more placed earlier tag e = or_right (nat_eq placed.tag tag) (has_tag earlier tag) e

both_more : (placed : PlainPlacedView) (earlier more : PlainHostTree) → HasAllOf more earlier → HasAllOf (placed ∷ more) (placed ∷ earlier)
both_more placed earlier more all tag e =
    elim (or_cases (nat_eq placed.tag tag) (has_tag earlier tag) e) [
      | inl own ↦ or_left (nat_eq placed.tag tag) (has_tag more tag) own
      | inr there ↦ or_right (nat_eq placed.tag tag) (has_tag more tag) (all tag there)
    ]

behind_more : (earlier more xs : PlainHostTree) → HasAllOf more earlier → AreBehindParents earlier xs → AreBehindParents more xs
behind_more earlier more [] all h = tt
behind_more earlier more (x ∷ xs) all h = (still_known earlier more x.parent all h.0, behind_more (x ∷ earlier) (x ∷ more) xs (both_more x earlier more all) h.1)

behind_both : (earlier xs ys : PlainHostTree) → AreBehindParents earlier xs → AreBehindParents earlier ys → AreBehindParents earlier (xs ++ ys)
behind_both earlier [] ys h k = k
behind_both earlier (x ∷ xs) ys h k = (h.0, behind_both (x ∷ earlier) xs ys h.1 (behind_more earlier (x ∷ earlier) ys (one_more x earlier) k))

-- a view is known behind itself
known_itself : (placed : PlainPlacedView) (earlier : PlainHostTree) → IsKnown (placed ∷ earlier) placed.tag
known_itself placed earlier =
    or_right (nat_eq placed.tag 0) (has_tag (placed ∷ earlier) placed.tag) (or_left (nat_eq placed.tag placed.tag) (has_tag earlier placed.tag) (eq-eqb placed.tag placed.tag refl))

behind_blocks : (line : ℕ → List ℕ) (levels : ℕ) (nodes : List Descendant) (parent : ℕ)
    → ((q : ℕ) (earlier : PlainHostTree) → IsKnown earlier q → AreBehindParents earlier (views_below levels nodes q))
    → (children earlier : PlainHostTree) → AllByRecursion (IsChild line parent) children → IsKnown earlier parent
    → AreBehindParents earlier (flat_map (λ placed. placed ∷ views_below levels nodes placed.tag) children)
behind_blocks line levels nodes parent inside [] earlier h k = tt
behind_blocks line levels nodes parent inside (child ∷ children) earlier h k =
    let inner = views_below levels nodes child.tag in
    let rest = flat_map (λ placed. placed ∷ views_below levels nodes placed.tag) children in (
      subst (IsKnown earlier) (sym h.0.parent_is) k,
      behind_both (child ∷ earlier) inner rest (inside child.tag (child ∷ earlier) (known_itself child earlier))
          (behind_more earlier (child ∷ earlier) rest (one_more child earlier) (behind_blocks line levels nodes parent inside children earlier h.1 k)),
    )

all_behind : (line : ℕ → List ℕ) (levels : ℕ) (nodes : List Descendant) → AllByRecursion (IsLined line) nodes → (parent : ℕ) (earlier : PlainHostTree) → IsKnown earlier parent
    → AreBehindParents earlier (views_below levels nodes parent)
all_behind line zero nodes lined parent earlier k = tt
all_behind line (suc levels) nodes lined parent earlier k =
    behind_blocks line levels nodes parent (all_behind line levels nodes lined) (placed_below nodes parent) earlier (children_below line nodes parent lined) k

-- the line of each known tag is found among some views
abbrev AreLinesFound : (ℕ → List ℕ) → PlainHostTree → Type 0
AreLinesFound line earlier = (tag : ℕ) → IsKnown earlier tag → host_tags (host_line earlier tag) ≡ line tag

is_or_not : (b : Bool) → (b ≡ true) ⊎ (b ≡ false)
is_or_not true = inl refl
is_or_not false = inr refl

found_more : (line : ℕ → List ℕ) (placed : PlainPlacedView) (earlier : PlainHostTree) → line placed.tag ≡ placed.tag ∷ line placed.parent → AreLinesFound line earlier
    → IsKnown earlier placed.parent → AreLinesFound line (placed ∷ earlier)
found_more line placed earlier own h k tag e =
    let found : Bool → List ℕ = λ b. host_tags (cond b (placed ∷ host_line earlier placed.parent) (host_line earlier tag)) in
    elim (is_or_not (nat_eq placed.tag tag)) [
      | inl is ↦ ap found is ∙ ap (λ rest. placed.tag ∷ rest) (h placed.parent k) ∙ sym own ∙ ap line (eqb-true placed.tag tag is)
      | inr isnt ↦ ap found isnt ∙ h tag (subst (λ b. (nat_eq tag 0 || (b || has_tag earlier tag)) ≡ true) isnt e)
    ]

-- a view with its node, whose ancestors that form a context are the line of its host parent
record IsLinedView (line : ℕ → List ℕ) (nodes : List Descendant) (placed : PlainPlacedView) : Type 0 where
  here : Descendant
  among : Contains nodes here
  same : placed ≡ placed_at placed.index here
  own : line placed.tag ≡ placed.tag ∷ line placed.parent
  above : line placed.parent ≡ tags_of_contexts here.above

lines_of_nodes : (line : ℕ → List ℕ) (nodes : List Descendant) (earlier xs : PlainHostTree) → AreLinesFound line earlier → AllByRecursion (IsLinedView line nodes) xs
    → AreBehindParents earlier xs → HaveLinesOfNodes nodes earlier xs
lines_of_nodes line nodes earlier [] found h k = tt
lines_of_nodes line nodes earlier (x ∷ xs) found h k = (
  record { here = h.0.here; among = h.0.among; same = h.0.same; line = found x.parent k.0 ∙ h.0.above },
  lines_of_nodes line nodes (x ∷ earlier) xs (found_more line x earlier h.0.own found k.0) h.1 k.1,
)

-- lists that are equal are so behind their first elements
tail_of : List ℕ → List ℕ
tail_of [] = []
tail_of (x ∷ xs) = xs

same_tail : (x : ℕ) (xs ys : List ℕ) → x ∷ xs ≡ x ∷ ys → xs ≡ ys
unfolding tail_of
same_tail x xs ys e = ap tail_of e

-- the root has no line
no_root : (nodes : List Descendant) → AllByRecursion (λ tag. 1 ≤ tag) (tags_at nodes) → line_in nodes 0 ≡ []
no_root [] h = refl
no_root (here ∷ others) h =
    let low : 1 ≤ tag_at here = h.0 in
    rw (ne_eqb (tag_at here) 0 (λ e. omega arith)) (no_root others h.1)

-- the host ancestors of each view are its node's
pub each_line : (forest : PlainForest SettledFields) → IsDistinct nat_eq (tags_of (contents_of forest)) → AllByRecursion (λ tag. 1 ≤ tag) (tags_of (contents_of forest))
    → HaveLinesOfNodes (viewed forest) [] (host_tree_of forest)
each_line forest distinct low = lines_of_nodes line nodes [] (host_tree_of forest) none_found each (all_behind line (length nodes) nodes lined 0 [] refl)
  where
    nodes : List Descendant
    nodes = viewed forest

    line : ℕ → List ℕ
    line = line_of_tag forest

    lined : AllByRecursion (IsLined line) nodes
    lined = viewed_lined forest distinct low

    own : AllByRecursion (IsOwnLine line) nodes
    own = each_kept (IsOwnLine line) has_view (descendants forest) (each_own_line forest distinct)

    none_found : AreLinesFound line []
    none_found tag e =
        elim (or_cases (nat_eq tag 0) false e) [
          | inl root ↦ sym (ap line (eqb-true tag 0 root) ∙ no_root (descendants forest) (subst (AllByRecursion (λ tag. 1 ≤ tag)) (sym (tags_below [] forest)) low))
          | inr there ↦ cc
        ]

    placed_is_lined : (here : Descendant) → (IsLined line here × IsOwnLine line here) × IsIn here nodes → (index : ℕ) → IsLinedView line nodes (placed_at index here)
    placed_is_lined here h index = record {
      here = here;
      among = contained here nodes h.1;
      same = refl;
      own = h.0.0.line_is;
      above = same_tail (tag_at here) (line (host_parent here.above)) (tags_of_contexts here.above) (sym h.0.0.line_is ∙ h.0.1);
    }

    each : AllByRecursion (IsLinedView line nodes) (host_tree_of forest)
    each =
        each_placed_view (IsLinedView line nodes) forest
        (each_then (λ here. (IsLined line here × IsOwnLine line here) × IsIn here nodes) (λ here. (index : ℕ) → IsLinedView line nodes (placed_at index here)) placed_is_lined nodes
        (each_of_two (λ here. IsLined line here × IsOwnLine line here) (λ here. IsIn here nodes) nodes (each_of_two (IsLined line) (IsOwnLine line) nodes lined own) (each_in nodes nodes (λ x i. i))))
