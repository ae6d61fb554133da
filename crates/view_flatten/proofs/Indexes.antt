-- Where a node stands among the children of its host parent: after the earlier ones with no greater z, and after the later ones with a lower z.
use Rattle.std.proofs.Common.{◌≡◌, ◌+◌, ℕ, suc, List, [], ◌∷◌, ◌++◌, length, filter, Bool, true, false, cond, not, ◌&&◌, Contains, refl, ap, sym, ◌∙◌, subst, inl, inr, arith}
use Rattle.std.specs.Prelude.{ℤ, int_lt}
use Rattle.std.specs.List.{AllByRecursion}
use Rattle.std.proofs.lemmas.Bool.{cases_Bool, eq-eqb}
use Rattle.std.proofs.lemmas.Int.{ints}
use Rattle.std.proofs.lemmas.List.Elements.{filter-append}
use Rattle.std.proofs.lemmas.List.Sums.{length-filter}
use Rattle.shadow_kinds.specs.Axes.{z_order_of}
use Rattle.shadow_node.specs.Forest.{PlainForest}
use Rattle.shadow_node.specs.Fields.{SettledFields}
use Rattle.shadow_node.specs.Shown.{Descendant}
use Rattle.view_flatten.specs.HostTree.{host_parent, put_by_z, by_z, viewed, view_of, placed_from, placed_below, host_tree_of}
use Rattle.view_flatten.specs.Places.{placed_at, count_below_z, count_up_to_z}
use Rattle.view_flatten.proofs.Shorthands.{is_child_of}
use Rattle.view_flatten.proofs.Agree.{none_kept}
use Rattle.view_flatten.proofs.Children.{children_part}
use Rattle.view_flatten.proofs.Distinct.{each_then}
use Rattle.view_flatten.proofs.Order.{tag_at, each_put}
use Rattle.view_flatten.proofs.Stable.{filter_twice}
use Rattle.view_flatten.proofs.Viewed.{IsIn, contained, in_part}

-- a node has a lower z than another one
abbrev is_lower : Descendant → Descendant → Bool
is_lower other here = int_lt (z_order_of other.settled.fields.props) (z_order_of here.settled.fields.props)

not_both : (a b : ℤ) → int_lt a b ≡ true → int_lt b a ≡ false
not_both a b h = grind (arith, ints)

not_lower : (a b c : ℤ) → int_lt a b ≡ false → int_lt b c ≡ false → int_lt a c ≡ false
not_lower a b c h k = grind (arith, ints)

lower_than : (a b c : ℤ) → int_lt b a ≡ false → int_lt b c ≡ true → int_lt a c ≡ true
lower_than a b c h k = grind (arith, ints)

-- no later node has a lower z
abbrev DoRise : List Descendant → Type 0
DoRise [] = Unit {0}
DoRise (here ∷ others) = AllByRecursion (λ other. is_lower other here ≡ false) others × DoRise others

none_lower : (here first : Descendant) (others : List Descendant) → is_lower first here ≡ false → AllByRecursion (λ other. is_lower other first ≡ false) others
    → AllByRecursion (λ other. is_lower other here ≡ false) (first ∷ others)
none_lower here first others e h =
    (e, each_then (λ other. is_lower other first ≡ false) (λ other. is_lower other here ≡ false) (λ other k. not_lower (z_order_of other.settled.fields.props) (z_order_of first.settled.fields.props) (z_order_of here.settled.fields.props) k e) others h)

put_rises : (here : Descendant) (others : List Descendant) → DoRise others → DoRise (put_by_z here others)
put_rises here [] h = (tt, tt)
put_rises here (other ∷ others) h =
    elim (cases_Bool (is_lower other here)) as (λ c. DoRise (put_by_z here (other ∷ others))) [
      | inl lower ↦
          subst (λ b. DoRise (cond b (other ∷ put_by_z here others) (here ∷ other ∷ others))) (sym lower)
          (each_put (λ x. is_lower x other ≡ false) here others (not_both (z_order_of other.settled.fields.props) (z_order_of here.settled.fields.props) lower) h.0, put_rises here others h.1)
      | inr higher ↦ subst (λ b. DoRise (cond b (other ∷ put_by_z here others) (here ∷ other ∷ others))) (sym higher) (none_lower here other others higher h.0, h)
    ]

by_z_rises : (nodes : List Descendant) → DoRise (by_z nodes)
by_z_rises [] = tt
by_z_rises (here ∷ others) = put_rises here (by_z others) (by_z_rises others)

-- a node in some order after so many others, none of which has a greater z
record Stands (here : Descendant) (nodes : List Descendant) (count : ℕ) : Type 0 where
  before : List Descendant
  after : List Descendant
  whole : nodes ≡ before ++ here ∷ after
  no_greater : AllByRecursion (λ other. is_lower here other ≡ false) before
  count_is : length before ≡ count

-- a node that is put among others stands after those with a lower z
put_stands : (here : Descendant) (others : List Descendant) → DoRise others → Stands here (put_by_z here others) (length (filter (λ other. is_lower other here) others))
put_stands here [] h = record { before = []; after = []; whole = refl; no_greater = tt; count_is = refl }
put_stands here (other ∷ others) h =
    let lower_ones = λ (other : Descendant). is_lower other here in
    elim (cases_Bool (is_lower other here)) as (λ c. Stands here (put_by_z here (other ∷ others)) (length (filter lower_ones (other ∷ others)))) [
      | inl lower ↦
          let later = put_stands here others h.1 in record {
            before = other ∷ later.before;
            after = later.after;
            whole = ap (λ b. cond b (other ∷ put_by_z here others) (here ∷ other ∷ others)) lower ∙ ap (λ r. other ∷ r) later.whole;
            no_greater = (not_both (z_order_of other.settled.fields.props) (z_order_of here.settled.fields.props) lower, later.no_greater);
            count_is = ap suc later.count_is ∙ sym (ap (λ b. length (cond b (other ∷ filter lower_ones others) (filter lower_ones others))) lower);
          }
      | inr higher ↦ record {
        before = [];
        after = other ∷ others;
        whole = ap (λ b. cond b (other ∷ put_by_z here others) (here ∷ other ∷ others)) higher;
        no_greater = tt;
        count_is = sym (ap length (none_kept lower_ones (other ∷ others) (none_lower here other others higher h.0)));
      }
    ]

-- one with a greater z that is put among them comes after it
put_after : (x here : Descendant) (before after : List Descendant) → is_lower here x ≡ true → AllByRecursion (λ other. is_lower here other ≡ false) before
    → put_by_z x (before ++ here ∷ after) ≡ before ++ here ∷ put_by_z x after
put_after x here [] after e h = ap (λ b. cond b (here ∷ put_by_z x after) (x ∷ here ∷ after)) e
put_after x here (other ∷ before) after e h =
    ap (λ b. cond b (other ∷ put_by_z x (before ++ here ∷ after)) (x ∷ other ∷ before ++ here ∷ after))
    (lower_than (z_order_of other.settled.fields.props) (z_order_of here.settled.fields.props) (z_order_of x.settled.fields.props) h.0 e)
    ∙ ap (λ r. other ∷ r) (put_after x here before after e h.1)

-- and one without comes before it
put_before : (x here : Descendant) (before after : List Descendant) → is_lower here x ≡ false → AllByRecursion (λ other. is_lower here other ≡ false) before
    → Stands here (put_by_z x (before ++ here ∷ after)) (suc (length before))
put_before x here [] after e h = record {
  before = x ∷ [];
  after = after;
  whole = ap (λ b. cond b (here ∷ put_by_z x after) (x ∷ here ∷ after)) e;
  no_greater = (e, tt);
  count_is = refl;
}
put_before x here (other ∷ before) after e h =
    elim (cases_Bool (is_lower other x)) as (λ c. Stands here (put_by_z x (other ∷ before ++ here ∷ after)) (suc (suc (length before)))) [
      | inl lower ↦
          let later = put_before x here before after e h.1 in record {
            before = other ∷ later.before;
            after = later.after;
            whole = ap (λ b. cond b (other ∷ put_by_z x (before ++ here ∷ after)) (x ∷ other ∷ before ++ here ∷ after)) lower ∙ ap (λ r. other ∷ r) later.whole;
            no_greater = (h.0, later.no_greater);
            count_is = ap suc later.count_is;
          }
      | inr higher ↦ record {
        before = x ∷ other ∷ before;
        after = after;
        whole = ap (λ b. cond b (other ∷ put_by_z x (before ++ here ∷ after)) (x ∷ other ∷ before ++ here ∷ after)) higher;
        no_greater = (e, h);
        count_is = refl;
      }
    ]

-- a node of a list stands, in the order by z, after the earlier ones with no greater z and the later ones with a lower z
by_z_stands : (here : Descendant) (before after : List Descendant)
    → Stands here (by_z (before ++ here ∷ after)) (length (filter (λ other. not (is_lower here other)) before) + length (filter (λ other. is_lower other here) (by_z after)))
by_z_stands here [] after =
    let own = put_stands here (by_z after) (by_z_rises after) in
    record { before = own.before; after = own.after; whole = own.whole; no_greater = own.no_greater; count_is = own.count_is ∙ omega arith }
by_z_stands here (x ∷ before) after =
    let others = by_z_stands here before after in
    let test = λ (other : Descendant). not (is_lower here other) in
    let lower = length (filter (λ other. is_lower other here) (by_z after)) in
    let put : put_by_z x (by_z (before ++ here ∷ after)) ≡ put_by_z x (others.before ++ here ∷ others.after) = ap (put_by_z x) others.whole in
    elim (cases_Bool (is_lower here x)) as (λ c. Stands here (by_z ((x ∷ before) ++ here ∷ after)) (length (filter test (x ∷ before)) + lower)) [
      | inl greater ↦ record {
        before = others.before;
        after = put_by_z x others.after;
        whole = put ∙ put_after x here others.before others.after greater others.no_greater;
        no_greater = others.no_greater;
        count_is = others.count_is ∙ sym (ap (λ b. length (cond (not b) (x ∷ filter test before) (filter test before)) + lower) greater);
      }
      | inr lesser ↦
          let own = put_before x here others.before others.after lesser others.no_greater in record {
            before = own.before;
            after = own.after;
            whole = put ∙ own.whole;
            no_greater = own.no_greater;
            count_is = own.count_is ∙ ap suc others.count_is ∙ (let e : suc (length (filter test before) + lower) ≡ suc (length (filter test before)) + lower = omega arith in e)
                ∙ sym (ap (λ b. length (cond (not b) (x ∷ filter test before) (filter test before)) + lower) lesser);
          }
    ]

-- as many pass a test in the order by z
count_put : (test : Descendant → Bool) (here : Descendant) (others : List Descendant) → length (filter test (put_by_z here others)) ≡ length (filter test (here ∷ others))
count_put test here [] = refl
count_put test here (other ∷ others) =
    elim (is_lower other here) as (λ b. length (filter test (cond b (other ∷ put_by_z here others) (here ∷ other ∷ others))) ≡ length (filter test (here ∷ other ∷ others))) [
      | true ↦ one_more (test other) (test here) (filter test (put_by_z here others)) (filter test others) (count_put test here others)
      | false ↦ refl
    ]
  where
    one_more : (p q : Bool) (put rest : List Descendant) → length put ≡ length (cond q (here ∷ rest) rest)
        → length (cond p (other ∷ put) put) ≡ length (cond q (here ∷ cond p (other ∷ rest) rest) (cond p (other ∷ rest) rest))
    one_more true true put rest e = omega (arith, e)
    one_more true false put rest e = omega (arith, e)
    one_more false true put rest e = e
    one_more false false put rest e = e

count_by_z : (test : Descendant → Bool) (nodes : List Descendant) → length (filter test (by_z nodes)) ≡ length (filter test nodes)
count_by_z test [] = refl
count_by_z test (here ∷ others) =
    count_put test here (by_z others)
    ∙ elim (test here) as (λ b. length (cond b (here ∷ filter test (by_z others)) (filter test (by_z others))) ≡ length (cond b (here ∷ filter test others) (filter test others))) [
      | true ↦ ap suc (count_by_z test others)
      | false ↦ count_by_z test others
    ]

-- a node is placed at the index that it has in its order
placed_after : (parent index : ℕ) (here : Descendant) (before after : List Descendant)
    → IsIn (record { tag = tag_at here; parent = parent; index = index + length before; view = view_of here }) (placed_from parent index (before ++ here ∷ after))
placed_after parent index here [] after = let e : index + 0 ≡ index = omega arith in inl (λ i. record { tag = tag_at here; parent = parent; index = e i; view = view_of here })
placed_after parent index here (x ∷ before) after =
    let e : (index + 1) + length before ≡ index + suc (length before) = omega arith in
    inr (subst (λ n. IsIn (record { tag = tag_at here; parent = parent; index = n; view = view_of here }) (placed_from parent (index + 1) (before ++ here ∷ after))) e (placed_after parent (index + 1) here before after))

-- the index of each view
pub index_by_z : (forest : PlainForest SettledFields) (before after : List Descendant) (here : Descendant) → viewed forest ≡ before ++ here ∷ after
    → Contains (host_tree_of forest) (placed_at (count_up_to_z here before + count_below_z here after) here)
index_by_z forest before after here e =
    let parent = host_parent here.above in
    let child = is_child_of parent in
    let kept : filter child (viewed forest) ≡ filter child before ++ here ∷ filter child after =
    ap (filter child) e ∙ filter-append child before (here ∷ after) ∙ ap (λ b. filter child before ++ cond b (here ∷ filter child after) (filter child after)) (eq-eqb parent parent refl) in
    let own = by_z_stands here (filter child before) (filter child after) in
    let earlier = ap length (filter_twice (λ other. not (is_lower here other)) child before) ∙ length-filter (λ other. child other && not (is_lower here other)) before in
    let later = count_by_z (λ other. is_lower other here) (filter child after) ∙ ap length (filter_twice (λ other. is_lower other here) child after)
    ∙ length-filter (λ other. child other && is_lower other here) after in
    let count : 0 + length own.before ≡ count_up_to_z here before + count_below_z here after =
    (let z : 0 + length own.before ≡ length own.before = omega arith in z) ∙ own.count_is ∙ (λ i. earlier i + later i) in
    let there = subst (λ nodes. IsIn (record { tag = tag_at here; parent = parent; index = 0 + length own.before; view = view_of here }) (placed_from parent 0 nodes))
    (sym (ap by_z kept ∙ own.whole)) (placed_after parent 0 here own.before own.after) in
    contained _ (host_tree_of forest)
    (subst (λ n. IsIn (placed_at n here) (host_tree_of forest)) count (in_part _ (placed_below (viewed forest) parent) (host_tree_of forest) there (children_part forest parent)))
