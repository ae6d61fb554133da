-- Tags that repeat.
use Rattle.std.proofs.Common.{◌≡◌, ℕ, ◌<◌, ◌≤◌, Bool, true, false, cond, List, [], ◌∷◌, ◌++◌, length, get_or, drop, ◌+◌, refl, ap, sym, ◌∙◌, append_assoc, append-nil, length-append, arith}
use Rattle.std.specs.Prelude.{Option, Some, None, nat_eq, not, ◌||◌}
use Rattle.std.specs.Option.{option_or}
use Rattle.std.specs.List.{list_any}
use Rattle.std.specs.declared.cmp.Ordering.{Ordering}
use Rattle.std.specs.declared.cmp.Ordering.TheVariants.{Less, Equal, Greater}
use Rattle.std.specs.Ordering.{nat_cmp, match_ordering, MatchOrdering, is_eq}
use Rattle.std.specs.BTreeMap.{is_at}
use Rattle.std.specs.BTreeSet.{insert_key}
use Rattle.std.proofs.lemmas.Bool.{eq-eqb, ne_eqb, not-true, not-false}
use Rattle.std.proofs.lemmas.Cmp.{ranked}
use Rattle.std.proofs.lemmas.List.{map-append}
use Rattle.shadow_node.specs.Forest.{PlainForest, none, node, preorder, node_count}
use Rattle.shadow_node.specs.Fields.{NodeFields, SettledFields, contents_of, tags_of}
use Rattle.shadow_node.specs.Falls.{Shared, forest_at}
use Rattle.shadow_node.proofs.Trees.{forest_at-drop, forest_at-drop_end}
use Rattle.tree_build.specs.Refusals.{repeated_after, repeated}

-- the tags of a node, its children and its later siblings
tags_of-node : (fields : NodeFields) (children siblings : PlainForest NodeFields)
    → tags_of (node fields children siblings) ≡ fields.tag ∷ tags_of children ++ tags_of siblings
tags_of-node fields children siblings = ap (λ tags. fields.tag ∷ tags) (map-append (λ (f : NodeFields). f.tag) (preorder children) (preorder siblings))

-- the tags of the nodes from an index on: those of the node there and below it, and those of the later ones
tags_from : (nodes : List Shared) (i : ℕ) (d : Shared) → i < length nodes → d ≡ get_or nodes i d
    → tags_of (contents_of (forest_at (drop i nodes)))
    ≡ d.value.fields.fields.tag ∷ tags_of (contents_of d.value.children) ++ tags_of (contents_of (forest_at (drop (i + 1) nodes)))
tags_from nodes i d h e =
    ap (λ forest. tags_of (contents_of forest)) (forest_at-drop nodes i d h e)
    ∙ tags_of-node d.value.fields.fields (contents_of d.value.children) (contents_of (forest_at (drop (i + 1) nodes)))

-- the same with some more tags behind them
tags_left : (nodes : List Shared) (i : ℕ) (d : Shared) (rest : List ℕ) → i < length nodes → d ≡ get_or nodes i d
    → tags_of (contents_of (forest_at (drop i nodes))) ++ rest
    ≡ d.value.fields.fields.tag ∷ tags_of (contents_of d.value.children) ++ (tags_of (contents_of (forest_at (drop (i + 1) nodes))) ++ rest)
tags_left nodes i d rest h e =
    ap (λ tags. tags ++ rest) (tags_from nodes i d h e)
    ∙ ap (λ tags. d.value.fields.fields.tag ∷ tags) (append_assoc (tags_of (contents_of d.value.children)) (tags_of (contents_of (forest_at (drop (i + 1) nodes)))) rest)

-- a list that has taken in the tags of one more node and of those below it lacks those of the later ones
pub tags_taken : (nodes : List Shared) (i : ℕ) (d : Shared) (all pushed more : List ℕ) (below : PlainForest SettledFields) → i < length nodes → d ≡ get_or nodes i d
    → pushed ≡ all ++ d.value.fields.fields.tag ∷ [] → below ≡ d.value.children → more ≡ pushed ++ tags_of (contents_of below)
    → more ++ tags_of (contents_of (forest_at (drop (i + 1) nodes))) ≡ all ++ tags_of (contents_of (forest_at (drop i nodes)))
tags_taken nodes i d all pushed more below h e p b m =
    let tag = d.value.fields.fields.tag in
    let down = tags_of (contents_of d.value.children) in
    let later = tags_of (contents_of (forest_at (drop (i + 1) nodes))) in
    ap (λ tags. tags ++ later) (m ∙ ap (λ tags. tags ++ tags_of (contents_of below)) p ∙ ap (λ forest. (all ++ tag ∷ []) ++ tags_of (contents_of forest)) b)
    ∙ append_assoc (all ++ tag ∷ []) down later
    ∙ append_assoc all (tag ∷ []) (down ++ later)
    ∙ ap (λ tags. all ++ tags) (sym (tags_from nodes i d h e))

-- and nothing is left after the last index
pub tags_all_taken : (nodes : List Shared) (i : ℕ) (all whole : List ℕ) → length nodes ≤ i
    → all ++ tags_of (contents_of (forest_at (drop i nodes))) ≡ whole → all ≡ whole
tags_all_taken nodes i all whole h w =
    sym (append-nil all) ∙ ap (λ forest. all ++ tags_of (contents_of forest)) (sym (forest_at-drop_end nodes i h)) ∙ w

-- there are as many tags as nodes
pub length-tags : (forest : PlainForest SettledFields) → length (tags_of (contents_of forest)) ≡ node_count forest
length-tags none = refl
length-tags (node settled children siblings) =
    omega (
      arith,
      ap length (tags_of-node settled.fields (contents_of children) (contents_of siblings)),
      length-append (tags_of (contents_of children)) (tags_of (contents_of siblings)),
      length-tags children,
      length-tags siblings,
    )

-- whether tags repeat earlier ones goes by which tags are among the earlier ones
repeated_after-congr : (one other tags : List ℕ) → ((tag : ℕ) → list_any (nat_eq tag) one ≡ list_any (nat_eq tag) other)
    → repeated_after one tags ≡ repeated_after other tags
repeated_after-congr one other [] same = refl
repeated_after-congr one other (tag ∷ tags) same =
    ap (λ b. cond b (Some tag) (repeated_after (tag ∷ one) tags)) (same tag)
    ∙ ap (cond (list_any (nat_eq tag) other) (Some tag)) (repeated_after-congr (tag ∷ one) (tag ∷ other) tags (λ q. ap (λ b. nat_eq q tag || b) (same q)))

or_twice : (a b : Bool) → (a || b) ≡ (a || (a || b))
or_twice true b = refl
or_twice false b = refl

or_swap : (a b c : Bool) → (a || (b || c)) ≡ (b || (a || c))
or_swap true true c = refl
or_swap true false c = refl
or_swap false b c = refl

-- which numbers a set's keys have with one more
any-insert_key : (q tag : ℕ) (keys : List ℕ) → list_any (nat_eq q) (tag ∷ keys) ≡ list_any (nat_eq q) (insert_key nat_cmp keys tag)
any-insert_key q tag [] = refl
any-insert_key q tag (key ∷ keys) = by (any-insert_key q tag keys) (nat_cmp tag key) (ranked tag key (nat_cmp tag key) refl)
  where
    by : list_any (nat_eq q) (tag ∷ keys) ≡ list_any (nat_eq q) (insert_key nat_cmp keys tag) → (o : Ordering) → MatchOrdering o (tag < key) (tag ≡ key) (key < tag)
        → (nat_eq q tag || (nat_eq q key || list_any (nat_eq q) keys))
        ≡ list_any (nat_eq q) (match_ordering o (tag ∷ key ∷ keys) (key ∷ keys) (key ∷ insert_key nat_cmp keys tag))
    by rest Less l = refl
    by rest Equal e = ap (λ k. nat_eq q k || (nat_eq q key || list_any (nat_eq q) keys)) e ∙ sym (or_twice (nat_eq q key) (list_any (nat_eq q) keys))
    by rest Greater g = or_swap (nat_eq q tag) (nat_eq q key) (list_any (nat_eq q) keys) ∙ ap (λ b. nat_eq q key || b) rest

is_at-nat_cmp : (tag key : ℕ) → is_at (nat_cmp tag) key ≡ nat_eq tag key
is_at-nat_cmp tag key = by (nat_cmp tag key) (ranked tag key (nat_cmp tag key) refl)
  where
    by : (o : Ordering) → MatchOrdering o (tag < key) (tag ≡ key) (key < tag) → is_eq o ≡ nat_eq tag key
    by Less l = sym (ne_eqb tag key (λ e. absurd (omega arith)))
    by Equal e = sym (eq-eqb tag key e)
    by Greater g = sym (ne_eqb tag key (λ e. absurd (omega arith)))

any-is_at : (tag : ℕ) (keys : List ℕ) → list_any (is_at (nat_cmp tag)) keys ≡ list_any (nat_eq tag) keys
any-is_at tag [] = refl
any-is_at tag (key ∷ keys) = ap (λ b. b || list_any (is_at (nat_cmp tag)) keys) (is_at-nat_cmp tag key) ∙ ap (λ b. nat_eq tag key || b) (any-is_at tag keys)

-- a tag that a set has repeats an earlier one
seen_repeats : (keys tags : List ℕ) (tag : ℕ) → list_any (is_at (nat_cmp tag)) keys ≡ true → repeated_after keys (tag ∷ tags) ≡ Some tag
seen_repeats keys tags tag h = ap (λ b. cond b (Some tag) (repeated_after (tag ∷ keys) tags)) (sym (any-is_at tag keys) ∙ h)

-- a tag that a set has not is put into it
new_is_seen : (keys tags : List ℕ) (tag : ℕ) → list_any (is_at (nat_cmp tag)) keys ≡ false
    → repeated_after keys (tag ∷ tags) ≡ repeated_after (insert_key nat_cmp keys tag) tags
new_is_seen keys tags tag h =
    ap (λ b. cond b (Some tag) (repeated_after (tag ∷ keys) tags)) (sym (any-is_at tag keys) ∙ h)
    ∙ repeated_after-congr (tag ∷ keys) (insert_key nat_cmp keys tag) tags (λ q. any-insert_key q tag keys)

-- the tags from an index on repeat one that is seen, where the node there has one
pub left_repeats : (nodes : List Shared) (i : ℕ) (d : Shared) (keys rest : List ℕ) (added : Bool) → i < length nodes → d ≡ get_or nodes i d
    → added ≡ not (list_any (is_at (nat_cmp d.value.fields.fields.tag)) keys) → added ≡ false
    → repeated_after keys (tags_of (contents_of (forest_at (drop i nodes))) ++ rest) ≡ Some d.value.fields.fields.tag
left_repeats nodes i d keys rest added h e a f =
    ap (repeated_after keys) (tags_left nodes i d rest h e)
    ∙ seen_repeats keys (tags_of (contents_of d.value.children) ++ (tags_of (contents_of (forest_at (drop (i + 1) nodes))) ++ rest)) d.value.fields.fields.tag
    (not-false (list_any (is_at (nat_cmp d.value.fields.fields.tag)) keys) (sym a ∙ f))

-- where it has a new tag, that tag is put into the set, and then come the children's tags, which give what is found there, and the later ones
pub left_goes_on : (nodes : List Shared) (i : ℕ) (d : Shared) (keys more after rest : List ℕ) (added : Bool) (below : PlainForest SettledFields) (found : Option ℕ)
    → i < length nodes → d ≡ get_or nodes i d → added ≡ not (list_any (is_at (nat_cmp d.value.fields.fields.tag)) keys) → added ≡ true
    → more ≡ insert_key nat_cmp keys d.value.fields.fields.tag → below ≡ d.value.children
    → ((next : List ℕ) → repeated_after more (tags_of (contents_of below) ++ next) ≡ option_or found (repeated_after after next))
    → repeated_after keys (tags_of (contents_of (forest_at (drop i nodes))) ++ rest)
    ≡ option_or found (repeated_after after (tags_of (contents_of (forest_at (drop (i + 1) nodes))) ++ rest))
left_goes_on nodes i d keys more after rest added below found h e a t m b go =
    let later = tags_of (contents_of (forest_at (drop (i + 1) nodes))) ++ rest in
    ap (repeated_after keys) (tags_left nodes i d rest h e)
    ∙ new_is_seen keys (tags_of (contents_of d.value.children) ++ later) d.value.fields.fields.tag
    (not-true (list_any (is_at (nat_cmp d.value.fields.fields.tag)) keys) (sym a ∙ t))
    ∙ ap (λ k. repeated_after k (tags_of (contents_of d.value.children) ++ later)) (sym m)
    ∙ ap (λ forest. repeated_after more (tags_of (contents_of forest) ++ later)) (sym b)
    ∙ go later

-- what is found from an empty set on is the first tag that is repeated
pub repeated_from_none : (keys after tags : List ℕ) (found : Option ℕ) → keys ≡ []
    → ((rest : List ℕ) → repeated_after keys (tags ++ rest) ≡ option_or found (repeated_after after rest)) → repeated tags ≡ found
repeated_from_none keys after tags None e h = ap (repeated_after []) (sym (append-nil tags)) ∙ ap (λ k. repeated_after k (tags ++ [])) (sym e) ∙ h []
repeated_from_none keys after tags (Some tag) e h = ap (repeated_after []) (sym (append-nil tags)) ∙ ap (λ k. repeated_after k (tags ++ [])) (sym e) ∙ h []
