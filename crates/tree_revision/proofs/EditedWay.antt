-- A forest whose tags differ, after a change of the node of one tag: the way to that node, and what is seen off it.
use Rattle.std.proofs.Common.{◌≡◌, ◌≢◌, ℕ, List, [], ◌∷◌, ◌++◌, Bool, true, false, cond, not, ◌&&◌, ◌||◌, Option, Some, None, is_some, nat_eq, refl, ap, sym, ◌∙◌, subst, inl, inr}
use Rattle.std.specs.List.{AllByRecursion, IsDistinct}
use Rattle.std.specs.Option.{option_map, option_or}
use Rattle.std.proofs.lemmas.Bool.{cases_eq, eq-eqb, ne_eqb, eqb-true, eqb-false, false≢true}
use Rattle.shadow_frame.specs.declared.Size.{Size}
use Rattle.native_state.specs.declared.StateCell.{StateCell}
use Rattle.shadow_kinds.specs.Traits.{is_hidden_of}
use Rattle.shadow_node.specs.declared.NodeEdit.{NodeEdit}
use Rattle.shadow_node.specs.Edit.{edited_settled}
use Rattle.shadow_node.specs.Forest.{PlainForest, none, node, PlainNode}
use Rattle.shadow_node.specs.Fields.{SettledFields, contents_of}
use Rattle.shadow_node.specs.Find.{first_settled, way_from, way_to}
use Rattle.shadow_node.specs.Frames.{frame_in}
use Rattle.clone_path.specs.Changed.{forest_edited_at}
use Rattle.clone_path.proofs.Tags.{all_tags, all_tags-node, each_in_second, none_found, found_past}
use Rattle.clone_path.proofs.OneNode.{changed_here, changed_below, changed_past, differ_below}
use Rattle.clone_path.proofs.Along.{Leads, here, below, past, leads}
use Rattle.clone_path.proofs.Ways.{way_found}
use Rattle.tree_settle.specs.Along.{IsSettledBut, leads_to, way_below}
use Rattle.tree_settle.specs.Limits.{AreFramesInBounds}
use Rattle.tree_settle.specs.Walk.{fields_in, settled_in}
use Rattle.tree_revision.specs.Unchanged.{shown_here, seen_below}
use Rattle.tree_revision.proofs.Seen.{second_of, seen_later}
use Rattle.tree_revision.proofs.Upward.{some_or}
use Rattle.tree_revision.proofs.Unsettled.{IsSettled}
use Rattle.tree_revision.proofs.Along.{settled_but}
use Rattle.tree_revision.proofs.Renewed.{is_among, first_of, neither, not_in_first, second}

-- the first node's tag is none of the others, which differ
apart : (f : SettledFields) (k s : PlainForest SettledFields) → IsDistinct nat_eq (all_tags (node f k s))
    → AllByRecursion (λ other. nat_eq f.fields.tag other ≡ false) (all_tags k ++ all_tags s) × IsDistinct nat_eq (all_tags k ++ all_tags s)
unfolding IsDistinct
apart f k s differ = let all : IsDistinct nat_eq (f.fields.tag ∷ all_tags k ++ all_tags s) = subst (IsDistinct nat_eq) (all_tags-node f k s) differ in (all.0, all.1)

-- a tag that is found after the first tree is another than the first node's
other_after : (tag : ℕ) (f : SettledFields) (k s : PlainForest SettledFields) → IsDistinct nat_eq (all_tags (node f k s)) → is_some (first_settled tag s) ≡ true → f.fields.tag ≢ tag
other_after tag f k s differ found = λ same.
    let absent = none_found f.fields.tag s (each_in_second _ (all_tags k) (all_tags s) (apart f k s differ).0) in
    false≢true (sym absent ∙ ap (λ t. is_some (first_settled t s)) same ∙ found)

-- the first node is found by its tag
first_here : (tag : ℕ) (f : SettledFields) (k s : PlainForest SettledFields) → f.fields.tag ≡ tag → first_settled tag (node f k s) ≡ Some (record { fields = f; children = k })
first_here tag f k s same = rw (eq-eqb f.fields.tag tag same) refl

-- what is looked for where another one is found
abbrev pub first_within : ℕ → Option (PlainNode SettledFields) → Option (PlainNode SettledFields)
first_within tag None = None
first_within tag (Some tree) = first_settled tag (node tree.fields tree.children none)

-- there is that other one where it is found
some_within : (tag : ℕ) (found : Option (PlainNode SettledFields)) → is_some (first_within tag found) ≡ true → is_some found ≡ true
some_within tag None e = absurd (false≢true e)
some_within tag (Some tree) e = refl

-- the one of two that is true
only : (b : Bool) → (b || false) ≡ true → b ≡ true
only true e = refl
only false e = absurd (false≢true e)

-- the node of a tag is found below each node on the way to it
pub found_through : (tag above : ℕ) (way : List ℕ) (forest : PlainForest SettledFields) → IsDistinct nat_eq (all_tags forest) → way_to tag forest ≡ Some way → is_among above way ≡ true
    → first_within tag (first_settled above forest) ≡ first_settled tag forest
found_through tag above way none differ e among = absurd cc
found_through tag above way (node f k s) differ e among =
    let parts = differ_below f k s differ in
    elim (leads tag f k s way e) as (λ _. first_within tag (first_settled above (node f k s)) ≡ first_settled tag (node f k s)) [
      | here same is_way ↦
          let top = only (nat_eq f.fields.tag above) (sym (ap (is_among above) is_way) ∙ among) in
          ap (first_within tag) (first_here above f k s (eqb-true f.fields.tag above top)) ∙ first_here tag f k none same ∙ sym (first_here tag f k s same)
      | below other rest there is_way ↦
          let found : is_some (first_settled tag k) ≡ true = sym (way_found tag k) ∙ ap is_some there in
          let whole : first_settled tag (node f k s) ≡ first_settled tag k = found_past tag f k s other ∙ first_of (first_settled tag k) (first_settled tag s) found in
          elim (nat_eq f.fields.tag above) as (λ b. nat_eq f.fields.tag above ≡ b → first_within tag (first_settled above (node f k s)) ≡ first_settled tag (node f k s)) [
            | true ↦ λ top. ap (first_within tag) (first_here above f k s (eqb-true f.fields.tag above top))
                ∙ found_past tag f k none other ∙ first_of (first_settled tag k) None found ∙ sym whole
            | false ↦ λ differs.
                let inner = found_through tag above rest k parts.0 there (second (nat_eq f.fields.tag above) (is_among above rest) differs (sym (ap (is_among above) is_way) ∙ among)) in
                let is = some_within tag (first_settled above k) (ap is_some inner ∙ found) in
                ap (first_within tag) (found_past above f k s (eqb-false f.fields.tag above differs) ∙ first_of (first_settled above k) (first_settled above s) is) ∙ inner ∙ sym whole
          ] refl
      | past other absent there ↦
          let whole : first_settled tag (node f k s) ≡ first_settled tag s = found_past tag f k s other ∙ second_of (first_settled tag k) (first_settled tag s) absent in
          let inner = found_through tag above way s parts.1 there among in
          let is = some_within tag (first_settled above s) (ap is_some inner ∙ sym (way_found tag s) ∙ ap is_some there) in
          let gone = not_in_first above k s (apart f k s differ).1 is in
          ap (first_within tag) (found_past above f k s (other_after above f k s differ is) ∙ second_of (first_settled above k) (first_settled above s) gone) ∙ inner ∙ sym whole
    ]

-- each tag on the way to one that is found is found
pub on_way-found : (tag above : ℕ) (way : List ℕ) (forest : PlainForest SettledFields) → IsDistinct nat_eq (all_tags forest) → way_to tag forest ≡ Some way → is_among above way ≡ true
    → is_some (first_settled above forest) ≡ true
on_way-found tag above way forest differ e among =
    some_within tag (first_settled above forest) (ap is_some (found_through tag above way forest differ e among) ∙ sym (way_found tag forest) ∙ ap is_some e)

-- settling keeps the way to a tag
pub way_settled : (tag : ℕ) (parent : Size) (newest : ℕ → StateCell) (forest : PlainForest SettledFields) → way_to tag (settled_in parent newest (contents_of forest)) ≡ way_to tag forest
way_settled tag parent newest none = refl
way_settled tag parent newest (node f k s) = λ i.
    cond (nat_eq f.fields.tag tag) (Some (f.fields.tag ∷ []))
    (option_or (way_from f.fields.tag (way_settled tag (frame_in parent f.fields).size newest k i)) (way_settled tag parent newest s i))

module _ (tag : ℕ) (change : NodeEdit) where
  -- a change of a node keeps the way to it
  pub way_edited : (forest : PlainForest SettledFields) → way_to tag (forest_edited_at tag change forest) ≡ way_to tag forest
  way_edited none = refl
  way_edited (node f k s) =
      let below = way_edited k in
      let after = way_edited s in
      elim (nat_eq f.fields.tag tag) as (λ b. way_to tag (node (cond b (edited_settled change f) f) (forest_edited_at tag change k) (forest_edited_at tag change s)) ≡ way_to tag (node f k s)) [
        | true ↦ λ i. cond (nat_eq f.fields.tag tag) (Some (f.fields.tag ∷ [])) (option_or (way_from f.fields.tag (below i)) (after i))
        | false ↦ λ i. cond (nat_eq f.fields.tag tag) (Some (f.fields.tag ∷ [])) (option_or (way_from f.fields.tag (below i)) (after i))
      ]

  -- and the tags that are there
  pub found_edited : (looked : ℕ) (forest : PlainForest SettledFields) → is_some (first_settled looked (forest_edited_at tag change forest)) ≡ is_some (first_settled looked forest)
  found_edited looked none = refl
  found_edited looked (node f k s) =
      let below_there = found_edited looked k in
      let after_there = found_edited looked s in
      elim (nat_eq f.fields.tag tag) as (λ b. is_some (first_settled looked (node (cond b (edited_settled change f) f) (forest_edited_at tag change k) (forest_edited_at tag change s)))
      ≡ is_some (first_settled looked (node f k s))) [
        | true ↦ found_node (edited_settled change f) (nat_eq f.fields.tag looked) below_there after_there
        | false ↦ found_node f (nat_eq f.fields.tag looked) below_there after_there
      ]
    where
      found_node : (g : SettledFields) (b : Bool) → is_some (first_settled looked (forest_edited_at tag change k)) ≡ is_some (first_settled looked k)
          → is_some (first_settled looked (forest_edited_at tag change s)) ≡ is_some (first_settled looked s)
          → is_some (cond b (Some (record { fields = g; children = forest_edited_at tag change k })) (option_or (first_settled looked (forest_edited_at tag change k)) (first_settled looked (forest_edited_at tag change s))))
          ≡ is_some (cond b (Some (record { fields = f; children = k })) (option_or (first_settled looked k) (first_settled looked s)))
      found_node g true below_there after_there = refl
      found_node g false below_there after_there =
          some_or (first_settled looked (forest_edited_at tag change k)) (first_settled looked (forest_edited_at tag change s))
          ∙ (λ i. below_there i || after_there i)
          ∙ sym (some_or (first_settled looked k) (first_settled looked s))

  -- a node with the change
  abbrev pub edited_tree : PlainNode SettledFields → PlainNode SettledFields
  edited_tree tree = record { fields = edited_settled change tree.fields; children = tree.children }

  -- the node of the tag has the change
  pub edited_found : (way : List ℕ) (forest : PlainForest SettledFields) → IsDistinct nat_eq (all_tags forest) → way_to tag forest ≡ Some way
      → first_settled tag (forest_edited_at tag change forest) ≡ option_map edited_tree (first_settled tag forest)
  edited_found way none differ e = refl
  edited_found way (node f k s) differ e =
      let parts = differ_below f k s differ in
      elim (leads tag f k s way e) as (λ _. first_settled tag (forest_edited_at tag change (node f k s)) ≡ option_map edited_tree (first_settled tag (node f k s))) [
        | here same is_way ↦
            ap (first_settled tag) (changed_here tag change f k s same differ) ∙ first_here tag (edited_settled change f) k s same ∙ ap (option_map edited_tree) (sym (first_here tag f k s same))
        | below other rest there is_way ↦
            let found : is_some (first_settled tag k) ≡ true = sym (way_found tag k) ∙ ap is_some there in
            ap (first_settled tag) (changed_below tag change f k s other found differ)
            ∙ found_past tag f (forest_edited_at tag change k) s other
            ∙ first_of (first_settled tag (forest_edited_at tag change k)) (first_settled tag s) (found_edited tag k ∙ found)
            ∙ edited_found rest k parts.0 there
            ∙ ap (option_map edited_tree) (sym (found_past tag f k s other ∙ first_of (first_settled tag k) (first_settled tag s) found))
        | past other absent there ↦
            ap (first_settled tag) (changed_past tag change f k s other absent)
            ∙ found_past tag f k (forest_edited_at tag change s) other
            ∙ second_of (first_settled tag k) (first_settled tag (forest_edited_at tag change s)) absent
            ∙ edited_found way s parts.1 there
            ∙ ap (option_map edited_tree) (sym (found_past tag f k s other ∙ second_of (first_settled tag k) (first_settled tag s) absent))
      ]

  -- a change after which the node is the same leaves the forest
  pub edited_same : (way : List ℕ) (forest : PlainForest SettledFields) → IsDistinct nat_eq (all_tags forest) → way_to tag forest ≡ Some way
      → ((tree : PlainNode SettledFields) → first_settled tag forest ≡ Some tree → edited_settled change tree.fields ≡ tree.fields) → forest_edited_at tag change forest ≡ forest
  edited_same way none differ e same_node = refl
  edited_same way (node f k s) differ e same_node =
      let parts = differ_below f k s differ in
      elim (leads tag f k s way e) as (λ _. forest_edited_at tag change (node f k s) ≡ node f k s) [
        | here same is_way ↦ changed_here tag change f k s same differ ∙ (λ i. node (same_node _ (first_here tag f k s same) i) k s)
        | below other rest there is_way ↦
            let found : is_some (first_settled tag k) ≡ true = sym (way_found tag k) ∙ ap is_some there in
            let inner = edited_same rest k parts.0 there (λ tree is. same_node tree (found_past tag f k s other ∙ first_of (first_settled tag k) (first_settled tag s) found ∙ is)) in
            changed_below tag change f k s other found differ ∙ (λ i. node f (inner i) s)
        | past other absent there ↦
            let inner = edited_same way s parts.1 there (λ tree is. same_node tree (found_past tag f k s other ∙ second_of (first_settled tag k) (first_settled tag s) absent ∙ is)) in
            changed_past tag change f k s other absent ∙ (λ i. node f k (inner i))
      ]

  -- where the node of the tag is hidden as before, all is seen as before of a tag off the way
  pub seen_edited : (up : Bool) (looked : ℕ) (way : List ℕ) (forest : PlainForest SettledFields) → IsDistinct nat_eq (all_tags forest) → way_to tag forest ≡ Some way → is_among looked way ≡ false
      → ((tree : PlainNode SettledFields) → first_settled tag forest ≡ Some tree → is_hidden_of (edited_settled change tree.fields).fields.props ≡ is_hidden_of tree.fields.fields.props)
      → seen_below up looked (forest_edited_at tag change forest) ≡ seen_below up looked forest
  seen_edited up looked way none differ e off hidden = refl
  seen_edited up looked way (node f k s) differ e off hidden =
      let parts = differ_below f k s differ in
      elim (leads tag f k s way e) as (λ _. seen_below up looked (forest_edited_at tag change (node f k s)) ≡ seen_below up looked (node f k s)) [
        | here same is_way ↦
            let others = (neither (nat_eq f.fields.tag looked) false (sym (ap (is_among looked) is_way) ∙ off)).0 in
            ap (seen_below up looked) (changed_here tag change f k s same differ)
            ∙ seen_later up looked (edited_settled change f) k s others
            ∙ ap (λ h. option_or (seen_below (up && not h) looked k) (seen_below up looked s)) (hidden _ (first_here tag f k s same))
            ∙ sym (seen_later up looked f k s others)
        | below other rest there is_way ↦
            let found : is_some (first_settled tag k) ≡ true = sym (way_found tag k) ∙ ap is_some there in
            let both = neither (nat_eq f.fields.tag looked) (is_among looked rest) (sym (ap (is_among looked) is_way) ∙ off) in
            let inner = seen_edited (shown_here up f) looked rest k parts.0 there both.1
            (λ tree is. hidden tree (found_past tag f k s other ∙ first_of (first_settled tag k) (first_settled tag s) found ∙ is)) in
            ap (seen_below up looked) (changed_below tag change f k s other found differ)
            ∙ seen_later up looked f (forest_edited_at tag change k) s both.0
            ∙ ap (λ a. option_or a (seen_below up looked s)) inner
            ∙ sym (seen_later up looked f k s both.0)
        | past other absent there ↦
            let inner = seen_edited up looked way s parts.1 there off
            (λ tree is. hidden tree (found_past tag f k s other ∙ second_of (first_settled tag k) (first_settled tag s) absent ∙ is)) in
            ap (seen_below up looked) (changed_past tag change f k s other absent)
            ∙ (λ i. cond (nat_eq f.fields.tag looked) (Some (record { tree = record { fields = f; children = k }; shown = shown_here up f }))
            (option_or (seen_below (shown_here up f) looked k) (inner i)))
      ]

  -- the frames stay, and with them their bounds
  pub frames_edited : (forest : PlainForest SettledFields) → AreFramesInBounds forest → AreFramesInBounds (forest_edited_at tag change forest)
  frames_edited none bounds = tt
  frames_edited (node f k s) bounds =
      let below = frames_edited k bounds.1 in
      let after = frames_edited s bounds.2 in
      elim (nat_eq f.fields.tag tag) as (λ b. AreFramesInBounds (node (cond b (edited_settled change f) f) (forest_edited_at tag change k) (forest_edited_at tag change s))) [
        | true ↦ (bounds.0, below, after)
        | false ↦ (bounds.0, below, after)
      ]

  -- a settled forest with the change is settled but for the nodes on the way to it
  pub but_edited : (parent : Size) (newest : ℕ → StateCell) (way : List ℕ) (forest : PlainForest SettledFields) → IsDistinct nat_eq (all_tags forest) → IsSettled parent newest forest
      → way_to tag forest ≡ Some way → IsSettledBut parent newest way (forest_edited_at tag change forest)
  but_edited parent newest way none differ is e = absurd cc
  but_edited parent newest way (node f k s) differ is e =
      let fields : f ≡ fields_in parent newest f.fields = cc in
      let children : k ≡ settled_in (frame_in parent f.fields).size newest (contents_of k) = cc in
      let after : s ≡ settled_in parent newest (contents_of s) = cc in
      let inside : IsSettled f.frame.size newest k = subst (λ frame. IsSettled frame.size newest k) (sym (ap (λ s. s.frame) fields)) children in
      let parts = differ_below f k s differ in
      let top = eq-eqb f.fields.tag f.fields.tag refl in
      elim (leads tag f k s way e) as (λ _. IsSettledBut parent newest way (forest_edited_at tag change (node f k s))) [
        | here same is_way ↦ subst (IsSettledBut parent newest way) (sym (changed_here tag change f k s same differ)) (
          λ _. settled_but f.frame.size newest (way_below way) k inside,
          λ off. absurd (false≢true (sym off ∙ ap (λ way. leads_to way f.fields.tag) is_way ∙ top)),
          settled_but parent newest way s after,
        )
        | below other rest there is_way ↦ subst (IsSettledBut parent newest way) (sym (changed_below tag change f k s other (sym (way_found tag k) ∙ ap is_some there) differ)) (
          λ _. subst (λ w. IsSettledBut f.frame.size newest (way_below w) (forest_edited_at tag change k)) (sym is_way) (but_edited f.frame.size newest rest k parts.0 inside there),
          λ off. absurd (false≢true (sym off ∙ ap (λ way. leads_to way f.fields.tag) is_way ∙ top)),
          settled_but parent newest way s after,
        )
        | past other absent there ↦ subst (IsSettledBut parent newest way) (sym (changed_past tag change f k s other absent)) (
          λ _. settled_but f.frame.size newest (way_below way) k inside,
          λ _ i. record { fields = fields i; children = children i },
          but_edited parent newest way s parts.1 after there,
        )
      ]
