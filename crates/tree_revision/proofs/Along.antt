-- A settled forest is settled but for the way to a node whose family's state changes.
use Rattle.std.proofs.Common.{◌≡◌, ◌≢◌, ℕ, List, [], ◌∷◌, ◌++◌, true, false, cond, Option, Some, None, is_some, nat_eq, refl, ap, sym, ◌∙◌, subst}
use Rattle.std.specs.List.{AllByRecursion, IsDistinct}
use Rattle.std.specs.Prelude.{unwrap_or}
use Rattle.std.specs.Option.{option_map, option_or}
use Rattle.std.proofs.lemmas.Bool.{eq-eqb, ne_eqb, eqb-true, eqb-false, false≢true}
use Rattle.shadow_frame.specs.declared.Size.{Size}
use Rattle.native_state.specs.declared.StateCell.{StateCell}
use Rattle.shadow_kinds.specs.Traits.{has_state_of}
use Rattle.shadow_node.specs.Forest.{PlainForest, none, node}
use Rattle.shadow_node.specs.Fields.{SettledFields, contents_of}
use Rattle.shadow_node.specs.Find.{first_settled, way_from, way_to}
use Rattle.shadow_node.specs.Frames.{frame_in, state_when}
use Rattle.clone_path.proofs.Tags.{all_tags, all_tags-node, each_in_first, each_in_second, none_found, none_of_two, found_here, found_past, found_apart}
use Rattle.clone_path.proofs.OneNode.{differ_below}
use Rattle.clone_path.proofs.Ways.{way_found}
use Rattle.tree_settle.specs.Along.{IsSettledBut, leads_to, way_below}
use Rattle.tree_settle.specs.Walk.{fields_in, settled_in}
use Rattle.tree_revision.proofs.Unsettled.{IsSettled}

-- a settled forest is settled but for the nodes on any way
pub settled_but : (parent : Size) (newest : ℕ → StateCell) (way : List ℕ) (forest : PlainForest SettledFields) → IsSettled parent newest forest → IsSettledBut parent newest way forest
settled_but parent newest way none is = tt
settled_but parent newest way (node f k s) is =
    let fields : f ≡ fields_in parent newest f.fields = cc in
    let below : k ≡ settled_in (frame_in parent f.fields).size newest (contents_of k) = cc in
    let rest : s ≡ settled_in parent newest (contents_of s) = cc in (
      λ _. settled_but f.frame.size newest (way_below way) k (subst (λ frame. IsSettled frame.size newest k) (sym (ap (λ s. s.frame) fields)) below),
      λ _ i. record { fields = fields i; children = below i },
      settled_but parent newest way s rest,
    )

-- a way is found where a node of the tag is
pub path_found : {V : Type 0} (items : V → List ℕ) (found : Option V) (tag : ℕ) (forest : PlainForest SettledFields) → option_map items found ≡ way_to tag forest
    → is_some found ≡ is_some (first_settled tag forest)
path_found items None tag forest is = ap is_some is ∙ way_found tag forest
path_found items (Some way) tag forest is = ap is_some is ∙ way_found tag forest

-- the way that is found, or else another one, is the way to a tag that is there
pub way_taken : {V : Type 0} (items : V → List ℕ) (found : Option V) (otherwise : V) (tag : ℕ) (forest : PlainForest SettledFields) → option_map items found ≡ way_to tag forest
    → is_some (first_settled tag forest) ≡ true → way_to tag forest ≡ Some (items (unwrap_or found otherwise))
way_taken items None otherwise tag forest is there = absurd (false≢true (ap is_some is ∙ way_found tag forest ∙ there))
way_taken items (Some way) otherwise tag forest is there = sym is

module _ (newest later : ℕ → StateCell) (tag : ℕ) (others : (q : ℕ) → nat_eq q tag ≡ false → newest q ≡ later q) where
  -- a forest without a node of a tag is settled still once only that tag's state is another
  pub settled_still : (parent : Size) (forest : PlainForest SettledFields) → is_some (first_settled tag forest) ≡ false
      → settled_in parent newest (contents_of forest) ≡ settled_in parent later (contents_of forest)
  settled_still parent none absent = refl
  settled_still parent (node f k s) absent =
      let other : f.fields.tag ≢ tag = λ same. false≢true (sym absent ∙ found_here tag f k s same) in
      let parts = none_of_two (first_settled tag k) (first_settled tag s) (sym (ap is_some (found_past tag f k s other)) ∙ absent) in
      let cell = others f.fields.tag (ne_eqb f.fields.tag tag other) in
      λ i. node (record { fields = f.fields; state = state_when (has_state_of f.fields.kind) (cell i); frame = frame_in parent f.fields })
      (settled_still (frame_in parent f.fields).size k parts.0 i) (settled_still parent s parts.1 i)

  -- so the parts of a settled forest without such a node are settled but for any way
  but_without : (parent : Size) (way : List ℕ) (forest : PlainForest SettledFields) → is_some (first_settled tag forest) ≡ false → IsSettled parent newest forest
      → IsSettledBut parent later way forest
  but_without parent way forest absent is = settled_but parent later way forest (is ∙ settled_still parent forest absent)

  module _ (parent : Size) (f : SettledFields) (k s : PlainForest SettledFields) (way : List ℕ) (fields : f ≡ fields_in parent newest f.fields) (below : IsSettled (frame_in parent f.fields).size newest k) where
    -- the way leads to the first node, which is the one of the tag or above it
    but_first : (below_way : List ℕ) → way ≡ f.fields.tag ∷ below_way → IsSettledBut (frame_in parent f.fields).size later below_way k → is_some (first_settled tag s) ≡ false
        → IsSettled parent newest s → IsSettledBut parent later way (node f k s)
    but_first below_way is but absent rest = (
      λ _. subst (λ (t : Size × List ℕ). IsSettledBut t.0 later t.1 k) (λ i. ((sym (ap (λ s. s.frame) fields) i).size, way_below (sym is i))) but,
      λ off. absurd (false≢true (sym off ∙ ap (λ way. leads_to way f.fields.tag) is ∙ eq-eqb f.fields.tag f.fields.tag refl)),
      but_without parent way s absent rest,
    )

    -- the way leads past the first node
    but_later : f.fields.tag ≢ tag → is_some (first_settled tag k) ≡ false → IsSettledBut parent later way s → IsSettledBut parent later way (node f k s)
    but_later other absent but =
        let cell = others f.fields.tag (ne_eqb f.fields.tag tag other) in
        let still : IsSettled (frame_in parent f.fields).size later k = below ∙ settled_still (frame_in parent f.fields).size k absent in
        let settled : f ≡ fields_in parent later f.fields =
        fields ∙ (λ i. record { fields = f.fields; state = state_when (has_state_of f.fields.kind) (cell i); frame = frame_in parent f.fields }) in (
          λ _. settled_but f.frame.size later (way_below way) k (subst (λ frame. IsSettled frame.size later k) (sym (ap (λ s. s.frame) fields)) still),
          λ _ i. record { fields = settled i; children = still i },
          but,
        )

  -- a settled forest whose tags differ is settled but for the way to a node once only that one's state is another
  pub but_state : (parent : Size) (way : List ℕ) (forest : PlainForest SettledFields) → IsDistinct nat_eq (all_tags forest) → IsSettled parent newest forest
      → way_to tag forest ≡ Some way → IsSettledBut parent later way forest
  unfolding IsDistinct
  but_state parent way none differ is leads = absurd cc
  but_state parent way (node f k s) differ is leads =
      let size = (frame_in parent f.fields).size in
      let fields : f ≡ fields_in parent newest f.fields = cc in
      let below : k ≡ settled_in size newest (contents_of k) = cc in
      let rest : s ≡ settled_in parent newest (contents_of s) = cc in
      let parts = differ_below f k s differ in
      let all : IsDistinct nat_eq (f.fields.tag ∷ all_tags k ++ all_tags s) = subst (IsDistinct nat_eq) (all_tags-node f k s) differ in
      elim (nat_eq f.fields.tag tag) as (λ b. nat_eq f.fields.tag tag ≡ b → cond b (Some (f.fields.tag ∷ [])) (option_or (way_from f.fields.tag (way_to tag k)) (way_to tag s)) ≡ Some way
      → IsSettledBut parent later way (node f k s)) [
        | true ↦ λ same leads. let is_way : way ≡ f.fields.tag ∷ [] = cc in
            let apart = subst (λ t. AllByRecursion (λ other. nat_eq t other ≡ false) (all_tags k ++ all_tags s)) (eqb-true f.fields.tag tag same) all.0 in
            let no_child = none_found tag k (each_in_first _ (all_tags k) (all_tags s) apart) in
            let no_later = none_found tag s (each_in_second _ (all_tags k) (all_tags s) apart) in
            but_first parent f k s way fields below [] is_way (but_without size [] k no_child below) no_later rest
        | false ↦ λ differs leads. let other = eqb-false f.fields.tag tag differs in
            elim (way_to tag k) as (λ o. way_to tag k ≡ o → option_or (way_from f.fields.tag o) (way_to tag s) ≡ Some way → IsSettledBut parent later way (node f k s)) [
              | None ↦ λ absent leads. but_later parent f k s way fields below other (sym (way_found tag k) ∙ ap is_some absent) (but_state parent way s parts.1 rest leads)
              | Some below_way ↦ λ there leads. let is_way : way ≡ f.fields.tag ∷ below_way = cc in
                  let no_later = none_found tag s (found_apart tag k (all_tags s) (sym (way_found tag k) ∙ ap is_some there) all.1) in
                  but_first parent f k s way fields below below_way is_way (but_state size below_way k parts.0 below there) no_later rest
            ] refl leads
      ] refl leads
