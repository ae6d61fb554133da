-- Where a mount sees of a tag what it saw before a forest was settled, and the stamps after that.
use Rattle.std.proofs.Common.{◌≡◌, ◌≢◌, ℕ, List, [], ◌∷◌, ◌++◌, Bool, true, false, not, cond, ◌||◌, Decides, Option, Some, None, is_some, nat_eq, nat_lt, inl, inr, refl, ap, sym, ◌∙◌, subst, arith}
use Rattle.std.specs.List.{AllByRecursion, IsDistinct, list_any}
use Rattle.std.specs.Option.{option_or}
use Rattle.std.specs.Cmp.{nat_cmp_total}
use Rattle.std.specs.FinMap.{get, insert, get-insert}
use Rattle.std.proofs.lemmas.Bool.{eqb-true, false≢true}
use Rattle.std.proofs.lemmas.Bool.Decides.{nat_tests}
use Rattle.std.proofs.lemmas.List.Folds.{list_any-append}
use Rattle.shadow_frame.specs.declared.Size.{Size}
use Rattle.native_state.specs.declared.StateCell.{StateCell}
use Rattle.shadow_node.specs.Forest.{PlainForest, none, node, PlainNode}
use Rattle.shadow_node.specs.Fields.{SettledFields, contents_of}
use Rattle.shadow_node.specs.Find.{first_settled}
use Rattle.shadow_node.specs.Frames.{frame_in, settled_forest}
use Rattle.shadow_node.specs.Seen.{sight_of}
use Rattle.shadow_node.specs.Stamps.{StampMap, all_stamped}
use Rattle.clone_path.proofs.Tags.{all_tags, all_tags-node, each_in_first, each_in_second, none_found, found_apart}
use Rattle.clone_path.proofs.OneNode.{differ_below}
use Rattle.tree_settle.specs.Along.{tag_when, changed_tags}
use Rattle.tree_settle.specs.Changes.{is_settled, changes_with, changes_in}
use Rattle.tree_settle.specs.Walk.{fields_in, settled_in}
use Rattle.tree_settle.proofs.Settled.{settled_below-in}
use Rattle.tree_settle.proofs.Unchanged.{none_changes-settled_tree, settled_tree-none_changes}
use Rattle.tree_revision.specs.ForestStamps.{HasTagsOf, IsStampAfter, AreStampsAfter}
use Rattle.tree_revision.specs.Unchanged.{shown_here, seen_below}
use Rattle.tree_revision.proofs.Counts.{ties-nat_eq}
use Rattle.tree_revision.proofs.Seen.{same_sights, second_of}
use Rattle.tree_revision.proofs.Upward.{some_or}

-- whether a tag is among some
abbrev pub is_among : ℕ → List ℕ → Bool
is_among tag tags = list_any (λ other. nat_eq other tag) tags

-- neither of two is true
pub neither : (a b : Bool) → (a || b) ≡ false → (a ≡ false) × (b ≡ false)
neither true b e = absurd (false≢true (sym e))
neither false b e = (refl, e)

-- the second of two is true where the first is not
pub second : (a b : Bool) → a ≡ false → (a || b) ≡ true → b ≡ true
second true b a e = absurd (false≢true (sym a))
second false b a e = e

-- a tag that is not among others before which one more may stand
none_after : (changes : Bool) (tag here : ℕ) (others : List ℕ) → is_among tag (tag_when changes here others) ≡ false → is_among tag others ≡ false
none_after true tag here others e = (neither (nat_eq here tag) (is_among tag others) e).1
none_after false tag here others e = e

-- it is among the others where it is not the one before them
some_after : (changes : Bool) (tag here : ℕ) (others : List ℕ) → nat_eq here tag ≡ false → is_among tag (tag_when changes here others) ≡ true → is_among tag others ≡ true
some_after true tag here others other e = second (nat_eq here tag) (is_among tag others) other e
some_after false tag here others other e = e

-- the one before them is not there where the tag is that one and is not among them
not_before : (changes : Bool) (tag here : ℕ) (others : List ℕ) → nat_eq here tag ≡ true → is_among tag (tag_when changes here others) ≡ false → changes ≡ false
not_before true tag here others same e = absurd (false≢true (sym e ∙ ap (λ b. b || is_among tag others) same))
not_before false tag here others same e = refl

-- no number is not below one
none_below : (n : ℕ) → nat_lt 0 n ≡ false → n ≡ 0
none_below n e = grind (arith, nat_tests)

-- the first of two answers, where it is there
pub first_of : {A : Type 0} (a b : Option A) → is_some a ≡ true → option_or a b ≡ a
first_of None b e = absurd (false≢true e)
first_of (Some x) b e = refl

-- a tag that is found after a tree is not found in it
pub not_in_first : (tag : ℕ) (k s : PlainForest SettledFields) → IsDistinct nat_eq (all_tags k ++ all_tags s) → is_some (first_settled tag s) ≡ true
    → is_some (first_settled tag k) ≡ false
not_in_first tag k s differ after = elim (is_some (first_settled tag k)) as (λ b. is_some (first_settled tag k) ≡ b → b ≡ false) [
  | true ↦ λ there. absurd (false≢true (sym (none_found tag s (found_apart tag k (all_tags s) there differ)) ∙ after))
  | false ↦ λ _. refl
] refl

module _ (newest : ℕ → StateCell) (tag : ℕ) where
  -- what is seen of a tag whose node does not change is the same in the settled forest
  pub seen_alike : (parent : Size) (above : Bool) (forest : PlainForest SettledFields) → is_among tag (changed_tags parent newest forest) ≡ false
      → seen_below above tag forest ≡ seen_below above tag (settled_in parent newest (contents_of forest))
  seen_alike parent above none off = refl
  seen_alike parent above (node f k s) off =
      let size = (frame_in parent f.fields).size in
      let here = shown_here above f in
      let many = changes_with (is_settled parent newest f) (changes_in size newest k) in
      let parts = neither (is_among tag (changed_tags size newest k)) (is_among tag (tag_when (nat_lt 0 many) f.fields.tag (changed_tags parent newest s)))
      (sym (list_any-append (λ other. nat_eq other tag) (changed_tags size newest k) (tag_when (nat_lt 0 many) f.fields.tag (changed_tags parent newest s))) ∙ off) in
      elim (nat_eq f.fields.tag tag) as (λ b. nat_eq f.fields.tag tag ≡ b
      → cond b (Some (record { tree = record { fields = f; children = k }; shown = here })) (option_or (seen_below here tag k) (seen_below above tag s))
      ≡ cond b (Some (record { tree = record { fields = fields_in parent newest f.fields; children = settled_in size newest (contents_of k) }; shown = here }))
      (option_or (seen_below here tag (settled_in size newest (contents_of k))) (seen_below above tag (settled_in parent newest (contents_of s))))) [
        | true ↦ λ same. let stays = not_before (nat_lt 0 many) tag f.fields.tag (changed_tags parent newest s) same parts.1 in
            let tree = settled_tree-none_changes parent newest (record { fields = f; children = k }) (none_below many stays) in
            λ i. Some (record { tree = tree i; shown = here })
        | false ↦ λ other i. option_or (seen_alike size here k parts.0 i)
            (seen_alike parent above s (none_after (nat_lt 0 many) tag f.fields.tag (changed_tags parent newest s) parts.1) i)
      ] refl

  -- settling keeps the tags
  pub found_alike : (parent : Size) (forest : PlainForest SettledFields)
      → is_some (first_settled tag (settled_in parent newest (contents_of forest))) ≡ is_some (first_settled tag forest)
  found_alike parent none = refl
  found_alike parent (node f k s) =
      let size = (frame_in parent f.fields).size in
      elim (nat_eq f.fields.tag tag) as (λ b.
      is_some (cond b (Some (record { fields = fields_in parent newest f.fields; children = settled_in size newest (contents_of k) }))
      (option_or (first_settled tag (settled_in size newest (contents_of k))) (first_settled tag (settled_in parent newest (contents_of s)))))
      ≡ is_some (cond b (Some (record { fields = f; children = k })) (option_or (first_settled tag k) (first_settled tag s)))) [
        | true ↦ refl
        | false ↦ some_or (first_settled tag (settled_in size newest (contents_of k))) (first_settled tag (settled_in parent newest (contents_of s)))
            ∙ (λ i. found_alike size k i || found_alike parent s i)
            ∙ sym (some_or (first_settled tag k) (first_settled tag s))
      ]

  -- a tag whose node changes is one of the forest's
  pub changed_found : (parent : Size) (forest : PlainForest SettledFields) → is_among tag (changed_tags parent newest forest) ≡ true → is_some (first_settled tag forest) ≡ true
  changed_found parent none among = absurd (false≢true among)
  changed_found parent (node f k s) among =
      let size = (frame_in parent f.fields).size in
      let many = changes_with (is_settled parent newest f) (changes_in size newest k) in
      let rest = tag_when (nat_lt 0 many) f.fields.tag (changed_tags parent newest s) in
      let either = sym (list_any-append (λ other. nat_eq other tag) (changed_tags size newest k) rest) ∙ among in
      elim (nat_eq f.fields.tag tag) as (λ b. nat_eq f.fields.tag tag ≡ b
      → is_some (cond b (Some (record { fields = f; children = k })) (option_or (first_settled tag k) (first_settled tag s))) ≡ true) [
        | true ↦ λ same. refl
        | false ↦ λ other. some_or (first_settled tag k) (first_settled tag s)
            ∙ elim (is_among tag (changed_tags size newest k)) as (λ b. is_among tag (changed_tags size newest k) ≡ b → (is_some (first_settled tag k) || is_some (first_settled tag s)) ≡ true) [
              | true ↦ λ below. ap (λ b. b || is_some (first_settled tag s)) (changed_found size k below)
              | false ↦ λ absent. let after = changed_found parent s (some_after (nat_lt 0 many) tag f.fields.tag (changed_tags parent newest s) other (second _ _ absent either)) in
                  ap (λ b. is_some (first_settled tag k) || b) after ∙ or_true (is_some (first_settled tag k))
            ] refl
      ] refl
    where
      or_true : (b : Bool) → (b || true) ≡ true
      or_true true = refl
      or_true false = refl

  -- a tag that no node has is none whose node changes
  none_changed : (parent : Size) (forest : PlainForest SettledFields) → is_some (first_settled tag forest) ≡ false → is_among tag (changed_tags parent newest forest) ≡ false
  none_changed parent forest absent = elim (is_among tag (changed_tags parent newest forest)) as (λ b. is_among tag (changed_tags parent newest forest) ≡ b → b ≡ false) [
    | true ↦ λ among. absurd (false≢true (sym absent ∙ changed_found parent forest among))
    | false ↦ λ _. refl
  ] refl

  -- where the tags differ, the node of a tag that changes is another one once it is settled
  pub changed_other : (parent : Size) (forest : PlainForest SettledFields) → IsDistinct nat_eq (all_tags forest) → is_among tag (changed_tags parent newest forest) ≡ true
      → first_settled tag forest ≢ first_settled tag (settled_in parent newest (contents_of forest))
  unfolding IsDistinct
  changed_other parent none differ among = absurd (false≢true among)
  changed_other parent (node f k s) differ among =
      let size = (frame_in parent f.fields).size in
      let many = changes_with (is_settled parent newest f) (changes_in size newest k) in
      let later = changed_tags parent newest s in
      let k_new = settled_in size newest (contents_of k) in
      let s_new = settled_in parent newest (contents_of s) in
      let either = sym (list_any-append (λ other. nat_eq other tag) (changed_tags size newest k) (tag_when (nat_lt 0 many) f.fields.tag later)) ∙ among in
      let parts = differ_below f k s differ in
      let all : IsDistinct nat_eq (f.fields.tag ∷ all_tags k ++ all_tags s) = subst (IsDistinct nat_eq) (all_tags-node f k s) differ in
      elim (nat_eq f.fields.tag tag) as (λ b. nat_eq f.fields.tag tag ≡ b
      → cond b (Some (record { fields = f; children = k })) (option_or (first_settled tag k) (first_settled tag s))
      ≢ cond b (Some (record { fields = fields_in parent newest f.fields; children = k_new })) (option_or (first_settled tag k_new) (first_settled tag s_new))) [
        | true ↦ λ same is.
            let apart = subst (λ t. AllByRecursion (λ other. nat_eq t other ≡ false) (all_tags k ++ all_tags s)) (eqb-true f.fields.tag tag same) all.0 in
            let no_child = none_changed size k (none_found tag k (each_in_first _ (all_tags k) (all_tags s) apart)) in
            let no_later = none_changed parent s (none_found tag s (each_in_second _ (all_tags k) (all_tags s) apart)) in
            let was : PlainNode SettledFields = record { fields = f; children = k } in
            let new : PlainNode SettledFields = record { fields = fields_in parent newest f.fields; children = k_new } in
            let tree : was ≡ new = cc in
            let stays : many ≡ 0 = none_changes-settled_tree parent newest was tree in
            let last : is_among tag (tag_when (nat_lt 0 many) f.fields.tag later) ≡ true = second _ _ no_child either in
            false≢true (sym no_later ∙ sym (ap (λ n. is_among tag (tag_when (nat_lt 0 n) f.fields.tag later)) stays) ∙ last)
        | false ↦ λ other is. elim (is_among tag (changed_tags size newest k)) as (λ b. is_among tag (changed_tags size newest k) ≡ b → ⊥) [
          | true ↦ λ below.
              let there = changed_found size k below in
              changed_other size k parts.0 below
              (sym (first_of (first_settled tag k) (first_settled tag s) there) ∙ is ∙ first_of (first_settled tag k_new) (first_settled tag s_new) (found_alike size k ∙ there))
          | false ↦ λ absent.
              let after = some_after (nat_lt 0 many) tag f.fields.tag later other (second _ _ absent either) in
              let gone = not_in_first tag k s all.1 (changed_found parent s after) in
              changed_other parent s parts.1 after
              (sym (second_of (first_settled tag k) (first_settled tag s) gone) ∙ is ∙ second_of (first_settled tag k_new) (first_settled tag s_new) (found_alike size k ∙ gone))
        ] refl
      ] refl

-- where the tags of a forest differ, a mount sees of a tag what it saw once the forest is settled, exactly where its node is none that changes
pub same_once_settled : (size : Size) (newest : ℕ → StateCell) (tag : ℕ) (forest : PlainForest SettledFields) → IsDistinct nat_eq (all_tags forest)
    → Decides (not (is_among tag (changed_tags size newest forest))) (sight_of forest tag ≡ sight_of (settled_forest size newest (contents_of forest)) tag)
same_once_settled size newest tag forest differ =
    let new = settled_forest size newest (contents_of forest) in
    let same : settled_in size newest (contents_of forest) ≡ new = sym (settled_below-in size newest [] (contents_of forest)) in
    elim (is_among tag (changed_tags size newest forest)) as (λ b. is_among tag (changed_tags size newest forest) ≡ b → Decides (not b) (sight_of forest tag ≡ sight_of new tag)) [
      | true ↦ λ among. (
        λ no. absurd (false≢true no),
        λ alike. absurd (changed_other newest tag size forest differ among (ap (λ sight. sight.tree) alike ∙ ap (first_settled tag) (sym same))),
      )
      | false ↦ λ off. (λ _. same_sights tag forest new (seen_alike newest tag size true forest off ∙ ap (seen_below true tag) same), λ _. refl)
    ] refl

-- the stamp of a tag after that number is put to each of a list
pub get-all_stamped : (stamps : StampMap) (number tag : ℕ) (tags : List ℕ) → get (all_stamped stamps number tags) tag ≡ cond (is_among tag tags) (Some number) (get stamps tag)
get-all_stamped stamps number tag [] = refl
get-all_stamped stamps number tag (first ∷ tags) =
    get-all_stamped (insert stamps first number) number tag tags
    ∙ ap (cond (is_among tag tags) (Some number)) (get-insert nat_cmp_total stamps first number tag ∙ ap (λ b. cond b (Some number) (get stamps tag)) (ties-nat_eq tag first))
    ∙ either (is_among tag tags) (nat_eq first tag)
  where
    either : (after here : Bool) → cond after (Some number) (cond here (Some number) (get stamps tag)) ≡ cond (here || after) (Some number) (get stamps tag)
    either true true = refl
    either true false = refl
    either false true = refl
    either false false = refl

-- once a forest whose tags differ is settled, the stamps with the new number at each tag whose node changes are those after that
pub stamps_renewed : (size : Size) (newest : ℕ → StateCell) (forest new : PlainForest SettledFields) (before after : StampMap) (number : ℕ) (tags : List ℕ)
    → IsDistinct nat_eq (all_tags forest) → HasTagsOf before forest → new ≡ settled_forest size newest (contents_of forest)
    → tags ≡ changed_tags size newest forest → after ≡ all_stamped before number tags → AreStampsAfter forest new before number after
stamps_renewed size newest forest new before after number tags differ mounted new_is tags_are after_is =
    subst (λ (t : PlainForest SettledFields × StampMap). AreStampsAfter forest t.0 before number t.1)
    (λ i. (sym new_is i, sym (after_is ∙ ap (all_stamped before number) tags_are) i)) are
  where
    changed : ℕ → Bool
    changed tag = is_among tag (changed_tags size newest forest)

    settled : PlainForest SettledFields
    settled = settled_forest size newest (contents_of forest)

    is_there : (tag : ℕ) → is_some (cond (changed tag) (Some number) (get before tag)) ≡ is_some (first_settled tag forest)
    is_there tag = elim (changed tag) as (λ b. changed tag ≡ b → is_some (cond b (Some number) (get before tag)) ≡ is_some (first_settled tag forest)) [
      | true ↦ λ among. sym (changed_found newest tag size forest among)
      | false ↦ λ _. mounted tag
    ] refl

    is_stamp : (tag stamp : ℕ) → cond (changed tag) (Some number) (get before tag) ≡ Some stamp → IsStampAfter forest settled before number tag stamp
    is_stamp tag stamp = elim (changed tag) as (λ b. Decides (not b) (sight_of forest tag ≡ sight_of settled tag)
        → cond b (Some number) (get before tag) ≡ Some stamp → IsStampAfter forest settled before number tag stamp) [
          | true ↦ λ alike found. let is : number ≡ stamp = cc in inr (λ same. false≢true (alike.1 same), sym is)
          | false ↦ λ alike found. inl (alike.0 refl, found)
        ] (same_once_settled size newest tag forest differ)

    are : AreStampsAfter forest settled before number (all_stamped before number (changed_tags size newest forest))
    are = record {
      mounted = λ tag. ap is_some (get-all_stamped before number tag (changed_tags size newest forest)) ∙ is_there tag ∙ sym (found_alike newest tag size forest)
          ∙ ap (λ new. is_some (first_settled tag new)) (sym (settled_below-in size newest [] (contents_of forest)));
      each = λ tag stamp found. is_stamp tag stamp (sym (get-all_stamped before number tag (changed_tags size newest forest)) ∙ found);
    }
