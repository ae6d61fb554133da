-- The families that the nodes of a forest add.
use Rattle.std.proofs.Common.{◌≡◌, ◌≢◌, ◌<◌, ◌+◌, ℕ, length, get_or, drop, subst, List, [], ◌∷◌, ◌++◌, true, false, cond, map, Some, nat_eq, append_assoc, refl, ap, sym, ◌∙◌, arith}
use Rattle.std.specs.Prelude.{is_none, unwrap_or}
use Rattle.std.specs.Option.{option_map, option_or}
use Rattle.std.specs.List.{filter, All, AllByRecursion, IsDistinct}
use Rattle.std.specs.Ordering.{nat_cmp}
use Rattle.std.specs.FinMap.{FinMap, get}
use Rattle.std.proofs.lemmas.List.{map-append}
use Rattle.std.proofs.lemmas.Bool.{eqb-false}
use Rattle.std.proofs.lemmas.List.Elements.{filter-append, All-nil, All-cons}
use Rattle.std.proofs.lemmas.List.Kept.{AllPairs-cons}
use Rattle.shadow_kinds.specs.Words.{code_of}
use Rattle.native_state.specs.declared.Family.{Family}
use Rattle.page_map.specs.Entries.{TagsDiffer}
use Rattle.shadow_node.specs.Forest.{preorder}
use Rattle.shadow_node.specs.Fields.{NodeFields, contents_of}
use Rattle.shadow_node.specs.Falls.{Shared, forest_at}
use Rattle.shadow_node.proofs.Trees.{forest_at-drop}
use Rattle.tree_revision.specs.declared.record.Cancel.TheVariants.{KindChanged}
use Rattle.tree_revision.specs.declared.next.PrepareRefusal.{PrepareRefusal}
use Rattle.tree_revision.specs.declared.next.PrepareRefusal.TheVariants.{Cancel as CancelRefusal, Memory}
use Rattle.tree_revision.specs.Prepared.{first_family, new_nodes, other_kind}
use Rattle.tree_revision.specs.Steps.{AreGathered, IsFor, first_families}

-- of some nodes those are left: what they and the list so far tell is what all of them and the list before tell
pub record AreLeft (families : FinMap nat_cmp Family) (left nodes : List NodeFields) (before after : List (ℕ × Family)) : Type 0 where
  pub kinds : other_kind families left ≡ other_kind families nodes
  pub added : after ++ first_families families left ≡ before ++ first_families families nodes

-- the node of another kind in the first nodes, or else in the later ones
other_kind-append : (families : FinMap nat_cmp Family) (xs ys : List NodeFields) → other_kind families (xs ++ ys) ≡ option_or (other_kind families xs) (other_kind families ys)
other_kind-append families [] ys = refl
other_kind-append families (fields ∷ xs) ys =
    let test = nat_eq (unwrap_or (option_map (λ family. family.kind) (get families fields.tag)) (code_of fields.kind)) (code_of fields.kind) in
    elim test as (λ b. cond b (other_kind families (xs ++ ys)) (Some (KindChanged fields.tag)) ≡ option_or (cond b (other_kind families xs) (Some (KindChanged fields.tag))) (other_kind families ys)) [
      | true ↦ other_kind-append families xs ys
      | false ↦ refl
    ]

-- what the first nodes add, and then what the later ones add
first_families-append : (families : FinMap nat_cmp Family) (xs ys : List NodeFields) → first_families families (xs ++ ys) ≡ first_families families xs ++ first_families families ys
first_families-append families xs ys =
    let is_new = λ (fields : NodeFields). is_none (get families fields.tag) in
    ap (map first_family) (filter-append is_new xs ys) ∙ map-append first_family (filter is_new xs) (filter is_new ys)

-- of the nodes from an index on the one there is the first
pub left_from : (families : FinMap nat_cmp Family) (shared : List Shared) (i : ℕ) (d : Shared) (nodes : List NodeFields) (before after : List (ℕ × Family)) → i < length shared → d ≡ get_or shared i d
    → AreLeft families (preorder (contents_of (forest_at (drop i shared)))) nodes before after
    → AreLeft families (d.value.fields.fields ∷ preorder (contents_of d.value.children) ++ preorder (contents_of (forest_at (drop (i + 1) shared)))) nodes before after
left_from families shared i d nodes before after lt is left =
    subst (λ forest. AreLeft families (preorder (contents_of forest)) nodes before after) (forest_at-drop shared i d lt is) left

-- a node and those below it are gathered, and the later ones are left
pub left_later : (families : FinMap nat_cmp Family) (fields : NodeFields) (below later nodes : List NodeFields) (before a b after : List (ℕ × Family))
    → AreLeft families (fields ∷ below ++ later) nodes before a → AreGathered families (fields ∷ []) a b → AreGathered families below b after → AreLeft families later nodes before after
left_later families fields below later nodes before a b after left one rest =
    let firsts = first_families families in
    let kinds : other_kind families (fields ∷ below ++ later) ≡ other_kind families later =
    other_kind-append families (fields ∷ []) (below ++ later)
    ∙ ap (λ o. option_or o (other_kind families (below ++ later))) one.kinds
    ∙ other_kind-append families below later
    ∙ ap (λ o. option_or o (other_kind families later)) rest.kinds in
    let added : a ++ firsts (fields ∷ below ++ later) ≡ after ++ firsts later =
    ap (λ l. a ++ l) (first_families-append families (fields ∷ []) (below ++ later))
    ∙ ap (λ l. a ++ (firsts (fields ∷ []) ++ l)) (first_families-append families below later)
    ∙ sym (append_assoc a (firsts (fields ∷ [])) (firsts below ++ firsts later))
    ∙ ap (λ l. l ++ (firsts below ++ firsts later)) (sym one.added)
    ∙ sym (append_assoc b (firsts below) (firsts later))
    ∙ ap (λ l. l ++ firsts later) (sym rest.added) in
    record { kinds = sym kinds ∙ left.kinds; added = sym added ∙ left.added }

-- a refusal at a node below the first of the nodes that are left
pub refused_below : (families : FinMap nat_cmp Family) (fields : NodeFields) (below later nodes : List NodeFields) (before a b : List (ℕ × Family)) (refusal : PrepareRefusal)
    → AreLeft families (fields ∷ below ++ later) nodes before a → AreGathered families (fields ∷ []) a b → IsFor (other_kind families below) refusal → IsFor (other_kind families nodes) refusal
refused_below families fields below later nodes before a b (CancelRefusal cause) left one why =
    sym left.kinds ∙ other_kind-append families (fields ∷ []) (below ++ later)
    ∙ ap (λ o. option_or o (other_kind families (below ++ later))) one.kinds
    ∙ other_kind-append families below later
    ∙ ap (λ o. option_or o (other_kind families later)) why
refused_below families fields below later nodes before a b Memory left one why = tt

-- a tag that no node has is that of no family that they add
added_apart : (families : FinMap nat_cmp Family) (tag : ℕ) (nodes : List NodeFields) → AllByRecursion (λ other. nat_eq tag other ≡ false) (map (λ fields. fields.tag) nodes)
    → All (λ entry. tag ≢ entry.0) (first_families families nodes)
added_apart families tag [] apart = All-nil (λ entry. tag ≢ entry.0)
added_apart families tag (fields ∷ nodes) apart =
    let later = added_apart families tag nodes apart.1 in
    elim (is_none (get families fields.tag)) as (λ b. All (λ entry. tag ≢ entry.0) (map first_family (cond b (fields ∷ new_nodes families nodes) (new_nodes families nodes)))) [
      | true ↦ All-cons (λ entry. tag ≢ entry.0) (first_family fields) (first_families families nodes) (eqb-false tag fields.tag apart.0) later
      | false ↦ later
    ]

-- the tags of the families that are added differ, where those of the nodes do
pub added_differ : (families : FinMap nat_cmp Family) (nodes : List NodeFields) → IsDistinct nat_eq (map (λ fields. fields.tag) nodes) → TagsDiffer (first_families families nodes)
unfolding IsDistinct
added_differ families [] differ = λ i j d lt le. absurd (omega (arith, le))
added_differ families (fields ∷ nodes) differ =
    let later = added_differ families nodes differ.1 in
    elim (is_none (get families fields.tag)) as (λ b. TagsDiffer (map first_family (cond b (fields ∷ new_nodes families nodes) (new_nodes families nodes)))) [
      | true ↦ AllPairs-cons (λ one other. one.0 ≢ other.0) (first_family fields) (first_families families nodes) (added_apart families fields.tag nodes differ.0) later
      | false ↦ later
    ]
