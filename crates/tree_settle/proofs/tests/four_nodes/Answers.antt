use Rattle.std.proofs.Common.{◌≡◌, [], ◌∷◌, ◌∙◌, IfOk, refl, ap, arith, rules}
use Rattle.std.specs.Prelude.{Result, Ok, Err, nat_eq}
use Rattle.std.specs.List.{IsDistinct}
use Rattle.std.specs.declared.alloc.AllocError.{AllocError}
use Rattle.shadow_node.specs.Forest.{PlainForest, none, node}
use Rattle.shadow_node.specs.Fields.{SettledFields, contents_of}
use Rattle.shadow_node.specs.Falls.{Shared, forest_at}
use Rattle.shadow_node.specs.Limits.{IsForestWithin}
use Rattle.tree_settle.proofs.tests.four_nodes.Goals as goal

four_differ : IsDistinct nat_eq (1 ∷ 2 ∷ 3 ∷ 4 ∷ [])
unfolding IsDistinct
four_differ = search rules

four_within : (one two three four : Shared) → one.value.fields.fields.tag ≡ 1 → two.value.fields.fields.tag ≡ 2 → three.value.fields.fields.tag ≡ 3 → four.value.fields.fields.tag ≡ 4
    → one.value.children ≡ forest_at (two ∷ four ∷ []) → two.value.children ≡ forest_at (three ∷ []) → three.value.children ≡ none → four.value.children ≡ none
    → IsForestWithin (contents_of (forest_at (one ∷ [])))
four_within one two three four t1 t2 t3 t4 c1 c2 c3 c4 =
    let e : contents_of (forest_at (one ∷ []))
    ≡ node one.value.fields.fields (node two.value.fields.fields (node three.value.fields.fields none none) (node four.value.fields.fields none none)) none =
    rw (c1, c2, c3, c4) refl in
    rw e (record {
      differ = rw (t1, t2, t3, t4) four_differ;
      depth = omega arith;
      count = omega arith;
    })

if_ok : (answer : Result (PlainForest SettledFields) AllocError) (forest : PlainForest SettledFields) → IsForestWithin (contents_of forest)
    → IfOk answer (λ one. one ≡ forest) → IfOk answer (λ one. IsForestWithin (contents_of one))
if_ok (Ok one) forest within same = rw same within
if_ok (Err error) forest within same = tt

pub returns : goal.returns
returns c =
    let below_one : c.push-3.new.self.items ≡ c.in_ok-node-2.field-0 ∷ c.in_ok-node-3.field-0 ∷ [] =
    rw (c.in_ok-push-3.ensures.items, c.in_ok-push-2.ensures.items, c.new-below_one.ensures.items) refl in
    let below_two : c.push.new.self.items ≡ c.in_ok-node.field-0 ∷ [] = rw (c.in_ok-push.ensures.items, c.new-below_two.ensures.items) refl in
    let top : c.push-4.new.self.items ≡ c.in_ok-node-4.field-0 ∷ [] = rw (c.in_ok-push-4.ensures.items, c.new-top.ensures.items) refl in
    if_ok _ _
    (four_within c.in_ok-node-4.field-0 c.in_ok-node-2.field-0 c.in_ok-node.field-0 c.in_ok-node-3.field-0
    c.in_ok-node-4.ensures.tag c.in_ok-node-2.ensures.tag c.in_ok-node.ensures.tag c.in_ok-node-3.ensures.tag
    (c.in_ok-node-4.ensures.children ∙ ap forest_at below_one) (c.in_ok-node-2.ensures.children ∙ ap forest_at below_two)
    (c.in_ok-node.ensures.children ∙ ap forest_at c.new.ensures.items) (c.in_ok-node-3.ensures.children ∙ ap forest_at c.new-2.ensures.items))
    (rw top at c.of.ensures)
