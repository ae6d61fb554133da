use Rattle.std.proofs.Common.{◌≡◌, ◌∙◌, ℕ, List, [], Bool, true, false, if◌then◌else◌, ap, refl}
use Rattle.shadow_frame.specs.declared.Size.{Size}
use Rattle.native_state.specs.Families.{cell_in}
use Rattle.native_state.specs.declared.StateCell.{StateCell}
use Rattle.shadow_node.specs.Forest.{PlainNode}
use Rattle.shadow_node.specs.Fields.{SettledFields, contents_of}
use Rattle.tree_settle.specs.Along.{IsSettledBut, leads_to, way_below}
use Rattle.tree_settle.specs.Walk.{fields_in, settled_in, settled_tree}
use Rattle.tree_settle.proofs.Unchanged.{settled-but_none}
use Rattle.tree_settle.proofs.tests.+settled_but.Goals as goal

-- a node with what lies below it is settled, but for the way, where it is right and what lies below it is
by_parts : (leads : Bool) (parent : Size) (newest : ℕ → StateCell) (way : List ℕ) (tree : PlainNode SettledFields)
    → IsSettledBut tree.fields.frame.size newest (if leads then way_below way else []) tree.children → (leads ≡ false → tree.fields ≡ fields_in parent newest tree.fields.fields)
    → (leads ≡ true → IsSettledBut tree.fields.frame.size newest (way_below way) tree.children) × (leads ≡ false → tree ≡ settled_tree parent newest tree)
by_parts true parent newest way tree below own = (λ _. below, λ off. absurd cc)
by_parts false parent newest way tree below own =
    let fields = own refl in
    let children : tree.children ≡ settled_in (fields_in parent newest tree.fields.fields).frame.size newest (contents_of tree.children) =
    settled-but_none tree.fields.frame.size newest tree.children below ∙ ap (λ (f : SettledFields). settled_in f.frame.size newest (contents_of tree.children)) fields in
    (λ on. absurd cc, λ _ i. record { fields = fields i; children = children i })

pub is_tree_settled_but-returns : goal.is_tree_settled_but-returns
is_tree_settled_but-returns t c = λ yes.
    by_parts (leads_to c.args.way.now c.args.node.now.fields.fields.tag) c.args.parent (cell_in c.args.families.now) c.args.way.now c.args.node.now
    (rw (← c.children.ensures, ← c.frame.ensures, ← c.way_under-is_on_way.ensures.below) (c.is_settled_but.ensures yes))
    (λ off. c.is_right.ensures c.if-not-is_right.false (c.way_under-is_on_way.ensures.leads ∙ off))
