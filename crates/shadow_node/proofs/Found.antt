-- The node of a tag in a forest without its states and frames.
use Rattle.std.proofs.Common.{◌≡◌, ℕ, Bool, true, false, cond, refl, ◌∙◌}
use Rattle.std.specs.Prelude.{Option, Some, None, nat_eq}
use Rattle.std.specs.Option.{option_map, option_or}
use Rattle.shadow_node.specs.Forest.{PlainForest, none, node, PlainNode}
use Rattle.shadow_node.specs.Fields.{NodeFields, SettledFields, contents_of}
use Rattle.shadow_node.specs.Find.{first_with, first_settled}

-- a node without its state and frame, and those of what lies below it
abbrev pub contents_of_node : PlainNode SettledFields → PlainNode NodeFields
contents_of_node tree = record { fields = tree.fields.fields; children = contents_of tree.children }

-- the first of two answers, mapped
option_map-option_or : {A B : Type 0} (f : A → B) (a b : Option A) → option_map f (option_or a b) ≡ option_or (option_map f a) (option_map f b)
option_map-option_or f (Some x) b = refl
option_map-option_or f None b = refl

-- one of two answers by a test, mapped
option_map-cond : {A B : Type 0} (f : A → B) (test : Bool) (a b : Option A) → option_map f (cond test a b) ≡ cond test (option_map f a) (option_map f b)
option_map-cond f true a b = refl
option_map-cond f false a b = refl

-- the node found in the contents is what is found, without its state and frame
pub first_with-contents : (tag : ℕ) (forest : PlainForest SettledFields)
    → option_map contents_of_node (first_settled tag forest) ≡ first_with tag (contents_of forest)
first_with-contents tag none = refl
first_with-contents tag (node settled children siblings) =
    option_map-cond contents_of_node (nat_eq settled.fields.tag tag) (Some (record { fields = settled; children = children }))
    (option_or (first_settled tag children) (first_settled tag siblings))
    ∙ rw (
      option_map-option_or contents_of_node (first_settled tag children) (first_settled tag siblings),
      first_with-contents tag children,
      first_with-contents tag siblings,
    ) refl
