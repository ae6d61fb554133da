-- What a node is made of.
use Rattle.shadow_node.specs.declared.Parts.{Parts}
use Rattle.shadow_node.specs.Forest.{PlainForest, PlainNode}
use Rattle.shadow_node.specs.Fields.{SettledFields}

-- the node that is made of these parts
abbrev pub node_of : Parts → PlainNode SettledFields
node_of parts = record {
  fields = record {
    fields = record { tag = parts.tag; kind = parts.kind; props = parts.props; label = parts.label };
    state = parts.state;
    frame = parts.frame;
  };
  children = parts.children;
}

-- the parts of a node with those fields and those children
abbrev pub parts_of : SettledFields → PlainForest SettledFields → Parts
parts_of settled children = record {
  tag = settled.fields.tag;
  kind = settled.fields.kind;
  props = settled.fields.props;
  label = settled.fields.label;
  state = settled.state;
  frame = settled.frame;
  children = children;
}
