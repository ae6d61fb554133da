-- The forest of a list of records.
use Rattle.std.specs.Prelude.{List}
use Rattle.shadow_frame.specs.declared.Size.{Size}
use Rattle.shadow_node.specs.Forest.{PlainForest}
use Rattle.shadow_node.specs.Fields.{SettledFields}
use Rattle.shadow_node.specs.Frames.{settled_forest}
use Rattle.tree_revision.specs.Records.{PlainRecord}
use Rattle.tree_revision.specs.Revisions.{revision_of}
use Rattle.tree_revision.specs.Newest.{newest_state}

-- on a surface of that first size, the forest of a list of records, with each node's newest state and its frame
abbrev pub settled_of : Size → List PlainRecord → PlainForest SettledFields
settled_of first entries =
    settled_forest (revision_of first entries).size (newest_state entries) (revision_of first entries).forest
