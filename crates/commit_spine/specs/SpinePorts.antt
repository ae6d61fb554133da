-- What a port tells of a pass on its spine.
use Rattle.std.specs.Prelude.{None}
use base.Stored.{gcons, gnum}
use Rattle.atomic_table.specs.Seated.{table_id_coded}
use Rattle.tree_revision.specs.Ports.{Told}
use Rattle.commit_spine.specs.SpinePasses.{PassValue}

-- what is told of a pass: its mark is which spine it is of and its shares, and no whole list is
-- told
abbrev pub spine_told : PassValue → Told
spine_told pass = record {
  mark = gcons (table_id_coded.code pass.spine) (gnum pass.kept.shares);
  first = pass.kept.mark.first;
  seen = pass.kept.seen;
  own = pass.kept.own;
  permits = pass.kept.permits;
  busy = pass.kept.busy;
  floor = pass.kept.floor;
  looks = pass.kept.looks;
  whole = None;
}
