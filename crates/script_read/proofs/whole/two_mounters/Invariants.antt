use Rattle.std.proofs.Common.{◌≡◌, drop, map, codes}
use Rattle.std.specs.Prelude.{option_map}
use Rattle.std.specs.List.{find}
use Rattle.serde_json.specs.View.{view}
use Rattle.script_read.specs.Members.{natural_at}
use Rattle.script_read.specs.Faults.{is_shared}
use Rattle.script_read.proofs.whole.two_mounters.Given as goal

abbrev pub invariant-loop-surface : goal.invariant-loop-surface
invariant-loop-surface l =
    option_map (natural_at (codes "id")) (find (is_shared (view l.script)) (map view (drop l.surface-index l.surface-items)))
    ≡ option_map (natural_at (codes "id")) (find (is_shared (view l.script)) (map view l.surface-items))
