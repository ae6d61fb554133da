use Rattle.std.proofs.Common.{pos, rules}
use Rattle.script_read.specs.Plain.{plain_surface}
use Rattle.script_read.specs.Writing.{surface_json}
use Rattle.script_read.proofs.ValueLists.{copy_pushed, all_plain_values}
use Rattle.script_read.proofs.writing.surface_values.Goals as goal

pub loop-surface-preserved : goal.loop-surface-preserved
loop-surface-preserved c = copy_pushed (λ surface. surface_json (plain_surface surface)) c.args.surfaces.now c.loop-surface.surface-index
    (record { id = 0; size = record { width = pos 0; height = pos 0 } }) c.loop-surface.values.items c.push.new.self.items c.in_ok-surface_value.field-0
    c.loop-surface-test.true c.in_ok-surface_value.ensures (search rules) c.loop-surface.invariant

pub returns : goal.returns
returns c = all_plain_values surface_json plain_surface c.args.surfaces.now c.loop-surface.surface-index c.loop-surface.values.items c.loop-surface-test.false c.loop-surface.invariant
