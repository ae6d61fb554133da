use Rattle.std.proofs.Common.{◌≡◌, sym, ◌∙◌, subst}
use Rattle.std.specs.Prelude.{None}
use Rattle.serde_json.specs.View.{view}
use Rattle.tree_revision.specs.Sound.{IsSoundScript, IsWithinCounts}
use Rattle.script_read.specs.Reads.{fault_of}
use Rattle.script_read.proofs.SoundScripts.{sound_value}
use Rattle.script_read.proofs.read.read_value.Goals as goal

pub returns-in_ok-build_script-in-None-clause-sound : goal.returns-in_ok-build_script-in-None-clause-sound
returns-in_ok-build_script-in-None-clause-sound c =
    let none : fault_of (view c.args.script.now) ≡ None = sym c.in_ok-fault.ensures ∙ c.in-None.is in
    subst IsSoundScript (sym c.in_ok-build_script-in-None.ensures) (sound_value (view c.args.script.now) none).0

pub returns-in_ok-build_script-in-None-clause-counts : goal.returns-in_ok-build_script-in-None-clause-counts
returns-in_ok-build_script-in-None-clause-counts c =
    let none : fault_of (view c.args.script.now) ≡ None = sym c.in_ok-fault.ensures ∙ c.in-None.is in
    subst IsWithinCounts (sym c.in_ok-build_script-in-None.ensures) (sound_value (view c.args.script.now) none).1
