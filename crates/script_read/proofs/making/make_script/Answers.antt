use Rattle.std.proofs.Common.{◌≡◌, sym, subst, rules}
use Rattle.script_read.specs.Plain.{plain_script}
use Rattle.script_read.specs.Making.{made_script}
use Rattle.script_read.specs.Writable.{IsWritable}
use Rattle.script_read.proofs.MadeScripts.{made_writable}
use Rattle.script_read.proofs.making.make_script.Goals as goal

pub returns-clause-writable : goal.returns-clause-writable
returns-clause-writable c =
    let same
    : plain_script (record { version = 1; surfaces = c.in_ok-surfaces.surfaces; actors = c.in_ok-actors.actors; turns = c.in_ok-turns.turns })
    ≡ made_script c.args.number
    = search rules in
    subst IsWritable (sym same) (made_writable c.args.number)
