-- What a plain spine, a pass and a port tell.
use Rattle.std.specs.Prelude.{◌≡◌, ◌-◌, List, length, take, Some}
use base.Stored.{gnum}
use Rattle.tree_revision.specs.Records.{PlainRecord}
use Rattle.tree_revision.specs.Ports.{Told}
use Rattle.commit_core.specs.Plain.{plain_records, plain_told}
use Rattle.commit_core.specs.declared.plain_parts.PlainSpine.{PlainSpine}
use Rattle.commit_core.specs.declared.plain_parts.PlainPass.{PlainPass}
use Rattle.commit_core.specs.declared.plain_parts.PlainPort.{PlainPort}

-- the records of a spine
abbrev pub records_of : PlainSpine → List PlainRecord
records_of spine = plain_records spine.records.items

-- what a port tells
abbrev pub told_of : PlainPort → Told
told_of port =
    plain_told port.spine.first port.spine.room (records_of port.spine) port.pass.seen port.pass.floor port.pass.looks port.begun

-- this is told of a spine and a pass: the spine's first size, room and records, and what the pass has seen of them, with its floor and its looks
pub record IsToldOf (spine : PlainSpine) (pass : PlainPass) (told : Told) : Type 0 where
  pub mark : told.mark ≡ gnum spine.room
  pub first : told.first ≡ spine.first
  pub seen : told.seen ≡ take pass.seen (records_of spine)
  pub count : length told.seen ≡ pass.seen
  pub permits : told.permits ≡ spine.room - length (records_of spine)
  pub busy : told.busy ≡ 0
  pub floor : told.floor ≡ pass.floor
  pub looks : told.looks ≡ pass.looks
  pub whole : told.whole ≡ Some (records_of spine)
