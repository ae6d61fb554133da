-- The exit statuses of the program.
use Rattle.std.specs.Prelude.{ℕ}
use Rattle.fabric_run.specs.declared.status.Status.{Status}
use Rattle.fabric_run.specs.declared.status.Status.TheVariants.{Done, Refused, Usage, ReadFault, WriteFault, Memory}

-- the number of a status
abbrev pub exit_status_of : Status → ℕ
exit_status_of Done = 0
exit_status_of (Refused fault) = 1
exit_status_of Usage = 2
exit_status_of ReadFault = 3
exit_status_of WriteFault = 4
exit_status_of Memory = 5
