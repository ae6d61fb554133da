-- What the program leaves, by its status.
use Rattle.std.specs.Prelude.{◌≡◌, ◌⊎◌, ◌≤◌, ℕ, List, [], take, length, Some, Result, Ok, Err}
use Rattle.counts.specs.Raised.{HasRisen}
use Rattle.byte_ports.specs.Sources.{SourceView, IsToldAs, IsLongerThan}
use Rattle.byte_ports.specs.Sinks.{SinkView, plus}
use Rattle.script_read.specs.declared.script.ScriptFault.{ScriptFault}
use Rattle.script_read.specs.declared.script.ScriptFault.TheVariants.{TooLong}
use Rattle.fabric_run.specs.declared.status.Status.{Status}
use Rattle.fabric_run.specs.declared.status.Status.TheVariants.{Done, Refused, Usage, ReadFault, WriteFault, Memory}

-- all of a text is appended, and nothing else
pub record Appends (old new : SinkView) (text : List ℕ) : Type 0 where
  pub written : new.written ≡ plus old.written text
  pub faults : old.faults ≤ new.faults

-- a write failed: the count of the sink rose, and the first bytes of a text are appended
pub record AppendsPart (old new : SinkView) (text : List ℕ) : Type 0 where
  pub upto : ℕ
  pub within : upto ≤ length text
  pub written : new.written ≡ plus old.written (take upto text)
  pub rose : HasRisen old.faults new.faults
  pub faults : old.faults ≤ new.faults

-- a text of which that holds is appended, and nothing else
pub record IsWritten (IsText : List ℕ → Type 0) (old new : SinkView) : Type 0 where
  pub text : List ℕ
  pub holds : IsText text
  pub written : Appends old new text

-- a write failed: the count of the sink rose, and the first bytes of a text of which that holds are appended
pub record IsCutOff (IsText : List ℕ → Type 0) (old new : SinkView) : Type 0 where
  pub text : List ℕ
  pub holds : IsText text
  pub written : AppendsPart old new text

-- what writing a text of which that holds leaves on the sink
abbrev pub TextLeaves : (List ℕ → Type 0) → (old new : SinkView) → Status → Type 0
TextLeaves IsText old new Done = IsWritten IsText old new
TextLeaves IsText old new (Refused fault) = ⊥
TextLeaves IsText old new Usage = ⊥
TextLeaves IsText old new ReadFault = ⊥
TextLeaves IsText old new WriteFault = IsCutOff IsText old new
TextLeaves IsText old new Memory = new ≡ old

-- how a command reads: at most so many bytes, and what they are or which fault they have
pub record Reading (A : Type 0) : Type 0 where
  pub limit : ℕ
  pub reads : List ℕ → Result A ScriptFault

-- the source was read to its end, and its bytes were that, or had that fault
pub record ReadsAs {A : Type 0} (reading : Reading A) (old new : SourceView) (result : Result A ScriptFault) : Type 0 where
  pub bytes : List ℕ
  pub told : IsToldAs old.left bytes
  pub ended : IsToldAs new.left []
  pub reads : reading.reads bytes ≡ result

-- the source had more bytes than are read, where it tells them
pub record IsTooLong {A : Type 0} (reading : Reading A) (old : SourceView) (fault : ScriptFault) : Type 0 where
  pub fault_is : fault ≡ TooLong
  pub long : IsLongerThan reading.limit old.left

-- a fault was found: the source was read to its end and its bytes have it, or it had too many
abbrev pub HasFault : {A : Type 0} → Reading A → (old new : SourceView) → ScriptFault → Type 0
HasFault reading old new fault = ReadsAs reading old new (Err fault) ⊎ IsTooLong reading old fault

-- the source was read to its end, and a text of what its bytes were leaves that on the sink
pub record ReadsAndLeaves {A : Type 0} (reading : Reading A) (IsTextOf : A → List ℕ → Type 0) (old new : SourceView) (out_old out_new : SinkView) (status : Status) : Type 0 where
  pub thing : A
  pub read : ReadsAs reading old new (Ok thing)
  pub leaves : TextLeaves (IsTextOf thing) out_old out_new status

-- what a command that reads leaves on the source and on the sink
abbrev pub Leaves : {A : Type 0} → Reading A → (A → List ℕ → Type 0) → (old new : SourceView) → (out_old out_new : SinkView) → Status → Type 0
Leaves reading IsTextOf old new out_old out_new Done = ReadsAndLeaves reading IsTextOf old new out_old out_new Done
Leaves reading IsTextOf old new out_old out_new (Refused fault) = HasFault reading old new fault × (out_new ≡ out_old)
Leaves reading IsTextOf old new out_old out_new Usage = ⊥
Leaves reading IsTextOf old new out_old out_new ReadFault = HasRisen old.faults new.faults × (out_new ≡ out_old)
Leaves reading IsTextOf old new out_old out_new WriteFault = ReadsAndLeaves reading IsTextOf old new out_old out_new WriteFault
Leaves reading IsTextOf old new out_old out_new Memory = out_new ≡ out_old

-- the whole text was written, or there was no memory
abbrev pub IsDoneOrMemory : Status → Type 0
IsDoneOrMemory Done = Unit {0}
IsDoneOrMemory (Refused fault) = ⊥
IsDoneOrMemory Usage = ⊥
IsDoneOrMemory ReadFault = ⊥
IsDoneOrMemory WriteFault = ⊥
IsDoneOrMemory Memory = Unit {0}

-- that fault was answered, or there was no memory
abbrev pub IsRefusedOrMemory : ScriptFault → Status → Type 0
IsRefusedOrMemory fault Done = ⊥
IsRefusedOrMemory fault (Refused answered) = answered ≡ fault
IsRefusedOrMemory fault Usage = ⊥
IsRefusedOrMemory fault ReadFault = ⊥
IsRefusedOrMemory fault WriteFault = ⊥
IsRefusedOrMemory fault Memory = Unit {0}

-- how a command that reads ends: what it leaves; and where no count of faults rose, told bytes that are sound are answered by the whole text, and a fault that they have is answered, unless there is no memory
pub record Ends {A : Type 0} (reading : Reading A) (IsTextOf : A → List ℕ → Type 0) (old new : SourceView) (out_old out_new : SinkView) (status : Status) : Type 0 where
  pub leaves : Leaves reading IsTextOf old new out_old out_new status
  pub complete : (bytes : List ℕ) (thing : A) → old.left ≡ Some bytes → reading.reads bytes ≡ Ok thing
      → ¬ HasRisen old.faults new.faults → ¬ HasRisen out_old.faults out_new.faults → IsDoneOrMemory status
  pub refused : (bytes : List ℕ) (fault : ScriptFault) → old.left ≡ Some bytes → reading.reads bytes ≡ Err fault
      → ¬ HasRisen old.faults new.faults → IsRefusedOrMemory fault status

-- how a command that reads nothing ends: what it leaves; and where no count of faults rose, the whole text is written, unless there is no memory
pub record EndsAlone (IsText : List ℕ → Type 0) (old new : SinkView) (status : Status) : Type 0 where
  pub leaves : TextLeaves IsText old new status
  pub complete : ¬ HasRisen old.faults new.faults → IsDoneOrMemory status
