-- How a command ends, by what it leaves.
use Rattle.std.proofs.Common.{◌≡◌, ◌<◌, ℕ, List, length, true, ap, sym, ◌∙◌, refl, subst, inl, inr}
use Rattle.std.specs.Prelude.{Option, Some, None, Ok, Err, Result, nat_lt}
use Rattle.std.proofs.lemmas.Bool.{lt-ltb}
use Rattle.script_read.specs.declared.script.ScriptFault.{ScriptFault}
use Rattle.script_read.specs.declared.script.ScriptFault.TheVariants.{TooLong}
use Rattle.counts.specs.Raised.{HasRisen}
use Rattle.byte_ports.specs.Sources.{SourceView, IsToldAs, IsLongerThan}
use Rattle.byte_ports.specs.Sinks.{SinkView}
use Rattle.fabric_run.specs.declared.status.Status.{Status}
use Rattle.fabric_run.specs.declared.status.Status.TheVariants.{Done, Refused, Usage, ReadFault, WriteFault, Memory}
use Rattle.fabric_run.specs.Outcome.{Reading, ReadsAs, HasFault, Leaves, TextLeaves, Ends, EndsAlone, IsDoneOrMemory, IsRefusedOrMemory}
use Rattle.fabric_run.specs.Commands.{script_reading}
use Rattle.fabric_run.specs.Steps.{WritesText}

-- a text at hand of which that holds is left on the sink
pub text_leaves : (IsText : List ℕ → Type 0) (text : List ℕ) (old new : SinkView) (status : Status) → IsText text → WritesText text old new status → TextLeaves IsText old new status
text_leaves IsText text old new Done holds written = record { text = text; holds = holds; written = written }
text_leaves IsText text old new (Refused fault) holds written = written
text_leaves IsText text old new Usage holds written = written
text_leaves IsText text old new ReadFault holds written = written
text_leaves IsText text old new WriteFault holds written = record { text = text; holds = holds; written = written }
text_leaves IsText text old new Memory holds written = written

-- where no count rose, a text is written whole, or there is no memory
pub ends_alone : (IsText : List ℕ → Type 0) (old new : SinkView) (status : Status) → TextLeaves IsText old new status → EndsAlone IsText old new status
ends_alone IsText old new status leaves = record { leaves = leaves; complete = complete status leaves }
  where
    complete : (status : Status) → TextLeaves IsText old new status → ¬ HasRisen old.faults new.faults → IsDoneOrMemory status
    complete Done leaves out = tt
    complete (Refused fault) leaves out = leaves
    complete Usage leaves out = leaves
    complete ReadFault leaves out = leaves
    complete WriteFault leaves out = out leaves.written.rose
    complete Memory leaves out = tt

-- bytes have one reading
one_reading : {A B : Type 0} (read : Result A B) (thing : A) (fault : B) → read ≡ Ok thing → read ≡ Err fault → ⊥
one_reading read thing fault ok err = cc

same_fault : {A B : Type 0} (read : Result A B) (a b : B) → read ≡ Err a → read ≡ Err b → a ≡ b
same_fault read a b first second = cc

-- told bytes are the bytes that were read
told_same : (left : Option (List ℕ)) (bytes read : List ℕ) → left ≡ Some bytes → IsToldAs left read → bytes ≡ read
told_same None bytes read told same = cc
told_same (Some left) bytes read told same = cc

-- what was read of told bytes is what they are
told_reads : {A : Type 0} (reading : Reading A) (old new : SourceView) (result : Result A ScriptFault) (bytes : List ℕ)
    → ReadsAs reading old new result → old.left ≡ Some bytes → reading.reads bytes ≡ result
told_reads reading old new result bytes read told = ap reading.reads (told_same old.left bytes read.bytes told read.told) ∙ read.reads

-- more bytes than a command reads are too long
abbrev pub RefusesMore : {A : Type 0} → Reading A → Type 0
RefusesMore reading = (bytes : List ℕ) → reading.limit < length bytes → reading.reads bytes ≡ Err TooLong

-- a fault that is answered is that of the told bytes
fault_reads : {A : Type 0} (reading : Reading A) → RefusesMore reading → (old new : SourceView) (fault : ScriptFault) (bytes : List ℕ)
    → HasFault reading old new fault → old.left ≡ Some bytes → reading.reads bytes ≡ Err fault
fault_reads reading more old new fault bytes (inl read) told = told_reads reading old new (Err fault) bytes read told
fault_reads reading more old new fault bytes (inr long) told = more bytes (subst (IsLongerThan reading.limit) told long.long) ∙ ap Err (sym long.fault_is)

module _ {A : Type 0} (reading : Reading A) (more : RefusesMore reading) (IsTextOf : A → List ℕ → Type 0) (old new : SourceView) (out_old out_new : SinkView) where
  complete : (status : Status) → Leaves reading IsTextOf old new out_old out_new status → (bytes : List ℕ) (thing : A) → old.left ≡ Some bytes → reading.reads bytes ≡ Ok thing
      → ¬ HasRisen old.faults new.faults → ¬ HasRisen out_old.faults out_new.faults → IsDoneOrMemory status
  complete Done leaves bytes thing told reads source out = tt
  complete (Refused fault) leaves bytes thing told reads source out = one_reading (reading.reads bytes) thing fault reads (fault_reads reading more old new fault bytes leaves.0 told)
  complete Usage leaves bytes thing told reads source out = leaves
  complete ReadFault leaves bytes thing told reads source out = source leaves.0
  complete WriteFault leaves bytes thing told reads source out = out leaves.leaves.written.rose
  complete Memory leaves bytes thing told reads source out = tt

  refused : (status : Status) → Leaves reading IsTextOf old new out_old out_new status → (bytes : List ℕ) (fault : ScriptFault) → old.left ≡ Some bytes → reading.reads bytes ≡ Err fault
      → ¬ HasRisen old.faults new.faults → IsRefusedOrMemory fault status
  refused Done leaves bytes fault told reads source =
      one_reading (reading.reads bytes) leaves.thing fault (told_reads reading old new (Ok leaves.thing) bytes leaves.read told) reads
  refused (Refused answered) leaves bytes fault told reads source = same_fault (reading.reads bytes) answered fault (fault_reads reading more old new answered bytes leaves.0 told) reads
  refused Usage leaves bytes fault told reads source = leaves
  refused ReadFault leaves bytes fault told reads source = source leaves.0
  refused WriteFault leaves bytes fault told reads source =
      one_reading (reading.reads bytes) leaves.thing fault (told_reads reading old new (Ok leaves.thing) bytes leaves.read told) reads
  refused Memory leaves bytes fault told reads source = tt

  -- what a command that reads leaves is how it ends
  pub ends : (status : Status) → Leaves reading IsTextOf old new out_old out_new status → Ends reading IsTextOf old new out_old out_new status
  ends status leaves = record { leaves = leaves; complete = complete status leaves; refused = refused status leaves }

-- a text of what was read ends the command
pub ends_with_text : {A : Type 0} (reading : Reading A) → RefusesMore reading → (IsTextOf : A → List ℕ → Type 0) (old new : SourceView) (out_old out_new : SinkView) (status : Status) (thing : A)
    → ReadsAs reading old new (Ok thing) → TextLeaves (IsTextOf thing) out_old out_new status → Ends reading IsTextOf old new out_old out_new status
ends_with_text reading more IsTextOf old new out_old out_new status thing read leaves = ends reading more IsTextOf old new out_old out_new status (left status leaves)
  where
    left : (status : Status) → TextLeaves (IsTextOf thing) out_old out_new status → Leaves reading IsTextOf old new out_old out_new status
    left Done leaves = record { thing = thing; read = read; leaves = leaves }
    left (Refused fault) leaves = absurd leaves
    left Usage leaves = leaves
    left ReadFault leaves = absurd leaves
    left WriteFault leaves = record { thing = thing; read = read; leaves = leaves }
    left Memory leaves = leaves

-- more bytes than a script may have
pub scripts_refuse_more : RefusesMore script_reading
scripts_refuse_more bytes h = let e : nat_lt 4194304 (length bytes) ≡ true = lt-ltb 4194304 (length bytes) h in rw e refl
