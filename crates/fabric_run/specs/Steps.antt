-- What the parts of a command do; each is a part of a definition of `Outcome`, and nothing is promised by them.
use Rattle.std.specs.Prelude.{◌≡◌, ◌≤◌, List, [], ℕ, Result, Ok, Err, map, codes, IfSome}
use Rattle.std.specs.Borrow.{Bor}
use Rattle.std.specs.Str.Parse.{IsNumeral, without_leading_plus}
use Rattle.clap.specs.Simple.{app_of}
use Rattle.clap.specs.Walk.{Row, Text, one_of}
use Rattle.clap.specs.declared.builder.command.Command.{Command as CommandLine}
use Rattle.counts.specs.Raised.{HasRisen}
use Rattle.byte_ports.specs.Sources.{SourceView}
use Rattle.byte_ports.specs.Sinks.{SinkView}
use Rattle.shadow_frame.specs.declared.Size.{Size}
use Rattle.tree_settle.specs.Limits.{IsSizeInRange}
use Rattle.host_views.specs.Registry.{registry_of}
use Rattle.tree_revision.specs.Lawful.{IsLawful}
use Rattle.tree_revision.specs.Records.{PlainRecord}
use Rattle.script_read.specs.Plain.{plain_script}
use Rattle.script_read.specs.declared.script.Script.{Script}
use Rattle.run_report.specs.Journal.{PlainSurfacePart}
use Rattle.run_report.specs.Legal.{AreMountsOn, FollowOn}
use Rattle.run_report.specs.Mounts.{passage_in}
use Rattle.fabric_run.specs.declared.status.Status.{Status}
use Rattle.fabric_run.specs.declared.status.Status.TheVariants.{Done, Refused, Usage, ReadFault, WriteFault, Memory}
use Rattle.fabric_run.specs.Outcome.{Appends, AppendsPart, ReadsAs, HasFault}
use Rattle.fabric_run.specs.Commands.{script_reading}
use Rattle.fabric_run.specs.Words.{app_with, command_words, number_in}

-- what reading a script leaves on the source: the script that its bytes are, or the status that the program ends with
abbrev pub ReadsFromSource : (old new : SourceView) → Result Script Status → Type 0
ReadsFromSource old new (Ok script) = ReadsAs script_reading old new (Ok (plain_script script))
ReadsFromSource old new (Err Done) = ⊥
ReadsFromSource old new (Err (Refused fault)) = HasFault script_reading old new fault
ReadsFromSource old new (Err Usage) = ⊥
ReadsFromSource old new (Err ReadFault) = HasRisen old.faults new.faults
ReadsFromSource old new (Err WriteFault) = ⊥
ReadsFromSource old new (Err Memory) = Unit {0}

-- what writing a text at hand leaves on the sink
abbrev pub WritesText : List ℕ → (old new : SinkView) → Status → Type 0
WritesText text old new Done = Appends old new text
WritesText text old new (Refused fault) = ⊥
WritesText text old new Usage = ⊥
WritesText text old new ReadFault = ⊥
WritesText text old new WriteFault = AppendsPart old new text
WritesText text old new Memory = new ≡ old

-- a command line that was built is the program's, wherever the words of its commands lie
pub record IsCommandLine (line : CommandLine) : Type 0 where
  pub names : Bor (List (Bor Text))
  pub are : map (λ name. name.now) names.now ≡ command_words
  pub app : app_of line ≡ app_with names

-- a text is a number of at most 1,000,000
pub record IsSmallNumeral (text : Text) : Type 0 where
  pub numeral : IsNumeral 10 (without_leading_plus text)
  pub small : number_in text ≤ 1000000

-- so is the text that was found for `number`, where there is one
abbrev pub HasReadableNumber : List Row → Type 0
HasReadableNumber rows = IfSome (one_of (codes "number") rows) IsSmallNumeral

-- records of which the revisions can be made again, on a surface of that first size
pub record MayBeRebuilt (first : Size) (entries : List PlainRecord) : Type 0 where
  pub size : IsSizeInRange first
  pub lawful : IsLawful first entries

-- mounts that can be followed, on a surface of that first size: over a lawful history each leads on from where the one before it led to, and from no view on the views follow
pub record MayBeFollowed (first : Size) (part : PlainSurfacePart) : Type 0 where
  pub lawful : IsLawful first part.records
  pub forward : FollowOn 0 (map passage_in part.mounts)
  pub mounts : AreMountsOn first part.records (registry_of []) part.mounts
