-- When the text of a report tells its journal.
use Rattle.std.specs.Prelude.{IsTrue, bytes_eq}
use Rattle.std.specs.List.{AllByRecursion, IsDistinct}
use Rattle.tree_revision.specs.Script.{PlainScript}
use Rattle.tree_revision.specs.Sound.{is_name, names_of}
use Rattle.run_report.specs.Journal.{PlainJournal}
use Rattle.run_report.specs.Named.{NamesItsActors}
use Rattle.run_report.specs.Legal.{HasFormOf, CommitsStandOnce}
use Rattle.tree_revision.specs.Wishes.{as_written}
use Rattle.run_report.specs.Ranges.{IsInRange}

-- each actor of a script has a name of its own
pub record HasNames (script : PlainScript) : Type 0 where
  pub names : AllByRecursion (λ name. IsTrue (is_name name)) (names_of script.actors)
  pub differ : IsDistinct bytes_eq (names_of script.actors)

-- a journal of a script whose report tells it: it has the script's form, each admitted commit stands once, each actor that it names is its own, and its numbers and the props of its views are in range
pub record IsReadable (script : PlainScript) (journal : PlainJournal) : Type 0 where
  pub form : HasFormOf script journal
  pub commits : AllByRecursion (λ part. CommitsStandOnce as_written script journal part.id part.records) journal.surfaces
  pub names : NamesItsActors journal
  pub ranges : IsInRange journal
