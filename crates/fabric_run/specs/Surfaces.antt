-- The surfaces of a script, and what the run of its turns did on them.
use Rattle.std.specs.Prelude.{List, zip}
use Rattle.tree_revision.specs.Script.{PlainSurface, PlainScript}
use Rattle.run_report.specs.Journal.{PlainSurfacePart, PlainJournal}
use Rattle.run_report.specs.Machine.{journal_of_turns}

-- a surface, and what a run did on it
abbrev pub RunSurface : Type 0
RunSurface = PlainSurface × PlainSurfacePart

-- each surface of a script with its part of a journal
abbrev pub surfaces_in : PlainScript → PlainJournal → List RunSurface
surfaces_in script journal = zip script.surfaces journal.surfaces

-- each surface of a script with what the run of its turns did on it
abbrev pub surfaces_of_turns : PlainScript → List RunSurface
surfaces_of_turns script = surfaces_in script (journal_of_turns script)
