use Rattle.std.proofs.Common.{refl}
use Rattle.std.proofs.lemmas.List.{length-map}
use Rattle.host_views.specs.Plain.{plain_placed}
use Rattle.tree_revision.specs.Records.{plain_record}
use Rattle.run_report.specs.Journal.{plain_mount}
use Rattle.run_report.proofs.summary.counts_of.Goals as goal

pub returns : goal.returns
returns c =
    rw (length-map c.args.part.now.records plain_record, length-map c.args.part.now.mounts plain_mount, length-map c.args.part.now.last plain_placed)
    (rw (c.len.ensures, c.cancelled_on.ensures, c.len-2.ensures, c.mutation_count.ensures, c.as_slice.ensures, c.len-3.ensures) refl)
