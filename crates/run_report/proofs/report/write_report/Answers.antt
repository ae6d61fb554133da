use Rattle.std.proofs.lemmas.List.{length-map}
use Rattle.run_report.specs.Journal.{plain_actor_part}
use Rattle.run_report.proofs.report.write_report.Goals as goal

pub write_parts-requires : goal.write_parts-requires
write_parts-requires g c =
    rw (c.as_slice.ensures, c.as_slice-2.ensures) (rw (length-map c.args.journal.now.actors plain_actor_part) at c.requires)
