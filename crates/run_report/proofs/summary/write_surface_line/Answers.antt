use Rattle.run_report.proofs.summary.write_surface_line.Goals as goal

pub returns : goal.returns
returns g c = rw c.counts_of.ensures at c.write_counts.ensures
