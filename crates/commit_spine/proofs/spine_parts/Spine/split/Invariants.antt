use Rattle.commit_spine.proofs.spine_parts.Spine.split.Given as goal

abbrev pub ghosts-split_by : goal.ghosts-split_by
ghosts-split_by a = record { permits = a.permits }
