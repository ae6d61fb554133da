-- What a legal journal keeps on each surface of its script.
use Rattle.std.specs.List.{AllZip}
use Rattle.tree_revision.specs.InRange.{IsSurfaceInRange}
use Rattle.tree_revision.specs.Script.{PlainScript}
use Rattle.tree_revision.specs.Sound.{IsSoundScript}
use Rattle.run_report.specs.Journal.{PlainJournal}
use Rattle.run_report.specs.Legal.{IsLegal, IsLegalOn}
use Rattle.tree_revision.specs.Wishes.{as_written}
use Rattle.fabric_run.specs.Steps.{MayBeFollowed, MayBeRebuilt}
use Rattle.fabric_run.proofs.Zipped.{zip_weaker, zip_with_all}

module _ (script : PlainScript) (journal : PlainJournal) where
  -- its records can be made again
  pub each_rebuilt : IsSoundScript script → IsLegal script journal
      → AllZip (λ surface part. MayBeRebuilt surface.size part.records) script.surfaces journal.surfaces
  each_rebuilt sound legal =
      zip_with_all IsSurfaceInRange (λ surface part. IsLegalOn as_written script journal surface.size part) (λ surface part. MayBeRebuilt surface.size part.records)
      (λ surface part range on. record { size = range.size; lawful = on.history_is_lawful }) script.surfaces journal.surfaces sound.surfaces legal.surfaces

  -- and its mounts can be followed
  pub each_followed : IsLegal script journal → AllZip (λ surface part. MayBeFollowed surface.size part) script.surfaces journal.surfaces
  each_followed legal =
      zip_weaker (λ surface part. IsLegalOn as_written script journal surface.size part) (λ surface part. MayBeFollowed surface.size part)
      (λ surface part on. record { lawful = on.history_is_lawful; forward = on.mounts_follow_on.forward; mounts = on.views_follow.mounts })
      script.surfaces journal.surfaces legal.surfaces
