use Rattle.std.proofs.Common.{map, refl, subst, sym, take}
use Rattle.script_read.specs.Plain.{plain_surface}
use Rattle.run_report.proofs.Pairs.{all_zip_push}
use Rattle.run_engine.specs.Opening.{IsOpening, AreOpenings}
use Rattle.run_engine.proofs.Loops.{size_at, next_map}
use Rattle.run_engine.proofs.opening.openings_of.Goals as goal

pub opening-requires : goal.opening-requires
opening-requires c = size_at c.args.surfaces.now c.loop-surface.surface-index _ c.loop-surface-test.true c.requires

pub loop-surface-preserved : goal.loop-surface-preserved
loop-surface-preserved c =
    subst (λ surfaces. AreOpenings surfaces c.push.new.self.items) (sym (next_map plain_surface c.args.surfaces.now c.loop-surface.surface-index _ c.loop-surface-test.true))
    (subst (AreOpenings _) (sym c.in_ok-push.ensures.items)
    (all_zip_push IsOpening (map plain_surface (take c.loop-surface.surface-index c.args.surfaces.now)) c.loop-surface.first.items _ _
    c.loop-surface.invariant (record { id = refl; stands = c.in_ok-opening.ensures.stands })))
