use Rattle.std.proofs.Common.{◌≡◌, ◌<◌, ◌+◌, ◌++◌, ◌∷◌, ◌∙◌, arith, ap, drop, length, map, rules, sym, slice_index_or}
use Rattle.std.specs.Prelude.{pos, zip}
use Rattle.std.specs.List.{AllZip}
use Rattle.tree_revision.specs.Script.{PlainSurface}
use Rattle.script_read.specs.declared.script.SurfacePlan.{SurfacePlan}
use Rattle.script_read.specs.Plain.{plain_script, plain_surface}
use Rattle.run_report.specs.Journal.{PlainSurfacePart, plain_journal, plain_surface_part}
use Rattle.fabric_run.specs.Frames.{frames_on}
use Rattle.fabric_run.specs.Steps.{MayBeFollowed}
use Rattle.fabric_run.proofs.LegalSurfaces.{each_followed}
use Rattle.fabric_run.proofs.Zipped.{gathered, same_place, zipped_at, zipped_from, zipped_length}
use Rattle.fabric_run.proofs.frames.frames_of.Goals as goal

pub frames_on-requires : goal.frames_on-requires
frames_on-requires c =
    let surfaces = c.as_slice-surfaces.result.now in
    let parts = c.as_slice-part-items.result.now in
    let R = λ (s : PlainSurface) (p : PlainSurfacePart). MayBeFollowed s.size p in
    let each : AllZip R (map plain_surface surfaces) (map plain_surface_part parts) =
    rw (c.as_slice-surfaces.ensures, c.as_slice-part-items.ensures) (each_followed (plain_script c.args.script.now) (plain_journal c.args.journal.now) c.requires) in
    let also : c.loop-at.at < length parts = search rules in
    let below : c.loop-at.at < length surfaces = omega (arith, also, zipped_length plain_surface plain_surface_part R surfaces parts each) in
    zipped_at plain_surface plain_surface_part R surfaces parts c.loop-at.at _ c.part-item.result each also (same_place surfaces c.loop-at.at _ _ below) c.part-item.is

pub loop-at-preserved : goal.loop-at-preserved
loop-at-preserved c =
    let surfaces = c.as_slice-surfaces.result.now in
    let parts = c.as_slice-part-items.result.now in
    let R = λ (s : PlainSurface) (p : PlainSurfacePart). MayBeFollowed s.size p in
    let each : AllZip R (map plain_surface surfaces) (map plain_surface_part parts) =
    rw (c.as_slice-surfaces.ensures, c.as_slice-part-items.ensures) (each_followed (plain_script c.args.script.now) (plain_journal c.args.journal.now) c.requires) in
    let also : c.loop-at.at < length parts = search rules in
    let below : c.loop-at.at < length surfaces = omega (arith, also, zipped_length plain_surface plain_surface_part R surfaces parts each) in
    let surface : SurfacePlan = slice_index_or surfaces c.loop-at.at (record { id = 0; size = record { width = pos 0; height = pos 0 } }) in
    let next = frames_on (plain_surface surface, plain_surface_part c.part-item.result) in
    let from = zipped_from plain_surface plain_surface_part surfaces parts c.loop-at.at surface c.part-item.result below also (same_place surfaces c.loop-at.at _ _ below) c.part-item.is in
    let rest = zip (map plain_surface (drop (c.loop-at.at + 1) surfaces)) (map plain_surface_part (drop (c.loop-at.at + 1) parts)) in
    let whole = map (frames_on) (zip (map plain_surface surfaces) (map plain_surface_part parts)) in
    let before : c.loop-at.list.items ++ next ∷ map (frames_on) rest ≡ whole = ap (λ pairs. c.loop-at.list.items ++ map (frames_on) pairs) (sym from) ∙ c.loop-at.invariant in
    rw (c.in_ok-push.ensures.items, c.in_ok-frames_on.ensures) (gathered c.loop-at.list.items next (map (frames_on) rest) whole before)
