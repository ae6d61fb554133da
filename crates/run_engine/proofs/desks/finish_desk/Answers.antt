use Rattle.std.proofs.Common.{refl, ap, sym, ◌∙◌}
use Rattle.std.proofs.lemmas.Option.{same_Some}
use Rattle.commit_core.specs.PlainPorts.{records_of}
use Rattle.run_actor.specs.Event.{base_of}
use Rattle.run_engine.specs.Now.{desk_records}
use Rattle.run_engine.proofs.Closing.{spine_stands, base_stands, part_of_desk}
use Rattle.run_engine.proofs.desks.finish_desk.Goals as goal

pub close_surface-requires : goal.close_surface-requires
close_surface-requires c = record {
  first = c.args.desk.port.spine.first;
  entries = desk_records c.args.desk;
  stands = spine_stands c.args.desk.port c.parts-spine.result.0 c.parts-spine.result.1 c.into_parts-records.result.1 c.into_parts-records.result.1 c.parts-spine.ensures.told
      c.into_parts-records.ensures.front refl;
  mounted = base_stands c.args.desk c.requires c.in-Some.coordinator c.in-Some.is;
}

pub returns : goal.returns
returns c =
    part_of_desk c.args.id c.args.desk c.args.mounts _ c.into_parts-records.result.1 c.in-Some.coordinator c.close_surface.result
    (c.into_parts-records.ensures.records ∙ sym (same_Some (desk_records c.args.desk) (records_of c.parts-spine.result.0) c.parts-spine.ensures.told.whole))
    (spine_stands c.args.desk.port c.parts-spine.result.0 c.parts-spine.result.1 c.into_parts-records.result.1 c.into_parts-records.result.1 c.parts-spine.ensures.told
    c.into_parts-records.ensures.front refl)
    (base_stands c.args.desk c.requires c.in-Some.coordinator c.in-Some.is) (ap base_of c.in-Some.is) c.close_surface.ensures
