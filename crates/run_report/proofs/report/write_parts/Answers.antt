use Rattle.std.proofs.Common.{map, codes}
use Rattle.std.proofs.lemmas.Result.{err_from_is_err_and}
use Rattle.byte_ports.proofs.Joined.{part_first, part_then, then_rest}
use Rattle.run_report.specs.Journal.{plain_actor_part, plain_surface_part}
use Rattle.run_report.specs.TextParts.{actors_text, all_mounts_text, histories_text}
use Rattle.run_report.proofs.report.write_parts.Goals as goal

pub returns-in_err-write_whole : goal.returns-in_err-write_whole
returns-in_err-write_whole g c =
    let p = err_from_is_err_and c.from_residual.result c.from_residual.ensures.1 in
    rw p.1
    (part_first _ _ (codes "report 1\n") _ c.in_err-write_whole.ensures)

pub returns-in_err-write_histories : goal.returns-in_err-write_histories
returns-in_err-write_histories g c =
    let p = err_from_is_err_and c.from_residual-in_err-write_histories.result c.from_residual-in_err-write_histories.ensures.1 in
    rw p.1
    (part_then _ _ _ (codes "report 1\n") _ c.in_ok-write_whole.ensures
    (part_first _ _ (histories_text (map plain_actor_part c.args.actors.now) (map plain_surface_part c.args.surfaces.now)) _ c.in_err-write_histories.ensures))

pub returns-in_err-write_actors : goal.returns-in_err-write_actors
returns-in_err-write_actors g c =
    let p = err_from_is_err_and c.from_residual-in_err-write_actors.result c.from_residual-in_err-write_actors.ensures.1 in
    rw p.1
    (part_then _ _ _ (codes "report 1\n") _ c.in_ok-write_whole.ensures
    (part_then _ _ _ (histories_text (map plain_actor_part c.args.actors.now) (map plain_surface_part c.args.surfaces.now)) _ c.in_ok-write_histories.ensures
    (part_first _ _ (actors_text (map plain_actor_part c.args.actors.now)) _ c.in_err-write_actors.ensures)))

pub returns-in_err-write_all_mounts : goal.returns-in_err-write_all_mounts
returns-in_err-write_all_mounts g c =
    let p = err_from_is_err_and c.from_residual-in_err-write_all_mounts.result c.from_residual-in_err-write_all_mounts.ensures.1 in
    rw p.1
    (part_then _ _ _ (codes "report 1\n") _ c.in_ok-write_whole.ensures
    (part_then _ _ _ (histories_text (map plain_actor_part c.args.actors.now) (map plain_surface_part c.args.surfaces.now)) _ c.in_ok-write_histories.ensures
    (part_then _ _ _ (actors_text (map plain_actor_part c.args.actors.now)) _ c.in_ok-write_actors.ensures
    (part_first _ _ (all_mounts_text (map plain_actor_part c.args.actors.now) (map plain_surface_part c.args.surfaces.now)) _ c.in_err-write_all_mounts.ensures))))

pub returns : goal.returns
returns g c =
    then_rest _ _ _ (codes "report 1\n") _ _ c.in_ok-write_whole.ensures
    (then_rest _ _ _ (histories_text (map plain_actor_part c.args.actors.now) (map plain_surface_part c.args.surfaces.now)) _ _ c.in_ok-write_histories.ensures
    (then_rest _ _ _ (actors_text (map plain_actor_part c.args.actors.now)) _ _ c.in_ok-write_actors.ensures
    (then_rest _ _ _ (all_mounts_text (map plain_actor_part c.args.actors.now) (map plain_surface_part c.args.surfaces.now)) _ _ c.in_ok-write_all_mounts.ensures
    (c.write_whole-2.ensures))))
