-- What a pass saw, as more is committed by others.
use Rattle.std.proofs.Common.{◌≡◌, ◌≤◌, length, take, arith, ap, sym, ◌∙◌, subst}
use Rattle.std.proofs.Math.Seq.{take-length}
use base.Stored.{gnum}
use Rattle.tree_revision.specs.Ports.{Told, BeginsWith, Lasts}
use Rattle.commit_core.specs.declared.plain_parts.PlainSpine.{PlainSpine}
use Rattle.commit_core.specs.declared.plain_parts.PlainPass.{PlainPass}
use Rattle.commit_core.specs.PlainPorts.{records_of, IsToldOf}
use Rattle.commit_core.proofs.Steps.{take_begins}

seen_stays : (earlier later : PlainSpine) (pass : PlainPass) (old new : Told) → pass.floor ≤ length (records_of earlier)
    → BeginsWith (records_of later) (records_of earlier) → IsToldOf earlier pass old → IsToldOf later pass new → new.seen ≡ old.seen
seen_stays earlier later pass old new reached begins before after =
    after.seen ∙ take_begins (records_of later) (records_of earlier) pass.seen begins (omega (arith, pass.seen_is_reached, reached)) ∙ sym before.seen

pub pass_stays : (earlier later : PlainSpine) (pass : PlainPass) (old new : Told) → pass.floor ≤ length (records_of earlier)
    → BeginsWith (records_of later) (records_of earlier) → later.first ≡ earlier.first → later.room ≡ earlier.room
    → IsToldOf earlier pass old → IsToldOf later pass new → (new.seen ≡ old.seen) × Lasts old new
pass_stays earlier later pass old new reached begins first room before after =
    let same : new.seen ≡ old.seen = seen_stays earlier later pass old new reached begins before after in (
      same,
      record {
        mark = after.mark ∙ ap gnum room ∙ sym before.mark;
        first = after.first ∙ first ∙ sym before.first;
        seen = record {
          within = omega (arith, ap length same);
          same = subst (λ seen. take (length old.seen) seen ≡ old.seen) (sym same) (take-length old.seen);
        };
        busy = omega (arith, before.busy, after.busy);
        floor = omega (arith, before.floor, after.floor);
        reached = omega (arith, after.count, after.floor, pass.seen_is_reached);
        looks = omega (arith, before.looks, after.looks);
      },
    )
