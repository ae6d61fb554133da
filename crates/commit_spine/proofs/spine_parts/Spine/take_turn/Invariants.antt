use Rattle.std.proofs.Common.{◌≡◌, ◌-◌, ◌/◌, ◌^◌, ◌≤◌, []}
use Rattle.commit_spine.specs.StepKinds.{after_load_for_look}
use Rattle.commit_spine.proofs.spine_parts.Spine.take_turn.Given as goal

abbrev pub invariant-loop-word : goal.invariant-loop-word
invariant-loop-word l =
    (l.seat.table_id ≡ l.fn.seat.table_id)
    × (l.seat.id ≡ l.fn.seat.id)
    × (l.fn.seat.me.0.floor ≤ l.word / 2)
    × (l.seat.me ≡ (after_load_for_look l.fn.seat.me.0 l.word, []))

abbrev pub decreases-loop-word : goal.decreases-loop-word
decreases-loop-word l = 2 ^ 64 - l.word
