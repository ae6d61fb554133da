use Rattle.std.proofs.Common.{◌≡◌, map, drop}
use Rattle.serde_json.specs.View.{view}
use Rattle.script_read.specs.Places.{first_of, refused}
use Rattle.script_read.specs.Checks.{passes}
use Rattle.script_read.proofs.places.first_refused.Given as goal

abbrev pub invariant-loop-member : goal.invariant-loop-member
invariant-loop-member l =
    first_of (map (λ member. refused member.0.now (passes member.1) (view l.value)) (drop l.member-index l.members))
    ≡ first_of (map (λ member. refused member.0.now (passes member.1) (view l.value)) l.members)
