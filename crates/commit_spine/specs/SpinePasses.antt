-- A pass as its clauses see it.
use Rattle.std.specs.Prelude.{◌≡◌, ℕ, ◌^◌, ◌<◌, ◌≤◌, [], length, refl}
use Rattle.std.specs.Coded.{Coded, code_by, coded×}
use Rattle.atomic_table.specs.Seated.{TableId, table_id_coded}
use Rattle.commit_spine.specs.Passes.{no_turn, KeptByPass}
use Rattle.commit_spine.specs.Codes.{coded_kept_by_pass}
use Rattle.commit_spine.specs.StepTells.{Hand}

-- which spine a pass is of, and what it keeps
pub record PassValue : Type 0 where
  pub spine : TableId
  pub kept : KeptByPass

pub coded_pass : Coded PassValue
coded_pass = code_by (TableId × KeptByPass) (coded× table_id_coded coded_kept_by_pass) (λ p. (p.spine, p.kept)) (λ p. record { spine = p.0; kept = p.1 }) (λ _. refl)

-- between two calls a pass has no turn and nothing in hand, and its numbers are those that it keeps
pub record IsAtRest (me : Hand) (at left times_busy own_shares : ℕ) : Type 0 where
  pub hand : me.1 ≡ []
  pub turn : me.0.turn ≡ no_turn
  pub number : at ≡ length me.0.seen
  pub permits : left ≡ me.0.permits
  pub busy : times_busy ≡ me.0.busy
  pub shares : own_shares ≡ me.0.shares
  pub some_share : 0 < own_shares
  pub reached : length me.0.seen ≤ me.0.floor
  pub number_is_small : at < 2 ^ 62
  pub room_is_small : me.0.mark.room < 2 ^ 62
  pub seats_are_few : me.0.mark.seats < 2 ^ 32
