-- The run of a script's turns has come to its end.
use Rattle.std.proofs.Common.{◌≡◌, ℕ, ◌++◌, length, slice_get, Some, arith, sym, ◌∙◌, subst, inl, inr}
use Rattle.std.proofs.lemmas.Bool.{cases_lt}
use Rattle.std.proofs.lemmas.Option.{none-some, slice_get_past}
use Rattle.std.proofs.lemmas.List.Sums.{fold-append}
use Rattle.tree_revision.specs.Script.{PlainScript}
use Rattle.tree_revision.specs.Sound.{IsSoundScript}
use Rattle.run_report.specs.Legal.{IsHookLegal}
use Rattle.run_report.specs.Machine.{RunNow, run_of, after_hooked_turn, ending_turns, journal_of_hooked_turns}
use Rattle.run_report.specs.Shorthands.{after_hooked_turns}
use Rattle.tree_revision.specs.Wishes.{Wish, KeepsRange}
use Rattle.run_report.proofs.Kept.{IsHookedRun}
use Rattle.run_report.proofs.Begun.{hooked_run_begun}
use Rattle.run_report.proofs.Runs.{hooked_turns_kept}
use Rattle.run_report.proofs.Ending.{IsEnded, ending_ends}
use Rattle.run_report.proofs.Legal.{legal_at_end}

module _ (wish : Wish) (keeps : KeepsRange wish) (script : PlainScript) (sound : IsSoundScript script) where
  -- the run after the script's turns and the ending ones
  abbrev pub run_at_end : RunNow
  run_at_end = after_hooked_turns wish (run_of script) (script.turns ++ ending_turns script.actors)

  -- it keeps what a run keeps
  pub end_kept : IsHookedRun wish script run_at_end
  end_kept = hooked_turns_kept script sound wish keeps (run_of script) (hooked_run_begun wish script) (script.turns ++ ending_turns script.actors)

  -- each actor is at its end
  pub all_ended : (number : ℕ) → IsEnded run_at_end number
  all_ended number =
      elim (cases_lt number (length script.actors)) [
        | inl below ↦
            subst (λ r. IsEnded r number) (sym (fold-append (after_hooked_turn wish) (run_of script) script.turns (ending_turns script.actors)))
            (ending_ends wish keeps script sound script.actors 0 (after_hooked_turns wish (run_of script) script.turns)
            (hooked_turns_kept script sound wish keeps (run_of script) (hooked_run_begun wish script) script.turns)
            (λ j k a e t. let n : j ≡ k = omega (arith, e) in subst (λ i. slice_get script.actors i ≡ Some a) n t) number number (omega arith) below)
        | inr above ↦ λ actor at. absurd (none-some actor (sym (slice_get_past run_at_end.actors number (omega (arith, above, end_kept.count))) ∙ at))
      ]

  -- the journal of a script's turns is legal
  pub turns_legal : IsHookLegal wish script (journal_of_hooked_turns wish script)
  turns_legal = legal_at_end wish script sound run_at_end end_kept all_ended
