-- The answers of a legal journal of a sound script within the counts are in range.
use Rattle.std.proofs.Common.{◌≡◌, ◌≤◌, ◌<◌, ◌+◌, ◌-◌, ℕ, zero, suc, Bool, true, false, cond, List, [], ◌∷◌, length, take, drop, find, count_by, nat_eq, Option, Some, None, unwrap_or, arith, refl, subst, sym}
use Rattle.std.specs.Prelude.{is_none}
use Rattle.std.specs.List.{range_with_len}
use Rattle.std.proofs.lemmas.Bool.{eqb-true}
use Rattle.std.proofs.lemmas.List.{length-take, take-append-drop}
use Rattle.std.proofs.lemmas.List.Sums.{sum_by-append}
use Rattle.shadow_frame.specs.declared.Size.{Size}
use Rattle.tree_settle.specs.Limits.{IsSizeInRange}
use Rattle.tree_revision.specs.Records.{PlainRecord}
use Rattle.tree_revision.specs.Script.{PlainAct, commit, hold, mount}
use Rattle.tree_revision.specs.InRange.{IsActInRange}
use Rattle.tree_revision.specs.Revisions.{revision_of}
use Rattle.tree_revision.specs.Newest.{newest_state}
use Rattle.tree_revision.specs.Mountable.{mountable_of}
use Rattle.tree_revision.specs.Lawful.{IsLawful}
use Rattle.tree_revision.specs.declared.record.Cancel.{Cancel}
use Rattle.tree_revision.specs.declared.record.Answer.{Answer}
use Rattle.tree_revision.specs.declared.record.Answer.TheVariants.{Held, Admitted, Cancelled, Mounted, Empty}
use Rattle.tree_revision.proofs.Histories.{IsLawful-front}
use Rattle.run_report.specs.Points.{look_point, first_mountable, point_before, number_held}
use Rattle.tree_revision.specs.Wishes.{as_written}
use Rattle.run_report.specs.Legal.{TakenStep, cancel_for_act, HasCause, room_for_tries, HasRoomForTries}
use Rattle.run_report.specs.Ranges.{IsCauseInRange, IsAnswerInRange}
use Rattle.run_report.proofs.Lists.{all_true, all_found}
use Rattle.run_report.proofs.CellsInRange.{newest_count}
use Rattle.run_report.proofs.RevisionsInRange.{revisions_in_range}
use Rattle.run_report.proofs.CausesInRange.{cause_in_range}

-- no more numbers of a range are counted than it has
counted_le : (p : ℕ → Bool) (from n : ℕ) → count_by p (range_with_len from n) ≤ n
counted_le p from zero = omega arith
counted_le p from (suc n) =
    let rest = counted_le p (from + 1) n in
    let front : count_by p (from ∷ range_with_len (from + 1) n) ≡ cond (p from) 1 0 + count_by p (range_with_len (from + 1) n) =
    omega (arith, sum_by-append (λ x. cond (p x) 1 0) (from ∷ []) (range_with_len (from + 1) n)) in
    elim (p from) as (λ b. count_by p (from ∷ range_with_len (from + 1) n) ≡ cond b 1 0 + count_by p (range_with_len (from + 1) n) → count_by p (from ∷ range_with_len (from + 1) n) ≤ suc n) [
      | true ↦ λ e. omega (arith, e, rest)
      | false ↦ λ e. omega (arith, e, rest)
    ] front

-- what may be mounted is at most the count of records
mountable_le : (entries : List PlainRecord) (number most : ℕ) → length entries ≤ most → mountable_of entries ≡ number → number ≤ most
mountable_le entries number most low is = omega (arith, low, is)

-- where a number may be mounted, it is at most the count of records
found_le : (entries : List PlainRecord) (range : List ℕ) (number : ℕ) (found : Option ℕ) → find (λ q. nat_eq (mountable_of (take q entries)) number) range ≡ found
    → unwrap_or found (length entries + 1) ≤ length entries → number ≤ length entries
found_le entries range number None is low = absurd (omega arith)
found_le entries range number (Some q) is low =
    let passes = (all_found (λ q. nat_eq (mountable_of (take q entries)) number) (λ q. Unit {0}) range q (all_true (λ q. Unit {0}) (λ q. tt) range) is).1 in
    mountable_le (take q entries) number (length entries) (omega (arith, length-take q entries)) (eqb-true (mountable_of (take q entries)) number passes)

mounted_le : (entries : List PlainRecord) (before number : ℕ) → first_mountable entries before number ≤ length entries → number ≤ length entries
mounted_le entries before number low =
    found_le entries (range_with_len before (length entries + 1 - before)) number (find (λ q. nat_eq (mountable_of (take q entries)) number) (range_with_len before (length entries + 1 - before))) refl low

-- the cause of a step's cancel, in a lawful history
act_cause : (first : Size) (entries : List PlainRecord) (held : ℕ) (act : PlainAct) (at : ℕ) (cause : Cancel) → IsSizeInRange first → IsLawful first entries
    → length entries ≤ 2048 → IsActInRange act → cancel_for_act as_written first entries held act at ≡ Some cause → IsCauseInRange cause
act_cause first entries held (commit op) at cause size lawful small range is =
    let front = take at entries in
    let lawful_front : IsLawful first front = IsLawful-front first front (drop at entries) (subst (IsLawful first) (sym (take-append-drop at entries)) lawful) in
    cause_in_range op (revision_of first front) (revision_of first (take held front)) (newest_state front) cause range
    (revisions_in_range first front size lawful_front held).fields
    (λ tag. omega (arith, newest_count front tag, length-take at entries, small)) is
act_cause first entries held hold at cause size lawful small range is = absurd cc
act_cause first entries held mount at cause size lawful small range is = absurd cc

-- a mount leads forward
abbrev pub LeadsForward : Answer → Type 0
LeadsForward (Mounted base to) = base < to
LeadsForward _ = Unit {0}

-- the tries of a step are as many as the numbers that it could look at, and one
tries_le : (first : Size) (id : ℕ) (entries : List PlainRecord) (taken : TakenStep) (tries : ℕ)
    → look_point entries (point_before id entries taken.earlier) taken.answer ≤ length entries → tries ≤ room_for_tries as_written first id entries taken + 1
    → tries ≤ length entries + 1
tries_le first id entries taken tries looks room =
    let before = point_before id entries taken.earlier in
    omega (arith, looks, room, counted_le (λ number. is_none (cancel_for_act as_written first entries (number_held id taken.earlier) taken.step.act number)) before (look_point entries before taken.answer - before))

-- an answer that looks at what there is, with as many tries as there is room for, and its cause
pub answer_in_range : (first : Size) (id : ℕ) (entries : List PlainRecord) (taken : TakenStep) (answer : Answer) → IsSizeInRange first → IsLawful first entries
    → length entries ≤ 2048 → IsActInRange taken.step.act → taken.answer ≡ answer → look_point entries (point_before id entries taken.earlier) taken.answer ≤ length entries
    → HasRoomForTries as_written first id entries taken answer → HasCause as_written first id entries taken answer → LeadsForward answer → IsAnswerInRange answer
answer_in_range first id entries taken (Held at) size lawful small act same looks room cause forward =
    let at_most = subst (λ answer. look_point entries (point_before id entries taken.earlier) answer ≤ length entries) same looks in omega (arith, at_most, small)
answer_in_range first id entries taken (Admitted number tries) size lawful small act same looks room cause forward =
    let at_most = subst (λ answer. look_point entries (point_before id entries taken.earlier) answer ≤ length entries) same looks in (
      omega (arith, at_most, small),
      omega (arith, tries_le first id entries taken tries looks room.1, small),
    )
answer_in_range first id entries taken (Cancelled at tries why) size lawful small act same looks room cause forward =
    let at_most = subst (λ answer. look_point entries (point_before id entries taken.earlier) answer ≤ length entries) same looks in (
      omega (arith, at_most, small),
      omega (arith, tries_le first id entries taken tries looks room.1, small),
      act_cause first entries (number_held id taken.earlier) taken.step.act at why size lawful small act cause,
    )
answer_in_range first id entries taken (Mounted base to) size lawful small act same looks room cause forward =
    let at_most = subst (λ answer. look_point entries (point_before id entries taken.earlier) answer ≤ length entries) same looks in
    let within = mounted_le entries (point_before id entries taken.earlier) to at_most in (omega (arith, forward, within, small), omega (arith, within, small))
answer_in_range first id entries taken (Empty at) size lawful small act same looks room cause forward =
    let at_most = subst (λ answer. look_point entries (point_before id entries taken.earlier) answer ≤ length entries) same looks in
    let within = mounted_le entries (point_before id entries taken.earlier) at at_most in omega (arith, within, small)
