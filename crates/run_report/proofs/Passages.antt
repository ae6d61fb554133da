-- The passages that answers name, and the records of steps, after one more answer.
use Rattle.std.proofs.Common.{◌≡◌, ℕ, ◌+◌, ◌<◌, Bool, true, false, cond, ◌&&◌, List, [], ◌∷◌, ◌++◌, length, nat_eq, slice_get, slice_set, option_map, Option, Some, None, arith, refl, ap, sym, ◌∙◌, subst, append-nil, true≢false, inl, inr}
use Rattle.std.specs.List.{AllZip, fold, flat_map, enumerate_from, list_any}
use Rattle.std.proofs.lemmas.Bool.{or_parts, and_cases}
use Rattle.std.proofs.lemmas.Option.{slice_get-map, same_Some}
use Rattle.std.proofs.lemmas.List.{map-set}
use Rattle.std.proofs.lemmas.List.Sums.{fold_push}
use Rattle.tree_revision.specs.Script.{PlainAct, commit, hold, mount, PlainStep, PlainActor}
use Rattle.tree_revision.specs.Sound.{is_mount, mounts_on}
use Rattle.tree_revision.specs.declared.record.Answer.{Answer}
use Rattle.tree_revision.specs.declared.record.Answer.TheVariants.{Held, Admitted, Cancelled, Mounted, Empty}
use Rattle.run_report.specs.declared.journal.StepName.{StepName}
use Rattle.run_report.specs.declared.journal.StepPart.{StepPart}
use Rattle.run_report.specs.Journal.{PlainActorPart}
use Rattle.run_report.specs.Mounts.{Passage, passage_of, passages_by, last_to}
use Rattle.run_report.specs.Shorthands.{passage_on, passages_named}
use Rattle.run_report.specs.Legal.{IsAnswerTo, Answers, FollowOn}
use Rattle.run_report.specs.Machine.{ActorNow, actor_part_of}
use Rattle.run_report.proofs.Lists.{enumerate_from-push, flat_map_push, numbered_same, numbered_lone}
use Rattle.run_report.proofs.Kept.{parts_of, IsActorOf}

-- passages that follow on, and one more that does
pub follow_on_push : (base : ℕ) (passages : List Passage) (step : Passage) → FollowOn base passages → step.base ≡ fold (λ number step. step.to) base passages → step.base < step.to
    → FollowOn base (passages ++ step ∷ [])
follow_on_push base [] step h at up = (at, up, tt)
follow_on_push base (p ∷ passages) step h at up = (h.0, h.1, follow_on_push p.to passages step h.2 at up)

-- the last passage is the one that came last
pub last_to-push : (passages : List Passage) (step : Passage) → last_to (passages ++ step ∷ []) ≡ step.to
last_to-push passages step = fold_push (λ number step. step.to) 0 passages step

-- the passage of one more answer comes last
pub passages_by-push : (id actor : ℕ) (parts : List StepPart) (part : StepPart)
    → passages_by id actor (parts ++ part ∷ []) ≡ passages_by id actor parts ++ passage_on id (record { actor = actor; call = length parts }) part
passages_by-push id actor parts part =
    let f = λ (entry : ℕ × StepPart). passage_on id (record { actor = actor; call = entry.0 }) entry.1 in
    let k : 0 + length parts ≡ length parts = omega arith in
    ap (flat_map f) (enumerate_from-push 0 parts part) ∙ flat_map_push f (enumerate_from 0 parts) (0 + length parts, part)
    ∙ ap (λ n. passages_by id actor parts ++ passage_on id (record { actor = actor; call = n }) part) k

-- no passages where a surface has no more
pub nothing_more : (b : Bool) (passages : List Passage) → passages ≡ [] → cond b passages [] ≡ []
nothing_more true passages e = e
nothing_more false passages e = refl

-- an answer that names no passage leaves an actor's passages of its surface
pub passages_by-quiet : (id actor : ℕ) (parts : List StepPart) (answer : Answer) → passage_of (record { actor = actor; call = length parts }) answer ≡ []
    → passages_by id actor (parts ++ (record { surface = id; answer = answer }) ∷ []) ≡ passages_by id actor parts
passages_by-quiet id actor parts answer quiet =
    passages_by-push id actor parts (record { surface = id; answer = answer })
    ∙ ap (λ l. passages_by id actor parts ++ l) (nothing_more (nat_eq id id) (passage_of (record { actor = actor; call = length parts }) answer) quiet)
    ∙ append-nil (passages_by id actor parts)

-- an answer to what is no mount names no passage
pub no_passage : (name : StepName) (act : PlainAct) (answer : Answer) → IsAnswerTo act answer → is_mount act ≡ false → passage_of name answer ≡ []
no_passage name act (Held at) h m = refl
no_passage name act (Admitted number tries) h m = refl
no_passage name act (Cancelled at tries cause) h m = refl
no_passage name (commit op) (Mounted base to) h m = absurd h
no_passage name hold (Mounted base to) h m = absurd h
no_passage name mount (Mounted base to) h m = absurd (true≢false m)
no_passage name act (Empty at) h m = refl

-- the answers of an actor that does not mount the surface name no passage there
pub no_passages : (id actor n : ℕ) (done left : List PlainStep) (parts : List StepPart) → AllZip Answers done parts
    → list_any (λ step. is_mount step.act && nat_eq step.surface id) (done ++ left) ≡ false
    → flat_map (λ entry. passage_on id (record { actor = actor; call = entry.0 }) entry.1) (enumerate_from n parts) ≡ []
no_passages id actor n [] left [] h none = refl
no_passages id actor n [] left (p ∷ parts) h none = absurd h
no_passages id actor n (d ∷ done) left [] h none = absurd h
no_passages id actor n (d ∷ done) left (p ∷ parts) h none =
    let both = or_parts (is_mount d.act && nat_eq d.surface id) (list_any (λ step. is_mount step.act && nat_eq step.surface id) (done ++ left)) none in
    let name : StepName = record { actor = actor; call = n } in
    let here : passage_on id name p ≡ [] =
    elim (and_cases (is_mount d.act) (nat_eq d.surface id) both.0) [
      | inl e ↦ no_part (nat_eq p.surface id) (no_passage name d.act p.answer h.0.answer e)
      | inr e ↦ ap (λ b. cond b (passage_of name p.answer) []) (subst (λ s. nat_eq s id ≡ false) (sym h.0.surface) e)
    ] in
    ap (λ l. l ++ flat_map (λ entry. passage_on id (record { actor = actor; call = entry.0 }) entry.1) (enumerate_from (n + 1) parts)) here
    ∙ no_passages id actor (n + 1) done left parts h.1 both.1
  where
    no_part : {xs : List Passage} (b : Bool) → xs ≡ [] → cond b xs [] ≡ []
    no_part true e = e
    no_part false e = refl

-- so with an actor of a run
pub no_passages_by : (id number : ℕ) (script_actor : PlainActor) (actor : ActorNow) → IsActorOf script_actor actor → mounts_on id script_actor ≡ false
    → passages_by id number actor.answers ≡ []
no_passages_by id number script_actor actor of none =
    no_passages id number 0 of.through.done actor.left actor.answers of.through.answers
    (subst (λ l. list_any (λ step. is_mount step.act && nat_eq step.surface id) l ≡ false) of.through.whole none)

-- the parts of the actors, one of which is set
pub parts_set : (actors : List ActorNow) (i : ℕ) (actor : ActorNow) → parts_of (slice_set actors i actor) ≡ slice_set (parts_of actors) i (actor_part_of actor)
parts_set actors i actor = map-set actor_part_of actors i actor

-- an actor stands with its part
pub part_at : (actors : List ActorNow) (i : ℕ) (actor : ActorNow) → slice_get actors i ≡ Some actor → slice_get (parts_of actors) i ≡ Some (actor_part_of actor)
part_at actors i actor at = slice_get-map actor_part_of actors i ∙ ap (option_map actor_part_of) at

-- an actor whose answers name the same passages leaves those of all
pub passages_stay : (id : ℕ) (actors : List ActorNow) (i : ℕ) (was is : ActorNow) → slice_get actors i ≡ Some was
    → passages_by id i is.answers ≡ passages_by id i was.answers
    → passages_named id (parts_of (slice_set actors i is)) ≡ passages_named id (parts_of actors)
passages_stay id actors i was is at same =
    ap (passages_named id) (parts_set actors i is)
    ∙ numbered_same (λ entry. passages_by id entry.0 entry.1.steps) 0 (parts_of actors) i i (actor_part_of was) (actor_part_of is) (omega arith) (part_at actors i was at) same

-- where one actor alone mounts a surface, its answers name all passages there
pub passages_lone : (id : ℕ) (actors : List ActorNow) (i : ℕ) (actor : ActorNow) → slice_get actors i ≡ Some actor
    → ((j : ℕ) (other : ActorNow) → (j ≡ i → ⊥) → slice_get actors j ≡ Some other → passages_by id j other.answers ≡ [])
    → passages_named id (parts_of actors) ≡ passages_by id i actor.answers
passages_lone id actors i actor at others =
    numbered_lone (λ entry. passages_by id entry.0 entry.1.steps) 0 (parts_of actors) i i (actor_part_of actor) (omega arith) (part_at actors i actor at)
    (λ j k part d e at. none_at j k part d (omega (arith, e)) (sym (slice_get-map actor_part_of actors j) ∙ at))
  where
    none_for : (j : ℕ) (part : PlainActorPart) → (j ≡ i → ⊥) → (o : Option ActorNow) → slice_get actors j ≡ o → option_map actor_part_of o ≡ Some part → passages_by id j part.steps ≡ []
    none_for j part d None e at = absurd (cc)
    none_for j part d (Some other) e at = ap (λ p. passages_by id j p.steps) (sym (same_Some (actor_part_of other) part at)) ∙ others j other d e

    none_at : (j k : ℕ) (part : PlainActorPart) → (j ≡ i → ⊥) → k ≡ j → option_map actor_part_of (slice_get actors j) ≡ Some part → passages_by id k part.steps ≡ []
    none_at j k part d e at = ap (λ n. passages_by id n part.steps) e ∙ none_for j part d (slice_get actors j) refl at
