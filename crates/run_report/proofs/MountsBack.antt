-- Mounts are read back from their lines.
use Rattle.std.proofs.Common.{◌≡◌, ℕ, List, [], ◌∷◌, ◌++◌, Bool, true, false, ◌||◌, not, IsTrue, nat_eq, length, map, Option, Some, None, bytes_eq, codes, eqb-true, refl, ap, sym, ◌∙◌, append_assoc}
use Rattle.std.specs.List.{AllByRecursion, IsDistinct}
use Rattle.std.specs.Fmt.{decimal}
use Rattle.std.proofs.lemmas.Fmt.{decimal_injective}
use Rattle.host_views.specs.Plain.{PlainPlacedView, PlainMutation, create, delete, insert, remove, update}
use Rattle.tree_revision.specs.Sound.{is_name}
use Rattle.run_report.specs.declared.journal.StepName.{StepName}
use Rattle.run_report.specs.Journal.{PlainMount, PlainActorPart}
use Rattle.run_report.specs.Named.{IsByActor}
use Rattle.run_report.specs.Text.{name_at, by_text, mutation_text, mount_text, placed_text}
use Rattle.run_report.specs.TextParts.{mount_head, mutations_text, last_text, transactions_text}
use Rattle.run_report.specs.Ranges.{IsMutationInRange, IsMountInRange, IsPlacedInRange, IsCallInRange}
use Rattle.run_report.proofs.LineWords.{IsWord, ends, other_word, line_off}
use Rattle.run_report.proofs.Words.{decimal_is_word}
use Rattle.run_report.proofs.NamesBack.{name_at_is_word, actor_is}
use Rattle.run_report.proofs.MutationsBack.{mutation_off, placed_off}
use Rattle.run_report.proofs.ListsBack.{first, IsReadBack, each_off}

-- a mutation begins with the c, d, i, r or u of its word
abbrev pub begins_mutation : ℕ → Bool
begins_mutation byte = nat_eq byte 99 || (nat_eq byte 100 || (nat_eq byte 105 || (nat_eq byte 114 || nat_eq byte 117)))

-- each mutation begins so
mutation_begins : (mutation : PlainMutation) (s : List ℕ) → begins_mutation (first (mutation_text mutation ++ s)) ≡ true
mutation_begins (create tag view) s = refl
mutation_begins (delete tag) s = refl
mutation_begins (insert parent tag index) s = refl
mutation_begins (remove parent tag index) s = refl
mutation_begins (update tag view) s = refl

-- mutations are read back
pub mutations_off : (xs ys : List PlainMutation) (s t : List ℕ) → AllByRecursion IsMutationInRange xs → AllByRecursion IsMutationInRange ys → begins_mutation (first s) ≡ false
    → begins_mutation (first t) ≡ false → mutations_text xs ++ s ≡ mutations_text ys ++ t → (xs ≡ ys) × (s ≡ t)
mutations_off xs ys s t p q bs bt e =
    each_off mutation_text IsMutationInRange begins_mutation (λ byte. true) (λ x y u v fx fy mu mv same. mutation_off x y u v fx fy same) mutation_begins (λ byte here. refl)
    xs ys s t p q bs bt refl refl e

-- a last view begins with the v of its word
abbrev pub begins_view : ℕ → Bool
begins_view byte = nat_eq byte 118

-- last views are read back
pub last_off : (xs ys : List PlainPlacedView) (s t : List ℕ) → AllByRecursion IsPlacedInRange xs → AllByRecursion IsPlacedInRange ys → begins_view (first s) ≡ false
    → begins_view (first t) ≡ false → last_text xs ++ s ≡ last_text ys ++ t → (xs ≡ ys) × (s ≡ t)
last_off xs ys s t p q bs bt e =
    each_off placed_text IsPlacedInRange begins_view (λ byte. true) (λ x y u v fx fy mu mv same. placed_off x y u v fx fy same) (λ x u. refl) (λ byte here. refl)
    xs ys s t p q bs bt refl refl e

-- the words of who mounted
abbrev by_words : List PlainActorPart → Option StepName → List (List ℕ)
by_words actors None = codes "closing" ∷ []
by_words actors (Some step) = codes "by" ∷ name_at actors step.actor ∷ decimal step.call ∷ []

-- the words of a mount's line
abbrev mount_words : List PlainActorPart → PlainMount → List (List ℕ)
mount_words actors mount = decimal mount.base ∷ decimal mount.to ∷ by_words actors mount.by

-- the text of who mounted is its words
by_line_is : (actors : List PlainActorPart) (by : Option StepName) → codes " " ++ by_text actors by ≡ ends (by_words actors by)
by_line_is actors None = refl
by_line_is actors (Some step) = refl

-- a mount's line is its words
mount_line_is : (actors : List PlainActorPart) (mount : PlainMount) → mount_head mount.base mount.to ++ by_text actors mount.by ≡ codes "transaction" ++ ends (mount_words actors mount)
mount_line_is actors mount =
    let by : List ℕ = by_text actors mount.by in
    ap (λ text. codes "transaction " ++ text) (append_assoc (decimal mount.base) (codes " " ++ (decimal mount.to ++ codes " ")) by)
    ∙ ap (λ text. codes "transaction " ++ (decimal mount.base ++ (codes " " ++ text))) (append_assoc (decimal mount.to) (codes " ") by)
    ∙ ap (λ text. codes "transaction " ++ (decimal mount.base ++ (codes " " ++ (decimal mount.to ++ text)))) (by_line_is actors mount.by)

-- mounts of the same parts are one
mount_from : (a b : PlainMount) → a.base ≡ b.base → a.to ≡ b.to → a.by ≡ b.by → a.mutations ≡ b.mutations → a ≡ b
mount_from a b s t y m = λ i. record { base = s i; to = t i; by = y i; mutations = m i }

-- steps of the same numbers are one
step_from : (a b : StepName) → a.actor ≡ b.actor → a.call ≡ b.call → a ≡ b
step_from a b x y = λ i. record { actor = x i; call = y i }

-- what is asked of a mount: its numbers are in range, and who mounted is an actor
pub record IsReadableMount (actors : List PlainActorPart) (mount : PlainMount) : Type 0 where
  pub range : IsMountInRange mount
  pub by : IsByActor (length actors) mount.by

-- what follows a mount is no mutation
abbrev pub may_follow_mount : ℕ → Bool
may_follow_mount byte = not (begins_mutation byte)

-- what does not hold is false
not_not : (b : Bool) → not b ≡ true → b ≡ false
not_not true e = absurd (cc)
not_not false e = refl

-- texts in a row, regrouped
paired : (a b c d : List ℕ) → (a ++ (b ++ c)) ++ d ≡ (a ++ b) ++ (c ++ d)
paired a b c d = ap (λ text. text ++ d) (sym (append_assoc a b c)) ∙ append_assoc (a ++ b) c d

-- a mount begins with the t of its word, and with no mutation's byte
abbrev pub begins_mount : ℕ → Bool
begins_mount byte = nat_eq byte 116

-- no mutation begins as a mount does
no_mutation : (byte : ℕ) → begins_mount byte ≡ true → may_follow_mount byte ≡ true
no_mutation byte e = rw (eqb-true byte 116 e) refl

-- actors of these names, each of its own
module _ (names : List (List ℕ)) (formed : AllByRecursion (λ name. IsTrue (is_name name)) names) (differ : IsDistinct bytes_eq names) (actors : List PlainActorPart)
    (are : map (λ part. part.name) actors ≡ names) where
  -- who mounted is read back
  by_is : (a b : Option StepName) → IsByActor (length actors) a → IsByActor (length actors) b → IsCallInRange a → IsCallInRange b → by_words actors a ≡ by_words actors b → a ≡ b
  by_is None None p q r s e = refl
  by_is None (Some b) p q r s e = absurd (other_word (codes "closing") (codes "by") refl (cc))
  by_is (Some a) None p q r s e = absurd (other_word (codes "by") (codes "closing") refl (cc))
  by_is (Some a) (Some b) p q r s e =
      let actor : a.actor ≡ b.actor = actor_is names formed differ actors actors are are a.actor b.actor p q (cc) in
      let call : a.call ≡ b.call = decimal_injective a.call b.call r s (cc) in ap Some (step_from a b actor call)

  -- the words of who mounted are words
  by_are_words : (by : Option StepName) → IsByActor (length actors) by → AllByRecursion IsWord (by_words actors by)
  by_are_words None p = (refl, tt)
  by_are_words (Some step) p = (refl, (name_at_is_word names formed differ actors are step.actor p, (decimal_is_word step.call, tt)))

  -- the words of a mount's line are words
  mount_are_words : (mount : PlainMount) → IsByActor (length actors) mount.by → AllByRecursion IsWord (codes "transaction" ∷ mount_words actors mount)
  mount_are_words mount p = (refl, (decimal_is_word mount.base, (decimal_is_word mount.to, by_are_words mount.by p)))

  -- a mount is its line, and then its mutations
  mount_split : (mount : PlainMount) (s : List ℕ) → mount_text actors mount ++ s ≡ (codes "transaction" ++ ends (mount_words actors mount)) ++ (mutations_text mount.mutations ++ s)
  mount_split mount s =
      paired (mount_head mount.base mount.to) (by_text actors mount.by) (mutations_text mount.mutations) s
      ∙ ap (λ text. text ++ (mutations_text mount.mutations ++ s)) (mount_line_is actors mount)

  -- a mount is read back from its lines
  mount_off : IsReadBack (mount_text actors) (IsReadableMount actors) may_follow_mount
  mount_off a b s t p q ms mt e =
      let words = line_off (codes "transaction") (codes "transaction") (mount_words actors a) (mount_words actors b) (mutations_text a.mutations ++ s) (mutations_text b.mutations ++ t)
      (mount_are_words a p.by) (mount_are_words b q.by) (sym (mount_split a s) ∙ e ∙ mount_split b t) in
      let same : mount_words actors a ≡ mount_words actors b = words.1 in
      let rest = mutations_off a.mutations b.mutations s t p.range.mutations q.range.mutations (not_not (begins_mutation (first s)) ms) (not_not (begins_mutation (first t)) mt) words.2 in
      let by : by_words actors a.by ≡ by_words actors b.by = cc in (
        mount_from a b
            (decimal_injective a.base b.base p.range.base q.range.base (cc))
            (decimal_injective a.to b.to p.range.to q.range.to (cc))
            (by_is a.by b.by p.by q.by p.range.by q.range.by by)
            rest.0,
        rest.1,
      )

  -- mounts are read back
  pub mounts_off : (xs ys : List PlainMount) (s t : List ℕ) → AllByRecursion (IsReadableMount actors) xs → AllByRecursion (IsReadableMount actors) ys → begins_mount (first s) ≡ false
      → begins_mount (first t) ≡ false → may_follow_mount (first s) ≡ true → may_follow_mount (first t) ≡ true → transactions_text actors xs ++ s ≡ transactions_text actors ys ++ t
      → (xs ≡ ys) × (s ≡ t)
  mounts_off xs ys s t p q bs bt ms mt e = each_off (mount_text actors) (IsReadableMount actors) begins_mount may_follow_mount mount_off (λ x u. refl) no_mutation xs ys s t p q bs bt ms mt e
