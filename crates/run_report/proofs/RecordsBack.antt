-- Admitted commits are read back from their lines: actor and call name the step that gives the change.
use Rattle.std.proofs.Common.{◌≡◌, ℕ, ◌+◌, ◌<◌, List, [], ◌∷◌, ◌++◌, true, false, IsTrue, nat_eq, length, map, Option, Some, None, bytes_eq, codes, refl, ap, sym, ◌∙◌, subst, append_assoc}
use Rattle.std.specs.List.{AllByRecursion, IsDistinct, enumerate_from}
use Rattle.std.specs.Fmt.{decimal}
use Rattle.std.proofs.lemmas.Fmt.{decimal_injective}
use Rattle.std.proofs.lemmas.List.Elements.{recursion_from_All}
use Rattle.tree_revision.specs.Records.{PlainOp, complete, state, props, resize, stop, suspend, resume, PlainRecord}
use Rattle.tree_revision.specs.Script.{PlainAct, commit, hold, mount, PlainStep, PlainScript}
use Rattle.tree_revision.specs.Sound.{is_name}
use Rattle.run_report.specs.Journal.{PlainActorPart, PlainSurfacePart, PlainJournal}
use Rattle.run_report.specs.Legal.{name_of, IsOfItsStep, CommitsStandOnce}
use Rattle.tree_revision.specs.Wishes.{as_written}
use Rattle.run_report.specs.Shorthands.{step_named}
use Rattle.run_report.specs.Text.{name_at, spaced, number_line, op_word_of, record_text, numbered}
use Rattle.run_report.specs.TextParts.{records_text, histories_text}
use Rattle.run_report.specs.Named.{NamesActors}
use Rattle.run_report.specs.Ranges.{IsRecordInRange, IsPartInRange}
use Rattle.run_report.proofs.LineWords.{IsWord, ends, ends_off, after_same}
use Rattle.run_report.proofs.Words.{decimal_is_word}
use Rattle.run_report.proofs.NamesBack.{name_at_is_word, actor_is}
use Rattle.run_report.proofs.ListsBack.{first}
use Rattle.run_report.proofs.StepsBack.{after_head}

-- a change's word is one
op_is_word : (op : PlainOp) → IsWord (op_word_of op)
op_is_word (complete nodes) = refl
op_is_word (state tag change) = refl
op_is_word (props tag change) = refl
op_is_word (resize size) = refl
op_is_word stop = refl
op_is_word suspend = refl
op_is_word resume = refl

-- the words of a commit after its number
abbrev record_words : List PlainActorPart → PlainRecord → List (List ℕ)
record_words actors entry = name_at actors entry.actor ∷ decimal entry.call ∷ op_word_of entry.op ∷ codes "held" ∷ decimal entry.held ∷ []

-- what stands before them
abbrev record_head : ℕ → List ℕ
record_head number = codes "commit" ++ spaced number

-- a commit's line is its number and its words
record_line_is : (actors : List PlainActorPart) (number : ℕ) (entry : PlainRecord) → record_text actors number entry ≡ record_head number ++ ends (record_words actors entry)
record_line_is actors number entry = refl

-- commits of the same parts are one
record_from : (a b : PlainRecord) → a.actor ≡ b.actor → a.call ≡ b.call → a.held ≡ b.held → a.op ≡ b.op → a ≡ b
record_from a b x y h o = λ i. record { actor = x i; call = y i; held = h i; op = o i }

-- the change of a commit's step
abbrev op_in : Option PlainStep → PlainOp
op_in None = stop
op_in (Some step) = op_of step.act where
  op_of : PlainAct → PlainOp
  op_of (commit op) = op
  op_of hold = stop
  op_of mount = stop

-- what is asked of a commit: it is of its step, its actor is one, and its numbers are in range
record IsReadableRecord (script : PlainScript) (journal : PlainJournal) (id : ℕ) (entry : PlainRecord) : Type 0 where
  step : step_named script (name_of entry) ≡ Some (record { surface = id; act = commit entry.op })
  actor : entry.actor < length journal.actors
  range : IsRecordInRange entry

-- a commit is of its step
abbrev IsOf : PlainScript → (id : ℕ) → PlainRecord → Type 0
IsOf script id entry = step_named script (name_of entry) ≡ Some (record { surface = id; act = commit entry.op })

-- commits that stand once are each of its step
each_of : (script : PlainScript) (journal : PlainJournal) (id : ℕ) (whole : List PlainRecord) (n : ℕ) (xs : List PlainRecord)
    → AllByRecursion (λ entry. IsOfItsStep as_written script journal id whole entry.0 entry.1) (enumerate_from n xs) → AllByRecursion (IsOf script id) xs
each_of script journal id whole n [] p = tt
each_of script journal id whole n (x ∷ xs) p =
    (p.0.step ∙ (λ i. Some (record { surface = id; act = commit (sym p.0.op i) })), each_of script journal id whole (n + 1) xs p.1)

-- what follows a surface's commits is no commit
history_first : (actors : List PlainActorPart) (parts : List PlainSurfacePart) (s : List ℕ) → nat_eq (first s) 99 ≡ false → nat_eq (first (histories_text actors parts ++ s)) 99 ≡ false
history_first actors [] s p = p
history_first actors (part ∷ parts) s p = refl

-- lists of the same first item and rest are one
pub cons_is : {A : Type 0} {x y : A} {xs ys : List A} → x ≡ y → xs ≡ ys → x ∷ xs ≡ y ∷ ys
cons_is p q = λ i. p i ∷ q i

-- names, each of its own, and two journals whose actors have them
module _ (script : PlainScript) (names : List (List ℕ)) (formed : AllByRecursion (λ name. IsTrue (is_name name)) names) (differ : IsDistinct bytes_eq names) (a b : PlainJournal)
    (a_are : map (λ part. part.name) a.actors ≡ names) (b_are : map (λ part. part.name) b.actors ≡ names) where
  -- the words of a commit are words
  record_are_words : (actors : List PlainActorPart) → map (λ part. part.name) actors ≡ names → (entry : PlainRecord) → entry.actor < length actors → AllByRecursion IsWord (record_words actors entry)
  record_are_words actors are entry below =
      (name_at_is_word names formed differ actors are entry.actor below, (decimal_is_word entry.call, (op_is_word entry.op, (refl, (decimal_is_word entry.held, tt)))))

  -- commits of one step have one change
  op_is : (id : ℕ) (x y : PlainRecord) → step_named script (name_of x) ≡ Some (record { surface = id; act = commit x.op })
      → step_named script (name_of y) ≡ Some (record { surface = id; act = commit y.op }) → x.actor ≡ y.actor → x.call ≡ y.call → x.op ≡ y.op
  op_is id x y p q actor call =
      let name : name_of x ≡ name_of y = λ i. record { actor = actor i; call = call i } in
      ap op_in (sym p ∙ ap (step_named script) name ∙ q)

  -- a commit is read back from its line
  record_off : (id number : ℕ) (x y : PlainRecord) (s t : List ℕ) → IsReadableRecord script a id x → IsReadableRecord script b id y
      → record_text a.actors number x ++ s ≡ record_text b.actors number y ++ t → (x ≡ y) × (s ≡ t)
  record_off id number x y s t p q e =
      let tail : ends (record_words a.actors x) ++ s ≡ ends (record_words b.actors y) ++ t =
      after_same (record_head number) (ends (record_words a.actors x)) (ends (record_words b.actors y)) s t e in
      let words = ends_off (record_words a.actors x) (record_words b.actors y) s t (record_are_words a.actors a_are x p.actor) (record_are_words b.actors b_are y q.actor) tail in
      let same : record_words a.actors x ≡ record_words b.actors y = words.0 in
      let actor : x.actor ≡ y.actor = actor_is names formed differ a.actors b.actors a_are b_are x.actor y.actor p.actor q.actor (cc) in
      let call : x.call ≡ y.call = decimal_injective x.call y.call p.range.call q.range.call (cc) in
      let held : x.held ≡ y.held = decimal_injective x.held y.held p.range.held q.range.held (cc) in
      (record_from x y actor call held (op_is id x y p.step q.step actor call), words.1)

  -- no commit begins where none follows
  ended : (actors : List PlainActorPart) (n : ℕ) (x : PlainRecord) (xs : List PlainRecord) (s t : List ℕ) → nat_eq (first t) 99 ≡ false
      → numbered (record_text actors) n (x ∷ xs) ++ s ≡ t → ⊥
  ended actors n x xs s t p e =
      let here : true ≡ nat_eq (first t) 99 = ap (λ text. nat_eq (first text) 99) e in
      let clash : true ≡ false = here ∙ p in cc

  -- the commits of a surface are read back
  records_off : (id n : ℕ) (xs ys : List PlainRecord) (s t : List ℕ)
      → AllByRecursion (IsOf script id) xs → AllByRecursion (IsOf script id) ys
      → AllByRecursion (λ entry. entry.actor < length a.actors) xs → AllByRecursion (λ entry. entry.actor < length b.actors) ys
      → AllByRecursion IsRecordInRange xs → AllByRecursion IsRecordInRange ys → nat_eq (first s) 99 ≡ false → nat_eq (first t) 99 ≡ false
      → numbered (record_text a.actors) n xs ++ s ≡ numbered (record_text b.actors) n ys ++ t → (xs ≡ ys) × (s ≡ t)
  records_off id n [] [] s t px py ax ay fx fy bs bt e = (refl, e)
  records_off id n [] (y ∷ ys) s t px py ax ay fx fy bs bt e = absurd (ended b.actors n y ys t s bs (sym e))
  records_off id n (x ∷ xs) [] s t px py ax ay fx fy bs bt e = absurd (ended a.actors n x xs s t bt e)
  records_off id n (x ∷ xs) (y ∷ ys) s t px py ax ay fx fy bs bt e =
      let more_x : List ℕ = numbered (record_text a.actors) (n + 1) xs in
      let more_y : List ℕ = numbered (record_text b.actors) (n + 1) ys in
      let one = record_off id n x y (more_x ++ s) (more_y ++ t) (record { step = px.0; actor = ax.0; range = fx.0 }) (record { step = py.0; actor = ay.0; range = fy.0 })
      (sym (append_assoc (record_text a.actors n x) more_x s) ∙ e ∙ append_assoc (record_text b.actors n y) more_y t) in
      let rest = records_off id (n + 1) xs ys s t px.1 py.1 ax.1 ay.1 fx.1 fy.1 bs bt one.1 in
      let x_is : x ≡ y = one.0 in
      let xs_is : xs ≡ ys = rest.0 in (cc, rest.1)

  -- the histories of surfaces of the same ids are read back
  pub histories_off : (xs ys : List PlainSurfacePart) (s t : List ℕ) → map (λ part. part.id) xs ≡ map (λ part. part.id) ys
      → AllByRecursion (λ part. CommitsStandOnce as_written script a part.id part.records) xs → AllByRecursion (λ part. CommitsStandOnce as_written script b part.id part.records) ys
      → AllByRecursion (NamesActors (length a.actors)) xs → AllByRecursion (NamesActors (length b.actors)) ys → AllByRecursion IsPartInRange xs → AllByRecursion IsPartInRange ys
      → nat_eq (first s) 99 ≡ false → nat_eq (first t) 99 ≡ false → histories_text a.actors xs ++ s ≡ histories_text b.actors ys ++ t
      → (map (λ part. part.records) xs ≡ map (λ part. part.records) ys) × (s ≡ t)
  histories_off [] [] s t ids px py ax ay fx fy bs bt e = (refl, e)
  histories_off [] (y ∷ ys) s t ids px py ax ay fx fy bs bt e = absurd (cc)
  histories_off (x ∷ xs) [] s t ids px py ax ay fx fy bs bt e = absurd (cc)
  histories_off (x ∷ xs) (y ∷ ys) s t ids px py ax ay fx fy bs bt e =
      let id : x.id ≡ y.id = cc in
      let others : map (λ (part : PlainSurfacePart). part.id) xs ≡ map (λ (part : PlainSurfacePart). part.id) ys = cc in
      let more_x : List ℕ = histories_text a.actors xs in
      let more_y : List ℕ = histories_text b.actors ys in
      let records = records_off x.id 1 x.records y.records (more_x ++ s) (more_y ++ t) (each_of script a x.id x.records 1 x.records px.0.records)
      (subst (λ n. AllByRecursion (IsOf script n) y.records) (sym id) (each_of script b y.id y.records 1 y.records py.0.records))
      (recursion_from_All (λ entry. entry.actor < length a.actors) x.records ax.0.records) (recursion_from_All (λ entry. entry.actor < length b.actors) y.records ay.0.records)
      fx.0.records fy.0.records (history_first a.actors xs s bs) (history_first b.actors ys t bt)
      (after_head (number_line (codes "surface")) x.id y.id (records_text a.actors x.records) (records_text b.actors y.records) more_x more_y s t id e) in
      let rest = histories_off xs ys s t others px.1 py.1 ax.1 ay.1 fx.1 fy.1 bs bt records.1 in
      (cons_is records.0 rest.0, rest.1)
