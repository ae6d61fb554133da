-- What holds where nothing is refused.
use Rattle.std.proofs.Common.{◌≡◌, ℕ, ◌+◌, ◌≤◌, List, [], ◌∷◌, ◌++◌, length, arith, refl, sym, ◌∙◌}
use Rattle.std.proofs.lemmas.List.Sums.{sum_by-cons, count_by-le-length}
use Rattle.std.proofs.lemmas.List.Elements.{All-cons, All-nil}
use Rattle.std.specs.Prelude.{Bool, true, false, ◌&&◌, cond, nat_eq, Option, Some, None, is_some, option_map, option_and_then, unwrap_or, map, All, codes}
use Rattle.std.specs.List.{AllByRecursion}
use Rattle.serde_json.specs.Data.{Data, null}
use Rattle.serde_json.specs.Find.{get, as_object}
use Rattle.script_read.specs.Members.{names_found, has_form, member_count, member_at, items_at}
use Rattle.script_read.specs.Places.{Pointer, Refusals, first_of, unless, at_item, in_member, refused, first_after, in_items, in_nodes, in_step, in_actor, in_actors}

-- none of some places: not the first
pub none_first : {A : Type 0} (first : Option A) (others : List (Option A)) → first_of (first ∷ others) ≡ None → first ≡ None
none_first None others h = refl
none_first (Some place) others h = cc

-- nor any other
pub none_later : {A : Type 0} (first : Option A) (others : List (Option A)) → first_of (first ∷ others) ≡ None → first_of others ≡ None
none_later None others h = h
none_later (Some place) others h = cc

-- neither of two places
pub none_two : {A : Type 0} (first second : Option A) → first_of (first ∷ second ∷ []) ≡ None → (first ≡ None) × (second ≡ None)
none_two None None h = (refl, refl)
none_two None (Some place) h = cc
none_two (Some place) second h = cc

-- what is mapped is not there
pub none_mapped : {A B : Type 0} (f : A → B) (place : Option A) → option_map f place ≡ None → place ≡ None
none_mapped f None h = refl
none_mapped f (Some place) h = cc

-- a test that nothing is refused by holds
pub unless_holds : (test : Bool) → unless test ≡ None → test ≡ true
unless_holds true h = refl
unless_holds false h = cc

found_passes : (test : Data → Bool) (found : Option Data) → option_and_then (λ value. unless (test value)) found ≡ None → (is_some found ≡ false → test null ≡ true)
    → test (unwrap_or found null) ≡ true
found_passes test None h n = n refl
found_passes test (Some value) h n = unless_holds (test value) h

-- a member that is not refused passes, where it is there
pub passes_there : (name : List ℕ) (test : Data → Bool) (value : Data) → refused name test value ≡ None → is_some (get name value) ≡ true → test (member_at name value) ≡ true
passes_there name test value h there =
    found_passes test (get name value) (none_mapped (λ (pointer : List ℕ). codes "/" ++ name ++ pointer) (option_and_then (λ found. unless (test found)) (get name value)) h)
    (λ missing. cc)

-- or where what stands for it passes
pub passes_always : (name : List ℕ) (test : Data → Bool) (value : Data) → refused name test value ≡ None → test null ≡ true → test (member_at name value) ≡ true
passes_always name test value h n =
    found_passes test (get name value) (none_mapped (λ (pointer : List ℕ). codes "/" ++ name ++ pointer) (option_and_then (λ found. unless (test found)) (get name value)) h)
    (λ missing. n)

found_refused : (refuse : Data → Option Pointer) (found : Option Data) → option_and_then refuse found ≡ None → refuse null ≡ None → refuse (unwrap_or found null) ≡ None
found_refused refuse None h n = n
found_refused refuse (Some value) h n = h

-- a member in which nothing is refused
pub member_passes : (name : List ℕ) (refuse : Data → Option Pointer) (value : Data) → in_member name refuse value ≡ None → refuse null ≡ None → refuse (member_at name value) ≡ None
member_passes name refuse value h n =
    found_refused refuse (get name value) (none_mapped (λ (pointer : List ℕ). codes "/" ++ name ++ pointer) (option_and_then refuse (get name value)) h) n

-- no value is refused: not the first
pub after_first : (refuse : List Data → Data → Option Pointer) (before : List Data) (x : Data) (xs : List Data) → first_after refuse before (x ∷ xs) ≡ None → refuse before x ≡ None
after_first refuse before x xs h =
    none_mapped _ (refuse before x) (none_first (at_item (length before) (refuse before x)) (first_after refuse (before ++ x ∷ []) xs ∷ []) h)

-- nor any later one
pub after_later : (refuse : List Data → Data → Option Pointer) (before : List Data) (x : Data) (xs : List Data) → first_after refuse before (x ∷ xs) ≡ None
    → first_after refuse (before ++ x ∷ []) xs ≡ None
after_later refuse before x xs h =
    none_first (first_after refuse (before ++ x ∷ []) xs) []
    (none_later (at_item (length before) (refuse before x)) (first_after refuse (before ++ x ∷ []) xs ∷ []) h)

-- each value has what follows from its not being refused
pub each_passes : (P : Data → Type 0) (refuse : List Data → Data → Option Pointer) → ((before : List Data) (x : Data) → refuse before x ≡ None → P x)
    → (before xs : List Data) → first_after refuse before xs ≡ None → AllByRecursion P xs
each_passes P refuse f before [] h = tt
each_passes P refuse f before (x ∷ xs) h =
    (f before x (after_first refuse before x xs h), each_passes P refuse f (before ++ x ∷ []) xs (after_later refuse before x xs h))

-- the same of the items of a member
pub items_pass : (P : Data → Type 0) (name : List ℕ) (refuse : List Data → Data → Option Pointer) → ((before : List Data) (x : Data) → refuse before x ≡ None → P x)
    → (value : Data) → in_items name refuse value ≡ None → AllByRecursion P (items_at name value)
items_pass P name refuse f value h = each_passes P refuse f [] (items_at name value) (none_mapped _ (first_after refuse [] (items_at name value)) h)

-- what each element has together
pub both_hold : {A : Type 0} (P Q R : A → Type 0) → ((x : A) → P x → Q x → R x) → (xs : List A) → AllByRecursion P xs → AllByRecursion Q xs → AllByRecursion R xs
both_hold P Q R f [] p q = tt
both_hold P Q R f (x ∷ xs) p q = (f x p.0 q.0, both_hold P Q R f xs p.1 q.1)

-- what each element has after a map
pub all_mapped : {A B : Type 0} (P : B → Type 0) (f : A → B) (xs : List A) → AllByRecursion (λ x. P (f x)) xs → All P (map f xs)
all_mapped P f [] h = All-nil P
all_mapped P f (x ∷ xs) h = All-cons P (f x) (map f xs) h.0 (all_mapped P f xs h.1)

-- no step of an actor is refused
abbrev pub StepsPass : Refusals → Data → Type 0
StepsPass refusals actor = AllByRecursion (λ step. in_step refusals step ≡ None) (items_at (codes "steps") actor)

actor_passes : (refusals : Refusals) (actor : Data) → in_actor refusals actor ≡ None → StepsPass refusals actor
actor_passes refusals actor h =
    items_pass (λ step. in_step refusals step ≡ None) (codes "steps") (λ before step. in_step refusals step) (λ before step p. p) actor
    (none_first (in_items (codes "steps") (λ before step. in_step refusals step) actor) []
    (none_later (refusals.of_actor actor) (in_items (codes "steps") (λ before step. in_step refusals step) actor ∷ []) h))

-- no step of a script is refused
pub actors_pass : (refusals : Refusals) (script : Data) → in_actors refusals script ≡ None → AllByRecursion (StepsPass refusals) (items_at (codes "actors") script)
actors_pass refusals script h =
    items_pass (StepsPass refusals) (codes "actors") (λ before actor. in_actor refusals actor) (λ before actor p. actor_passes refusals actor p) script h

-- a step is not refused by itself
pub step_passes : (refusals : Refusals) (step : Data) → in_step refusals step ≡ None → refusals.of_step step ≡ None
step_passes refusals step h = none_first (refusals.of_step step) (in_member (codes "tree") (in_nodes refusals.of_node) step ∷ []) h

-- nor is a node of its tree
pub tree_passes : (refusals : Refusals) (step : Data) → in_step refusals step ≡ None → in_nodes refusals.of_node (member_at (codes "tree") step) ≡ None
tree_passes refusals step h =
    member_passes (codes "tree") (in_nodes refusals.of_node) step
    (none_first (in_member (codes "tree") (in_nodes refusals.of_node) step) []
    (none_later (refusals.of_step step) (in_member (codes "tree") (in_nodes refusals.of_node) step ∷ []) h)) refl

-- both of two tests hold
pub both : (a b : Bool) → (a && b) ≡ true → (a ≡ true) × (b ≡ true)
both true true h = (refl, refl)
both true false h = cc
both false b h = cc

-- equal counts
pub same_count : (n m : ℕ) → nat_eq n m ≡ true → n ≡ m
same_count n m h = grind (arith, h)

counted_first : (here : Bool) (found others : ℕ) → cond here 1 0 + found ≡ others + 1 → found ≤ others → (here ≡ true) × (found ≡ others)
counted_first true found others h l = (refl, omega arith)
counted_first false found others h l = absurd (omega arith)

-- where as many names are found as there are, the first is
pub name_found : (name : List ℕ) (names : List (List ℕ)) (value : Data) → names_found (name ∷ names) value ≡ length (name ∷ names)
    → (is_some (get name value) ≡ true) × (names_found names value ≡ length names)
name_found name names value h =
    counted_first (is_some (get name value)) (names_found names value) (length names)
    (sym (sum_by-cons (λ n. cond (is_some (get n value)) 1 0) name names) ∙ h ∙ omega arith)
    (count_by-le-length (λ n. is_some (get n value)) names)

-- an object of a form has each required member
pub form_found : (required optional : List (List ℕ)) (value : Data) → has_form required optional value ≡ true → names_found required value ≡ length required
form_found required optional value h =
    let a = both (is_some (as_object value) && nat_eq (names_found required value) (length required))
    (nat_eq (unwrap_or (option_map member_count (as_object value)) 0) (length required + names_found optional value)) h
    in
    same_count (names_found required value) (length required) (both (is_some (as_object value)) (nat_eq (names_found required value) (length required)) a.0).1
