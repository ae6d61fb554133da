-- One thing more that is made.
use Rattle.std.proofs.Common.{◌≡◌, ℕ, ◌+◌, List, [], ◌∷◌, ◌++◌, map, refl, ap, sym, ◌∙◌, add-one, arith}
use Rattle.std.proofs.lemmas.List.FromFn.{map-range_with_len_more}
use Rattle.std.proofs.lemmas.List.{map-append}
use Rattle.script_read.specs.declared.script.Step.{Step}
use Rattle.script_read.specs.Plain.{plain_step}
use Rattle.script_read.specs.Making.{Drawn, IsDrawn, one_more, drawn_list, for_each_below, later_step, tree_steps}

pub none_each : {A : Type 0} (make : ℕ → A) → for_each_below 0 make ≡ []
unfolding for_each_below
none_each make = refl

each_more : {A : Type 0} (count : ℕ) (make : ℕ → A) → for_each_below (count + 1) make ≡ for_each_below count make ++ make count ∷ []
unfolding for_each_below
each_more count make = map-range_with_len_more make 0 count count (omega arith)

-- what is made of one number more is pushed to the others
pub each_pushed : {X A : Type 0} (f : X → A) (make : ℕ → A) (count : ℕ) (xs ys : List X) (x : X) → ys ≡ xs ++ x ∷ [] → f x ≡ make count
    → map f xs ≡ for_each_below count make → map f ys ≡ for_each_below (count + 1) make
each_pushed f make count xs ys x pushed here before =
    rw (pushed, map-append f xs (x ∷ []), before, here) (sym (each_more count make))

pub none_drawn : {A : Type 0} (make : ℕ → Drawn A) (x : ℕ) → drawn_list make 0 x ≡ record { made = []; number = x }
unfolding drawn_list
none_drawn make x = refl

-- one more is made after the others
pub drawn_more : {A : Type 0} (make : ℕ → Drawn A) (count x : ℕ) → drawn_list make (count + 1) x ≡ one_more make (drawn_list make count x)
unfolding drawn_list
drawn_more make count x = rw add-one refl

-- what is drawn after the others
pub drawn_after : {A : Type 0} (make : ℕ → Drawn A) (count x y z : ℕ) (all : List A) (last : A)
    → IsDrawn (make y) last z → IsDrawn (drawn_list make count x) all y → IsDrawn (drawn_list make (count + 1) x) (all ++ last ∷ []) z
drawn_after make count x y z all last here before =
    rw (drawn_more make count x)
    (record { made = rw (before.made, here.made, before.number) refl; number = here.number ∙ ap (λ n. (make n).number) before.number })

-- what is drawn after the others is pushed to them
pub drawn_pushed : {X A : Type 0} (f : X → A) (make : ℕ → Drawn A) (count x y z : ℕ) (xs ys : List X) (last : X) → ys ≡ xs ++ last ∷ []
    → IsDrawn (make y) (f last) z → IsDrawn (drawn_list make count x) (map f xs) y → IsDrawn (drawn_list make (count + 1) x) (map f ys) z
drawn_pushed f make count x y z xs ys last pushed here before =
    rw (pushed, map-append f xs (last ∷ [])) (drawn_after make count x y z (map f xs) (f last) here before)

-- a later step is pushed to those before it
pub step_pushed : (surface count x y z : ℕ) (xs ys : List Step) (last : Step) → ys ≡ xs ++ last ∷ [] → IsDrawn (later_step surface y) (plain_step last) z
    → IsDrawn (tree_steps surface count x) (map plain_step xs) y → IsDrawn (tree_steps surface (count + 1) x) (map plain_step ys) z
step_pushed surface count x y z xs ys last pushed here before =
    rw (pushed, map-append plain_step xs (last ∷ []), drawn_more (later_step surface) count x)
    (record { made = rw (before.made, here.made, before.number) refl; number = here.number ∙ ap (λ n. (later_step surface n).number) before.number })
