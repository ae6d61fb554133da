-- Mutations and last views are read back from their lines.
use Rattle.std.proofs.Common.{◌≡◌, ℕ, List, [], ◌∷◌, ◌++◌, codes, refl, ap, ap₂, sym, ◌∙◌, append_assoc}
use Rattle.std.specs.List.{AllByRecursion}
use Rattle.std.specs.Fmt.{decimal}
use Rattle.std.proofs.lemmas.Fmt.{decimal_injective}
use Rattle.shadow_kinds.specs.Words.{word_of}
use Rattle.host_views.specs.declared.HostView.{HostView}
use Rattle.host_views.specs.Plain.{PlainPlacedView, PlainMutation, create, delete, insert, remove, update}
use Rattle.run_report.specs.Text.{spaced, tagged_text, mutation_text, placed_text}
use Rattle.run_report.specs.TextParts.{tagged_head, placed_head}
use Rattle.run_report.specs.Ranges.{IsMutationInRange, IsPlacedInRange}
use Rattle.run_report.proofs.LineWords.{IsWord, ends, other_word, line_off}
use Rattle.run_report.proofs.Words.{decimal_is_word}
use Rattle.run_report.proofs.ViewWords.{view_words, view_line_is}
use Rattle.run_report.proofs.ViewBack.{view_are_words, view_is}

-- the first word of a mutation
abbrev pub mutation_word : PlainMutation → List ℕ
mutation_word (create tag view) = codes "create"
mutation_word (delete tag) = codes "delete"
mutation_word (insert parent tag index) = codes "insert"
mutation_word (remove parent tag index) = codes "remove"
mutation_word (update tag view) = codes "update"

-- the words after it
abbrev pub mutation_words : PlainMutation → List (List ℕ)
mutation_words (create tag view) = decimal tag ∷ word_of view.kind ∷ view_words view
mutation_words (delete tag) = decimal tag ∷ []
mutation_words (insert parent tag index) = decimal parent ∷ decimal tag ∷ decimal index ∷ []
mutation_words (remove parent tag index) = decimal parent ∷ decimal tag ∷ decimal index ∷ []
mutation_words (update tag view) = decimal tag ∷ word_of view.kind ∷ view_words view

-- the line of a word, a tag and a view is its words
tagged_line_is : (word : List ℕ) (tag : ℕ) (view : HostView) → tagged_text word tag view ≡ word ++ ends (decimal tag ∷ word_of view.kind ∷ view_words view)
tagged_line_is word tag view =
    ap (λ text. tagged_head word tag ++ text) (view_line_is view)
    ∙ append_assoc word (spaced tag ++ codes " ") (word_of view.kind ++ ends (view_words view))
    ∙ ap (λ text. word ++ (codes " " ++ text)) (append_assoc (decimal tag) (codes " ") (word_of view.kind ++ ends (view_words view)))

-- a mutation's line is its words
mutation_line_is : (mutation : PlainMutation) → mutation_text mutation ≡ mutation_word mutation ++ ends (mutation_words mutation)
mutation_line_is (create tag view) = tagged_line_is (codes "create") tag view
mutation_line_is (delete tag) = refl
mutation_line_is (insert parent tag index) = refl
mutation_line_is (remove parent tag index) = refl
mutation_line_is (update tag view) = tagged_line_is (codes "update") tag view

-- the words of a mutation are words
mutation_are_words : (mutation : PlainMutation) → AllByRecursion IsWord (mutation_word mutation ∷ mutation_words mutation)
mutation_are_words (create tag view) = (refl, (decimal_is_word tag, view_are_words view))
mutation_are_words (delete tag) = (refl, (decimal_is_word tag, tt))
mutation_are_words (insert parent tag index) = (refl, (decimal_is_word parent, (decimal_is_word tag, (decimal_is_word index, tt))))
mutation_are_words (remove parent tag index) = (refl, (decimal_is_word parent, (decimal_is_word tag, (decimal_is_word index, tt))))
mutation_are_words (update tag view) = (refl, (decimal_is_word tag, view_are_words view))

-- a mutation is read back from its words
mutation_is : (a b : PlainMutation) → IsMutationInRange a → IsMutationInRange b → mutation_word a ≡ mutation_word b → mutation_words a ≡ mutation_words b → a ≡ b
mutation_is (create tag view) (create tag' view') p q word words = ap₂ create (decimal_injective tag tag' p.0 q.0 (cc)) (view_is view view' p.1 q.1 (cc) (cc))
mutation_is (create tag view) (delete tag') _ _ word _ = absurd (other_word (codes "create") (codes "delete") refl word)
mutation_is (create tag view) (insert parent' tag' index') _ _ word _ = absurd (other_word (codes "create") (codes "insert") refl word)
mutation_is (create tag view) (remove parent' tag' index') _ _ word _ = absurd (other_word (codes "create") (codes "remove") refl word)
mutation_is (create tag view) (update tag' view') _ _ word _ = absurd (other_word (codes "create") (codes "update") refl word)
mutation_is (delete tag) (create tag' view') _ _ word _ = absurd (other_word (codes "delete") (codes "create") refl word)
mutation_is (delete tag) (delete tag') p q word words = ap delete (decimal_injective tag tag' p q (cc))
mutation_is (delete tag) (insert parent' tag' index') _ _ word _ = absurd (other_word (codes "delete") (codes "insert") refl word)
mutation_is (delete tag) (remove parent' tag' index') _ _ word _ = absurd (other_word (codes "delete") (codes "remove") refl word)
mutation_is (delete tag) (update tag' view') _ _ word _ = absurd (other_word (codes "delete") (codes "update") refl word)
mutation_is (insert parent tag index) (create tag' view') _ _ word _ = absurd (other_word (codes "insert") (codes "create") refl word)
mutation_is (insert parent tag index) (delete tag') _ _ word _ = absurd (other_word (codes "insert") (codes "delete") refl word)
mutation_is (insert parent tag index) (insert parent' tag' index') p q word words =
    let parent_is : parent ≡ parent' = decimal_injective parent parent' p.0 q.0 (cc) in
    let tag_is : tag ≡ tag' = decimal_injective tag tag' p.1 q.1 (cc) in
    let index_is : index ≡ index' = decimal_injective index index' p.2 q.2 (cc) in cc
mutation_is (insert parent tag index) (remove parent' tag' index') _ _ word _ = absurd (other_word (codes "insert") (codes "remove") refl word)
mutation_is (insert parent tag index) (update tag' view') _ _ word _ = absurd (other_word (codes "insert") (codes "update") refl word)
mutation_is (remove parent tag index) (create tag' view') _ _ word _ = absurd (other_word (codes "remove") (codes "create") refl word)
mutation_is (remove parent tag index) (delete tag') _ _ word _ = absurd (other_word (codes "remove") (codes "delete") refl word)
mutation_is (remove parent tag index) (insert parent' tag' index') _ _ word _ = absurd (other_word (codes "remove") (codes "insert") refl word)
mutation_is (remove parent tag index) (remove parent' tag' index') p q word words =
    let parent_is : parent ≡ parent' = decimal_injective parent parent' p.0 q.0 (cc) in
    let tag_is : tag ≡ tag' = decimal_injective tag tag' p.1 q.1 (cc) in
    let index_is : index ≡ index' = decimal_injective index index' p.2 q.2 (cc) in cc
mutation_is (remove parent tag index) (update tag' view') _ _ word _ = absurd (other_word (codes "remove") (codes "update") refl word)
mutation_is (update tag view) (create tag' view') _ _ word _ = absurd (other_word (codes "update") (codes "create") refl word)
mutation_is (update tag view) (delete tag') _ _ word _ = absurd (other_word (codes "update") (codes "delete") refl word)
mutation_is (update tag view) (insert parent' tag' index') _ _ word _ = absurd (other_word (codes "update") (codes "insert") refl word)
mutation_is (update tag view) (remove parent' tag' index') _ _ word _ = absurd (other_word (codes "update") (codes "remove") refl word)
mutation_is (update tag view) (update tag' view') p q word words = ap₂ update (decimal_injective tag tag' p.0 q.0 (cc)) (view_is view view' p.1 q.1 (cc) (cc))

-- a mutation is read back from its line
pub mutation_off : (a b : PlainMutation) (s t : List ℕ) → IsMutationInRange a → IsMutationInRange b → mutation_text a ++ s ≡ mutation_text b ++ t → (a ≡ b) × (s ≡ t)
mutation_off a b s t p q e =
    let line : (mutation_word a ++ ends (mutation_words a)) ++ s ≡ (mutation_word b ++ ends (mutation_words b)) ++ t =
    ap (λ text. text ++ s) (sym (mutation_line_is a)) ∙ e ∙ ap (λ text. text ++ t) (mutation_line_is b) in
    let words = line_off (mutation_word a) (mutation_word b) (mutation_words a) (mutation_words b) s t (mutation_are_words a) (mutation_are_words b) line in
    (mutation_is a b p q words.0 words.1, words.2)

-- the words of a last view
abbrev placed_words : PlainPlacedView → List (List ℕ)
placed_words placed =
    decimal placed.tag ∷ codes "in" ∷ decimal placed.parent ∷ codes "at" ∷ decimal placed.index ∷ word_of placed.view.kind ∷ view_words placed.view

-- a last view's line is its words
placed_line_is : (placed : PlainPlacedView) → placed_text placed ≡ codes "view" ++ ends (placed_words placed)
placed_line_is placed =
    let line : List ℕ = word_of placed.view.kind ++ ends (view_words placed.view) in
    ap (λ text. placed_head placed.tag placed.parent placed.index ++ text) (view_line_is placed.view)
    ∙ ap (λ text. codes "view " ++ text) (append_assoc (decimal placed.tag) (codes " in " ++ (decimal placed.parent ++ (codes " at " ++ (decimal placed.index ++ codes " ")))) line)
    ∙ ap (λ text. codes "view " ++ (decimal placed.tag ++ (codes " in " ++ text))) (append_assoc (decimal placed.parent) (codes " at " ++ (decimal placed.index ++ codes " ")) line)
    ∙ ap (λ text. codes "view " ++ (decimal placed.tag ++ (codes " in " ++ (decimal placed.parent ++ (codes " at " ++ text))))) (append_assoc (decimal placed.index) (codes " ") line)

-- the words of a last view are words
placed_are_words : (placed : PlainPlacedView) → AllByRecursion IsWord (codes "view" ∷ placed_words placed)
placed_are_words placed = (refl, (decimal_is_word placed.tag, (refl, (decimal_is_word placed.parent, (refl, (decimal_is_word placed.index, view_are_words placed.view))))))

-- last views of the same parts are one
placed_from : (a b : PlainPlacedView) → a.tag ≡ b.tag → a.parent ≡ b.parent → a.index ≡ b.index → a.view ≡ b.view → a ≡ b
placed_from a b t p n v = λ i. record { tag = t i; parent = p i; index = n i; view = v i }

-- a last view is read back from its line
pub placed_off : (a b : PlainPlacedView) (s t : List ℕ) → IsPlacedInRange a → IsPlacedInRange b → placed_text a ++ s ≡ placed_text b ++ t → (a ≡ b) × (s ≡ t)
placed_off a b s t p q e =
    let line : (codes "view" ++ ends (placed_words a)) ++ s ≡ (codes "view" ++ ends (placed_words b)) ++ t =
    ap (λ text. text ++ s) (sym (placed_line_is a)) ∙ e ∙ ap (λ text. text ++ t) (placed_line_is b) in
    let words = line_off (codes "view") (codes "view") (placed_words a) (placed_words b) s t (placed_are_words a) (placed_are_words b) line in
    let same : placed_words a ≡ placed_words b = words.1 in (
      placed_from a b
          (decimal_injective a.tag b.tag p.tag q.tag (cc))
          (decimal_injective a.parent b.parent p.parent q.parent (cc))
          (decimal_injective a.index b.index p.index q.index (cc))
          (view_is a.view b.view p.view q.view (cc) (cc)),
      words.2,
    )
