-- What `==` says of props and of edits.
use Rattle.std.proofs.Common.{◌≡◌, ◌∙◌, ◌&&◌, List, [], ◌∷◌, Bool, map, refl, ap, sym, is_some}
use Rattle.std.proofs.Common.{int_eq}
use Rattle.std.specs.Bool.{Decides, beq}
use Rattle.std.specs.Cmp.{booleans_Decides, signed_Decides}
use lib.Pointwise.{pointwise}
use Rattle.std.proofs.lemmas.Bool.Decides.{Decides-and, Decides-like, Decides-at}
use Rattle.std.proofs.lemmas.Slice.Eq.{slice_eq-Decides}
use Rattle.prop_table.specs.Props.{PropList}
use Rattle.prop_table.specs.Joined.{zipped}
use Rattle.prop_table.specs.Slots.{number_if, number_or_zero}
use Rattle.prop_table.proofs.Slots.{number_back}

-- a list is given back by what is kept of it in two lists
zipped-kept : {A B C : Type 0} (f : A → B → C) (p : C → A) (q : C → B) → ((c : C) → f (p c) (q c) ≡ c) → (cs : List C) → zipped f (map p cs) (map q cs) ≡ cs
zipped-kept f p q back [] = refl
zipped-kept f p q back (c ∷ cs) = ap (λ rest. f (p c) (q c) ∷ rest) (zipped-kept f p q back cs) ∙ ap (λ d. d ∷ cs) (back c)

-- two lists are the same exactly where what is kept of them is
pub kept-Decides : {A B C : Type 0} {E : A → A → Bool} {F : B → B → Bool} (f : A → B → C) (p : C → A) (q : C → B) → ((c : C) → f (p c) (q c) ≡ c)
    → ((a b : A) → Decides (E a b) (a ≡ b)) → ((a b : B) → Decides (F a b) (a ≡ b))
    → (cs ds : List C) → Decides (pointwise E (map p cs) (map p ds) && pointwise F (map q cs) (map q ds)) (cs ≡ ds)
kept-Decides {E = E} {F = F} f p q back e g cs ds =
    Decides-like (pointwise E (map p cs) (map p ds) && pointwise F (map q cs) (map q ds))
    (λ h. sym (zipped-kept f p q back cs) ∙ ap (λ l. zipped f l (map q cs)) h.0 ∙ ap (λ l. zipped f (map p ds) l) h.1 ∙ zipped-kept f p q back ds)
    (λ h. (ap (map p) h, ap (map q) h))
    (Decides-and (pointwise E (map p cs) (map p ds)) (pointwise F (map q cs) (map q ds)) (slice_eq-Decides e (map p cs) (map p ds) _ refl)
    (slice_eq-Decides g (map q cs) (map q ds) _ refl))

-- what `==` of two props says
pub props_eq-Decides : (a b : PropList) (r : Bool)
    → r ≡ (pointwise beq (map is_some a) (map is_some b) && pointwise int_eq (map number_or_zero a) (map number_or_zero b)) → Decides r (a ≡ b)
props_eq-Decides a b r e = Decides-at r _ e (kept-Decides number_if is_some number_or_zero number_back booleans_Decides signed_Decides a b)
