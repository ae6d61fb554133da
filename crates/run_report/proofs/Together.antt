-- Parts of a journal that are put together of what their actors keep make it legal.
use Rattle.std.proofs.Common.{List, [], ◌∷◌, sym, subst}
use Rattle.std.specs.List.{AllByRecursion, AllZip}
use Rattle.std.proofs.lemmas.List.Elements.{recursion_from_All}
use Rattle.tree_revision.specs.Script.{PlainSurface, PlainScript}
use Rattle.tree_revision.specs.Sound.{ids_of, HasOneMounter, IsSoundScript}
use Rattle.run_report.specs.Journal.{PlainSurfacePart, PlainJournal}
use Rattle.tree_revision.specs.Wishes.{Wish}
use Rattle.run_report.specs.Legal.{HasFormOf, IsLegalOn, IsHookLegal}
use Rattle.run_report.specs.ActorLegal.{IsPutTogether}
use Rattle.run_report.proofs.Lists.{all_unmap}
use Rattle.run_report.proofs.PartsLegal.{surface_legal}

-- what each two items give, where something else holds of the second
zip_both : {A B : Type 0} (R S : A → B → Type 0) (Q : B → Type 0) → ((a : A) (b : B) → R a b → Q b → S a b) → (xs : List A) (ys : List B)
    → AllZip R xs ys → AllByRecursion Q ys → AllZip S xs ys
zip_both R S Q k [] [] h q = tt
zip_both R S Q k [] (y ∷ ys) h q = absurd h
zip_both R S Q k (x ∷ xs) [] h q = absurd h
zip_both R S Q k (x ∷ xs) (y ∷ ys) h q = (k x y h.0 q.0, zip_both R S Q k xs ys h.1 q.1)

-- a journal of the script's form whose parts are put together so is legal
pub parts_legal : (wish : Wish) (script : PlainScript) → IsSoundScript script → (journal : PlainJournal) → HasFormOf script journal
    → AllZip (λ surface part. IsPutTogether wish script journal.actors surface.size part) script.surfaces journal.surfaces → IsHookLegal wish script journal
parts_legal wish script sound journal form parts =
    let mounters : AllByRecursion (λ part. HasOneMounter script.actors part.id) journal.surfaces =
    all_unmap (HasOneMounter script.actors) (λ part. part.id) journal.surfaces
    (subst (AllByRecursion (HasOneMounter script.actors)) (sym form.surfaces) (recursion_from_All (HasOneMounter script.actors) (ids_of script.surfaces) sound.mounters)) in
    record {
      form = form;
      surfaces = zip_both (λ (surface : PlainSurface) (part : PlainSurfacePart). IsPutTogether wish script journal.actors surface.size part)
          (λ (surface : PlainSurface) (part : PlainSurfacePart). IsLegalOn wish script journal surface.size part) (λ part. HasOneMounter script.actors part.id)
          (λ surface part p one. surface_legal wish script journal form surface.size part one p) script.surfaces journal.surfaces parts mounters;
    }
