-- One more record of a plain list.
use Rattle.std.proofs.Common.{◌≡◌, ℕ, ◌+◌, ◌-◌, ◌≤◌, List, [], ◌∷◌, ◌++◌, length, take, drop, arith, refl, ap, ◌∙◌, length-append}
use Rattle.std.proofs.lemmas.List.{drop-append-le, length-drop}
use Rattle.std.proofs.Math.Seq.{take-length}
use Rattle.std.specs.Prelude.{Some, unwrap_or}
use Rattle.std.specs.List.{enumerate_from}
use Rattle.shadow_frame.specs.declared.Size.{Size}
use Rattle.tree_revision.specs.Records.{PlainRecord}
use Rattle.tree_revision.specs.Ports.{IsOffer}
use Rattle.commit_core.specs.Plain.{plain_told}

enumerate_from-push : {A : Type 0} (from at : ℕ) (xs : List A) (x : A) → at ≡ from + length xs
    → enumerate_from from (xs ++ x ∷ []) ≡ enumerate_from from xs ++ (at, x) ∷ []
enumerate_from-push from at [] x e = let k : at ≡ from = omega arith in rw k refl
enumerate_from-push from at (y ∷ ys) x e = ap (λ rest. (from, y) ∷ rest) (enumerate_from-push (from + 1) at ys x (omega arith))

some_same : {entries others : List PlainRecord} → Some entries ≡ Some others → entries ≡ others
some_same same = ap (λ found. unwrap_or found []) same

-- an offer of a port that has seen all records
pub offer_admitted : (first : Size) (room : ℕ) (entries : List PlainRecord) (seen floor looks begun number : ℕ) (entry : PlainRecord)
    → seen ≡ length entries → begun ≤ length entries → 1 ≤ room - length entries → number ≡ length entries + 1
    → IsOffer (plain_told first room entries seen floor looks begun) (plain_told first room (entries ++ entry ∷ []) number number looks begun) entry number
offer_admitted first room entries seen floor looks begun number entry all low permit next =
    let before : take seen entries ≡ entries = rw all (take-length entries) in
    let count : number ≡ length (entries ++ entry ∷ []) = omega (arith, length-append entries (entry ∷ [])) in
    let after : take number (entries ++ entry ∷ []) ≡ entries ++ entry ∷ [] = rw count (take-length (entries ++ entry ∷ [])) in
    record {
      seen = rw (before, after) refl;
      number = rw after count;
      own = rw (drop-append-le begun entries (entry ∷ []) low) (enumerate_from-push (begun + 1) number (drop begun entries) entry (omega (arith, length-drop begun entries)));
      permits = omega (arith, length-append entries (entry ∷ []));
      looks = refl;
      whole = λ others same. (before ∙ some_same same, rw after refl);
    }

-- the number of the revision after all that a port has seen, where that is all
pub number_after : (entries : List PlainRecord) (seen number : ℕ) (entry : PlainRecord) → seen ≡ length entries
    → number ≡ length (take seen entries ++ entry ∷ []) → number ≡ length entries + 1
number_after entries seen number entry all e = omega (arith, rw (all, take-length entries) at e, length-append entries (entry ∷ []))
