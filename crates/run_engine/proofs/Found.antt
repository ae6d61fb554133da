-- The surface of a step, as a map finds it.
use Rattle.std.proofs.Common.{◌≡◌, ◌<◌, ℕ, zero, suc, false, List, [], ◌∷◌, length, find, get_or, map, slice_get, slice_set, arith, refl, ap, sym, ◌∙◌, cond}
use Rattle.std.specs.Prelude.{Some, None, nat_eq, position, OnOk, Result, Ok, Err}
use Rattle.std.specs.List.{AllByRecursion}
use Rattle.std.specs.Map.{keys_of, values_of}
use Rattle.std.proofs.lemmas.Bool.{eqb-true, ne_eqb, eqb-false}
use Rattle.std.proofs.lemmas.List.Quantifiers.{position-Some}
use Rattle.std.proofs.lemmas.Map.{none_passes_from_lookup}
use Rattle.std.proofs.lemmas.Option.{none-some, same_Some}
use Rattle.indexmap.specs.IndexMap.{set_value_at}
use Rattle.indexmap.proofs.MapLemmas.{Missing-position}
use Rattle.run_engine.specs.Now.{PlainDesk, surface_now}

-- an entry of a map, by its key and its value
entry_of : {A : Type 0} (es : List (ℕ × A)) (i k d : ℕ) (v : A) → i < length (keys_of es) → get_or (keys_of es) i d ≡ k → slice_get (values_of es) i ≡ Some v → slice_get es i ≡ Some (k, v)
entry_of [] i k d v below key value = absurd (omega (arith, below))
entry_of (e ∷ es) zero k d v below key value = λ i. Some (key i, same_Some e.1 v value i)
entry_of (e ∷ es) (suc i) k d v below key value = entry_of es i k d v (omega (arith, below)) key value

pub entry_at : {A : Type 0} (es : List (ℕ × A)) (place id : ℕ) (v : A) → position (nat_eq id) (keys_of es) ≡ Some place → slice_get (values_of es) place ≡ Some v
    → slice_get es place ≡ Some (id, v)
entry_at es place id v found value =
    let there = position-Some (nat_eq id) (keys_of es) place 0 found in
    entry_of es place id 0 v there.0 (sym (eqb-true id (get_or (keys_of es) place 0) there.1)) value

-- an entry with another value
pub set_entry : {A : Type 0} (es : List (ℕ × A)) (i k : ℕ) (v w : A) → slice_get es i ≡ Some (k, v) → set_value_at es i w ≡ slice_set es i (k, w)
set_entry [] i k v w at = absurd (none-some (k, v) at)
set_entry (e ∷ es) zero k v w at = λ i. ((same_Some e (k, v) at i).0, w) ∷ es
set_entry (e ∷ es) (suc i) k v w at = ap (λ l. e ∷ l) (set_entry es i k v w at)

-- no surface has an id that is not among the keys
find_none : (es : List (ℕ × PlainDesk)) (id : ℕ) → AllByRecursion (λ e. nat_eq id e.0 ≡ false) es → find (λ surface. nat_eq surface.id id) (map surface_now es) ≡ None
find_none [] id all = refl
find_none (e ∷ es) id all =
    ap (λ same. cond same (Some (surface_now e)) (find (λ surface. nat_eq surface.id id) (map surface_now es))) (ne_eqb e.0 id (λ same. eqb-false id e.0 all.0 (sym same)))
    ∙ find_none es id all.1

pub none_found : (es : List (ℕ × PlainDesk)) (id : ℕ) → position (nat_eq id) (keys_of es) ≡ None → find (λ surface. nat_eq surface.id id) (map surface_now es) ≡ None
none_found es id none = find_none es id (none_passes_from_lookup (nat_eq id) es (Missing-position (nat_eq id) es none).value)

-- what is left where a call succeeds
pub with_ok : {T E : Type 0} (result : Result T E) (P Q : Type 0) → (P → Q) → OnOk result P → OnOk result Q
with_ok (Ok value) P Q h p = h p
with_ok (Err error) P Q h p = tt
