-- Histories that grow by one record.
use Rattle.std.proofs.Common.{◌≡◌, ℕ, List, [], ◌∷◌, ◌++◌, refl, ap, sym, ◌∙◌, subst, append_assoc}
use Rattle.std.proofs.lemmas.List.{append-nil}
use Rattle.shadow_frame.specs.declared.Size.{Size}
use Rattle.native_state.specs.declared.StateChange.{StateChange}
use Rattle.native_state.specs.declared.StateCell.{StateCell}
use Rattle.native_state.specs.State.{start_cell, cell_after, cell_from}
use Rattle.tree_revision.specs.Records.{PlainRecord}
use Rattle.tree_revision.specs.Lawful.{MayFollow, MayAllFollow, IsLawful}
use Rattle.tree_revision.specs.Newest.{change_of, newest_state}
use Rattle.tree_revision.proofs.Shorthands.{changes_of}

-- the changes of a family's state are those of the one part and then those of the other
pub changes_of-append : (tag : ℕ) (us vs : List PlainRecord) → changes_of tag (us ++ vs) ≡ changes_of tag us ++ changes_of tag vs
changes_of-append tag [] vs = refl
changes_of-append tag (u ∷ us) vs =
    ap (λ l. change_of tag u.op ++ l) (changes_of-append tag us vs) ∙ sym (append_assoc (change_of tag u.op) (changes_of tag us) (changes_of tag vs))

-- one more record that may follow leaves a list lawful
pub MayAllFollow-push : (first : Size) (before entries : List PlainRecord) (entry : PlainRecord) → MayAllFollow first before entries
    → MayFollow first (before ++ entries) entry → MayAllFollow first before (entries ++ entry ∷ [])
MayAllFollow-push first before [] entry all may = (subst (λ l. MayFollow first l entry) (append-nil before) may, tt)
MayAllFollow-push first before (e ∷ entries) entry all may =
    (all.0, MayAllFollow-push first (before ++ e ∷ []) entries entry all.1 (subst (λ l. MayFollow first l entry) (sym (append_assoc before (e ∷ []) entries)) may))

-- the first part of a lawful list is lawful
pub MayAllFollow-front : (first : Size) (before us vs : List PlainRecord) → MayAllFollow first before (us ++ vs) → MayAllFollow first before us
MayAllFollow-front first before [] vs all = tt
MayAllFollow-front first before (u ∷ us) vs all = (all.0, MayAllFollow-front first (before ++ u ∷ []) us vs all.1)

-- a lawful list and one more record that may follow it are lawful
pub IsLawful-push : (first : Size) (entries : List PlainRecord) (entry : PlainRecord) → IsLawful first entries → MayFollow first entries entry
    → IsLawful first (entries ++ entry ∷ [])
IsLawful-push first entries entry all may = MayAllFollow-push first [] entries entry all may

-- changes in two parts are made one part after the other
pub cell_from-append : (cell : StateCell) (us vs : List StateChange) → cell_from cell (us ++ vs) ≡ cell_from (cell_from cell us) vs
cell_from-append cell [] vs = refl
cell_from-append cell (u ∷ us) vs = cell_from-append (cell_after u cell) us vs

-- a family's newest state after one more record
pub newest_state-push : (entries : List PlainRecord) (entry : PlainRecord) (tag : ℕ)
    → newest_state (entries ++ entry ∷ []) tag ≡ cell_from (newest_state entries tag) (change_of tag entry.op)
newest_state-push entries entry tag =
    ap (cell_from start_cell) (changes_of-append tag entries (entry ∷ []))
    ∙ cell_from-append start_cell (changes_of tag entries) (change_of tag entry.op ++ [])
    ∙ ap (cell_from (newest_state entries tag)) (append-nil (change_of tag entry.op))

-- the first part of a lawful list is lawful
pub IsLawful-front : (first : Size) (us vs : List PlainRecord) → IsLawful first (us ++ vs) → IsLawful first us
IsLawful-front first us vs all = MayAllFollow-front first [] us vs all
