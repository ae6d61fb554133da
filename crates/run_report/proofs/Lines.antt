-- The texts of lists, one line after another.
use Rattle.std.proofs.Common.{◌≡◌, ℕ, zero, suc, get_or, ◌+◌, ◌<◌, List, [], ◌∷◌, ◌++◌, length, take, drop, map, All, arith, refl, ap, sym, ◌∙◌, subst, append_assoc, drop-cons, add-one}
use Rattle.std.specs.List.{flat_map}
use Rattle.std.proofs.lemmas.List.{take-append-drop, append-nil, length-take, get_or-map, length-map}
use Rattle.std.proofs.lemmas.List.Elements.{All-get_or}
use Rattle.std.proofs.lemmas.List.Folds.{flat_map-map}
use Rattle.std.proofs.Math.Seq.{take-suc}
use Rattle.byte_ports.specs.Sinks.{SinkView, Whole, Part}
use Rattle.byte_ports.proofs.Joined.{whole_then, part_then, part_first, whole_each, part_each}
use Rattle.run_report.specs.declared.pieces.Piece.{Piece}
use Rattle.run_report.specs.Lines.{IsHeldBack}
use Rattle.run_report.specs.Pieces.{piece_text, text_of}
use Rattle.run_report.specs.declared.journal.ActorPart.{ActorPart}
use Rattle.run_report.specs.Journal.{plain_actor_part}
use Rattle.run_report.specs.Text.{numbered, name_at}
use Rattle.run_report.proofs.HeldBack.{fault_each, held_each}

-- the pieces' text is that of a list of items
pub text_of_each : (pieces : List Piece) → text_of pieces ≡ flat_map piece_text pieces
text_of_each [] = refl
text_of_each (piece ∷ pieces) = ap (λ rest. piece_text piece ++ rest) (text_of_each pieces)

-- one more piece
pub held_piece : (old between new : SinkView) (held middle left : List ℕ) (pieces : List Piece) (i : ℕ) (d : Piece) → i < length pieces
    → IsHeldBack old held between middle (text_of (take i pieces)) → IsHeldBack between middle new left (piece_text (get_or pieces i d))
    → IsHeldBack old held new left (text_of (take (i + 1) pieces))
held_piece old between new held middle left pieces i d below before after =
    rw text_of_each (held_each piece_text old between new held middle left pieces i d below (rw text_of_each at before) after)

-- a fault at a piece
pub fault_piece : (old between new : SinkView) (held middle : List ℕ) (pieces : List Piece) (i : ℕ) (d : Piece) → i < length pieces
    → IsHeldBack old held between middle (text_of (take i pieces)) → Part between new (middle ++ piece_text (get_or pieces i d))
    → Part old new (held ++ text_of pieces)
fault_piece old between new held middle pieces i d below before after =
    rw text_of_each (fault_each piece_text old between new held middle pieces i d below (rw text_of_each at before) after)

-- the texts of a list's items as plain data
module _ {A B : Type 0} (text : B → List ℕ) (plain : A → B) where
  -- one more item, whole
  pub whole_mapped : (old between new : SinkView) (items : List A) (i : ℕ) (item : A) → i < length items → item ≡ get_or items i item
      → Whole old between (flat_map text (map plain (take i items))) → Whole between new (text (plain item))
      → Whole old new (flat_map text (map plain (take (i + 1) items)))
  whole_mapped old between new items i item below is before after =
      let own : Whole between new (text (plain (get_or items i item))) = subst (λ x. Whole between new (text (plain x))) is after in
      rw (flat_map-map text plain (take (i + 1) items))
      (whole_each (λ x. text (plain x)) old between new items i item below (rw (flat_map-map text plain (take i items)) at before) own)

  -- a fault at an item leaves a part of all
  pub part_mapped : (old between new : SinkView) (items : List A) (i : ℕ) (item : A) → i < length items → item ≡ get_or items i item
      → Whole old between (flat_map text (map plain (take i items))) → Part between new (text (plain item))
      → Part old new (flat_map text (map plain items))
  part_mapped old between new items i item below is before after =
      let own : Part between new (text (plain (get_or items i item))) = subst (λ x. Part between new (text (plain x))) is after in
      rw (flat_map-map text plain items)
      (part_each (λ x. text (plain x)) old between new items i item below (rw (flat_map-map text plain (take i items)) at before) own)

-- what holds of each item as plain data holds of one
pub plain_at : {A B : Type 0} (P : B → Type 0) (plain : A → B) (items : List A) (i : ℕ) (item : A) → i < length items
    → item ≡ get_or items i item → All P (map plain items) → P (plain item)
plain_at P plain items i item below is each =
    let inside : i < length (map plain items) = omega (arith, length-map items plain, below) in
    let at : get_or (map plain items) i (plain item) ≡ plain item = get_or-map plain items i item (plain item) below ∙ ap plain (sym is) in
    subst P at (All-get_or P (map plain items) i (plain item) inside each)

-- the texts of numbered items
module _ {A : Type 0} (text : ℕ → A → List ℕ) where
  pub numbered-append : (n : ℕ) (xs ys : List A) → numbered text n (xs ++ ys) ≡ numbered text n xs ++ numbered text (n + length xs) ys
  numbered-append n [] ys = ap (λ m. numbered text m ys) (omega arith)
  numbered-append n (x ∷ xs) ys =
      ap (λ rest. text n x ++ rest) (numbered-append (n + 1) xs ys)
      ∙ sym (append_assoc (text n x) (numbered text (n + 1) xs) (numbered text (n + 1 + length xs) ys))
      ∙ ap (λ m. (text n x ++ numbered text (n + 1) xs) ++ numbered text m ys) (omega arith)

  -- all of them are those before an item, its own, and those after it
  pub numbered-split : (n : ℕ) (items : List A) (i m : ℕ) (d : A) → i < length items → m ≡ n + i
      → numbered text n items ≡ numbered text n (take i items) ++ (text m (get_or items i d) ++ numbered text (m + 1) (drop (i + 1) items))
  numbered-split n items i m d below e =
      let from : drop i items ≡ get_or items i d ∷ drop (i + 1) items = rw (drop-cons items i d below, add-one) refl in
      let at : n + length (take i items) ≡ m = omega (arith, e, length-take i items, below) in
      sym (ap (numbered text n) (take-append-drop i items))
      ∙ numbered-append n (take i items) (drop i items)
      ∙ ap (λ k. numbered text n (take i items) ++ numbered text k (drop i items)) at
      ∙ ap (λ rest. numbered text n (take i items) ++ numbered text m rest) from

  -- the first i + 1 are the first i and the next
  pub numbered-take : (n : ℕ) (items : List A) (i m : ℕ) (d : A) → i < length items → m ≡ n + i
      → numbered text n (take (i + 1) items) ≡ numbered text n (take i items) ++ text m (get_or items i d)
  numbered-take n items i m d below e =
      let at : n + length (take i items) ≡ m = omega (arith, e, length-take i items, below) in
      rw (add-one, take-suc items i d below)
      (numbered-append n (take i items) (get_or items i d ∷ [])
      ∙ ap (λ k. numbered text n (take i items) ++ numbered text k (get_or items i d ∷ [])) at
      ∙ ap (λ rest. numbered text n (take i items) ++ rest) (append-nil (text m (get_or items i d))))

  -- one more item, whole
  pub whole_numbered : (old between new : SinkView) (n : ℕ) (items : List A) (i m : ℕ) (d : A) → i < length items → m ≡ n + i
      → Whole old between (numbered text n (take i items)) → Whole between new (text m (get_or items i d))
      → Whole old new (numbered text n (take (i + 1) items))
  whole_numbered old between new n items i m d below e before after =
      rw (numbered-take n items i m d below e)
      (whole_then old between new (numbered text n (take i items)) (text m (get_or items i d)) before after)

  -- a fault at an item leaves a part of all
  pub part_numbered : (old between new : SinkView) (n : ℕ) (items : List A) (i m : ℕ) (d : A) → i < length items → m ≡ n + i
      → Whole old between (numbered text n (take i items)) → Part between new (text m (get_or items i d))
      → Part old new (numbered text n items)
  part_numbered old between new n items i m d below e before after =
      let one : List ℕ = text m (get_or items i d) in
      let rest : List ℕ = numbered text (m + 1) (drop (i + 1) items) in
      rw (numbered-split n items i m d below e)
      (part_then old between new (numbered text n (take i items)) (one ++ rest) before (part_first between new one rest after))

-- numbered items as plain data
pub numbered-map : {A B : Type 0} (text : ℕ → B → List ℕ) (plain : A → B) (n : ℕ) (items : List A)
    → numbered text n (map plain items) ≡ numbered (λ k item. text k (plain item)) n items
numbered-map text plain n [] = refl
numbered-map text plain n (item ∷ items) = ap (λ rest. text n (plain item) ++ rest) (numbered-map text plain (n + 1) items)

-- a step of a loop over numbered items, one more of which is whole
pub whole_next : {A B : Type 0} (text : ℕ → B → List ℕ) (plain : A → B) (old between new : SinkView) (n : ℕ) (items : List A) (i m : ℕ) (item : A)
    → i < length items → item ≡ get_or items i item → m ≡ n + i
    → Whole old between (numbered text n (map plain (take i items))) → Whole between new (text m (plain item))
    → Whole old new (numbered text n (map plain (take (i + 1) items)))
whole_next text plain old between new n items i m item below is e before after =
    let own : Whole between new (text m (plain (get_or items i item))) = subst (λ x. Whole between new (text m (plain x))) is after in
    rw (numbered-map text plain n (take (i + 1) items))
    (whole_numbered (λ k x. text k (plain x)) old between new n items i m item below e (rw (numbered-map text plain n (take i items)) at before) own)

-- and one that a fault ends
pub part_next : {A B : Type 0} (text : ℕ → B → List ℕ) (plain : A → B) (old between new : SinkView) (n : ℕ) (items : List A) (i m : ℕ) (item : A)
    → i < length items → item ≡ get_or items i item → m ≡ n + i
    → Whole old between (numbered text n (map plain (take i items))) → Part between new (text m (plain item))
    → Part old new (numbered text n (map plain items))
part_next text plain old between new n items i m item below is e before after =
    let own : Part between new (text m (plain (get_or items i item))) = subst (λ x. Part between new (text m (plain x))) is after in
    rw (numbered-map text plain n items)
    (part_numbered (λ k x. text k (plain x)) old between new n items i m item below e (rw (numbered-map text plain n (take i items)) at before) own)

-- the name of an actor of a list is that of its plain data
pub name_at_plain : (actors : List ActorPart) (i : ℕ) (d : ActorPart) → i < length actors
    → (get_or actors i d).name ≡ name_at (map plain_actor_part actors) i
name_at_plain (actor ∷ actors) zero d below = refl
name_at_plain (actor ∷ actors) (suc i) d below = name_at_plain actors i d (omega (arith, below))
name_at_plain [] i d below = absurd (omega (arith, below))
