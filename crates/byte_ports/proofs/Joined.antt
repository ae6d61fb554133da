-- One text after another to a sink.
use Rattle.std.proofs.Common.{◌≡◌, ℕ, get_or, ◌+◌, ◌-◌, ◌<◌, List, [], ◌∷◌, ◌++◌, length, take, drop, arith, refl, ap, sym, ◌∙◌, length-append, append_assoc, drop-cons, add-one}
use Rattle.std.proofs.lemmas.List.{take-append-le, length-drop, take-append-drop, append-nil}
use Rattle.std.proofs.Math.Seq.{take-append-add, take-add, take-suc, take-length}
use Rattle.std.proofs.lemmas.Grind.{flat_map-append}
use Rattle.std.specs.List.{flat_map}
use Rattle.std.specs.Prelude.{Option, Some, None, Result, Ok, Err}
use Rattle.byte_ports.specs.declared.Failed.{Failed}
use Rattle.byte_ports.specs.Sinks.{SinkView, IsAfterWrite, plus, Whole, Part, Writes}

-- a text after another is the two joined
pub plus-plus : (written : Option (List ℕ)) (first second : List ℕ)
    → plus (plus written first) second ≡ plus written (first ++ second)
plus-plus None first second = refl
plus-plus (Some written) first second = ap Some (append_assoc written first second)

-- no text changes nothing
pub plus-none : (written : Option (List ℕ)) → written ≡ plus written []
plus-none None = refl
plus-none (Some written) = ap Some (sym (append-nil written))

-- a sink that is left alone goes on as it is
pub goes_alone : (old : SinkView) → IsAfterWrite old old
goes_alone old = record { faults = omega arith; levels = λ n. omega arith; reference = refl }

-- one write after another
pub goes_then : (old between new : SinkView) → IsAfterWrite old between → IsAfterWrite between new → IsAfterWrite old new
goes_then old between new before after = record {
  faults = omega (arith, before.faults, after.faults);
  levels = λ n. omega (arith, before.levels n, after.levels n);
  reference = after.reference ∙ before.reference;
}

-- nothing written is the empty text, whole
pub whole_none : (old : SinkView) → Whole old old []
whole_none old = record { written = plus-none old.written; goes_on = goes_alone old }

-- whole, then whole
pub whole_then : (old between new : SinkView) (first second : List ℕ)
    → Whole old between first → Whole between new second → Whole old new (first ++ second)
whole_then old between new first second before after = record {
  written = after.written ∙ ap (λ w. plus w second) before.written ∙ plus-plus old.written first second;
  goes_on = goes_then old between new before.goes_on after.goes_on;
}

-- whole, then part
pub part_then : (old between new : SinkView) (first second : List ℕ)
    → Whole old between first → Part between new second → Part old new (first ++ second)
part_then old between new first second before after =
    let upto : ℕ = after.upto in
    let joined : new.written ≡ plus old.written (first ++ take upto second) =
    after.written ∙ ap (λ w. plus w (take upto second)) before.written ∙ plus-plus old.written first (take upto second) in
    record {
      upto = length first + upto;
      within = omega (arith, after.within, length-append first second);
      written = joined ∙ ap (plus old.written) (sym (take-append-add first second upto));
      rose = omega (arith, before.goes_on.faults, after.rose);
      goes_on = goes_then old between new before.goes_on after.goes_on;
    }

-- a part of the first text is a part of both
pub part_first : (old new : SinkView) (first second : List ℕ) → Part old new first → Part old new (first ++ second)
part_first old new first second part = record {
  upto = part.upto;
  within = omega (arith, part.within, length-append first second);
  written = rw (take-append-le part.upto first second part.within) part.written;
  rose = part.rose;
  goes_on = part.goes_on;
}

-- a whole text, and then a call that writes the rest
pub then_rest : (old between new : SinkView) (first rest : List ℕ) (result : Result (Unit {0}) Failed)
    → Whole old between first → Writes between new rest result → Writes old new (first ++ rest) result
then_rest old between new first rest (Ok _) before after = whole_then old between new first rest before after
then_rest old between new first rest (Err _) before after = part_then old between new first rest before after

-- the first n bytes, and then some of the range from n to the end
pub whole_taken : (old between new : SinkView) (text : List ℕ) (n more : ℕ)
    → Whole old between (take n text) → Whole between new (take more (take (length text - n) (drop n text)))
    → Whole old new (take (n + more) text)
whole_taken old between new text n more before after =
    let all : length text - n ≡ length (drop n text) = omega (arith, length-drop n text) in
    let rest : take (length text - n) (drop n text) ≡ drop n text = rw all (take-length (drop n text)) in
    rw (take-add n more text) (whole_then old between new (take n text) (take more (drop n text)) before (rw rest at after))

-- the texts of a list's items, one after another
module _ {A : Type 0} (text : A → List ℕ) where
  -- all of them are those before an item, its own, and those after it
  pub each-split : (items : List A) (i : ℕ) (d : A) → i < length items
      → flat_map text items ≡ flat_map text (take i items) ++ (text (get_or items i d) ++ flat_map text (drop (i + 1) items))
  each-split items i d below =
      let from : drop i items ≡ get_or items i d ∷ drop (i + 1) items = rw (drop-cons items i d below, add-one) refl in
      sym (ap (flat_map text) (take-append-drop i items))
      ∙ flat_map-append text (take i items) (drop i items)
      ∙ ap (λ rest. flat_map text (take i items) ++ flat_map text rest) from

  -- the first i + 1 are the first i and the next
  pub each-take : (items : List A) (i : ℕ) (d : A) → i < length items
      → flat_map text (take (i + 1) items) ≡ flat_map text (take i items) ++ text (get_or items i d)
  each-take items i d below =
      rw (add-one, take-suc items i d below)
      (flat_map-append text (take i items) (get_or items i d ∷ [])
      ∙ ap (λ rest. flat_map text (take i items) ++ rest) (append-nil (text (get_or items i d))))

  -- one more item, whole
  pub whole_each : (old between new : SinkView) (items : List A) (i : ℕ) (d : A) → i < length items
      → Whole old between (flat_map text (take i items)) → Whole between new (text (get_or items i d))
      → Whole old new (flat_map text (take (i + 1) items))
  whole_each old between new items i d below before after =
      rw (each-take items i d below)
      (whole_then old between new (flat_map text (take i items)) (text (get_or items i d)) before after)

  -- a fault at an item leaves a part of all
  pub part_each : (old between new : SinkView) (items : List A) (i : ℕ) (d : A) → i < length items
      → Whole old between (flat_map text (take i items)) → Part between new (text (get_or items i d))
      → Part old new (flat_map text items)
  part_each old between new items i d below before after =
      let rest : List ℕ = flat_map text (drop (i + 1) items) in
      rw (each-split items i d below)
      (part_then old between new (flat_map text (take i items)) (text (get_or items i d) ++ rest) before
      (part_first between new (text (get_or items i d)) rest after))
