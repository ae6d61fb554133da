-- One text after another into a line.
use Rattle.std.proofs.Common.{◌≡◌, ℕ, get_or, ◌+◌, ◌<◌, List, [], ◌∷◌, ◌++◌, length, take, drop, refl, ap, sym, ◌∙◌, subst, append_assoc}
use Rattle.std.proofs.lemmas.List.{append-nil}
use Rattle.std.specs.List.{flat_map}
use Rattle.std.specs.Prelude.{Result, Ok, Err}
use Rattle.byte_ports.specs.declared.Failed.{Failed}
use Rattle.byte_ports.specs.Sinks.{SinkView, Whole, Part, Writes}
use Rattle.byte_ports.proofs.Joined.{whole_none, whole_then, part_then, part_first, then_rest, each-split, each-take}
use Rattle.run_report.specs.Lines.{IsHeldBack, Puts}

-- nothing is put
pub held_none : (old : SinkView) (held : List ℕ) → IsHeldBack old held old held []
held_none old held = record { written = []; parted = append-nil held; whole = whole_none old }

-- a text that is held back whole
pub held_whole : (old : SinkView) (held left text : List ℕ) → left ≡ held ++ text → IsHeldBack old held old left text
held_whole old held left text h = record { written = []; parted = sym h; whole = whole_none old }

-- what was held back is written, and the text is held back
pub held_after : (old new : SinkView) (held left text : List ℕ) → left ≡ text → Whole old new held → IsHeldBack old held new left text
held_after old new held left text h whole = record { written = held; parted = ap (λ t. held ++ t) (sym h); whole = whole }

-- what was held back is written, and then the text
pub put_through : (old between new : SinkView) (held left text : List ℕ) (result : Result (Unit {0}) Failed)
    → left ≡ [] → Whole old between held → Writes between new text result → Puts old held new left text result
put_through old between new held left text (Ok _) h before after = record {
  written = held ++ text;
  parted = sym (append-nil (held ++ text)) ∙ ap (λ t. (held ++ text) ++ t) (sym h);
  whole = whole_then old between new held text before after;
}
put_through old between new held left text (Err _) h before after = part_then old between new held text before after

-- one text after another
pub held_both : (old between new : SinkView) (held middle left first second : List ℕ)
    → IsHeldBack old held between middle first → IsHeldBack between middle new left second → IsHeldBack old held new left (first ++ second)
held_both old between new held middle left first second before after = record {
  written = before.written ++ after.written;
  parted =
      sym (append_assoc held first second) ∙ ap (λ t. t ++ second) before.parted ∙ append_assoc before.written middle second
      ∙ ap (λ t. before.written ++ t) after.parted ∙ sym (append_assoc before.written after.written left);
  whole = whole_then old between new before.written after.written before.whole after.whole;
}

-- a fault in the second text
pub fault_then : (old between new : SinkView) (held middle first second : List ℕ)
    → IsHeldBack old held between middle first → Part between new (middle ++ second) → Part old new (held ++ (first ++ second))
fault_then old between new held middle first second before after =
    let joined : held ++ (first ++ second) ≡ before.written ++ (middle ++ second) =
    sym (append_assoc held first second) ∙ ap (λ t. t ++ second) before.parted ∙ append_assoc before.written middle second in
    rw joined (part_then old between new before.written (middle ++ second) before.whole after)

-- a fault in the first text is one in both
pub fault_first : (old new : SinkView) (held first second : List ℕ) → Part old new (held ++ first) → Part old new (held ++ (first ++ second))
fault_first old new held first second part = rw (← append_assoc held first second) (part_first old new (held ++ first) second part)

-- a text, and then a call that puts the rest
pub put_rest : (old between new : SinkView) (held middle left first rest : List ℕ) (result : Result (Unit {0}) Failed)
    → IsHeldBack old held between middle first → Puts between middle new left rest result → Puts old held new left (first ++ rest) result
put_rest old between new held middle left first rest (Ok _) before after = held_both old between new held middle left first rest before after
put_rest old between new held middle left first rest (Err _) before after = fault_then old between new held middle first rest before after

-- from an empty line: what is held back at last is written
pub line_ended : (old between new : SinkView) (held left text : List ℕ) (result : Result (Unit {0}) Failed)
    → held ≡ [] → IsHeldBack old held between left text → Writes between new left result → Writes old new text result
line_ended old between new held left text result e before after =
    subst (λ t. Writes old new t result) (sym before.parted ∙ ap (λ h. h ++ text) e) (then_rest old between new before.written left result before.whole after)

-- from an empty line: a fault before its end
pub line_fault : (old new : SinkView) (held text : List ℕ) → held ≡ [] → Part old new (held ++ text) → Part old new text
line_fault old new held text e part = subst (λ h. Part old new (h ++ text)) e part

-- the texts of a list's items, one after another
module _ {A : Type 0} (text : A → List ℕ) where
  -- one more item
  pub held_each : (old between new : SinkView) (held middle left : List ℕ) (items : List A) (i : ℕ) (d : A) → i < length items
      → IsHeldBack old held between middle (flat_map text (take i items)) → IsHeldBack between middle new left (text (get_or items i d))
      → IsHeldBack old held new left (flat_map text (take (i + 1) items))
  held_each old between new held middle left items i d below before after =
      rw (each-take text items i d below)
      (held_both old between new held middle left (flat_map text (take i items)) (text (get_or items i d)) before after)

  -- a fault at an item
  pub fault_each : (old between new : SinkView) (held middle : List ℕ) (items : List A) (i : ℕ) (d : A) → i < length items
      → IsHeldBack old held between middle (flat_map text (take i items)) → Part between new (middle ++ text (get_or items i d))
      → Part old new (held ++ flat_map text items)
  fault_each old between new held middle items i d below before after =
      let rest : List ℕ = flat_map text (drop (i + 1) items) in
      rw (each-split text items i d below)
      (fault_then old between new held middle (flat_map text (take i items)) (text (get_or items i d) ++ rest) before
      (fault_first between new middle (text (get_or items i d)) rest after))
