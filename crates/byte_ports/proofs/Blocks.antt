-- What is handed on of the bytes that a block held back.
use Rattle.std.proofs.Common.{◌≡◌, ℕ, suc, zero, ◌+◌, ◌-◌, ◌≤◌, List, [], ◌++◌, length, take, drop, get_or, arith, refl, ap, sym, ◌∙◌, length-append}
use Rattle.std.proofs.lemmas.List.{length-drop, length-take-le, append-nil, take-append-le, take-append-drop, drop-drop, take-take}
use Rattle.std.proofs.Math.Seq.{take-append-add, take-add, take-length}
use Rattle.std.specs.Prelude.{Option, Some, None, Result, Ok, Err}
use Rattle.counts.specs.Raised.{HasRisen}
use Rattle.byte_ports.specs.declared.Failed.{Failed}
use Rattle.byte_ports.specs.Sinks.{SinkView, IsAfterWrite, plus, Whole, Part, WritesFirst, WriteFails}
use Rattle.byte_ports.specs.BlockSinks.{BlockSinkState, told_length, block_view_of, over, HandsOn, HandsOnPart, HandsOnSome, EndsAs}
use Rattle.byte_ports.proofs.Joined.{whole_none, whole_then, goes_alone, goes_then, plus-plus, plus-none}

-- what is left of a block from a later place on
pub left_from : (items : List ℕ) (first done : ℕ) → first ≤ done → drop done items ≡ drop (done - first) (drop first items)
left_from items first done from = ap (λ n. drop n items) {x = done} {y = first + (done - first)} (omega (arith, from)) ∙ sym (drop-drop (done - first) first items)

-- no byte of a block, from a place on
pub none_handed : (old : SinkView) (items : List ℕ) (first : ℕ) → Whole old old (take (first - first) (drop first items))
none_handed old items first = let none : first - first ≡ 0 = omega arith in rw none (whole_none old)

-- some more of a block's bytes, from a place on
pub more_handed : (old between new : SinkView) (items : List ℕ) (first done more : ℕ) → first ≤ done → done ≤ length items
    → Whole old between (take (done - first) (drop first items)) → Whole between new (take more (take (length items - done) (drop done items)))
    → Whole old new (take (done + more - first) (drop first items))
more_handed old between new items first done more from to before after =
    let held : List ℕ = drop first items in
    let size : length items - done ≡ length (drop done items) = omega (arith, length-drop done items) in
    let all : take (length items - done) (drop done items) ≡ drop (done - first) held = rw size (take-length (drop done items)) ∙ left_from items first done from in
    let piece : Whole between new (take more (drop (done - first) held)) = rw all at after in
    let count : done + more - first ≡ done - first + more = omega (arith, from) in
    rw (count, take-add (done - first) more held) (whole_then old between new (take (done - first) held) (take more (drop (done - first) held)) before piece)

-- a write that failed leaves the bytes up to a place handed on
pub part_handed : (old between new : SinkView) (items : List ℕ) (first done room free : ℕ) → first ≤ done → done ≤ length items
    → Whole old between (take (done - first) (drop first items)) → WriteFails between new
    → HandsOnPart (record { below = old; held = drop first items; room = room; free = free }) (record { below = new; held = drop done items; room = room; free = free })
part_handed old between new items first done room free from to before after = record {
  below = record {
    upto = done - first;
    within = omega (arith, from, to, length-drop first items);
    written = after.written ∙ before.written;
    rose = omega (arith, before.goes_on.faults, after.rose);
    goes_on = goes_then old between new before.goes_on after.goes_on;
  };
  held = left_from items first done from;
  room = refl;
  free = refl;
}

-- of a text that is told to a place, and of which the last bytes are held back, the first are handed on
handed : (below after : List ℕ) (held text : List ℕ) (upto : ℕ) → upto ≤ length text → after ++ held ≡ (below ++ []) ++ take upto text → length below ≤ length after
    → (length after - length below ≤ upto) × (after ≡ below ++ take (length after - length below) text)
handed below after held text upto within told longer =
    let more : ℕ = length after - length below in
    let joined : after ++ held ≡ below ++ take upto text = told ∙ ap (λ l. l ++ take upto text) (append-nil below) in
    let size : length after + length held ≡ length below + upto = omega (arith, ap length joined, length-append after held, length-append below (take upto text), length-take-le upto text within) in
    let few : more ≤ upto = omega (arith, size, longer) in
    let whole : length after ≡ length below + more = omega (arith, longer) in (
      few,
      sym (take-append-le (length after) after held (omega arith) ∙ take-length after)
          ∙ ap (take (length after)) joined
          ∙ ap (λ n. take n (below ++ take upto text)) whole
          ∙ take-append-add below (take upto text) more
          ∙ ap (λ l. below ++ l) (take-take more upto text few),
    )

-- the same where bytes are told
pub handed_part : (below after : Option (List ℕ)) (held text : List ℕ) (upto : ℕ) → upto ≤ length text
    → plus after held ≡ plus (plus below []) (take upto text) → told_length below ≤ told_length after
    → (told_length after - told_length below ≤ length text) × (after ≡ plus below (take (told_length after - told_length below) text))
handed_part None None held text upto within told longer = (omega arith, refl)
handed_part None (Some after) held text upto within told longer = cc
handed_part (Some below) None held text upto within told longer = cc
handed_part (Some below) (Some after) held text upto within told longer =
    let h = handed below after held text upto within (cc) longer in
    (omega (arith, within, h.0), ap Some h.1)

-- telling more makes what is told longer
longer_told : (written : Option (List ℕ)) (text : List ℕ) → told_length written ≤ told_length (plus written text)
longer_told None text = omega arith
longer_told (Some written) text = omega (arith, length-append written text)

-- a text that was told in part, and of which the last bytes are held back, is a part on the sink below
part_below : (below after : SinkView) (held text : List ℕ) (upto : ℕ) → upto ≤ length text
    → plus after.written held ≡ plus (plus below.written []) (take upto text) → told_length below.written ≤ told_length after.written
    → HasRisen below.faults after.faults → IsAfterWrite below after → Part below after text
part_below below after held text upto within told longer rose goes_on =
    let found = handed_part below.written after.written held text upto within told longer in
    record { upto = told_length after.written - told_length below.written; within = found.0; written = found.1; rose = rose; goes_on = goes_on }

-- what goes on above goes on below
goes_below : (below : SinkView) (room : ℕ) (state : BlockSinkState) → IsAfterWrite (block_view_of (over below room)) (block_view_of state) → IsAfterWrite below state.below
goes_below below room state goes_on = record { faults = goes_on.faults; levels = λ n. goes_on.levels (suc n); reference = goes_on.reference }

-- a text that was written in part is a part on the sink below
pub stopped : (state : BlockSinkState) (failed : Failed) → EndsAs state (Err failed) state.below (Err failed)
stopped state failed below room text part =
    part_below below state.below state.held text part.upto part.within part.written (part.goes_on.levels 0) part.rose (goes_below below room state part.goes_on)

-- a text that was written whole is whole below where all that was held back is handed on, and else it is a part
pub ended : (state after : BlockSinkState) (result : Result (Unit {0}) Failed) → HandsOnSome state after result → EndsAs state (Ok tt) after.below result
ended state after (Ok _) handed below room text whole = record {
  written = handed.below.written ∙ whole.written ∙ plus-plus below.written [] text;
  goes_on = goes_then below state.below after.below (goes_below below room state whole.goes_on) handed.below.goes_on;
}
ended state after (Err _) handed below room text whole =
    let upto : ℕ = handed.below.upto in
    let held : List ℕ = state.held in
    let told : plus after.below.written after.held ≡ plus (plus below.written []) (take (length text) text) =
    ap (plus after.below.written) handed.held
    ∙ ap (λ w. plus w (drop upto held)) handed.below.written
    ∙ plus-plus state.below.written (take upto held) (drop upto held)
    ∙ ap (plus state.below.written) (take-append-drop upto held)
    ∙ whole.written
    ∙ ap (plus (plus below.written [])) (sym (take-length text)) in
    let longer : told_length state.below.written ≤ told_length after.below.written = rw handed.below.written (longer_told state.below.written (take upto held)) in
    part_below below after.below after.held text (length text) (omega arith) told (omega (arith, longer, whole.goes_on.levels 0))
    (omega (arith, whole.goes_on.faults, handed.below.rose))
    (goes_then below state.below after.below (goes_below below room state whole.goes_on) handed.below.goes_on)

-- what goes on below goes on above
goes_above : (old new : BlockSinkState) → told_length old.below.written ≤ told_length new.below.written → IsAfterWrite old.below new.below → IsAfterWrite (block_view_of old) (block_view_of new)
goes_above old new longer goes_on = record { faults = goes_on.faults; levels = level_by_level; reference = goes_on.reference }
  where
    level_by_level : (n : ℕ) → get_or (block_view_of old).levels n 0 ≤ get_or (block_view_of new).levels n 0
    level_by_level zero = longer
    level_by_level (suc n) = goes_on.levels n

-- handing on changes nothing that is told
pub flushed : (old new : BlockSinkState) → HandsOn old new → Whole (block_view_of old) (block_view_of new) []
flushed old new handed =
    let longer : told_length old.below.written ≤ told_length new.below.written = rw handed.below.written (longer_told old.below.written old.held) in
    record {
      written = rw handed.held (sym (plus-none new.below.written) ∙ handed.below.written ∙ plus-none (plus old.below.written old.held));
      goes_on = goes_above old new longer handed.below.goes_on;
    }

-- bytes that are put into a block are written
pub put_in : (old mid new : BlockSinkState) (piece : List ℕ) (count : ℕ) → Whole (block_view_of old) (block_view_of mid) [] → 1 ≤ count → count ≤ length piece
    → new.below ≡ mid.below → new.held ≡ mid.held ++ take count piece → WritesFirst (block_view_of old) (block_view_of new) piece count
put_in old mid new piece count ready some within below held = record {
  some = some;
  within = within;
  appended = whole_then (block_view_of old) (block_view_of mid) (block_view_of new) [] (take count piece) ready
      (record {
        written = rw (below, held) (sym (plus-plus mid.below.written mid.held (take count piece)));
        goes_on = goes_above mid new (rw below (omega arith)) (rw below (goes_alone mid.below));
      });
}
