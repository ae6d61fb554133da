-- One piece after another from a source.
use Rattle.std.proofs.Common.{◌≡◌, ℕ, ◌+◌, ◌≤◌, ◌<◌, List, [], ◌∷◌, ◌++◌, length, take, drop, arith, refl, ap, sym, ◌∙◌, length-append, append_assoc}
use Rattle.std.proofs.lemmas.List.{append-nil, take-append-drop}
use Rattle.std.proofs.Math.Seq.{drop-append_seam}
use Rattle.std.specs.Prelude.{Option, Some, None, min, Err}
use Rattle.byte_ports.specs.declared.source.ReadRefusal.{ReadRefusal}
use Rattle.byte_ports.specs.declared.source.ReadRefusal.TheVariants.{Failed as ReadFailed, Memory}
use Rattle.byte_ports.specs.Sources.{SourceView, put_before, left_after, IsToldAs, IsLongerThan, Reads, KeepsPiece, TookWhole, TookBeyond, TookPiece, Took}

-- what is held, and then a piece
pub held_then : (left between new : Option (List ℕ)) (held piece : List ℕ)
    → left ≡ put_before held between → between ≡ put_before piece new → left ≡ put_before (held ++ piece) new
held_then left between None held piece e f = e ∙ ap (put_before held) f
held_then left between (Some rest) held piece e f = e ∙ ap (put_before held) f ∙ ap Some (sym (append_assoc held piece rest))

-- what is left after what is held
pub left_of_held : (left new : Option (List ℕ)) (held : List ℕ) → left ≡ put_before held new → new ≡ left_after (length held) left
left_of_held left None held e = rw e refl
left_of_held left (Some rest) held e = rw e (ap Some (sym (drop-append_seam held rest)))

-- at the end all is held
pub told_as_held : (left new : Option (List ℕ)) (held : List ℕ) → left ≡ put_before held new → IsToldAs new [] → IsToldAs left held
told_as_held left None held e end = rw e tt
told_as_held left (Some rest) held e end = rw e (ap (λ r. held ++ r) end ∙ append-nil held)

-- more is held than n
pub longer_than_held : (left new : Option (List ℕ)) (held : List ℕ) (n : ℕ) → left ≡ put_before held new → n < length held → IsLongerThan n left
longer_than_held left None held n e h = rw e tt
longer_than_held left (Some rest) held n e h = rw e (omega (arith, h, length-append held rest))

-- a list of no length is empty
no_length : (xs : List ℕ) → length xs ≡ 0 → xs ≡ []
no_length [] e = refl
no_length (x ∷ xs) e = absurd (omega (arith, e))

-- what a memory source gives, it takes from its front
pub gives_reads : (old new : SourceView) (left buffer : List ℕ) (count most : ℕ)
    → old.left ≡ Some left → new.left ≡ Some (drop count left) → old.faults ≤ new.faults
    → count ≡ min (min (length left) (length buffer)) most → take count buffer ≡ take count left
    → 0 < length buffer → 1 ≤ most → Reads old new buffer count
gives_reads old new left buffer count most told rest faults amount given some more = record {
  within = omega (arith, amount);
  taken = rw (told, rest, given) (ap Some (sym (take-append-drop count left)));
  ended = λ none. rw (rest, none) (no_length left (omega (arith, some, more, amount, none)));
  faults = faults;
}

-- one more piece is held
pub piece_kept : (left : Option (List ℕ)) (between new : SourceView) (held kept : List ℕ) (room count : ℕ)
    → left ≡ put_before held between.left → KeepsPiece between new held kept room count
    → left ≡ put_before kept new.left
piece_kept left between new held kept room count e keeps =
    rw keeps.grown (held_then left between.left new.left held keeps.piece e keeps.taken)

-- the source ended: what is held is all
pub took_whole : (old between new : SourceView) (held kept : List ℕ) (limit room count : ℕ)
    → old.left ≡ put_before held between.left → old.faults ≤ between.faults → length held ≤ limit
    → KeepsPiece between new held kept room count → count ≡ 0 → TookWhole old new limit kept
took_whole old between new held kept limit room count e faults within keeps none =
    let empty : length keeps.piece ≡ 0 = omega (arith, keeps.counted, none) in
    let all : old.left ≡ put_before kept new.left = piece_kept old.left between new held kept room count e keeps in
    let ended : IsToldAs new.left [] = keeps.ended empty in
    record {
      within = rw keeps.grown (omega (arith, empty, within, length-append held keeps.piece));
      told = told_as_held old.left new.left kept all ended;
      left = left_of_held old.left new.left kept all;
      ended = ended;
      faults = omega (arith, faults, keeps.faults);
    }

-- one byte more than the limit is held
pub took_beyond : (old new : SourceView) (held : List ℕ) (limit : ℕ)
    → old.left ≡ put_before held new.left → old.faults ≤ new.faults → length held ≡ limit + 1 → TookBeyond old new limit
took_beyond old new held limit e faults full = record {
  beyond = longer_than_held old.left new.left held limit e (omega (arith, full));
  left = rw (← full) (left_of_held old.left new.left held e);
  faults = faults;
}

-- a refused piece leaves some bytes taken
pub took_refused : (old between new : SourceView) (held kept : List ℕ) (limit room : ℕ) (refusal : ReadRefusal)
    → old.left ≡ put_before held between.left → old.faults ≤ between.faults → length held + room ≤ limit + 1
    → TookPiece between new held kept room (Err refusal) → Took old new limit (Err refusal)
took_refused old between new held kept limit room ReadFailed e faults within fails = (
  record {
    count = length held;
    within = omega (arith, within);
    left = left_of_held old.left new.left held (rw fails.left e);
    faults = omega (arith, faults, fails.faults);
  },
  omega (arith, faults, fails.rose),
)
took_refused old between new held kept limit room Memory e faults within loses = record {
  count = length (held ++ loses.piece);
  within = omega (arith, within, loses.within, length-append held loses.piece);
  left = left_of_held old.left new.left (held ++ loses.piece) (held_then old.left between.left new.left held loses.piece e loses.taken);
  faults = omega (arith, faults, loses.faults);
}
