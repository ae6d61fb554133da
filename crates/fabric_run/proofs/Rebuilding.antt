-- The revisions of a lawful history, made again record by record.
use Rattle.std.proofs.Common.{◌≡◌, ◌∙◌, ◌≤◌, ◌<◌, ◌+◌, ℕ, zero, suc, List, [], ◌∷◌, ◌++◌, length, take, take_all, map, get_or, Option, Some, None, arith, sym, ap, subst, append_assoc, append-nil, add-one}
use Rattle.std.specs.Prelude.{Ok}
use Rattle.std.proofs.lemmas.List.{get_or-map, length-map}
use Rattle.std.proofs.lemmas.Option.{none-some}
use Rattle.std.proofs.Math.Seq.{take-suc}
use Rattle.shadow_frame.specs.declared.Size.{Size}
use Rattle.tree_query.specs.Rebuilt.{PlainRebuild, IsRebuildOf, IsPushAnswer, last_number}
use Rattle.tree_revision.specs.Records.{PlainRecord, plain_record}
use Rattle.tree_revision.specs.Lawful.{IsLawful, MayAllFollow, MayFollow}
use Rattle.tree_revision.specs.declared.record.Cancel.{Cancel}
use Rattle.tree_revision.specs.declared.record.Record.{Record}

-- each record of a lawful history may follow those before it
follows_at : (first : Size) (before entries : List PlainRecord) (i : ℕ) (d : PlainRecord) → MayAllFollow first before entries → i < length entries
    → MayFollow first (before ++ take i entries) (get_or entries i d)
follows_at first before [] i d all below = absurd (omega (arith, below))
follows_at first before (entry ∷ entries) zero d all below = subst (λ l. MayFollow first l entry) (sym (append-nil before)) all.0
follows_at first before (entry ∷ entries) (suc i) d all below =
    subst (λ l. MayFollow first l (get_or entries i d)) (append_assoc before (entry ∷ []) (take i entries))
    (follows_at first (before ++ entry ∷ []) entries i d all.1 (omega (arith, below)))

module _ (first : Size) (records : List Record) (i : ℕ) (item : Record) (below : i < length records) (is : item ≡ get_or records i item) (lawful : IsLawful first (map plain_record records)) where
  at_place : get_or (map plain_record records) i (plain_record item) ≡ plain_record item
  at_place = get_or-map plain_record records i item (plain_record item) below ∙ ap plain_record (sym is)

  inside : i < length (map plain_record records)
  inside = omega (arith, length-map records plain_record, below)

  -- the next record may follow those that were pushed
  pub next_follows : MayFollow first (take i (map plain_record records)) (plain_record item)
  next_follows = subst (MayFollow first (take i (map plain_record records))) at_place (follows_at first [] (map plain_record records) i (plain_record item) lawful inside)

  -- its caller held one of the revisions that there are
  pub next_held : (rebuild : PlainRebuild) → IsRebuildOf first rebuild (take i (map plain_record records)) → (plain_record item).held ≤ last_number rebuild
  next_held rebuild stands = omega (arith, stands.count, next_follows.held)

  -- and it is pushed
  pub next_pushed : (old new : PlainRebuild) (cause : Option Cancel) → IsRebuildOf first old (take i (map plain_record records)) → IsPushAnswer old new (plain_record item) (Ok cause)
      → IsRebuildOf first new (take (i + 1) (map plain_record records))
  next_pushed old new None stands answer =
      rw (add-one, take-suc (map plain_record records) i (plain_record item) inside)
      (subst (λ entry. IsRebuildOf first new (take i (map plain_record records) ++ entry ∷ [])) (sym at_place) (answer first (take i (map plain_record records)) stands).0)
  next_pushed old new (Some cause) stands answer =
      absurd (none-some cause (sym next_follows.admitted ∙ answer.0 first (take i (map plain_record records)) stands))

-- all records are pushed
pub all_pushed : (first : Size) (rebuild : PlainRebuild) (records : List Record) (i : ℕ) → length records ≤ i → IsRebuildOf first rebuild (take i (map plain_record records))
    → IsRebuildOf first rebuild (map plain_record records)
all_pushed first rebuild records i past stands = subst (IsRebuildOf first rebuild) (take_all i (map plain_record records) (omega (arith, length-map records plain_record, past))) stands
