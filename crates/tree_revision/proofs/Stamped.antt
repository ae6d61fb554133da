-- Stamps after one more record.
use Rattle.std.proofs.Common.{◌≡◌, ◌≢◌, ℕ, ◌+◌, ◌≤◌, List, [], ◌∷◌, ◌++◌, length, length-append, take_all, Some, None, is_some, inl, inr, arith, ap, sym, ◌∙◌, subst}
use Rattle.std.specs.Prelude.{IsSome}
use Rattle.std.specs.Ordering.{nat_cmp}
use Rattle.std.specs.FinMap as map
use Rattle.std.proofs.lemmas.Bool.{cases_lt}
use Rattle.std.proofs.lemmas.List.{take-append-le}
use Rattle.shadow_frame.specs.declared.Size.{Size}
use Rattle.shadow_node.specs.Forest.{PlainForest, none}
use Rattle.shadow_node.specs.Fields.{SettledFields}
use Rattle.shadow_node.specs.Find.{first_settled}
use Rattle.shadow_node.specs.Seen.{sight_of}
use Rattle.shadow_node.specs.Stamps.{StampMap}
use Rattle.tree_revision.specs.Records.{PlainRecord}
use Rattle.tree_revision.specs.Forests.{settled_of}
use Rattle.tree_revision.specs.ForestStamps.{HasTagsOf, IsStampAfter, AreStampsAfter}
use Rattle.tree_revision.specs.Stamps.{seen_at, IsStamp, AreStampsOf}

-- what the newest revision shows
seen_newest : (first : Size) (entries : List PlainRecord) (tag : ℕ) → seen_at first entries (length entries) tag ≡ sight_of (settled_of first entries) tag
seen_newest first entries tag = ap (λ l. sight_of (settled_of first l) tag) (take_all (length entries) entries (omega arith))

module _ (first : Size) (entries : List PlainRecord) (entry : PlainRecord) (tag : ℕ) where
  abbrev all : List PlainRecord
  all = entries ++ entry ∷ []

  one_more : length all ≡ length entries + 1
  one_more = omega (arith, length-append entries (entry ∷ []))

  -- an older revision shows what it showed
  seen_before : (number : ℕ) → number ≤ length entries → seen_at first all number tag ≡ seen_at first entries number tag
  seen_before number within = ap (λ l. sight_of (settled_of first l) tag) (take-append-le number entries (entry ∷ []) within)

  -- a tag that is seen as before keeps its stamp
  stamp_kept : (stamp : ℕ) → sight_of (settled_of first entries) tag ≡ sight_of (settled_of first all) tag → IsStamp first entries tag stamp
      → IsStamp first all tag stamp
  stamp_kept stamp same was =
      let now : seen_at first all (length all) tag ≡ seen_at first entries (length entries) tag = seen_newest first all tag ∙ sym same ∙ sym (seen_newest first entries tag) in
      let more = one_more in
      record {
        mounted = subst (λ sight. IsSome sight.tree) (sym now) was.mounted;
        reached = omega (arith, was.reached, more);
        unchanged = λ number from within.
            elim (cases_lt (length entries) number) [
              | inl above ↦ let newest : number ≡ length all = omega arith in ap (λ n. seen_at first all n tag) newest
              | inr below ↦ seen_before number below ∙ was.unchanged number from below ∙ sym now
            ];
        least = λ from within unchanged.
            elim (cases_lt (length entries) from) [
              | inl above ↦ omega (arith, was.reached)
              | inr below ↦ was.least from below (λ number low high. sym (seen_before number high) ∙ unchanged number low (omega arith) ∙ now)
            ];
      }

  -- any other tag that is mounted has the new number
  stamp_new : sight_of (settled_of first entries) tag ≢ sight_of (settled_of first all) tag → IsSome (first_settled tag (settled_of first all))
      → IsStamp first all tag (length entries + 1)
  stamp_new differs mounted =
      let more = one_more in
      record {
        mounted = subst (λ sight. IsSome sight.tree) (sym (seen_newest first all tag)) mounted;
        reached = omega arith;
        unchanged = λ number from within. let newest : number ≡ length all = omega arith in ap (λ n. seen_at first all n tag) newest;
        least = λ from within unchanged.
            elim (cases_lt (length entries) from) [
              | inl above ↦ omega arith
              | inr below ↦ absurd (differs
                  (sym (seen_newest first entries tag) ∙ sym (seen_before (length entries) (omega arith)) ∙ unchanged (length entries) below (omega arith) ∙ seen_newest first all tag))
            ];
      }

-- stamps after a commit are those of one more record
pub stamps_next : (first : Size) (entries : List PlainRecord) (entry : PlainRecord) (before after : StampMap) → AreStampsOf first before entries
    → AreStampsAfter (settled_of first entries) (settled_of first (entries ++ entry ∷ [])) before (length entries + 1) after
    → AreStampsOf first after (entries ++ entry ∷ [])
stamps_next first entries entry before after were are = record {
  mounted = are.mounted;
  each = λ tag stamp found.
      elim (are.each tag stamp found) [
        | inl kept ↦ stamp_kept first entries entry tag stamp kept.0 (were.each tag stamp kept.1)
        | inr renewed ↦
            subst (IsStamp first (entries ++ entry ∷ []) tag) (sym renewed.1)
            (stamp_new first entries entry tag renewed.0 (sym (are.mounted tag) ∙ ap is_some found))
      ];
}

-- an empty forest has no stamps
pub no_tags : HasTagsOf map.empty none
no_tags = λ tag. ap is_some (map.get-empty nat_cmp tag)

-- an empty map has no stamp
pub no_stamp : (P : ℕ → ℕ → Type 0) (tag stamp : ℕ) → map.get {R = nat_cmp} map.empty tag ≡ Some stamp → P tag stamp
no_stamp P tag stamp found = let both : None ≡ Some stamp = sym (map.get-empty nat_cmp tag) ∙ found in absurd cc

-- nor are there any after a commit to it
pub no_stamps_next : (old : PlainForest SettledFields) (before : StampMap) (number : ℕ) → AreStampsAfter old none before number map.empty
no_stamps_next old before number = record { mounted = no_tags; each = no_stamp (IsStampAfter old none before number) }
