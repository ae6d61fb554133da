-- Histories that begin with others.
use Rattle.std.proofs.Common.{◌≡◌, List, [], ◌∷◌, ◌++◌, length, take, drop, arith, refl, ap, sym, ◌∙◌, append-nil, length-append, take_at, take-append-drop, take-take}
use Rattle.tree_revision.specs.Records.{PlainRecord}
use Rattle.tree_revision.specs.Ports.{BeginsWith}

-- a history begins with itself
pub begins_self : (records : List PlainRecord) → BeginsWith records records
begins_self records = record {
  within = omega arith;
  same = ap (take (length records)) (sym (append-nil records)) ∙ take_at records [] (length records) refl;
}

-- with more after it, it begins the longer one
pub begins_before : (records more : List PlainRecord) → BeginsWith (records ++ more) records
begins_before records more = record { within = omega (arith, length-append records more); same = take_at records more (length records) refl }

-- what begins the beginning begins the whole
pub begins_both : (whole middle records : List PlainRecord) → BeginsWith whole middle → BeginsWith middle records → BeginsWith whole records
begins_both whole middle records h k = record {
  within = omega (arith, h.within, k.within);
  same = sym (take-take (length records) (length middle) whole k.within) ∙ ap (take (length records)) h.same ∙ k.same;
}

-- a history that begins with one record more begins with the records
pub begins_push : (entries records : List PlainRecord) (entry : PlainRecord) → BeginsWith entries (records ++ entry ∷ []) → BeginsWith entries records
begins_push entries records entry h = begins_both entries (records ++ entry ∷ []) records h (begins_before records (entry ∷ []))

-- what comes after the beginning
pub begins_more : (entries records : List PlainRecord) → BeginsWith entries records → (more : List PlainRecord) × (entries ≡ records ++ more)
begins_more entries records h =
    (drop (length records) entries, sym (take-append-drop (length records) entries) ∙ ap (λ l. l ++ drop (length records) entries) h.same)
