-- One entry that is taken out: of a list, of its page, and of the list of pages.
use Rattle.std.proofs.Common.{◌≡◌, ◌≢◌, ℕ, zero, suc, ◌+◌, ◌<◌, ◌≤◌, ◌^◌, List, [], ◌∷◌, ◌++◌, length, get_or, take, drop, slice_set, Bool, true, false, cond, Result, Ok, Err, None, refl, sym, ap, subst, ◌∙◌, arith, append_assoc, length-append}
use Rattle.std.proofs.lemmas.Bool.Decides.{nat_tests}
use Rattle.std.specs.Prelude.{not}
use Rattle.std.specs.Ordering.{nat_cmp, eq_by_cmp}
use Rattle.std.specs.Cmp.{nat_cmp_total, eq_by_cmp_equiv}
use Rattle.std.specs.FinMap.{FinMap, find, get, from_sorted, remove, same_map, get-from_sorted, get-remove, nat_cmp-IsAntisymmetric}
use Rattle.std.specs.FinMap.Entries.{find-where_key}
use Rattle.page_map.specs.Entries.{IsCutFrom}
use Rattle.page_map.specs.Pages.{IsCut, IsPage, IsParted, IsTable, SharedPage, cut, joined}
use Rattle.page_map.specs.Rising.{AreAbove, AreBelow, AreFrom, Each, IsRising}
use Rattle.page_map.proofs.Put.{joined_set, kept, table_set, half}
use Rattle.page_map.proofs.Rising.{less, greater, equal, above_lower, rising_sorted}

turned : {A : Type 0} (b : Bool) (x y : A) → cond (not b) x y ≡ cond b y x
turned true x y = refl
turned false x y = refl

module _ {V : Type 0} where
  -- ---- of a list

  cut_first : (tag : ℕ) (e : ℕ × V) (es : List (ℕ × V)) (b : Bool) → eq_by_cmp nat_cmp tag e.0 ≡ b → cut tag (e ∷ es) ≡ cond (not b) (e ∷ cut tag es) (cut tag es)
  cut_first tag e es b is = ap (λ b. cond (not b) (e ∷ cut tag es) (cut tag es)) is

  pub cut-append : (tag : ℕ) (xs ys : List (ℕ × V)) → cut tag (xs ++ ys) ≡ cut tag xs ++ cut tag ys
  cut-append tag [] ys = refl
  cut-append tag (x ∷ xs) ys =
      elim (eq_by_cmp nat_cmp tag x.0) as (λ b. cond (not b) (x ∷ cut tag (xs ++ ys)) (cut tag (xs ++ ys)) ≡ cond (not b) (x ∷ cut tag xs) (cut tag xs) ++ cut tag ys) [
        | true ↦ cut-append tag xs ys
        | false ↦ ap (λ es. x ∷ es) (cut-append tag xs ys)
      ]

  pub cut_below : (tag : ℕ) (es : List (ℕ × V)) → AreBelow tag es → cut tag es ≡ es
  cut_below tag [] below = refl
  cut_below tag (e ∷ es) below = cut_first tag e es false (rw (greater tag e.0 below.0) refl) ∙ ap (λ es. e ∷ es) (cut_below tag es below.1)

  pub cut_above : (tag : ℕ) (es : List (ℕ × V)) → AreAbove tag es → cut tag es ≡ es
  cut_above tag [] above = refl
  cut_above tag (e ∷ es) above = cut_first tag e es false (rw (less tag e.0 above.0) refl) ∙ ap (λ es. e ∷ es) (cut_above tag es above.1)

  pub each-cut : (P : ℕ × V → Type 0) (tag : ℕ) (es : List (ℕ × V)) → Each P es → Each P (cut tag es)
  each-cut P tag [] all = tt
  each-cut P tag (e ∷ es) all =
      elim (eq_by_cmp nat_cmp tag e.0) as (λ b. Each P (cond (not b) (e ∷ cut tag es) (cut tag es))) [
        | true ↦ each-cut P tag es all.1
        | false ↦ (all.0, each-cut P tag es all.1)
      ]

  pub rising-cut : (tag : ℕ) (es : List (ℕ × V)) → IsRising es → IsRising (cut tag es)
  rising-cut tag [] rises = tt
  rising-cut tag (e ∷ es) rises =
      elim (eq_by_cmp nat_cmp tag e.0) as (λ b. IsRising (cond (not b) (e ∷ cut tag es) (cut tag es))) [
        | true ↦ rising-cut tag es rises.1
        | false ↦ (each-cut (λ other. e.0 < other.0) tag es rises.0, rising-cut tag es rises.1)
      ]

  -- the entry is at a place where all before it are below it
  pub cut_there : (tag : ℕ) (es : List (ℕ × V)) (at : ℕ) → IsRising es → AreBelow tag (take at es) → at < length es → ((entry : ℕ × V) → (get_or es at entry).0 ≡ tag) → take at es ++ drop (at + 1) es ≡ cut tag es
  cut_there tag [] at rises below lt there = absurd (omega arith)
  cut_there tag (e ∷ es) zero rises below lt there =
      let same : e.0 ≡ tag = there e in
      let above : AreAbove tag es = subst (λ n. AreAbove n es) same rises.0 in
      sym (cut_first tag e es true (subst (λ n. eq_by_cmp nat_cmp tag n ≡ true) (sym same) (rw (equal tag) refl)) ∙ cut_above tag es above)
  cut_there tag (e ∷ es) (suc at) rises below lt there =
      let later : suc (at + 1) ≡ suc at + 1 = omega arith in
      subst (λ n. e ∷ (take at es ++ drop n (e ∷ es)) ≡ cut tag (e ∷ es)) later
      (ap (λ es. e ∷ es) (cut_there tag es at rises.1 below.1 (omega arith) there) ∙ sym (cut_first tag e es false (rw (greater tag e.0 below.0) refl)))

  pub length_there : (es : List (ℕ × V)) (at : ℕ) → at < length es → length (take at es ++ drop (at + 1) es) + 1 ≡ length es
  length_there [] at lt = absurd (omega arith)
  length_there (e ∷ es) zero lt = omega arith
  length_there (e ∷ es) (suc at) lt =
      let later : suc (at + 1) ≡ suc at + 1 = omega arith in
      subst (λ n. suc (length (take at es ++ drop n (e ∷ es))) + 1 ≡ suc (length es)) later (let rest = length_there es at (omega arith) in omega (arith, rest))

  pub length_cut : (tag : ℕ) (es : List (ℕ × V)) → IsRising es → (length (cut tag es) ≤ length es) × (length es ≤ length (cut tag es) + 1)
  length_cut tag [] rises = (omega arith, omega arith)
  length_cut tag (e ∷ es) rises = by_case (length_cut tag es rises.1) (eq_by_cmp nat_cmp tag e.0) refl
    where
      tied : eq_by_cmp nat_cmp tag e.0 ≡ true → e.0 ≡ tag
      tied is = grind (arith, nat_tests, is)

      by_case : (length (cut tag es) ≤ length es) × (length es ≤ length (cut tag es) + 1) → (b : Bool) → eq_by_cmp nat_cmp tag e.0 ≡ b → (length (cut tag (e ∷ es)) ≤ length (e ∷ es)) × (length (e ∷ es) ≤ length (cut tag (e ∷ es)) + 1)
      by_case rest true is =
          let whole : cut tag (e ∷ es) ≡ es = cut_first tag e es true is ∙ cut_above tag es (subst (λ n. AreAbove n es) (tied is) rises.0) in
          (omega (arith, ap length whole), omega (arith, ap length whole))
      by_case rest false is =
          let whole : cut tag (e ∷ es) ≡ e ∷ cut tag es = cut_first tag e es false is in
          (omega (arith, ap length whole, rest.0), omega (arith, ap length whole, rest.1))

  -- ---- as a map

  pub from_sorted-cut : (tag : ℕ) (es : List (ℕ × V)) → IsRising es → from_sorted {R = nat_cmp} (cut tag es) ≡ remove (from_sorted es) tag
  from_sorted-cut tag es rises =
      same_map nat_cmp_total nat_cmp-IsAntisymmetric _ _ (λ q.
      get-from_sorted nat_cmp (cut tag es) q (rising_sorted _ (rising-cut tag es rises))
      ∙ find-where_key nat_cmp (λ other. not (eq_by_cmp nat_cmp tag other)) q (λ x tied. ap (λ other. not (eq_by_cmp nat_cmp tag other)) (sym (nat_cmp-IsAntisymmetric q x tied))) es
      ∙ turned (eq_by_cmp nat_cmp tag q) (find nat_cmp q es) None
      ∙ ap (λ b. cond b None (find nat_cmp q es)) ((eq_by_cmp_equiv nat_cmp_total).symm tag q)
      ∙ sym (get-remove nat_cmp_total (from_sorted es) tag q ∙ ap (cond (eq_by_cmp nat_cmp q tag) None) (get-from_sorted nat_cmp es q (rising_sorted es rises))))

  pub remove_absent : (map : FinMap {K = ℕ} nat_cmp V) (tag : ℕ) → get map tag ≡ None → map ≡ remove map tag
  remove_absent map tag none = same_map nat_cmp_total nat_cmp-IsAntisymmetric _ _ (λ q. sym (get-remove nat_cmp_total map tag q ∙ same q (eq_by_cmp nat_cmp q tag) refl))
    where
      tied : (q : ℕ) → eq_by_cmp nat_cmp q tag ≡ true → tag ≡ q
      tied q is = grind (arith, nat_tests, is)

      same : (q : ℕ) (b : Bool) → eq_by_cmp nat_cmp q tag ≡ b → cond b None (get map q) ≡ get map q
      same q true is = sym none ∙ ap (get map) (tied q is)
      same q false is = refl

  pub map_cut : {E : Type 0} (old new : List (ℕ × V)) (map : FinMap nat_cmp V) (tag : ℕ) → IsRising old → from_sorted old ≡ map → (result : Result Bool E) → IsCut old new tag result → IsCutFrom map (from_sorted new) tag result
  map_cut old new map tag rises view (Ok true) is = ap (from_sorted {R = nat_cmp}) is ∙ from_sorted-cut tag old rises ∙ ap (λ map. remove map tag) view
  map_cut old new map tag rises view (Ok false) is = ap (from_sorted {R = nat_cmp}) is ∙ view
  map_cut old new map tag rises view (Err e) is = ap (from_sorted {R = nat_cmp}) is ∙ view

  -- ---- of the list of pages

  module _ (pages : List (SharedPage V)) (count : ℕ) (table : IsTable pages count) (tag at : ℕ) (old new : SharedPage V) (lt : at < length pages) (parted : IsParted pages tag (take at pages) old.value (drop (at + 1) pages)) where
    cut_parted : cut tag (joined (take at pages) ++ (old.value ++ joined (drop (at + 1) pages))) ≡ joined (take at pages) ++ (cut tag old.value ++ joined (drop (at + 1) pages))
    cut_parted =
        cut-append tag (joined (take at pages)) (old.value ++ joined (drop (at + 1) pages))
        ∙ ap (λ es. es ++ cut tag (old.value ++ joined (drop (at + 1) pages))) (cut_below tag (joined (take at pages)) parted.below)
        ∙ ap (λ es. joined (take at pages) ++ es) (cut-append tag old.value (joined (drop (at + 1) pages)) ∙ ap (λ es. cut tag old.value ++ es) (cut_above tag (joined (drop (at + 1) pages)) parted.above))

    cut_all : new.value ≡ cut tag old.value → joined (slice_set pages at new) ≡ cut tag (joined pages)
    cut_all is =
        joined_set pages at new lt
        ∙ ap (λ es. joined (take at pages) ++ (es ++ joined (drop (at + 1) pages))) is
        ∙ sym (ap (cut tag) parted.whole ∙ cut_parted)

    pub cut_in_all : {E : Type 0} (result : Result Bool E) → IsCut old.value new.value tag result → IsCut (joined pages) (joined (slice_set pages at new)) tag result
    cut_in_all (Ok true) is = cut_all is
    cut_in_all (Ok false) is = kept pages count table tag at old new lt parted is
    cut_in_all (Err e) is = kept pages count table tag at old new lt parted is

    pub table_cut : {E : Type 0} (counted : ℕ) → IsPage new.value → (2 ≤ length pages → 32 ≤ length old.value → 32 ≤ length new.value) → counted + length old.value ≡ count + length new.value → (result : Result Bool E) → IsCut old.value new.value tag result → IsTable (slice_set pages at new) counted
    table_cut counted page enough is_count result is =
        table_set pages count table tag at old new lt parted counted page (λ two. enough two (half pages count table tag at old new lt parted two)) (rises result is) (in_range result is) is_count
      where
        rises : {E : Type 0} (result : Result Bool E) → IsCut old.value new.value tag result → IsRising (joined (slice_set pages at new))
        rises (Ok true) is = rw (cut_all is) (rising-cut tag (joined pages) table.rises)
        rises (Ok false) is = rw (kept pages count table tag at old new lt parted is) table.rises
        rises (Err e) is = rw (kept pages count table tag at old new lt parted is) table.rises

        in_range : {E : Type 0} (result : Result Bool E) → IsCut old.value new.value tag result → AreBelow (2 ^ 32) (joined (slice_set pages at new))
        in_range (Ok true) is = rw (cut_all is) (each-cut (λ e. e.0 < 2 ^ 32) tag (joined pages) table.in_range)
        in_range (Ok false) is = rw (kept pages count table tag at old new lt parted is) table.in_range
        in_range (Err e) is = rw (kept pages count table tag at old new lt parted is) table.in_range

    -- no page holds more than all
    pub part_le : length old.value ≤ count
    part_le = omega (arith, ap length parted.whole, length-append (joined (take at pages)) (old.value ++ joined (drop (at + 1) pages)), length-append old.value (joined (drop (at + 1) pages)), table.counted)

  -- ---- where all tags are at least that one

  pub cut_hit : (tag : ℕ) (es : List (ℕ × V)) (e : ℕ × V) (rest : List (ℕ × V)) → es ≡ e ∷ rest → e.0 ≡ tag → IsRising es → rest ≡ cut tag es
  cut_hit tag es e rest is same rises =
      let up : IsRising (e ∷ rest) = subst IsRising is rises in
      sym (ap (cut tag) is ∙ cut_first tag e rest true (subst (λ n. eq_by_cmp nat_cmp tag n ≡ true) (sym same) (rw (equal tag) refl)) ∙ cut_above tag rest (subst (λ n. AreAbove n rest) same up.0))

  pub cut_missed : (tag : ℕ) (es : List (ℕ × V)) (e : ℕ × V) (rest : List (ℕ × V)) → es ≡ e ∷ rest → e.0 ≢ tag → IsRising es → AreFrom tag es → es ≡ cut tag es
  cut_missed tag es e rest is other rises from =
      let up : IsRising (e ∷ rest) = subst IsRising is rises in
      let first : tag ≤ e.0 = (subst (AreFrom tag) is from).0 in
      let all : AreAbove tag (e ∷ rest) = (omega (arith, first, other), above_lower tag e.0 rest first up.0) in
      sym (cut_above tag es (subst (AreAbove tag) (sym is) all))

  pub cut_none : (tag : ℕ) (es : List (ℕ × V)) → length es ≡ 0 → es ≡ cut tag es
  cut_none tag [] none = refl
  cut_none tag (e ∷ es) none = absurd (omega arith)

  cut_from : (tag : ℕ) (es below from : List (ℕ × V)) → es ≡ below ++ from → AreBelow tag below → below ++ cut tag from ≡ cut tag es
  cut_from tag es below from is low = sym (ap (cut tag) is ∙ cut-append tag below from ∙ ap (λ es. es ++ cut tag from) (cut_below tag below low))

  pub copied_cut : (tag : ℕ) (old es below from rest : List (ℕ × V)) → es ≡ below ++ from → AreBelow tag below → rest ≡ cut tag from → (old ++ below) ++ rest ≡ old ++ cut tag es
  copied_cut tag old es below from rest is low left = ap (λ xs. (old ++ below) ++ xs) left ∙ append_assoc old below (cut tag from) ∙ ap (λ xs. old ++ xs) (cut_from tag es below from is low)

  pub page_cut : (tag : ℕ) (es : List (ℕ × V)) → IsPage es → 2 ≤ length es → IsPage (cut tag es)
  page_cut tag es page two = record {
    rises = rising-cut tag es page.rises;
    holds_one = omega (arith, two, (length_cut tag es page.rises).1);
    has_room = omega (arith, page.has_room, (length_cut tag es page.rises).0);
  }
