-- One entry that is set in place: in its page, and in the list of pages.
use Rattle.std.proofs.Common.{◌≡◌, ℕ, zero, suc, ◌+◌, ◌-◌, ◌<◌, ◌≤◌, ◌^◌, List, [], ◌∷◌, ◌++◌, length, get_or, take, drop, slice_set, Bool, cond, true, false, Result, Ok, Err, Option, Some, None, refl, sym, ap, subst, ◌∙◌, arith, inl, inr, append_assoc, length-append}
use Rattle.std.specs.declared.cmp.Ordering.TheVariants.{Equal}
use Rattle.std.specs.Ordering.{nat_cmp, eq_by_cmp}
use Rattle.std.specs.Cmp.{nat_cmp_total}
use Rattle.std.proofs.lemmas.Bool.Decides.{nat_tests}
use Rattle.std.specs.FinMap.{FinMap, find, from_sorted, put, get, same_map, get-insert, nat_cmp-IsAntisymmetric}
use Rattle.std.specs.FinMap as finite
use Rattle.std.specs.List.{insert}
use Rattle.std.specs.List.Sorted.{IsPartitionPoint}
use Rattle.std.proofs.lemmas.Bool.{cases_lt}
use Rattle.std.proofs.lemmas.List.{length-set, take_more}
use Rattle.page_map.specs.Entries.{IsPutIn}
use Rattle.page_map.specs.Pages.{ArePages, IsPage, IsParted, IsPut, IsTable, SharedPage, joined}
use Rattle.page_map.specs.Rising.{AreBelow, AreFrom, Each, IsRising}
use Rattle.page_map.proofs.Joined.{parted_first, parted_last, starts_by}
use Rattle.page_map.proofs.Rising.{less, greater, equal, length-put, rising-put, each-put, from_sorted-put, put_after, put_before}

module _ {X : Type 0} (P : X → Type 0) where
  pub each_set : (xs : List X) (i : ℕ) (y : X) → Each P xs → P y → Each P (slice_set xs i y)
  each_set [] i y all here = tt
  each_set (x ∷ xs) zero y all here = (here, all.1)
  each_set (x ∷ xs) (suc i) y all here = (all.0, each_set xs i y all.1 here)

module _ {V : Type 0} where
  -- ---- in a page

  pub put_there : (tag : ℕ) (v : V) (es : List (ℕ × V)) (at was : ℕ) → AreBelow tag (take at es) → at < length es → was ≡ tag → ((entry : ℕ × V) → (get_or es at entry).0 ≡ tag) → slice_set es at (was, v) ≡ put nat_cmp tag v es
  put_there tag v [] at was below lt is there = absurd (omega arith)
  put_there tag v (e ∷ es) zero was below lt is there =
      let same : e.0 ≡ tag = there e in
      let tied : nat_cmp tag e.0 ≡ Equal = subst (λ n. nat_cmp tag n ≡ Equal) (sym same) (equal tag) in
      rw tied (ap (λ n. (n, v) ∷ es) (is ∙ sym same))
  put_there tag v (e ∷ es) (suc at) was below lt is there =
      rw (greater tag e.0 below.0) (ap (λ es. e ∷ es) (put_there tag v es at was below.1 (omega arith) is there))

  pub put_new : (tag : ℕ) (v : V) (es : List (ℕ × V)) (at : ℕ) → AreBelow tag (take at es) → AreFrom tag (drop at es) → ((at < length es) × ((entry : ℕ × V) → (get_or es at entry).0 ≡ tag) → ⊥) → insert es at (tag, v) ≡ put nat_cmp tag v es
  put_new tag v [] zero below from other = refl
  put_new tag v [] (suc at) below from other = refl
  put_new tag v (e ∷ es) zero below from other =
      let lt : tag < e.0 = elim (cases_lt tag e.0) [ inl lt ↦ lt | inr le ↦ absurd (other (omega arith, λ entry. omega (arith, from.0))) ] in
      rw (less tag e.0 lt) refl
  put_new tag v (e ∷ es) (suc at) below from other =
      rw (greater tag e.0 below.0) (ap (λ es. e ∷ es) (put_new tag v es at below.1 from (λ there. other (omega (arith, there.0), there.1))))

  pub page_put : (tag : ℕ) (v : V) (es : List (ℕ × V)) → IsPage es → length (put nat_cmp tag v es) ≤ 64 → IsPage (put nat_cmp tag v es)
  page_put tag v es page room = record { rises = rising-put tag v es page.rises; holds_one = omega (arith, page.holds_one, (length-put tag v es).0); has_room = room }

  -- ---- the page that a tag belongs in

  pub page_parted : (tag : ℕ) (pages : List (SharedPage V)) (i r : ℕ) → ArePages pages → IsRising (joined pages) → IsPartitionPoint (λ page. starts_by tag page ≡ true) (λ page. starts_by tag page ≡ false) pages i → 1 ≤ length pages → r < length pages → r ≡ i - 1 → (page : SharedPage V) → IsParted pages tag (take r pages) (get_or pages r page).value (drop (r + 1) pages)
  page_parted tag pages i r are rises split some lt is page =
      elim (cases_lt i 1) [
        | inl none ↦ let at : i ≡ 0 = omega arith in let first : 0 ≡ r = omega (arith, is) in
            subst (λ r. IsParted pages tag (take r pages) (get_or pages r page).value (drop (r + 1) pages)) first (first_page pages are rises (subst (IsPartitionPoint (λ page. starts_by tag page ≡ true) (λ page. starts_by tag page ≡ false) pages) at split) some)
        | inr any ↦ let at : i ≡ r + 1 = omega (arith, is) in
            parted_last tag pages (r + 1) (take (r + 1) pages) (drop (r + 1) pages) are rises (subst (IsPartitionPoint (λ page. starts_by tag page ≡ true) (λ page. starts_by tag page ≡ false) pages) at split) refl refl (take r pages) (get_or pages r page) (take_more pages r page lt)
      ]
    where
      first_page : (pages : List (SharedPage V)) → ArePages pages → IsRising (joined pages) → IsPartitionPoint (λ page. starts_by tag page ≡ true) (λ page. starts_by tag page ≡ false) pages 0 → 1 ≤ length pages → IsParted pages tag (take 0 pages) (get_or pages 0 page).value (drop (0 + 1) pages)
      first_page [] are rises split some = absurd (omega arith)
      first_page (p ∷ rest) are rises split some = parted_first tag (p ∷ rest) 0 [] (p ∷ rest) are rises split refl refl p rest refl refl

  -- ---- in the list of pages

  pub joined_set : (pages : List (SharedPage V)) (at : ℕ) (new : SharedPage V) → at < length pages → joined (slice_set pages at new) ≡ joined (take at pages) ++ (new.value ++ joined (drop (at + 1) pages))
  joined_set [] at new lt = absurd (omega arith)
  joined_set (page ∷ pages) zero new lt = refl
  joined_set (page ∷ pages) (suc at) new lt =
      let later : suc (at + 1) ≡ suc at + 1 = omega arith in
      subst (λ n. page.value ++ joined (slice_set pages at new) ≡ (page.value ++ joined (take at pages)) ++ (new.value ++ joined (drop n (page ∷ pages)))) later (ap (λ es. page.value ++ es) (joined_set pages at new (omega arith)) ∙ sym (append_assoc page.value (joined (take at pages)) (new.value ++ joined (drop (at + 1) pages))))

  -- a page takes the place of the one that a tag belongs in
  module _ (pages : List (SharedPage V)) (count : ℕ) (table : IsTable pages count) (tag at : ℕ) (old new : SharedPage V) (lt : at < length pages) (parted : IsParted pages tag (take at pages) old.value (drop (at + 1) pages)) where
    pub kept : new.value ≡ old.value → joined (slice_set pages at new) ≡ joined pages
    kept same = joined_set pages at new lt ∙ ap (λ es. joined (take at pages) ++ (es ++ joined (drop (at + 1) pages))) same ∙ sym parted.whole

    pub put_all : (v : V) → new.value ≡ put nat_cmp tag v old.value → joined (slice_set pages at new) ≡ put nat_cmp tag v (joined pages)
    put_all v is =
        joined_set pages at new lt
        ∙ ap (λ es. joined (take at pages) ++ (es ++ joined (drop (at + 1) pages))) is
        ∙ sym (
        ap (put nat_cmp tag v) parted.whole
        ∙ put_after tag v (joined (take at pages)) (old.value ++ joined (drop (at + 1) pages)) parted.below
        ∙ ap (λ es. joined (take at pages) ++ es) (put_before tag v old.value (joined (drop (at + 1) pages)) parted.above)
        )

    sizes : length (joined (slice_set pages at new)) + length old.value ≡ length (joined pages) + length new.value
    sizes =
        omega (
          arith,
          ap length (joined_set pages at new lt),
          length-append (joined (take at pages)) (new.value ++ joined (drop (at + 1) pages)),
          length-append new.value (joined (drop (at + 1) pages)),
          ap length parted.whole,
          length-append (joined (take at pages)) (old.value ++ joined (drop (at + 1) pages)),
          length-append old.value (joined (drop (at + 1) pages)),
        )

    pub table_set : (counted : ℕ) → IsPage new.value → (2 ≤ length pages → 32 ≤ length new.value) → IsRising (joined (slice_set pages at new)) → AreBelow (2 ^ 32) (joined (slice_set pages at new)) → counted + length old.value ≡ count + length new.value → IsTable (slice_set pages at new) counted
    table_set counted page wide rises in_range is = record {
      are_pages = each_set (λ page. IsPage page.value) pages at new table.are_pages page;
      few = λ many. let two : 2 ≤ length pages = omega (arith, many, length-set pages at new) in each_set (λ page. 32 ≤ length page.value) pages at new (table.few two) (wide two);
      rises = rises;
      in_range = in_range;
      counted = omega (arith, is, sizes, table.counted);
    }

    pub half : 2 ≤ length pages → 32 ≤ length old.value
    half two = parted.half_full (table.few two) (omega arith)

    module _ (v : V) (small : tag < 2 ^ 32) (counted : ℕ) (page : IsPage new.value) (is_count : counted + length old.value ≡ count + length new.value) where
      same_table : new.value ≡ old.value → IsTable (slice_set pages at new) counted
      same_table same = table_set counted page (λ two. omega (arith, half two, ap length same)) (rw (kept same) table.rises) (rw (kept same) table.in_range) is_count

      pub table_put : {E : Type 0} (result : Result (Option V) E) → IsPut old.value new.value tag v result → IsTable (slice_set pages at new) counted
      table_put (Ok None) is =
          table_set counted page (λ two. omega (arith, half two, ap length is, (length-put tag v old.value).0)) (rw (put_all v is) (rising-put tag v (joined pages) table.rises)) (rw (put_all v is) (each-put (λ tag. tag < 2 ^ 32) tag v (joined pages) small table.in_range)) is_count
      table_put (Ok (Some back)) is = same_table is.0
      table_put (Err e) is = same_table is

      pub put_in_all : {E : Type 0} (result : Result (Option V) E) → IsPut old.value new.value tag v result → IsPut (joined pages) (joined (slice_set pages at new)) tag v result
      put_in_all (Ok None) is = put_all v is
      put_in_all (Ok (Some back)) is = (kept is.0, is.1)
      put_in_all (Err e) is = kept is

  -- as a map
  pub map_put : {E : Type 0} (old new : List (ℕ × V)) (map : FinMap nat_cmp V) (tag : ℕ) (v : V) → IsRising old → from_sorted old ≡ map → (result : Result (Option V) E) → IsPut old new tag v result → IsPutIn map (from_sorted new) tag v result
  map_put old new map tag v rises view (Ok None) is = ap (from_sorted {R = nat_cmp}) is ∙ from_sorted-put tag v old rises ∙ ap (λ map. finite.insert map tag v) view
  map_put old new map tag v rises view (Ok (Some back)) is = (ap (from_sorted {R = nat_cmp}) is.0 ∙ view, is.1)
  map_put old new map tag v rises view (Err e) is = ap (from_sorted {R = nat_cmp}) is ∙ view

  -- the value at that place is that of the tag
  found_first : (tag : ℕ) (es : List (ℕ × V)) (at : ℕ) (entry : ℕ × V) → AreBelow tag (take at es) → at < length es → ((entry : ℕ × V) → (get_or es at entry).0 ≡ tag) → find nat_cmp tag es ≡ Some (get_or es at entry).1
  found_first tag [] at entry below lt there = absurd (omega arith)
  found_first tag (e ∷ es) zero entry below lt there =
      subst (λ n. find nat_cmp n (e ∷ es) ≡ Some e.1) (there e) (rw (equal e.0) refl)
  found_first tag (e ∷ es) (suc at) entry below lt there = rw (greater tag e.0 below.0) (found_first tag es at entry below.1 (omega arith) there)

  pub found_there : (tag : ℕ) (es : List (ℕ × V)) (at : ℕ) (read : ℕ × V) → AreBelow tag (take at es) → at < length es → ((entry : ℕ × V) → (get_or es at entry).0 ≡ tag) → read ≡ get_or es at read → Some read.1 ≡ find nat_cmp tag es
  found_there tag es at read below lt there is = ap (λ e. Some e.1) is ∙ sym (found_first tag es at read below lt there)

  -- ---- a value that is written in its place

  same_length : (tag : ℕ) (w : V) (es : List (ℕ × V)) (at : ℕ) → AreBelow tag (take at es) → at < length es → ((entry : ℕ × V) → (get_or es at entry).0 ≡ tag) → length (put nat_cmp tag w es) ≡ length es
  same_length tag w es at below lt there = sym (ap length (put_there tag w es at tag below lt refl there)) ∙ length-set es at (tag, w)

  pub table_lent : (pages : List (SharedPage V)) (count : ℕ) → IsTable pages count → (tag at : ℕ) (old new : SharedPage V) → at < length pages → IsParted pages tag (take at pages) old.value (drop (at + 1) pages) → tag < 2 ^ 32 → (es : List (ℕ × V)) (place : ℕ) → es ≡ old.value → IsPage es → AreBelow tag (take place es) → place < length es → ((entry : ℕ × V) → (get_or es place entry).0 ≡ tag) → (w : V) → new.value ≡ put nat_cmp tag w es → IsTable (slice_set pages at new) count
  table_lent pages count table tag at old new lt parted small es place same page below inside there w is =
      let size = same_length tag w es place below inside there in
      table_put pages count table tag at old new lt parted w small count (rw is (page_put tag w es page (omega (arith, size, page.has_room)))) (omega (arith, ap length is, size, ap length same)) {E = Unit {0}} (Ok None) (is ∙ ap (put nat_cmp tag w) same)

  pub map_lent : (pages : List (SharedPage V)) (count : ℕ) (map : FinMap nat_cmp V) → IsTable pages count → from_sorted (joined pages) ≡ map → (tag at : ℕ) (old new : SharedPage V) → at < length pages → IsParted pages tag (take at pages) old.value (drop (at + 1) pages) → (es : List (ℕ × V)) → es ≡ old.value → (w : V) → new.value ≡ put nat_cmp tag w es → from_sorted (joined (slice_set pages at new)) ≡ finite.insert map tag w
  map_lent pages count map table view tag at old new lt parted es same w is =
      ap (from_sorted {R = nat_cmp}) (put_all pages count table tag at old new lt parted w (is ∙ ap (put nat_cmp tag w) same)) ∙ from_sorted-put tag w (joined pages) table.rises ∙ ap (λ map. finite.insert map tag w) view

  module _ (pages : List (SharedPage V)) (count : ℕ) (table : IsTable pages count) (tag at : ℕ) (old new : SharedPage V) (lt : at < length pages) (parted : IsParted pages tag (take at pages) old.value (drop (at + 1) pages)) (same : new.value ≡ old.value) where
    pub table_same : IsPage new.value → IsTable (slice_set pages at new) count
    table_same page =
        table_set pages count table tag at old new lt parted count page (λ two. omega (arith, half pages count table tag at old new lt parted two, ap length same)) (rw (kept pages count table tag at old new lt parted same) table.rises) (rw (kept pages count table tag at old new lt parted same) table.in_range) (omega (arith, ap length same))

    pub map_same : (map : FinMap nat_cmp V) → from_sorted (joined pages) ≡ map → from_sorted (joined (slice_set pages at new)) ≡ map
    map_same map view = ap (from_sorted {R = nat_cmp}) (kept pages count table tag at old new lt parted same) ∙ view

  -- an entry that is set to what it is
  pub insert_same : (map : FinMap nat_cmp V) (tag : ℕ) (v : V) → get map tag ≡ Some v → finite.insert map tag v ≡ map
  insert_same map tag v is = same_map nat_cmp_total nat_cmp-IsAntisymmetric _ _ (λ q. get-insert nat_cmp_total map tag v q ∙ same q (eq_by_cmp nat_cmp q tag) refl)
    where
      tied : (q : ℕ) → eq_by_cmp nat_cmp q tag ≡ true → tag ≡ q
      tied q is = grind (arith, nat_tests, is)

      same : (q : ℕ) (b : Bool) → eq_by_cmp nat_cmp q tag ≡ b → cond b (Some v) (get map q) ≡ get map q
      same q true tie = sym is ∙ ap (get map) (tied q tie)
      same q false tie = refl
