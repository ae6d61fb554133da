-- Pages joined end to end, and parted at a tag.
use Rattle.std.proofs.Common.{◌≡◌, ℕ, zero, suc, ◌+◌, ◌*◌, ◌<◌, ◌≤◌, List, [], ◌∷◌, ◌++◌, length, get_or, take, drop, Bool, true, false, leb, refl, sym, ap, subst, ◌∙◌, arith, append_assoc, append-nil, take-append-drop, length-append}
use Rattle.std.proofs.lemmas.List.{take_more, length-take-le}
use Rattle.std.specs.List.{AllWithin}
use Rattle.std.specs.List.Sorted.{IsNonDecreasingBy, IsPartitionPoint}
use Rattle.std.proofs.lemmas.Bool.Decides.{nat_tests}
use Rattle.page_map.specs.Pages.{AreFew, AreHalfFull, ArePages, IsPage, IsParted, Reaches, SharedPage, first_tag, joined}
use Rattle.page_map.specs.Rising.{Each, AreAbove, AreBelow, AreFrom, IsRising}
use Rattle.page_map.proofs.Each.{each_at, each_left, each_right, each_with, each-append, each_taken, each_dropped}
use Rattle.page_map.proofs.Rising.{above_lower, rising_left, rising_right}

module _ {V : Type 0} where
  pub joined-append : (xs ys : List (SharedPage V)) → joined (xs ++ ys) ≡ joined xs ++ joined ys
  joined-append [] ys = refl
  joined-append (x ∷ xs) ys = ap (λ es. x.value ++ es) (joined-append xs ys) ∙ sym (append_assoc x.value (joined xs) (joined ys))

  pub joined-push : (pages : List (SharedPage V)) (page : SharedPage V) → joined (pages ++ page ∷ []) ≡ joined pages ++ page.value
  joined-push pages page = joined-append pages (page ∷ []) ∙ ap (λ es. joined pages ++ es) (append-nil page.value)

  -- one more page is shared
  pub joined_more : (old all pages : List (SharedPage V)) (i : ℕ) (page shared : SharedPage V) → i < length pages → page ≡ get_or pages i page → shared.value ≡ page.value → joined all ≡ joined old ++ joined (take i pages) → joined (all ++ shared ∷ []) ≡ joined old ++ joined (take (i + 1) pages)
  joined_more old all pages i page shared lt is same e =
      joined-push all shared
      ∙ ap (λ es. es ++ shared.value) e
      ∙ ap (λ es. (joined old ++ joined (take i pages)) ++ es) same
      ∙ append_assoc (joined old) (joined (take i pages)) page.value
      ∙ ap (λ es. joined old ++ es) (sym (joined-push (take i pages) page))
      ∙ ap (λ page. joined old ++ joined (take i pages ++ page ∷ [])) is
      ∙ ap (λ xs. joined old ++ joined xs) (sym (take_more pages i page lt))

  pub are_pages_more : (all pages : List (SharedPage V)) (i : ℕ) (page shared : SharedPage V) → i < length pages → page ≡ get_or pages i page → shared.value ≡ page.value → ArePages pages → ArePages all → ArePages (all ++ shared ∷ [])
  are_pages_more all pages i page shared lt is same are were =
      let here : IsPage (get_or pages i page).value = each_at (λ page. IsPage page.value) pages i page are lt in
      each-append (λ page. IsPage page.value) all (shared ∷ []) were (subst IsPage (ap (λ page. page.value) (sym is) ∙ sym same) here, tt)

  first_above : (n : ℕ) (es rest : List (ℕ × V)) → IsPage es → AreAbove n (es ++ rest) → n < first_tag es
  first_above n [] rest page h = absurd (omega (arith, page.holds_one))
  first_above n (e ∷ es) rest page h = h.0

  firsts_above : (n : ℕ) (pages : List (SharedPage V)) → ArePages pages → AreAbove n (joined pages) → Each (λ page. n < first_tag page.value) pages
  firsts_above n [] are h = tt
  firsts_above n (page ∷ pages) are h = (first_above n page.value (joined pages) are.0 h, firsts_above n pages are.1 (each_right _ page.value (joined pages) h))

  all_from_first : (n : ℕ) (es rest : List (ℕ × V)) → IsPage es → IsRising (es ++ rest) → n < first_tag es → AreAbove n (es ++ rest)
  all_from_first n [] rest page h lt = absurd (omega (arith, page.holds_one))
  all_from_first n (e ∷ es) rest page h lt = (lt, above_lower n e.0 (es ++ rest) (omega arith) h.0)

  -- what is below the first tag of the first page is below all pages
  pub low_of_first : (pages : List (SharedPage V)) (page : SharedPage V) (others : List (SharedPage V)) (es : List (ℕ × V)) → pages ≡ page ∷ others → ArePages pages → IsRising (joined pages) → AreBelow (first_tag page.value) es → Each (λ e. AreAbove e.0 (joined pages)) es
  low_of_first pages page others es is are rises =
      let all = subst ArePages is are in
      let up = subst (λ pages. IsRising (joined pages)) is rises in
      each_with (λ e. e.0 < first_tag page.value) (λ e. AreAbove e.0 (joined pages)) (λ e lt. subst (λ pages. AreAbove e.0 (joined pages)) (sym is) (all_from_first e.0 page.value (joined others) all.0 up lt)) es

  pub reach_of_first : (pages : List (SharedPage V)) (page : SharedPage V) (others : List (SharedPage V)) (es : List (ℕ × V)) → pages ≡ page ∷ others → ArePages pages → AreFrom (first_tag page.value) es → Each (λ e. Reaches pages e.0) es
  reach_of_first pages page others es is are =
      let all = subst ArePages is are in
      each_with (λ e. first_tag page.value ≤ e.0) (λ e. Reaches pages e.0) (λ e le low above. let lt = first_above low page.value (joined others) all.0 (subst (λ pages. AreAbove low (joined pages)) is above) in omega arith) es

  pub low_of_none : (pages : List (SharedPage V)) (es : List (ℕ × V)) → length pages ≡ 0 → Each (λ e. AreAbove e.0 (joined pages)) es
  low_of_none [] [] none = tt
  low_of_none [] (e ∷ es) none = (tt, low_of_none [] es refl)
  low_of_none (page ∷ pages) es none = absurd (omega arith)

  pub counted_more : (pages : List (SharedPage V)) (i : ℕ) (page : SharedPage V) → i < length pages → page ≡ get_or pages i page → length (joined (take (i + 1) pages)) ≡ length (joined (take i pages)) + length page.value
  counted_more pages i page lt is =
      ap (λ xs. length (joined xs)) (take_more pages i page lt) ∙ ap (λ page. length (joined (take i pages ++ page ∷ []))) (sym is) ∙ ap length (joined-push (take i pages) page) ∙ length-append (joined (take i pages)) page.value

  pub counted_le : (pages : List (SharedPage V)) (i : ℕ) → length (joined (take i pages)) ≤ length (joined pages)
  counted_le pages i =
      omega (arith, ap (λ xs. length (joined xs)) (take-append-drop i pages), ap length (joined-append (take i pages) (drop i pages)), length-append (joined (take i pages)) (joined (drop i pages)))

  rest_above_first : (es rest : List (ℕ × V)) → IsPage es → IsRising (es ++ rest) → AreAbove (first_tag es) rest
  rest_above_first [] rest page h = absurd (omega (arith, page.holds_one))
  rest_above_first (e ∷ es) rest page h = each_right _ es rest h.0

  pub pages_in_order : (pages : List (SharedPage V)) → ArePages pages → IsRising (joined pages) → IsNonDecreasingBy (λ page. first_tag page.value) pages
  pages_in_order [] are h i j d le lt = absurd (omega arith)
  pages_in_order (page ∷ pages) are h zero zero d le lt = omega arith
  pages_in_order (page ∷ pages) are h zero (suc j) d le lt =
      let firsts = firsts_above (first_tag page.value) pages are.1 (rest_above_first page.value (joined pages) are.0 h) in
      let above = each_at (λ o. first_tag page.value < first_tag o.value) pages j d firsts (omega arith) in
      omega arith
  pages_in_order (page ∷ pages) are h (suc i) zero d le lt = absurd (omega arith)
  pages_in_order (page ∷ pages) are h (suc i) (suc j) d le lt = pages_in_order pages are.1 (rising_right page.value (joined pages) h) i j d (omega arith) (omega arith)

  page_above : (n : ℕ) (es : List (ℕ × V)) → IsRising es → n < first_tag es → AreAbove n es
  page_above n [] h lt = tt
  page_above n (e ∷ es) h lt = (lt, above_lower n e.0 es (omega arith) h.0)

  -- where the lowest tag of each page is above a number, so are all
  pub all_above : (n : ℕ) (pages : List (SharedPage V)) → ArePages pages → Each (λ page. n < first_tag page.value) pages → AreAbove n (joined pages)
  all_above n [] are h = tt
  all_above n (page ∷ pages) are h = each-append _ page.value (joined pages) (page_above n page.value are.0.rises h.0) (all_above n pages are.1 h.1)

  first_of_all : (n : ℕ) (es rest : List (ℕ × V)) → 1 ≤ length es → AreAbove n (es ++ rest) → n < first_tag es
  first_of_all n [] rest some h = absurd (omega arith)
  first_of_all n (e ∷ es) rest some h = h.0

  -- what comes before a list that begins at most at a tag is below that tag
  pub all_below : (tag : ℕ) (xs es rest : List (ℕ × V)) → IsRising (xs ++ (es ++ rest)) → 1 ≤ length es → first_tag es ≤ tag → AreBelow tag xs
  all_below tag [] es rest h some le = tt
  all_below tag (x ∷ xs) es rest h some le =
      let lt = first_of_all x.0 es rest some (each_right _ xs (es ++ rest) h.0) in
      (omega arith, all_below tag xs es rest h.1 some le)

  -- ---- a part at a tag

  no_length : (xs : List (SharedPage V)) → length xs ≡ 0 → xs ≡ []
  no_length [] none = refl
  no_length (x ∷ xs) none = absurd (omega arith)

  abbrev pub starts_by : ℕ → SharedPage V → Bool
  starts_by tag page = leb (first_tag page.value) tag

  pub reaching_firsts : (tag : ℕ) (pages : List (SharedPage V)) (i : ℕ) → AllWithin (λ page. starts_by tag page ≡ true) pages 0 i → Each (λ page. first_tag page.value ≤ tag) (take i pages)
  reaching_firsts tag pages i all = each_with (λ page. starts_by tag page ≡ true) (λ page. first_tag page.value ≤ tag) (λ page is. grind (arith, nat_tests)) (take i pages) (each_taken (λ page. starts_by tag page ≡ true) pages i all)

  pub above_firsts : (tag : ℕ) (pages : List (SharedPage V)) (i : ℕ) → AllWithin (λ page. starts_by tag page ≡ false) pages i (length pages) → Each (λ page. tag < first_tag page.value) (drop i pages)
  above_firsts tag pages i all = each_with (λ page. starts_by tag page ≡ false) (λ page. tag < first_tag page.value) (λ page is. grind (arith, nat_tests)) (drop i pages) (each_dropped (λ page. starts_by tag page ≡ false) pages i all)

  -- where the pages are cut behind the last one that reaches the tag
  module _ (tag : ℕ) (pages : List (SharedPage V)) (i : ℕ) (front back : List (SharedPage V)) (are : ArePages pages) (rises : IsRising (joined pages)) (split : IsPartitionPoint (λ page. starts_by tag page ≡ true) (λ page. starts_by tag page ≡ false) pages i) (is_front : front ≡ take i pages) (is_back : back ≡ drop i pages) where
    cut : pages ≡ front ++ back
    cut = rw (is_front, is_back) (sym (take-append-drop i pages))

    above : Each (λ page. tag < first_tag page.value) back
    above = rw is_back (above_firsts tag pages i split.1)

    -- the tag belongs in that page
    pub parted_last : (below : List (SharedPage V)) (page : SharedPage V) → front ≡ below ++ page ∷ [] → IsParted pages tag below page.value back
    parted_last below page last =
        let is : pages ≡ below ++ page ∷ back = cut ∙ ap (λ xs. xs ++ back) last ∙ append_assoc below (page ∷ []) back in
        let reach : Each (λ page. first_tag page.value ≤ tag) (below ++ page ∷ []) = rw (sym last, is_front) (reaching_firsts tag pages i split.0) in
        let all = subst ArePages is are in
        let here = each_right (λ page. IsPage page.value) below (page ∷ back) all in
        let whole : joined pages ≡ joined below ++ (page.value ++ joined back) = ap joined is ∙ joined-append below (page ∷ back) in
        record {
          whole = whole;
          below = all_below tag (joined below) page.value (joined back) (subst IsRising whole rises) here.0.holds_one (each_right (λ page. first_tag page.value ≤ tag) below (page ∷ []) reach).0;
          above = all_above tag back here.1 above;
          before_pages = each_left (λ page. IsPage page.value) below (page ∷ back) all;
          after_pages = here.1;
          has_room = here.0.has_room;
          others = omega (arith, ap length is, length-append below (page ∷ back));
          before_half_full = λ half. each_left (λ page. 32 ≤ length page.value) below (page ∷ back) (subst AreHalfFull is half);
          after_half_full = λ half. (each_right (λ page. 32 ≤ length page.value) below (page ∷ back) (subst AreHalfFull is half)).1;
          half_full = λ half _. (each_right (λ page. 32 ≤ length page.value) below (page ∷ back) (subst AreHalfFull is half)).0;
        }

    -- where no page reaches the tag, it belongs in the first
    pub parted_first : (page : SharedPage V) (rest : List (SharedPage V)) → length front ≡ 0 → back ≡ page ∷ rest → IsParted pages tag [] page.value rest
    parted_first page rest none first =
        let is : pages ≡ page ∷ rest = cut ∙ ap (λ xs. xs ++ back) (no_length front none) ∙ first in
        let all = subst ArePages is are in
        record {
          whole = ap joined is;
          below = tt;
          above = all_above tag rest all.1 (subst (Each (λ page. tag < first_tag page.value)) first above).1;
          before_pages = tt;
          after_pages = all.1;
          has_room = all.0.has_room;
          others = omega (arith, ap length is);
          before_half_full = λ _. tt;
          after_half_full = λ half. (subst AreHalfFull is half).1;
          half_full = λ half _. (subst AreHalfFull is half).0;
        }

    -- where there is no page, no part has one
    pub parted_none : length front ≡ 0 → length back ≡ 0 → IsParted pages tag [] [] []
    parted_none none also =
        let is : pages ≡ [] = cut ∙ ap (λ xs. xs ++ back) (no_length front none) ∙ no_length back also in
        record {
          whole = ap joined is;
          below = tt;
          above = tt;
          before_pages = tt;
          after_pages = tt;
          has_room = omega arith;
          others = omega (arith, ap length is);
          before_half_full = λ _. tt;
          after_half_full = λ _. tt;
          half_full = λ _ some. absurd (omega (arith, ap length is));
        }

  -- ---- pages that are half full

  -- one more page is shared
  pub half_full_more : (all pages : List (SharedPage V)) (i : ℕ) (page shared : SharedPage V) → i < length pages → page ≡ get_or pages i page → shared.value ≡ page.value
      → AreHalfFull pages → AreHalfFull all → AreHalfFull (all ++ shared ∷ [])
  half_full_more all pages i page shared lt is same half were =
      let here : 32 ≤ length (get_or pages i page).value = each_at (λ page. 32 ≤ length page.value) pages i page half lt in
      each-append (λ page. 32 ≤ length page.value) all (shared ∷ []) were (omega (arith, here, ap (λ page. length page.value) is, ap length same), tt)

  -- no page at all
  pub half_full_none : (pages : List (SharedPage V)) → length pages ≡ 0 → AreHalfFull pages
  half_full_none [] none = tt
  half_full_none (page ∷ pages) none = absurd (omega arith)

  -- what lies behind some tag of a list is reached by some page
  pub some_reaches : (pages : List (SharedPage V)) (es : List (ℕ × V)) → Each (λ e. Reaches pages e.0) es → 1 ≤ length es → 1 ≤ length pages
  some_reaches pages [] reach some = absurd (omega arith)
  some_reaches [] (e ∷ es) reach some = absurd (let lt : e.0 < e.0 = reach.0 e.0 tt in omega arith)
  some_reaches (page ∷ pages) (e ∷ es) reach some = omega arith

  holds_half : (pages : List (SharedPage V)) → AreHalfFull pages → 32 * length pages ≤ length (joined pages)
  holds_half [] half = omega arith
  holds_half (page ∷ pages) half = omega (arith, half.0, holds_half pages half.1, length-append page.value (joined pages))

  -- few pages hold many entries
  pub few_hold : (pages : List (SharedPage V)) → ArePages pages → AreFew pages → 32 * length pages ≤ length (joined pages) + 31
  few_hold [] are few = omega arith
  few_hold (page ∷ []) are few = omega (arith, are.0.holds_one, length-append page.value [])
  few_hold (page ∷ other ∷ pages) are few = omega (arith, holds_half (page ∷ other ∷ pages) (few (omega arith)))

  -- ---- the parts

  pub here_rises : (pages : List (SharedPage V)) (tag : ℕ) (below : List (SharedPage V)) (here : List (ℕ × V)) (above : List (SharedPage V)) → IsParted pages tag below here above → IsRising (joined pages) → IsRising here
  here_rises pages tag below here above parted rises = rising_left here (joined above) (rising_right (joined below) (here ++ joined above) (subst IsRising parted.whole rises))

  pub above_rises : (pages : List (SharedPage V)) (tag : ℕ) (below : List (SharedPage V)) (here : List (ℕ × V)) (above : List (SharedPage V)) → IsParted pages tag below here above → IsRising (joined pages) → IsRising (joined above)
  above_rises pages tag below here above parted rises = rising_right here (joined above) (rising_right (joined below) (here ++ joined above) (subst IsRising parted.whole rises))

  -- ---- the first 32 of many

  pub part_is_page : (es copies : List (ℕ × V)) → copies ≡ take 32 es → IsRising es → 64 < length es → IsPage copies
  part_is_page es copies is rises many =
      let size : length copies ≡ 32 = ap length is ∙ length-take-le 32 es (omega arith) in
      record {
        rises = rw is (rising_left (take 32 es) (drop 32 es) (rw take-append-drop rises));
        holds_one = omega (arith, size);
        has_room = omega (arith, size);
      }

  pub part_and_rest : (es copies rest : List (ℕ × V)) → copies ≡ take 32 es → rest ≡ drop 32 es → 64 < length es → (length copies ≡ 32) × (length copies + length rest ≡ length es)
  part_and_rest es copies rest is others many =
      (ap length is ∙ length-take-le 32 es (omega arith), omega (arith, ap length is, ap length others, length-append (take 32 es) (drop 32 es), ap length (take-append-drop 32 es)))
