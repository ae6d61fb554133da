-- What a table of pages is as a map.
use Rattle.std.proofs.Common.{◌≡◌, ℕ, List, [], ◌++◌, length, sym, ap, ◌∙◌}
use Rattle.std.specs.Ordering.{nat_cmp}
use Rattle.std.specs.FinMap.{find, get, len, empty, from_sorted, entries-from_sorted, get-from_sorted, len-entries, empty_of_len}
use Rattle.page_map.specs.Pages.{IsParted, SharedPage, joined}
use Rattle.page_map.specs.Rising.{IsRising}
use Rattle.page_map.proofs.Rising.{rising_sorted, find_after, find_before}

module _ {V : Type 0} where
  pub len_of : (es : List (ℕ × V)) → IsRising es → len (from_sorted {R = nat_cmp} es) ≡ length es
  len_of es rises = len-entries (from_sorted es) ∙ ap length (entries-from_sorted nat_cmp es (rising_sorted es rises))

  pub empty_of : (es : List (ℕ × V)) → es ≡ [] → from_sorted {R = nat_cmp} es ≡ empty
  empty_of es none = ap (from_sorted {R = nat_cmp}) none ∙ empty_of_len (from_sorted []) (len_of [] tt)

  module _ (pages : List (SharedPage V)) (rises : IsRising (joined pages)) (tag : ℕ) (below : List (SharedPage V)) (here : List (ℕ × V)) (above : List (SharedPage V)) (parted : IsParted pages tag below here above) where
    pub found_in_page : find nat_cmp tag here ≡ find nat_cmp tag (joined pages)
    found_in_page = sym (
        ap (find nat_cmp tag) parted.whole
        ∙ find_after tag (joined below) (here ++ joined above) parted.below
        ∙ find_before tag here (joined above) parted.above
        )

    pub found_here : find nat_cmp tag here ≡ get (from_sorted {R = nat_cmp} (joined pages)) tag
    found_here = found_in_page ∙ sym (get-from_sorted nat_cmp (joined pages) tag (rising_sorted (joined pages) rises))
