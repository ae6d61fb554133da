-- What a page and a map end as, where a `&mut` to a value is returned.
use Rattle.std.specs.Prelude.{ℕ, List, Option}
use Rattle.std.specs.Borrow.{Lends, LendsIf, Fml, RattleType, MutBor}
use Rattle.std.specs.FinMap.{FinMap, insert, put}
use Rattle.std.specs.Ordering.{nat_cmp}
use Rattle.page_map.specs.contracts.page.Page as page
use Rattle.page_map.specs.contracts.map.PageMap as page_map

module _ (T : RattleType) where
  -- once the borrow r ends, the entry of that tag in the page has the last value written through r
  abbrev pub lends_value : MutBor (List (ℕ × T.Denot)) → ℕ → MutBor T.Denot → Fml
  lends_value p tag r = Lends (page.the_row T) T p r (λ w. put nat_cmp tag w p.now)

  -- once the borrow r ends, the map has the last value written through r at that tag; with no r it is unchanged
  abbrev pub lends_get : MutBor (FinMap nat_cmp T.Denot) → ℕ → Option (MutBor T.Denot) → Fml
  lends_get m tag r = LendsIf (page_map.the_row T) T m r (λ w. insert m.now tag w) m.now
