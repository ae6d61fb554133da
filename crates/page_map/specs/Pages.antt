-- Pages: how a finite map from tag to value is kept.
use Rattle.std.specs.Prelude.{Bool, true, false, not, ◌≡◌, ℕ, ◌+◌, ◌-◌, ◌<◌, ◌≤◌, ◌^◌, List, [], ◌∷◌, ◌++◌, length, Option, None, Some, Result, Ok, Err}
use Rattle.std.specs.FinMap.{FinMap, from_sorted, put}
use Rattle.std.specs.FinMap.Entries.{where_key}
use Rattle.std.specs.Ordering.{nat_cmp, eq_by_cmp}
use Rattle.std.specs.declared.sync.Arc.{Arc}
use Rattle.std.specs.declared.vec.Vec.{Vec}
use Rattle.std.specs.declared.alloc.Global.{Global}
use Rattle.page_map.specs.Rising.{Each, AreAbove, AreBelow, IsRising}

-- what stands whatever the answer: the count never falls, and rises by at most that much
pub record RisesWithin (before after most : ℕ) : Type 0 where
  pub never_falls : before ≤ after
  pub at_most : after ≤ before + most

-- the list with each entry of another put in its place, in their order
abbrev pub all_put : {V : Type 0} → List (ℕ × V) → List (ℕ × V) → List (ℕ × V)
all_put entries [] = entries
all_put entries (entry ∷ new) = all_put (put nat_cmp entry.0 entry.1 entries) new

-- 1 to 64 entries in the order of their tags
pub record IsPage {V : Type 0} (entries : List (ℕ × V)) : Type 0 where
  pub rises : IsRising entries
  pub holds_one : 1 ≤ length entries
  pub has_room : length entries ≤ 64

-- a shared page
abbrev pub SharedPage : Type 0 → Type 0
SharedPage V = Arc (List (ℕ × V)) Global

-- each is a page
abbrev pub ArePages : {V : Type 0} → List (SharedPage V) → Type 0
ArePages = Each (λ page. IsPage page.value)

-- each page holds 32 entries or more
abbrev pub AreHalfFull : {V : Type 0} → List (SharedPage V) → Type 0
AreHalfFull = Each (λ page. 32 ≤ length page.value)

-- pages are few for what they hold: where there are two or more, each is half full
abbrev pub AreFew : {V : Type 0} → List (SharedPage V) → Type 0
AreFew pages = 2 ≤ length pages → AreHalfFull pages

-- the entries of all pages, in their order
abbrev pub joined : {V : Type 0} → List (SharedPage V) → List (ℕ × V)
joined [] = []
joined (page ∷ pages) = page.value ++ joined pages

-- the lowest tag of a page
abbrev pub first_tag : {V : Type 0} → List (ℕ × V) → ℕ
first_tag [] = 0
first_tag (entry ∷ entries) = entry.0

-- the pages of a list that may be left out
abbrev pub listed : {V : Type 0} → Option (Arc (Vec (SharedPage V) Global) Global) → List (SharedPage V)
listed None = []
listed (Some pages) = pages.value.items

-- a table's pages, all tags of one below those of the next, and how many entries they hold
pub record IsTable {V : Type 0} (pages : List (SharedPage V)) (count : ℕ) : Type 0 where
  pub are_pages : ArePages pages
  pub few : AreFew pages
  pub rises : IsRising (joined pages)
  pub in_range : AreBelow (2 ^ 32) (joined pages)
  pub counted : count ≡ length (joined pages)

-- the pages of a map
pub record IsTableOf {V : Type 0} (map : FinMap nat_cmp V) (pages : List (SharedPage V)) : Type 0 where
  pub are_pages : ArePages pages
  pub few : AreFew pages
  pub rises : IsRising (joined pages)
  pub in_range : AreBelow (2 ^ 32) (joined pages)
  pub is : from_sorted (joined pages) ≡ map

-- pages parted at a tag: those below it, the entries of the page that it belongs in, and those above it
pub record IsParted {V : Type 0} (pages : List (SharedPage V)) (tag : ℕ) (before : List (SharedPage V)) (here : List (ℕ × V)) (after : List (SharedPage V)) : Type 0 where
  pub whole : joined pages ≡ joined before ++ (here ++ joined after)
  pub below : AreBelow tag (joined before)
  pub above : AreAbove tag (joined after)
  pub before_pages : ArePages before
  pub after_pages : ArePages after
  pub has_room : length here ≤ 64
  pub others : length before + length after ≡ length pages - 1
  pub before_half_full : AreHalfFull pages → AreHalfFull before
  pub after_half_full : AreHalfFull pages → AreHalfFull after
  pub half_full : AreHalfFull pages → 1 ≤ length pages → 32 ≤ length here

-- the tag is above some tag of the pages, or the same: each number that is below all of theirs is below it
abbrev pub Reaches : {V : Type 0} → List (SharedPage V) → ℕ → Type 0
Reaches pages tag = (low : ℕ) → AreAbove low (joined pages) → low < tag

-- the entries of a list are in that many pages: the same entries in their order, and as few pages
pub record IsCopy {V : Type 0} (old new : List (SharedPage V)) : Type 0 where
  pub joined : joined new ≡ joined old
  pub are_pages : ArePages new
  pub few : AreFew old → AreFew new

-- what a call has done that sets an entry in place, or hands the value back; want of memory changes nothing
abbrev pub IsPut : {V E : Type 0} → (old new : List (ℕ × V)) (tag : ℕ) (value : V) → Result (Option V) E → Type 0
IsPut old new tag value (Ok None) = new ≡ put nat_cmp tag value old
IsPut old new tag value (Ok (Some back)) = (new ≡ old) × (back ≡ value)
IsPut old new tag value (Err e) = new ≡ old

-- the entries but the one of that tag
abbrev pub cut : {V : Type 0} → ℕ → List (ℕ × V) → List (ℕ × V)
cut tag = where_key nat_cmp (λ other. not (eq_by_cmp nat_cmp tag other))

-- the entry of a tag is taken out, or nothing is changed
abbrev pub IsCutWhere : {V : Type 0} → (old new : List (ℕ × V)) (tag : ℕ) → Bool → Type 0
IsCutWhere old new tag true = new ≡ cut tag old
IsCutWhere old new tag false = new ≡ old

-- what a call has done that takes an entry out in place where it may; want of memory changes nothing
abbrev pub IsCut : {V E : Type 0} → (old new : List (ℕ × V)) (tag : ℕ) → Result Bool E → Type 0
IsCut old new tag (Ok done) = IsCutWhere old new tag done
IsCut old new tag (Err e) = new ≡ old

-- pages parted round the one that a tag belongs in, with the entries of that page between those of one neighbour
pub record IsAround {V : Type 0} (pages : List (SharedPage V)) (tag : ℕ) (before : List (SharedPage V)) (low here high : List (ℕ × V)) (after : List (SharedPage V)) : Type 0 where
  pub whole : joined pages ≡ joined before ++ (low ++ (here ++ (high ++ joined after)))
  pub below : AreBelow tag (joined before ++ low)
  pub above : AreAbove tag (high ++ joined after)
  pub before_pages : ArePages before
  pub after_pages : ArePages after
  pub has_room : length here ≤ 64
  pub before_half_full : 2 ≤ length pages → AreHalfFull before
  pub after_half_full : 2 ≤ length pages → AreHalfFull after
  pub half_full : 2 ≤ length pages → 32 ≤ length here
  pub neighbour_half_full : 2 ≤ length pages → 32 ≤ length low + length high
  pub alone : length pages ≤ 1 → length before + length low + length high + length after ≡ 0
