-- A list of entries put into another, all at once.
use Rattle.std.proofs.Common.{◌≡◌, ℕ, suc, ◌+◌, ◌^◌, ◌<◌, ◌≤◌, List, [], ◌∷◌, ◌++◌, length, get_or, take, drop, refl, sym, ap, subst, ◌∙◌, arith, append_assoc, add-one, drop-cons, take-append-drop, length-append, inl, inr}
use Rattle.std.proofs.lemmas.Bool.{cases_lt}
use Rattle.std.specs.Ordering.{nat_cmp}
use Rattle.std.specs.FinMap.{put, from_sorted}
use Rattle.std.proofs.lemmas.List.{take_more}
use Rattle.page_map.specs.Entries.{all_added}
use Rattle.page_map.specs.Pages.{AreFew, AreHalfFull, ArePages, IsParted, Reaches, SharedPage, all_put, joined}
use Rattle.page_map.specs.Rising.{AreAbove, AreBelow, Each, IsRising}
use Rattle.page_map.proofs.Each.{each_left, each_right, each_with, each-append}
use Rattle.page_map.proofs.Joined.{above_rises, half_full_none, some_reaches}
use Rattle.page_map.proofs.Rising.{rising_right, rising-put, each-put, length-put, from_sorted-put, put_after, put_before, put_between}

module _ {V : Type 0} where
  pub all_put-append : (es xs ys : List (ℕ × V)) → all_put es (xs ++ ys) ≡ all_put (all_put es xs) ys
  all_put-append es [] ys = refl
  all_put-append es (x ∷ xs) ys = all_put-append (put nat_cmp x.0 x.1 es) xs ys

  pub each-all_put : (P : ℕ → Type 0) (es new : List (ℕ × V)) → Each (λ e. P e.0) es → Each (λ e. P e.0) new → Each (λ e. P e.0) (all_put es new)
  each-all_put P es [] h p = h
  each-all_put P es (x ∷ new) h p = each-all_put P (put nat_cmp x.0 x.1 es) new (each-put P x.0 x.1 es p.0 h) p.1

  pub rising-all_put : (es new : List (ℕ × V)) → IsRising es → IsRising (all_put es new)
  rising-all_put es [] h = h
  rising-all_put es (x ∷ new) h = rising-all_put (put nat_cmp x.0 x.1 es) new (rising-put x.0 x.1 es h)

  -- no value is lost
  pub length-all_put : (es new : List (ℕ × V)) → length es ≤ length (all_put es new)
  length-all_put es [] = omega arith
  length-all_put es (x ∷ new) = omega (arith, (length-put x.0 x.1 es).0, length-all_put (put nat_cmp x.0 x.1 es) new)

  pub from_sorted-all_put : (es new : List (ℕ × V)) → IsRising es → from_sorted {R = nat_cmp} (all_put es new) ≡ all_added (from_sorted es) new
  from_sorted-all_put es [] h = refl
  from_sorted-all_put es (x ∷ new) h =
      from_sorted-all_put (put nat_cmp x.0 x.1 es) new (rising-put x.0 x.1 es h) ∙ ap (λ map. all_added map new) (from_sorted-put x.0 x.1 es h)

  all_put_inside : (below here above new : List (ℕ × V)) → Each (λ x. AreBelow x.0 below) new → Each (λ x. AreAbove x.0 above) new → all_put (below ++ (here ++ above)) new ≡ below ++ (all_put here new ++ above)
  all_put_inside below here above [] low high = refl
  all_put_inside below here above (x ∷ new) low high =
      ap (λ es. all_put es new) (put_after x.0 x.1 below (here ++ above) low.0 ∙ ap (λ es. below ++ es) (put_before x.0 x.1 here above high.0))
      ∙ all_put_inside below (put nat_cmp x.0 x.1 here) above new low.1 high.1

  all_put_behind : (front es new : List (ℕ × V)) → Each (λ x. AreBelow x.0 front) new → all_put (front ++ es) new ≡ front ++ all_put es new
  all_put_behind front es [] low = refl
  all_put_behind front es (x ∷ new) low = ap (λ es. all_put es new) (put_after x.0 x.1 front es low.0) ∙ all_put_behind front (put nat_cmp x.0 x.1 es) new low.1

  across : (xs ys : List (ℕ × V)) → IsRising (xs ++ ys) → Each (λ x. AreAbove x.0 ys) xs
  across [] ys h = tt
  across (x ∷ xs) ys h = (each_right (λ e. x.0 < e.0) xs ys h.0, across xs ys h.1)

  below_higher : (low n : ℕ) (es : List (ℕ × V)) → low ≤ n → AreBelow low es → AreBelow n es
  below_higher low n es le = each_with (λ e. e.0 < low) (λ e. e.0 < n) (λ e lt. omega arith) es

  -- ---- one more of the list

  -- where all is what is written, and rest what is left of the entries
  pub record IsMerging (entries new : List (ℕ × V)) (i : ℕ) (all rest : List (ℕ × V)) : Type 0 where
    pub put : all ++ rest ≡ all_put entries (take i new)
    pub rises : IsRising (all ++ rest)
    pub below : Each (λ later. AreBelow later.0 all) (drop i new)
    pub at_least : i ≤ length all
    pub at_most : length all + length rest ≤ length entries + i
    pub in_range : AreBelow (2 ^ 32) (take i new)

  pub merging_none : (entries new : List (ℕ × V)) → IsRising entries → IsMerging entries new 0 [] entries
  merging_none entries new h = record {
    put = refl;
    rises = h;
    below = each_with (λ _. Unit {0}) (λ later. AreBelow {V = V} later.0 []) (λ _ _. tt) (drop 0 new) (every (drop 0 new));
    at_least = omega arith;
    at_most = omega arith;
    in_range = tt;
  }
    where
      every : (es : List (ℕ × V)) → Each (λ _. Unit {0}) es
      every [] = tt
      every (e ∷ es) = (tt, every es)

  module _ (entries new : List (ℕ × V)) (i : ℕ) (all rest below from without : List (ℕ × V)) (tag : ℕ) (value : V) (was : IsMerging entries new i all rest) (new_rises : IsRising new) (lt : i < length new) (item : get_or new i (tag, value) ≡ (tag, value)) where
    to_come : drop i new ≡ (tag, value) ∷ drop (i + 1) new
    to_come = rw add-one (drop-cons new i (tag, value) lt ∙ ap (λ e. e ∷ drop (suc i) new) item)

    done : take (i + 1) new ≡ take i new ++ (tag, value) ∷ []
    done = take_more new i (tag, value) lt ∙ ap (λ e. take i new ++ e ∷ []) item

    pub merging_more : rest ≡ below ++ from → AreBelow tag below → put nat_cmp tag value from ≡ (tag, value) ∷ without → length without ≤ length from → tag < 2 ^ 32 → IsMerging entries new (i + 1) ((all ++ below) ++ (tag, value) ∷ []) without
    merging_more parts low is short small =
        let later = subst (Each (λ later. AreBelow later.0 all)) to_come was.below in
        let all_low : AreBelow tag (all ++ below) = each-append (λ e. e.0 < tag) all below later.0 low in
        let whole : all ++ rest ≡ (all ++ below) ++ from = ap (λ es. all ++ es) parts ∙ sym (append_assoc all below from) in
        let now : put nat_cmp tag value (all ++ rest) ≡ ((all ++ below) ++ (tag, value) ∷ []) ++ without = put_between tag value (all ++ rest) (all ++ below) from without whole all_low is in
        let above : AreAbove tag (drop (i + 1) new) = (subst IsRising to_come (rising_right (take i new) (drop i new) (rw take-append-drop new_rises))).0 in
        record {
          put = sym now ∙ ap (put nat_cmp tag value) was.put ∙ sym (ap (all_put entries) done ∙ all_put-append entries (take i new) ((tag, value) ∷ []));
          rises = subst IsRising now (rising-put tag value (all ++ rest) was.rises);
          below = each_with (λ later. tag < later.0) (λ later. AreBelow later.0 ((all ++ below) ++ (tag, value) ∷ [])) (λ later lt. each-append (λ e. e.0 < later.0) (all ++ below) ((tag, value) ∷ []) (below_higher tag later.0 (all ++ below) (omega arith) all_low) (lt, tt)) (drop (i + 1) new) above;
          at_least = omega (arith, was.at_least, length-append (all ++ below) ((tag, value) ∷ []), length-append all below);
          at_most = omega (arith, was.at_most, ap length parts, length-append below from, length-append (all ++ below) ((tag, value) ∷ []), length-append all below);
          in_range = rw done (each-append (λ e. e.0 < 2 ^ 32) (take i new) ((tag, value) ∷ []) was.in_range (small, tt));
        }

  -- ---- one more page

  module _ (left below above : List (SharedPage V)) (here rest mine later : List (ℕ × V)) (e : ℕ × V) (others : List (ℕ × V)) (parted : IsParted left e.0 below here above) (left_rises : IsRising (joined left)) (first : rest ≡ e ∷ others) (rest_rises : IsRising rest) (cut : rest ≡ mine ++ later) (low : Each (λ x. AreAbove x.0 (joined above)) mine) (high : Each (λ x. Reaches above x.0) later) where
    all_rises : IsRising (joined below ++ (here ++ joined above))
    all_rises = subst IsRising parted.whole left_rises

    pub later_rises : IsRising later
    later_rises = rising_right mine later (subst IsRising cut rest_rises)

    from_first : Each (λ x. e.0 ≤ x.0) rest
    from_first = rw first (omega arith, each_with (λ x. e.0 < x.0) (λ x. e.0 ≤ x.0) (λ x lt. omega arith) others (subst IsRising first rest_rises).0)

    mine_above : Each (λ x. AreBelow x.0 (joined below)) mine
    mine_above = each_with (λ x. e.0 ≤ x.0) (λ x. AreBelow x.0 (joined below)) (λ x le. below_higher e.0 x.0 (joined below) le parted.below) mine (each_left (λ x. e.0 ≤ x.0) mine later (subst (Each (λ x. e.0 ≤ x.0)) cut from_first))

    front_low : Each (λ x. AreAbove x.0 (joined above)) (joined below ++ all_put here mine)
    front_low =
        let here_low : Each (λ x. AreAbove x.0 (joined above)) here = across here (joined above) (rising_right (joined below) (here ++ joined above) all_rises) in
        let below_low : Each (λ x. AreAbove x.0 (joined above)) (joined below) = each_with (λ x. AreAbove x.0 (here ++ joined above)) (λ x. AreAbove x.0 (joined above)) (λ x. each_right (λ y. x.0 < y.0) here (joined above)) (joined below) (across (joined below) (here ++ joined above) all_rises) in
        each-append (λ x. AreAbove x.0 (joined above)) (joined below) (all_put here mine) below_low (each-all_put (λ tag. AreAbove tag (joined above)) here mine here_low low)

    later_above : Each (λ x. AreBelow x.0 (joined below ++ all_put here mine)) later
    later_above = each_with (λ x. Reaches above x.0) (λ x. AreBelow x.0 (joined below ++ all_put here mine)) (λ x reaches. each_with (λ y. AreAbove y.0 (joined above)) (λ y. y.0 < x.0) (λ y. reaches y.0) (joined below ++ all_put here mine) front_low) later high

    pub page_merged : all_put (joined left) rest ≡ (joined below ++ all_put here mine) ++ all_put (joined above) later
    page_merged =
        ap (all_put (joined left)) cut
        ∙ all_put-append (joined left) mine later
        ∙ ap (λ es. all_put (all_put es mine) later) parted.whole
        ∙ ap (λ es. all_put es later) (all_put_inside (joined below) here (joined above) mine mine_above low ∙ sym (append_assoc (joined below) (all_put here mine) (joined above)))
        ∙ all_put_behind (joined below ++ all_put here mine) (joined above) later later_above

    not_itself : (later : List (ℕ × V)) → Each (λ x. Reaches above x.0) later → later ≡ e ∷ others → ⊥
    not_itself [] high is = absurd (omega (arith, ap length is))
    not_itself (x ∷ xs) high is = let reaches : e.0 < e.0 = (subst (Each (λ x. Reaches above x.0)) is high).0 e.0 parted.above in omega arith

    pub some_mine : 1 ≤ length mine
    some_mine = some mine cut
      where
        some : (mine : List (ℕ × V)) → rest ≡ mine ++ later → 1 ≤ length mine
        some [] cut = absurd (not_itself later high (sym cut ∙ first))
        some (x ∷ xs) cut = omega arith

  -- where pages are what is made so far, left the pages that are left, and rest what is left of the list
  pub record IsPlacing (old : List (SharedPage V)) (new : List (ℕ × V)) (pages left : List (SharedPage V)) (rest : List (ℕ × V)) : Type 0 where
    pub put : joined pages ++ all_put (joined left) rest ≡ all_put (joined old) new
    pub are_pages : ArePages pages
    pub are_left : ArePages left
    pub left_rises : IsRising (joined left)
    pub rest_rises : IsRising rest
    pub in_range : AreBelow (2 ^ 32) (joined pages)
    pub left_in_range : AreBelow (2 ^ 32) (joined left)
    pub shorter : length rest ≤ length new
    pub half_full : 2 ≤ length pages + length left → AreHalfFull pages × AreHalfFull left
    pub some_left : 1 ≤ length rest → 1 ≤ length pages → 1 ≤ length left

  pub placing_none : (old : List (SharedPage V)) (new : List (ℕ × V)) → ArePages old → AreFew old → IsRising (joined old) → AreBelow (2 ^ 32) (joined old) → IsRising new → IsPlacing old new [] old new
  placing_none old new are few rises in_range new_rises = record {
    put = refl;
    are_pages = tt;
    are_left = are;
    left_rises = rises;
    rest_rises = new_rises;
    in_range = tt;
    left_in_range = in_range;
    shorter = omega arith;
    half_full = λ many. (tt, few (omega arith));
    some_left = λ _ some. absurd (omega arith);
  }

  -- one more page is as full as those before it, or the only one
  module _ (pages left below above now : List (SharedPage V)) (here entries : List (ℕ × V)) (e : ℕ × V) (parted : IsParted left e.0 below here above) (were : 2 ≤ length pages + length left → AreHalfFull pages × AreHalfFull left) (some_left : 1 ≤ length pages → 1 ≤ length left) (wider : length here ≤ length entries) (one : length entries ≤ 64 → length now ≡ length pages + length below + 1) (half : 32 ≤ length entries → AreHalfFull pages → AreHalfFull below → AreHalfFull now) where
    -- none was left but the one that became more
    some_more : 2 ≤ length now → length pages ≡ 0 → length below ≡ 0 → 32 ≤ length entries
    some_more many none none_below =
        elim (cases_lt (length entries) 32) [
          | inl few ↦ absurd (let is : length now ≡ length pages + length below + 1 = one (omega arith) in omega arith)
          | inr enough ↦ enough
        ]

    pages_left : 1 ≤ length pages → 2 ≤ length pages + length left
    pages_left some = let left = some_left some in omega arith

    left_of_two : 2 ≤ length pages + length left → 1 ≤ length left
    left_of_two enough =
        elim (cases_lt (length pages) 1) [
          | inl none ↦ omega arith
          | inr some ↦ some_left some
        ]

    only_one : length pages + length left < 2 → length pages ≡ 0
    only_one few =
        elim (cases_lt (length pages) 1) [
          | inl none ↦ omega arith
          | inr some ↦ absurd (let two = pages_left some in omega arith)
        ]

    pub still_half_full : 2 ≤ length now + length above → AreHalfFull now × AreHalfFull above
    still_half_full many =
        elim (cases_lt (length pages + length left) 2) [
          | inl few ↦
              let none : length pages ≡ 0 = only_one few in
              let none_below : length below ≡ 0 = omega (arith, parted.others) in
              let none_above : length above ≡ 0 = omega (arith, parted.others) in
              let wide : 32 ≤ length entries = some_more (omega arith) none none_below in
              (half wide (half_full_none pages none) (half_full_none below none_below), half_full_none above none_above)
          | inr enough ↦
              let all : AreHalfFull pages × AreHalfFull left = were enough in
              let here_wide : 32 ≤ length here = parted.half_full all.1 (left_of_two enough) in
              let wide : 32 ≤ length entries = omega (arith, here_wide, wider) in
              (half wide all.0 (parted.before_half_full all.1), parted.after_half_full all.1)
        ]

  pub placing_more : (old : List (SharedPage V)) (new : List (ℕ × V)) (pages left : List (SharedPage V)) (rest : List (ℕ × V)) (was : IsPlacing old new pages left rest) (below above : List (SharedPage V)) (here mine later : List (ℕ × V)) (e : ℕ × V) (others : List (ℕ × V)) → IsParted left e.0 below here above → rest ≡ e ∷ others → rest ≡ mine ++ later → Each (λ x. AreAbove x.0 (joined above)) mine → Each (λ x. Reaches above x.0) later → AreBelow (2 ^ 32) mine → (now : List (SharedPage V)) → joined now ≡ (joined pages ++ joined below) ++ all_put here mine → ArePages now
      → (length (all_put here mine) ≤ 64 → length now ≡ length pages + length below + 1) → (32 ≤ length (all_put here mine) → AreHalfFull pages → AreHalfFull below → AreHalfFull now)
      → IsPlacing old new now above later
  placing_more old new pages left rest was below above here mine later e others parted first cut low high mine_in_range now is are one half =
      let some : 1 ≤ length rest = omega (arith, ap length first) in
      let merged = page_merged left below above here rest mine later e others parted was.left_rises first was.rest_rises cut low high in
      let all_in_range : AreBelow (2 ^ 32) (joined below ++ (here ++ joined above)) = subst (AreBelow (2 ^ 32)) parted.whole was.left_in_range in
      let after_in_range = each_right (λ x. x.0 < 2 ^ 32) (joined below) (here ++ joined above) all_in_range in
      let front_in_range : AreBelow (2 ^ 32) (joined pages ++ joined below) = each-append (λ x. x.0 < 2 ^ 32) (joined pages) (joined below) was.in_range (each_left (λ x. x.0 < 2 ^ 32) (joined below) (here ++ joined above) all_in_range) in
      record {
        put = ap (λ es. es ++ all_put (joined above) later) is
            ∙ append_assoc (joined pages ++ joined below) (all_put here mine) (all_put (joined above) later)
            ∙ append_assoc (joined pages) (joined below) (all_put here mine ++ all_put (joined above) later)
            ∙ ap (λ es. joined pages ++ es) (sym (append_assoc (joined below) (all_put here mine) (all_put (joined above) later)) ∙ sym merged)
            ∙ was.put;
        are_pages = are;
        are_left = parted.after_pages;
        left_rises = above_rises left e.0 below here above parted was.left_rises;
        rest_rises = later_rises left below above here rest mine later e others parted was.left_rises first was.rest_rises cut low high;
        in_range = rw is (each-append (λ x. x.0 < 2 ^ 32) (joined pages ++ joined below) (all_put here mine) front_in_range (each-all_put (λ tag. tag < 2 ^ 32) here mine (each_left (λ x. x.0 < 2 ^ 32) here (joined above) after_in_range) mine_in_range));
        left_in_range = each_right (λ x. x.0 < 2 ^ 32) here (joined above) after_in_range;
        shorter = omega (arith, was.shorter, ap length cut, length-append mine later);
        half_full = still_half_full pages left below above now here (all_put here mine) e parted was.half_full (was.some_left some) (length-all_put here mine) one half;
        some_left = λ more _. some_reaches above later high more;
      }
