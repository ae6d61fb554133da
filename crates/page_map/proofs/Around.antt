-- An entry that is taken out of a page that is joined with a neighbour.
use Rattle.std.proofs.Common.{◌≡◌, ℕ, ◌+◌, ◌≤◌, List, [], ◌∷◌, ◌++◌, length, sym, ap, subst, ◌∙◌, arith, append_assoc, append-nil, length-append, inl, inr}
use Rattle.std.proofs.lemmas.Bool.{cases_lt}
use Rattle.page_map.specs.Pages.{AreFew, AreHalfFull, ArePages, IsAround, IsPage, IsParted, SharedPage, cut, joined}
use Rattle.page_map.specs.Rising.{AreAbove, AreBelow, IsRising}
use Rattle.page_map.proofs.Each.{each_left, each_right}
use Rattle.page_map.proofs.Joined.{joined-push}
use Rattle.page_map.proofs.Rising.{rising_left, rising_right}
use Rattle.page_map.proofs.Cut.{cut-append, cut_below, cut_above, rising-cut, length_cut}

module _ {V : Type 0} where
  -- ---- the page and its neighbour

  module _ (pages : List (SharedPage V)) (tag : ℕ) (before : List (SharedPage V)) (here : List (ℕ × V)) (after : List (SharedPage V)) (parted : IsParted pages tag before here after) (few : AreFew pages) where
    pub around_low : (front : List (SharedPage V)) (page : SharedPage V) → before ≡ front ++ page ∷ [] → IsAround pages tag front page.value here [] after
    around_low front page is =
        let half : 2 ≤ length pages → AreHalfFull (front ++ page ∷ []) = λ two. subst AreHalfFull is (parted.before_half_full (few two)) in
        record {
          whole = parted.whole ∙ ap (λ es. es ++ (here ++ joined after)) (ap joined is ∙ joined-push front page) ∙ append_assoc (joined front) page.value (here ++ joined after);
          below = subst (AreBelow tag) (ap joined is ∙ joined-push front page) parted.below;
          above = parted.above;
          before_pages = each_left (λ page. IsPage page.value) front (page ∷ []) (subst ArePages is parted.before_pages);
          after_pages = parted.after_pages;
          has_room = parted.has_room;
          before_half_full = λ two. each_left (λ page. 32 ≤ length page.value) front (page ∷ []) (half two);
          after_half_full = λ two. parted.after_half_full (few two);
          half_full = λ two. parted.half_full (few two) (omega arith);
          neighbour_half_full = λ two. let wide : 32 ≤ length page.value = (each_right (λ page. 32 ≤ length page.value) front (page ∷ []) (half two)).0 in omega (arith, wide);
          alone = λ one. absurd (omega (arith, one, parted.others, ap length is, length-append front (page ∷ [])));
        }

    pub around_high : (page : SharedPage V) (rest : List (SharedPage V)) → after ≡ page ∷ rest → IsAround pages tag before [] here page.value rest
    around_high page rest is =
        let half : 2 ≤ length pages → AreHalfFull (page ∷ rest) = λ two. subst AreHalfFull is (parted.after_half_full (few two)) in
        record {
          whole = parted.whole ∙ ap (λ pages. joined before ++ (here ++ joined pages)) is;
          below = subst (AreBelow tag) (sym (append-nil (joined before))) parted.below;
          above = subst (λ pages. AreAbove tag (joined pages)) is parted.above;
          before_pages = parted.before_pages;
          after_pages = (subst ArePages is parted.after_pages).1;
          has_room = parted.has_room;
          before_half_full = λ two. parted.before_half_full (few two);
          after_half_full = λ two. (half two).1;
          half_full = λ two. parted.half_full (few two) (omega arith);
          neighbour_half_full = λ two. let wide : 32 ≤ length page.value = (half two).0 in omega (arith, wide);
          alone = λ one. absurd (omega (arith, one, parted.others, ap length is));
        }

    pub around_alone : length before ≡ 0 → length after ≡ 0 → IsAround pages tag before [] here [] after
    around_alone none also = record {
      whole = parted.whole;
      below = subst (AreBelow tag) (sym (append-nil (joined before))) parted.below;
      above = parted.above;
      before_pages = parted.before_pages;
      after_pages = parted.after_pages;
      has_room = parted.has_room;
      before_half_full = λ two. parted.before_half_full (few two);
      after_half_full = λ two. parted.after_half_full (few two);
      half_full = λ two. parted.half_full (few two) (omega arith);
      neighbour_half_full = λ two. absurd (omega (arith, two, parted.others, none, also));
      alone = λ one. omega (arith, none, also);
    }

  -- ---- without the entry

  module _ (pages : List (SharedPage V)) (tag : ℕ) (before : List (SharedPage V)) (low here high : List (ℕ × V)) (after : List (SharedPage V)) (around : IsAround pages tag before low here high after) (rises : IsRising (joined pages)) where
    pub here_in_order : IsRising here
    here_in_order = rising_left here (high ++ joined after) (rising_right low (here ++ (high ++ joined after)) (rising_right (joined before) (low ++ (here ++ (high ++ joined after))) (subst IsRising around.whole rises)))

    nested : (middle : List (ℕ × V)) → (joined before ++ (low ++ (middle ++ high))) ++ joined after ≡ joined before ++ (low ++ (middle ++ (high ++ joined after)))
    nested middle =
        append_assoc (joined before) (low ++ (middle ++ high)) (joined after)
        ∙ ap (λ es. joined before ++ es) (append_assoc low (middle ++ high) (joined after) ∙ ap (λ es. low ++ es) (append_assoc middle high (joined after)))

    pub cut_whole : (joined before ++ (low ++ (cut tag here ++ high))) ++ joined after ≡ cut tag (joined pages)
    cut_whole =
        nested (cut tag here)
        ∙ sym (
        ap (cut tag) (around.whole ∙ sym (append_assoc (joined before) low (here ++ (high ++ joined after))))
        ∙ cut-append tag (joined before ++ low) (here ++ (high ++ joined after))
        ∙ ap (λ es. es ++ cut tag (here ++ (high ++ joined after))) (cut_below tag (joined before ++ low) around.below)
        ∙ ap (λ es. (joined before ++ low) ++ es) (cut-append tag here (high ++ joined after) ∙ ap (λ es. cut tag here ++ es) (cut_above tag (high ++ joined after) around.above))
        ∙ append_assoc (joined before) low (cut tag here ++ (high ++ joined after))
        )

    pub gathered_rise : IsRising (low ++ (cut tag here ++ high))
    gathered_rise =
        rising_right (joined before) (low ++ (cut tag here ++ high)) (rising_left (joined before ++ (low ++ (cut tag here ++ high))) (joined after) (subst IsRising (sym cut_whole) (rising-cut tag (joined pages) rises)))

    gathered_length : length (low ++ (cut tag here ++ high)) ≡ length low + length (cut tag here) + length high
    gathered_length = omega (arith, length-append low (cut tag here ++ high), length-append (cut tag here) high)

    pub few_left : (first second all : List (SharedPage V)) (gathered : List (ℕ × V)) → gathered ≡ low ++ (cut tag here ++ high) → length first ≡ length before → (length gathered ≤ 64 → length second ≤ length first + 1) → length all ≡ length second + length after
        → (AreHalfFull before → AreHalfFull first) → (32 ≤ length gathered → AreHalfFull first → AreHalfFull second) → (AreHalfFull second → AreHalfFull after → AreHalfFull all) → AreFew all
    few_left first second all gathered is first_count one all_count first_half second_half all_half many =
        let size = length_cut tag here here_in_order in
        let wide : length gathered ≡ length low + length (cut tag here) + length high = ap length is ∙ gathered_length in
        elim (cases_lt (length pages) 2) [
          | inl alone ↦ let none = around.alone (omega arith) in absurd (let second_few : length second ≤ length first + 1 = one (omega (arith, none, wide, size.0, around.has_room)) in omega (arith, none, many, second_few, first_count, all_count))
          | inr two ↦ all_half (second_half (omega (arith, wide, size.1, around.half_full two, around.neighbour_half_full two)) (first_half (around.before_half_full two))) (around.after_half_full two)
        ]
