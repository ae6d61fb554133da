-- A view is read back from its line.
use Rattle.std.proofs.Common.{◌≡◌, ℕ, ℤ, ◌^◌, List, [], ◌∷◌, ◌++◌, Bool, true, false, ◌&&◌, cond, Option, Some, None, nat_lt, codes, refl, ap, sym, ◌∙◌}
use Rattle.std.specs.Int.Signed.{mag}
use Rattle.std.specs.List.{AllByRecursion, list_all}
use Rattle.std.specs.Fmt.{decimal, signed_decimal}
use Rattle.std.proofs.lemmas.Fmt.{decimal_injective, signed_decimal_injective}
use Rattle.shadow_frame.specs.declared.Rect.{Rect}
use Rattle.native_state.specs.declared.StateCell.{StateCell}
use Rattle.prop_table.specs.Props.{PropList}
use Rattle.prop_table.specs.Table.{RowRule, v2_rules}
use Rattle.prop_table.specs.PairText.{is_start}
use Rattle.shadow_kinds.specs.declared.Kind.{Kind}
use Rattle.shadow_kinds.specs.declared.Kind.TheVariants.{View, Text, Image, Scroll, Input}
use Rattle.shadow_kinds.specs.Words.{word_of, kind_of_word}
use Rattle.shadow_kinds.proofs.Inverses.{kind_of_word-word_of}
use Rattle.host_views.specs.declared.HostView.{HostView}
use Rattle.run_report.specs.Text.{hex_text}
use Rattle.run_report.specs.Ranges.{IsStateInRange, IsFrameInRange, IsViewInRange}
use Rattle.run_report.proofs.LineWords.{is_word_byte, IsWord, and_left, and_right, differs, word-append, words-append}
use Rattle.run_report.proofs.Words.{decimal_is_word, signed_is_word, hex_is_word}
use Rattle.run_report.proofs.ViewWords.{state_words, key_of, row_words, rows_words, label_words, frame_words, free_words, view_words}
use Rattle.run_report.proofs.RowsBack.{is_plain, are_told, v2_told, rows_unlike, rows_off}

-- the words of a state are words
state_are_words : (state : Option StateCell) → AllByRecursion IsWord (state_words state)
state_are_words None = tt
state_are_words (Some cell) = (refl, (decimal_is_word cell.count, (signed_is_word cell.point.x, (signed_is_word cell.point.y, tt))))

-- a word, absent or not
row_are_words_if : (absent : Bool) (word : List ℕ) → IsWord word → AllByRecursion IsWord (cond absent [] (word ∷ []))
row_are_words_if true word p = tt
row_are_words_if false word p = (p, tt)

-- a row's word is one
row_are_words : (rule : RowRule) (value : Option ℤ) → IsWord (key_of rule) → AllByRecursion IsWord (row_words rule value)
row_are_words rule None p = tt
row_are_words rule (Some n) p = row_are_words_if (is_start rule.start n) (key_of rule ++ signed_decimal n) (word-append (key_of rule) (signed_decimal n) p (signed_is_word n))

-- the words of all rows are words
rows_are_words : (rules : List RowRule) (values : PropList) → are_told rules ≡ true → AllByRecursion IsWord (rows_words rules values)
rows_are_words [] values told = tt
rows_are_words (rule ∷ rules) [] told = tt
rows_are_words (rule ∷ rules) (value ∷ values) told =
    let numbers : Bool = nat_lt (mag rule.low) (2 ^ 63) && nat_lt (mag rule.high) (2 ^ 63) in
    let to_label : Bool = differs (key_of rule) (codes "label=") in
    let to_rows : Bool = list_all (λ other. differs (key_of rule) (key_of other)) rules in
    let plain : is_plain rule ≡ true = and_left (is_plain rule) (to_label && (to_rows && are_told rules)) told in
    let rest : are_told rules ≡ true = and_right to_rows (are_told rules) (and_right to_label (to_rows && are_told rules) (and_right (is_plain rule) (to_label && (to_rows && are_told rules)) told)) in
    words-append (row_words rule value) (rows_words rules values) (row_are_words rule value (and_left (list_all is_word_byte (key_of rule)) numbers plain))
    (rows_are_words rules values rest)

-- a label's word is one
label_are_words : (label : List ℕ) → AllByRecursion IsWord (label_words label)
label_are_words [] = tt
label_are_words (byte ∷ bytes) = (word-append (codes "label=") (hex_text (byte ∷ bytes)) refl (hex_is_word (byte ∷ bytes)), tt)

-- the words of a frame are words
frame_are_words : (frame : Rect) → AllByRecursion IsWord (frame_words frame)
frame_are_words frame = (refl, (signed_is_word frame.origin.x, (signed_is_word frame.origin.y, (signed_is_word frame.size.width, (signed_is_word frame.size.height, tt)))))

-- a kind's word is one
kind_is_word : (kind : Kind) → IsWord (word_of kind)
kind_is_word View = refl
kind_is_word Text = refl
kind_is_word Image = refl
kind_is_word Scroll = refl
kind_is_word Input = refl

-- the words of a view are words
pub view_are_words : (view : HostView) → AllByRecursion IsWord (word_of view.kind ∷ view_words view)
view_are_words view = (
  kind_is_word view.kind,
  words-append (frame_words view.frame) (free_words view) (frame_are_words view.frame)
      (words-append (state_words view.state) (rows_words v2_rules view.props ++ label_words view.label) (state_are_words view.state)
      (words-append (rows_words v2_rules view.props) (label_words view.label) (rows_are_words v2_rules view.props v2_told) (label_are_words view.label))),
)

-- what stands in two equal options is equal
some_is : {A : Type 0} (a b : A) → Some a ≡ Some b → a ≡ b
some_is a b e = cc

-- a kind is read back from its word
kind_is : (k l : Kind) → word_of k ≡ word_of l → k ≡ l
kind_is k l e = some_is k l (sym (kind_of_word-word_of k) ∙ ap kind_of_word e ∙ kind_of_word-word_of l)

-- frames of the same numbers are one
frame_from : (a b : Rect) → a.origin.x ≡ b.origin.x → a.origin.y ≡ b.origin.y → a.size.width ≡ b.size.width → a.size.height ≡ b.size.height → a ≡ b
frame_from a b x y w h = λ i. record { origin = record { x = x i; y = y i }; size = record { width = w i; height = h i } }

-- a frame is read back
frame_is : (a b : Rect) (r s : List (List ℕ)) → IsFrameInRange a → IsFrameInRange b → frame_words a ++ r ≡ frame_words b ++ s → (a ≡ b) × (r ≡ s)
frame_is a b r s p q e = (
  frame_from a b
      (signed_decimal_injective a.origin.x b.origin.x p.x q.x (cc))
      (signed_decimal_injective a.origin.y b.origin.y p.y q.y (cc))
      (signed_decimal_injective a.size.width b.size.width p.width q.width (cc))
      (signed_decimal_injective a.size.height b.size.height p.height q.height (cc)),
  cc,
)

-- states of the same numbers are one
cell_from : (a b : StateCell) → a.count ≡ b.count → a.point.x ≡ b.point.x → a.point.y ≡ b.point.y → a ≡ b
cell_from a b n x y = λ i. record { count = n i; point = record { x = x i; y = y i } }

-- the words after a state are none of a state
no_state : (values : PropList) (label : List ℕ) (more : List (List ℕ)) → codes "state" ∷ more ≡ rows_words v2_rules values ++ label_words label → ⊥
no_state values label more e = rows_unlike (codes "state") [] more v2_rules values label refl refl e

-- a state is read back
state_is : (a b : Option StateCell) (vs ws : PropList) (k l : List ℕ) → IsStateInRange a → IsStateInRange b
    → state_words a ++ (rows_words v2_rules vs ++ label_words k) ≡ state_words b ++ (rows_words v2_rules ws ++ label_words l)
    → (a ≡ b) × (rows_words v2_rules vs ++ label_words k ≡ rows_words v2_rules ws ++ label_words l)
state_is None None vs ws k l p q e = (refl, e)
state_is None (Some b) vs ws k l p q e =
    absurd (no_state vs k (decimal b.count ∷ signed_decimal b.point.x ∷ signed_decimal b.point.y ∷ (rows_words v2_rules ws ++ label_words l)) (sym e))
state_is (Some a) None vs ws k l p q e =
    absurd (no_state ws l (decimal a.count ∷ signed_decimal a.point.x ∷ signed_decimal a.point.y ∷ (rows_words v2_rules vs ++ label_words k)) e)
state_is (Some a) (Some b) vs ws k l p q e = (
  ap Some (cell_from a b
      (decimal_injective a.count b.count p.count q.count (cc))
      (signed_decimal_injective a.point.x b.point.x p.x q.x (cc))
      (signed_decimal_injective a.point.y b.point.y p.y q.y (cc))),
  cc,
)

-- views of the same parts are one
view_from : (v w : HostView) → v.kind ≡ w.kind → v.props ≡ w.props → v.label ≡ w.label → v.state ≡ w.state → v.frame ≡ w.frame → v ≡ w
view_from v w k p l s f = λ i. record { kind = k i; props = p i; label = l i; state = s i; frame = f i }

-- a view is read back from its words
pub view_is : (v w : HostView) → IsViewInRange v → IsViewInRange w → word_of v.kind ≡ word_of w.kind → view_words v ≡ view_words w → v ≡ w
view_is v w p q kind e =
    let frame = frame_is v.frame w.frame (free_words v) (free_words w) p.frame q.frame e in
    let state = state_is v.state w.state v.props w.props v.label w.label p.state q.state frame.1 in
    let rows = rows_off v2_rules v.props w.props v.label w.label v2_told p.props q.props state.1 in
    view_from v w (kind_is v.kind w.kind kind) rows.0 rows.1 state.0 frame.0
