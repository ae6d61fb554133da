-- A view's line as words, and the view read back from them.
use Rattle.std.proofs.Common.{◌≡◌, ℕ, ℤ, List, [], ◌∷◌, ◌++◌, Bool, true, false, cond, Option, Some, None, codes, rules, refl, ap, sym, ◌∙◌, append_assoc, append-nil}
use Rattle.std.specs.Fmt.{decimal, signed_decimal}
use Rattle.shadow_frame.specs.declared.Rect.{Rect}
use Rattle.native_state.specs.declared.StateCell.{StateCell}
use Rattle.prop_table.specs.Props.{PropList}
use Rattle.prop_table.specs.Table.{RowRule, v2_rules}
use Rattle.prop_table.specs.PairText.{is_start, pair_text_of, pairs_text_of, named_text}
use Rattle.shadow_kinds.specs.declared.Kind.{Kind}
use Rattle.shadow_kinds.specs.Words.{word_of}
use Rattle.host_views.specs.declared.HostView.{HostView}
use Rattle.run_report.specs.Text.{state_text, label_text, hex_text}
use Rattle.run_report.specs.TextParts.{shape_text, view_line}
use Rattle.run_report.proofs.LineWords.{ends, spread, spread-append, ends_spread}

-- the words of a state
abbrev pub state_words : Option StateCell → List (List ℕ)
state_words None = []
state_words (Some cell) = codes "state" ∷ decimal cell.count ∷ signed_decimal cell.point.x ∷ signed_decimal cell.point.y ∷ []

-- how a row's word begins
abbrev pub key_of : RowRule → List ℕ
key_of rule = rule.name ++ codes "="

-- a row's word, none where the row is absent or at its start
abbrev pub row_words : RowRule → Option ℤ → List (List ℕ)
row_words rule None = []
row_words rule (Some value) = cond (is_start rule.start value) [] ((key_of rule ++ signed_decimal value) ∷ [])

-- the words of all rows
abbrev pub rows_words : List RowRule → PropList → List (List ℕ)
rows_words [] values = []
rows_words (rule ∷ rules) [] = []
rows_words (rule ∷ rules) (value ∷ values) = row_words rule value ++ rows_words rules values

-- a label's word, none where it is empty
abbrev pub label_words : List ℕ → List (List ℕ)
label_words [] = []
label_words (byte ∷ bytes) = (codes "label=" ++ hex_text (byte ∷ bytes)) ∷ []

-- the words of a frame
abbrev pub frame_words : Rect → List (List ℕ)
frame_words frame = codes "frame" ∷ signed_decimal frame.origin.x ∷ signed_decimal frame.origin.y ∷ signed_decimal frame.size.width ∷ signed_decimal frame.size.height ∷ []

-- the words that may be left out
abbrev pub free_words : HostView → List (List ℕ)
free_words view = state_words view.state ++ (rows_words v2_rules view.props ++ label_words view.label)

-- the words of a view after its kind
abbrev pub view_words : HostView → List (List ℕ)
view_words view = frame_words view.frame ++ free_words view

-- a state's text is its words
state_spread : (state : Option StateCell) → state_text state ≡ spread (state_words state)
state_spread None = refl
state_spread (Some cell) = rw (append-nil (signed_decimal cell.point.y)) refl

-- so is a row's text, absent or not
row_spread_if : (absent : Bool) (name : List ℕ) (value : ℤ) → cond absent [] (named_text name value) ≡ spread (cond absent [] (((name ++ codes "=") ++ signed_decimal value) ∷ []))
row_spread_if true name value = refl
row_spread_if false name value = rw (append-nil ((name ++ codes "=") ++ signed_decimal value)) refl

-- a row's text is its word
row_spread : (rule : RowRule) (value : Option ℤ) → pair_text_of rule value ≡ spread (row_words rule value)
row_spread rule None = refl
row_spread rule (Some value) = row_spread_if (is_start rule.start value) rule.name value

-- the text of all rows is their words
rows_spread : (rules : List RowRule) (values : PropList) → pairs_text_of rules values ≡ spread (rows_words rules values)
rows_spread [] values = refl
rows_spread (rule ∷ rules) [] = refl
rows_spread (rule ∷ rules) (value ∷ values) =
    ap (λ text. text ++ pairs_text_of rules values) (row_spread rule value) ∙ ap (λ text. spread (row_words rule value) ++ text) (rows_spread rules values)
    ∙ sym (spread-append (row_words rule value) (rows_words rules values))

-- a label's text is its word
label_spread : (label : List ℕ) → label_text label ≡ spread (label_words label)
label_spread [] = refl
label_spread (byte ∷ bytes) = rw (append-nil (hex_text (byte ∷ bytes))) refl

-- the text of what may be left out is its words
free_spread : (view : HostView) → state_text view.state ++ (pairs_text_of v2_rules view.props ++ label_text view.label) ≡ spread (free_words view)
free_spread view =
    ap (λ text. text ++ (pairs_text_of v2_rules view.props ++ label_text view.label)) (state_spread view.state)
    ∙ ap (λ text. spread (state_words view.state) ++ (text ++ label_text view.label)) (rows_spread v2_rules view.props)
    ∙ ap (λ text. spread (state_words view.state) ++ (spread (rows_words v2_rules view.props) ++ text)) (label_spread view.label)
    ∙ ap (λ text. spread (state_words view.state) ++ text) (sym (spread-append (rows_words v2_rules view.props) (label_words view.label)))
    ∙ sym (spread-append (state_words view.state) (rows_words v2_rules view.props ++ label_words view.label))

-- the text of a kind and a frame is the kind's word and the frame's
shape_spread : (kind : Kind) (frame : Rect) → shape_text kind frame ≡ word_of kind ++ spread (frame_words frame)
shape_spread kind frame = rw (append-nil (signed_decimal frame.size.height)) refl

-- texts in a row, regrouped
regrouped : (a b c d : List ℕ) → ((a ++ b) ++ c) ++ d ≡ a ++ ((b ++ c) ++ d)
regrouped a b c d = ap (λ text. text ++ d) (append_assoc a b c) ∙ append_assoc a (b ++ c) d

-- the line of a view
pub view_line_is : (view : HostView) → view_line view ≡ word_of view.kind ++ ends (view_words view)
view_line_is view =
    let word : List ℕ = word_of view.kind in
    ap (λ text. (text ++ (state_text view.state ++ (pairs_text_of v2_rules view.props ++ label_text view.label))) ++ 10 ∷ []) (shape_spread view.kind view.frame)
    ∙ ap (λ text. ((word ++ spread (frame_words view.frame)) ++ text) ++ 10 ∷ []) (free_spread view)
    ∙ regrouped word (spread (frame_words view.frame)) (spread (free_words view)) (10 ∷ [])
    ∙ ap (λ text. word ++ (text ++ 10 ∷ [])) (sym (spread-append (frame_words view.frame) (free_words view)))
    ∙ ap (λ text. word ++ text) (sym (ends_spread (view_words view)))
