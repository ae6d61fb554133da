-- What `clap` makes of the words: the walk over them, with two arguments by their place.
use Rattle.std.proofs.Common.{◌≡◌, ◌∙◌, arith, ℕ, Bool, true, false, List, [], ◌∷◌, Option, Some, None, refl, true≢false, ap, ap₂, codes, cond, is_some}
use Rattle.std.proofs.lemmas.Bool.{ne_eqb}
use Rattle.std.specs.Prelude.{◌||◌, fold, slice_get, length}
use Rattle.std.specs.Option.{option_map, option_map_or}
use Rattle.std.specs.Str.{bytes_eq, chars}
use Rattle.clap.specs.Lexer.{long_of, short_of}
use Rattle.clap.specs.Walk.{Held, Row, Rule, Text, Walk, finished, idle, is_empty, nothing_held, settled, walked, word_met}
use Rattle.clap.specs.Walk as walk
use Rattle.clap.specs.Simple.{App, Shape, built, new_app, new_rule, on_top, with_rule}
use Rattle.clap.specs.Kinds.{Kinds, or_else, value_kinds}
use Rattle.clap.specs.Faults.{bundle_fault, bundle_step_fault, check_fault, defaults_fault, flag_word_fault, flags_fault, settle_fault, step_fault, turn_fault, walk_fault, word_fault}
use Rattle.clap.specs.ValueTests.{accepts}
use Rattle.clap.specs.Values.{reading_of, refused_kind}
use Rattle.clap.specs.declared.parser.matches.ValueSource.TheVariants.{CommandLine}
use Rattle.clap.specs.declared.builder.value_parser.ValueParser.{ValueParser}
use Rattle.clap.proofs.OnLiterals.{clap_on_literals}

-- the word is `--`
abbrev pub is_dashes : Text → Bool
is_dashes word = bytes_eq word (45 ∷ 45 ∷ [])

abbrev has_first : Text → Bool
has_first [] = false
has_first (x ∷ xs) = is_some (slice_get (chars (x ∷ xs)) 0)

-- the word looks like a flag
abbrev pub is_flag : Text → Bool
is_flag word = is_some (long_of word) || option_map_or has_first (short_of word) false

-- one of three, by what a word is before `--`
abbrev pub by_word : {A : Type 0} → Text → A → A → A → A
by_word word dashes flag other = cond (is_dashes word) dashes (cond (is_flag word) flag other)

by_cases : {A B : Type 0} (f : B → A) (word : Text) (x : A) (a b c : B) → (is_dashes word ≡ true → x ≡ f a) → (is_dashes word ≡ false → is_flag word ≡ true → x ≡ f b)
    → (is_dashes word ≡ false → is_flag word ≡ false → x ≡ f c) → x ≡ f (by_word word a b c)
by_cases f word x a b c dashes flag other = go (is_dashes word) (is_flag word) dashes flag other
  where
    go : (d e : Bool) → (d ≡ true → x ≡ f a) → (d ≡ false → e ≡ true → x ≡ f b) → (d ≡ false → e ≡ false → x ≡ f c) → x ≡ f (cond d a (cond e b c))
    go true e dashes flag other = dashes refl
    go false true dashes flag other = flag refl refl
    go false false dashes flag other = other refl refl

fails_first : (a b : Kinds) → is_empty a ≡ false → is_empty (or_else a b) ≡ false
fails_first [] b e = absurd (true≢false e)
fails_first (k ∷ ks) b e = ne_eqb (length (k ∷ ks)) 0 (λ h. omega (arith, h))

-- ---- what the words come to: one value or two, by tests of both

module _ (ok₁ ok₂ : Text → Bool) where
  abbrev pub reads_two : Bool → Text → Text → List Text → Option (Text × Option Text)
  reads_two trailing c n [] = cond (ok₂ n) (Some (c, Some n)) None
  reads_two true c n (w ∷ ws) = None
  reads_two false c n (w ∷ ws) = by_word w (reads_two true c n ws) None None

  abbrev pub reads_one : Bool → Text → List Text → Option (Text × Option Text)
  reads_one trailing c [] = cond (ok₁ c) (Some (c, None)) None
  reads_one true c (w ∷ ws) = cond (ok₁ c) (reads_two true c w ws) None
  reads_one false c (w ∷ ws) = by_word w (reads_one true c ws) None (cond (ok₁ c) (reads_two false c w ws) None)

  abbrev pub reads : Bool → List Text → Option (Text × Option Text)
  reads trailing [] = None
  reads true (w ∷ ws) = reads_one true w ws
  reads false (w ∷ ws) = by_word w (reads true ws) None (reads_one false w ws)

module _ (p q : ValueParser) where
  abbrev two : App
  two = with_rule (with_rule (on_top (λ s. record s { no_binary_name = true; disable_help_flag = true }) (new_app (codes "fabric")))
      (record (new_rule (codes "command")) { parser = Some p; required = true }))
      (record (new_rule (codes "number")) { parser = Some q })

  abbrev top : Shape
  top = (built two).top

  abbrev rules : List Rule
  rules = top.rules

  abbrev pub command_row : Text → Row
  command_row text = record { id = codes "command"; values = text ∷ []; count = None; source = Some CommandLine; reading = reading_of p }

  abbrev pub number_row : Text → Row
  number_row text = record { id = codes "number"; values = text ∷ []; count = None; source = Some CommandLine; reading = reading_of q }

  abbrev pub rows_for : Text × Option Text → List Row
  rows_for (c, None) = command_row c ∷ []
  rows_for (c, Some n) = command_row c ∷ number_row n ∷ []

  abbrev held_with : List Row → Option (Text × List Text) → Held
  held_with rows pending = record { rows = rows; pending = pending; skip = 0 }

  abbrev walk_at : List Row → Option (Text × List Text) → ℕ → Bool → Walk
  walk_at rows pending position trailing = record { held = held_with rows pending; waiting = idle; position = position; is_trailing = trailing; stopped = None }

  -- ---- one word

  short_plain : (word : Text) (rows : List Row) (pending : Option (Text × List Text)) (s : Option Text) → option_map_or has_first s false ≡ false
      → walk.short_or_plain rules idle word s (held_with rows pending) ≡ (held_with rows pending, walk.value)
  unfolding clap_on_literals
  short_plain word rows pending None e = refl
  short_plain word rows pending (Some []) e = refl
  short_plain word rows pending (Some (x ∷ xs)) e = go (slice_get (chars (x ∷ xs)) 0) e
    where
      go : (first : Option ℕ) → is_some first ≡ false
          → walk.after_flag rules idle word
          (walk.bundle_step rules first (x ∷ xs) 0 walk.plain (held_with rows pending) (walk.bundle_met rules (length xs))).0
          (walk.bundle_step rules first (x ∷ xs) 0 walk.plain (held_with rows pending) (walk.bundle_met rules (length xs))).1
          ≡ (held_with rows pending, walk.value)
      go None e = refl
      go (Some c) e = cc

  long_plain : (word : Text) (rows : List Row) (pending : Option (Text × List Text)) (l : Option (Text × Option Text)) → (is_some l || option_map_or has_first (short_of word) false) ≡ false
      → walk.long_or_other rules idle word l (held_with rows pending) ≡ (held_with rows pending, walk.value)
  long_plain word rows pending None e = short_plain word rows pending (short_of word) e
  long_plain word rows pending (Some p) e = cc

  -- a word that is neither `--` nor a flag is a value
  plain_met : (word : Text) (rows : List Row) (pending : Option (Text × List Text)) (position : ℕ) → is_dashes word ≡ false → is_flag word ≡ false
      → word_met rules [] false idle position word (held_with rows pending) ≡ (held_with rows pending, walk.value)
  plain_met word rows pending position d e = rw d (long_plain word rows pending (long_of word) e)

  short_faultless : (word : Text) (rows : List Row) (pending : Option (Text × List Text)) (s : Option Text) → option_map_or has_first s false ≡ false
      → option_map_or (λ flags. bundle_fault rules false flags (held_with rows pending)) s [] ≡ []
  unfolding clap_on_literals
  short_faultless word rows pending None e = refl
  short_faultless word rows pending (Some []) e = refl
  short_faultless word rows pending (Some (x ∷ xs)) e = go (slice_get (chars (x ∷ xs)) 0) e
    where
      go : (first : Option ℕ) → is_some first ≡ false → bundle_step_fault rules false first (x ∷ xs) 0 (held_with rows pending) (flags_fault rules false (length xs)) ≡ []
      go None e = refl
      go (Some c) e = cc

  long_faultless : (word : Text) (rows : List Row) (pending : Option (Text × List Text)) (l : Option (Text × Option Text)) → (is_some l || option_map_or has_first (short_of word) false) ≡ false
      → flag_word_fault rules false l word (held_with rows pending) ≡ []
  long_faultless word rows pending None e = short_faultless word rows pending (short_of word) e
  long_faultless word rows pending (Some p) e = cc

  plain_faultless : (word : Text) (rows : List Row) (pending : Option (Text × List Text)) → is_dashes word ≡ false → is_flag word ≡ false
      → word_fault top [] false idle word (held_with rows pending) ≡ []
  plain_faultless word rows pending d e = rw d (long_faultless word rows pending (long_of word) e)

  short_refused : (rows : List Row) (pending : Option (Text × List Text)) (s : Option Text) → option_map_or has_first s false ≡ true
      → is_empty (option_map_or (λ flags. bundle_fault rules false flags (held_with rows pending)) s []) ≡ false
  unfolding clap_on_literals
  short_refused rows pending None e = cc
  short_refused rows pending (Some []) e = cc
  short_refused rows pending (Some (x ∷ xs)) e = go (slice_get (chars (x ∷ xs)) 0) e
    where
      go : (first : Option ℕ) → is_some first ≡ true → is_empty (bundle_step_fault rules false first (x ∷ xs) 0 (held_with rows pending) (flags_fault rules false (length xs))) ≡ false
      go None e = cc
      go (Some c) e = refl

  long_refused : (word : Text) (rows : List Row) (pending : Option (Text × List Text)) (l : Option (Text × Option Text)) → (is_some l || option_map_or has_first (short_of word) false) ≡ true
      → is_empty (flag_word_fault rules false l word (held_with rows pending)) ≡ false
  long_refused word rows pending None e = short_refused rows pending (short_of word) e
  long_refused word rows pending (Some p) e = refl

  flag_refused : (word : Text) (rows : List Row) (pending : Option (Text × List Text)) → is_dashes word ≡ false → is_flag word ≡ true
      → is_empty (word_fault top [] false idle word (held_with rows pending)) ≡ false
  flag_refused word rows pending d e = rw d (long_refused word rows pending (long_of word) e)

  -- ---- a word at each place

  -- what a word that is a value comes to is as if no flag could follow
  as_value : (word : Text) (rows : List Row) (pending : Option (Text × List Text)) (position : ℕ) → is_dashes word ≡ false → is_flag word ≡ false
      → turn_fault top [] (walk_at rows pending position false) word ≡ turn_fault top [] (walk_at rows pending position true) word
  as_value word rows pending position d e =
      let met = plain_met word rows pending position d e in
      let none = plain_faultless word rows pending d e in
      ap₂ (λ (f : Kinds) (m : Held × walk.Step). or_else f (step_fault top position m.0 m.1)) none met

  dashes_fault : (word : Text) (rows : List Row) (pending : Option (Text × List Text)) (position : ℕ) → is_dashes word ≡ true
      → turn_fault top [] (walk_at rows pending position false) word ≡ []
  dashes_fault word rows pending position d = rw d refl

  dashes_walk : (word : Text) (rows : List Row) (pending : Option (Text × List Text)) (position : ℕ) → is_dashes word ≡ true
      → walked rules [] (walk_at rows pending position false) word ≡ walk_at rows pending position true
  unfolding walked
  dashes_walk word rows pending position d = rw d refl

  flag_fault : (word : Text) (rows : List Row) (pending : Option (Text × List Text)) (position : ℕ) → is_dashes word ≡ false → is_flag word ≡ true
      → is_empty (turn_fault top [] (walk_at rows pending position false) word) ≡ false
  flag_fault word rows pending position d e = fails_first _ _ (flag_refused word rows pending d e)

  value_walk : (word : Text) (rows : List Row) (pending : Option (Text × List Text)) (position : ℕ) → is_dashes word ≡ false → is_flag word ≡ false
      → walked rules [] (walk_at rows pending position false) word
      ≡ walk.to_positional rules (walk.arg_by_index rules position) word (walk_at rows pending position false) (held_with rows pending)
  unfolding walked
  value_walk word rows pending position d e =
      ap (λ (m : Held × walk.Step). walk.after_step rules word (walk_at rows pending position false) m.0 m.1) (plain_met word rows pending position d e)

  abbrev one_held : Text → Option (Text × List Text)
  one_held c = Some (codes "command", c ∷ [])

  abbrev two_held : Text → Option (Text × List Text)
  two_held n = Some (codes "number", n ∷ [])

  abbrev before : Bool → Walk
  before = walk_at [] None 1

  abbrev after_one : Bool → Text → Walk
  after_one trailing c = walk_at [] (one_held c) 2 trailing

  abbrev after_two : Bool → Text → Text → Walk
  after_two trailing c n = walk_at (command_row c ∷ []) (two_held n) 3 trailing

  one_taken : (trailing : Bool) (c : Text) → (trailing ≡ false → (is_dashes c ≡ false) × (is_flag c ≡ false)) → walked rules [] (before trailing) c ≡ after_one trailing c
  unfolding walked
  one_taken true c plain = refl
  one_taken false c plain = value_walk c [] None 1 (plain refl).0 (plain refl).1

  two_taken : (trailing : Bool) (c n : Text) → (trailing ≡ false → (is_dashes n ≡ false) × (is_flag n ≡ false)) → walked rules [] (after_one trailing c) n ≡ after_two trailing c n
  unfolding walked
  two_taken true c n plain = refl
  two_taken false c n plain = value_walk n [] (one_held c) 2 (plain refl).0 (plain refl).1

  one_faultless : (c : Text) → turn_fault top [] (before true) c ≡ []
  one_faultless c = refl

  two_fault : (c n : Text) → turn_fault top [] (after_one true c) n ≡ or_else (value_kinds false p c) []
  two_fault c n = refl

  three_refused : (c n word : Text) → is_empty (turn_fault top [] (after_two true c n) word) ≡ false
  three_refused c n word = refl

  -- ---- the rest of the words

  abbrev end_fault : Held → Kinds
  end_fault h = or_else (settle_fault rules false h) (or_else (defaults_fault (settled rules h).rows rules) (check_fault top (finished rules h) false))

  abbrev result : Kinds → Held → Option (List Row)
  result faults h = cond (is_empty (or_else faults (end_fault h))) (Some (finished rules h)) None

  abbrev outcome : Walk → List Text → Option (List Row)
  outcome w words = result (walk_fault top [] w words) (fold (walked rules []) w words).held

  walk_step : (w : Walk) (word : Text) (words : List Text) → walk_fault top [] w (word ∷ words) ≡ or_else (turn_fault top [] w word) (walk_fault top [] (walked rules [] w word) words)
  unfolding walk_fault
  walk_step w word words = refl

  goes_on : (w next : Walk) (word : Text) (words : List Text) → turn_fault top [] w word ≡ [] → walked rules [] w word ≡ next → outcome w (word ∷ words) ≡ outcome next words
  goes_on w next word words fault is =
      ap₂ (λ (k : Kinds) (v : Walk). result k v.held)
      (walk_step w word words ∙ ap (λ t. or_else t (walk_fault top [] (walked rules [] w word) words)) fault ∙ ap (λ v. walk_fault top [] v words) is)
      (ap (λ v. fold (walked rules []) v words) is)

  stops : (w : Walk) (word : Text) (words : List Text) → is_empty (turn_fault top [] w word) ≡ false → outcome w (word ∷ words) ≡ None
  stops w word words fault =
      let walk_fails : is_empty (walk_fault top [] w (word ∷ words)) ≡ false = ap is_empty (walk_step w word words) ∙ fails_first _ _ fault in
      ap (λ b. cond b (Some (finished rules (fold (walked rules []) w (word ∷ words)).held)) None) (fails_first _ _ walk_fails)

  nothing_given : (trailing : Bool) → outcome (before trailing) [] ≡ None
  unfolding walk_fault defaults_fault
  nothing_given trailing = refl

  module _ (ok₁ ok₂ : Text → Bool) (same₁ : (c : Text) → accepts false p c ≡ ok₁ c) (same₂ : (n : Text) → accepts false q n ≡ ok₂ n) where
    one_given : (trailing : Bool) (c : Text) → outcome (after_one trailing c) [] ≡ option_map rows_for (cond (ok₁ c) (Some (c, None)) None)
    unfolding walk_fault defaults_fault
    one_given trailing c = rw (same₁ c) (go (ok₁ c))
      where
        go : (b : Bool) → cond (is_empty (or_else (or_else (cond b [] (refused_kind p ∷ [])) []) [])) (Some (command_row c ∷ [])) None ≡ option_map rows_for (cond b (Some (c, None)) None)
        go true = refl
        go false = refl

    two_given : (trailing : Bool) (c n : Text) → outcome (after_two trailing c n) [] ≡ option_map rows_for (cond (ok₂ n) (Some (c, Some n)) None)
    unfolding walk_fault defaults_fault
    two_given trailing c n = rw (same₂ n) (go (ok₂ n))
      where
        go : (b : Bool) → cond (is_empty (or_else (or_else (cond b [] (refused_kind q ∷ [])) []) [])) (Some (command_row c ∷ number_row n ∷ [])) None ≡ option_map rows_for (cond b (Some (c, Some n)) None)
        go true = refl
        go false = refl

    from_two : (trailing : Bool) (c n : Text) (words : List Text) → outcome (after_two trailing c n) words ≡ option_map rows_for (reads_two ok₁ ok₂ trailing c n words)
    from_two trailing c n [] = two_given trailing c n
    from_two true c n (w ∷ ws) = stops (after_two true c n) w ws (three_refused c n w)
    from_two false c n (w ∷ ws) = by_cases (option_map rows_for) w _ _ _ _
        (λ d. goes_on (after_two false c n) (after_two true c n) w ws (dashes_fault w _ _ 3 d) (dashes_walk w _ _ 3 d) ∙ from_two true c n ws)
        (λ d e. stops (after_two false c n) w ws (flag_fault w _ _ 3 d e))
        (λ d e. stops (after_two false c n) w ws (ap is_empty (as_value w (command_row c ∷ []) (two_held n) 3 d e) ∙ three_refused c n w))

    -- a second word is taken where the first is among the names
    second : (trailing : Bool) (c w : Text) (ws : List Text) → (trailing ≡ false → (is_dashes w ≡ false) × (is_flag w ≡ false))
        → outcome (after_one trailing c) (w ∷ ws) ≡ option_map rows_for (cond (ok₁ c) (reads_two ok₁ ok₂ trailing c w ws) None)
    second trailing c w ws plain = go (ok₁ c) (same₁ c)
      where
        fault : turn_fault top [] (after_one trailing c) w ≡ or_else (value_kinds false p c) []
        fault = elim trailing as (λ t. (t ≡ false → (is_dashes w ≡ false) × (is_flag w ≡ false)) → turn_fault top [] (after_one t c) w ≡ or_else (value_kinds false p c) []) [
          | true ↦ λ plain. two_fault c w
          | false ↦ λ plain. as_value w [] (one_held c) 2 (plain refl).0 (plain refl).1 ∙ two_fault c w
        ] plain

        go : (b : Bool) → accepts false p c ≡ b → outcome (after_one trailing c) (w ∷ ws) ≡ option_map rows_for (cond b (reads_two ok₁ ok₂ trailing c w ws) None)
        go true e = goes_on (after_one trailing c) (after_two trailing c w) w ws (fault ∙ rw e refl) (two_taken trailing c w plain) ∙ from_two trailing c w ws
        go false e = stops (after_one trailing c) w ws (ap is_empty fault ∙ rw e refl)

    from_one : (trailing : Bool) (c : Text) (words : List Text) → outcome (after_one trailing c) words ≡ option_map rows_for (reads_one ok₁ ok₂ trailing c words)
    from_one trailing c [] = one_given trailing c
    from_one true c (w ∷ ws) = second true c w ws (λ e. cc)
    from_one false c (w ∷ ws) = by_cases (option_map rows_for) w _ _ _ _
        (λ d. goes_on (after_one false c) (after_one true c) w ws (dashes_fault w _ _ 2 d) (dashes_walk w _ _ 2 d) ∙ from_one true c ws)
        (λ d e. stops (after_one false c) w ws (flag_fault w _ _ 2 d e))
        (λ d e. second false c w ws (λ _. (d, e)))

    pub from_start : (trailing : Bool) (words : List Text) → outcome (before trailing) words ≡ option_map rows_for (reads ok₁ ok₂ trailing words)
    from_start trailing [] = nothing_given trailing
    from_start true (w ∷ ws) = goes_on (before true) (after_one true w) w ws (one_faultless w) (one_taken true w (λ e. cc)) ∙ from_one true w ws
    from_start false (w ∷ ws) = by_cases (option_map rows_for) w _ _ _ _
        (λ d. goes_on (before false) (before true) w ws (dashes_fault w _ _ 1 d) (dashes_walk w _ _ 1 d) ∙ from_start true ws)
        (λ d e. stops (before false) w ws (flag_fault w _ _ 1 d e))
        (λ d e. goes_on (before false) (after_one false w) w ws (as_value w [] None 1 d e ∙ one_faultless w) (one_taken false w (λ _. (d, e))) ∙ from_one false w ws)
