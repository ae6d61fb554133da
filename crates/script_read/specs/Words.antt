-- The words of steps, and the members that a step of each word has.
use Rattle.std.specs.Prelude.{ℕ, List, [], ◌∷◌, codes, cond, bytes_eq, Bool, ◌&&◌, ◌||◌, nat_eq, Option, Some, None}
use Rattle.serde_json.specs.Data.{Data}
use Rattle.script_read.specs.Members.{has_form, natural_at}
use Rattle.script_read.specs.declared.words.Word.{Word}
use Rattle.script_read.specs.declared.words.Word.TheVariants.{Complete, State, Props, Size, Stop, Hold, Mount, Suspend, Resume}

-- a script is of version 2
abbrev pub is_version_two : Data → Bool
is_version_two script = nat_eq (natural_at (codes "version") script) 2

-- the step's word that a text is; version 2 has two words of its own
abbrev pub step_word : (two : Bool) → List ℕ → Option Word
step_word two text =
    cond (bytes_eq text (codes "complete")) (Some Complete)
    (cond (bytes_eq text (codes "state")) (Some State)
    (cond (bytes_eq text (codes "props")) (Some Props)
    (cond (bytes_eq text (codes "size")) (Some Size)
    (cond (bytes_eq text (codes "stop")) (Some Stop)
    (cond (bytes_eq text (codes "hold")) (Some Hold)
    (cond (bytes_eq text (codes "mount")) (Some Mount)
    (cond (two && bytes_eq text (codes "suspend")) (Some Suspend)
    (cond (two && bytes_eq text (codes "resume")) (Some Resume) None))))))))

-- a step has "do" and "on" and some further members, and no others
abbrev pub has_members : List (List ℕ) → Data → Bool
has_members further step = has_form (codes "do" ∷ codes "on" ∷ further) [] step

-- a state step has a tag and one change
abbrev pub has_state_form : Data → Bool
has_state_form step =
    has_members (codes "tag" ∷ codes "set" ∷ []) step || has_members (codes "tag" ∷ codes "add" ∷ []) step || has_members (codes "tag" ∷ codes "set_if" ∷ []) step

-- a step has the members of its word
abbrev pub has_step_form : Word → Data → Bool
has_step_form Complete step = has_members (codes "tree" ∷ []) step
has_step_form State step = has_state_form step
has_step_form Props step = has_members (codes "tag" ∷ codes "props" ∷ []) step
has_step_form Size step = has_members (codes "width" ∷ codes "height" ∷ []) step
has_step_form Stop step = has_members [] step
has_step_form Hold step = has_members [] step
has_step_form Mount step = has_members [] step
has_step_form Suspend step = has_members [] step
has_step_form Resume step = has_members [] step
