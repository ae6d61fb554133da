-- The script that bytes are, or the fault of the smallest number that they have.
use Rattle.std.specs.Prelude.{◌≡◌, ℕ, List, [], ◌∷◌, codes, length, nat_lt, if◌then◌else◌, Option, Some, None, option_map, unwrap_or, Result, Ok, Err}
use Rattle.std.specs.Str.{is_utf8}
use Rattle.serde_json.specs.Data.{Data, null}
use Rattle.serde_json.specs.Read.{read}
use Rattle.tree_revision.specs.Script.{PlainScript}
use Rattle.script_read.specs.Places.{Pointer, first_of}
use Rattle.script_read.specs.Shape.{misshapen_script}
use Rattle.script_read.specs.Faults.{is_known_version, too_many, bad_name, bad_surface, bad_kind, bad_prop, bad_tag, two_mounters, bad_turn}
use Rattle.script_read.specs.Value.{script_of}
use Rattle.script_read.specs.Plain.{plain_script}
use Rattle.script_read.specs.declared.script.Script.{Script}
use Rattle.script_read.specs.declared.script.Place.{Place}
use Rattle.script_read.specs.declared.script.ScriptFault.{ScriptFault}
use Rattle.script_read.specs.declared.script.ScriptFault.TheVariants.{TooLong, NotJson, Shape, Version, TooMany, BadName, BadSurface, BadKind, BadProp, BadTag, TwoMounters, BadTurn}
use Rattle.script_read.specs.declared.script.ScriptRefusal.{ScriptRefusal}
use Rattle.script_read.specs.declared.script.ScriptRefusal.TheVariants.{Fault, Memory}

-- the place of a pointer from the whole script, whose own place is "/"
abbrev pub pointer_place : Pointer → Place
pointer_place [] = record { text = codes "/" }
pointer_place (byte ∷ bytes) = record { text = byte ∷ bytes }

-- a fault at a place, where there is one
abbrev pub with_place : (Place → ScriptFault) → Option Pointer → Option ScriptFault
with_place fault pointer = option_map (λ found. fault (pointer_place found)) pointer

-- the fault of a JSON value with the smallest number
abbrev pub fault_of : Data → Option ScriptFault
fault_of script = first_of (
    with_place Shape (misshapen_script script) ∷
    (if is_known_version script then None else Some Version) ∷
    with_place TooMany (too_many script) ∷
    with_place BadName (bad_name script) ∷
    with_place BadSurface (bad_surface script) ∷
    with_place BadKind (bad_kind script) ∷
    with_place BadProp (bad_prop script) ∷
    with_place BadTag (bad_tag script) ∷
    option_map TwoMounters (two_mounters script) ∷
    option_map BadTurn (bad_turn script) ∷
    []
    )

-- the JSON value that bytes are
abbrev pub json_in : List ℕ → Option Data
json_in bytes = if is_utf8 bytes then read bytes else None

-- the fault of a JSON value, if there is one
abbrev pub fault_at : Option Data → Option ScriptFault
fault_at None = Some NotJson
fault_at (Some value) = fault_of value

-- the fault of bytes with the smallest number
abbrev pub first_fault : List ℕ → Option ScriptFault
first_fault bytes = if nat_lt 4194304 (length bytes) then Some TooLong else fault_at (json_in bytes)

-- a script, unless there is a fault
abbrev pub script_unless : Option ScriptFault → PlainScript → Result PlainScript ScriptFault
script_unless None script = Ok script
script_unless (Some fault) script = Err fault

-- the script that bytes are, or else their first fault
abbrev pub script_in : List ℕ → Result PlainScript ScriptFault
script_in bytes = script_unless (first_fault bytes) (script_of (unwrap_or (json_in bytes) null))

-- what was answered is the script or the fault that there is; want of memory is free
abbrev pub ReadsScript : Result PlainScript ScriptFault → Result Script ScriptRefusal → Type 0
ReadsScript wanted (Ok script) = wanted ≡ Ok (plain_script script)
ReadsScript wanted (Err (Fault fault)) = wanted ≡ Err fault
ReadsScript wanted (Err Memory) = Unit {0}
