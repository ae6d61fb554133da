-- The tests of members, and the faults that are looked for in all actors, steps and nodes of a script.
use Rattle.std.specs.Prelude.{pos, Bool, is_some}
use Rattle.serde_json.specs.Data.{Data}
use Rattle.shadow_kinds.specs.Words.{kind_of_word}
use Rattle.script_read.specs.Members.{integer_in, text_in}
use Rattle.script_read.specs.Places.{Refusals, nowhere}
use Rattle.script_read.specs.Words.{is_version_two}
use Rattle.script_read.specs.Shape.{is_integer, is_text, is_array, is_object, misshapen}
use Rattle.script_read.specs.Faults.{is_from, is_tag, label_of, bad_step, no_kind, bad_props_in, bad_tag_in}
use Rattle.script_read.specs.declared.places.Test.{Test}
use Rattle.script_read.specs.declared.places.Test.TheVariants.{Integer, Text, Array, Object, Length, Kind, Tag, Label}
use Rattle.script_read.specs.declared.walk.Check.{Check}
use Rattle.script_read.specs.declared.walk.Check.TheVariants.{Form, Surfaces, Kinds, Props, Tags}

-- a value passes a test
abbrev pub passes : Test → Data → Bool
passes Integer value = is_integer value
passes Text value = is_text value
passes Array value = is_array value
passes Object value = is_object value
passes Length value = is_from (pos 0) (pos 1000000) (integer_in value)
passes Kind value = is_some (kind_of_word (text_in value))
passes Tag value = is_tag value
passes Label value = is_some (label_of value)

-- what each check refuses in the script at hand
abbrev pub refusals_of : Check → Data → Refusals
refusals_of Form script = misshapen (is_version_two script)
refusals_of Surfaces script = record { of_actor = nowhere; of_step = bad_step script; of_node = nowhere }
refusals_of Kinds script = record { of_actor = nowhere; of_step = nowhere; of_node = no_kind }
refusals_of Props script = record { of_actor = nowhere; of_step = bad_props_in (is_version_two script); of_node = bad_props_in (is_version_two script) }
refusals_of Tags script = record { of_actor = nowhere; of_step = bad_tag_in; of_node = bad_tag_in }
