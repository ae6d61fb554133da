use Rattle.std.proofs.Common.{arith, ap, length}
use Rattle.std.proofs.lemmas.Str.{is_utf8-from_IsUtf8}
use Rattle.prop_table.proofs.label.Label.make.Goals as goal

pub copied-requires : goal.copied-requires
copied-requires c = record {
  short = omega (arith, ap length c.as_bytes.ensures.value);
  utf8 = rw c.as_bytes.ensures.value (is_utf8-from_IsUtf8 c.args.text.now c.utf8.text);
}
