use Rattle.std.proofs.Common.{arith}
use Rattle.serde_json.specs.View.{view}
use Rattle.script_read.proofs.Scripts.{value_in, no_value_in}
use Rattle.script_read.proofs.read.read_script.Goals as goal

pub returns-in-Ok : goal.returns-in-Ok
returns-in-Ok c = record {
  read =
      rw (value_in c.args.bytes.now (view c.in-Ok.script) (omega (arith, c.if-bytes-gt-MAX_BYTES.false)) c.in-Ok.ensures.ok.0 c.in-Ok.ensures.ok.1)
      c.read_value.ensures.read;
  sound = c.read_value.ensures.sound;
  counts = c.read_value.ensures.counts;
}

pub returns-else-is_memory : goal.returns-else-is_memory
returns-else-is_memory c = record {
  read =
      no_value_in c.args.bytes.now (omega (arith, c.if-bytes-gt-MAX_BYTES.false))
      (c.in-Err.ensures.err (λ m. let x = c.is_memory.ensures.1 m in cc));
  sound = tt;
  counts = tt;
}
