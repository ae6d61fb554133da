use Rattle.std.proofs.Common.{◌≡◌, ◌++◌}
use Rattle.std.specs.List.{AllZip}
use Rattle.std.specs.Map.{keys_of}
use Rattle.script_read.specs.Plain.{plain_script}
use Rattle.commit_spine.specs.Calls.{IsPassOf}
use Rattle.run_engine.specs.Opening.{AreOpenings}
use Rattle.run_engine.specs.Spines.{kept_at_start}
use Rattle.run_engine.proofs.spines.open_spines.Given as goal

abbrev pub invariant-loop-id : goal.invariant-loop-id
invariant-loop-id l =
    AreOpenings (plain_script l.script).surfaces (l.yielded ++ l.id-iterator.rest.items)
    × (keys_of l.spines.entries ≡ keys_of l.yielded)
    × (keys_of l.passes.entries ≡ keys_of l.yielded)
    × AllZip (λ spine pass. IsPassOf spine.1 pass.1) l.spines.entries l.passes.entries
    × AllZip (λ entry pass. pass.1.kept ≡ kept_at_start (plain_script l.script).actors entry.0 entry.1.newest.size) l.yielded l.passes.entries
