use Rattle.std.proofs.Common.{◌≡◌, ℕ, ◌++◌, length, drop, slice_get}
use Rattle.std.specs.Prelude.{Some}
use Rattle.run_report.specs.declared.journal.SurfacePart.{SurfacePart}
use Rattle.run_engine.proofs.SpinesClosed.{EndsAt}
use Rattle.run_engine.proofs.spines.close_spines.Given as goal

abbrev pub invariant-loop-id : goal.invariant-loop-id
invariant-loop-id l =
    (l.fn.spines.entries ≡ l.yielded ++ l.id-iterator)
    × ((length l.passes ≡ length l.id-iterator) × (l.passes ≡ drop (length l.yielded) l.fn.passes.entries))
    × ((length l.coordinators.rest.items ≡ length l.id-iterator) × (l.coordinators.rest.items ≡ drop (length l.yielded) l.fn.coordinators.items))
    × ((length l.lists.rest.items ≡ length l.id-iterator) × (l.lists.rest.items ≡ drop (length l.yielded) l.fn.lists.items))
    × (length l.parts ≡ length l.yielded)
    × ((place : ℕ) (part : SurfacePart) → slice_get l.parts place ≡ Some part → EndsAt l.fn.spines.entries l.fn.passes.entries l.fn.coordinators.items l.fn.lists.items place part)
