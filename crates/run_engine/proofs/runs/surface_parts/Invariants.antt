use Rattle.std.proofs.Common.{◌≡◌, ℕ, List, ◌++◌, length, map}
use Rattle.std.specs.List.{AllByRecursion, AllZip}
use Rattle.run_report.specs.Journal.{plain_surface_part}
use Rattle.run_report.specs.Mounts.{Passage}
use Rattle.run_engine.specs.Now.{surface_now}
use Rattle.run_engine.specs.Run.{IsOpen}
use Rattle.run_engine.specs.Ends.{IsAlong, part_along}
use Rattle.run_engine.proofs.runs.surface_parts.Given as goal

abbrev pub invariant-loop-id : goal.invariant-loop-id
invariant-loop-id l =
    (l.fn.desks.entries ≡ l.yielded ++ l.id-iterator)
    × (length l.lists.rest.items ≡ length l.id-iterator)
    × AllByRecursion (λ entry. IsOpen entry.1) l.id-iterator
    × ((along : ℕ → List Passage) → AllZip (IsAlong along) l.fn.desks.entries l.fn.lists.items
    → AllZip (IsAlong along) l.id-iterator l.lists.rest.items
    × (map plain_surface_part l.parts ≡ map (λ surface. part_along (along surface.id) surface) (map surface_now l.yielded)))
