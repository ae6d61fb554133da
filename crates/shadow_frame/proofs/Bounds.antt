-- How large a node can be and where it can begin, for callers that have the definitions alone.
use Rattle.std.proofs.Common.{ℤ, pos, negsuc, ◌+ℤ◌, ◌≤ℤ◌, Option, Some, None, unwrap_or, arith}
use Rattle.std.proofs.lemmas.Int.{ints, clamps}
use Rattle.shadow_frame.specs.declared.Axis.{Axis}
use Rattle.shadow_frame.specs.Place.{size_between, axis_size, start_before, axis_start}
use Rattle.shadow_frame.specs.Range.{IsWithin, IsAxisInRange, IsSideInRange}

-- what a start and an end leave of a parent is at most the parent and two million points
size_between-bounds : (start end : Option ℤ) (parent : ℤ) → IsWithin (negsuc 999999) (pos 1000000) start → IsWithin (negsuc 999999) (pos 1000000) end
    → IsSideInRange parent → (pos 0 ≤ℤ size_between start end parent) × (size_between start end parent ≤ℤ (parent +ℤ pos 2000000))
size_between-bounds (Some start) (Some end) parent s e p = (omega (arith, ints, clamps), omega (arith, ints, clamps))
size_between-bounds (Some start) None parent s e p = (omega (arith, ints), omega (arith, ints))
size_between-bounds None end parent s e p = (omega (arith, ints), omega (arith, ints))

-- a given size keeps those bounds
given-bounds : (size : Option ℤ) (between parent : ℤ) → IsWithin (pos 0) (pos 1000000) size → IsSideInRange parent
    → (pos 0 ≤ℤ between) × (between ≤ℤ (parent +ℤ pos 2000000)) → (pos 0 ≤ℤ unwrap_or size between) × (unwrap_or size between ≤ℤ (parent +ℤ pos 2000000))
given-bounds (Some size) between parent w p b = (omega (arith, ints), omega (arith, ints))
given-bounds None between parent w p b = b

-- a node's size is from 0 to its parent's and two million points
pub axis_size-bounds : (axis : Axis) (parent : ℤ) → IsAxisInRange axis → IsSideInRange parent
    → (pos 0 ≤ℤ axis_size axis parent) × (axis_size axis parent ≤ℤ (parent +ℤ pos 2000000))
axis_size-bounds axis parent a p =
    given-bounds axis.size (size_between axis.start axis.end parent) parent a.size_within p (size_between-bounds axis.start axis.end parent a.start_within a.end_within p)

-- where a node begins, by what it names
start-bounds : (start end size : Option ℤ) (parent : ℤ) → IsWithin (negsuc 999999) (pos 1000000) start → IsWithin (negsuc 999999) (pos 1000000) end
    → IsWithin (pos 0) (pos 1000000) size → IsSideInRange parent
    → (negsuc 1999999 ≤ℤ unwrap_or start (start_before end (unwrap_or size (size_between start end parent)) parent))
    × (unwrap_or start (start_before end (unwrap_or size (size_between start end parent)) parent) ≤ℤ (parent +ℤ pos 1000000))
start-bounds (Some start) end size parent s e w p = (omega (arith, ints), omega (arith, ints))
start-bounds None None size parent s e w p = (omega (arith, ints), omega (arith, ints))
start-bounds None (Some end) None parent s e w p = (omega (arith, ints), omega (arith, ints))
start-bounds None (Some end) (Some size) parent s e w p = (omega (arith, ints), omega (arith, ints))

-- a node begins at least two million points before its parent and at most a million after its end
pub axis_start-bounds : (axis : Axis) (parent : ℤ) → IsAxisInRange axis → IsSideInRange parent
    → (negsuc 1999999 ≤ℤ axis_start axis parent) × (axis_start axis parent ≤ℤ (parent +ℤ pos 1000000))
axis_start-bounds axis parent a p = start-bounds axis.start axis.end axis.size parent a.start_within a.end_within a.size_within p
