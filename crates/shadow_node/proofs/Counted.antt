-- Counts of made nodes.
use Rattle.std.proofs.Common.{◌≡◌, ℕ, ◌+◌, arith, refl}
use Rattle.counts.specs.Raised.{raised}
use Rattle.native_state.specs.Made.{MadeCounts, nodes_more, one_node_more}

-- no more node leaves the counts
pub nodes_more-zero : (made : MadeCounts) → nodes_more made 0 ≡ made
nodes_more-zero made = let e : raised made.nodes 0 ≡ made.nodes = omega arith in rw e refl

-- the nodes below one, that one, and the later ones
pub nodes_more-step : (made below after whole : MadeCounts) (children siblings all : ℕ) → below ≡ nodes_more made children → after ≡ one_node_more below
    → all ≡ children + siblings + 1 → nodes_more made all ≡ whole → nodes_more after siblings ≡ whole
nodes_more-step made below after whole children siblings all b a n w =
    let e : raised (raised (raised made.nodes children) 1) siblings ≡ raised made.nodes (children + siblings + 1) = omega arith in
    rw (a, b, e, ← n) w
