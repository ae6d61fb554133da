-- Counts of what was made.
use Rattle.std.specs.Prelude.{◌≡◌, ◌≤◌, ℕ, ◌+◌}
use Rattle.counts.specs.Raised.{raised}

-- the nodes, and the families in new pages
pub record MadeCounts : Type 0 where
  pub nodes : ℕ
  pub families : ℕ

-- the counts before anything is made
abbrev pub nothing_made : MadeCounts
nothing_made = record { nodes = 0; families = 0 }

-- the counts after that many more nodes
abbrev pub nodes_more : MadeCounts → ℕ → MadeCounts
nodes_more made by = record { nodes = raised made.nodes by; families = made.families }

-- the counts after one more node
abbrev pub one_node_more : MadeCounts → MadeCounts
one_node_more made = nodes_more made 1

-- the counts after that many more families in new pages
abbrev pub families_more : MadeCounts → ℕ → MadeCounts
families_more made by = record { nodes = made.nodes; families = raised made.families by }

-- what stands whatever the answer: no node is made, and at most that many families
pub record FamiliesWithin (before after : MadeCounts) (most : ℕ) : Type 0 where
  pub nodes : after.nodes ≡ before.nodes
  pub never_falls : before.families ≤ after.families
  pub at_most : after.families ≤ before.families + most
