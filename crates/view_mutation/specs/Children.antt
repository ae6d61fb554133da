-- The children of each host parent, from host parents with tags, and the removes and inserts by what is known of them.
use Rattle.std.specs.Prelude.{ℕ, ◌≤◌, List, length, drop, map}
use Rattle.host_views.specs.Plain.{PlainMutation}
use Rattle.view_mutation.specs.Mutations.{common_prefix, removes_from, inserts_from}
use Rattle.view_mutation.specs.Pairs.{pairs_at}

-- the tags of pairs of a host parent and a tag
abbrev pub tags_in : List (ℕ × ℕ) → List ℕ
tags_in pairs = map (λ pair. pair.1) pairs

-- the children of a host parent, by such pairs
abbrev pub children_by : List (ℕ × ℕ) → ℕ → List ℕ
children_by pairs parent = tags_in (pairs_at pairs parent)

-- a host parent has at most 2,000 children
abbrev pub HaveFewChildren : (ℕ → List ℕ) → Type 0
HaveFewChildren children = (parent : ℕ) → length (children parent) ≤ 2000

-- how many children of a host parent stay, by what is known of both trees
abbrev pub stay_by : (old new : ℕ → List ℕ) → ℕ → ℕ
stay_by old new parent = common_prefix (old parent) (new parent)

-- the removes at a host parent: its old children after those that stay
abbrev pub removes_by : (old new : ℕ → List ℕ) → ℕ → List PlainMutation
removes_by old new parent = removes_from parent (stay_by old new parent) (drop (stay_by old new parent) (old parent))

-- the inserts at a host parent: its new children after those that stay
abbrev pub inserts_by : (old new : ℕ → List ℕ) → ℕ → List PlainMutation
inserts_by old new parent = inserts_from parent (stay_by old new parent) (drop (stay_by old new parent) (new parent))
