-- The scripts that are made from a number.
use Rattle.std.specs.Prelude.{◌≡◌, ℕ, zero, suc, ◌+◌, ◌*◌, ◌%◌, ℤ, pos, ◌-ℤ◌, List, [], ◌∷◌, ◌++◌, map, fold, slice_set, codes, nat_eq, if◌then◌else◌, Some, None, replicate}
use Rattle.std.specs.List.{range_with_len}
use Rattle.native_state.specs.declared.StateChange.TheVariants.{Add}
use Rattle.prop_table.specs.Props.{PropList}
use Rattle.prop_table.specs.Table.{v2_rules, start_of}
use Rattle.prop_table.specs.declared.rows.TheConstants.{LEFT, TOP, RIGHT, BOTTOM, WIDTH, HEIGHT, BACKGROUND}
use Rattle.shadow_kinds.specs.declared.Kind.{Kind}
use Rattle.shadow_kinds.specs.declared.Kind.TheVariants.{View, Text, Image, Scroll}
use Rattle.shadow_node.specs.Fields.{NodeFields}
use Rattle.tree_build.specs.Script.{ScriptForest, no_more, written, kept, kept_with, chained}
use Rattle.tree_revision.specs.Records.{PlainOp, complete, state, props, resize}
use Rattle.tree_revision.specs.Script.{PlainStep, PlainActor, PlainSurface, PlainScript, commit, mount}

-- the number after another in the chain that draws come from; a draw below k is what the next number leaves over by k
abbrev pub next_number : ℕ → ℕ
next_number x = x * 48271 % 2147483647

-- what is made from a number of the chain, and the number from which the chain goes on
pub record Drawn (A : Type 0) : Type 0 where
  pub made : A
  pub number : ℕ

-- something is what was made, and a number that from which the chain goes on
pub record IsDrawn {A : Type 0} (drawn : Drawn A) (thing : A) (x : ℕ) : Type 0 where
  pub made : thing ≡ drawn.made
  pub number : x ≡ drawn.number

-- a draw below k
abbrev pub drawn_below : ℕ → ℕ → Drawn ℕ
drawn_below k x = record { made = next_number x % k; number = next_number x }

-- one more, made from the number from which the chain goes on after those before
abbrev pub one_more : {A : Type 0} → (ℕ → Drawn A) → Drawn (List A) → Drawn (List A)
one_more make before = record { made = before.made ++ (make before.number).made ∷ []; number = (make before.number).number }

-- that many, each made after those before
unfoldable pub drawn_list : {A : Type 0} → (ℕ → Drawn A) → ℕ → ℕ → Drawn (List A)
drawn_list make zero x = record { made = []; number = x }
drawn_list make (suc count) x = one_more make (drawn_list make count x)

-- what is made of each number below a count, in order
unfoldable pub for_each_below : {A : Type 0} → ℕ → (ℕ → A) → List A
for_each_below count make = map make (range_with_len 0 count)

-- props with these numbers in these rows, and each other row at its start
abbrev pub starts_but : List (ℕ × ℤ) → PropList
starts_but rows = fold (λ props row. slice_set props row.0 (Some row.1)) (start_of v2_rules) rows

-- a node of that tag and kind without a label, with these numbers in these rows
abbrev pub plain_fields : ℕ → Kind → List (ℕ × ℤ) → NodeFields
plain_fields tag kind rows = record { tag = tag; kind = kind; props = starts_but rows; label = [] }

-- an image and a text side by side, the children of view number i
abbrev pub image_and_text : ℕ → ScriptForest
image_and_text i =
    written (plain_fields (1000 + i) Image ((LEFT, pos 4) ∷ (TOP, pos 4) ∷ (WIDTH, pos 32) ∷ (HEIGHT, pos 32) ∷ [])) no_more
    (written (plain_fields (2000 + i) Text ((LEFT, pos 40) ∷ (TOP, pos 10) ∷ (RIGHT, pos 4) ∷ (HEIGHT, pos 20) ∷ [])) no_more no_more)

-- view number i, in front of its later siblings
abbrev pub view_before : ℕ → ScriptForest → ScriptForest
view_before i siblings =
    written (plain_fields (100 + i) View ((LEFT, pos 0) ∷ (TOP, pos (40 * i)) ∷ (RIGHT, pos 0) ∷ (HEIGHT, pos 40) ∷ [])) (image_and_text i) siblings

-- a list that scrolls, with 200 views one below the other
abbrev pub first_tree : ScriptForest
first_tree =
    written (plain_fields 2 Scroll ((LEFT, pos 0) ∷ (TOP, pos 0) ∷ (RIGHT, pos 0) ∷ (BOTTOM, pos 0) ∷ [])) (chained (for_each_below 200 view_before)) no_more

-- the list as it was, with its views in a round that begins at view number k
abbrev pub turned_tree : ℕ → ScriptForest
turned_tree k = kept_with 2 None (chained (for_each_below 200 (λ i. kept (100 + (k + i) % 200) None))) no_more

-- a step that commits
abbrev pub commit_on : ℕ → PlainOp → PlainStep
commit_on surface op = record { surface = surface; act = commit op }

-- the background of one of the views is changed; the view is drawn first
abbrev pub colored : ℕ → ℕ → Drawn PlainStep
colored surface x = record {
  made = commit_on surface
      (props (100 + next_number x % 200)
      (record { rows = slice_set (replicate 22 None) BACKGROUND (Some (Some (pos (next_number (next_number x) % 16 * 268435456)))); label = None }));
  number = next_number (next_number x);
}

-- the views are turned round, from a view that is drawn
abbrev pub turned : ℕ → ℕ → Drawn PlainStep
turned surface x = record { made = commit_on surface (complete (turned_tree (next_number x % 200))); number = next_number x }

-- the surface gets another size; the width is drawn first
abbrev pub resized : ℕ → ℕ → Drawn PlainStep
resized surface x = record {
  made = commit_on surface
      (resize (record { width = pos (300 + next_number x % 200); height = pos (300 + next_number (next_number x) % 200) }));
  number = next_number (next_number x);
}

-- one of these three, which is drawn
abbrev pub later_step : ℕ → ℕ → Drawn PlainStep
later_step surface x =
    if nat_eq (next_number x % 3) 0 then colored surface (next_number x)
    else (if nat_eq (next_number x % 3) 1 then turned surface (next_number x) else resized surface (next_number x))

-- the list is scrolled by -10 to 10 points
abbrev pub scroll_step : ℕ → ℕ → Drawn PlainStep
scroll_step surface x = record {
  made = commit_on surface (state 2 (Add (record { x = pos 0; y = pos (next_number x % 21) -ℤ pos 10 })));
  number = next_number x;
}

-- a mount; the two surfaces take turns
abbrev pub mount_step : ℕ → PlainStep
mount_step i = record { surface = 1 + i % 2; act = mount }

-- the steps of an actor that completes the first tree and goes on with that many later steps
abbrev pub tree_steps : ℕ → ℕ → ℕ → Drawn (List PlainStep)
tree_steps surface count x = record {
  made = commit_on surface (complete first_tree) ∷ (drawn_list (later_step surface) count x).made;
  number = (drawn_list (later_step surface) count x).number;
}

-- the steps of an actor that scrolls a hundred times
abbrev pub scroll_steps : ℕ → ℕ → Drawn (List PlainStep)
scroll_steps surface x = drawn_list (scroll_step surface) 100 x

-- five actors of 100 steps: two with trees, two that scroll, and one that mounts
abbrev pub made_actors : ℕ → Drawn (List PlainActor)
made_actors x =
    let js1 = tree_steps 1 99 x in
    let js2 = tree_steps 2 99 js1.number in
    let st1 = scroll_steps 1 js2.number in
    let st2 = scroll_steps 2 st1.number in
    record {
      made = record { name = codes "js1"; steps = js1.made } ∷
          record { name = codes "js2"; steps = js2.made } ∷
          record { name = codes "st1"; steps = st1.made } ∷
          record { name = codes "st2"; steps = st2.made } ∷
          record { name = codes "ui"; steps = for_each_below 100 mount_step } ∷
          [];
      number = st2.number;
    }

-- two surfaces
abbrev pub made_surfaces : List PlainSurface
made_surfaces =
    record { id = 1; size = record { width = pos 320; height = pos 480 } } ∷ record { id = 2; size = record { width = pos 480; height = pos 320 } } ∷ []

-- the script of a number: the chain begins after it, and what is drawn is drawn in the order of the script's parts
abbrev pub made_script : ℕ → PlainScript
made_script number =
    let actors = made_actors (number + 1) in
    record {
      version = 1;
      surfaces = made_surfaces;
      actors = actors.made;
      turns = (drawn_list (drawn_below 5) 2000 actors.number).made;
    }
