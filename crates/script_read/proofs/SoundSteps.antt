-- The steps of a script in which nothing is refused are in range.
use Rattle.std.proofs.Common.{◌≡◌, ℕ, List, [], ◌∷◌, arith, refl, ap}
use Rattle.std.specs.Prelude.{ℤ, pos, Bool, true, false, ◌||◌, nat_eq, Option, Some, None, is_some, option_map, unwrap_or, map, codes}
use Rattle.std.specs.List.{list_any}
use Rattle.std.specs.Ordering.{int_eq}
use Rattle.serde_json.specs.Data.{Data}
use Rattle.serde_json.specs.Find.{get}
use Rattle.tree_settle.specs.Limits.{IsSizeInRange}
use Rattle.tree_revision.specs.InRange.{IsActInRange, IsStepInRange}
use Rattle.tree_revision.specs.Sound.{ids_of}
use Rattle.script_read.specs.Members.{natural_of, natural_at, integer_in, integer_at, member_at, items_at}
use Rattle.script_read.specs.Places.{Refusals, first_of, unless, at_member, refused, in_nodes, in_step, nowhere}
use Rattle.script_read.specs.Words.{has_members, has_state_form, has_step_form}
use Rattle.script_read.specs.Shape.{word_in, misshapen_node, misshapen_step, misshapen}
use Rattle.script_read.specs.Faults.{is_from, is_surface, bad_size, bad_step, bad_tag_in}
use Rattle.script_read.specs.Value.{size_of, act_of, step_of, surface_of}
use Rattle.script_read.specs.declared.words.Word.{Word}
use Rattle.script_read.specs.declared.words.Word.TheVariants.{Complete, State, Props, Size, Stop, Hold, Mount, Suspend, Resume}
use Rattle.script_read.proofs.Refusals.{none_first, none_later, none_two, none_mapped, unless_holds, passes_always, step_passes, tree_passes, name_found, form_found}
use Rattle.script_read.proofs.Ranges.{from_range, same_integer}
use Rattle.script_read.proofs.PropRanges.{change_in}
use Rattle.script_read.proofs.SoundNodes.{written_tag, nodes_sound}

-- a size that is not refused is in range
pub size_in : (value : Data) → bad_size value ≡ None → IsSizeInRange (size_of value)
size_in value h =
    let p = none_two (refused (codes "width") (λ width. is_from (pos 0) (pos 1000000) (integer_in width)) value)
    (refused (codes "height") (λ height. is_from (pos 0) (pos 1000000) (integer_in height)) value) h
    in
    let w = from_range (pos 0) (pos 1000000) (integer_at (codes "width") value)
    (passes_always (codes "width") (λ width. is_from (pos 0) (pos 1000000) (integer_in width)) value p.0 refl)
    in
    let t = from_range (pos 0) (pos 1000000) (integer_at (codes "height") value)
    (passes_always (codes "height") (λ height. is_from (pos 0) (pos 1000000) (integer_in height)) value p.1 refl)
    in
    record { width_low = w.0; width_high = w.1; height_low = t.0; height_high = t.1 }

-- a step with a tag
members_tag : (further : List (List ℕ)) (step : Data) → has_members (codes "tag" ∷ further) step ≡ true → is_some (get (codes "tag") step) ≡ true
members_tag further step h =
    let first = name_found (codes "do") (codes "on" ∷ codes "tag" ∷ further) step (form_found (codes "do" ∷ codes "on" ∷ codes "tag" ∷ further) [] step h) in
    let second = name_found (codes "on") (codes "tag" ∷ further) step first.1 in
    (name_found (codes "tag") further step second.1).0

one_of_three : {P : Type 0} (a b c : Bool) → (a || b || c) ≡ true → (a ≡ true → P) → (b ≡ true → P) → (c ≡ true → P) → P
one_of_three true b c h f g k = f refl
one_of_three false true c h f g k = g refl
one_of_three false false c h f g k = k h

state_tag : (step : Data) → has_state_form step ≡ true → is_some (get (codes "tag") step) ≡ true
state_tag step h =
    one_of_three (has_members (codes "tag" ∷ codes "set" ∷ []) step) (has_members (codes "tag" ∷ codes "add" ∷ []) step) (has_members (codes "tag" ∷ codes "set_if" ∷ []) step) h
    (members_tag (codes "set" ∷ []) step) (members_tag (codes "add" ∷ []) step) (members_tag (codes "set_if" ∷ []) step)

-- what a step of a word does
act_in : (two : Bool) (word : Word) (step : Data) → has_step_form word step ≡ true → bad_size step ≡ None → bad_tag_in step ≡ None
    → in_nodes misshapen_node (member_at (codes "tree") step) ≡ None → in_nodes bad_tag_in (member_at (codes "tree") step) ≡ None → IsActInRange (act_of two word step)
act_in two Complete step f s t m b = nodes_sound two (member_at (codes "tree") step) m b
act_in two State step f s t m b = written_tag step t (state_tag step f)
act_in two Props step f s t m b = (written_tag step t (members_tag (codes "props" ∷ []) step f), change_in two (member_at (codes "props") step))
act_in two Size step f s t m b = size_in step s
act_in two Stop step f s t m b = tt
act_in two Hold step f s t m b = tt
act_in two Mount step f s t m b = tt
act_in two Suspend step f s t m b = tt
act_in two Resume step f s t m b = tt

known_act : (two : Bool) (word : Option Word) (step : Data) → unwrap_or (option_map (λ known. has_step_form known step) word) false ≡ true → bad_size step ≡ None
    → bad_tag_in step ≡ None → in_nodes misshapen_node (member_at (codes "tree") step) ≡ None → in_nodes bad_tag_in (member_at (codes "tree") step) ≡ None
    → IsActInRange (act_of two (unwrap_or word Hold) step)
known_act two None step f s t m b = cc
known_act two (Some word) step f s t m b = act_in two word step f s t m b

-- the third of some places is none
third_none : {A : Type 0} (first second third : Option A) (others : List (Option A)) → first_of (first ∷ second ∷ third ∷ others) ≡ None → third ≡ None
third_none first second third others h = none_first third others (none_later second (third ∷ others) (none_later first (second ∷ third ∷ others) h))

step_form : (two : Bool) (step : Data) → misshapen_step two step ≡ None → unwrap_or (option_map (λ word. has_step_form word step) (word_in two step)) false ≡ true
step_form two step h = unless_holds (unwrap_or (option_map (λ word. has_step_form word step) (word_in two step)) false) (third_none _ _ _ _ h)

first_is : (a b : Bool) → a ≡ true → (a || b) ≡ true
first_is true b h = refl
first_is false b h = cc

other_is : (a b : Bool) → b ≡ true → (a || b) ≡ true
other_is true b h = refl
other_is false b h = h

same_nat : (n m : ℕ) → n ≡ m → nat_eq n m ≡ true
same_nat n m h = grind (arith, h)

-- an id that one of some surfaces has is one of their ids
known_id : (id : ℤ) (surfaces : List Data) → is_surface surfaces id ≡ true → list_any (λ known. nat_eq known (natural_of id)) (ids_of (map surface_of surfaces)) ≡ true
known_id id [] h = cc
known_id id (surface ∷ surfaces) h =
    elim (int_eq (integer_at (codes "id") surface) id) as (λ same. (int_eq (integer_at (codes "id") surface) id ≡ same) → (same || is_surface surfaces id) ≡ true
    → (nat_eq (natural_at (codes "id") surface) (natural_of id) || list_any (λ known. nat_eq known (natural_of id)) (ids_of (map surface_of surfaces))) ≡ true) [
      | true ↦ λ e p.
          let s : natural_at (codes "id") surface ≡ natural_of id = ap natural_of (same_integer (integer_at (codes "id") surface) id e) in
          first_is (nat_eq (natural_at (codes "id") surface) (natural_of id)) _ (same_nat (natural_at (codes "id") surface) (natural_of id) s)
      | false ↦ λ e p. other_is (nat_eq (natural_at (codes "id") surface) (natural_of id)) _ (known_id id surfaces p)
    ] refl h

-- a step that is not refused is in range
pub step_in : (two : Bool) (script step : Data) → in_step (misshapen two) step ≡ None
    → in_step (record { of_actor = nowhere; of_step = bad_step script; of_node = nowhere }) step ≡ None
    → in_step (record { of_actor = nowhere; of_step = bad_tag_in; of_node = bad_tag_in }) step ≡ None
    → IsStepInRange (ids_of (map surface_of (items_at (codes "surfaces") script))) (step_of two step)
step_in two script step m p t =
    let places : Refusals = record { of_actor = nowhere; of_step = bad_step script; of_node = nowhere } in
    let tags : Refusals = record { of_actor = nowhere; of_step = bad_tag_in; of_node = bad_tag_in } in
    let q = none_two (at_member (codes "on") (unless (is_surface (items_at (codes "surfaces") script) (integer_at (codes "on") step)))) (bad_size step) (step_passes places step p) in
    record {
      surface =
          known_id (integer_at (codes "on") step) (items_at (codes "surfaces") script)
          (unless_holds (is_surface (items_at (codes "surfaces") script) (integer_at (codes "on") step))
          (none_mapped _ (unless (is_surface (items_at (codes "surfaces") script) (integer_at (codes "on") step))) q.0));
      act =
          known_act two (word_in two step) step (step_form two step (step_passes (misshapen two) step m)) q.1 (step_passes tags step t)
          (tree_passes (misshapen two) step m) (tree_passes tags step t);
    }
