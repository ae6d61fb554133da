-- The frames that are read off the mutations between two host trees are those that differ.
use Rattle.std.proofs.Common.{◌≡◌, ℕ, List, [], ◌∷◌, ◌++◌, ◌<◌, ◌≤◌, ◌+◌, length, take, get_or, map, Bool, true, false, not, append-nil, add-one, refl, ap, sym, ◌∙◌}
use Rattle.std.specs.Prelude.{Option, Some, None, filter, drop, ◌&&◌}
use Rattle.std.specs.List.{flat_map, cons_option}
use Rattle.std.specs.Option.{option_map}
use Rattle.std.proofs.lemmas.List.{map-append, take_all}
use Rattle.std.proofs.lemmas.List.Elements.{filter_map-append}
use Rattle.std.proofs.Math.Seq.{take-suc}
use Rattle.host_views.specs.declared.HostView.{HostView}
use Rattle.host_views.specs.declared.Mutation.{Mutation}
use Rattle.host_views.specs.HostTree.{IsHostTree, has_tag}
use Rattle.host_views.specs.Plain.{PlainPlacedView, PlainHostTree, PlainMutation, create, delete, update, remove, children_at, plain_mutation}
use Rattle.host_views.specs.Registry.{PlainRegistry, registry_of}
use Rattle.shadow_frame.specs.Same.{is_same_frame}
use Rattle.view_mutation.specs.Mutations.{removes_from, inserts_from, removes_at, inserts_at, staying, view_at, is_other_view, mutations_between}
use Rattle.view_mutation.specs.Shorthands.{host_parents, deletes, creates, updates}
use Rattle.view_mutation.proofs.Shows.{shown_of}
use Rattle.view_mutation.proofs.Whole.{tree_shows}
use Rattle.frame_watch.specs.declared.FrameChange.{FrameChange}
use Rattle.frame_watch.specs.Frames.{frame_at, is_other_frame, frames_changed}
use Rattle.frame_watch.specs.Mounts.{IsMount}
use Rattle.frame_watch.specs.Reading.{view_in, frame_by, frames_by}

-- removes of a parent's children change no frame
removes_silent : (registry : PlainRegistry) (parent index : ℕ) (tags : List ℕ) → frames_by registry (removes_from parent index tags) ≡ []
removes_silent registry parent index [] = refl
removes_silent registry parent index (tag ∷ tags) =
    filter_map-append (frame_by registry) (removes_from parent (index + 1) tags) (remove parent tag index ∷ [])
    ∙ ap (λ changes. changes ++ []) (removes_silent registry parent (index + 1) tags)

-- nor do inserts
inserts_silent : (registry : PlainRegistry) (parent index : ℕ) (tags : List ℕ) → frames_by registry (inserts_from parent index tags) ≡ []
inserts_silent registry parent index [] = refl
inserts_silent registry parent index (tag ∷ tags) = inserts_silent registry parent (index + 1) tags

-- what changes no frame at each of some parents changes none at all of them
each_silent : (registry : PlainRegistry) (at : ℕ → List PlainMutation) → ((parent : ℕ) → frames_by registry (at parent) ≡ [])
    → (parents : List ℕ) → frames_by registry (flat_map at parents) ≡ []
each_silent registry at none [] = refl
each_silent registry at none (parent ∷ parents) =
    filter_map-append (frame_by registry) (at parent) (flat_map at parents)
    ∙ ap (λ changes. changes ++ frames_by registry (flat_map at parents)) (none parent)
    ∙ each_silent registry at none parents

-- nor do deletes
deletes_silent : (registry : PlainRegistry) (test : PlainPlacedView → Bool) (tree : PlainHostTree)
    → frames_by registry (map (λ placed. delete placed.tag) (filter test tree)) ≡ []
deletes_silent registry test [] = refl
deletes_silent registry test (placed ∷ tree) = by (test placed) refl (deletes_silent registry test tree)
  where
    by : (b : Bool) → test placed ≡ b → frames_by registry (map (λ placed. delete placed.tag) (filter test tree)) ≡ []
        → frames_by registry (map (λ placed. delete placed.tag) (filter test (placed ∷ tree))) ≡ []
    by true e rest = rw e rest
    by false e rest = rw e rest

-- each create is a change
creates_read : (registry : PlainRegistry) (tree : PlainHostTree)
    → frames_by registry (map (λ placed. create placed.tag placed.view) tree) ≡ map frame_at tree
creates_read registry [] = refl
creates_read registry (placed ∷ tree) = ap (λ changes. frame_at placed ∷ changes) (creates_read registry tree)

-- where all is the same, so is the last part
last_differs : (others last : Bool) → not (others && last) ≡ false → not last ≡ false
last_differs true true e = refl
last_differs true false e = e
last_differs false last e = absurd cc

-- a view with another frame is another view
other_by_frame : (was : Option HostView) (view : HostView) → is_other_view was view ≡ false → is_other_frame was view.frame ≡ false
other_by_frame None view e = refl
other_by_frame (Some was) view e = last_differs _ (is_same_frame was.frame view.frame) e

-- each update to another frame is a change, and no other one
updates_read : (registry : PlainRegistry) (known : ℕ → Option HostView) → ((tag : ℕ) → view_in registry tag ≡ known tag) → (tree : PlainHostTree)
    → frames_by registry (map (λ placed. update placed.tag placed.view) (filter (λ placed. is_other_view (known placed.tag) placed.view) tree))
    ≡ map frame_at (filter (λ placed. is_other_frame (known placed.tag) placed.view.frame) tree)
updates_read registry known same [] = refl
updates_read registry known same (placed ∷ tree) =
    by (is_other_view (known placed.tag) placed.view) (is_other_frame (known placed.tag) placed.view.frame) refl refl (updates_read registry known same tree)
  where
    by : (v f : Bool) → is_other_view (known placed.tag) placed.view ≡ v → is_other_frame (known placed.tag) placed.view.frame ≡ f
        → frames_by registry (map (λ placed. update placed.tag placed.view) (filter (λ placed. is_other_view (known placed.tag) placed.view) tree))
        ≡ map frame_at (filter (λ placed. is_other_frame (known placed.tag) placed.view.frame) tree)
        → frames_by registry (map (λ placed. update placed.tag placed.view) (filter (λ placed. is_other_view (known placed.tag) placed.view) (placed ∷ tree)))
        ≡ map frame_at (filter (λ placed. is_other_frame (known placed.tag) placed.view.frame) (placed ∷ tree))
    by true true e g rest = rw (e, g, same placed.tag, g) (ap (λ changes. frame_at placed ∷ changes) rest)
    by true false e g rest = rw (e, g, same placed.tag, g) rest
    by false true e g rest = absurd (cc (other_by_frame (known placed.tag) placed.view e))
    by false false e g rest = rw (e, g) rest

-- the registry of a host tree has its views
views_known : (tree : PlainHostTree) → IsHostTree tree → (tag : ℕ) → view_in (registry_of tree) tag ≡ view_at tree tag
views_known tree h tag = ap (option_map (λ shown. shown.view)) ((tree_shows tree h).shown tag) ∙ seen (view_at tree tag) (children_at tree tag)
  where
    seen : (view : Option HostView) (children : List ℕ) → option_map (λ shown. shown.view) (shown_of view children) ≡ view
    seen None children = refl
    seen (Some view) children = refl

-- two parts that were read
read_both : (registry : PlainRegistry) (xs ys : List PlainMutation) (here there : List FrameChange)
    → frames_by registry xs ≡ here → frames_by registry ys ≡ there → frames_by registry (xs ++ ys) ≡ here ++ there
read_both registry xs ys here there e f = filter_map-append (frame_by registry) xs ys ∙ (λ i. e i ++ f i)

-- what is read off the mutations from one host tree to another
frames_read : (old new : PlainHostTree) → IsHostTree old → frames_by (registry_of old) (mutations_between old new) ≡ frames_changed old new
frames_read old new h =
    let registry = registry_of old in
    let gone = flat_map (removes_at old new) (host_parents old) in
    let come = flat_map (inserts_at old new) (host_parents new) in
    let created = map frame_at (filter (λ placed. not (has_tag old placed.tag)) new) in
    let moved = map frame_at (filter (λ placed. is_other_frame (view_at old placed.tag) placed.view.frame) new) in
    let removed = each_silent registry (removes_at old new) (λ parent. removes_silent registry parent (staying old new parent) (drop (staying old new parent) (children_at old parent))) (host_parents old) in
    let inserted = each_silent registry (inserts_at old new) (λ parent. inserts_silent registry parent (staying old new parent) (drop (staying old new parent) (children_at new parent))) (host_parents new) in
    let to_deletes = read_both registry gone (deletes old new) [] [] removed (deletes_silent registry (λ placed. not (has_tag new placed.tag)) old) in
    let to_creates = read_both registry (gone ++ deletes old new) (creates old new) [] created to_deletes (creates_read registry (filter (λ placed. not (has_tag old placed.tag)) new)) in
    let to_updates = read_both registry (gone ++ deletes old new ++ creates old new) (updates old new) created moved to_creates (updates_read registry (view_at old) (views_known old h) new) in
    read_both registry (gone ++ deletes old new ++ creates old new ++ updates old new) come (created ++ moved) [] to_updates inserted ∙ append-nil (created ++ moved)

-- what is read off the mutations of a mount
mount_read : (registry : PlainRegistry) (list : List PlainMutation) (old new : PlainHostTree) → IsMount registry list old new
    → frames_by registry list ≡ frames_changed old new
mount_read registry list old new mount = (λ i. frames_by (mount.stands i) (mount.leads i)) ∙ frames_read old new mount.old_tree

-- what is read off the first mutations
abbrev pub read_upto : PlainRegistry → List Mutation → ℕ → List FrameChange
read_upto registry list i = frames_by registry (map plain_mutation (take i list))

-- and off one more
more_read : (registry : PlainRegistry) (list : List Mutation) (i : ℕ) (mutation : Mutation) → i < length list
    → read_upto registry list (i + 1)
    ≡ read_upto registry list i ++ cons_option (frame_by registry (plain_mutation (get_or list i mutation))) []
more_read registry list i mutation below =
    ap (λ taken. frames_by registry (map plain_mutation taken)) (ap (λ n. take n list) (add-one i) ∙ take-suc list i mutation below)
    ∙ ap (frames_by registry) (map-append plain_mutation (take i list) (get_or list i mutation ∷ []))
    ∙ filter_map-append (frame_by registry) (map plain_mutation (take i list)) (plain_mutation (get_or list i mutation) ∷ [])

-- one more mutation was read
pub one_read : (registry : PlainRegistry) (list : List Mutation) (i : ℕ) (mutation : Mutation) (change : Option FrameChange) (before after : List FrameChange)
    → i < length list → mutation ≡ get_or list i mutation → change ≡ frame_by registry (plain_mutation mutation)
    → before ≡ read_upto registry list i → after ≡ before ++ cons_option change [] → after ≡ read_upto registry list (i + 1)
one_read registry list i mutation change before after below item read so_far added =
    added ∙ (λ j. so_far j ++ cons_option ((read ∙ ap (λ m. frame_by registry (plain_mutation m)) item) j) [])
    ∙ sym (more_read registry list i mutation below)

-- all mutations of a mount were read
pub all_read : (registry : PlainRegistry) (list : List Mutation) (i : ℕ) (found : List FrameChange) (old new : PlainHostTree) → length list ≤ i
    → found ≡ read_upto registry list i → IsMount registry (map plain_mutation list) old new → found ≡ frames_changed old new
all_read registry list i found old new most read mount =
    read ∙ ap (λ taken. frames_by registry (map plain_mutation taken)) (take_all i list most) ∙ mount_read registry (map plain_mutation list) old new mount
