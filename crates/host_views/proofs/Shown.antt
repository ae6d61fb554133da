-- What is shown of views with their links.
use Rattle.std.proofs.Common.{◌≡◌, ℕ, ◌+◌, List, [], ◌∷◌, map, Bool, true, false, cond, Option, None, Some, is_some, refl, ap, sym, ◌∙◌}
use Rattle.std.specs.Prelude.{nat_eq}
use Rattle.std.specs.Option.{option_map}
use Rattle.std.specs.Ordering.{nat_cmp, eq_by_cmp}
use Rattle.std.specs.Cmp.{nat_cmp_total}
use Rattle.std.specs.FinMap.{FinMap, get, entries, find, from_entries, get-entries, get-from_entries}
use Rattle.std.specs.FinMap as table
use Rattle.host_views.specs.Registry.{ShownView, changed_at, children_in}
use Rattle.host_views.specs.Links.{PlainLinkedView, PlainLinks, linked_children, registry_in, shown_of}
use Rattle.host_views.proofs.Tables.{same_table, get_changed, get_inserted, get_removed}

-- the views as they are shown
abbrev pub shown_table : FinMap nat_cmp PlainLinkedView → FinMap nat_cmp ShownView
shown_table m = from_entries (map (λ entry. (entry.0, shown_of entry.1)) (entries m))

find-map : {X Y : Type 0} (f : X → Y) (es : List (ℕ × X)) (q : ℕ) → find nat_cmp q (map (λ e. (e.0, f e.1)) es) ≡ option_map f (find nat_cmp q es)
find-map f [] q = refl
find-map f (e ∷ es) q =
    elim (eq_by_cmp nat_cmp q e.0) as (λ b. cond b (Some (f e.1)) (find nat_cmp q (map (λ e. (e.0, f e.1)) es)) ≡ option_map f (cond b (Some e.1) (find nat_cmp q es))) [
      | true ↦ refl
      | false ↦ find-map f es q
    ]

pub get_shown : (m : FinMap nat_cmp PlainLinkedView) (q : ℕ) → get (shown_table m) q ≡ option_map shown_of (get m q)
get_shown m q =
    get-from_entries nat_cmp_total (map (λ entry. (entry.0, shown_of entry.1)) (entries m)) q
    ∙ find-map shown_of (entries m) q
    ∙ ap (option_map shown_of) (sym (get-entries m q))

len-map : {X Y : Type 0} (f : X → Y) (es : List (ℕ × X)) → table.len (from_entries {R = nat_cmp} (map (λ e. (e.0, f e.1)) es)) ≡ table.len (from_entries {R = nat_cmp} es)
len-map {X} {Y} f [] = table.len-empty nat_cmp Y ∙ sym (table.len-empty nat_cmp X)
len-map f (e ∷ es) =
    table.len-insert nat_cmp_total (from_entries {R = nat_cmp} (map (λ e. (e.0, f e.1)) es)) e.0 (f e.1)
    ∙ ap (λ o. cond (is_some o) (table.len (from_entries {R = nat_cmp} (map (λ e. (e.0, f e.1)) es))) (table.len (from_entries {R = nat_cmp} (map (λ e. (e.0, f e.1)) es)) + 1))
    (get-from_entries nat_cmp_total (map (λ e. (e.0, f e.1)) es) e.0 ∙ find-map f es e.0 ∙ ap (option_map f) (sym (get-from_entries nat_cmp_total es e.0)))
    ∙ ap (λ b. cond b (table.len (from_entries {R = nat_cmp} (map (λ e. (e.0, f e.1)) es))) (table.len (from_entries {R = nat_cmp} (map (λ e. (e.0, f e.1)) es)) + 1))
    (some-map f (get (from_entries {R = nat_cmp} es) e.0))
    ∙ ap (λ n. cond (is_some (get (from_entries {R = nat_cmp} es) e.0)) n (n + 1)) (len-map f es)
    ∙ sym (table.len-insert nat_cmp_total (from_entries {R = nat_cmp} es) e.0 e.1)
  where
    some-map : {X Y : Type 0} (f : X → Y) (o : Option X) → is_some (option_map f o) ≡ is_some o
    some-map f None = refl
    some-map f (Some x) = refl

-- as many views are shown as there are
pub len_shown : (m : FinMap nat_cmp PlainLinkedView) → table.len (shown_table m) ≡ table.len m
len_shown m =
    len-map shown_of (entries m) ∙ ap table.len (same_table (from_entries (entries m)) m (λ q. get-from_entries nat_cmp_total (entries m) q ∙ sym (get-entries m q)))

through_cond : {X Y : Type 0} (f : X → Y) (b : Bool) (o p : Option X) → option_map f (cond b o p) ≡ cond b (option_map f o) (option_map f p)
through_cond f true o p = refl
through_cond f false o p = refl

mapped_twice : {X Y Z : Type 0} (f : X → Y) (g : Y → Z) (o : Option X) → option_map g (option_map f o) ≡ option_map (λ x. g (f x)) o
mapped_twice f g None = refl
mapped_twice f g (Some x) = refl

-- the children that are shown are those of the links
pub shown_children : (links : PlainLinks) (tag : ℕ) → children_in (registry_in links) tag ≡ linked_children links tag
shown_children links tag =
    ap (cond (nat_eq tag 0) (Some links.root))
    (ap (option_map (λ shown. shown.children)) (get_shown links.views tag) ∙ mapped_twice shown_of (λ shown. shown.children) (get links.views tag))

-- the view that is shown is that of the links
pub shown_view : (m : FinMap nat_cmp PlainLinkedView) (tag : ℕ) → option_map (λ shown. shown.view) (get (shown_table m) tag) ≡ option_map (λ linked. linked.view) (get m tag)
shown_view m tag = ap (option_map (λ shown. shown.view)) (get_shown m tag) ∙ mapped_twice shown_of (λ shown. shown.view) (get m tag)

pub shown_insert : (m : FinMap nat_cmp PlainLinkedView) (k : ℕ) (v : PlainLinkedView) → shown_table (table.insert m k v) ≡ table.insert (shown_table m) k (shown_of v)
shown_insert m k v =
    same_table _ _ (λ q. get_shown (table.insert m k v) q
    ∙ ap (option_map shown_of) (get_inserted m k v q)
    ∙ through_cond shown_of (nat_eq q k) (Some v) (get m q)
    ∙ ap (cond (nat_eq q k) (Some (shown_of v))) (sym (get_shown m q))
    ∙ sym (get_inserted (shown_table m) k (shown_of v) q))

pub shown_remove : (m : FinMap nat_cmp PlainLinkedView) (k : ℕ) → shown_table (table.remove m k) ≡ table.remove (shown_table m) k
shown_remove m k =
    same_table _ _ (λ q. get_shown (table.remove m k) q
    ∙ ap (option_map shown_of) (get_removed m k q)
    ∙ through_cond shown_of (nat_eq q k) None (get m q)
    ∙ ap (cond (nat_eq q k) None) (sym (get_shown m q))
    ∙ sym (get_removed (shown_table m) k q))

alike : (f : PlainLinkedView → PlainLinkedView) (g : ShownView → ShownView) → ((v : PlainLinkedView) → shown_of (f v) ≡ g (shown_of v)) → (o : Option PlainLinkedView)
    → option_map shown_of (option_map f o) ≡ option_map g (option_map shown_of o)
alike f g h None = refl
alike f g h (Some v) = ap Some (h v)

-- a change of a view is a change of what is shown of it
pub shown_change : (m : FinMap nat_cmp PlainLinkedView) (k : ℕ) (f : PlainLinkedView → PlainLinkedView) (g : ShownView → ShownView)
    → ((v : PlainLinkedView) → shown_of (f v) ≡ g (shown_of v)) → shown_table (changed_at k f m) ≡ changed_at k g (shown_table m)
shown_change m k f g h =
    same_table _ _ (λ q. get_shown (changed_at k f m) q
    ∙ ap (option_map shown_of) (get_changed m k f q)
    ∙ through_cond shown_of (nat_eq q k) (option_map f (get m q)) (get m q)
    ∙ ap (λ o. cond (nat_eq q k) o (option_map shown_of (get m q))) (alike f g h (get m q))
    ∙ ap (λ o. cond (nat_eq q k) (option_map g o) o) (sym (get_shown m q))
    ∙ sym (get_changed (shown_table m) k g q))

unmoved : (b : Bool) (f : PlainLinkedView → PlainLinkedView) → ((v : PlainLinkedView) → shown_of (f v) ≡ shown_of v) → (o : Option PlainLinkedView)
    → option_map shown_of (cond b (option_map f o) o) ≡ option_map shown_of o
unmoved true f h None = refl
unmoved true f h (Some v) = ap Some (h v)
unmoved false f h o = refl

-- a change of which nothing is shown
pub shown_alike : (m : FinMap nat_cmp PlainLinkedView) (k : ℕ) (f : PlainLinkedView → PlainLinkedView) → ((v : PlainLinkedView) → shown_of (f v) ≡ shown_of v)
    → shown_table (changed_at k f m) ≡ shown_table m
shown_alike m k f h =
    same_table _ _ (λ q. get_shown (changed_at k f m) q
    ∙ ap (option_map shown_of) (get_changed m k f q)
    ∙ unmoved (nat_eq q k) f h (get m q)
    ∙ sym (get_shown m q))

-- nothing is shown of no views
pub shown_empty : shown_table table.empty ≡ table.empty
shown_empty = same_table _ _ (λ q. get_shown table.empty q ∙ ap (option_map shown_of) (table.get-empty nat_cmp q) ∙ sym (table.get-empty nat_cmp q))
