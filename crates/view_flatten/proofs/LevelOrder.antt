-- Where every z is 0, the order by z is that of the list.
use Rattle.std.proofs.Common.{◌≡◌, List, [], ◌∷◌, Bool, true, false, cond, length, filter, nat_eq, refl, sym, ap, ◌∙◌, subst}
use Rattle.std.specs.Prelude.{ℤ, pos, int_lt}
use Rattle.std.specs.List.{AllByRecursion}
use Rattle.std.proofs.lemmas.List.{length-map}
use Rattle.shadow_node.specs.Forest.{PlainForest}
use Rattle.shadow_node.specs.Fields.{SettledFields}
use Rattle.view_flatten.specs.HostTree.{viewed, host_tree_of}
use Rattle.view_flatten.specs.Sites.{AreLevel, PlainSite, root, site_of, sites_from}
use Rattle.view_flatten.specs.Placing.{AreByZ, ordered_by, put_by, sites_at, tree_below}
use Rattle.view_flatten.proofs.ByZ.{same_tree}
use Rattle.view_flatten.proofs.Found.{found}

-- an element of number 0 goes before others of number 0
put_first : {X : Type 0} (number : X → ℤ) (x : X) (xs : List X) → number x ≡ pos 0 → AllByRecursion (λ x. number x ≡ pos 0) xs → put_by number x xs ≡ x ∷ xs
put_first number x [] e h = refl
put_first number x (y ∷ ys) e h =
    let equal : int_lt (number y) (number x) ≡ false = λ i. int_lt (h.0 i) (e i) in
    ap (λ b. cond b (y ∷ put_by number x ys) (x ∷ y ∷ ys)) equal

-- elements of number 0 stay as they stand
pub ordered_level : {X : Type 0} (number : X → ℤ) (xs : List X) → AllByRecursion (λ x. number x ≡ pos 0) xs → ordered_by number xs ≡ xs
ordered_level number [] h = refl
ordered_level number (x ∷ xs) h = ap (put_by number x) (ordered_level number xs h.1) ∙ put_first number x xs h.0 h.1

-- what holds of each holds of each that passes a test
pub each_left : {X : Type 0} (P : X → Type 0) (test : X → Bool) (xs : List X) → AllByRecursion P xs → AllByRecursion P (filter test xs)
each_left P test [] h = tt
each_left P test (x ∷ xs) h =
    elim (test x) as (λ b. AllByRecursion P (cond b (x ∷ filter test xs) (filter test xs))) [ true ↦ (h.0, each_left P test xs h.1) | false ↦ each_left P test xs h.1 ]

-- sites of z 0 are by z as they stand
level_by_z : (sites : List PlainSite) → AreLevel sites → AreByZ sites sites
level_by_z sites level parent =
    sym (ordered_level (λ site. site.z) (sites_at sites parent) (each_left (λ site. site.z ≡ pos 0) (λ site. nat_eq site.parent parent) sites level))

-- the host tree of a forest whose sites have z 0, from its sites as they stand
pub tree_of_level : (forest : PlainForest SettledFields) → AreLevel (sites_from root forest)
    → host_tree_of forest ≡ tree_below (length (sites_from root forest)) (sites_from root forest) 0
tree_of_level forest level =
    let nodes = viewed forest in
    let sites = sites_from root forest in
    let count : length nodes ≡ length sites = sym (length-map nodes site_of) ∙ ap length (found forest) in
    sym (same_tree nodes sites (subst (λ some. AreByZ some sites) (sym (found forest)) (level_by_z sites level)) (length nodes) 0)
    ∙ ap (λ levels. tree_below levels sites 0) count
