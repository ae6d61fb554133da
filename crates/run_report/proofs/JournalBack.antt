-- A journal is read back from its report.
use Rattle.std.proofs.Common.{◌≡◌, ℕ, List, [], ◌∷◌, ◌++◌, false, IsTrue, nat_eq, length, map, bytes_eq, codes, refl, ap, sym, ◌∙◌, subst, append_assoc}
use Rattle.std.specs.List.{AllByRecursion, IsDistinct}
use Rattle.std.proofs.lemmas.List.{append_cancel_left}
use Rattle.std.proofs.lemmas.List.Elements.{recursion_from_All}
use Rattle.tree_revision.specs.Script.{PlainScript}
use Rattle.tree_revision.specs.Sound.{is_name, names_of}
use Rattle.run_report.specs.Journal.{PlainMount, PlainActorPart, PlainSurfacePart, PlainJournal}
use Rattle.run_report.specs.Named.{IsByActor, NamesActors}
use Rattle.run_report.specs.Text.{number_line, report_text}
use Rattle.run_report.specs.TextParts.{transactions_text, last_text, all_mounts_text, histories_text, actors_text}
use Rattle.run_report.specs.Ranges.{IsMountInRange, IsPartInRange}
use Rattle.run_report.specs.Readable.{HasNames, IsReadable}
use Rattle.run_report.proofs.LineWords.{after_same}
use Rattle.run_report.proofs.ListsBack.{first}
use Rattle.run_report.proofs.MountsBack.{begins_view, IsReadableMount, last_off, mounts_off}
use Rattle.run_report.proofs.StepsBack.{after_head, actors_off}
use Rattle.run_report.proofs.RecordsBack.{cons_is, histories_off}

-- mounts in range by actors are what is asked of mounts
readable_mounts : (actors : List PlainActorPart) (mounts : List PlainMount) → AllByRecursion IsMountInRange mounts → AllByRecursion (λ mount. IsByActor (length actors) mount.by) mounts
    → AllByRecursion (IsReadableMount actors) mounts
readable_mounts actors [] p q = tt
readable_mounts actors (mount ∷ mounts) p q = (record { range = p.0; by = q.0 }, readable_mounts actors mounts p.1 q.1)

-- what follows a surface's last views is no view
mounts_first : (actors : List PlainActorPart) (parts : List PlainSurfacePart) (s : List ℕ) → begins_view (first s) ≡ false → begins_view (first (all_mounts_text actors parts ++ s)) ≡ false
mounts_first actors [] s p = p
mounts_first actors (part ∷ parts) s p = refl

-- one head stands before both of two equal texts
same_head : (head : ℕ → List ℕ) (m n : ℕ) (v w s t : List ℕ) → m ≡ n → (head m ++ v) ++ s ≡ (head n ++ w) ++ t → v ++ s ≡ w ++ t
same_head head m n v w s t same e = after_same (head m) v w s t (e ∙ ap (λ k. (head k ++ w) ++ t) (sym same))

-- actors of these names, each of its own
module _ (names : List (List ℕ)) (formed : AllByRecursion (λ name. IsTrue (is_name name)) names) (differ : IsDistinct bytes_eq names) (actors : List PlainActorPart)
    (are : map (λ part. part.name) actors ≡ names) where
  -- the mounts and last views of surfaces of the same ids are read back
  all_mounts_off : (xs ys : List PlainSurfacePart) (s t : List ℕ) → map (λ part. part.id) xs ≡ map (λ part. part.id) ys → AllByRecursion (NamesActors (length actors)) xs
      → AllByRecursion (NamesActors (length actors)) ys → AllByRecursion IsPartInRange xs → AllByRecursion IsPartInRange ys → begins_view (first s) ≡ false → begins_view (first t) ≡ false
      → all_mounts_text actors xs ++ s ≡ all_mounts_text actors ys ++ t
      → (map (λ part. part.mounts) xs ≡ map (λ part. part.mounts) ys) × (map (λ part. part.last) xs ≡ map (λ part. part.last) ys) × (s ≡ t)
  all_mounts_off [] [] s t ids ax ay fx fy bs bt e = (refl, refl, e)
  all_mounts_off [] (y ∷ ys) s t ids ax ay fx fy bs bt e = absurd (cc)
  all_mounts_off (x ∷ xs) [] s t ids ax ay fx fy bs bt e = absurd (cc)
  all_mounts_off (x ∷ xs) (y ∷ ys) s t ids ax ay fx fy bs bt e =
      let id : x.id ≡ y.id = cc in
      let others : map (λ (part : PlainSurfacePart). part.id) xs ≡ map (λ (part : PlainSurfacePart). part.id) ys = cc in
      let more_x : List ℕ = all_mounts_text actors xs ++ s in
      let more_y : List ℕ = all_mounts_text actors ys ++ t in
      let views_x : List ℕ = number_line (codes "views") x.id ++ last_text x.last in
      let views_y : List ℕ = number_line (codes "views") y.id ++ last_text y.last in
      let done_x : List ℕ = transactions_text actors x.mounts in
      let done_y : List ℕ = transactions_text actors y.mounts in
      let whole : (done_x ++ views_x) ++ more_x ≡ (done_y ++ views_y) ++ more_y =
      after_head (number_line (codes "mounts")) x.id y.id (done_x ++ views_x) (done_y ++ views_y) (all_mounts_text actors xs) (all_mounts_text actors ys) s t id e in
      let mounts = mounts_off names formed differ actors are x.mounts y.mounts (views_x ++ more_x) (views_y ++ more_y)
      (readable_mounts actors x.mounts fx.0.mounts (recursion_from_All (λ mount. IsByActor (length actors) mount.by) x.mounts ax.0.mounts))
      (readable_mounts actors y.mounts fy.0.mounts (recursion_from_All (λ mount. IsByActor (length actors) mount.by) y.mounts ay.0.mounts))
      refl refl refl refl (sym (append_assoc done_x views_x more_x) ∙ whole ∙ append_assoc done_y views_y more_y) in
      let last = last_off x.last y.last more_x more_y fx.0.last fy.0.last (mounts_first actors xs s bs) (mounts_first actors ys t bt)
      (same_head (number_line (codes "views")) x.id y.id (last_text x.last) (last_text y.last) more_x more_y id mounts.1) in
      let rest = all_mounts_off xs ys s t others ax.1 ay.1 fx.1 fy.1 bs bt last.1 in
      (cons_is mounts.0 rest.0, cons_is last.0 rest.1, rest.2)

-- surfaces of the same parts are one
part_from : (a b : PlainSurfacePart) → a.id ≡ b.id → a.records ≡ b.records → a.mounts ≡ b.mounts → a.last ≡ b.last → a ≡ b
part_from a b n r m l = λ i. record { id = n i; records = r i; mounts = m i; last = l i }

-- surfaces are one where their parts are
parts_from : (xs ys : List PlainSurfacePart) → map (λ part. part.id) xs ≡ map (λ part. part.id) ys → map (λ part. part.records) xs ≡ map (λ part. part.records) ys
    → map (λ part. part.mounts) xs ≡ map (λ part. part.mounts) ys → map (λ part. part.last) xs ≡ map (λ part. part.last) ys → xs ≡ ys
parts_from [] [] ids records mounts last = refl
parts_from [] (y ∷ ys) ids records mounts last = absurd (cc)
parts_from (x ∷ xs) [] ids records mounts last = absurd (cc)
parts_from (x ∷ xs) (y ∷ ys) ids records mounts last =
    cons_is (part_from x y (cc) (cc) (cc) (cc)) (parts_from xs ys (cc) (cc) (cc) (cc))

-- after the histories no commit comes
after_histories : (actors : List PlainActorPart) (parts : List PlainSurfacePart) → nat_eq (first (actors_text actors ++ (all_mounts_text actors parts ++ codes "end\n"))) 99 ≡ false
after_histories [] [] = refl
after_histories [] (part ∷ parts) = refl
after_histories (actor ∷ actors) parts = refl

-- journals of the same parts are one
journal_from : (a b : PlainJournal) → a.surfaces ≡ b.surfaces → a.actors ≡ b.actors → a ≡ b
journal_from a b s t = λ i. record { surfaces = s i; actors = t i }

-- journals that a report tells are one where their reports are
pub journal_is : (script : PlainScript) (a b : PlainJournal) → HasNames script → IsReadable script a → IsReadable script b → report_text a ≡ report_text b → a ≡ b
journal_is script a b script_names p q e =
    let names : List (List ℕ) = names_of script.actors in
    let ids : map (λ (part : PlainSurfacePart). part.id) a.surfaces ≡ map (λ (part : PlainSurfacePart). part.id) b.surfaces = p.form.surfaces ∙ sym q.form.surfaces in
    let named : map (λ (part : PlainActorPart). part.name) a.actors ≡ map (λ (part : PlainActorPart). part.name) b.actors = p.form.names ∙ sym q.form.names in
    let end_a : List ℕ = all_mounts_text a.actors a.surfaces ++ codes "end\n" in
    let end_b : List ℕ = all_mounts_text b.actors b.surfaces ++ codes "end\n" in
    let rest_a : List ℕ = actors_text a.actors ++ end_a in
    let rest_b : List ℕ = actors_text b.actors ++ end_b in
    let by_a : AllByRecursion (NamesActors (length a.actors)) a.surfaces = recursion_from_All (NamesActors (length a.actors)) a.surfaces p.names in
    let by_b : AllByRecursion (NamesActors (length b.actors)) b.surfaces = recursion_from_All (NamesActors (length b.actors)) b.surfaces q.names in
    let histories = histories_off script names script_names.names script_names.differ a b p.form.names q.form.names a.surfaces b.surfaces rest_a rest_b ids p.commits q.commits by_a by_b
    p.ranges.surfaces q.ranges.surfaces (after_histories a.actors a.surfaces) (after_histories b.actors b.surfaces)
    (append_cancel_left (codes "report 1\n") (histories_text a.actors a.surfaces ++ rest_a) (histories_text b.actors b.surfaces ++ rest_b) e) in
    let actors = actors_off script.actors a.actors b.actors end_a end_b named p.form.answers q.form.answers p.ranges.actors q.ranges.actors histories.1 in
    let same_actors : b.actors ≡ a.actors = sym actors.0 in
    let mounts = all_mounts_off names script_names.names script_names.differ a.actors p.form.names a.surfaces b.surfaces (codes "end\n") (codes "end\n") ids by_a
    (subst (λ (list : List PlainActorPart). AllByRecursion (NamesActors (length list)) b.surfaces) same_actors by_b) p.ranges.surfaces q.ranges.surfaces refl refl
    (actors.1 ∙ ap (λ list. all_mounts_text list b.surfaces ++ codes "end\n") same_actors) in
    journal_from a b (parts_from a.surfaces b.surfaces ids histories.0 mounts.0 mounts.1) actors.0
