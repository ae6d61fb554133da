-- The mounts of a surface after one more mount.
use Rattle.std.proofs.Common.{◌≡◌, ℕ, Bool, List, [], ◌∷◌, ◌++◌, map, filter, refl, ap, true, false, cond}
use Rattle.std.specs.Prelude.{nat_eq}
use Rattle.std.proofs.lemmas.Bool.{eq-eqb}
use Rattle.run_report.specs.declared.journal.MountPart.{MountPart}
use Rattle.run_report.specs.Journal.{plain_mount}
use Rattle.run_actor.specs.Runs.{mounts_made_on}

-- one mount behind others, where a test answers for the first
module _ (id : ℕ) (m : ℕ × MountPart) (more less : List (ℕ × MountPart)) where
  one_head : (b : Bool) (part : MountPart) → mounts_made_on id more ≡ mounts_made_on id less ++ plain_mount part ∷ []
      → map (λ (entry : ℕ × MountPart). plain_mount entry.1) (cond b (m ∷ filter (λ entry. nat_eq entry.0 id) more) (filter (λ entry. nat_eq entry.0 id) more))
      ≡ map (λ (entry : ℕ × MountPart). plain_mount entry.1) (cond b (m ∷ filter (λ entry. nat_eq entry.0 id) less) (filter (λ entry. nat_eq entry.0 id) less)) ++ plain_mount part ∷ []
  one_head true part e = ap (λ l. plain_mount m.1 ∷ l) e
  one_head false part e = e

  same_head : (b : Bool) → mounts_made_on id more ≡ mounts_made_on id less
      → map (λ (entry : ℕ × MountPart). plain_mount entry.1) (cond b (m ∷ filter (λ entry. nat_eq entry.0 id) more) (filter (λ entry. nat_eq entry.0 id) more))
      ≡ map (λ (entry : ℕ × MountPart). plain_mount entry.1) (cond b (m ∷ filter (λ entry. nat_eq entry.0 id) less) (filter (λ entry. nat_eq entry.0 id) less))
  same_head true e = ap (λ l. plain_mount m.1 ∷ l) e
  same_head false e = e

-- one more mount on that surface comes last
pub mounts_made_on-push : (id : ℕ) (mounts : List (ℕ × MountPart)) (part : MountPart) → mounts_made_on id (mounts ++ (id, part) ∷ []) ≡ mounts_made_on id mounts ++ plain_mount part ∷ []
mounts_made_on-push id [] part = ap (λ b. map (λ (entry : ℕ × MountPart). plain_mount entry.1) (cond b ((id, part) ∷ []) [])) (eq-eqb id id refl)
mounts_made_on-push id (m ∷ mounts) part = one_head id m (mounts ++ (id, part) ∷ []) mounts (nat_eq m.0 id) part (mounts_made_on-push id mounts part)

-- and on another changes nothing
pub mounts_made_on-other : (id other : ℕ) (mounts : List (ℕ × MountPart)) (part : MountPart) → nat_eq id other ≡ false → mounts_made_on other (mounts ++ (id, part) ∷ []) ≡ mounts_made_on other mounts
mounts_made_on-other id other [] part off = ap (λ b. map (λ (entry : ℕ × MountPart). plain_mount entry.1) (cond b ((id, part) ∷ []) [])) off
mounts_made_on-other id other (m ∷ mounts) part off = same_head other m (mounts ++ (id, part) ∷ []) mounts (nat_eq m.0 other) (mounts_made_on-other id other mounts part off)
