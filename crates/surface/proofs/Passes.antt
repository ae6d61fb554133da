-- How a pass goes on, and that what stood for the first of its records still does.
use Rattle.std.proofs.Common.{ℕ, ◌≤◌, length, take, arith, refl, ap, sym, ◌∙◌, subst}
use base.Stored.{Gv, gnil, gnum, gcons}
use Rattle.std.proofs.Math.Seq.{take-length}
use Rattle.atomic_table.specs.Seated.{table_id_coded}
use Rattle.tree_revision.specs.Settled.{KeptRevision}
use Rattle.tree_revision.specs.Stands.{StandsFor}
use Rattle.tree_revision.specs.Ports.{Lasts}
use Rattle.commit_spine.specs.SpinePasses.{PassValue}
use Rattle.commit_spine.specs.SpinePorts.{spine_told}
use Rattle.commit_spine.proofs.Begins.{begins_with_itself, begins_through}
use Rattle.commit_core.proofs.Steps.{take_begins}
use Rattle.surface.specs.Passing.{PassGoesOn}

abbrev first_part : Gv → Gv
first_part gnil = gnil
first_part (gnum n) = gnil
first_part (gcons a b) = a

abbrev second_count : Gv → ℕ
second_count gnil = 0
second_count (gnum n) = 0
second_count (gcons a gnil) = 0
second_count (gcons a (gnum n)) = n
second_count (gcons a (gcons b c)) = 0

-- what a port says of each call is that its pass goes on: the mark has the spine and the shares
pub goes_on_at : (old new : PassValue) → Lasts (spine_told old) (spine_told new) → PassGoesOn old new
goes_on_at old new lasts = record {
  spine = table_id_coded.inj new.spine old.spine (ap first_part lasts.mark);
  shares = ap second_count lasts.mark;
  lasts = lasts;
}

pub goes_on_still : (pass : PassValue) → length pass.kept.seen ≤ pass.kept.floor → PassGoesOn pass pass
goes_on_still pass reached = record {
  spine = refl;
  shares = refl;
  lasts = record {
    mark = refl;
    first = refl;
    seen = begins_with_itself pass.kept.seen;
    busy = omega arith;
    floor = omega arith;
    reached = reached;
    looks = omega arith;
  };
}

pub goes_on_through : (old middle new : PassValue) → PassGoesOn old middle → PassGoesOn middle new → PassGoesOn old new
goes_on_through old middle new before after = record {
  spine = after.spine ∙ before.spine;
  shares = after.shares ∙ before.shares;
  lasts = record {
    mark = after.lasts.mark ∙ before.lasts.mark;
    first = after.lasts.first ∙ before.lasts.first;
    seen = begins_through new.kept.seen middle.kept.seen old.kept.seen after.lasts.seen before.lasts.seen;
    busy = omega (arith, before.lasts.busy, after.lasts.busy);
    floor = omega (arith, before.lasts.floor, after.lasts.floor);
    reached = after.lasts.reached;
    looks = omega (arith, before.lasts.looks, after.lasts.looks);
  };
}

-- what stood for the first of the records that were seen stands for them still
pub stands_still : (old new : PassValue) → Lasts (spine_told old) (spine_told new) → (revision : KeptRevision) → (number : ℕ) → number ≤ length old.kept.seen
    → StandsFor old.kept.mark.first revision (take number old.kept.seen) → StandsFor new.kept.mark.first revision (take number new.kept.seen)
stands_still old new lasts revision number within stands =
    subst (λ first. StandsFor first revision (take number new.kept.seen)) (sym lasts.first)
    (subst (StandsFor old.kept.mark.first revision) (sym (take_begins new.kept.seen old.kept.seen number lasts.seen within)) stands)

-- what stands for all that is seen stands for the first of it, as many as its number says
pub stands_whole : (pass : PassValue) (revision : KeptRevision) → StandsFor pass.kept.mark.first revision pass.kept.seen
    → StandsFor pass.kept.mark.first revision (take revision.newest.number pass.kept.seen)
stands_whole pass revision stands =
    subst (StandsFor pass.kept.mark.first revision) (sym (ap (λ n. take n pass.kept.seen) stands.newest.number ∙ take-length pass.kept.seen)) stands
