use Rattle.std.proofs.Common.{◌≡◌, ◌++◌, List, ℕ, arith, sym, subst, ◌∙◌}
use Rattle.std.specs.Prelude.{nat_eq}
use Rattle.std.proofs.lemmas.List.{length-set}
use Rattle.std.proofs.lemmas.List.Quantifiers.{position-Some}
use Rattle.indexmap.specs.IndexMap.{keys}
use Rattle.run_report.specs.declared.journal.MountPart.{MountPart}
use Rattle.run_actor.specs.Runs.{mounts_made_on}
use Rattle.run_engine.specs.Ends.{AreListed}
use Rattle.run_engine.proofs.Finishing.{yielded_next}
use Rattle.run_engine.proofs.Gathered.{sorted_none, sorted_at, all_came}
use Rattle.run_engine.proofs.runs.sort_out.Goals as goal

pub index_mut-requires : goal.index_mut-requires
index_mut-requires g c =
    omega (
      arith,
      (position-Some (nat_eq c.in-Some.id) (keys c.args.surfaces.now) c.in-Some-get_index_of.place 0 (sym c.get_index_of.ensures.index ∙ c.in-Some-get_index_of.is)).0,
      c.loop-id.invariant.1,
    )

pub loop-id-preserved : goal.loop-id-preserved
loop-id-preserved g c = (
  yielded_next c.args.own.items c.loop-id.yielded c.loop-id.id-iterator.rest.items c.next.new.self.rest.items (c.in-Some.id, c.in-Some.part) c.loop-id.invariant.0 c.in-Some.ensures.steps.0,
  c.loop-id.invariant.1,
  λ told all. sorted_none told c.loop-id.yielded c.in-Some.id c.in-Some.part (keys c.args.surfaces.now) c.loop-id.lists.items (sym c.get_index_of.ensures.index ∙ c.in_default.is)
      (c.loop-id.invariant.2 told all),
)

pub loop-id-preserved-in-Continue-1 : goal.loop-id-preserved-in-Continue-1
loop-id-preserved-in-Continue-1 g c = (
  yielded_next c.args.own.items c.loop-id.yielded c.loop-id.id-iterator.rest.items c.next.new.self.rest.items (c.in-Some.id, c.in-Some.part) c.loop-id.invariant.0 c.in-Some.ensures.steps.0,
  length-set c.loop-id.lists.items c.in-Some-get_index_of.place c.push.new.self ∙ c.loop-id.invariant.1,
  λ told all. sorted_at told c.loop-id.yielded c.in-Some.id c.in-Some.part (keys c.args.surfaces.now) c.loop-id.lists.items c.in-Some-get_index_of.place c.index_mut.result.now c.push.new.self
      c.requires.ids (sym c.get_index_of.ensures.index ∙ c.in-Some-get_index_of.is) c.loop-id.invariant.1 c.index_mut.ensures.value c.in_ok-push.ensures.ok (c.loop-id.invariant.2 told all),
)

pub returns-clause-joined : goal.returns-clause-joined
returns-clause-joined g c told all =
    let whole : c.args.own.items ≡ c.loop-id.yielded =
    all_came c.args.own.items c.loop-id.yielded c.loop-id.id-iterator.rest.items c.loop-id.invariant.0 (omega (arith, c.loop-id.id-iterator.rest.ok.0, c.in-None.ensures.steps.0)) in
    subst (λ (own : List (ℕ × MountPart)). AreListed (λ id. told id ++ mounts_made_on id own) (keys c.args.surfaces.now) c.loop-id.lists.items) (sym whole) (c.loop-id.invariant.2 told all)
