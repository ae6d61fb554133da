use Rattle.std.proofs.Common.{arith, ◌≡◌, ◌∙◌, [], sym, subst, IfOk}
use Rattle.std.proofs.lemmas.Int.{ints}
use Rattle.native_state.specs.Families.{cell_in}
use Rattle.shadow_node.specs.Forest.{PlainForest}
use Rattle.shadow_node.specs.Fields.{SettledFields, contents_of}
use Rattle.tree_settle.proofs.Settled.{settled_below-in, settled-frames, settled-in_limits}
use Rattle.tree_settle.proofs.settle_along.Goals as goal

pub settle_along_in-requires : goal.settle_along_in-requires
settle_along_in-requires c = record {
  room = record {
    width_low = c.requires.size.width_low;
    width_high = omega (arith, ints, c.requires.depth, c.requires.size.width_high);
    height_low = c.requires.size.height_low;
    height_high = omega (arith, ints, c.requires.depth, c.requires.size.height_high);
  };
  frames = c.requires.frames;
  but = c.requires.but;
}

pub returns-clause-forest : goal.returns-clause-forest
returns-clause-forest c =
    let whole = c.in_ok-new.ensures.forest ∙ sym (settled_below-in c.args.size.after (cell_in c.args.families.now) [] (contents_of c.args.forest.now)) in
    subst (λ (w : PlainForest SettledFields). IfOk c.forest_or_shared.result (λ settled. settled ≡ w)) whole c.forest_or_shared.ensures

pub returns-clause-frames : goal.returns-clause-frames
returns-clause-frames c =
    settled-frames c.args.size.after (cell_in c.args.families.now) (contents_of c.args.forest.now) c.forest_or_shared.result c.in_ok-new.ensures.bounds
    (subst (λ (w : PlainForest SettledFields). IfOk c.forest_or_shared.result (λ settled. settled ≡ w)) c.in_ok-new.ensures.forest c.forest_or_shared.ensures)

pub returns-clause-limits : goal.returns-clause-limits
returns-clause-limits c =
    settled-in_limits c.args.size.after (cell_in c.args.families.now) (contents_of c.args.forest.now) c.forest_or_shared.result c.in_ok-new.ensures.bounds
    (subst (λ (w : PlainForest SettledFields). IfOk c.forest_or_shared.result (λ settled. settled ≡ w)) c.in_ok-new.ensures.forest c.forest_or_shared.ensures)
