use Rattle.std.proofs.Common.{sym, ap, ◌∙◌, codes}
use Rattle.std.specs.Prelude.{Some, option_map}
use Rattle.std.specs.List.{find}
use Rattle.serde_json.specs.View.{view}
use Rattle.script_read.specs.Members.{natural_at}
use Rattle.script_read.specs.Faults.{is_shared}
use Rattle.script_read.proofs.Lists.{found_here, found_later}
use Rattle.script_read.proofs.whole.two_mounters.Goals as goal

pub returns-then-is_shared : goal.returns-then-is_shared
returns-then-is_shared c =
    ap Some c.natural_at.ensures
    ∙ sym
    (ap (option_map (natural_at (codes "id")))
    (found_here (is_shared (view c.args.script.now)) view c.items_at-surface-items.result.now c.loop-surface.surface-index c.surface-item.result c.loop-surface-test.true
    c.surface-item.is (sym c.is_shared.ensures ∙ c.if-is_shared.true)))
    ∙ c.loop-surface.invariant
    ∙ ap (λ list. option_map (natural_at (codes "id")) (find (is_shared (view c.args.script.now)) list)) c.items_at-surface-items.ensures

pub loop-surface-preserved : goal.loop-surface-preserved
loop-surface-preserved c =
    sym
    (ap (option_map (natural_at (codes "id")))
    (found_later (is_shared (view c.args.script.now)) view c.items_at-surface-items.result.now c.loop-surface.surface-index c.surface-item.result c.loop-surface-test.true
    c.surface-item.is (sym c.is_shared.ensures ∙ c.if-is_shared.false)))
    ∙ c.loop-surface.invariant
