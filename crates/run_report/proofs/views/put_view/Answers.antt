use Rattle.std.proofs.lemmas.Result.{err_from_is_err_and}
use Rattle.run_report.specs.Text.{state_text}
use Rattle.run_report.specs.TextParts.{shape_text}
use Rattle.run_report.proofs.HeldBack.{fault_first, fault_then, put_rest}
use Rattle.run_report.proofs.views.put_view.Goals as goal
use Rattle.prop_table.specs.Table.{v2_rules}
use Rattle.prop_table.specs.PairText.{pairs_text_of}

pub returns-in_err-put_shape : goal.returns-in_err-put_shape
returns-in_err-put_shape g c =
    let p = err_from_is_err_and c.from_residual.result c.from_residual.ensures.1 in
    rw p.1 (fault_first _ _ _ (shape_text c.args.view.now.kind c.args.view.now.frame) _ c.in_err-put_shape.ensures)

pub returns-in_err-put_state : goal.returns-in_err-put_state
returns-in_err-put_state g c =
    let p = err_from_is_err_and c.from_residual-in_err-put_state.result c.from_residual-in_err-put_state.ensures.1 in
    rw p.1
    (fault_then _ _ _ _ _ (shape_text c.args.view.now.kind c.args.view.now.frame) _ c.in_ok-put_shape.ensures
    (fault_first _ _ _ (state_text c.args.view.now.state) _ c.in_err-put_state.ensures))

pub returns-in_err-put_props : goal.returns-in_err-put_props
returns-in_err-put_props g c =
    let p = err_from_is_err_and c.from_residual-in_err-put_props.result c.from_residual-in_err-put_props.ensures.1 in
    rw p.1
    (fault_then _ _ _ _ _ (shape_text c.args.view.now.kind c.args.view.now.frame) _ c.in_ok-put_shape.ensures
    (fault_then _ _ _ _ _ (state_text c.args.view.now.state) _ c.in_ok-put_state.ensures
    (fault_first _ _ _ (pairs_text_of v2_rules c.args.view.now.props) _ c.in_err-put_props.ensures)))

pub returns : goal.returns
returns g c =
    put_rest _ _ _ _ _ _ (shape_text c.args.view.now.kind c.args.view.now.frame) _ _ c.in_ok-put_shape.ensures
    (put_rest _ _ _ _ _ _ (state_text c.args.view.now.state) _ _ c.in_ok-put_state.ensures
    (put_rest _ _ _ _ _ _ (pairs_text_of v2_rules c.args.view.now.props) _ _ c.in_ok-put_props.ensures c.put_label.ensures))
