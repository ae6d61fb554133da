use Rattle.std.proofs.Common.{◌≡◌, ◌≢◌, ◌<◌, ◌≤◌, arith}
use Rattle.prop_table.specs.Props.{value_at}
use Rattle.prop_table.proofs.Differences.{same_value, other_value, differs_more, above_more, same_more}
use Rattle.prop_table.proofs.props.changed.Goals as goal
use Rattle.prop_table.proofs.props.changed.Goals.{then-ne, else-ne}

pub loop-row-preserved : goal.loop-row-preserved
loop-row-preserved g c =
    let within : c.loop-row.row < 32 = omega arith in
    elim c.if-ne.branch [
      | then-ne w ↦
          let differs : c.get.result ≢ c.get-in-loop-row.result = other_value c.get.result c.get-in-loop-row.result (grind arith) in
          let here : value_at c.args.a.now c.loop-row.row ≢ value_at c.args.b.now c.loop-row.row = λ e. differs (cc) in
          rw w.bits-is (record {
            rows = differs_more c.args.a.now c.args.b.now c.loop-row.bits c.loop-row.row within c.loop-row.invariant.rows here;
            above = above_more c.loop-row.bits c.loop-row.row within c.loop-row.invariant.above;
          })
      | else-ne w ↦
          let same : c.get.result ≡ c.get-in-loop-row.result = same_value c.get.result c.get-in-loop-row.result (grind arith) in
          let here : value_at c.args.a.now c.loop-row.row ≡ value_at c.args.b.now c.loop-row.row = cc in
          rw w.bits-is (record {
            rows = same_more c.args.a.now c.args.b.now c.loop-row.bits c.loop-row.row c.loop-row.invariant.above c.loop-row.invariant.rows here;
            above = λ k h. let le : c.loop-row.row ≤ k = omega arith in c.loop-row.invariant.above k le;
          })
    ]
