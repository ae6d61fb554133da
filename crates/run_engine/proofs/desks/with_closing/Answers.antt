use Rattle.std.proofs.Common.{ap}
use Rattle.run_report.specs.Journal.{plain_mount}
use Rattle.run_engine.proofs.Closing.{closing_none, closing_some, finish_none, finish_some}
use Rattle.run_engine.proofs.desks.with_closing.Goals as goal

pub returns-in-None : goal.returns-in-None
returns-in-None c first records passages stands mounted last along =
    closing_none first records passages c.args.coordinator c.finish.new.self c.args.mounts
    (finish_none first records c.args.coordinator c.finish.new.self c.in_ok-finish.field-0 c.in-None.is (c.in_ok-finish.ensures first records stands mounted))
    last along

pub returns : goal.returns
returns c first records passages stands mounted last along =
    closing_some first records passages c.args.coordinator c.finish.new.self c.in-Some.transaction c.mount_part.result c.args.mounts c.push.new.self
    (finish_some first records c.args.coordinator c.finish.new.self c.in_ok-finish.field-0 c.in-Some.transaction c.in-Some.is (c.in_ok-finish.ensures first records stands mounted))
    last (ap plain_mount c.mount_part.ensures) along c.in_ok-push-in-Some.ensures.ok
