use Rattle.run_report.proofs.EventNames.{records_over_more}
use Rattle.run_report.proofs.laws.longer_histories_keep_named_records.Goals as goal

pub returns : goal.returns
returns c wish first id records longer number steps answers grows h = records_over_more wish first id records longer grows number steps answers h
