use Rattle.std.proofs.Common.{nat_lt, rules}
use Rattle.std.proofs.lemmas.List.Sorted.{answers_always}
use Rattle.tree_build.proofs.Differ.{differ_from_answer}
use Rattle.tree_build.proofs.limits.do_rise.Goals as goal

pub returns : goal.returns
returns c = differ_from_answer c.args.tags.now c.is_sorted_by.result (c.is_sorted_by.ensures.cases nat_lt (answers_always _ _ _ (λ f a r g h. search rules)))
