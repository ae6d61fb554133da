use Rattle.std.proofs.Common.{◌∙◌}
use Rattle.view_flatten.proofs.FiveViews.{five_within, is_five}
use Rattle.view_mutation.proofs.FiveTagged.{five_tagged}
use Rattle.view_mutation.proofs.tests.five_views.Goals as goal

pub returns-clause-limits : goal.returns-clause-limits
returns-clause-limits c =
    let one = c.in_ok-one.ensures in
    let two = c.in_ok-two.ensures in
    let three = c.in_ok-three.ensures in
    let four = c.in_ok-four.ensures in
    let five = c.in_ok-five.ensures in
    let whole = is_five _ c.in_ok-one.one.value c.in_ok-two.two.value c.in_ok-three.three.value c.in_ok-four.four.value c.in_ok-five.five.value c.in_ok-forest.ensures
    (one.children ∙ c.in_ok-pair-2.ensures) (two.children ∙ c.in_ok-pair.ensures) (three.children ∙ c.empty.ensures) (four.children ∙ c.empty-2.ensures) (five.children ∙ c.empty-3.ensures) in
    five_within _ _ _ _ _ _ whole one.tag two.tag three.tag four.tag five.tag one.frame two.frame three.frame four.frame five.frame

pub returns-clause-tags : goal.returns-clause-tags
returns-clause-tags c =
    let one = c.in_ok-one.ensures in
    let two = c.in_ok-two.ensures in
    let three = c.in_ok-three.ensures in
    let four = c.in_ok-four.ensures in
    let five = c.in_ok-five.ensures in
    five_tagged _ c.in_ok-one.one.value c.in_ok-two.two.value c.in_ok-three.three.value c.in_ok-four.four.value c.in_ok-five.five.value c.in_ok-forest.ensures
    (one.children ∙ c.in_ok-pair-2.ensures) (two.children ∙ c.in_ok-pair.ensures) (three.children ∙ c.empty.ensures) (four.children ∙ c.empty-2.ensures) (five.children ∙ c.empty-3.ensures)
    one.tag two.tag three.tag four.tag five.tag
