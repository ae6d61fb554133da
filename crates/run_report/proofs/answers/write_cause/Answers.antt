use Rattle.run_report.proofs.answers.write_cause.Goals as goal

pub returns-in-ChildOfLeaf : goal.returns-in-ChildOfLeaf
returns-in-ChildOfLeaf g c = rw c.in-ChildOfLeaf.is c.write_tag_line-in-ChildOfLeaf.ensures

pub returns-in-TwiceTag : goal.returns-in-TwiceTag
returns-in-TwiceTag g c = rw c.in-TwiceTag.is c.write_tag_line-in-TwiceTag.ensures

pub returns-in-TooManyNodes : goal.returns-in-TooManyNodes
returns-in-TooManyNodes g c = rw c.in-TooManyNodes.is c.write_whole-in-TooManyNodes.ensures

pub returns-in-KindChanged : goal.returns-in-KindChanged
returns-in-KindChanged g c = rw c.in-KindChanged.is c.write_tag_line-in-KindChanged.ensures

pub returns-in-FamiliesFull : goal.returns-in-FamiliesFull
returns-in-FamiliesFull g c = rw c.in-FamiliesFull.is c.write_whole-in-FamiliesFull.ensures

pub returns-in-NotMounted : goal.returns-in-NotMounted
returns-in-NotMounted g c = rw c.in-NotMounted.is c.write_tag_line-in-NotMounted.ensures

pub returns-in-Stateless : goal.returns-in-Stateless
returns-in-Stateless g c = rw c.in-Stateless.is c.write_tag_line-in-Stateless.ensures
