use Rattle.std.proofs.Common.{sym, ap, ◌∙◌, arith}
use Rattle.std.specs.FinMap.{len}
use Rattle.page_map.specs.Pages.{joined, listed}
use Rattle.page_map.proofs.Parts.{len_of}
use Rattle.page_map.proofs.Rising.{rising_few}
use Rattle.page_map.proofs.map.PageMap.len.Goals as goal

pub returns-clause-len : goal.returns-clause-len
returns-clause-len g c = c.self.invariant.counted ∙ sym (len_of (joined (listed c.self.inside.pages)) c.self.invariant.rises) ∙ ap len c.self.view_is

pub returns-clause-few : goal.returns-clause-few
returns-clause-few g c = omega (arith, c.self.invariant.counted, rising_few 4294967296 (joined (listed c.self.inside.pages)) c.self.invariant.rises c.self.invariant.in_range)
