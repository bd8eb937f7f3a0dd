use Rattle.std.proofs.Common.{sym, subst, ◌≤◌, length}
use Rattle.plan_file.specs.IsPlanText.{IsPlanText}
use Rattle.plan_file.specs.Spelling.{plan_size}
use Rattle.plan_file.proofs.SpelledPlan.{plan_text-read, plan_text-short}
use Rattle.plan_gen.specs.Ladder.{ladder}
use Rattle.plan_gen.proofs.LadderPlan.{IsWellFormed-ladder}
use Rattle.plan_gen.proofs.LadderText.{ladder_put}
use Rattle.plan_gen.proofs.text.write_ladder.Goals as goal

pub returns-clause-spelled : goal.returns-clause-spelled
returns-clause-spelled c =
    ladder_put c.args.elements c.put_option.new.text c.put_elements.new.text c.put_links.new.text c.put_foot.new.text c.put_foot-2.new.text c.requires.least
    (rw c.new-text.ensures at c.in_ok-put_option.ensures) c.in_ok-put_elements.ensures c.in_ok-put_links.ensures c.in_ok-put_foot.ensures c.in_ok-put_foot-2.ensures

pub returns-clause-text : goal.returns-clause-text
returns-clause-text c =
    subst (IsPlanText (ladder c.args.elements)) (sym (returns-clause-spelled c))
    (plan_text-read (ladder c.args.elements) (IsWellFormed-ladder c.args.elements c.requires.least c.requires.greatest))

pub returns-clause-short : goal.returns-clause-short
returns-clause-short c =
    subst (λ text. length text ≤ plan_size (ladder c.args.elements)) (sym (returns-clause-spelled c))
    (plan_text-short (ladder c.args.elements) (IsWellFormed-ladder c.args.elements c.requires.least c.requires.greatest))
