use Rattle.std.proofs.Common.{refl, ◌∙◌}
use Rattle.group_file.proofs.PartFacts.{marked-among}
use Rattle.group_file.proofs.parts.list.Goals as goal

pub returns-clause-listed : goal.returns-clause-listed
returns-clause-listed c =
    c.mark.ensures.listed ∙ rw (marked-among c.args.marks.now c.args.place c.listed-listed.ensures.all ∙ c.requires.fresh) refl
