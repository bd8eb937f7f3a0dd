use Rattle.std.proofs.Common.{sym, ◌∙◌}
use Rattle.std.specs.Prelude.{Some}
use Rattle.std.proofs.lemmas.List.Folds.{list_all-map}
use Rattle.sync_ql.specs.Messages.{is_same_level}
use Rattle.link_model.specs.Spoken.{message_of}
use Rattle.settle_trace.proofs.lines.hears_all.Goals as goal

pub returns-in-Some : goal.returns-in-Some
returns-in-Some c = rw (c.in-Some.is) (c.all_say.ensures ∙ sym (list_all-map (λ m. is_same_level (Some m.level) (Some c.in-Some.level)) message_of c.args.words.now))
