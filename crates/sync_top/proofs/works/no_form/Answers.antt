use Rattle.sync_top.proofs.Endings.{no-form, no-memory}
use Rattle.sync_top.proofs.works.no_form.Goals as goal

pub returns-in-Ok : goal.returns-in-Ok
returns-in-Ok c = record { works = λ outside tried calm. no-form outside tried c.in-Ok.text c.in-Ok.ensures calm }

pub returns-in-Err : goal.returns-in-Err
returns-in-Err c = record { works = λ outside tried calm. no-memory outside tried }
