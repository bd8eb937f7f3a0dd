use Rattle.plan_rows.specs.declared.error.PlanFileErr.TheVariants as refusal
use Rattle.std.proofs.Common.{◌≡◌, None, Err, refl}
use Rattle.plan_rows.specs.Rules.{IsFirstBroken}
use Rattle.plan_file.specs.PlanText.{document_of, plan_of_size, OfDocument, GivesRows}
use Rattle.plan_file.proofs.PlanLaws.{table_law, syntax_law, refused_rows_law, refuses_where, gives_plan}
use Rattle.plan_file.proofs.Versions.{both_versions}
use Rattle.plan_file.proofs.reading.read_plan.Goals as goal

pub returns-clause-ok : goal.returns-clause-ok
returns-clause-ok c = gives_plan c.args.size c.args.bytes.now c.plan_in.result c.plan_in.ensures.exact

pub returns-clause-syntax : goal.returns-clause-syntax
returns-clause-syntax c =
    refuses_where c.plan_in.result (plan_of_size c.args.size c.args.bytes.now) refusal.Syntax (document_of c.args.bytes.now ≡ None) c.plan_in.ensures.exact (syntax_law c.args.size c.args.bytes.now)

pub returns-clause-key : goal.returns-clause-key
returns-clause-key c = λ place.
    refuses_where c.plan_in.result (plan_of_size c.args.size c.args.bytes.now) (refusal.Key place) (OfDocument c.args.bytes.now (λ document. IsFirstBroken document place (refusal.Key place)))
    c.plan_in.ensures.exact (table_law c.args.size c.args.bytes.now place (refusal.Key place) refl)

pub returns-clause-kind : goal.returns-clause-kind
returns-clause-kind c = λ place.
    refuses_where c.plan_in.result (plan_of_size c.args.size c.args.bytes.now) (refusal.Kind place) (OfDocument c.args.bytes.now (λ document. IsFirstBroken document place (refusal.Kind place)))
    c.plan_in.ensures.exact (table_law c.args.size c.args.bytes.now place (refusal.Kind place) refl)

pub returns-clause-rows : goal.returns-clause-rows
returns-clause-rows c = λ error.
    refuses_where c.plan_in.result (plan_of_size c.args.size c.args.bytes.now) (refusal.Plan error) (GivesRows c.args.size c.args.bytes.now (Err error))
    c.plan_in.ensures.exact (refused_rows_law c.args.size c.args.bytes.now error)

pub returns-clause-versions : goal.returns-clause-versions
returns-clause-versions c = both_versions
