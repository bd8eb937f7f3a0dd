-- What a done `protect` says of the plan that was written: no timing loop can form in it, and it survives each failure.
use Rattle.std.proofs.Common.{ℕ, List, Option}
use Rattle.std.specs.Io.KnownBytes.{Appends}
use Rattle.sync_edge.specs.Contents.{Contents}
use Rattle.sync_topo.specs.Topology.{Topology}
use Rattle.net_rules.specs.Safety.{IsLoopFree}
use Rattle.net_rules.proofs.FinalLaws.{loop_free}
use Rattle.reach_rules.specs.Protection.{IsProtected}
use Rattle.reach_rules.proofs.SurvivalLaws.{survives-each, survives-each_soon}
use Rattle.protection.specs.Orderly.{IsFound}
use Rattle.sync_top.specs.declared.status.Status.TheVariants.{Done}
use Rattle.sync_top.specs.declared.form.PlanForm.TheVariants.{Protect}
use Rattle.sync_top.specs.Form.{Form, on_plan}
use Rattle.sync_top.specs.Reading.{plan_in}
use Rattle.sync_top.specs.Forms.Protect.{IsProtectingText}
use Rattle.sync_top.specs.Answer.{FormAnswer}
use Rattle.sync_top.specs.Survival.{Protects, IsSurvivor}
use Rattle.sync_top.proofs.Accepted.{never_done}
use Rattle.sync_top.proofs.LoopFree.{answer-to, done-read}

-- what holds of a plan that is found and protected
module _ (P : Topology → Type 0) (holds : (plan found : Topology) → IsFound plan found → IsProtected found → P found) (before now : Option (List ℕ))
  where
    pub form-protects : (form : Option Form) (files : Contents) (text : List ℕ) → Appends before now text → FormAnswer form files Done text
        → Protects P form before now files
    form-protects form files text appends answer = λ name is.
        let read = done-read IsProtectingText (plan_in name files) text (never_done name files) (answer-to form (on_plan Protect name) files text answer is) in
        let given = read.2 in
        (read.0, read.1, (text, appends, (given.0, given.4, holds read.0 given.0 given.1 given.2)))

-- no timing loop can form in it
pub found-loop_free : (plan found : Topology) → IsFound plan found → IsProtected found → IsLoopFree found
found-loop_free plan found is protected =
    let ranks = is.orderly.rising in loop_free found ranks.0 is.orderly.well_formed ranks.1

-- and it survives each of its failures
pub found-survives : (plan found : Topology) → IsFound plan found → IsProtected found → IsSurvivor found
found-survives plan found is protected =
    let bound = is.orderly.bound in
    let failures = is.orderly.failures in
    record {
      bound = bound.0;
      agreed = bound.1;
      survives = survives-each found bound.0 is.orderly.well_formed bound.1 protected;
      failures = failures.0;
      failed = failures.1;
      soon = survives-each_soon found failures.0 is.orderly.well_formed failures.1 protected;
    }
