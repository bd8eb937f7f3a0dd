-- Private to this crate: what the cases of a study have in common, and its cases.
use Rattle.std.specs.Prelude.{◌≡◌, ◌≤◌, ◌<◌, ℕ, false, List}
use Rattle.std.specs.List.{All}
use Rattle.sync_topo.specs.declared.event.Case.{Case}
use Rattle.sync_topo.specs.declared.event.Event.{Event}
use Rattle.sync_topo.specs.Events.{IsCase, IsEventList}
use Rattle.sync_net.specs.Standing.{StandsFor}
use Rattle.sync_sweep.specs.declared.common.Study.{Study}
use Rattle.sync_sweep.specs.Outcomes.{IsBoundAfter}
use Rattle.sync_sweep.specs.private.Base.{AreCommonBefore}

-- the network stands, where it has come to, for all events of every run that has just the common ones before
pub record IsStudy (study : Study) : Type 0 where
  pub live : study.base.now.spent ≡ false
  pub begun : study.base.now.next ≡ study.from
  pub stands : (all : List Event) → AreCommonBefore study.base.now.plan study.common.now study.from all → StandsFor study.base.now all study.from
  pub common : IsEventList study.base.now.plan study.common.now
  pub in_order : study.from ≤ study.until
  pub in_range : study.until ≤ 86400000
  pub bound : IsBoundAfter study.base.now.plan study.until study.bound

-- nothing happens in a case alone before the study begins
pub record IsCaseOf (study : Study) (case : Case) : Type 0 where
  pub fits : IsCase study.base.now.plan case
  pub later : All (λ event. study.from ≤ event.at) case.events

abbrev pub AreCasesOf : Study → List Case → Type 0
AreCasesOf study cases = All (IsCaseOf study) cases
