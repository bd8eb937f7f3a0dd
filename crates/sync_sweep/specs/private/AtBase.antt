-- Private to this crate: a branch that stands where it began, and one that runs on.
use Rattle.std.specs.Prelude.{◌≡◌, ◌<◌, ◌+◌, ℕ, false, List, length}
use Rattle.sync_topo.specs.declared.event.Event.{Event}
use Rattle.event_times.specs.EventTimes.{AreTold}
use Rattle.sync_net.specs.NetState.{NetState}
use Rattle.sync_net.specs.Standing.{StandsFor}
use Rattle.sync_sweep.specs.declared.branch.Branch.{Branch}
use Rattle.sync_sweep.specs.private.Branching.{IsBranch, AreMarksOf}
use Rattle.sync_sweep.specs.private.ShownNow.{AreShown}
use Rattle.sync_sweep.specs.private.Spells.{AreNone}

-- it stands where it began: nothing is touched, and nothing was ever worse
pub record IsAtBase (base : NetState) (branch : Branch) : Type 0 where
  pub marked : IsBranch base branch.net branch.touched
  pub same : branch.net ≡ base
  pub shown : AreShown base branch.shown
  pub spells : AreNone (length base.plan.elements) branch.spells.items

-- it can run on from a millisecond: it has come up to there, it is known what it shows, and nothing is
-- noted of what was worse
pub record CanRun (from : ℕ) (branch : Branch) : Type 0 where
  pub live : branch.net.spent ≡ false
  pub next : branch.net.next ≡ from
  pub elements : 0 < length branch.net.plan.elements
  pub marks : AreMarksOf branch.net.plan branch.touched
  pub shown : AreShown branch.net branch.shown
  pub spells : AreNone (length branch.net.plan.elements) branch.spells.items

-- it has run from a millisecond up to and with another, in which it was told these events
pub record HasRun (told : List Event) (from until : ℕ) (before after : Branch) : Type 0 where
  pub plan : after.net.plan ≡ before.net.plan
  pub ready : CanRun (until + 1) after
  pub stands : (all : List Event) → AreTold before.net.plan all from until told → StandsFor before.net all from → StandsFor after.net all (until + 1)
  pub branch : (base : NetState) → IsBranch base before.net before.touched → IsBranch base after.net after.touched
