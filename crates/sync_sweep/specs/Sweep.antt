-- What becomes of a network where one link alone fails: a row for each link. This project's own.
use Rattle.std.specs.Prelude.{◌≡◌, ℕ, List, [], ◌∷◌, length}
use Rattle.std.specs.List.{AllZip, range_with_len}
use Rattle.sync_topo.specs.declared.event.Event.{Event}
use Rattle.sync_topo.specs.declared.event.What.TheVariants.{Down}
use Rattle.sync_topo.specs.declared.event.Part.TheVariants as part
use Rattle.sync_topo.specs.Topology.{Topology}
use Rattle.sync_sweep.specs.declared.row.SweepRow.{SweepRow}
use Rattle.sync_sweep.specs.Outcomes.{IsShown, IsBoundAfter}

-- all events of the run of a link: it goes down in a millisecond, and nothing else happens
abbrev pub failure : ℕ → ℕ → List Event
failure at link = record { at = at; what = Down (part.Link link) } ∷ []

-- the row of a link that goes down in a millisecond, at the end of another; the settling bound is that
-- after the failure
pub record IsSweepRow (plan : Topology) (at until link : ℕ) (row : SweepRow) : Type 0 where
  pub link_is : row.link ≡ link
  pub shown : IsShown plan (failure at link) until row.outcome
  pub bound : IsBoundAfter plan at row.outcome.bound

-- the rows of some links, one after another
abbrev pub AreRows : Topology → ℕ → ℕ → List ℕ → List SweepRow → Type 0
AreRows plan at until links rows = AllZip (IsSweepRow plan at until) links rows

-- the rows of all links, in order
abbrev pub AreSweepRows : Topology → ℕ → ℕ → List SweepRow → Type 0
AreSweepRows plan at until rows = AreRows plan at until (range_with_len 0 (length plan.links)) rows
