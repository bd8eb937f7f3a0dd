-- A line carries its sender's level, but where it goes back from the line that the sender takes.
use Rattle.std.proofs.Common.{◌≡◌, ◌<◌, ℕ, Bool, true, false, Option, None, Some, refl, ◌∙◌}
use Rattle.std.specs.Prelude.{IsTrue}
use Rattle.sync_topo.specs.declared.input.InputId.{InputId}
use Rattle.sync_topo.specs.declared.input.InputId.TheVariants.{Line, Source}
use Rattle.sync_topo.specs.Topology.{Topology}
use Rattle.sync_topo.specs.Lines.{line_count, line_input, sender_of}
use Rattle.sync_topo.specs.Hops.{goes_back}
use Rattle.net_rules.specs.Signals.{Signals}
use Rattle.net_rules.specs.History.{Levels, taken_at, level_at, is_way_back, sent_level, Obeys}

-- a line that doesn't lead back is sent its sender's level
pub sent-own : (plan : Topology) (signals : Signals) (out : Levels) (line t : ℕ) → is_way_back plan (taken_at plan signals out (sender_of plan line) t) line ≡ false
    → sent_level plan signals out line t ≡ level_at plan signals out (sender_of plan line) t
unfolding sent_level taken_at level_at
sent-own plan signals out line t not_back = rw not_back refl

-- the line that an element takes, where another one leads back from it
pub record GoesBackFrom (plan : Topology) (taken : Option InputId) (line : ℕ) : Type 0 where
  pub before : ℕ
  pub is : taken ≡ Some (line_input before)
  pub back : IsTrue (goes_back plan before line)

pub goes-back-from : (plan : Topology) (taken : Option InputId) (line : ℕ) → is_way_back plan taken line ≡ true → GoesBackFrom plan taken line
goes-back-from plan None line back = cc
goes-back-from plan (Some (Source source)) line back = cc
goes-back-from plan (Some (Line before)) line back = record { before = before.0; is = refl; back = back }

pub passed-on : (plan : Topology) (signals : Signals) (out : Levels) (line t : ℕ) → Obeys plan signals out → line < line_count plan
    → ((taken : ℕ) → taken_at plan signals out (sender_of plan line) t ≡ Some (line_input taken) → IsTrue (goes_back plan taken line) → ⊥)
    → out line t ≡ level_at plan signals out (sender_of plan line) t
passed-on plan signals out line t obeys within not_back = by (is_way_back plan (taken_at plan signals out (sender_of plan line) t) line) refl
  where
    by : (back : Bool) → is_way_back plan (taken_at plan signals out (sender_of plan line) t) line ≡ back
        → out line t ≡ level_at plan signals out (sender_of plan line) t
    by false is = obeys line t within ∙ sent-own plan signals out line t is
    by true is =
        let from = goes-back-from plan (taken_at plan signals out (sender_of plan line) t) line is in
        absurd (not_back from.before from.is from.back)
