-- A network without ways back is settled once all that it waits for has run out and the longest time of its lines has passed.
use Rattle.std.proofs.Common.{◌≤◌, ◌<◌, ◌+◌, ℕ, zero, suc, inl, inr, arith}
use Rattle.std.specs.Prelude.{IsTrue}
use Rattle.sync_topo.specs.declared.input.InputId.{InputId}
use Rattle.sync_topo.specs.declared.input.InputId.TheVariants.{Line, Source}
use Rattle.sync_topo.specs.Topology.{Topology}
use Rattle.sync_topo.specs.Lines.{sender_of, delay_of, IsNominated}
use Rattle.sync_topo.specs.Hops.{hops, Hops}
use Rattle.sync_topo.specs.Ranks.{HopTest}
use Rattle.sync_topo.proofs.LineLaws.{IsNominated-within}
use Rattle.net_rules.specs.Signals.{Signals}
use Rattle.net_rules.specs.Inputs.{IsInputOf}
use Rattle.net_rules.specs.History.{Levels, Obeys}
use Rattle.net_rules.specs.Settled.{IsSettled}
use Rattle.net_rules.specs.Settling.{IsOneWay}
use Rattle.net_rules.proofs.Backs.{hop-or_back, hop-nominated}
use Rattle.net_rules.proofs.HistoryLaws.{IsDelayed}
use Rattle.net_rules.proofs.QuietLaws.{InputStays, element-stays, sent-stays}
use Rattle.net_rules.proofs.RunOutLaws.{RunsOut}
use Rattle.net_rules.proofs.WaitLaws.{CarriesOne, line-stays, source-stays, carried-settles}

-- each line's time is no less than that of a line before it, and that one's delay
abbrev pub AreLateOver : HopTest → Topology → (ℕ → ℕ) → Type 0
AreLateOver hop plan time = (before line : ℕ) → IsTrue (hop before line) → time before + delay_of plan before ≤ time line

-- what the bound rests on: times over hops that are at most `top`, and all else has run out
pub record SettlesBy (plan : Topology) (signals : Signals) (out : Levels) (time : ℕ → ℕ) (last wait top delay : ℕ) : Type 0 where
  pub runs_out : RunsOut plan signals out last wait delay
  pub one_way : IsOneWay plan
  pub late : AreLateOver (hops plan) plan time
  pub times : (line : ℕ) → IsNominated plan line → time line ≤ top

module _ (plan : Topology) (signals : Signals) (out : Levels) (time : ℕ → ℕ) (last wait top delay : ℕ)
    (by : SettlesBy plan signals out time last wait top delay) (delayed : IsDelayed plan) (obeys : Obeys plan signals out) where
  -- a line carries one level from its time on, where each line that hops to it does from its own
  carries-step : (line : ℕ) → IsNominated plan line → ((before : ℕ) → Hops plan before line → CarriesOne out before (last + wait + time before))
      → CarriesOne out line (last + wait + time line)
  carries-step line nominated lower t since =
      sent-stays plan signals out t (suc t) line obeys (IsNominated-within plan line nominated)
      (element-stays plan signals out t (sender_of plan line) (by.runs_out.quiet.commands (sender_of plan line) t (omega (arith, since))) stays)
    where
      stays : (input : InputId) → IsInputOf plan (sender_of plan line) input → InputStays plan signals out input t
      stays (Source source) is = source-stays plan signals out last wait delay by.runs_out delayed obeys source t is.has is.nominated (omega (arith, since))
      stays (Line before) is = elim (hop-or_back plan before.0 line is.nominated nominated is.of_element) [
        | inl hop ↦ line-stays plan signals out last wait delay by.runs_out delayed obeys before.0 (last + wait + time before.0) t is.nominated (lower before.0 hop)
            (omega arith) (omega (arith, since, by.late before.0 line hop)) (omega (arith, since))
        | inr back ↦ absurd (by.one_way before.0 line is.nominated nominated back)
      ]

  earlier : (before line : ℕ) → Hops plan before line → time before < time line
  earlier before line hop = omega (arith, by.late before line hop, delayed before (hop-nominated plan before line hop))

  carries-one : (r line : ℕ) → IsNominated plan line → time line ≤ r → CarriesOne out line (last + wait + time line)
  carries-one zero line nominated low = carries-step line nominated (λ before hop. absurd (omega (arith, earlier before line hop, low)))
  carries-one (suc r) line nominated low =
      carries-step line nominated (λ before hop. carries-one r before (hop-nominated plan before line hop) (omega (arith, earlier before line hop, low)))

  -- so the network is settled a delay after the longest of these times
  pub settles-from : (t : ℕ) → last + wait + top + delay ≤ t → IsSettled plan signals out t
  settles-from t after =
      carried-settles plan signals out last wait delay by.runs_out delayed obeys (last + wait + top) t
      (λ line nominated u since. carries-one (time line) line nominated (omega arith) u (omega (arith, since, by.times line nominated)))
      (omega arith) (omega (arith, after)) (omega (arith, after))
