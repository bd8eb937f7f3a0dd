-- The settling bound of a plan, by its own least ranks, delays and times.
use Rattle.std.proofs.Common.{◌≡◌, ◌≤◌, ◌+◌, ◌*◌, ℕ, suc, Bool, true, false, Option, None, Some, slice_get, refl, sym, ◌∙◌, inl, inr, arith}
use Rattle.std.specs.Prelude.{IsTrue}
use Rattle.std.specs.Option.{option_map_or}
use Rattle.std.proofs.lemmas.Bool.{true≢false}
use Rattle.std.proofs.lemmas.Nat.{mul-le}
use Rattle.sync_ql.specs.Messages.{hearing_time}
use Rattle.sync_topo.specs.declared.element.Element.{Element}
use Rattle.sync_topo.specs.Topology.{Topology}
use Rattle.sync_topo.specs.Lines.{delay_of, is_nominated, IsNominated}
use Rattle.sync_topo.specs.Hops.{hops}
use Rattle.sync_topo.specs.Ranks.{HopTest, Rises, IsLeastRank}
use Rattle.net_rules.specs.Signals.{Signals}
use Rattle.net_rules.specs.History.{Levels, Obeys}
use Rattle.net_rules.specs.Settings.{timers_of}
use Rattle.net_rules.specs.Settled.{IsSettled}
use Rattle.net_rules.specs.Staying.{IsQuietAfter}
use Rattle.net_rules.specs.Settling.{IsGreatest, IsDelay, IsWait, IsSettlingBound}
use Rattle.net_rules.proofs.Backs.{hop-nominated, hop-nominates}
use Rattle.net_rules.proofs.HistoryLaws.{IsDelayed}
use Rattle.net_rules.proofs.RunOutLaws.{RunsOut, times-run_out}
use Rattle.net_rules.proofs.SettlingLaws.{AreLateOver, settles-from}

-- each nominated line has its least rank over a test of hops
abbrev pub AreRanked : HopTest → Topology → Type 0
AreRanked hop plan = (line : ℕ) → IsNominated plan line → (rank : ℕ) × IsLeastRank hop line rank

-- least ranks as a function: 0 where a line isn't nominated
rank_if : (hop : HopTest) (plan : Topology) → AreRanked hop plan → (line : ℕ) (nominated : Bool) → is_nominated plan line ≡ nominated → ℕ
rank_if hop plan ranked line true is = (ranked line is).0
rank_if hop plan ranked line false is = 0

pub rank_by : (hop : HopTest) (plan : Topology) → AreRanked hop plan → ℕ → ℕ
rank_by hop plan ranked line = rank_if hop plan ranked line (is_nominated plan line) refl

pub least-by : (hop : HopTest) (plan : Topology) (ranked : AreRanked hop plan) → (line : ℕ) → IsNominated plan line → IsLeastRank hop line (rank_by hop plan ranked line)
unfolding rank_by rank_if
least-by hop plan ranked line nominated = of (is_nominated plan line) refl
  where
    of : (b : Bool) (is : is_nominated plan line ≡ b) → IsLeastRank hop line (rank_if hop plan ranked line b is)
    of true is = (ranked line is).1
    of false is = absurd (true≢false (sym nominated ∙ is))

-- they rise where only nominated lines hop
pub rises-by : (hop : HopTest) (plan : Topology) (ranked : AreRanked hop plan)
    → ((line next : ℕ) → IsTrue (hop line next) → IsNominated plan line × IsNominated plan next) → Rises hop (rank_by hop plan ranked)
rises-by hop plan ranked nominated line next hops =
    let first = least-by hop plan ranked line (nominated line next hops).0 in
    let second = least-by hop plan ranked next (nominated line next hops).1 in
    omega (arith, second.longest (suc (rank_by hop plan ranked line)) (line, hops, first.walked))

holdoff-within : (plan : Topology) (wait delay : ℕ) → ((time : ℕ) → IsWait plan delay time → time ≤ wait) → (element : ℕ) → (timers_of plan element).holdoff ≤ wait
holdoff-within plan wait delay most element = of (slice_get plan.elements element) refl
  where
    of : (o : Option Element) → slice_get plan.elements element ≡ o → option_map_or (λ (e : Element). e.holdoff) o 0 ≤ wait
    of None is = omega arith
    of (Some it) is = most it.holdoff (inl (record { place = element; element = it; has = is; is = inl refl }))

restore-within : (plan : Topology) (wait delay : ℕ) → ((time : ℕ) → IsWait plan delay time → time ≤ wait) → (element : ℕ) → (timers_of plan element).wtr ≤ wait
restore-within plan wait delay most element = of (slice_get plan.elements element) refl
  where
    of : (o : Option Element) → slice_get plan.elements element ≡ o → option_map_or (λ (e : Element). e.wtr) o 0 ≤ wait
    of None is = omega arith
    of (Some it) is = most it.wtr (inl (record { place = element; element = it; has = is; is = inr refl }))

-- with the greatest delay and the longest wait every time runs out
pub runs-out : (plan : Topology) (signals : Signals) (out : Levels) (last wait delay : ℕ) → IsGreatest (IsDelay plan) delay → IsGreatest (IsWait plan delay) wait
    → IsQuietAfter signals last → RunsOut plan signals out last wait delay
runs-out plan signals out last wait delay greatest_delay greatest_wait quiet =
    times-run_out plan signals out last wait delay (record {
      delays = λ line nominated. greatest_delay.most (delay_of plan line) (record { line = line; nominated = nominated; is = refl });
      holdoffs = holdoff-within plan wait delay greatest_wait.most;
      restores = restore-within plan wait delay greatest_wait.most;
      hearing = greatest_wait.most (hearing_time + delay) (inr refl);
    }) quiet

-- ranks times the greatest delay are times
pub ranks-late : (hop : HopTest) (plan : Topology) (rank : ℕ → ℕ) (delay : ℕ) → ((line : ℕ) → IsNominated plan line → delay_of plan line ≤ delay)
    → ((before line : ℕ) → IsTrue (hop before line) → IsNominated plan before) → Rises hop rank → AreLateOver hop plan (λ line. rank line * delay)
ranks-late hop plan rank delay delays nominated rises before line hops =
    let more : (rank before + 1) * delay ≤ rank line * delay = mul-le (rank before + 1) delay (rank line) delay (omega (arith, rises before line hops)) (omega arith) in
    omega (arith, more, delays before (nominated before line hops))

pub bound-settles : (plan : Topology) (signals : Signals) (out : Levels) (last bound t : ℕ) → IsDelayed plan → Obeys plan signals out
    → IsSettlingBound plan last bound → IsQuietAfter signals last → bound ≤ t → IsSettled plan signals out t
bound-settles plan signals out last bound t delayed obeys is quiet after =
    settles-from plan signals out (λ line. rank_by (hops plan) plan is.ranked line * is.delay) last is.wait (is.rank * is.delay) is.delay (record {
      runs_out = run_out;
      one_way = is.one_way;
      late = ranks-late (hops plan) plan (rank_by (hops plan) plan is.ranked) is.delay run_out.delays (hop-nominated plan)
          (rises-by (hops plan) plan is.ranked (λ line next hop. (hop-nominated plan line next hop, hop-nominates plan line next hop)));
      times = λ line nominated.
          mul-le (rank_by (hops plan) plan is.ranked line) is.delay is.rank is.delay (is.greatest_rank.most (rank_by (hops plan) plan is.ranked line) (record { line = line; nominated = nominated; is = least-by (hops plan) plan is.ranked line nominated })) (omega arith);
    }) delayed obeys t (omega (arith, after, is.is))
  where
    run_out : RunsOut plan signals out last is.wait is.delay
    run_out = runs-out plan signals out last is.wait is.delay is.greatest_delay is.greatest_wait quiet
