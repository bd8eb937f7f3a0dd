-- Two ways in which all that a network waits for runs out: after the last event, once every time has run out; and out of a settled
-- millisecond after which it only loses parts, once every hold-off time has.
use Rattle.std.proofs.Common.{◌≡◌, ◌≤◌, ◌<◌, ◌+◌, ◌-◌, ℕ, zero, suc, Bool, true, false, not, ◌&&◌, None, is_some, refl, ap, sym, subst, ◌∙◌, inl, inr, arith}
use Rattle.std.specs.Prelude.{IsTrue, nat_lt, if◌then◌else◌}
use Rattle.std.proofs.Math.Decide.{dec_lt}
use Rattle.std.proofs.lemmas.Bool.{true≢false, le-ltb, lt-ltb}
use Rattle.sync_ql.specs.Pasts.{past_of}
use Rattle.sync_ql.specs.Condition.{Signal, Timers, down_for, up_for, failed_at}
use Rattle.sync_ql.specs.Messages.{came, hearing_time}
use Rattle.sync_topo.specs.declared.input.InputId.{InputId}
use Rattle.sync_topo.specs.Topology.{Topology}
use Rattle.sync_topo.specs.Lines.{line_input, delay_of, IsInput, IsNominated, is_nominated_input, element_of}
use Rattle.net_rules.specs.Signals.{Signals, speaks_at}
use Rattle.net_rules.specs.History.{Levels, line_moment_at, heard, failed_by}
use Rattle.net_rules.specs.Settings.{timers_of, signal_at}
use Rattle.net_rules.specs.Settled.{is_sent_at, IsOnWay, IsSteady}
use Rattle.net_rules.specs.Staying.{IsQuietAfter}
use Rattle.net_rules.specs.Losing.{IsLosing}
use Rattle.net_rules.proofs.HistoryLaws.{IsDelayed}
use Rattle.net_rules.proofs.Arrivals.{came-or_not, sent-said}
use Rattle.net_rules.proofs.PairLaws.{silent-said, silent-unheard}
use Rattle.net_rules.proofs.QuietLaws.{steady-next, still_unheard}

-- what has run out so long after the last event: no time of a nominated input runs, and on a nominated line that is up and
-- doesn't speak nothing is heard, and nothing is on its way
pub record RunsOut (plan : Topology) (signals : Signals) (out : Levels) (last wait delay : ℕ) : Type 0 where
  pub quiet : IsQuietAfter signals last
  pub delays : (line : ℕ) → IsNominated plan line → delay_of plan line ≤ delay
  pub steady : (input : InputId) → IsInput plan input → IsTrue (is_nominated_input plan input) → (t : ℕ) → last + wait ≤ t → IsSteady plan signals input t
  pub silent : (line : ℕ) → IsNominated plan line → (t : ℕ) → last + wait ≤ t → signals.up (line_input line) t ≡ true → signals.esmc line t ≡ false
      → heard plan signals out line t ≡ None
  pub nothing_on_way : (line : ℕ) → IsNominated plan line → (t : ℕ) → last + wait ≤ t → signals.up (line_input line) t ≡ true → signals.esmc line t ≡ false
      → (from : ℕ) → is_sent_at signals out line from ≡ true → IsOnWay plan signals line from t → ⊥

-- what doesn't change from a millisecond on is as it was there
pub constant : {A : Type 0} (f : ℕ → A) (from k : ℕ) → ((u : ℕ) → from ≤ u → f (suc u) ≡ f u) → f (k + from) ≡ f from
constant f from zero same = ap f (omega arith)
constant f from (suc k) same =
    let e : suc k + from ≡ suc (k + from) = omega arith in
    ap f e ∙ same (k + from) (omega arith) ∙ constant f from k same

pub constant-at : {A : Type 0} (f : ℕ → A) (from t : ℕ) → ((u : ℕ) → from ≤ u → f (suc u) ≡ f u) → from ≤ t → f t ≡ f from
constant-at f from t same after =
    let e : (t - from) + from ≡ t = omega (arith, after) in
    ap f (sym e) ∙ constant f from (t - from) same

-- down or up for so long
down-long : (f : ℕ → Signal) (from k : ℕ) → ((u : ℕ) → from ≤ u → (f u).up ≡ false) → suc k ≤ down_for (past_of f (suc (k + from)))
down-long f from zero down = rw (down (0 + from) (omega arith)) (omega arith)
down-long f from (suc k) down =
    let e : suc k + from ≡ suc (k + from) = omega arith in
    rw (e, down (suc (k + from)) (omega arith)) (omega (arith, down-long f from k down))

up-long : (f : ℕ → Signal) (from k : ℕ) → ((u : ℕ) → from ≤ u → (f u).up ≡ true) → suc k ≤ up_for (past_of f (suc (k + from)))
up-long f from zero up = rw (up (0 + from) (omega arith)) (omega arith)
up-long f from (suc k) up =
    let e : suc k + from ≡ suc (k + from) = omega arith in
    rw (e, up (suc (k + from)) (omega arith)) (omega (arith, up-long f from k up))

failed-long : (timers : Timers) (f : ℕ → Signal) (t : ℕ) → timers.holdoff < down_for (past_of f (suc t)) → failed_at timers (past_of f (suc t)) ≡ true
unfolding failed_at
failed-long timers f t long = rw (lt-ltb timers.holdoff (down_for (past_of f (suc t))) long) refl

good-long : (timers : Timers) (f : ℕ → Signal) (t : ℕ) → (f t).up ≡ true → timers.wtr < up_for (past_of f (suc t)) → failed_at timers (past_of f (suc t)) ≡ false
unfolding failed_at
good-long timers f t up long =
    rw (
      ap (λ b. nat_lt timers.holdoff (if b then 0 else down_for (past_of f t) + 1)) up ∙ le-ltb timers.holdoff 0 (omega arith),
      lt-ltb timers.wtr (up_for (past_of f (suc t))) long,
    ) refl

-- an input that is down from a millisecond on is failed a hold-off time later, and one that is up is good a wait-to-restore time later
down-failed : (plan : Topology) (signals : Signals) (input : InputId) (last t : ℕ) → IsQuietAfter signals last → last + (timers_of plan (element_of plan input)).holdoff ≤ t
    → signals.up input last ≡ false → IsSteady plan signals input t
unfolding failed_by
down-failed plan signals input last t quiet after down =
    failed-long (timers_of plan (element_of plan input)) (signal_at signals input) t
    (omega (
      arith,
      after,
      subst (λ n. suc (t - last) ≤ down_for (past_of (signal_at signals input) (suc n))) e (down-long (signal_at signals input) last (t - last) (λ u since. is u since)),
    ))
    ∙ ap not (sym (is t (omega (arith, after))))
  where
    e : (t - last) + last ≡ t
    e = omega (arith, after)

    is : (u : ℕ) → last ≤ u → signals.up input u ≡ false
    is u since = constant-at (signals.up input) last u (λ v later. quiet.up input v later) since ∙ down

up-good : (plan : Topology) (signals : Signals) (input : InputId) (last t : ℕ) → IsQuietAfter signals last → last + (timers_of plan (element_of plan input)).wtr ≤ t
    → signals.up input last ≡ true → IsSteady plan signals input t
unfolding failed_by
up-good plan signals input last t quiet after up =
    good-long (timers_of plan (element_of plan input)) (signal_at signals input) t (is t (omega (arith, after)))
    (omega (
      arith,
      after,
      subst (λ n. suc (t - last) ≤ up_for (past_of (signal_at signals input) (suc n))) e (up-long (signal_at signals input) last (t - last) (λ u since. is u since)),
    ))
    ∙ ap not (sym (is t (omega (arith, after))))
  where
    e : (t - last) + last ≡ t
    e = omega (arith, after)

    is : (u : ℕ) → last ≤ u → signals.up input u ≡ true
    is u since = constant-at (signals.up input) last u (λ v later. quiet.up input v later) since ∙ up

silent-speaks : (signals : Signals) (line t : ℕ) → signals.esmc line t ≡ false → speaks_at signals line t ≡ false
silent-speaks signals line t off = of (signals.up (line_input line) t) (signals.esmc line t) off
  where
    of : (up esmc : Bool) → esmc ≡ false → (up && esmc) ≡ false
    of true esmc is = is
    of false esmc is = refl

-- what isn't said isn't sent
unsent : (signals : Signals) (out : Levels) (line from : ℕ) → signals.esmc line from ≡ false → is_sent_at signals out line from ≡ true → ⊥
unsent signals out line from off sent =
    true≢false (sym (sent-said (line_moment_at signals out line) from sent) ∙ ap is_some (silent-said signals out line from (silent-speaks signals line from off)))

-- after the last event, once every time of the plan has run out
pub record AreTimes (plan : Topology) (wait delay : ℕ) : Type 0 where
  pub delays : (line : ℕ) → IsNominated plan line → delay_of plan line ≤ delay
  pub holdoffs : (element : ℕ) → (timers_of plan element).holdoff ≤ wait
  pub restores : (element : ℕ) → (timers_of plan element).wtr ≤ wait
  pub hearing : hearing_time + delay ≤ wait

pub times-run_out : (plan : Topology) (signals : Signals) (out : Levels) (last wait delay : ℕ) → AreTimes plan wait delay → IsQuietAfter signals last
    → RunsOut plan signals out last wait delay
times-run_out plan signals out last wait delay times quiet = record {
  quiet = quiet;
  delays = times.delays;
  steady = λ input has nominated t after. of input t after (signals.up input last) refl;
  silent = λ line nominated t after up is.
      silent-unheard plan signals out line last t (λ u since before. silent-speaks signals line u (off line t u (omega (arith, after)) since is))
      (omega (arith, after, times.hearing, times.delays line nominated));
  nothing_on_way = λ line nominated t after up is from sent way.
      unsent signals out line from (off line t from (omega (arith, after)) (omega (arith, way.recent, after, times.hearing, times.delays line nominated)) is) sent;
}
  where
    of : (input : InputId) (t : ℕ) → last + wait ≤ t → (up : Bool) → signals.up input last ≡ up → IsSteady plan signals input t
    of input t after true up = up-good plan signals input last t quiet (omega (arith, after, times.restores (element_of plan input))) up
    of input t after false down = down-failed plan signals input last t quiet (omega (arith, after, times.holdoffs (element_of plan input))) down

    off : (line t u : ℕ) → last ≤ t → last ≤ u → signals.esmc line t ≡ false → signals.esmc line u ≡ false
    off line t u after since is =
        constant-at (signals.esmc line) last u (λ v later. quiet.esmc line v later) since
        ∙ sym (constant-at (signals.esmc line) last t (λ v later. quiet.esmc line v later) after)
        ∙ is

-- where a network only loses parts, once every hold-off time has run out: what is up was up in the settled millisecond
module _ (plan : Topology) (signals : Signals) (out : Levels) (settled last : ℕ) (losing : IsLosing plan signals out settled last) (delayed : IsDelayed plan) where
  pub up-since : (input : InputId) (k u : ℕ) → settled ≤ u → signals.up input (k + u) ≡ true → signals.up input u ≡ true
  up-since input zero u after up = ap (signals.up input) (omega arith) ∙ up
  up-since input (suc k) u after up =
      let e : suc (k + u) ≡ suc k + u = omega arith in
      up-since input k u after (losing.quick.up input (k + u) (omega (arith, after)) (ap (signals.up input) e ∙ up))

  off-since : (line k u : ℕ) → settled ≤ u → signals.esmc line (k + u) ≡ false → signals.esmc line u ≡ false
  off-since line zero u after off = ap (signals.esmc line) (omega arith) ∙ off
  off-since line (suc k) u after off =
      let e : suc (k + u) ≡ suc k + u = omega arith in
      off-since line k u after (losing.quick.esmc line (k + u) (omega (arith, after)) (ap (signals.esmc line) e ∙ off))

  pub up-back : (input : InputId) (u t : ℕ) → settled ≤ u → u ≤ t → signals.up input t ≡ true → signals.up input u ≡ true
  up-back input u t after until up =
      let e : (t - u) + u ≡ t = omega (arith, until) in
      up-since input (t - u) u after (ap (signals.up input) e ∙ up)

  off-back : (line u t : ℕ) → settled ≤ u → u ≤ t → signals.esmc line t ≡ false → signals.esmc line u ≡ false
  off-back line u t after until off =
      let e : (t - u) + u ≡ t = omega (arith, until) in
      off-since line (t - u) u after (ap (signals.esmc line) e ∙ off)

  -- so it is good
  up-steady : (input : InputId) (k : ℕ) → IsInput plan input → IsTrue (is_nominated_input plan input) → signals.up input (k + settled) ≡ true
      → IsSteady plan signals input (k + settled)
  up-steady input zero has nominated up =
      let e : settled ≡ 0 + settled = omega arith in
      subst (IsSteady plan signals input) e (losing.rests.steady input has nominated)
  up-steady input (suc k) has nominated up =
      let e : suc (k + settled) ≡ suc k + settled = omega arith in
      let next : signals.up input (suc (k + settled)) ≡ true = ap (signals.up input) e ∙ up in
      let now : signals.up input (k + settled) ≡ true = losing.quick.up input (k + settled) (omega arith) next in
      subst (IsSteady plan signals input) e (steady-next plan signals input (k + settled) (up-steady input k has nominated now) (next ∙ sym now))

  -- nothing that went out is on its way on a silent line
  none-on_way : (line t from : ℕ) → IsNominated plan line → settled ≤ t → signals.up (line_input line) t ≡ true → signals.esmc line t ≡ false
      → is_sent_at signals out line from ≡ true → from ≤ t → settled < from + delay_of plan line
      → ((u : ℕ) → from ≤ u → u ≤ settled → signals.up (line_input line) u ≡ true) → ⊥
  none-on_way line t from nominated after up off sent begun recent ups = elim (dec_lt settled from) [
    | yes since ↦ unsent signals out line from (off-back line from t (omega (arith, since)) begun off) sent
    | no before ↦
        losing.rests.nothing_on_way line nominated (up-back (line_input line) settled t (omega arith) after up) (off-back line settled t (omega arith) after off) from sent
        (record { begun = omega (arith, before); recent = recent; up = ups })
  ]

  -- and it isn't heard
  unheard-since : (line k : ℕ) → IsNominated plan line → signals.up (line_input line) (k + settled) ≡ true → signals.esmc line (k + settled) ≡ false
      → heard plan signals out line (k + settled) ≡ None
  unfolding heard
  unheard-since line zero nominated up off =
      let e : settled ≡ 0 + settled = omega arith in
      ap (heard plan signals out line) (sym e)
      ∙ losing.rests.silent line nominated (ap (signals.up (line_input line)) e ∙ up) (ap (signals.esmc line) e ∙ off)
  unheard-since line (suc k) nominated up off =
      let e : suc (k + settled) ≡ suc k + settled = omega arith in
      let next_up : signals.up (line_input line) (suc (k + settled)) ≡ true = ap (signals.up (line_input line)) e ∙ up in
      let next_off : signals.esmc line (suc (k + settled)) ≡ false = ap (signals.esmc line) e ∙ off in
      ap (heard plan signals out line) (sym e)
      ∙ still_unheard (line_moment_at signals out line) (delay_of plan line) (k + settled)
      (unheard-since line k nominated (losing.quick.up (line_input line) (k + settled) (omega arith) next_up) (losing.quick.esmc line (k + settled) (omega arith) next_off))
      (nothing next_up next_off)
    where
      nothing : signals.up (line_input line) (suc (k + settled)) ≡ true → signals.esmc line (suc (k + settled)) ≡ false
          → came (delay_of plan line) (past_of (line_moment_at signals out line) (suc (suc (k + settled)))) ≡ None
      nothing next_up next_off = elim (came-or_not (line_moment_at signals out line) (delay_of plan line) (suc (k + settled))) [
        | inl c ↦ absurd (none-on_way line (suc (k + settled)) c.from nominated (omega arith) next_up next_off c.sent (omega (arith, c.ago)) (omega (arith, c.ago))
            (λ u after before. c.up u after (omega (arith, before))))
        | inr none ↦ none
      ]

  pub losing-run_out : (holdoff delay : ℕ) → ((line : ℕ) → IsNominated plan line → delay_of plan line ≤ delay) → ((element : ℕ) → (timers_of plan element).holdoff ≤ holdoff)
      → RunsOut plan signals out last holdoff delay
  losing-run_out holdoff delay delays holdoffs = record {
    quiet = losing.quiet;
    delays = delays;
    steady = λ input has nominated t after. of input has nominated t after (signals.up input t) refl;
    silent = λ line nominated t after up off.
        let e : (t - settled) + settled ≡ t = omega (arith, after, losing.later) in
        ap (heard plan signals out line) (sym e)
        ∙ unheard-since line (t - settled) nominated (ap (signals.up (line_input line)) e ∙ up) (ap (signals.esmc line) e ∙ off);
    nothing_on_way = λ line nominated t after up off from sent way.
        none-on_way line t from nominated (omega (arith, after, losing.later)) up off sent way.begun (omega (arith, way.recent, after, losing.later))
        (λ u since before. way.up u since (omega (arith, before, after, losing.later)));
  }
    where
      of : (input : InputId) → IsInput plan input → IsTrue (is_nominated_input plan input) → (t : ℕ) → last + holdoff ≤ t → (up : Bool) → signals.up input t ≡ up
          → IsSteady plan signals input t
      of input has nominated t after true up =
          let e : (t - settled) + settled ≡ t = omega (arith, after, losing.later) in
          subst (IsSteady plan signals input) e (up-steady input (t - settled) has nominated (ap (signals.up input) e ∙ up))
      of input has nominated t after false down =
          down-failed plan signals input last t losing.quiet (omega (arith, after, holdoffs (element_of plan input)))
          (sym (constant-at (signals.up input) last t (λ u later. losing.quiet.up input u later) (omega (arith, after))) ∙ down)
