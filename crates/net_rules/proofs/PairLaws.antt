-- A facing pair is short.
use Rattle.std.proofs.Common.{◌≡◌, ◌≤◌, ◌<◌, ◌+◌, ◌-◌, ℕ, zero, suc, Bool, true, false, Option, None, Some, is_some, refl, ap, sym, subst, ◌∙◌, arith}
use Rattle.std.specs.Prelude.{if◌then◌else◌}
use Rattle.std.proofs.Math.Decide.{dec_lt}
use Rattle.std.proofs.lemmas.Bool.{and_parts, true≢false}
use Rattle.std.proofs.lemmas.Option.{same_Some, none-some}
use Rattle.sync_ql.specs.declared.levels.Level.{Level}
use Rattle.sync_ql.specs.Level.{do_not_use_of, IsBetter}
use Rattle.sync_ql.specs.Pasts.{past_of}
use Rattle.sync_ql.specs.Messages.{said_in, heard_at, hearing_time}
use Rattle.sync_ql.proofs.Delivered.{heard-delivered}
use Rattle.sync_topo.specs.Topology.{Topology}
use Rattle.sync_topo.specs.Lines.{line_input, sender_of, receiver_of, delay_of, IsNominated}
use Rattle.sync_topo.specs.WellFormed.{IsWellFormed}
use Rattle.sync_topo.proofs.LineLaws.{IsNominated-within}
use Rattle.net_rules.specs.Signals.{Signals, speaks_at}
use Rattle.net_rules.specs.History.{Levels, line_moment_at, heard, taken_at, level_at, is_way_back, sent_level, Obeys}
use Rattle.net_rules.specs.Facing.{Faces}
use Rattle.net_rules.specs.Staying.{IsStill}
use Rattle.net_rules.proofs.Backs.{back-again}
use Rattle.net_rules.proofs.NetLaws.{taken-is, taken-nominated, not_above}
use Rattle.net_rules.proofs.Arrivals.{unheard, sent-said, heard-said}

-- both lines of a pair are nominated
faces-nominated : (plan : Topology) (signals : Signals) (out : Levels) (line back t : ℕ) → Faces plan signals out line back t
    → IsNominated plan line × IsNominated plan back
faces-nominated plan signals out line back t faces = (
  taken-nominated plan signals out t line faces.walk.each_taken.0,
  taken-nominated plan signals out t back faces.walk.each_taken.1.0,
)

-- a line that leads back to where its sender takes its timing from has do-not-use
pub sent-back : (plan : Topology) (signals : Signals) (out : Levels) (line t : ℕ)
    → is_way_back plan (taken_at plan signals out (sender_of plan line) t) line ≡ true
    → sent_level plan signals out line t ≡ do_not_use_of plan.option
unfolding sent_level taken_at
sent-back plan signals out line t back = rw back refl

-- on a line of a pair do-not-use is sent
pair-sends : (plan : Topology) (signals : Signals) (out : Levels) (line back t : ℕ) → IsWellFormed plan → Obeys plan signals out
    → Faces plan signals out line back t → out line t ≡ do_not_use_of plan.option
pair-sends plan signals out line back t well obeys faces =
    let nominated = faces-nominated plan signals out line back t faces in
    let takes : taken_at plan signals out (sender_of plan line) t ≡ Some (line_input back) =
    ap (λ element. taken_at plan signals out element t) (sym faces.walk.joined.1) ∙ faces.walk.each_taken.1.0 in
    let returns : is_way_back plan (taken_at plan signals out (sender_of plan line) t) line ≡ true =
    ap (λ taken. is_way_back plan taken line) takes ∙ back-again plan line back well nominated.0 nominated.1 faces.pair in
    obeys line t (IsNominated-within plan line nominated.0) ∙ sent-back plan signals out line t returns

-- so a line of a pair isn't heard with do-not-use
not_heard : (plan : Topology) (signals : Signals) (out : Levels) (line back t : ℕ) → Faces plan signals out line back t
    → heard plan signals out line t ≡ Some (do_not_use_of plan.option) → ⊥
not_heard plan signals out line back t faces hears =
    let taken = taken-is plan signals out (receiver_of plan line) t (line_input line) faces.walk.each_taken.0 in
    let level : level_at plan signals out (receiver_of plan line) t ≡ do_not_use_of plan.option =
    same_Some _ _ (sym taken.has_level ∙ hears) in
    not_above plan.option (subst (λ l. IsBetter l (do_not_use_of l.option)) level taken.above_do_not_use)

pub speaks-said : (signals : Signals) (out : Levels) (line t : ℕ) → speaks_at signals line t ≡ true
    → said_in (line_moment_at signals out line t) ≡ Some (out line t)
speaks-said signals out line t speaks = ap (λ b. if b then Some (out line t) else None) speaks

pub speaks-up : (signals : Signals) (line t : ℕ) → speaks_at signals line t ≡ true → signals.up (line_input line) t ≡ true
speaks-up signals line t speaks = (and_parts (signals.up (line_input line) t) (signals.esmc line t) speaks).0

pub is_heard : (plan : Topology) (signals : Signals) (out : Levels) (line t : ℕ) {level : Option Level}
    → heard_at (delay_of plan line) (past_of (line_moment_at signals out line) (suc t)) ≡ level → heard plan signals out line t ≡ level
unfolding heard
is_heard plan signals out line t is = is

-- while a line of the pair speaks, the pair stands for less than that line's delay
pub pair-short : (plan : Topology) (signals : Signals) (out : Levels) (line back from until : ℕ) → IsWellFormed plan → Obeys plan signals out
    → ((t : ℕ) → from ≤ t → t ≤ until → Faces plan signals out line back t)
    → ((t : ℕ) → from ≤ t → t ≤ until → speaks_at signals line t ≡ true)
    → from ≤ until → until < from + delay_of plan line
pair-short plan signals out line back from until well obeys faces speaks begun = elim (dec_lt until (from + delay_of plan line)) [
  | yes short ↦ short
  | no long ↦
      let now : ℕ = delay_of plan line + from in
      let said : said_in (line_moment_at signals out line from) ≡ Some (do_not_use_of plan.option) =
      speaks-said signals out line from (speaks from (omega arith) begun)
      ∙ ap Some (pair-sends plan signals out line back from well obeys (faces from (omega arith) begun)) in
      let hears = heard-delivered (line_moment_at signals out line) (do_not_use_of plan.option) (delay_of plan line) from now refl said
      (λ t after before. speaks-up signals line t (speaks t after (omega (arith, long, before)))) in
      absurd (not_heard plan signals out line back now (faces now (omega arith) (omega (arith, long))) (is_heard plan signals out line now hears))
]

-- a line that is still is up, and its ESMC on, as at first
still-up : (signals : Signals) (line from until k : ℕ) → IsStill signals line from until → from + k ≤ until
    → signals.up (line_input line) (from + k) ≡ signals.up (line_input line) from
still-up signals line from until zero still within = ap (signals.up (line_input line)) (omega arith)
still-up signals line from until (suc k) still within =
    let e : from + suc k ≡ suc (from + k) = omega arith in
    ap (signals.up (line_input line)) e ∙ still.up (from + k) (omega arith) (omega (arith, within)) ∙ still-up signals line from until k still (omega (arith, within))

still-esmc : (signals : Signals) (line from until k : ℕ) → IsStill signals line from until → from + k ≤ until
    → signals.esmc line (from + k) ≡ signals.esmc line from
still-esmc signals line from until zero still within = ap (signals.esmc line) (omega arith)
still-esmc signals line from until (suc k) still within =
    let e : from + suc k ≡ suc (from + k) = omega arith in
    ap (signals.esmc line) e ∙ still.esmc (from + k) (omega arith) (omega (arith, within)) ∙ still-esmc signals line from until k still (omega (arith, within))

pub still-speaks : (signals : Signals) (line from until t : ℕ) → IsStill signals line from until → from ≤ t → t ≤ until
    → speaks_at signals line t ≡ speaks_at signals line from
still-speaks signals line from until t still after within =
    let e : from + (t - from) ≡ t = omega (arith, after) in
    let k : from + (t - from) ≤ until = omega (arith, after, within) in
    rw (
      ap (signals.up (line_input line)) (sym e) ∙ still-up signals line from until (t - from) still k,
      ap (signals.esmc line) (sym e) ∙ still-esmc signals line from until (t - from) still k,
    ) refl

pub silent-said : (signals : Signals) (out : Levels) (line t : ℕ) → speaks_at signals line t ≡ false
    → said_in (line_moment_at signals out line t) ≡ None
silent-said signals out line t silent = ap (λ b. if b then Some (out line t) else None) silent

-- on a line that is silent for its delay and five seconds nothing is heard
pub silent-unheard : (plan : Topology) (signals : Signals) (out : Levels) (line from now : ℕ)
    → ((t : ℕ) → from ≤ t → t ≤ now → speaks_at signals line t ≡ false) → from + (hearing_time + delay_of plan line) ≤ now + 1
    → heard plan signals out line now ≡ None
silent-unheard plan signals out line from now silent long =
    is_heard plan signals out line now
    (unheard (line_moment_at signals out line) (delay_of plan line) now
    (λ sent until recent up is.
    let none : is_some (said_in (line_moment_at signals out line sent)) ≡ false =
    ap is_some (silent-said signals out line sent (silent sent (omega (arith, long, recent)) (omega (arith, until)))) in
    true≢false (sym (sent-said (line_moment_at signals out line) sent is) ∙ none)))

pub was_heard : (plan : Topology) (signals : Signals) (out : Levels) (line t : ℕ) (level : Level) → heard plan signals out line t ≡ Some level
    → heard_at (delay_of plan line) (past_of (line_moment_at signals out line) (suc t)) ≡ Some level
unfolding heard
was_heard plan signals out line t level is = is

-- what a line says is what is sent on it
pub said-sent : (signals : Signals) (out : Levels) (line s : ℕ) (level : Level) → said_in (line_moment_at signals out line s) ≡ Some level → out line s ≡ level
said-sent signals out line s level is = of (speaks_at signals line s) is
  where
    of : (speaks : Bool) → (if speaks then Some (out line s) else None) ≡ Some level → out line s ≡ level
    of true is = same_Some _ _ is
    of false is = absurd (none-some level is)

-- whatever is switched, the pair stands for less than five seconds and that line's delay: what the receiver takes was said before
-- the pair stood, since in the pair do-not-use is said
pub pair-brief : (plan : Topology) (signals : Signals) (out : Levels) (line back from until : ℕ) → IsWellFormed plan → Obeys plan signals out
    → ((t : ℕ) → from ≤ t → t ≤ until → Faces plan signals out line back t)
    → from ≤ until → until < from + (hearing_time + delay_of plan line)
pair-brief plan signals out line back from until well obeys faces begun =
    let taken = taken-is plan signals out (receiver_of plan line) until (line_input line) (faces until begun (omega arith)).walk.each_taken.0 in
    let hears = heard-said (line_moment_at signals out line) (level_at plan signals out (receiver_of plan line) until) (delay_of plan line) until
    (was_heard plan signals out line until (level_at plan signals out (receiver_of plan line) until) taken.has_level) in
    elim (dec_lt hears.0 from) [
      | yes before ↦ omega (arith, before, hears.2)
      | no within ↦
          let level : level_at plan signals out (receiver_of plan line) until ≡ do_not_use_of plan.option =
          sym (said-sent signals out line hears.0 (level_at plan signals out (receiver_of plan line) until) hears.3)
          ∙ pair-sends plan signals out line back hears.0 well obeys (faces hears.0 (omega (arith, within)) (omega (arith, hears.1))) in
          absurd (not_above plan.option (subst (λ l. IsBetter l (do_not_use_of l.option)) level taken.above_do_not_use))
    ]

-- the pair the other way round
pub pair-turned : (plan : Topology) (signals : Signals) (out : Levels) (line back t : ℕ) → IsWellFormed plan
    → Faces plan signals out line back t → Faces plan signals out back line t
pair-turned plan signals out line back t well faces =
    let nominated = faces-nominated plan signals out line back t faces in
    record {
      walk = record {
        joined = (faces.walk.joined.1, faces.walk.joined.0);
        each_taken = (faces.walk.each_taken.1.0, (faces.walk.each_taken.0, tt));
        apart = ((λ same. faces.walk.apart.0.0 (sym same), tt), (tt, tt));
      };
      pair = back-again plan line back well nominated.0 nominated.1 faces.pair;
    }
