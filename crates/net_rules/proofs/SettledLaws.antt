-- In a settled millisecond what a line says is heard, so what is taken leads on.
use Rattle.std.proofs.Common.{◌≡◌, ◌≤◌, ◌<◌, ◌+◌, ◌-◌, ◌%◌, ℕ, zero, suc, Bool, true, false, not, ◌&&◌, ◌||◌, nat_eq, List, [], ◌∷◌, length, Option, None, Some, is_some, refl, ap, sym, subst, ◌∙◌, inl, inr, arith}
use Rattle.std.specs.Prelude.{if◌then◌else◌}
use Rattle.std.proofs.Math.Decide.{dec_lt}
use Rattle.std.proofs.lemmas.Bool.{true≢false}
use Rattle.std.proofs.lemmas.Option.{same_Some, none-some}
use Rattle.sync_text.specs.Each.{Each}
use Rattle.sync_ql.specs.declared.levels.Level.{Level}
use Rattle.sync_ql.specs.Level.{do_not_use_of, IsBetter}
use Rattle.sync_ql.specs.Pasts.{past_of}
use Rattle.sync_ql.specs.Messages.{LineMoment, said_in, said, is_same_level, is_sent, second}
use Rattle.sync_ql.proofs.Delivered.{same-is, heard-delivered}
use Rattle.sync_topo.specs.declared.input.InputId.TheVariants.{Source}
use Rattle.sync_topo.specs.Topology.{Topology}
use Rattle.sync_topo.specs.Lines.{line_input, sender_of, receiver_of, delay_of, IsNominated}
use Rattle.sync_topo.specs.Hops.{goes_back, Hops, IsRising}
use Rattle.sync_topo.specs.WellFormed.{IsWellFormed}
use Rattle.sync_topo.proofs.LineLaws.{IsNominated-within}
use Rattle.net_rules.specs.Signals.{Signals, speaks_at}
use Rattle.net_rules.specs.History.{Levels, line_moment_at, heard, taken_at, level_at, is_way_back, sent_level, Obeys, settings_of}
use Rattle.net_rules.specs.Settings.{own_level}
use Rattle.net_rules.specs.Walks.{IsOneOf, IsClosedWalk, IsFacingPair, TraceEnd, at_source, at_clock, at_loop, IsTraceAfter}
use Rattle.net_rules.specs.Settled.{IsSettled}
use Rattle.net_rules.specs.Safety.{taken_in, IsEndLevel, IsLoopFreeAt}
use Rattle.net_rules.proofs.Backs.{hop-or_back}
use Rattle.net_rules.proofs.WalkLaws.{pair_where_rising}
use Rattle.net_rules.proofs.NetLaws.{taken-is, taken-nominated, not-taken, sent-on}
use Rattle.net_rules.proofs.PairLaws.{speaks-said, is_heard}

-- since a message a line has said this level
pub record IsSaidSince (f : ℕ → LineMoment) (level : Level) (now : ℕ) : Type 0 where
  pub from : ℕ
  pub until : from ≤ now
  pub sent : is_sent (past_of f (suc from)) ≡ true
  pub says : (t : ℕ) → from ≤ t → t ≤ now → said_in (f t) ≡ Some level

same_part : (same whole : Bool) → (not same || whole) ≡ false → same ≡ true
same_part true whole none = refl
same_part false whole none = cc

pub no_news : (f : ℕ → LineMoment) (level : Level) (t : ℕ) → said_in (f t) ≡ Some level → is_sent (past_of f (suc t)) ≡ false
    → said (past_of f t) ≡ Some level
no_news f level t says none =
    let some : is_some (said_in (f t)) ≡ true = ap is_some says in
    let here : (not (is_same_level (said_in (f t)) (said (past_of f t))) || nat_eq (length (past_of f t) % second) 0) ≡ false = sym (rw some refl) ∙ none in
    sym (same-is (said_in (f t)) (said (past_of f t)) (same_part (is_same_level (said_in (f t)) (said (past_of f t))) (nat_eq (length (past_of f t) % second) 0) here)) ∙ says

pub said-since : (f : ℕ → LineMoment) (level : Level) (now : ℕ) → said_in (f now) ≡ Some level → IsSaidSince f level now
said-since f level now says = by now says (is_sent (past_of f (suc now))) refl
  where
    here : (t : ℕ) → said_in (f t) ≡ Some level → is_sent (past_of f (suc t)) ≡ true → IsSaidSince f level t
    here t says_here sent = record {
      from = t;
      until = omega arith;
      sent = sent;
      says = λ u after before. let same : u ≡ t = omega (arith, after, before) in subst (λ k. said_in (f k) ≡ Some level) (sym same) says_here;
    }

    more : (t : ℕ) → said_in (f (suc t)) ≡ Some level → IsSaidSince f level t → IsSaidSince f level (suc t)
    more t says_here since = record {
      from = since.from;
      until = omega (arith, since.until);
      sent = since.sent;
      says = λ u after before. elim (dec_lt t u) [
        | yes last ↦ let same : u ≡ suc t = omega (arith, last, before) in subst (λ k. said_in (f k) ≡ Some level) (sym same) says_here
        | no earlier ↦ since.says u after (omega (arith, earlier))
      ];
    }

    by : (t : ℕ) → said_in (f t) ≡ Some level → (sent : Bool) → is_sent (past_of f (suc t)) ≡ sent → IsSaidSince f level t
    by t says_here true sent = here t says_here sent
    by zero says_here false none = absurd (none-some level (no_news f level zero says_here none))
    by (suc t) says_here false none =
        let before : said_in (f t) ≡ Some level = no_news f level (suc t) says_here none in
        more t says_here (by t before (is_sent (past_of f (suc t))) refl)

pub up-part : (f : ℕ → LineMoment) (level : Level) (t : ℕ) → said_in (f t) ≡ Some level → (f t).up ≡ true
up-part f level t says = of (f t).up (f t).esmc refl says
  where
    of : (up esmc : Bool) → (f t).up ≡ up → (if up && esmc then (f t).level else None) ≡ Some level → (f t).up ≡ true
    of true esmc is says_here = is
    of false esmc is says_here = cc

-- in a settled millisecond a nominated line that speaks is heard as it speaks
pub settled-heard : (plan : Topology) (signals : Signals) (out : Levels) (line t : ℕ) → IsSettled plan signals out t
    → IsNominated plan line → speaks_at signals line t ≡ true → heard plan signals out line t ≡ Some (out line t)
settled-heard plan signals out line t settled nominated speaks =
    let f : ℕ → LineMoment = line_moment_at signals out line in
    let d : ℕ = delay_of plan line in
    let says : said_in (f t) ≡ Some (out line t) = speaks-said signals out line t speaks in
    let since = said-since f (out line t) t says in
    elim (dec_lt t (since.from + d)) [
      | yes recent ↦
          let up : (u : ℕ) → since.from ≤ u → u ≤ t → signals.up (line_input line) u ≡ true = λ u after before. up-part f (out line t) u (since.says u after before) in
          settled.carried line nominated (up t since.until (omega arith)) since.from since.sent (record { begun = since.until; recent = recent; up = up })
          ∙ sym (said_same f (out line t) since.from (out line since.from) (signals.up (line_input line) since.from) (signals.esmc line since.from) refl refl (since.says since.from (omega arith) since.until))
      | no long ↦
          is_heard plan signals out line t
          (heard-delivered f (out line t) d (t - d) t (omega (arith, long)) (since.says (t - d) (omega (arith, long)) (omega arith))
          (λ u after before. up-part f (out line t) u (since.says u (omega (arith, long, after)) before)))
    ]
  where
    said_same : (f : ℕ → LineMoment) (level : Level) (t : ℕ) (own : Level) (up esmc : Bool) → (f t).up ≡ up → (f t).esmc ≡ esmc
        → (if up && esmc then Some own else None) ≡ Some level → ◌≡◌ {A = Option Level} (Some level) (Some own)
    said_same f level t own true true a b says = sym says
    said_same f level t own true false a b says = cc
    said_same f level t own false esmc a b says = cc

-- a line that is taken in a settled millisecond: it speaks, doesn't lead back, and its ends have one level
pub record IsFollowed (plan : Topology) (signals : Signals) (out : Levels) (line t : ℕ) : Type 0 where
  pub not_back : is_way_back plan (taken_at plan signals out (sender_of plan line) t) line ≡ false
  pub level : level_at plan signals out (receiver_of plan line) t ≡ level_at plan signals out (sender_of plan line) t

pub settled-follows : (plan : Topology) (signals : Signals) (out : Levels) (line t : ℕ) → Obeys plan signals out → IsSettled plan signals out t
    → taken_at plan signals out (receiver_of plan line) t ≡ Some (line_input line) → IsFollowed plan signals out line t
settled-follows plan signals out line t obeys settled takes =
    let taken = taken-is plan signals out (receiver_of plan line) t (line_input line) takes in
    let nominated : IsNominated plan line = taken.of.nominated in
    let up : signals.up (line_input line) t ≡ true = up_where (signals.up (line_input line) t) (sym (settled.steady (line_input line) taken.of.has taken.of.nominated) ∙ taken.good) in
    let speaks : speaks_at signals line t ≡ true = speaks_where (signals.up (line_input line) t) (signals.esmc line t) up
    (λ off. none-some (level_at plan signals out (receiver_of plan line) t) (sym (settled.silent line nominated up off) ∙ taken.has_level)) in
    let level : level_at plan signals out (receiver_of plan line) t ≡ out line t =
    same_Some _ _ (sym taken.has_level ∙ settled-heard plan signals out line t settled nominated speaks) in
    let sent : out line t ≡ sent_level plan signals out line t = obeys line t (IsNominated-within plan line nominated) in
    let on = sent-on plan signals out line t (subst (λ l. IsBetter l (do_not_use_of l.option)) (level ∙ sent) taken.above_do_not_use) in
    record { not_back = on.not_back; level = level ∙ sent ∙ on.level }
  where
    up_where : (up : Bool) → not up ≡ false → up ≡ true
    up_where true off = refl
    up_where false off = cc

    speaks_where : (up esmc : Bool) → up ≡ true → (esmc ≡ false → ⊥) → (up && esmc) ≡ true
    speaks_where true true is on = refl
    speaks_where true false is on = absurd (on refl)
    speaks_where false esmc is on = cc

-- what an element takes is an input of its own
pub taken-joins : (plan : Topology) (signals : Signals) (out : Levels) (element before t : ℕ)
    → taken_at plan signals out element t ≡ Some (line_input before) → receiver_of plan before ≡ element
taken-joins plan signals out element before t takes = (taken-is plan signals out element t (line_input before) takes).of.of_element

-- and hops from the line that its sender takes
pub settled-hops : (plan : Topology) (signals : Signals) (out : Levels) (before line t : ℕ) → Obeys plan signals out → IsSettled plan signals out t
    → taken_at plan signals out (receiver_of plan line) t ≡ Some (line_input line)
    → taken_at plan signals out (sender_of plan line) t ≡ Some (line_input before) → Hops plan before line
settled-hops plan signals out before line t obeys settled takes sender_takes =
    let joins : receiver_of plan before ≡ sender_of plan line = taken-joins plan signals out (sender_of plan line) before t sender_takes in
    let nominated = (taken-is plan signals out (receiver_of plan line) t (line_input line) takes).of.nominated in
    let before_nominated = (taken-is plan signals out (sender_of plan line) t (line_input before) sender_takes).of.nominated in
    let followed = settled-follows plan signals out line t obeys settled takes in
    let not_back : goes_back plan before line ≡ false = sym (ap (λ taken. is_way_back plan taken line) sender_takes) ∙ followed.not_back in
    elim (hop-or_back plan before line before_nominated nominated joins) [
      | inl hop ↦ hop
      | inr back ↦ absurd (true≢false (sym back ∙ not_back))
    ]

-- so no facing pair stands
pub no-pair : (plan : Topology) (signals : Signals) (out : Levels) (t : ℕ) → Obeys plan signals out → IsSettled plan signals out t
    → (lines : List ℕ) → IsClosedWalk plan (taken_in plan signals out t) lines → IsFacingPair plan lines → ⊥
no-pair plan signals out t obeys settled [] walk pair = pair
no-pair plan signals out t obeys settled (line ∷ []) walk pair = pair
no-pair plan signals out t obeys settled (line ∷ back ∷ third ∷ rest) walk pair = pair
no-pair plan signals out t obeys settled (line ∷ back ∷ []) walk pair =
    let followed = settled-follows plan signals out back t obeys settled walk.each_taken.1.0 in
    let sender_takes : taken_at plan signals out (sender_of plan back) t ≡ Some (line_input line) =
    ap (λ element. taken_at plan signals out element t) (sym walk.joined.0) ∙ walk.each_taken.0 in
    let not_back : goes_back plan line back ≡ false = sym (ap (λ taken. is_way_back plan taken back) sender_takes) ∙ followed.not_back in
    true≢false (sym pair ∙ not_back)

own-settings : (plan : Topology) (element : ℕ) → (settings_of plan element).own ≡ own_level plan element
unfolding settings_of
own-settings plan element = refl

-- each element passed takes a line of higher rank than what is taken now
abbrev HasPassed : Topology → Signals → Levels → ℕ → (ℕ → ℕ) → ℕ → ℕ → Type 0
HasPassed plan signals out t rank element other =
    (line : ℕ) × (taken_at plan signals out other t ≡ Some (line_input line))
    × ((now : ℕ) → taken_at plan signals out element t ≡ Some (line_input now) → rank now < rank line)

meets : (plan : Topology) (signals : Signals) (out : Levels) (t : ℕ) (rank : ℕ → ℕ) (element : ℕ) (passed : List ℕ)
    → Each (HasPassed plan signals out t rank element) passed → IsOneOf element passed → ⊥
meets plan signals out t rank element [] each one = one
meets plan signals out t rank element (other ∷ passed) each one = elim one [
  | inl same ↦ let line = each.0 in
      omega (arith, line.2 line.0 (ap (λ e. taken_at plan signals out e t) same ∙ line.1))
  | inr later ↦ meets plan signals out t rank element passed each.1 later
]

pass_on : (plan : Topology) (signals : Signals) (out : Levels) (t : ℕ) (rank : ℕ → ℕ) (element line : ℕ) (passed : List ℕ)
    → ((before : ℕ) → taken_at plan signals out (sender_of plan line) t ≡ Some (line_input before) → rank before < rank line)
    → taken_at plan signals out element t ≡ Some (line_input line)
    → Each (HasPassed plan signals out t rank element) passed → Each (HasPassed plan signals out t rank (sender_of plan line)) passed
pass_on plan signals out t rank element line [] rises takes each = tt
pass_on plan signals out t rank element line (other ∷ passed) rises takes each = (
  (each.0.0, each.0.1, λ before sender_takes. omega (arith, rises before sender_takes, each.0.2 line takes)),
  pass_on plan signals out t rank element line passed rises takes each.1,
)

trace-level : (plan : Topology) (signals : Signals) (out : Levels) (t : ℕ) (rank : ℕ → ℕ) → Obeys plan signals out → IsSettled plan signals out t
    → IsRising plan rank → (passed : List ℕ) (element : ℕ) (lines : List ℕ) (end : TraceEnd)
    → Each (HasPassed plan signals out t rank element) passed
    → IsTraceAfter plan (taken_in plan signals out t) passed element lines end
    → IsEndLevel plan signals t (level_at plan signals out element t) end
trace-level plan signals out t rank obeys settled rising passed element [] (at_source source) each trace =
    same_Some _ _ (sym (taken-is plan signals out element t (Source source) trace.1).has_level)
trace-level plan signals out t rank obeys settled rising passed element [] (at_clock clock) each trace =
    not-taken plan signals out element t trace.1 ∙ own-settings plan element ∙ ap (own_level plan) (sym trace.2)
trace-level plan signals out t rank obeys settled rising passed element [] (at_loop again) each trace =
    meets plan signals out t rank element passed each trace.0
trace-level plan signals out t rank obeys settled rising passed element (line ∷ rest) end each trace =
    let joins : receiver_of plan line ≡ element = taken-joins plan signals out element line t trace.1 in
    let takes : taken_at plan signals out (receiver_of plan line) t ≡ Some (line_input line) =
    ap (λ e. taken_at plan signals out e t) joins ∙ trace.1 in
    let rises : (before : ℕ) → taken_at plan signals out (sender_of plan line) t ≡ Some (line_input before) → rank before < rank line =
    λ before sender_takes. rising before line (settled-hops plan signals out before line t obeys settled takes sender_takes) in
    let level : level_at plan signals out element t ≡ level_at plan signals out (sender_of plan line) t =
    ap (λ e. level_at plan signals out e t) (sym joins) ∙ (settled-follows plan signals out line t obeys settled takes).level in
    subst (λ l. IsEndLevel plan signals t l end) (sym level)
    (trace-level plan signals out t rank obeys settled rising (element ∷ passed) (sender_of plan line) rest end
    ((line, trace.1, rises), pass_on plan signals out t rank element line passed rises trace.1 each) trace.2)

-- where ranks rise no timing loop can form
pub rising-loop_free : (plan : Topology) (signals : Signals) (out : Levels) (rank : ℕ → ℕ) → IsWellFormed plan → Obeys plan signals out
    → IsRising plan rank → (t : ℕ) → IsLoopFreeAt plan signals out t
rising-loop_free plan signals out rank well obeys rising t = record {
  pairs = λ lines walk. pair_where_rising plan (taken_in plan signals out t) rank lines well (taken-nominated plan signals out t) rising walk;
  none_settled = λ settled lines walk. no-pair plan signals out t obeys settled lines walk
      (pair_where_rising plan (taken_in plan signals out t) rank lines well (taken-nominated plan signals out t) rising walk);
  traced = λ settled element lines end trace. trace-level plan signals out t rank obeys settled rising [] element lines end tt trace;
}
