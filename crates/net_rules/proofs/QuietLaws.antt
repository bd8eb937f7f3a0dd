-- A settled millisecond stays.
use Rattle.std.proofs.Common.{◌≡◌, ◌≤◌, ◌<◌, ◌+◌, ◌-◌, ◌⊎◌, ℕ, zero, suc, Bool, true, false, not, ◌&&◌, ◌||◌, List, [], ◌∷◌, Option, None, Some, slice_get, is_some, refl, ap, sym, subst, ◌∙◌, inl, inr, arith}
use Rattle.std.specs.Prelude.{IsSome, nat_lt, if◌then◌else◌, option_and_then}
use Rattle.std.proofs.Math.Decide.{dec_lt}
use Rattle.std.proofs.lemmas.Bool.{true≢false, le-ltb}
use Rattle.std.proofs.lemmas.List.{length-map}
use Rattle.std.proofs.lemmas.Option.{same_Some, none-some, slice_get_cases}
use Rattle.sync_text.proofs.Each.{each-at}
use Rattle.sync_ql.specs.declared.levels.Level.{Level}
use Rattle.sync_ql.specs.Level.{do_not_use_of}
use Rattle.sync_ql.specs.Pasts.{past_of, first_within}
use Rattle.sync_ql.specs.Condition.{down_for, up_for, failed_at}
use Rattle.sync_ql.specs.Messages.{LineMoment, said_in, came, arrivals, heard_at, hearing_time}
use Rattle.sync_ql.specs.Moment.{Moment, Settings}
use Rattle.sync_ql.specs.Output.{clock_level_at}
use Rattle.sync_ql.specs.Quiet.{IsSameOutput}
use Rattle.sync_ql.proofs.Delivered.{heard-delivered}
use Rattle.sync_topo.specs.declared.input.InputId.{InputId}
use Rattle.sync_topo.specs.declared.input.InputId.TheVariants.{Line, Source}
use Rattle.sync_topo.specs.Topology.{Topology}
use Rattle.sync_topo.specs.Lines.{line_count, line_input, sender_of, delay_of, inputs_of, input_priority, IsNominated, element_of}
use Rattle.sync_topo.proofs.LineLaws.{IsNominated-within}
use Rattle.net_rules.specs.Signals.{Signals, speaks_at}
use Rattle.net_rules.specs.Inputs.{IsInputOf}
use Rattle.net_rules.specs.History.{Levels, settings_of, line_moment_at, heard, input_level, moment_at, element_past, taken_by, taken_at, failed_by, is_way_back, sent_level, Obeys}
use Rattle.net_rules.specs.Settings.{timers_of, signal_at}
use Rattle.net_rules.specs.Settled.{is_sent_at, IsOnWay, IsSteady, IsSettled}
use Rattle.net_rules.specs.Staying.{IsStill, IsQuietAfter, AreStillBefore, IsSameAt}
use Rattle.net_rules.proofs.ElementLaws.{IsAlikeAfter, AreAllAlikeAfter, output-stays}
use Rattle.net_rules.proofs.InputLaws.{inputs-are}
use Rattle.net_rules.proofs.NetLaws.{failed-at, level-at}
use Rattle.net_rules.proofs.HistoryLaws.{IsDelayed}
use Rattle.net_rules.proofs.Arrivals.{came-or_not, sent-said, unheard}
use Rattle.net_rules.proofs.PairLaws.{speaks-said, speaks-up, silent-said, is_heard, still-speaks}
use Rattle.net_rules.proofs.SettledLaws.{settled-heard, no_news}

-- what is known of one nominated line in a settled millisecond, and in the next
pub record IsCalm (plan : Topology) (signals : Signals) (out : Levels) (line t : ℕ) : Type 0 where
  pub settled : IsSettled plan signals out t
  pub nominated : IsNominated plan line
  pub delayed : 1 ≤ delay_of plan line
  pub still : IsStill signals line (t - delay_of plan line) t
  pub up_next : signals.up (line_input line) (suc t) ≡ signals.up (line_input line) t
  pub esmc_next : signals.esmc line (suc t) ≡ signals.esmc line t

speaks-next : (plan : Topology) (signals : Signals) (out : Levels) (line t : ℕ) → IsCalm plan signals out line t
    → speaks_at signals line (suc t) ≡ speaks_at signals line t
speaks-next plan signals out line t calm = rw (calm.up_next, calm.esmc_next) refl

-- it speaks, or not, as it does, for its delay before and in the next millisecond
speaks-near : (plan : Topology) (signals : Signals) (out : Levels) (line t u : ℕ) → IsCalm plan signals out line t
    → t ≤ u + delay_of plan line → u ≤ suc t → speaks_at signals line u ≡ speaks_at signals line t
speaks-near plan signals out line t u calm after before = elim (dec_lt t u) [
  | yes last ↦ let same : u ≡ suc t = omega (arith, last, before) in
      ap (speaks_at signals line) same ∙ speaks-next plan signals out line t calm
  | no earlier ↦
      still-speaks signals line (t - delay_of plan line) t u calm.still (omega (arith, after)) (omega (arith, earlier))
      ∙ sym (still-speaks signals line (t - delay_of plan line) t t calm.still (omega arith) (omega arith))
]

-- a line that speaks is heard in the next millisecond as it speaks in this one
heard-next : (plan : Topology) (signals : Signals) (out : Levels) (line t : ℕ) → IsCalm plan signals out line t
    → speaks_at signals line t ≡ true → heard plan signals out line (suc t) ≡ Some (out line t)
heard-next plan signals out line t calm speaks = elim (dec_lt t d) [
  | yes early ↦ absurd (none-some (out line t) (sym (nothing early) ∙ now))
  | no late ↦ from_now (t - d) (omega (arith, late))
]
  where
    f : ℕ → LineMoment
    f = line_moment_at signals out line

    d : ℕ
    d = delay_of plan line

    now : heard plan signals out line t ≡ Some (out line t)
    now = settled-heard plan signals out line t calm.settled calm.nominated speaks

    nothing : t < d → heard plan signals out line t ≡ None
    nothing early = is_heard plan signals out line t (unheard f d t (λ from until recent up sent. omega (arith, until, early)))

    speaks_in : (u : ℕ) → t ≤ u + d → u ≤ suc t → speaks_at signals line u ≡ true
    speaks_in u after before = speaks-near plan signals out line t u calm after before ∙ speaks

    up_in : (u : ℕ) → t ≤ u + d → u ≤ suc t → signals.up (line_input line) u ≡ true
    up_in u after before = speaks-up signals line u (speaks_in u after before)

    from_now : (r : ℕ) → t ≡ d + r → heard plan signals out line (suc t) ≡ Some (out line t)
    from_now r at =
        is_heard plan signals out line (suc t)
        (heard-delivered f (out line (suc r)) d (suc r) (suc t) (omega (arith, at))
        (speaks-said signals out line (suc r) (speaks_in (suc r) (omega (arith, at)) (omega (arith, at, calm.delayed))))
        (λ u after before. up_in u (omega (arith, at, after)) before))
        ∙ by (is_sent_at signals out line (suc r)) refl
      where
        by : (sent : Bool) → is_sent_at signals out line (suc r) ≡ sent → ◌≡◌ {A = Option Level} (Some (out line (suc r))) (Some (out line t))
        by true sent =
            sym (calm.settled.carried line calm.nominated (up_in t (omega arith) (omega arith)) (suc r) sent
            (record { begun = omega (arith, at, calm.delayed); recent = omega (arith, at); up = λ u after before. up_in u (omega (arith, at, after)) (omega (arith, before)) }))
            ∙ now
        by false none =
            let before : said_in (f r) ≡ Some (out line (suc r)) =
            no_news f (out line (suc r)) (suc r) (speaks-said signals out line (suc r) (speaks_in (suc r) (omega (arith, at)) (omega (arith, at, calm.delayed)))) none in
            sym (is_heard plan signals out line t (heard-delivered f (out line (suc r)) d r t at before (λ u after until. up_in u (omega (arith, at, after)) (omega (arith, until)))))
            ∙ now

-- a line that is up and silent isn't heard in the next millisecond either
first_less : {A : Type 0} (n : ℕ) (xs : List (Option A)) → first_within (suc n) xs ≡ None → first_within n xs ≡ None
first_less zero xs none = refl
first_less (suc n) [] none = refl
first_less (suc n) (Some x ∷ xs) none = cc
first_less (suc n) (None ∷ xs) none = first_less n xs none

pub still_unheard : (f : ℕ → LineMoment) (d t : ℕ) → heard_at d (past_of f (suc t)) ≡ None → came d (past_of f (suc (suc t))) ≡ None
    → heard_at d (past_of f (suc (suc t))) ≡ None
unfolding heard_at
still_unheard f d t none nothing =
    ap (λ came. first_within hearing_time (came ∷ arrivals d (past_of f (suc t)))) nothing
    ∙ first_less 4999 (arrivals d (past_of f (suc t))) none

unheard-next : (plan : Topology) (signals : Signals) (out : Levels) (line t : ℕ) → IsCalm plan signals out line t
    → signals.up (line_input line) t ≡ true → signals.esmc line t ≡ false → heard plan signals out line (suc t) ≡ None
unfolding heard
unheard-next plan signals out line t calm up off =
    still_unheard (line_moment_at signals out line) (delay_of plan line) t (calm.settled.silent line calm.nominated up off)
    (elim (came-or_not (line_moment_at signals out line) (delay_of plan line) (suc t)) [
      | inl c ↦ absurd (calm.settled.nothing_on_way line calm.nominated up off c.from c.sent (record {
        begun = omega (arith, c.ago, calm.delayed);
        recent = omega (arith, c.ago);
        up = λ u after before. c.up u after (omega (arith, before));
      }))
      | inr nothing ↦ nothing
    ])

-- no time begins to run
either_false : (b failed : Bool) → failed ≡ false → (if b then false else failed) ≡ false
either_false true failed is = refl
either_false false failed is = is

either_true : (b failed : Bool) → failed ≡ true → (if b then true else failed) ≡ true
either_true true failed is = refl
either_true false failed is = is

failed_next : (holdoff wtr downs ups : ℕ) (up clear failed up_then : Bool) → failed ≡ not up → up_then ≡ up
    → (if nat_lt holdoff (if up_then then 0 else downs) then true else if nat_lt wtr (if up_then then ups else 0) || (up_then && clear) then false else failed) ≡ not up_then
failed_next holdoff wtr downs ups true clear failed true is same =
    rw (le-ltb holdoff 0 (omega arith)) (either_false (nat_lt wtr ups || clear) failed is)
failed_next holdoff wtr downs ups false clear failed false is same =
    rw (le-ltb wtr 0 (omega arith)) (either_true (nat_lt holdoff downs) failed is)
failed_next holdoff wtr downs ups true clear failed false is same = cc
failed_next holdoff wtr downs ups false clear failed true is same = cc

pub steady-next : (plan : Topology) (signals : Signals) (input : InputId) (t : ℕ) → IsSteady plan signals input t
    → signals.up input (suc t) ≡ signals.up input t → IsSteady plan signals input (suc t)
unfolding failed_by failed_at
steady-next plan signals input t steady same =
    failed_next (timers_of plan (element_of plan input)).holdoff (timers_of plan (element_of plan input)).wtr
    (down_for (past_of (signal_at signals input) (suc t)) + 1) (up_for (past_of (signal_at signals input) (suc t)) + 1)
    (signals.up input t) (signals.clear input (suc t)) (failed_at (timers_of plan (element_of plan input)) (past_of (signal_at signals input) (suc t)))
    (signals.up input (suc t)) steady same

-- all that is known of a settled millisecond after which all is quiet
pub record IsResting (plan : Topology) (signals : Signals) (out : Levels) (t : ℕ) : Type 0 where
  pub settled : IsSettled plan signals out t
  pub delayed : IsDelayed plan
  pub still : AreStillBefore plan signals t
  pub quiet : IsQuietAfter signals t

calm-line : (plan : Topology) (signals : Signals) (out : Levels) (t line : ℕ) → IsResting plan signals out t → IsNominated plan line
    → IsCalm plan signals out line t
calm-line plan signals out t line resting nominated = record {
  settled = resting.settled;
  nominated = nominated;
  delayed = resting.delayed line nominated;
  still = resting.still line nominated;
  up_next = resting.quiet.up (line_input line) t (omega arith);
  esmc_next = resting.quiet.esmc line t (omega arith);
}

-- an input stays: it is heard and failed as before, or failed in both milliseconds
unfoldable pub InputStays : Topology → Signals → Levels → InputId → ℕ → Type 0
InputStays plan signals out input t =
    ((input_level signals (heard plan signals out) input (suc t) ≡ input_level signals (heard plan signals out) input t)
    × (failed_by plan signals input (suc t) ≡ failed_by plan signals input t))
    ⊎ ((failed_by plan signals input t ≡ true) × (failed_by plan signals input (suc t) ≡ true))

failed-same : (plan : Topology) (signals : Signals) (input : InputId) (t : ℕ) → IsSteady plan signals input t → signals.up input (suc t) ≡ signals.up input t
    → failed_by plan signals input (suc t) ≡ failed_by plan signals input t
failed-same plan signals input t steady same = steady-next plan signals input t steady same ∙ ap not same ∙ sym steady

line-stays : (plan : Topology) (signals : Signals) (out : Levels) (t line : ℕ) → IsResting plan signals out t → IsNominated plan line
    → InputStays plan signals out (line_input line) t
unfolding InputStays
line-stays plan signals out t line resting nominated = by (signals.up (line_input line) t) (signals.esmc line t) refl refl
  where
    calm : IsCalm plan signals out line t
    calm = calm-line plan signals out t line resting nominated

    steady : IsSteady plan signals (line_input line) t
    steady = resting.settled.steady (line_input line) (IsNominated-within plan line nominated) nominated

    by : (up esmc : Bool) → signals.up (line_input line) t ≡ up → signals.esmc line t ≡ esmc
        → ((heard plan signals out line (suc t) ≡ heard plan signals out line t) × (failed_by plan signals (line_input line) (suc t) ≡ failed_by plan signals (line_input line) t))
        ⊎ ((failed_by plan signals (line_input line) t ≡ true) × (failed_by plan signals (line_input line) (suc t) ≡ true))
    by true true up on =
        let speaks : speaks_at signals line t ≡ true = rw (up, on) refl in
        inl (
          heard-next plan signals out line t calm speaks ∙ sym (settled-heard plan signals out line t resting.settled nominated speaks),
          failed-same plan signals (line_input line) t steady calm.up_next,
        )
    by true false up off =
        inl (
          unheard-next plan signals out line t calm up off ∙ sym (resting.settled.silent line nominated up off),
          failed-same plan signals (line_input line) t steady calm.up_next,
        )
    by false esmc down _ =
        let failed : failed_by plan signals (line_input line) t ≡ true = steady ∙ ap not down in
        inr (failed, failed-same plan signals (line_input line) t steady calm.up_next ∙ failed)

input-stays : (plan : Topology) (signals : Signals) (out : Levels) (t element : ℕ) → IsResting plan signals out t
    → (input : InputId) → IsInputOf plan element input → InputStays plan signals out input t
unfolding InputStays
input-stays plan signals out t element resting (Line line) is = line-stays plan signals out t line.0 resting is.nominated
input-stays plan signals out t element resting (Source source) is =
    inl (
      ap Some (resting.quiet.source_level source t (omega arith)),
      failed-same plan signals (Source source) t (resting.settled.steady (Source source) is.has is.nominated) (resting.quiet.up (Source source) t (omega arith)),
    )

-- so is the element's input at each place
pub alike-at : (plan : Topology) (signals : Signals) (out : Levels) (t element : ℕ)
    → ((input : InputId) → IsInputOf plan element input → InputStays plan signals out input t)
    → AreAllAlikeAfter (settings_of plan element) (element_past plan signals out element (suc t)) (element_past plan signals out element (suc (suc t)))
unfolding settings_of InputStays
alike-at plan signals out t element stays i within = elim (slice_get_cases (inputs_of plan element) i).1 [
  | inl there ↦
      let is = each-at (IsInputOf plan element) (inputs_of plan element) i there.0 (inputs-are plan element) there.2 in
      place there.0 there.2 is (stays there.0 is)
  | inr past ↦ absurd (omega (arith, within, past.0, length-map (inputs_of plan element) (input_priority plan)))
]
  where
    place : (input : InputId) → slice_get (inputs_of plan element) i ≡ Some input → IsInputOf plan element input
        → ((input_level signals (heard plan signals out) input (suc t) ≡ input_level signals (heard plan signals out) input t)
        × (failed_by plan signals input (suc t) ≡ failed_by plan signals input t))
        ⊎ ((failed_by plan signals input t ≡ true) × (failed_by plan signals input (suc t) ≡ true))
        → IsAlikeAfter (settings_of plan element) (element_past plan signals out element (suc t)) (element_past plan signals out element (suc (suc t))) i
    place input at is stays = elim stays [
      | inl same ↦ inl (
        level-at plan signals out element (suc t) i input at ∙ same.0 ∙ sym (level-at plan signals out element t i input at),
        failed-at plan signals out element (suc t) i input at is.of_element ∙ same.1 ∙ sym (failed-at plan signals out element t i input at is.of_element),
      )
      | inr both ↦ inr (
        failed-at plan signals out element t i input at is.of_element ∙ both.0,
        failed-at plan signals out element (suc t) i input at is.of_element ∙ both.1,
      )
    ]

-- an element whose inputs stay, and to which no command is given, gives the same
pub element-stays : (plan : Topology) (signals : Signals) (out : Levels) (t element : ℕ) → signals.commands element (suc t) ≡ []
    → ((input : InputId) → IsInputOf plan element input → InputStays plan signals out input t)
    → IsSameOutput (settings_of plan element) (element_past plan signals out element (suc t)) (element_past plan signals out element (suc (suc t)))
unfolding moment_at
element-stays plan signals out t element none stays =
    output-stays (settings_of plan element) (moment_at plan signals (heard plan signals out) element t) (moment_at plan signals (heard plan signals out) element (suc t))
    (element_past plan signals out element t) none (alike-at plan signals out t element stays)

-- and takes and sends the same
pub taken-stays : (plan : Topology) (signals : Signals) (out : Levels) (t u element : ℕ)
    → IsSameOutput (settings_of plan element) (element_past plan signals out element (suc t)) (element_past plan signals out element (suc u))
    → taken_at plan signals out element u ≡ taken_at plan signals out element t
unfolding taken_at
taken-stays plan signals out t u element same = ap (option_and_then (slice_get (inputs_of plan element))) same.selection

pub sent-stays : (plan : Topology) (signals : Signals) (out : Levels) (t u line : ℕ) → Obeys plan signals out → line < line_count plan
    → IsSameOutput (settings_of plan (sender_of plan line)) (element_past plan signals out (sender_of plan line) (suc t)) (element_past plan signals out (sender_of plan line) (suc u))
    → out line u ≡ out line t
unfolding sent_level
sent-stays plan signals out t u line obeys within same =
    obeys line u within
    ∙ ap (λ taken. if is_way_back plan (option_and_then (slice_get (inputs_of plan (sender_of plan line))) taken) line then do_not_use_of plan.option
    else clock_level_at (settings_of plan (sender_of plan line)) (element_past plan signals out (sender_of plan line) (suc u))) same.selection
    ∙ ap (λ level. if is_way_back plan (taken_by plan (sender_of plan line) (element_past plan signals out (sender_of plan line) (suc t))) line then do_not_use_of plan.option else level) same.level
    ∙ sym (obeys line t within)

-- what went out and is on its way in the next millisecond has the level that is said
on_way-next : (plan : Topology) (signals : Signals) (out : Levels) (t line from : ℕ) → IsResting plan signals out t → IsNominated plan line
    → out line (suc t) ≡ out line t → speaks_at signals line t ≡ true → is_sent_at signals out line from ≡ true
    → IsOnWay plan signals line from (suc t) → out line from ≡ out line t
on_way-next plan signals out t line from resting nominated same speaks sent way = elim (dec_lt t from) [
  | yes last ↦ let here : from ≡ suc t = omega (arith, last, way.begun) in ap (out line) here ∙ same
  | no earlier ↦
      let carried = resting.settled.carried line nominated (speaks-up signals line t speaks) from sent (record {
        begun = omega (arith, earlier);
        recent = omega (arith, way.recent);
        up = λ u after before. way.up u after (omega (arith, before));
      }) in
      same_Some _ _ (sym carried ∙ settled-heard plan signals out line t resting.settled nominated speaks)
]

-- nothing went out that could be on its way on a silent line
silent-sent : (plan : Topology) (signals : Signals) (out : Levels) (t line from : ℕ) → IsCalm plan signals out line t
    → speaks_at signals line t ≡ false → is_sent_at signals out line from ≡ true → IsOnWay plan signals line from (suc t) → ⊥
silent-sent plan signals out t line from calm silent sent way =
    let none : speaks_at signals line from ≡ false = speaks-near plan signals out line t from calm (omega (arith, way.recent)) way.begun ∙ silent in
    true≢false (sym (sent-said (line_moment_at signals out line) from sent) ∙ ap is_some (silent-said signals out line from none))

pub speaks_or : (up esmc : Bool) → up ≡ true → ((esmc ≡ true) × ((up && esmc) ≡ true)) ⊎ ((esmc ≡ false) × ((up && esmc) ≡ false))
speaks_or true true is = inl (refl, refl)
speaks_or true false is = inr (refl, refl)
speaks_or false esmc is = cc

pub some-IsSome : (o : Option Level) (level : Level) → o ≡ Some level → IsSome o
some-IsSome None level is = absurd (none-some level is)
some-IsSome (Some own) level is = refl

-- the next millisecond is settled too, and all is the same in it
pub record IsNext (plan : Topology) (signals : Signals) (out : Levels) (t : ℕ) : Type 0 where
  pub settled : IsSettled plan signals out (suc t)
  pub same : IsSameAt plan signals out t (suc t)

pub next-same : (plan : Topology) (signals : Signals) (out : Levels) (t : ℕ) → Obeys plan signals out → IsResting plan signals out t
    → IsSameAt plan signals out t (suc t)
next-same plan signals out t obeys resting =
    let output : (element : ℕ) → IsSameOutput (settings_of plan element) (element_past plan signals out element (suc t)) (element_past plan signals out element (suc (suc t))) =
    λ element. element-stays plan signals out t element (resting.quiet.commands element t (omega arith)) (input-stays plan signals out t element resting) in
    record {
      output = λ element within. output element;
      taken = λ element within. taken-stays plan signals out t (suc t) element (output element);
      sent = λ line within. sent-stays plan signals out t (suc t) line obeys within (output (sender_of plan line));
    }

next-settled : (plan : Topology) (signals : Signals) (out : Levels) (t : ℕ) → IsResting plan signals out t → IsSameAt plan signals out t (suc t)
    → IsSettled plan signals out (suc t)
next-settled plan signals out t resting same = record {
  steady = λ input has nominated. steady-next plan signals input t (resting.settled.steady input has nominated) (resting.quiet.up input t (omega arith));
  carried = λ line nominated up from sent way.
      let calm = calm-line plan signals out t line resting nominated in
      elim (speaks_or (signals.up (line_input line) t) (signals.esmc line t) (sym calm.up_next ∙ up)) [
        | inl on ↦
            heard-next plan signals out line t calm on.1
            ∙ ap Some (sym (on_way-next plan signals out t line from resting nominated (same.sent line (IsNominated-within plan line nominated)) on.1 sent way))
        | inr off ↦ absurd (silent-sent plan signals out t line from calm off.1 sent way)
      ];
  spoken = λ line nominated speaks.
      let calm = calm-line plan signals out t line resting nominated in
      some-IsSome (heard plan signals out line (suc t)) (out line t)
      (heard-next plan signals out line t calm (sym (speaks-next plan signals out line t calm) ∙ speaks));
  silent = λ line nominated up off.
      let calm = calm-line plan signals out t line resting nominated in
      unheard-next plan signals out line t calm (sym calm.up_next ∙ up) (sym calm.esmc_next ∙ off);
  nothing_on_way = λ line nominated up off from sent way.
      let calm = calm-line plan signals out t line resting nominated in
      silent-sent plan signals out t line from calm (speaks_off (signals.up (line_input line) t) (signals.esmc line t) (sym calm.esmc_next ∙ off)) sent way;
}
  where
    speaks_off : (up esmc : Bool) → esmc ≡ false → (up && esmc) ≡ false
    speaks_off true esmc is = is
    speaks_off false esmc is = refl

next-still : (plan : Topology) (signals : Signals) (out : Levels) (t : ℕ) → IsResting plan signals out t → AreStillBefore plan signals (suc t)
next-still plan signals out t resting line nominated = record {
  up = λ u after before. elim (dec_lt u t) [
    | yes earlier ↦ (resting.still line nominated).up u (omega (arith, after)) earlier
    | no last ↦ resting.quiet.up (line_input line) u (omega (arith, last))
  ];
  esmc = λ u after before. elim (dec_lt u t) [
    | yes earlier ↦ (resting.still line nominated).esmc u (omega (arith, after)) earlier
    | no last ↦ resting.quiet.esmc line u (omega (arith, last))
  ];
}

later-quiet : (signals : Signals) (t : ℕ) → IsQuietAfter signals t → IsQuietAfter signals (suc t)
later-quiet signals t quiet = record {
  up = λ input u after. quiet.up input u (omega (arith, after));
  esmc = λ line u after. quiet.esmc line u (omega (arith, after));
  source_level = λ source u after. quiet.source_level source u (omega (arith, after));
  commands = λ element u after. quiet.commands element u (omega (arith, after));
}

same-output-trans : (settings : Settings) (a b c : List Moment) → IsSameOutput settings a b → IsSameOutput settings b c → IsSameOutput settings a c
same-output-trans settings a b c first second = record {
  selection = second.selection ∙ first.selection;
  level = second.level ∙ first.level;
  sent_back = λ i. second.sent_back i ∙ first.sent_back i;
  mode = second.mode ∙ first.mode;
  state = second.state ∙ first.state;
}

same-at-refl : (plan : Topology) (signals : Signals) (out : Levels) (t : ℕ) → IsSameAt plan signals out t t
same-at-refl plan signals out t = record {
  output = λ element within. record { selection = refl; level = refl; sent_back = λ i. refl; mode = refl; state = refl };
  taken = λ element within. refl;
  sent = λ line within. refl;
}

same-at-trans : (plan : Topology) (signals : Signals) (out : Levels) (t u v : ℕ) → IsSameAt plan signals out t u → IsSameAt plan signals out u v → IsSameAt plan signals out t v
same-at-trans plan signals out t u v first second = record {
  output = λ element within. same-output-trans (settings_of plan element) (element_past plan signals out element (suc t)) (element_past plan signals out element (suc u))
      (element_past plan signals out element (suc v)) (first.output element within) (second.output element within);
  taken = λ element within. second.taken element within ∙ first.taken element within;
  sent = λ line within. second.sent line within ∙ first.sent line within;
}

-- so a settled millisecond stays
rests-for : (plan : Topology) (signals : Signals) (out : Levels) (k t : ℕ) → Obeys plan signals out → IsResting plan signals out t
    → IsSettled plan signals out (k + t) × IsSameAt plan signals out t (k + t)
rests-for plan signals out zero t obeys resting = (
  subst (IsSettled plan signals out) (zero_add t) resting.settled,
  subst (IsSameAt plan signals out t) (zero_add t) (same-at-refl plan signals out t),
)
  where
    zero_add : (n : ℕ) → n ≡ 0 + n
    zero_add n = omega arith
rests-for plan signals out (suc k) t obeys resting =
    let same = next-same plan signals out t obeys resting in
    let next : IsResting plan signals out (suc t) = record {
      settled = next-settled plan signals out t resting same;
      delayed = resting.delayed;
      still = next-still plan signals out t resting;
      quiet = later-quiet signals t resting.quiet;
    } in
    let rest = rests-for plan signals out k (suc t) obeys next in
    let e : k + suc t ≡ suc k + t = omega arith in (
      subst (IsSettled plan signals out) e rest.0,
      subst (IsSameAt plan signals out t) e (same-at-trans plan signals out t (suc t) (k + suc t) same rest.1),
    )

pub settled-stays : (plan : Topology) (signals : Signals) (out : Levels) (t u : ℕ) → IsDelayed plan → Obeys plan signals out
    → IsSettled plan signals out t → IsQuietAfter signals t → AreStillBefore plan signals t → t ≤ u
    → IsSettled plan signals out u × IsSameAt plan signals out t u
settled-stays plan signals out t u delayed obeys settled quiet still after =
    let e : (u - t) + t ≡ u = omega (arith, after) in
    let rest = rests-for plan signals out (u - t) t obeys (record { settled = settled; delayed = delayed; still = still; quiet = quiet }) in
    (subst (IsSettled plan signals out) e rest.0, subst (IsSameAt plan signals out t) e rest.1)
