-- Whether a line carries exactly a level becomes constant where that of each line is which bears on it, and each better level is.
use Rattle.std.proofs.Common.{◌≡◌, ◌≤◌, ◌<◌, ◌+◌, ◌-◌, ◌⊎◌, ℕ, suc, Bool, true, false, ◌||◌, length, List, [], ◌∷◌, Option, None, Some, refl, ap, sym, subst, ◌∙◌, inl, inr, arith}
use Rattle.std.specs.Prelude.{IsTrue, nat_lt}
use Rattle.std.specs.List.{list_all}
use Rattle.std.proofs.lemmas.Bool.{and_parts, true≢false, eqb-true, eq-eqb, ltb-true}
use Rattle.std.proofs.lemmas.Option.{slice_get_cases, same_Some}
use Rattle.sync_text.specs.Each.{Each}
use Rattle.sync_ql.specs.declared.levels.Level.{Level}
use Rattle.sync_ql.specs.Level.{place_of, do_not_use_of}
use Rattle.sync_topo.specs.declared.input.InputId.{InputId}
use Rattle.sync_topo.specs.declared.input.InputId.TheVariants.{Line, Source}
use Rattle.sync_topo.specs.Topology.{Topology}
use Rattle.sync_topo.specs.WellFormed.{IsWellFormed}
use Rattle.sync_topo.specs.Lines.{line_count, line_input, sender_of, receiver_of, delay_of, inputs_of, input_priority, IsNominated}
use Rattle.sync_topo.specs.Bundles.{line_bundle, are_bundled}
use Rattle.sync_topo.specs.Hops.{comes_first, is_last_resort, bears_on, hops_any}
use Rattle.sync_topo.proofs.HopLaws.{hop-any-from}
use Rattle.sync_topo.proofs.LineLaws.{IsNominated-within}
use Rattle.net_rules.specs.Signals.{Signals, speaks_at}
use Rattle.net_rules.specs.Inputs.{IsInputOf}
use Rattle.net_rules.specs.Settings.{own_level}
use Rattle.net_rules.specs.History.{Levels, heard, failed_by, taken_at, level_at, is_way_back, Obeys}
use Rattle.net_rules.proofs.HistoryLaws.{IsDelayed}
use Rattle.net_rules.proofs.InputLaws.{each-input}
use Rattle.net_rules.proofs.NetLaws.{taken-is, not-taken}
use Rattle.net_rules.proofs.PairLaws.{sent-back}
use Rattle.net_rules.proofs.PassingOn.{sent-own}
use Rattle.net_rules.proofs.PlanLaws.{sender-within}
use Rattle.net_rules.proofs.RunOutLaws.{RunsOut}
use Rattle.net_rules.proofs.WaitLaws.{good-up, speaks-both, speaking-heard}
use Rattle.reach_rules.specs.Agreement.{IsHigh, AreAuto, IsSteadyAt}
use Rattle.reach_rules.proofs.KeptInputs.{AreCalm, takes-again, took-before}
use Rattle.reach_rules.proofs.ReachLaws.{own-is}

-- from a millisecond on a line carries a level of a place among the levels always or never
abbrev pub Keeps : Levels → ℕ → ℕ → ℕ → Type 0
Keeps out place line from =
    (t : ℕ) → from ≤ t → (place_of (out line t) ≡ place) ⊎ (place_of (out line (suc t)) ≡ place) → out line (suc t) ≡ out line t

pub keeps-later : (out : Levels) (place line from later : ℕ) → from ≤ later → Keeps out place line from → Keeps out place line later
keeps-later out place line from later after keeps t since here = keeps t (omega (arith, after, since)) here

-- it does so from a millisecond on after which all that is heard of it at another was sent
pub record KeepsBefore (plan : Topology) (out : Levels) (place line last t : ℕ) : Type 0 where
  pub from : ℕ
  pub late : last ≤ from
  pub soon : from + delay_of plan line ≤ t
  pub keeps : Keeps out place line from

all-each : {A : Type 0} (test : A → Bool) (xs : List A) → list_all test xs ≡ true → Each (λ x. test x ≡ true) xs
all-each test [] all = tt
all-each test (x ∷ xs) all = let parts = and_parts (test x) (list_all test xs) all in (parts.0, all-each test xs parts.1)

-- what isn't of a last resort's bundle has a smaller number
pub comes-first : (plan : Topology) (line : ℕ) (input : InputId) → is_last_resort plan line ≡ true → IsInputOf plan (receiver_of plan line) input
    → comes_first plan line input ≡ true
comes-first plan line input last is =
    each-input (λ i. comes_first plan line i ≡ true) plan (receiver_of plan line) (all-each (comes_first plan line) (inputs_of plan (receiver_of plan line)) last) input is

-- an element of which an input is taken doesn't send back over the line
IsElsewhere : Topology → InputId → ℕ → Type 0
IsElsewhere plan input line = is_way_back plan (Some input) line ≡ false

first-elsewhere : (plan : Topology) (resort line : ℕ) (input : InputId) → is_last_resort plan resort ≡ true → receiver_of plan resort ≡ sender_of plan line
    → are_bundled plan resort line ≡ true → IsInputOf plan (sender_of plan line) input → IsElsewhere plan input line
    → input_priority plan input < input_priority plan (line_input resort)
unfolding IsElsewhere
first-elsewhere plan resort line (Source source) last joins bundled is elsewhere =
    ltb-true _ _ (comes-first plan resort (Source source) last (subst (λ e. IsInputOf plan e (Source source)) (sym joins) is))
first-elsewhere plan resort line (Line other) last joins bundled is elsewhere =
    or-right (are_bundled plan other.0 resort) apart
    (comes-first plan resort (Line other) last (subst (λ e. IsInputOf plan e (Line other)) (sym joins) is))
  where
    or-right : (b : Bool) → b ≡ false → (b || nat_lt (input_priority plan (Line other)) (input_priority plan (line_input resort))) ≡ true
        → input_priority plan (Line other) < input_priority plan (line_input resort)
    or-right false is first = ltb-true _ _ first
    or-right true is first = cc

    apart : are_bundled plan other.0 resort ≡ false
    apart = by (are_bundled plan other.0 resort) refl
      where
        by : (b : Bool) → are_bundled plan other.0 resort ≡ b → are_bundled plan other.0 resort ≡ false
        by false here = here
        by true here =
            let same : line_bundle plan other.0 ≡ line_bundle plan line = eqb-true _ _ here ∙ eqb-true _ _ bundled in
            absurd (true≢false (sym (rw (eq-eqb _ _ is.of_element, eq-eqb _ _ same) refl) ∙ elsewhere))

module _ (plan : Topology) (signals : Signals) (out : Levels) (last wait delay : ℕ)
    (by : RunsOut plan signals out last wait delay) (well : IsWellFormed plan) (delayed : IsDelayed plan) (obeys : Obeys plan signals out)
    (auto : AreAuto plan signals out last) where
  -- what is heard of a line that isn't failed is kept a delay later
  pub heard-keeps : (line place t : ℕ) (level : Level) → IsNominated plan line → KeepsBefore plan out place line last t → last + wait ≤ t
      → failed_by plan signals (line_input line) t ≡ false
      → (heard plan signals out line t ≡ Some level) ⊎ (heard plan signals out line (suc t) ≡ Some level) → place_of level ≡ place
      → heard plan signals out line (suc t) ≡ heard plan signals out line t
  heard-keeps line place t level nominated keeps waited good hears is = of (signals.esmc line t) refl
    where
      d : ℕ
      d = delay_of plan line

      next : suc t - d ≡ suc (t - d)
      next = omega (arith, keeps.soon)

      up : signals.up (line_input line) t ≡ true
      up = good-up plan signals out last wait delay by delayed obeys (line_input line) t (IsNominated-within plan line nominated) nominated waited good

      of : (esmc : Bool) → signals.esmc line t ≡ esmc → heard plan signals out line (suc t) ≡ heard plan signals out line t
      of false off =
          by.silent line nominated (suc t) (omega (arith, waited)) (by.quiet.up (line_input line) t (omega (arith, waited)) ∙ up)
          (by.quiet.esmc line t (omega (arith, waited)) ∙ off)
          ∙ sym (by.silent line nominated t waited up off)
      of true on =
          here_next ∙ ap Some (keeps.keeps (t - d) (omega (arith, keeps.soon)) at) ∙ sym here
        where
          speaks : speaks_at signals line t ≡ true
          speaks = rw (up, on) refl

          again : speaks_at signals line (suc t) ≡ true
          again = speaks-both plan signals out last wait delay by delayed obeys line t (suc t) (omega (arith, waited)) (omega (arith, waited)) ∙ speaks

          here : heard plan signals out line t ≡ Some (out line (t - d))
          here = speaking-heard plan signals out last wait delay by delayed obeys line t (omega (arith, keeps.late, keeps.soon)) speaks

          here_next : heard plan signals out line (suc t) ≡ Some (out line (suc (t - d)))
          here_next =
              speaking-heard plan signals out last wait delay by delayed obeys line (suc t) (omega (arith, keeps.late, keeps.soon)) again
              ∙ ap (λ n. Some (out line n)) next

          at : (place_of (out line (t - d)) ≡ place) ⊎ (place_of (out line (suc (t - d))) ≡ place)
          at = elim hears [
            | inl now ↦ inl (ap place_of (same_Some _ _ (sym here ∙ now)) ∙ is)
            | inr then ↦ inr (ap place_of (same_Some _ _ (sym here_next ∙ then)) ∙ is)
          ]

  -- a high level that a line carries is that of an input that its sender takes, over which the line doesn't lead back
  pub record SendsOn (line t : ℕ) : Type 0 where
    pub input : InputId
    pub taken : taken_at plan signals out (sender_of plan line) t ≡ Some input
    pub elsewhere : is_way_back plan (Some input) line ≡ false
    pub level : out line t ≡ level_at plan signals out (sender_of plan line) t

  own-high : (element place : ℕ) → IsHigh plan place → element < length plan.elements → place < place_of (own_level plan element)
  own-high element place high within = high element within

  own-below : (element : ℕ) → element < length plan.elements → place_of (own_level plan element) < place_of (do_not_use_of plan.option)
  own-below element within = elim (slice_get_cases plan.elements element).1 [
    | inl there ↦ rw there.2 ((well.elements_fit element there.0 there.2).own_is_clock_level.above_do_not_use)
    | inr past ↦ absurd (omega (arith, within, past.0))
  ]

  pub sends-on : (line t place : ℕ) → line < line_count plan → IsHigh plan place → place_of (out line t) ≡ place → SendsOn line t
  sends-on line t place line_within high is = back (is_way_back plan (taken_at plan signals out (sender_of plan line) t) line) refl
    where
      within : sender_of plan line < length plan.elements
      within = sender-within plan well line line_within

      back : (b : Bool) → is_way_back plan (taken_at plan signals out (sender_of plan line) t) line ≡ b → SendsOn line t
      back true returns =
          let none : out line t ≡ do_not_use_of plan.option = obeys line t line_within ∙ sent-back plan signals out line t returns in
          absurd (omega (arith, sym is ∙ ap place_of none, high (sender_of plan line) within, own-below (sender_of plan line) within))
      back false elsewhere = of (taken_at plan signals out (sender_of plan line) t) refl
        where
          level : out line t ≡ level_at plan signals out (sender_of plan line) t
          level = obeys line t line_within ∙ sent-own plan signals out line t elsewhere

          of : (o : Option InputId) → taken_at plan signals out (sender_of plan line) t ≡ o → SendsOn line t
          of None none =
              let own : out line t ≡ own_level plan (sender_of plan line) = level ∙ not-taken plan signals out (sender_of plan line) t none ∙ own-is plan (sender_of plan line) in
              absurd (omega (arith, sym is ∙ ap place_of own, high (sender_of plan line) within))
          of (Some input) takes = record {
            input = input;
            taken = takes;
            elsewhere = ap (λ o. is_way_back plan o line) (sym takes) ∙ elsewhere;
            level = level;
          }

  -- and where the sender is steady it is carried again
  sent-again : (line t u : ℕ) → line < line_count plan → (sends : SendsOn line t) → taken_at plan signals out (sender_of plan line) u ≡ Some sends.input
      → out line u ≡ level_at plan signals out (sender_of plan line) u
  sent-again line t u within sends takes = obeys line u within ∙ sent-own plan signals out line u (ap (λ o. is_way_back plan o line) takes ∙ sends.elsewhere)

  -- one step: what carries a level is constant a delay after what bears on it
  module _ (line place t : ℕ) (nominated : IsNominated plan line) (high : IsHigh plan place) (waited : last + wait ≤ t)
      (lower : (before better : ℕ) → better < place → IsNominated plan before → receiver_of plan before ≡ sender_of plan line → KeepsBefore plan out better before last t)
      (bears : (before : ℕ) → IsTrue (bears_on plan before line) → KeepsBefore plan out place before last t) where
    line_within : line < line_count plan
    line_within = IsNominated-within plan line nominated

    sender : ℕ
    sender = sender_of plan line

    -- of an input that is as good as one that is taken elsewhere
    calm : (input : InputId) → IsInputOf plan (sender_of plan line) input → is_way_back plan (Some input) line ≡ false
        → AreCalm plan signals out (sender_of plan line) t place (input_priority plan input)
    unfolding IsElsewhere
    calm input is elsewhere (Source source) other_is good level hears as_good = ap Some (by.quiet.source_level source t (omega (arith, waited)))
    calm input is elsewhere (Line before) other_is good level hears (inl less) =
        heard-keeps before.0 (place_of level) t level other_is.nominated (lower before.0 (place_of level) less other_is.nominated other_is.of_element) waited good hears refl
    calm input is elsewhere (Line before) other_is good level hears (inr here) =
        heard-keeps before.0 place t level other_is.nominated (keeps (are_bundled plan before.0 line) (is_last_resort plan before.0) refl refl) waited good hears here.0
      where
        meets : hops_any plan before.0 line ≡ true
        meets = hop-any-from plan before.0 line other_is.nominated nominated other_is.of_element

        keeps : (bundled resort : Bool) → are_bundled plan before.0 line ≡ bundled → is_last_resort plan before.0 ≡ resort → KeepsBefore plan out place before.0 last t
        keeps false resort apart last = bears before.0 (rw (meets, apart) refl)
        keeps true false back first = bears before.0 (rw (meets, back, first) refl)
        keeps true true back resort =
            absurd (omega (arith, here.1, first-elsewhere plan before.0 line input resort other_is.of_element back is elsewhere))

    pub carries-on : (place_of (out line t) ≡ place) ⊎ (place_of (out line (suc t)) ≡ place) → out line (suc t) ≡ out line t
    carries-on (inl here) =
        let sends = sends-on line t place line_within high here in
        let taken = taken-is plan signals out (sender_of plan line) t sends.input sends.taken in
        let steady : IsSteadyAt plan signals out t (suc t) (sender_of plan line) =
        takes-again plan signals out last wait delay by delayed obeys (sender_of plan line) (auto (sender_of plan line) (sender-within plan well line line_within)) t waited
        place (input_priority plan sends.input) sends.input (calm sends.input taken.of sends.elsewhere)
        (record { taken = sends.taken; place_is = ap place_of (sym sends.level) ∙ here; number_is = omega arith }) in
        sent-again line t (suc t) line_within sends (steady.taken ∙ sends.taken) ∙ steady.level ∙ sym sends.level
    carries-on (inr then) =
        let sends = sends-on line (suc t) place line_within high then in
        let taken = taken-is plan signals out (sender_of plan line) (suc t) sends.input sends.taken in
        let steady : IsSteadyAt plan signals out t (suc t) (sender_of plan line) =
        took-before plan signals out last wait delay by delayed obeys (sender_of plan line) (auto (sender_of plan line) (sender-within plan well line line_within)) t waited
        place (input_priority plan sends.input) sends.input (calm sends.input taken.of sends.elsewhere)
        (record { taken = sends.taken; place_is = ap place_of (sym sends.level) ∙ then; number_is = omega arith }) in
        sends.level ∙ steady.level ∙ sym (sent-again line (suc t) t line_within sends (sym steady.taken ∙ sends.taken))
