-- Where nothing happens but that parts of a failure go down and come up again or fall silent and speak again, what isn't gone says
-- what it said.
use Rattle.std.proofs.Common.{◌≡◌, ◌+◌, ◌*◌, ◌/◌, ℕ, zero, suc, Bool, true, false, List, [], ◌∷◌, filter, Option, None, Some, refl, ap, sym, ◌∙◌, inl, inr, arith}
use Rattle.std.specs.Prelude.{if◌then◌else◌, unwrap_or, nat_eq, nat_lt}
use Rattle.std.specs.Option.{option_or}
use Rattle.std.proofs.lemmas.Bool.{and_parts, true≢false, eqb-true, cases_eq}
use Rattle.sync_text.specs.Each.{Each}
use Rattle.sync_text.proofs.Each.{each-all, all-each, Each-map}
use Rattle.sync_topo.specs.declared.event.Part.{Part}
use Rattle.sync_topo.specs.declared.event.Part.TheVariants as part
use Rattle.sync_topo.specs.declared.event.What.{What}
use Rattle.sync_topo.specs.declared.event.What.TheVariants as what
use Rattle.sync_topo.specs.declared.event.Event.{Event}
use Rattle.sync_topo.specs.declared.input.InputId.{InputId}
use Rattle.sync_topo.specs.declared.input.InputId.TheVariants.{Line, Source}
use Rattle.sync_topo.specs.Topology.{Topology}
use Rattle.net_rules.specs.Signals.{is_of_part, says_up, says_esmc, says_level, last_word, up_at, esmc_at, said_at, planned_level, source_level_before, source_level_at}
use Rattle.reach_rules.specs.declared.failure.Failure.{Failure}
use Rattle.reach_rules.specs.Protection.{is_line_gone, is_source_gone, is_input_gone, is_command, AreWithoutCommands}
use Rattle.reach_rules.specs.Failing.{is_of_level, AreLevelsKept}
use Rattle.reach_rules.specs.Survival.{is_part_gone, is_of_failure, AreOfFailure}

-- an input of a part that is gone is gone
gone-with : (plan : Topology) (failure : Failure) (p : Part) (input : InputId) → is_part_gone plan failure p ≡ true → is_of_part input p ≡ true
    → is_input_gone plan failure input ≡ true
gone-with plan failure (part.Link link) (Line line) gone of =
    let both = and_parts (is_line_gone plan failure (2 * link)) (is_line_gone plan failure (2 * link + 1)) gone in
    let half : line.0 / 2 ≡ link = eqb-true (line.0 / 2) link of in
    elim (cases_eq line.0 (2 * link)) [
      | inl even ↦ ap (is_line_gone plan failure) even ∙ both.0
      | inr other ↦
          let odd : line.0 ≡ 2 * link + 1 = omega (arith, half, other) in
          ap (is_line_gone plan failure) odd ∙ both.1
    ]
gone-with plan failure (part.Line other) (Line line) gone of = ap (is_line_gone plan failure) (eqb-true line.0 other.0 of) ∙ gone
gone-with plan failure (part.Source other) (Source source) gone of = ap (is_source_gone plan failure) (eqb-true source other of) ∙ gone
gone-with plan failure (part.Source other) (Line line) gone of = cc
gone-with plan failure (part.Link link) (Source source) gone of = cc
gone-with plan failure (part.Line other) (Source source) gone of = cc

-- so what happens says nothing of one that isn't, nor of its ESMC, nor of any source's level, and is no command
abbrev SaysNothing : Topology → Failure → What → Type 0
SaysNothing plan failure happens =
    ((input : InputId) → is_input_gone plan failure input ≡ false → says_up input happens ≡ None)
    × ((line : ℕ) → is_line_gone plan failure line ≡ false → says_esmc line happens ≡ None)
    × (is_of_level happens ≡ false)
    × (is_command happens ≡ false)

unspoken : (plan : Topology) (failure : Failure) (p : Part) (input : InputId) (up : Bool) → is_part_gone plan failure p ≡ true
    → is_input_gone plan failure input ≡ false → (if is_of_part input p then Some up else None) ≡ None
unspoken plan failure p input up gone kept = by (is_of_part input p) refl
  where
    by : (of : Bool) → is_of_part input p ≡ of → (if of then Some up else None) ≡ None
    by false apart = refl
    by true of = absurd (true≢false (sym (gone-with plan failure p input gone of) ∙ kept))

unswitched : (plan : Topology) (failure : Failure) (gone line : ℕ) (on : Bool) → is_line_gone plan failure gone ≡ true
    → is_line_gone plan failure line ≡ false → (if nat_eq line gone then Some on else None) ≡ None
unswitched plan failure gone line on is kept = by (nat_eq line gone) refl
  where
    by : (same : Bool) → nat_eq line gone ≡ same → (if same then Some on else None) ≡ None
    by false apart = refl
    by true same = absurd (true≢false (sym (ap (is_line_gone plan failure) (eqb-true line gone same) ∙ is) ∙ kept))

says-nothing : (plan : Topology) (failure : Failure) (happens : What) → is_of_failure plan failure happens ≡ true → SaysNothing plan failure happens
says-nothing plan failure (what.Down p) is =
    (λ input kept. unspoken plan failure p input false is kept, λ line kept. refl, refl, refl)
says-nothing plan failure (what.Up p) is =
    (λ input kept. unspoken plan failure p input true is kept, λ line kept. refl, refl, refl)
says-nothing plan failure (what.EsmcOff line) is =
    (λ input kept. refl, λ other kept. unswitched plan failure line.0 other false is kept, refl, refl)
says-nothing plan failure (what.EsmcOn line) is =
    (λ input kept. refl, λ other kept. unswitched plan failure line.0 other true is kept, refl, refl)
says-nothing plan failure (what.SourceLevel source level) is = cc
says-nothing plan failure (what.Lockout input) is = cc
says-nothing plan failure (what.Unlock input) is = cc
says-nothing plan failure (what.Forced input) is = cc
says-nothing plan failure (what.Manual input) is = cc
says-nothing plan failure (what.Clear element) is = cc
says-nothing plan failure (what.ClearWtr input) is = (λ other kept. refl, λ line kept. refl, refl, refl)

-- of events that don't speak of a matter none has the last word on it
none-said : {A : Type 0} (says : What → Option A) (p : Event → Bool) (events : List Event) → Each (λ event. says event.what ≡ None) events
    → last_word says (filter p events) ≡ None
none-said says p [] each = refl
none-said {A = A} says p (event ∷ events) each = by (p event) (none-said says p events each.1)
  where
    by : (here : Bool) → last_word says (filter p events) ≡ None → last_word says (if here then event ∷ filter p events else filter p events) ≡ None
    by false rest = rest
    by true rest = ap (λ o. option_or o (says event.what)) rest ∙ each.0

-- where no event changes a level, each source keeps the plan's
silent-level : (source : ℕ) (happens : What) → is_of_level happens ≡ false → says_level source happens ≡ None
silent-level source (what.SourceLevel other level) is = cc
silent-level source (what.Down part) is = refl
silent-level source (what.Up part) is = refl
silent-level source (what.EsmcOff line) is = refl
silent-level source (what.EsmcOn line) is = refl
silent-level source (what.Lockout input) is = refl
silent-level source (what.Unlock input) is = refl
silent-level source (what.Forced input) is = refl
silent-level source (what.Manual input) is = refl
silent-level source (what.Clear element) is = refl
silent-level source (what.ClearWtr input) is = refl

module _ (plan : Topology) (events : List Event) (kept : AreLevelsKept events) where
  said-planned : (source t : ℕ) → said_at plan events source t ≡ planned_level plan source
  unfolding said_at
  said-planned source t =
      ap (λ o. unwrap_or o (planned_level plan source)) (none-said (says_level source) (λ event. nat_lt event.at (suc t)) events
      (Each-map (λ event. is_of_level event.what ≡ false) (λ event. says_level source event.what ≡ None) (λ event is. silent-level source event.what is) events
      (each-all (λ event. is_of_level event.what ≡ false) events kept)))

  before-planned : (source t : ℕ) → source_level_before plan events source t ≡ planned_level plan source
  before-planned source zero = refl
  before-planned source (suc t) = by (up_at events (Source source) t) (before-planned source t)
    where
      by : (up : Bool) → source_level_before plan events source t ≡ planned_level plan source
          → (if up then said_at plan events source t else source_level_before plan events source t) ≡ planned_level plan source
      by true before = said-planned source t
      by false before = before

  pub level-kept : (source t : ℕ) → source_level_at plan events source t ≡ planned_level plan source
  unfolding source_level_at
  level-kept source t = before-planned source (suc t)

module _ (plan : Topology) (failure : Failure) (events : List Event) (of_failure : AreOfFailure plan failure events) where
  each-silent : Each (λ event. SaysNothing plan failure event.what) events
  each-silent =
      Each-map (λ event. is_of_failure plan failure event.what ≡ true) (λ event. SaysNothing plan failure event.what)
      (λ event is. says-nothing plan failure event.what is) events
      (each-all (λ event. is_of_failure plan failure event.what ≡ true) events of_failure)

  pub kept-up : (input : InputId) (t : ℕ) → is_input_gone plan failure input ≡ false → up_at events input t ≡ true
  unfolding up_at
  kept-up input t kept =
      ap (λ o. unwrap_or o true) (none-said (says_up input) (λ event. nat_lt event.at (suc t)) events
      (Each-map (λ event. SaysNothing plan failure event.what) (λ event. says_up input event.what ≡ None) (λ event says. says.0 input kept) events each-silent))

  pub esmc-on : (line t : ℕ) → is_line_gone plan failure line ≡ false → esmc_at events line t ≡ true
  unfolding esmc_at
  esmc-on line t kept =
      ap (λ o. unwrap_or o true) (none-said (says_esmc line) (λ event. nat_lt event.at (suc t)) events
      (Each-map (λ event. SaysNothing plan failure event.what) (λ event. says_esmc line event.what ≡ None) (λ event says. says.1 line kept) events each-silent))

  pub no-levels : AreLevelsKept events
  no-levels =
      all-each (λ event. is_of_level event.what ≡ false) events
      (Each-map (λ event. SaysNothing plan failure event.what) (λ event. is_of_level event.what ≡ false) (λ event says. says.2) events each-silent)

  pub level-planned : (source t : ℕ) → source_level_at plan events source t ≡ planned_level plan source
  level-planned source t = level-kept plan events no-levels source t

  pub no-command : AreWithoutCommands events
  no-command =
      all-each (λ event. is_command event.what ≡ false) events
      (Each-map (λ event. SaysNothing plan failure event.what) (λ event. is_command event.what ≡ false) (λ event says. says.3) events each-silent)
