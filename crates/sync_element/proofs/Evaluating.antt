-- What is decided at the end of a millisecond is what the rules say.
use Rattle.std.proofs.Common.{◌≡◌, ◌<◌, ℕ, Bool, ◌||◌, List, ◌∷◌, map, length, Option, ap, sym, ◌∙◌, arith, zero-add}
use Rattle.std.specs.Prelude.{is_some}
use Rattle.std.specs.List.{range_with_len}
use Rattle.std.proofs.lemmas.List.{ext_get_or}
use Rattle.std.proofs.lemmas.List.FromFn.{length-map-range_with_len, get_or-map-range_with_len}
use Rattle.sync_ql.specs.declared.rules.Candidate.{Candidate}
use Rattle.sync_ql.specs.Switches.{Switches}
use Rattle.sync_ql.specs.Selection.{candidate, choice}
use Rattle.sync_ql.specs.Moment.{Moment, Settings, candidates_at, at_end, switches_at, selection_at}
use Rattle.sync_ql.specs.Output.{was_locked}
use Rattle.sync_ql.proofs.Eligible.{nobody}
use Rattle.sync_ql.proofs.QuietMoments.{seen, commanded, switches_at-cons, selection_at-cons}

-- inputs that are seen as the rules say, place by place
pub candidates_seen : (settings : Settings) (s : Switches) (past : List Moment) (inputs : List Candidate) → length inputs ≡ length settings.priorities → ((i : ℕ) → i < length settings.priorities → candidate inputs i ≡ seen settings s past i) → inputs ≡ candidates_at settings s past
candidates_seen settings s past inputs long same =
    let n = length settings.priorities in
    let f : ℕ → Candidate = seen settings s past in
    ext_get_or nobody inputs (map f (range_with_len 0 n)) (long ∙ sym (length-map-range_with_len f 0 n))
    (λ i inside.
    let within : i < n = omega (arith, inside, long) in
    same i within ∙ sym (get_or-map-range_with_len f 0 n i i nobody within (zero-add i)))

-- the end of a millisecond: the inputs as the choice sees them, the switches as commanded and then, and
-- what was taken before and is taken then
pub record Evaluation : Type 0 where
  pub inputs : List Candidate
  pub commands : Switches
  pub switches : Switches
  pub taken : Option ℕ
  pub selection : Option ℕ
  pub was : Bool
  pub was_then : Bool

-- a millisecond after a past, at whose end an input was chosen
pub record IsEvaluated (settings : Settings) (now : Moment) (before : List Moment) (v : Evaluation) : Type 0 where
  pub seen_is : v.inputs ≡ candidates_at settings v.commands (now ∷ before)
  pub commanded_is : v.commands ≡ commanded settings now before
  pub ended : v.switches ≡ at_end v.inputs v.commands
  pub chosen : v.selection ≡ choice v.inputs v.switches.forced v.switches.manual v.taken
  pub taken_is : v.taken ≡ selection_at settings before
  pub was_is : v.was ≡ was_locked settings before
  pub ever : v.was_then ≡ (is_some v.selection || v.was)

pub switches_evaluated : (settings : Settings) (now : Moment) (before : List Moment) (v : Evaluation) → IsEvaluated settings now before v → v.switches ≡ switches_at settings (now ∷ before)
switches_evaluated settings now before v is =
    is.ended
    ∙ ap (λ c. at_end c v.commands) is.seen_is
    ∙ ap (λ s. at_end (candidates_at settings s (now ∷ before)) s) is.commanded_is
    ∙ sym (switches_at-cons settings now before)

pub selection_evaluated : (settings : Settings) (now : Moment) (before : List Moment) (v : Evaluation) → IsEvaluated settings now before v → v.selection ≡ selection_at settings (now ∷ before)
selection_evaluated settings now before v is =
    let past : List Moment = now ∷ before in
    let s : Switches = switches_at settings past in
    let same : candidates_at settings v.switches past ≡ candidates_at settings v.commands past = ap (λ u. candidates_at settings u past) is.ended in
    is.chosen
    ∙ ap (λ c. choice c v.switches.forced v.switches.manual v.taken) (is.seen_is ∙ sym same)
    ∙ ap (λ u. choice (candidates_at settings u past) u.forced u.manual v.taken) (switches_evaluated settings now before v is)
    ∙ ap (choice (candidates_at settings s past) s.forced s.manual) is.taken_is
    ∙ sym (selection_at-cons settings now before)

pub was_locked_evaluated : (settings : Settings) (now : Moment) (before : List Moment) (v : Evaluation) → IsEvaluated settings now before v → v.was_then ≡ was_locked settings (now ∷ before)
was_locked_evaluated settings now before v is =
    is.ever
    ∙ ap (λ o. is_some o || v.was) (selection_evaluated settings now before v is)
    ∙ ap (λ b. is_some (selection_at settings (now ∷ before)) || b) is.was_is
