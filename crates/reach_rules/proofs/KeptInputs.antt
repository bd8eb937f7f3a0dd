-- An element takes the same in two milliseconds where its inputs are kept that are at least as good as what it takes in one of them.
use Rattle.std.proofs.Common.{◌≡◌, ◌≤◌, ◌<◌, ◌+◌, ◌⊎◌, ℕ, suc, false, length, Option, Some, slice_get, ap, sym, subst, ◌∙◌, inl, inr, arith}
use Rattle.std.proofs.lemmas.Bool.{and_parts}
use Rattle.std.proofs.lemmas.Option.{slice_get_cases, same_Some}
use Rattle.std.specs.List.{list_all}
use Rattle.std.specs.Prelude.{not, ◌&&◌}
use Rattle.sync_text.proofs.Each.{each-at}
use Rattle.sync_ql.specs.declared.levels.Level.{Level}
use Rattle.sync_ql.specs.Level.{place_of}
use Rattle.sync_ql.specs.Selection.{candidate, is_eligible, beats, best_choice}
use Rattle.sync_ql.specs.Moment.{selection_at}
use Rattle.sync_topo.specs.declared.input.InputId.{InputId}
use Rattle.sync_topo.specs.Topology.{Topology}
use Rattle.sync_topo.specs.Lines.{inputs_of, input_priority}
use Rattle.net_rules.specs.Signals.{Signals}
use Rattle.net_rules.specs.Inputs.{IsInputOf}
use Rattle.net_rules.specs.History.{Levels, settings_of, heard, input_level, element_past, taken_at, level_at, failed_by, Obeys}
use Rattle.net_rules.proofs.HistoryLaws.{IsDelayed}
use Rattle.net_rules.proofs.InputLaws.{inputs-are}
use Rattle.net_rules.proofs.NetLaws.{IsTakenAt, IsSelected, selected-taken, taken-is}
use Rattle.net_rules.proofs.RunOutLaws.{RunsOut}
use Rattle.net_rules.proofs.WaitLaws.{failed-stays}
use Rattle.reach_rules.specs.Agreement.{IsAuto, IsSteadyAt}
use Rattle.reach_rules.proofs.AutoLaws.{candidates_in, chosen_in, auto-at, auto-best, eligible-within, eligible-good, level-seen, priority-seen, seen-same}
use Rattle.reach_rules.proofs.KeptChoice.{IsAtLeast, AreKept, best-chosen, stays, came}
use Rattle.reach_rules.proofs.ReachLaws.{taken-there}

-- a level is at least as good as a place among the levels, with a priority number that is no greater where it has this place
abbrev pub IsAsGood : ℕ → ℕ → Level → ℕ → Type 0
IsAsGood place number level priority = (place_of level < place) ⊎ ((place_of level ≡ place) × (priority ≤ number))

abbrev IsGoodAt : Topology → Signals → Levels → ℕ → ℕ → ℕ → InputId → Type 0
IsGoodAt plan signals out place number t input =
    (level : Level) × (input_level signals (heard plan signals out) input t ≡ Some level) × IsAsGood place number level (input_priority plan input)

-- an element's inputs that are not failed and at least so good, in a millisecond or the next one, have the same level in both
abbrev pub AreCalm : Topology → Signals → Levels → ℕ → ℕ → ℕ → ℕ → Type 0
AreCalm plan signals out element t place number =
    (input : InputId) → IsInputOf plan element input → failed_by plan signals input t ≡ false → (level : Level)
    → (input_level signals (heard plan signals out) input t ≡ Some level) ⊎ (input_level signals (heard plan signals out) input (suc t) ≡ Some level)
    → IsAsGood place number level (input_priority plan input)
    → input_level signals (heard plan signals out) input (suc t) ≡ input_level signals (heard plan signals out) input t

-- an input is taken in a millisecond, at a place among the levels
pub record Takes (plan : Topology) (signals : Signals) (out : Levels) (element t place number : ℕ) (input : InputId) : Type 0 where
  pub taken : taken_at plan signals out element t ≡ Some input
  pub place_is : place_of (level_at plan signals out element t) ≡ place
  pub number_is : input_priority plan input ≤ number

module _ (plan : Topology) (signals : Signals) (out : Levels) (last wait delay : ℕ)
    (by : RunsOut plan signals out last wait delay) (delayed : IsDelayed plan) (obeys : Obeys plan signals out)
    (element : ℕ) (auto : IsAuto plan signals out last element) (t : ℕ) (waited : last + wait ≤ t) where
  auto-now : (u : ℕ) → last ≤ u → IsAuto plan signals out u element
  auto-now u after = (auto-at plan signals out element last u by.quiet auto after).0

  abbrev before : Option ℕ
  before = selection_at (settings_of plan element) (element_past plan signals out element t)

  chosen-now : chosen_in plan signals out element t ≡ best_choice (candidates_in plan signals out element t) before
  chosen-now = auto-best plan signals out element t (auto-now t (omega (arith, waited)))

  chosen-next : chosen_in plan signals out element (suc t) ≡ best_choice (candidates_in plan signals out element (suc t)) (chosen_in plan signals out element t)
  chosen-next = auto-best plan signals out element (suc t) (auto-now (suc t) (omega (arith, waited)))

  -- the candidates are kept
  kept : (place number : ℕ) → AreCalm plan signals out element t place number
      → AreKept (candidates_in plan signals out element t) (candidates_in plan signals out element (suc t)) place number
  kept place number calm k least = elim least [
    | inl now ↦ of k (eligible-within plan signals out element t k now.eligible)
        (λ input is inside there. eligible-good plan signals out element t k input inside there is.of_element now.eligible)
        (λ input inside there. inl (as-seen t k input inside there now))
    | inr next ↦ of k (eligible-within plan signals out element (suc t) k next.eligible)
        (λ input is inside there.
        sym (failed-stays plan signals out last wait delay by delayed obeys input t is.has is.nominated waited)
        ∙ eligible-good plan signals out element (suc t) k input inside there is.of_element next.eligible)
        (λ input inside there. inr (as-seen (suc t) k input inside there next))
  ]
    where
      as-seen : (u k : ℕ) (input : InputId) → k < length (inputs_of plan element) → slice_get (inputs_of plan element) k ≡ Some input
          → IsAtLeast place number (candidate (candidates_in plan signals out element u) k) → IsGoodAt plan signals out place number u input
      as-seen u k input inside there least = (
        least.level,
        sym (level-seen plan signals out element u k input inside there) ∙ least.is,
        subst (λ priority. IsAsGood place number least.level priority) (priority-seen plan signals out element u k input inside there) least.stands,
      )

      same-level : (input : InputId) → IsInputOf plan element input → failed_by plan signals input t ≡ false → IsGoodAt plan signals out place number t input ⊎ IsGoodAt plan signals out place number (suc t) input
          → input_level signals (heard plan signals out) input (suc t) ≡ input_level signals (heard plan signals out) input t
      same-level input is good (inl now) = calm input is good now.0 (inl now.1) now.2
      same-level input is good (inr next) = calm input is good next.0 (inr next.1) next.2

      of : (k : ℕ) → k < length (inputs_of plan element)
          → ((input : InputId) → IsInputOf plan element input → k < length (inputs_of plan element) → slice_get (inputs_of plan element) k ≡ Some input → failed_by plan signals input t ≡ false)
          → ((input : InputId) → k < length (inputs_of plan element) → slice_get (inputs_of plan element) k ≡ Some input → IsGoodAt plan signals out place number t input ⊎ IsGoodAt plan signals out place number (suc t) input)
          → candidate (candidates_in plan signals out element (suc t)) k ≡ candidate (candidates_in plan signals out element t) k
      of k inside good seen = elim (slice_get_cases (inputs_of plan element) k).1 [
        | inl there ↦
            let is = each-at (IsInputOf plan element) (inputs_of plan element) k there.0 (inputs-are plan element) there.2 in
            seen-same plan signals out element t (suc t) k there.0 inside there.2 is.of_element
            ((auto-at plan signals out element last (suc t) by.quiet auto (omega (arith, waited))).1
            ∙ sym (auto-at plan signals out element last t by.quiet auto (omega (arith, waited))).1)
            (same-level there.0 is (good there.0 is inside there.2) (seen there.0 inside there.2))
            (failed-stays plan signals out last wait delay by delayed obeys there.0 t is.has is.nominated waited)
        | inr past ↦ absurd (omega (arith, inside, past.0))
      ]

  -- what is taken is at least as good as itself
  least-taken : (u place number : ℕ) (input : InputId) (current : Option ℕ) → Takes plan signals out element u place number input
      → (s : IsSelected plan signals out element u input) → best_choice (candidates_in plan signals out element u) current ≡ Some s.place
      → IsAtLeast place number (candidate (candidates_in plan signals out element u) s.place)
  least-taken u place number input current takes s chosen =
      let taken = taken-is plan signals out element u input takes.taken in
      let best = best-chosen (candidates_in plan signals out element u) current s.place chosen in
      let eligible = (and_parts (is_eligible (candidate (candidates_in plan signals out element u) s.place))
      (list_all (λ other. not (is_eligible other && beats other (candidate (candidates_in plan signals out element u) s.place))) (candidates_in plan signals out element u)) best).0 in
      let inside = eligible-within plan signals out element u s.place eligible in
      record {
        eligible = eligible;
        level = level_at plan signals out element u;
        is = level-seen plan signals out element u s.place input inside s.there ∙ taken.has_level;
        stands = inr (takes.place_is, subst (λ n. n ≤ number) (sym (priority-seen plan signals out element u s.place input inside s.there)) takes.number_is);
      }

  level-same : (input : InputId) → taken_at plan signals out element t ≡ Some input → taken_at plan signals out element (suc t) ≡ Some input
      → input_level signals (heard plan signals out) input (suc t) ≡ input_level signals (heard plan signals out) input t
      → level_at plan signals out element (suc t) ≡ level_at plan signals out element t
  level-same input now next same =
      same_Some _ _ (sym (taken-is plan signals out element (suc t) input next).has_level ∙ same ∙ (taken-is plan signals out element t input now).has_level)

  -- what is taken is taken again, and was taken before
  pub takes-again : (place number : ℕ) (input : InputId) → AreCalm plan signals out element t place number → Takes plan signals out element t place number input
      → IsSteadyAt plan signals out t (suc t) element
  takes-again place number input calm takes = record { taken = next ∙ sym takes.taken; level = level-same input takes.taken next same }
    where
      s : IsSelected plan signals out element t input
      s = selected-taken plan signals out element t input takes.taken

      chosen : best_choice (candidates_in plan signals out element t) before ≡ Some s.place
      chosen = sym chosen-now ∙ s.selected

      again : best_choice (candidates_in plan signals out element (suc t)) (Some s.place) ≡ Some s.place
      again =
          stays (candidates_in plan signals out element t) (candidates_in plan signals out element (suc t)) place number (kept place number calm) before s.place chosen
          (least-taken t place number input before takes s chosen)

      next : taken_at plan signals out element (suc t) ≡ Some input
      next =
          taken-there plan signals out element (suc t) s.place input
          (chosen-next ∙ ap (best_choice (candidates_in plan signals out element (suc t))) s.selected ∙ again) s.there

      taken : IsTakenAt plan signals out element t input
      taken = taken-is plan signals out element t input takes.taken

      same : input_level signals (heard plan signals out) input (suc t) ≡ input_level signals (heard plan signals out) input t
      same = calm input taken.of taken.good (level_at plan signals out element t) (inl taken.has_level) (inr (takes.place_is, takes.number_is))

  pub took-before : (place number : ℕ) (input : InputId) → AreCalm plan signals out element t place number → Takes plan signals out element (suc t) place number input
      → IsSteadyAt plan signals out t (suc t) element
  took-before place number input calm takes = record { taken = takes.taken ∙ sym now; level = level-same input now takes.taken same }
    where
      s : IsSelected plan signals out element (suc t) input
      s = selected-taken plan signals out element (suc t) input takes.taken

      chosen : best_choice (candidates_in plan signals out element (suc t)) (chosen_in plan signals out element t) ≡ Some s.place
      chosen = sym chosen-next ∙ s.selected

      earlier : chosen_in plan signals out element t ≡ Some s.place
      earlier =
          came (candidates_in plan signals out element t) (candidates_in plan signals out element (suc t)) place number (kept place number calm) before
          (chosen_in plan signals out element t) s.place (sym chosen-now) chosen
          (least-taken (suc t) place number input (chosen_in plan signals out element t) takes s chosen)

      now : taken_at plan signals out element t ≡ Some input
      now = taken-there plan signals out element t s.place input earlier s.there

      taken : IsTakenAt plan signals out element (suc t) input
      taken = taken-is plan signals out element (suc t) input takes.taken

      same : input_level signals (heard plan signals out) input (suc t) ≡ input_level signals (heard plan signals out) input t
      same =
          calm input taken.of (sym (failed-stays plan signals out last wait delay by delayed obeys input t taken.of.has taken.of.nominated waited) ∙ taken.good)
          (level_at plan signals out element (suc t)) (inr taken.has_level) (inr (takes.place_is, takes.number_is))
