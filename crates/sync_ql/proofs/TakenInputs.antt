-- What an element takes may be taken.
use Rattle.std.proofs.Common.{◌≡◌, ◌<◌, ℕ, Bool, true, false, not, List, ◌∷◌, length, Option, None, Some, IfSome, refl, ap, sym, subst, ◌∙◌, zero-add}
use Rattle.std.proofs.lemmas.Bool.{and_parts, ltb-true}
use Rattle.std.proofs.lemmas.List.FromFn.{get_or-map-range_with_len}
use Rattle.sync_ql.specs.declared.levels.Level.{Level}
use Rattle.sync_ql.specs.declared.rules.Candidate.{Candidate}
use Rattle.sync_ql.specs.Switches.{Switches, is_locked}
use Rattle.sync_ql.specs.Selection.{candidate, is_above_do_not_use, is_better, is_eligible, choice, standing_manual, IsEligible}
use Rattle.sync_ql.specs.Moment.{Moment, Settings, level_now, usable_at, candidates_at, switches_at, selection_at}
use Rattle.sync_ql.specs.Taken.{MayBeTaken}
use Rattle.sync_ql.proofs.Eligible.{nobody}
use Rattle.sync_ql.proofs.QuietMoments.{seen, commanded, seen_at, switches_at-cons, selection_at-cons, selection_at-within}
use Rattle.sync_ql.proofs.SameChoice.{choice_eligible}

is_false : (b : Bool) → not b ≡ true → b ≡ false
is_false true is = cc
is_false false is = refl

-- the level that an eligible candidate has
pub record HasGoodLevel (level : Option Level) (floor : Option Level) : Type 0 where
  pub which : Level
  pub is : level ≡ Some which
  pub good : is_above_do_not_use (Some which) ≡ true
  pub above : is_better floor (Some which) ≡ false

good_level : (level floor : Option Level) → is_above_do_not_use level ≡ true → is_better floor level ≡ false → HasGoodLevel level floor
good_level None floor good above = cc
good_level (Some which) floor good above = record { which = which; is = refl; good = good; above = above }

may_be_taken : (settings : Settings) (s : Switches) (past : List Moment) (i : ℕ) → i < length settings.priorities → s.locked ≡ (switches_at settings past).locked → is_eligible (candidate (candidates_at settings s past) i) ≡ true → MayBeTaken settings past i
may_be_taken settings s past i within locked eligible =
    let at : candidate (candidates_at settings s past) i ≡ seen settings s past i = get_or-map-range_with_len (seen settings s past) 0 (length settings.priorities) i i nobody within (zero-add i) in
    let here : is_eligible (seen settings s past i) ≡ true = sym (ap is_eligible at) ∙ eligible in
    let both = and_parts (usable_at settings s past i) (is_above_do_not_use (level_now i past)) here in
    let parts = and_parts _ _ both.0 in
    let signals = and_parts _ _ parts.0 in
    let level = good_level (level_now i past) settings.floor both.1 (is_false _ parts.1) in
    let open_ : is_locked s i ≡ false = is_false _ signals.0 in
    record {
      within = within;
      not_locked = subst (λ (l : List Bool). is_locked (record { locked = l; forced = None; manual = None }) i ≡ false) locked open_;
      not_failed = is_false _ signals.1;
      level = level.which;
      level_is = level.is;
      above_do_not_use = ltb-true _ _ level.good;
      not_below = level.above;
    }

of_some : (settings : Settings) (s : Switches) (past : List Moment) (taken : Option ℕ) → IfSome taken (λ i. i < length settings.priorities) → s.locked ≡ (switches_at settings past).locked → IfSome taken (IsEligible (candidates_at settings s past)) → IfSome taken (MayBeTaken settings past)
of_some settings s past None within locked eligible = tt
of_some settings s past (Some i) within locked eligible = may_be_taken settings s past i within locked eligible

pub taken_may_be_taken : (settings : Settings) (now : Moment) (before : List Moment) → IfSome (selection_at settings (now ∷ before)) (MayBeTaken settings (now ∷ before))
taken_may_be_taken settings now before =
    let s : Switches = commanded settings now before in
    let inputs : List Candidate = seen_at settings now before in
    let stands = switches_at-cons settings now before in
    let chosen : selection_at settings (now ∷ before) ≡ choice inputs s.forced (standing_manual inputs s.manual) (selection_at settings before) =
    selection_at-cons settings now before
    ∙ ap (λ t. choice (candidates_at settings t (now ∷ before)) t.forced t.manual (selection_at settings before)) stands in
    let eligible : IfSome (selection_at settings (now ∷ before)) (IsEligible inputs) =
    subst (λ o. IfSome o (IsEligible inputs)) (sym chosen) (choice_eligible inputs s.forced s.manual (selection_at settings before)) in
    of_some settings s (now ∷ before) (selection_at settings (now ∷ before)) (selection_at-within settings now before) (sym (ap (λ (t : Switches). t.locked) stands)) eligible
