-- Elements are told of the levels that are heard on their lines.
use Rattle.std.proofs.Common.{◌≡◌, ◌≢◌, ◌<◌, ◌⊎◌, ℕ, Bool, true, false, ◌||◌, nat_eq, List, [], ◌∷◌, ◌++◌, length, Option, None, Some, slice_get, refl, ap, sym, subst, ◌∙◌, inl, inr, arith, get_or-set_other, length-set}
use Rattle.std.specs.Prelude.{slice_index_or, if◌then◌else◌, slice_set, IsSomeAnd}
use Rattle.std.specs.List.{list_any, All}
use Rattle.std.specs.Option.{option_or}
use Rattle.std.proofs.lemmas.Bool.{true≢false, or_parts}
use Rattle.std.proofs.lemmas.Bool.Decides.{nat_tests}
use Rattle.std.proofs.Math.Bool.{or-false}
use Rattle.std.proofs.lemmas.List.{append-nil, get_or-set_same, get_or_default}
use Rattle.std.proofs.lemmas.List.Elements.{All-push}
use Rattle.std.proofs.lemmas.List.Folds.{list_any-append}
use Rattle.std.proofs.lemmas.Option.{same_Some, none-some, slice_get_within}
use Rattle.sync_text.proofs.Tests.{or-second}
use Rattle.sync_ql.specs.declared.levels.Level.{Level}
use Rattle.sync_ql.specs.declared.rules.InputEvent.{InputEvent}
use Rattle.sync_ql.specs.declared.rules.InputEvent.TheVariants as tell
use Rattle.sync_ql.specs.Messages.{is_same_level}
use Rattle.sync_ql.specs.Told.{last_said, says_up, says_level, clears, commands_in, IsOfOption, FitsElement}
use Rattle.sync_ql.proofs.Delivered.{same-is as same_level-is}
use Rattle.sync_topo.specs.declared.input.InputId.{InputId}
use Rattle.sync_topo.specs.declared.input.InputId.TheVariants.{Source}
use Rattle.sync_topo.specs.Topology.{Topology}
use Rattle.sync_topo.specs.Lines.{line_count, line_input, receiver_of, inputs_of, IsNominated, place_at}
use Rattle.sync_topo.specs.WellFormed.{IsWellFormed}
use Rattle.sync_topo.proofs.LineLaws.{IsNominated-within}
use Rattle.net_rules.specs.Inputs.{IsInputOf}
use Rattle.net_rules.specs.History.{settings_of}
use Rattle.net_rules.proofs.WalkLaws.{line_input-same}
use Rattle.net_rules.proofs.NetLaws.{many-inputs}
use Rattle.net_words.specs.Tellings.{is_something}
use Rattle.agenda.specs.Called.{is_marked}
use Rattle.sync_net.specs.declared.signals.LineSignal.{LineSignal}
use Rattle.sync_net.specs.NetState.{line_in}
use Rattle.sync_net.specs.private.Steps.{IsLineTold}
use Rattle.sync_net.specs.private.Hearing.{Ears, heard_in, IsToldAt, IsNotTold, HearsMore, told_in, AreTold, CanTell, IsPassedOn}
use Rattle.sync_net.proofs.StageLaws.{one-of, none-of, is-place, keeps-marks, keeps-same}
use Rattle.net_rules.proofs.OwnLevels.{own-option}
use Rattle.net_words.proofs.DistinctInputs.{place-at, input-of}
use Rattle.net_words.proofs.PlaceLemmas.{found-at}
use Rattle.net_words.proofs.WordLaws.{last_said-append, commands_in-append}

-- nothing is told where nothing is otherwise
pub hears-same : (plan : Topology) (element : ℕ) (heards : List (Option Level)) (changes : List InputEvent) → HearsMore plan element heards heards changes changes
hears-same plan element heards changes = record {
  up = λ i. refl;
  clear = λ i. refl;
  commands = refl;
  fits = λ fit. fit;
  source = λ i source at. refl;
  line = λ i line at. inl (refl, refl);
}

or_none : {A : Type 0} (o : Option A) → option_or None o ≡ o
or_none o = refl

-- another line's level stays
heard-other : (heards : List (Option Level)) (line other : ℕ) (level : Option Level) → other ≢ line → heard_in (slice_set heards line level) other ≡ heard_in heards other
heard-other heards line other level apart = get_or-set_other heards line other level None apart

-- an element that doesn't have the line is told nothing
pub hears-nowhere : (plan : Topology) (element line : ℕ) (level : Option Level) (heards : List (Option Level)) (changes changes_then : List InputEvent) →
    line < length heards → place_at plan element (line_input line) ≡ None → changes_then ≡ changes ++ [] →
    HearsMore plan element heards (slice_set heards line level) changes changes_then
hears-nowhere plan element line level heards changes changes_then within at more = record {
  up = λ i. ap (last_said (says_up i)) same;
  clear = λ i. ap (list_any (clears i)) same;
  commands = ap commands_in same;
  fits = λ fit. subst (All (FitsElement (settings_of plan element))) (sym same) fit;
  source = λ i source here. ap (last_said (says_level i)) same;
  line = λ i other here. inl (ap (last_said (says_level i)) same, heard-other heards line other level (apart i other here));
}
  where
    same : changes_then ≡ changes
    same = more ∙ append-nil changes

    apart : (i other : ℕ) → slice_get (inputs_of plan element) i ≡ Some (line_input other) → other ≢ line
    apart i other here is = none-some i (sym at ∙ ap (λ l. place_at plan element (line_input l)) (sym is) ∙ place-at plan element i (line_input other) here)

-- an element is told of the level on a line where it has the line
pub hears-word : (plan : Topology) (element line : ℕ) (level : Option Level) (heards : List (Option Level)) (changes changes_then : List InputEvent) (place : ℕ) →
    IsOfOption (settings_of plan element).own.option level → line < length heards →
    place_at plan element (line_input line) ≡ Some place → changes_then ≡ changes ++ tell.Heard place level ∷ [] →
    HearsMore plan element heards (slice_set heards line level) changes changes_then
hears-word plan element line level heards changes changes_then place of_option within at more = record {
  up = λ i. ap (last_said (says_up i)) more ∙ last_said-append (says_up i) changes word;
  clear = λ i. ap (list_any (clears i)) more ∙ list_any-append (clears i) changes word ∙ or-false (list_any (clears i) changes);
  commands = ap commands_in more ∙ commands_in-append changes word ∙ append-nil (commands_in changes);
  fits = λ fit. subst (All (FitsElement (settings_of plan element))) (sym more) (All-push (FitsElement (settings_of plan element)) changes (tell.Heard place level) fit (room, of_option));
  source = λ i source here. ap (last_said (says_level i)) more ∙ last_said-append (says_level i) changes word
      ∙ ap (λ b. option_or (if b then Some level else None) (last_said (says_level i) changes)) (other_place i (Source source) here (λ is. no_source source is));
  line = λ i other here. by i other here (nat_eq place i) refl;
}
  where
    word : List InputEvent
    word = tell.Heard place level ∷ []

    there : slice_get (inputs_of plan element) place ≡ Some (line_input line)
    there = found-at plan element place (line_input line) at

    room : place < length (settings_of plan element).priorities
    room = omega (arith, many-inputs plan element, slice_get_within (inputs_of plan element) place (line_input line) there)

    no_source : (source : ℕ) → Source source ≡ line_input line → ⊥
    no_source source is = cc

    other_place : (i : ℕ) (input : InputId) → slice_get (inputs_of plan element) i ≡ Some input → (input ≡ line_input line → ⊥) → nat_eq place i ≡ false
    other_place i input here differs = of (nat_eq place i) refl
      where
        of : (b : Bool) → nat_eq place i ≡ b → b ≡ false
        of false is = refl
        of true is =
            let same : place ≡ i = grind (arith, nat_tests) in
            absurd (differs (same_Some input (line_input line) (sym here ∙ ap (slice_get (inputs_of plan element)) (sym same) ∙ there)))

    by : (i other : ℕ) → slice_get (inputs_of plan element) i ≡ Some (line_input other) → (b : Bool) → nat_eq place i ≡ b →
        ((last_said (says_level i) changes_then ≡ last_said (says_level i) changes) × (heard_in (slice_set heards line level) other ≡ heard_in heards other))
        ⊎ (last_said (says_level i) changes_then ≡ Some (heard_in (slice_set heards line level) other))
    by i other here false is = inl (
      ap (last_said (says_level i)) more ∙ last_said-append (says_level i) changes word ∙ ap (λ b. option_or (if b then Some level else None) (last_said (says_level i) changes)) is,
      heard-other heards line other level (λ same.
          let found : Some i ≡ Some place = sym (place-at plan element i (line_input other) here) ∙ ap (λ l. place_at plan element (line_input l)) same ∙ at in
          let equal : i ≡ place = same_Some i place found in
          true≢false (sym (let e : nat_eq place i ≡ true = grind (arith, nat_tests) in e) ∙ is)),
    )
    by i other here true is =
        let same : place ≡ i = grind (arith, nat_tests) in
        let line_is : other ≡ line = line_input-same other line (same_Some (line_input other) (line_input line) (sym here ∙ ap (slice_get (inputs_of plan element)) (sym same) ∙ there)) in
        inr (
        ap (last_said (says_level i)) more ∙ last_said-append (says_level i) changes word ∙ ap (λ b. option_or (if b then Some level else None) (last_said (says_level i) changes)) is
        ∙ sym (ap (λ l. Some (heard_in (slice_set heards line level) l)) line_is ∙ ap Some (get_or-set_same heards line level None within))
        )

-- the same level is kept, and nothing is told
pub passed-same : (plan : Topology) (line : ℕ) (level : Option Level) (heards : List (Option Level)) (changes : List (List InputEvent)) (active : List Bool) →
    is_same_level level (heard_in heards line) ≡ true → IsPassedOn plan line level heards heards changes changes active active
passed-same plan line level heards changes active same = record {
  heards_count = refl;
  changes_count = refl;
  marks = keeps-same active;
  level_is = sym (same_level-is level (heard_in heards line) same);
  others = λ other apart. refl;
  hears = λ element. hears-same plan element heards (told_in changes element);
  cause = λ element is. inl is;
  silent = λ element is. refl;
}

-- the element that a word is told to, and the others
abbrev pub only_there : ℕ → ℕ → Option Level → ℕ → List InputEvent
only_there one place level element = if nat_eq one element then tell.Heard place level ∷ [] else []

-- another level is kept, and the element of the line is told
pub passed-on : (plan : Topology) (line one place : ℕ) (level : Option Level) (heards : List (Option Level)) (changes changes_then : List (List InputEvent)) (active active_then : List Bool) →
    IsWellFormed plan → IsNominated plan line → length heards ≡ line_count plan → one < length plan.elements → IsOfOption plan.option level → is_same_level level (heard_in heards line) ≡ false →
    ((element : ℕ) → place_at plan element (line_input line) ≡ (if nat_eq one element then Some place else None)) →
    length changes_then ≡ length changes → length active_then ≡ length active →
    ((element : ℕ) → told_in changes_then element ≡ told_in changes element ++ only_there one place level element) →
    ((element : ℕ) → is_marked active_then element ≡ (is_marked active element || is_something (only_there one place level element))) →
    IsPassedOn plan line level heards (slice_set heards line level) changes changes_then active active_then
passed-on plan line one place level heards changes changes_then active active_then well nominated count one_within of_option differs places changes_count flags_count told flags = record {
  heards_count = length-set heards line level;
  changes_count = changes_count;
  marks = record { count = flags_count; kept = λ k is. flags k ∙ ap (λ b. b || is_something (only_there one place level k)) is };
  level_is = get_or-set_same heards line level None within;
  others = λ other apart. get_or-set_other heards line other level None (let ne : other ≢ line = grind (arith, nat_tests) in ne);
  hears = λ element. by element (nat_eq one element) refl;
  cause = λ element is. cause_of element (nat_eq one element) refl (sym (flags element) ∙ is);
  silent = λ element is. silent_of element (nat_eq one element) refl (sym (flags element) ∙ is);
}
  where
    within : line < length heards
    within = omega (arith, IsNominated-within plan line nominated, count)

    none : (element : ℕ) → (place_at plan element (line_input line) ≡ None) × (told_in changes_then element ≡ told_in changes element ++ []) →
        HearsMore plan element heards (slice_set heards line level) (told_in changes element) (told_in changes_then element)
    none element facts = hears-nowhere plan element line level heards (told_in changes element) (told_in changes_then element) within facts.0 facts.1

    by : (element : ℕ) (b : Bool) → nat_eq one element ≡ b → HearsMore plan element heards (slice_set heards line level) (told_in changes element) (told_in changes_then element)
    by element true is =
        let same : one ≡ element = grind (arith, nat_tests) in
        let within_element : element < length plan.elements = omega (arith, same, one_within) in
        hears-word plan element line level heards (told_in changes element) (told_in changes_then element) place
        (of_own level (own-option plan element well within_element) of_option) within
        (places element ∙ ap (λ b. if b then Some place else None) is)
        (told element ∙ ap (λ b. told_in changes element ++ (if b then tell.Heard place level ∷ [] else [])) is)
      where
        of_own : (l : Option Level) → (settings_of plan element).own.option ≡ plan.option → IsOfOption plan.option l → IsOfOption (settings_of plan element).own.option l
        of_own None own of = tt
        of_own (Some x) own of = of ∙ sym own
    by element false is = none element (
      places element ∙ ap (λ b. if b then Some place else None) is,
      told element ∙ ap (λ b. told_in changes element ++ (if b then tell.Heard place level ∷ [] else [])) is,
    )

    cause_of : (element : ℕ) (b : Bool) → nat_eq one element ≡ b → (is_marked active element || is_something (only_there one place level element)) ≡ true →
        (is_marked active element ≡ true) ⊎ ((receiver_of plan line ≡ element) × (is_same_level level (heard_in heards line) ≡ false))
    cause_of element true is marked =
        let same : one ≡ element = grind (arith, nat_tests) in
        let there : place_at plan element (line_input line) ≡ Some place = places element ∙ ap (λ b. if b then Some place else None) is in
        let own : IsInputOf plan element (line_input line) = input-of plan element place (line_input line) (found-at plan element place (line_input line) there) in
        inr (own.of_element, differs)
    cause_of element false is marked = inl (sym (or-false (is_marked active element)) ∙ ap (λ b. is_marked active element || is_something (if b then tell.Heard place level ∷ [] else [])) (sym is) ∙ marked)

    silent_of : (element : ℕ) (b : Bool) → nat_eq one element ≡ b → (is_marked active element || is_something (only_there one place level element)) ≡ false → told_in changes_then element ≡ told_in changes element
    silent_of element true is marked = absurd (true≢false (sym (ap (λ b. is_something (if b then tell.Heard place level ∷ [] else [])) is) ∙ (or_parts (is_marked active element) (is_something (only_there one place level element)) marked).1))
    silent_of element false is marked = told element ∙ ap (λ b. told_in changes element ++ (if b then tell.Heard place level ∷ [] else [])) is ∙ append-nil (told_in changes element)

-- a level that was read is the one that is heard
pub read-heard : (heards : List (Option Level)) (line : ℕ) (level : Option Level) → line < length heards → level ≡ slice_index_or heards line level → heard_in heards line ≡ level
read-heard heards line level within is = get_or_default heards line None level within ∙ sym is

-- what is told first and what is told then
pub hears-both : (plan : Topology) (element : ℕ) (a b c : List (Option Level)) (first second third : List InputEvent) →
    HearsMore plan element a b first second → HearsMore plan element b c second third →
    ((line : ℕ) → (heard_in b line ≡ heard_in a line) ⊎ (heard_in c line ≡ heard_in b line)) →
    HearsMore plan element a c first third
hears-both plan element a b c first second third one two either = record {
  up = λ i. two.up i ∙ one.up i;
  clear = λ i. two.clear i ∙ one.clear i;
  commands = two.commands ∙ one.commands;
  fits = λ fit. two.fits (one.fits fit);
  source = λ i source at. two.source i source at ∙ one.source i source at;
  line = λ i line at. elim (two.line i line at) [
    | inr later ↦ inr later
    | inl same ↦ elim (one.line i line at) [
      | inr earlier ↦ inr (same.0 ∙ earlier ∙ ap Some (sym same.1))
      | inl before ↦ inl (same.0 ∙ before.0, same.1 ∙ before.1)
    ]
  ];
}

told-left : (now : ℕ) (signal : LineSignal) (line : ℕ) (s t u : Ears) → IsToldAt now signal line s t → IsNotTold line t u → IsToldAt now signal line s u
told-left now signal line s t u one left = record {
  before = one.before;
  after = one.after;
  was = one.was;
  is = left.same ∙ one.is;
  told = subst (IsLineTold now signal one.before one.after) (sym left.level) one.told;
}

left-told : (now : ℕ) (signal : LineSignal) (line : ℕ) (s t u : Ears) → IsNotTold line s t → IsToldAt now signal line t u → IsToldAt now signal line s u
left-told now signal line s t u left one = record {
  before = one.before;
  after = one.after;
  was = sym left.same ∙ one.was;
  is = one.is;
  told = one.told;
}

-- one line more
pub told-next : (plan : Topology) (now place : ℕ) (signal : ℕ → LineSignal) (one_signal : LineSignal) (done done_then : ℕ → Bool) (s t u : Ears) → done place ≡ false →
    ((e : ℕ) → done_then e ≡ (done e || nat_eq e place)) → one_signal ≡ signal place → place < line_count plan → IsNominated plan place →
    AreTold plan now signal done s t → AreTold plan now (λ _. one_signal) (λ l. nat_eq l place) t u → AreTold plan now signal done_then s u
told-next plan now place signal one_signal done done_then s t u fresh next same_signal place_within nominated all one = record {
  lines_count = one.lines_count ∙ all.lines_count;
  heards_count = one.heards_count ∙ all.heards_count;
  changes_count = one.changes_count ∙ all.changes_count;
  marks = keeps-marks s.active t.active u.active all.marks one.marks;
  told = λ l within is. elim (one-of (done l) (nat_eq l place) (sym (next l) ∙ is)) [
    | inl before ↦ told-left now (signal l) l s t u (all.told l within before) (one.others l (apart l before (nat_eq l place) refl))
    | inr now_is ↦
        let here : l ≡ place = is-place l place now_is.1 in
        left-told now (signal l) l s t u (all.others l now_is.0)
        (subst (λ x. IsToldAt now x l t u) (same_signal ∙ ap signal (sym here)) (one.told l within now_is.1))
  ];
  others = λ l is. let both = none-of (done l) (nat_eq l place) (sym (next l) ∙ is) in
      record {
        same = (one.others l both.1).same ∙ (all.others l both.0).same;
        level = (one.others l both.1).level ∙ (all.others l both.0).level;
      };
  hears = λ element. hears-both plan element s.heards t.heards u.heards (told_in s.changes element) (told_in t.changes element) (told_in u.changes element) (all.hears element) (one.hears element) either;
  cause = λ element is. elim (one.cause element is) [
    | inl marked ↦ elim (all.cause element marked) [
      | inl before ↦ inl before
      | inr other ↦ inr (record {
        line = other.line;
        within = other.within;
        nominated = other.nominated;
        into = other.into;
        done_is = next other.line ∙ ap (λ b. b || nat_eq other.line place) other.done_is;
        other = ap (λ h. is_same_level h (heard_in s.heards other.line)) (one.others other.line (apart other.line other.done_is (nat_eq other.line place) refl)).level ∙ other.other;
      })
    ]
    | inr other ↦
        let here : other.line ≡ place = is-place other.line place other.done_is in
        let before : heard_in t.heards other.line ≡ heard_in s.heards other.line = (all.others other.line (ap done here ∙ fresh)).level in
        inr (record {
          line = other.line;
          within = other.within;
          nominated = other.nominated;
          into = other.into;
          done_is = next other.line ∙ or-second (done other.line) (nat_eq other.line place) other.done_is;
          other = ap (is_same_level (heard_in u.heards other.line)) (sym before) ∙ other.other;
        })
  ];
  silent = λ element is.
      let before : is_marked t.active element ≡ false = unmarked element (is_marked t.active element) refl is in
      one.silent element is ∙ all.silent element before;
}
  where
    apart : (e : ℕ) → done e ≡ true → (b : Bool) → nat_eq e place ≡ b → nat_eq e place ≡ false
    apart e before false is = is
    apart e before true is = absurd (let same : e ≡ place = is-place e place is in let other : done e ≡ false = ap done same ∙ fresh in cc)

    unmarked : (element : ℕ) (b : Bool) → is_marked t.active element ≡ b → is_marked u.active element ≡ false → is_marked t.active element ≡ false
    unmarked element false is not_marked = is
    unmarked element true is not_marked = absurd (true≢false (sym (one.marks.kept element is) ∙ not_marked))

    either : (line : ℕ) → (heard_in t.heards line ≡ heard_in s.heards line) ⊎ (heard_in u.heards line ≡ heard_in t.heards line)
    either line = of (nat_eq line place) refl
      where
        of : (b : Bool) → nat_eq line place ≡ b → (heard_in t.heards line ≡ heard_in s.heards line) ⊎ (heard_in u.heards line ≡ heard_in t.heards line)
        of true is = inl (all.others line (ap done (is-place line place is) ∙ fresh)).level
        of false is = inr (one.others line is).level

pub told-none : (plan : Topology) (now : ℕ) (signal : ℕ → LineSignal) (done : ℕ → Bool) (s : Ears) → ((e : ℕ) → done e ≡ false) → AreTold plan now signal done s s
told-none plan now signal done s none = record {
  lines_count = refl;
  heards_count = refl;
  changes_count = refl;
  marks = keeps-same s.active;
  told = λ l within is. absurd (let no = none l in cc);
  others = λ l is. record { same = refl; level = refl };
  hears = λ element. hears-same plan element s.heards (told_in s.changes element);
  cause = λ element is. inl is;
  silent = λ element is. refl;
}

-- a line that isn't told yet can still be
pub can-tell-still : (plan : Topology) (now line : ℕ) (signal : ℕ → LineSignal) (done : ℕ → Bool) (s t : Ears) → done line ≡ false → AreTold plan now signal done s t →
    IsSomeAnd (line_in s.lines line) (CanTell plan.option now) → IsSomeAnd (line_in t.lines line) (CanTell plan.option now)
can-tell-still plan now line signal done s t fresh all can =
    subst (λ o. IsSomeAnd o (CanTell plan.option now)) (sym (all.others line fresh).same) can
