-- While no input's "failed" changes, nothing changes where nothing is told.
use Rattle.std.proofs.Common.{◌≡◌, ◌≤◌, ◌<◌, ℕ, zero, suc, ◌+◌, ◌-◌, false, List, [], ◌∷◌, length, Option, None, Some, IfSome, refl, ap, sym, ◌∙◌, arith}
use Rattle.std.proofs.lemmas.List.{length-map}
use Rattle.sync_ql.specs.Condition.{Signal, is_up, failed_at, quiet, after_quiet, continued}
use Rattle.sync_ql.specs.Moment.{Moment, Settings, input_of, signals_of, switches_at, selection_at}
use Rattle.sync_ql.specs.Told.{last_level, quiet_moment, quiet_moments, moments_until}
use Rattle.sync_ql.specs.Output.{was_locked}
use Rattle.sync_ql.specs.Quiet.{IsSameFailed, IsSameOutput, IsElementDue}
use Rattle.sync_ql.proofs.QuietMoments.{input_of-moment_after, switches_at-quiet, selection_at-quiet, was_locked-quiet, IsSameOutput-quiet}

-- all that an element keeps is the same after both pasts
pub record Stays (settings : Settings) (past past_then : List Moment) : Type 0 where
  pub switches : switches_at settings past_then ≡ switches_at settings past
  pub selection : selection_at settings past_then ≡ selection_at settings past
  pub was_locked : was_locked settings past_then ≡ was_locked settings past
  pub output : IsSameOutput settings past past_then

pub stays-refl : (settings : Settings) (past : List Moment) → Stays settings past past
stays-refl settings past = record {
  switches = refl;
  selection = refl;
  was_locked = refl;
  output = record { selection = refl; level = refl; sent_back = λ i. refl; mode = refl; state = refl };
}

stays-trans : (settings : Settings) (a b c : List Moment) → Stays settings a b → Stays settings b c → Stays settings a c
stays-trans settings a b c first second = record {
  switches = second.switches ∙ first.switches;
  selection = second.selection ∙ first.selection;
  was_locked = second.was_locked ∙ first.was_locked;
  output = record {
    selection = second.output.selection ∙ first.output.selection;
    level = second.output.level ∙ first.output.level;
    sent_back = λ i. second.output.sent_back i ∙ first.output.sent_back i;
    mode = second.output.mode ∙ first.output.mode;
    state = second.output.state ∙ first.output.state;
  };
}

pub length-signals_of : (i : ℕ) (past : List Moment) → length (signals_of i past) ≡ length past
length-signals_of i past = length-map past (λ now. (input_of i now).signal)

pub length-quiet_moments : (settings : Settings) (k : ℕ) (past : List Moment) → length (quiet_moments settings k past) ≡ k + length past
length-quiet_moments settings zero past = omega arith
length-quiet_moments settings (suc k) past = omega (arith, length-quiet_moments settings k past)

pub is_up-after_quiet : (k : ℕ) (past : List Signal) → is_up (after_quiet k past) ≡ is_up past
is_up-after_quiet zero past = refl
is_up-after_quiet (suc k) past = refl

-- where nothing is told of an element, nothing is told of its inputs
pub signals_of-quiet_moments : (settings : Settings) (i k : ℕ) (past : List Moment) → i < length settings.priorities → signals_of i (quiet_moments settings k past) ≡ after_quiet k (signals_of i past)
signals_of-quiet_moments settings i zero past within = refl
signals_of-quiet_moments settings i (suc k) past within =
    ap (λ input. input.signal ∷ signals_of i (quiet_moments settings k past)) (input_of-moment_after settings (quiet_moments settings k past) [] i within)
    ∙ ap (λ signals. quiet signals ∷ signals) (signals_of-quiet_moments settings i k past within)
    ∙ ap (λ up. record { up = up; clear = false } ∷ after_quiet k (signals_of i past)) (is_up-after_quiet k (signals_of i past))

pub signals_of-moments_until : (settings : Settings) (i n : ℕ) (past : List Moment) → i < length settings.priorities → signals_of i (moments_until settings n past) ≡ continued n (signals_of i past)
signals_of-moments_until settings i n past within =
    signals_of-quiet_moments settings i (n - length past) past within
    ∙ ap (λ len. after_quiet (n - len) (signals_of i past)) (sym (length-signals_of i past))

-- levels stay
pub last_level-quiet_moments : (settings : Settings) (i k : ℕ) (past : List Moment) → i < length settings.priorities → last_level settings i (quiet_moments settings k past) ≡ last_level settings i past
last_level-quiet_moments settings i zero past within = refl
last_level-quiet_moments settings i (suc k) past within =
    ap (λ input. input.level) (input_of-moment_after settings (quiet_moments settings k past) [] i within)
    ∙ last_level-quiet_moments settings i k past within

-- no input's "failed" changes in k milliseconds in which nothing is told
abbrev pub Lasting : Settings → List Moment → ℕ → Type 0
Lasting settings past k = (i : ℕ) → i < length settings.priorities → (j : ℕ) → j ≤ k → failed_at settings.timers (after_quiet j (signals_of i past)) ≡ failed_at settings.timers (signals_of i past)

stays_one_more : (settings : Settings) (past : List Moment) → 0 < length past → IsSameFailed settings past (quiet_moment settings past ∷ past) → Stays settings past (quiet_moment settings past ∷ past)
stays_one_more settings [] some failed = absurd (omega arith)
stays_one_more settings (now ∷ before) some failed = record {
  switches = switches_at-quiet settings now before failed;
  selection = selection_at-quiet settings now before failed;
  was_locked = was_locked-quiet settings now before failed;
  output = IsSameOutput-quiet settings now before failed;
}

same_failed_next : (settings : Settings) (past : List Moment) (k : ℕ) → Lasting settings past (suc k) → IsSameFailed settings (quiet_moments settings k past) (quiet_moments settings (suc k) past)
same_failed_next settings past k lasting i within =
    ap (failed_at settings.timers) (signals_of-quiet_moments settings i (suc k) past within)
    ∙ lasting i within (suc k) (omega arith)
    ∙ sym (lasting i within k (omega arith))
    ∙ sym (ap (failed_at settings.timers) (signals_of-quiet_moments settings i k past within))

-- k milliseconds in which nothing is told and no "failed" changes leave all as it is
pub stays-quiet_moments : (settings : Settings) (past : List Moment) (k : ℕ) → 0 < length past → Lasting settings past k → Stays settings past (quiet_moments settings k past)
stays-quiet_moments settings past zero some lasting = stays-refl settings past
stays-quiet_moments settings past (suc k) some lasting =
    stays-trans settings past (quiet_moments settings k past) (quiet_moments settings (suc k) past)
    (stays-quiet_moments settings past k some (λ i within j few. lasting i within j (omega arith)))
    (stays_one_more settings (quiet_moments settings k past) (omega (arith, length-quiet_moments settings k past)) (same_failed_next settings past k lasting))

-- before its due time no input's "failed" changes
pub same_until_due : (settings : Settings) (past : List Moment) (due : Option ℕ) (n : ℕ) → IsElementDue settings past due → length past ≤ n → IfSome due (λ d. n ≤ d) → IsSameFailed settings past (moments_until settings n past)
same_until_due settings past None n never later in_time = never n later
same_until_due settings past (Some due) n first later in_time = first.same_before n later in_time

pub earlier_too : (due : Option ℕ) (m n : ℕ) → m ≤ n → IfSome due (λ d. n ≤ d) → IfSome due (λ d. m ≤ d)
earlier_too None m n less in_time = tt
earlier_too (Some due) m n less in_time = let until : n ≤ due = in_time in omega arith

lasting_until_due : (settings : Settings) (past : List Moment) (due : Option ℕ) (n : ℕ) → IsElementDue settings past due → length past ≤ n → IfSome due (λ d. n ≤ d) → Lasting settings past (n - length past)
lasting_until_due settings past due n first later in_time i within j few =
    let signals = signals_of i past in
    let some : length past + j - length signals ≡ j = omega (arith, length-signals_of i past) in
    ap (λ k. failed_at settings.timers (after_quiet k signals)) (sym some)
    ∙ sym (ap (failed_at settings.timers) (signals_of-moments_until settings i (length past + j) past within))
    ∙ same_until_due settings past due (length past + j) first (omega arith) (earlier_too due (length past + j) n (omega arith) in_time) i within

-- until the due time the element gives the same
pub same_output_until : (settings : Settings) (now : Moment) (before : List Moment) (due : Option ℕ) (n : ℕ) → IsElementDue settings (now ∷ before) due → length (now ∷ before) ≤ n → IfSome due (λ d. n ≤ d) → IsSameOutput settings (now ∷ before) (moments_until settings n (now ∷ before))
same_output_until settings now before due n first later in_time =
    (stays-quiet_moments settings (now ∷ before) (n - length (now ∷ before)) (omega arith) (lasting_until_due settings (now ∷ before) due n first later in_time)).output
