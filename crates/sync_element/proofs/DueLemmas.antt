-- The due time of an element: the last step plus the least that was left, and the first at which an
-- input's "failed" changes.
use Rattle.std.proofs.Common.{◌≡◌, ◌≤◌, ◌<◌, ◌+◌, ◌-◌, ℕ, List, length, Option, None, Some, IfSome, refl, ap, sym, ◌∙◌, arith, subst}
use Rattle.std.specs.Prelude.{MatchOption, IsNone, ◌↔◌}
use Rattle.std.proofs.lemmas.Option.{same_Some}
use Rattle.input_monitor.proofs.Steps.{IsSameKind-later_by}
use Rattle.sync_ql.specs.declared.rules.Cond.{Cond}
use Rattle.sync_ql.specs.declared.rules.Cond.TheVariants.{Good, HoldOff, Failed, Restoring}
use Rattle.sync_ql.specs.Condition.{failed_at, condition_at, continued, IsDue, IsSameKind}
use Rattle.sync_ql.specs.Moment.{Moment, Settings, signals_of}
use Rattle.sync_ql.specs.Told.{moments_until}
use Rattle.input_monitor.specs.Ending.{EndsWith, IsEnd, later_by}
use Rattle.input_monitor.proofs.Conditions.{length-continued}
use Rattle.sync_element.specs.ElementState.{ElementState, inputs_of, IsInTime}
use Rattle.sync_element.specs.private.Whole.{monitor_of, IsFirstDue, IsFirstDueAt, IsWhole}
use Rattle.sync_element.specs.StandsFor.{IsAfter}
use Rattle.sync_ql.specs.Quiet.{IsElementDue}
use Rattle.sync_element.specs.Due.{left_of, left_in, IsLastPlusLeast, NoneEnds}
use Rattle.sync_ql.specs.declared.limits.TheConstants.{LAST_MILLISECOND, GREATEST_WTR}
use Rattle.sync_ql.proofs.Staying.{length-signals_of, signals_of-moments_until}
use Rattle.sync_element.proofs.Following.{follows-condition, follows-later, end_later}
use Rattle.sync_element.proofs.Waiting.{due_of, due_after, until_due, length-input}

-- what is left of a condition that ends at a millisecond
abbrev LeftAt : ℕ → ℕ → Cond → Type 0
LeftAt next due c = (left : ℕ) × (left_of c ≡ Some left) × (due + 1 ≡ next + left) × (next ≤ due)

ends_with : (next due left : ℕ) (o : Option ℕ) → EndsWith next left o → o ≡ Some due → (due + 1 ≡ next + left) × (next ≤ due)
ends_with next due left None ends is = absurd ends
ends_with next due left (Some other) ends is = subst (λ d. (d + 1 ≡ next + left) × (next ≤ d)) (same_Some other due is) ends

ends_at : (next due : ℕ) (c : Cond) (o : Option ℕ) → IsEnd next c o → o ≡ Some due → LeftAt next due c
ends_at next due Good o ends is = absurd (cc)
ends_at next due Failed o ends is = absurd (cc)
ends_at next due (HoldOff left) o ends is = let at = ends_with next due left o ends is in (left, refl, at.0, at.1)
ends_at next due (Restoring left) o ends is = let at = ends_with next due left o ends is in (left, refl, at.0, at.1)

-- of a condition that doesn't end before a millisecond not less is left
not_less : (next due left other : ℕ) (o : Option ℕ) → EndsWith next other o → due + 1 ≡ next + left → IfSome o (λ d. due ≤ d) → left ≤ other
not_less next due left other None ends at later = absurd ends
not_less next due left other (Some d) ends at later = let end : d + 1 ≡ next + other = ends.0 in let after : due ≤ d = later in omega arith

no_less : (next due left : ℕ) (c : Cond) (o : Option ℕ) → IsEnd next c o → due + 1 ≡ next + left → IfSome o (λ d. due ≤ d) → IfSome (left_of c) (λ other. left ≤ other)
no_less next due left Good o ends at later = tt
no_less next due left Failed o ends at later = tt
no_less next due left (HoldOff other) o ends at later = not_less next due left other o ends at later
no_less next due left (Restoring other) o ends at later = not_less next due left other o ends at later

never_ends : (next left : ℕ) (o : Option ℕ) → EndsWith next left o → o ≡ None → ⊥
never_ends next left None ends is = ends
never_ends next left (Some due) ends is = cc

none_left : (next : ℕ) (c : Cond) (o : Option ℕ) → IsEnd next c o → o ≡ None → left_of c ≡ None
none_left next Good o ends is = refl
none_left next Failed o ends is = refl
none_left next (HoldOff left) o ends is = absurd (never_ends next left o ends is)
none_left next (Restoring left) o ends is = absurd (never_ends next left o ends is)

-- the condition of the input at a place: that of its monitor, of whose running time so much less is left
pub condition_is : (e : ElementState) (past : List Moment) → IsWhole e → IsAfter e past → (i : ℕ) → i < inputs_of e → condition_at e.settings.timers (signals_of i past) ≡ later_by (e.next - (monitor_of e i).next) (monitor_of e i).condition
condition_is e past whole stands i within =
    let m = monitor_of e i in
    let rest = whole.at_rest i within in
    let some : 0 < m.timers.holdoff = subst (λ timers. 0 < timers.holdoff) (sym rest.timers) whole.holdoff in
    ap (λ timers. condition_at timers (signals_of i past)) (sym rest.timers)
    ∙ follows-condition m (signals_of i past) some rest.ends.ends (stands.kept.monitors i within) (due_after e past whole stands i within)
    ∙ ap (λ n. later_by (n - m.next) m.condition) (length-input e past i stands)

-- its due time, by that condition and the element's next millisecond
end_in : (e : ElementState) (past : List Moment) → IsWhole e → IsAfter e past → (i : ℕ) → i < inputs_of e → IsEnd (length past) (condition_at e.settings.timers (signals_of i past)) (monitor_of e i).due
end_in e past whole stands i within =
    let m = monitor_of e i in
    let rest = whole.at_rest i within in
    subst (λ n. IsEnd n (condition_at e.settings.timers (signals_of i past)) m.due) stands.next
    (subst (λ c. IsEnd e.next c m.due) (sym (condition_is e past whole stands i within))
    (end_later m.next e.next m.condition m.due rest.ends.ends rest.not_later rest.due_later))

last_plus_least : (e : ElementState) (past : List Moment) (due : ℕ) → IsWhole e → IsAfter e past → IsFirstDueAt e due → IsLastPlusLeast e.settings past due
last_plus_least e past due whole stands first =
    let i = first.some.0 in
    let condition : ℕ → Cond = λ k. condition_at e.settings.timers (signals_of k past) in
    let ends = ends_at (length past) due (condition i) (monitor_of e i).due (end_in e past whole stands i first.some.1) first.some.2 in
    record {
      left = ends.0;
      least = record {
        some = (i, first.some.1, ends.1);
        least = λ k inside. no_less (length past) due ends.0 (condition k) (monitor_of e k).due (end_in e past whole stands k inside) ends.2 (first.first k inside);
      };
      due_is = ends.2;
      later = ends.3;
    }

-- with a least that is left, there is a condition that ends
some_ends : (settings : Settings) (past : List Moment) (due : ℕ) → IsLastPlusLeast settings past due → NoneEnds settings past → ⊥
some_ends settings past due last none = none_is_some (left_in settings past last.least.some.0) last.left (none last.least.some.0 last.least.some.1) last.least.some.2
  where
    none_is_some : (o : Option ℕ) (left : ℕ) → o ≡ None → o ≡ Some left → ⊥
    none_is_some None left is_none is_some = cc
    none_is_some (Some x) left is_none is_some = cc

-- the due time is the last step plus the least that was left
due_is_least : (e : ElementState) (past : List Moment) → IsWhole e → IsAfter e past → (due : Option ℕ) → IsFirstDue e due → MatchOption due (NoneEnds e.settings past) (IsLastPlusLeast e.settings past)
due_is_least e past whole stands None none = λ i within. none_left (length past) (condition_at e.settings.timers (signals_of i past)) (monitor_of e i).due (end_in e past whole stands i within) (none i within)
due_is_least e past whole stands (Some due) first = last_plus_least e past due whole stands first

none_or_least : (settings : Settings) (past : List Moment) (due : Option ℕ) → MatchOption due (NoneEnds settings past) (IsLastPlusLeast settings past) → (IsNone due ↔ NoneEnds settings past) × IfSome due (IsLastPlusLeast settings past)
none_or_least settings past None none = ((λ _. none, λ _. refl), tt)
none_or_least settings past (Some due) last = ((λ never. absurd (cc), λ none. absurd (some_ends settings past due last none)), last)

pub none_where_none_ends : (e : ElementState) → IsWhole e → (past : List Moment) → IsAfter e past → IsNone e.due ↔ NoneEnds e.settings past
none_where_none_ends e whole past stands = (none_or_least e.settings past e.due (due_is_least e past whole stands e.due whole.first_due)).0

pub some_where_one_ends : (e : ElementState) → IsWhole e → (past : List Moment) → IsAfter e past → IfSome e.due (IsLastPlusLeast e.settings past)
some_where_one_ends e whole past stands = (none_or_least e.settings past e.due (due_is_least e past whole stands e.due whole.first_due)).1

-- whatever the past, the due time is later than the last step, and not long after it
pub due_later : (e : ElementState) → IsWhole e → IfSome e.due (λ due. e.next ≤ due)
due_later e whole = of e.due whole.first_due
  where
    of : (due : Option ℕ) → IsFirstDue e due → IfSome due (λ d. e.next ≤ d)
    of None none = tt
    of (Some due) first = subst (λ o. IfSome o (λ d. e.next ≤ d)) first.some.2 (whole.at_rest first.some.0 first.some.1).due_later

soon_after : (a b : ℕ) (o : Option ℕ) → a ≤ b → IfSome o (λ d. d < a + GREATEST_WTR) → IfSome o (λ d. d < b + GREATEST_WTR)
soon_after a b None less soon = tt
soon_after a b (Some due) less soon = omega arith

pub due_soon : (e : ElementState) → IsWhole e → IfSome e.due (λ due. due < e.next + GREATEST_WTR)
due_soon e whole = of e.due whole.first_due
  where
    of : (due : Option ℕ) → IsFirstDue e due → IfSome due (λ d. d < e.next + GREATEST_WTR)
    of None none = tt
    of (Some due) first =
        let rest = whole.at_rest first.some.0 first.some.1 in
        subst (λ o. IfSome o (λ d. d < e.next + GREATEST_WTR)) first.some.2
        (soon_after (monitor_of e first.some.0).next e.next (monitor_of e first.some.0).due rest.not_later rest.ends.soon)

pub due_in_range : (e : ElementState) → IsWhole e → IfSome e.due (λ due. due ≤ LAST_MILLISECOND + GREATEST_WTR)
due_in_range e whole = of e.due (due_soon e whole)
  where
    of : (o : Option ℕ) → IfSome o (λ d. d < e.next + GREATEST_WTR) → IfSome o (λ d. d ≤ LAST_MILLISECOND + GREATEST_WTR)
    of None soon = tt
    of (Some due) soon = let limit : e.next ≤ LAST_MILLISECOND + 1 = whole.in_range in omega arith

-- until then an input stays failed, or not failed
same_failed_until : (e : ElementState) (past : List Moment) (i n : ℕ) (due : Option ℕ) → i < inputs_of e → IsDue e.settings.timers (signals_of i past) due → IfSome due (λ d. n ≤ d) → length past ≤ n → failed_at e.settings.timers (signals_of i (moments_until e.settings n past)) ≡ failed_at e.settings.timers (signals_of i past)
same_failed_until e past i n None within never in_time later =
    ap (failed_at e.settings.timers) (signals_of-moments_until e.settings i n past within)
    ∙ never n (omega (arith, length-signals_of i past, later))
same_failed_until e past i n (Some due) within first in_time later =
    ap (failed_at e.settings.timers) (signals_of-moments_until e.settings i n past within)
    ∙ first.same_before n (omega (arith, length-signals_of i past, later)) in_time

first_until : (e : ElementState) (due n k : ℕ) → IsFirstDueAt e due → n ≤ due → k < inputs_of e → IfSome (monitor_of e k).due (λ d. n ≤ d)
first_until e due n k first in_time inside = of (monitor_of e k).due (first.first k inside)
  where
    of : (o : Option ℕ) → IfSome o (λ d. due ≤ d) → IfSome o (λ d. n ≤ d)
    of None later = tt
    of (Some d) later = omega arith

first_failed_change : (e : ElementState) (past : List Moment) (due : ℕ) → IsWhole e → IsAfter e past → IsFirstDueAt e due → IsElementDue e.settings past (Some due)
first_failed_change e past due whole stands first =
    let i = first.some.0 in
    let change : IsDue e.settings.timers (signals_of i past) (Some due) = subst (IsDue e.settings.timers (signals_of i past)) first.some.2 (due_of e past whole stands i first.some.1) in
    record {
      later = omega (arith, length-signals_of i past, change.later);
      changed = (i, first.some.1, ap (failed_at e.settings.timers) (signals_of-moments_until e.settings i (due + 1) past first.some.1) ∙ change.changed);
      same_before = λ n later in_time k inside. same_failed_until e past k n (monitor_of e k).due inside (due_of e past whole stands k inside) (first_until e due n k first in_time inside) later;
    }

-- the due time is that of the first input's "failed" that changes
pub due_is_first_change : (e : ElementState) (past : List Moment) → IsWhole e → IsAfter e past → (due : Option ℕ) → IsFirstDue e due → IsElementDue e.settings past due
due_is_first_change e past whole stands None none = λ n later i within.
    same_failed_until e past i n None within (subst (IsDue e.settings.timers (signals_of i past)) (none i within) (due_of e past whole stands i within)) tt later
due_is_first_change e past whole stands (Some due) first = first_failed_change e past due whole stands first

later_by-later_by : (a b n : ℕ) (c : Cond) → a ≤ b → b ≤ n → later_by (n - a) c ≡ later_by (n - b) (later_by (b - a) c)
later_by-later_by a b n Good first second = refl
later_by-later_by a b n (HoldOff left) first second = ap HoldOff (let e : left - (n - a) ≡ left - (b - a) - (n - b) = omega arith in e)
later_by-later_by a b n Failed first second = refl
later_by-later_by a b n (Restoring left) first second = ap Restoring (let e : left - (n - a) ≡ left - (b - a) - (n - b) = omega arith in e)

-- until the due time, of a running time that much less is left
pub left_until : (e : ElementState) → IsWhole e → (i : ℕ) → i < inputs_of e → (past : List Moment) (n : ℕ) → IsAfter e past → IsInTime e n → condition_at e.settings.timers (signals_of i (moments_until e.settings n past)) ≡ later_by (n - e.next) (later_by (e.next - (monitor_of e i).next) (monitor_of e i).condition)
left_until e whole i within past n stands in_time =
    let m = monitor_of e i in
    let rest = whole.at_rest i within in
    let signals = signals_of i past in
    let later : length signals ≤ n = omega (arith, in_time.later, length-input e past i stands) in
    let long = length-continued n signals later in
    let some : 0 < m.timers.holdoff = subst (λ timers. 0 < timers.holdoff) (sym rest.timers) whole.holdoff in
    let until : IfSome m.due (λ d. length (continued n signals) ≤ d) = subst (λ k. IfSome m.due (λ d. k ≤ d)) (sym long) (until_due e n i whole in_time within) in
    ap (condition_at e.settings.timers) (signals_of-moments_until e.settings i n past within)
    ∙ ap (λ timers. condition_at timers (continued n signals)) (sym rest.timers)
    ∙ follows-condition m (continued n signals) some rest.ends.ends (follows-later m signals n later (stands.kept.monitors i within)) until
    ∙ ap (λ k. later_by (k - m.next) m.condition) long
    ∙ later_by-later_by m.next e.next n m.condition rest.not_later in_time.later

pub kind_until : (e : ElementState) → IsWhole e → (i : ℕ) → i < inputs_of e → (past : List Moment) (n : ℕ) → IsAfter e past → IsInTime e n → IsSameKind (later_by (e.next - (monitor_of e i).next) (monitor_of e i).condition) (condition_at e.settings.timers (signals_of i (moments_until e.settings n past)))
kind_until e whole i within past n stands in_time =
    let c = later_by (e.next - (monitor_of e i).next) (monitor_of e i).condition in
    subst (IsSameKind c) (sym (left_until e whole i within past n stands in_time)) (IsSameKind-later_by (n - e.next) c)
