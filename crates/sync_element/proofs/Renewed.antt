-- Inputs renewed in a step, one after another.
use Rattle.std.proofs.Common.{◌≡◌, ◌≤◌, ◌<◌, ℕ, ◌+◌, ◌-◌, ◌⊎◌, inl, inr, Bool, true, false, ◌||◌, nat_eq, List, ◌∷◌, length, Option, None, Some, IfSome, refl, ap, sym, ◌∙◌, arith, subst, get_or-set_other, length-set}
use Rattle.std.specs.List.{list_any}
use Rattle.std.proofs.lemmas.Bool.Decides.{nat_tests}
use Rattle.std.proofs.lemmas.List.{get_or-set_same}
use Rattle.sync_ql.specs.declared.levels.NetOption.{NetOption}
use Rattle.sync_ql.specs.declared.rules.Candidate.{Candidate}
use Rattle.sync_ql.specs.declared.rules.InputEvent.{InputEvent}
use Rattle.sync_ql.specs.Condition.{Signal, is_up, quiet, continued}
use Rattle.sync_ql.specs.Selection.{candidate}
use Rattle.sync_ql.specs.Told.{IsOfOption}
use Rattle.sync_ql.proofs.Eligible.{nobody}
use Rattle.sync_ql.proofs.Staying.{is_up-after_quiet}
use Rattle.input_monitor.specs.Monitored.{up_of}
use Rattle.sync_element.specs.declared.watched.Watched.{Watched}
use Rattle.agenda.specs.DueTimes.{due_in}
use Rattle.sync_element.specs.Kept.{InputsKept, unused, watched_in, Follows}
use Rattle.sync_element.specs.private.Kept.{HasEnd}
use Rattle.sync_text.specs.Tests.{differs}
use Rattle.sync_text.proofs.Tests.{same-answer, answer-same}
use Rattle.sync_element.specs.private.Renewing.{Renewal, ends_at, must_step, signal_of, candidate_of, touches, IsReady, IsStepped, IsRenewed, CanRenew, IsDone, IsPending, IsDoneAt, IsPendingAt, AreRenewed, AreTaken, AreKept}
use Rattle.sync_element.proofs.Following.{follows-quiet, follows-told, follows-up, ends_after}

-- two places are one, or they aren't
same_or_not : (k i : ℕ) → (k ≡ i) ⊎ ¬ (k ≡ i)
same_or_not k i = of (nat_eq k i) refl
  where
    of : (b : Bool) → nat_eq k i ≡ b → (k ≡ i) ⊎ ¬ (k ≡ i)
    of true is = inl (grind (arith, nat_tests))
    of false is = inr (grind (arith, nat_tests))

-- where nothing happens to an input
or-false : (a b c : Bool) → (a || b || c) ≡ false → (a ≡ false) × (b ≡ false) × (c ≡ false)
or-false false false false none = (refl, refl, refl)
or-false true b c none = absurd (cc)
or-false false true c none = absurd (cc)
or-false false false true none = absurd (cc)

pub record IsQuiet (now : ℕ) (w : Watched) : Type 0 where
  pub cleared : w.cleared ≡ false
  pub up : w.up ≡ up_of w.monitor.condition
  pub not_due : ends_at now w.monitor.due ≡ false

pub quiet_is : (now : ℕ) (w : Watched) → must_step now w ≡ false → IsQuiet now w
quiet_is now w none =
    let parts = or-false w.cleared (differs w.up (up_of w.monitor.condition)) (ends_at now w.monitor.due) none in
    record { cleared = parts.0; up = same-answer w.up (up_of w.monitor.condition) parts.1; not_due = parts.2 }

pub quiet_back : (now : ℕ) (w : Watched) → IsQuiet now w → must_step now w ≡ false
quiet_back now w is = rw (is.cleared, answer-same w.up (up_of w.monitor.condition) is.up, is.not_due) refl

pub after_now : (now : ℕ) (o : Option ℕ) → ends_at now o ≡ false → IfSome o (λ d. now ≤ d) → IfSome o (λ d. now < d)
after_now now None none in_time = tt
after_now now (Some due) none in_time = grind (arith, nat_tests)

pub not_now : (now : ℕ) (o : Option ℕ) → IfSome o (λ d. now < d) → ends_at now o ≡ false
not_now now None later = refl
not_now now (Some due) later = grind (arith, nat_tests)

pub later_than : (now n : ℕ) (o : Option ℕ) → n ≡ now + 1 → IfSome o (λ d. n ≤ d) → IfSome o (λ d. now < d)
later_than now n None is later = tt
later_than now n (Some due) is later = omega arith

weaker : (now : ℕ) (o : Option ℕ) → IfSome o (λ d. now < d) → IfSome o (λ d. now ≤ d)
weaker now None later = tt
weaker now (Some due) later = omega arith

-- an input after a step of its own
pub record IsSettled (now : ℕ) (w : Watched) : Type 0 where
  pub settled : must_step now w ≡ false
  pub next : w.monitor.next ≤ now + 1
  pub later : IfSome w.monitor.due (λ d. now < d)

pub stepped_settled : (now : ℕ) (w w_then : Watched) → IsStepped now w w_then → w.monitor.next ≤ now + 1 → IfSome w.monitor.due (λ d. now ≤ d) → IsSettled now w_then
stepped_settled now w w_then stepped next in_time = of (must_step now w) refl
  where
    settled_by : w_then.up ≡ up_of w_then.monitor.condition → IfSome w_then.monitor.due (λ d. now < d) → must_step now w_then ≡ false
    settled_by up later = quiet_back now w_then (record { cleared = stepped.cleared; up = up; not_due = not_now now w_then.monitor.due later })

    of : (b : Bool) → must_step now w ≡ b → IsSettled now w_then
    of true is =
        let told = stepped.told is in
        let later = later_than now w_then.monitor.next w_then.monitor.due told.next (ends_after w_then.monitor.next w_then.monitor.condition w_then.monitor.due stepped.ends.ends) in
        record { settled = settled_by (stepped.up ∙ sym told.up) later; next = omega (arith, told.next); later = later }
    of false is =
        let same = stepped.quiet is in
        let was = quiet_is now w is in
        let later : IfSome w_then.monitor.due (λ d. now < d) = subst (λ m. IfSome m.due (λ d. now < d)) (sym same) (after_now now w.monitor.due was.not_due in_time) in
        record {
          settled = settled_by (stepped.up ∙ was.up ∙ sym (ap (λ m. up_of m.condition) same)) later;
          next = subst (λ m. m.next ≤ now + 1) (sym same) next;
          later = later;
        }

-- what the monitor follows then
pub stepped_follows : (now : ℕ) (w w_then : Watched) → IsStepped now w w_then → (past : List Signal) → length past ≤ now → Follows w.monitor past → Follows w_then.monitor (signal_of w ∷ continued now past)
stepped_follows now w w_then stepped past later follows = of (must_step now w) refl
  where
    of : (b : Bool) → must_step now w ≡ b → Follows w_then.monitor (signal_of w ∷ continued now past)
    of true is = follows-told w.monitor w_then.monitor past now (signal_of w) later (stepped.told is) follows
    of false is =
        let was = quiet_is now w is in
        let up : w.up ≡ is_up (continued now past) = was.up ∙ sym (follows-up w.monitor past follows) ∙ sym (is_up-after_quiet (now - length past) past) in
        let signal : signal_of w ≡ quiet (continued now past) = rw (up, was.cleared) refl in
        subst (λ m. Follows m (signal_of w ∷ continued now past)) (sym (stepped.quiet is)) (follows-quiet w.monitor past now (signal_of w) later signal follows)

stepped_timers : (now : ℕ) (w w_then : Watched) → IsStepped now w w_then → w_then.monitor.timers ≡ w.monitor.timers
stepped_timers now w w_then stepped = of (must_step now w) refl
  where
    of : (b : Bool) → must_step now w ≡ b → w_then.monitor.timers ≡ w.monitor.timers
    of true is = (stepped.told is).timers
    of false is = ap (λ m. m.timers) (stepped.quiet is)

-- an input that was only told is done by a step of its own
pub done_first : (at : Renewal) (i : ℕ) (told w : Watched) (before : Candidate) → IsStepped at.now told w → told.monitor.next ≤ at.now + 1 → IfSome told.monitor.due (λ d. at.now ≤ d) → IsDone at i told before w w.monitor.due (candidate_of at i before.priority w)
done_first at i told w before stepped next in_time =
    let settled = stepped_settled at.now told w stepped next in_time in
    record {
      up = stepped.up;
      level = stepped.level;
      cleared = stepped.cleared;
      settled = settled.settled;
      timers = stepped_timers at.now told w stepped;
      next = settled.next;
      stands = stepped_follows at.now told w stepped;
      ends = stepped.ends;
      later = settled.later;
      due_is = refl;
      candidate_is = refl;
    }

-- and stays done by another
pub done_again : (at : Renewal) (i : ℕ) (told w w_then : Watched) (before c : Candidate) (due : Option ℕ) → IsDone at i told before w due c → IsStepped at.now w w_then → IsDone at i told before w_then w_then.monitor.due (candidate_of at i c.priority w_then)
done_again at i told w w_then before c due done stepped =
    let same = stepped.quiet done.settled in
    let settled = stepped_settled at.now w w_then stepped done.next (weaker at.now w.monitor.due done.later) in
    record {
      up = stepped.up ∙ done.up;
      level = stepped.level ∙ done.level;
      cleared = stepped.cleared;
      settled = settled.settled;
      timers = ap (λ m. m.timers) same ∙ done.timers;
      next = settled.next;
      stands = λ past later follows. subst (λ m. Follows m (signal_of told ∷ continued at.now past)) (sym same) (done.stands past later follows);
      ends = stepped.ends;
      later = settled.later;
      due_is = refl;
      candidate_is = ap (λ d. candidate_of at i d.priority w_then) done.candidate_is;
    }

-- an input to which nothing happens, and which the choice sees as it is, is done without a step
pub done_unstepped : (at : Renewal) (i : ℕ) (told w : Watched) (before c : Candidate) (due : Option ℕ) → IsPending told before w due c → must_step at.now told ≡ false → told.monitor.next ≤ at.now + 1 → HasEnd told.monitor → IfSome told.monitor.due (λ d. at.now < d) → before ≡ candidate_of at i before.priority told → IsDone at i told before w due c
done_unstepped at i told w before c due pending none next ends later seen =
    let was = quiet_is at.now told none in
    rw (pending.watched, pending.due_is, pending.candidate_is) (record {
      up = refl;
      level = refl;
      cleared = was.cleared;
      settled = none;
      timers = refl;
      next = next;
      stands = λ past long follows.
          let up : told.up ≡ is_up (continued at.now past) = was.up ∙ sym (follows-up told.monitor past follows) ∙ sym (is_up-after_quiet (at.now - length past) past) in
          let signal : signal_of told ≡ quiet (continued at.now past) = rw (up, was.cleared) refl in
          follows-quiet told.monitor past at.now (signal_of told) long signal follows;
      ends = ends;
      later = later;
      due_is = refl;
      candidate_is = seen;
    })

-- the input at a place, in the three lists, after it or another is renewed
pub same_place : (at : Renewal) (i k : ℕ) (x x_then : InputsKept) → IsRenewed at i x x_then → ¬ (k ≡ i) → (watched_in x_then.watched k ≡ watched_in x.watched k) × (due_in x_then.dues k ≡ due_in x.dues k) × (candidate x_then.candidates k ≡ candidate x.candidates k)
same_place at i k x x_then renewed apart = (
  ap (λ l. watched_in l k) renewed.watched ∙ get_or-set_other x.watched i k renewed.input unused apart,
  ap (λ l. due_in l k) renewed.dues ∙ get_or-set_other x.dues i k renewed.input.monitor.due None apart,
  ap (λ l. candidate l k) renewed.candidates ∙ get_or-set_other x.candidates i k (candidate_of at i (candidate x.candidates i).priority renewed.input) nobody apart,
)

new_place : (at : Renewal) (i : ℕ) (x x_then : InputsKept) → (renewed : IsRenewed at i x x_then) → i < length x.watched → i < length x.dues → i < length x.candidates → (watched_in x_then.watched i ≡ renewed.input) × (due_in x_then.dues i ≡ renewed.input.monitor.due) × (candidate x_then.candidates i ≡ candidate_of at i (candidate x.candidates i).priority renewed.input)
new_place at i x x_then renewed first second third = (
  ap (λ l. watched_in l i) renewed.watched ∙ get_or-set_same x.watched i renewed.input unused first,
  ap (λ l. due_in l i) renewed.dues ∙ get_or-set_same x.dues i renewed.input.monitor.due None second,
  ap (λ l. candidate l i) renewed.candidates ∙ get_or-set_same x.candidates i (candidate_of at i (candidate x.candidates i).priority renewed.input) nobody third,
)

-- what is renewed at one place can be renewed further
pub can_one : (at : Renewal) (option : NetOption) (i : ℕ) (x x_then : InputsKept) → CanRenew at.now option x → i < length x.watched → IsRenewed at i x x_then → CanRenew at.now option x_then
can_one at option i x x_then can within renewed = record {
  few = omega (arith, count, can.few);
  dues_length = ap length renewed.dues ∙ length-set x.dues i renewed.input.monitor.due ∙ can.dues_length ∙ sym count;
  candidates_length = ap length renewed.candidates ∙ length-set x.candidates i (candidate_of at i (candidate x.candidates i).priority renewed.input) ∙ can.candidates_length ∙ sym count;
  ready = λ k inside. ready k (omega (arith, inside, count));
  ends = λ k inside. ends k (omega (arith, inside, count));
  not_later = λ k inside. not_later k (omega (arith, inside, count));
  in_time = λ k inside. in_time k (omega (arith, inside, count));
  dues = λ k inside. dues k (omega (arith, inside, count));
  levels = levels;
  candidate_levels = candidate_levels;
}
  where
    count : length x_then.watched ≡ length x.watched
    count = ap length renewed.watched ∙ length-set x.watched i renewed.input

    new : (watched_in x_then.watched i ≡ renewed.input) × (due_in x_then.dues i ≡ renewed.input.monitor.due) × (candidate x_then.candidates i ≡ candidate_of at i (candidate x.candidates i).priority renewed.input)
    new = new_place at i x x_then renewed within (omega (arith, can.dues_length)) (omega (arith, can.candidates_length))

    settled : IsSettled at.now renewed.input
    settled = stepped_settled at.now (watched_in x.watched i) renewed.input renewed.stepped (can.not_later i within) (can.in_time i within)

    level : IsOfOption option renewed.input.level
    level = subst (IsOfOption option) (sym renewed.stepped.level) (can.levels i)

    ready : (k : ℕ) → k < length x.watched → must_step at.now (watched_in x_then.watched k) ≡ true → IsReady at.now (watched_in x_then.watched k).monitor
    ready k inside must = elim (same_or_not k i) [
      | inl here ↦
          let e : watched_in x_then.watched k ≡ renewed.input = ap (watched_in x_then.watched) here ∙ new.0 in
          absurd (let never = settled.settled in let now : must_step at.now renewed.input ≡ true = subst (λ w. must_step at.now w ≡ true) e must in cc)
      | inr apart ↦
          let e = (same_place at i k x x_then renewed apart).0 in
          subst (λ w. IsReady at.now w.monitor) (sym e) (can.ready k inside (subst (λ w. must_step at.now w ≡ true) e must))
    ]

    ends : (k : ℕ) → k < length x.watched → HasEnd (watched_in x_then.watched k).monitor
    ends k inside = elim (same_or_not k i) [
      | inl here ↦ subst (λ w. HasEnd w.monitor) (sym (ap (watched_in x_then.watched) here ∙ new.0)) renewed.stepped.ends
      | inr apart ↦ subst (λ w. HasEnd w.monitor) (sym (same_place at i k x x_then renewed apart).0) (can.ends k inside)
    ]

    not_later : (k : ℕ) → k < length x.watched → (watched_in x_then.watched k).monitor.next ≤ at.now + 1
    not_later k inside = elim (same_or_not k i) [
      | inl here ↦ subst (λ w. w.monitor.next ≤ at.now + 1) (sym (ap (watched_in x_then.watched) here ∙ new.0)) settled.next
      | inr apart ↦ subst (λ w. w.monitor.next ≤ at.now + 1) (sym (same_place at i k x x_then renewed apart).0) (can.not_later k inside)
    ]

    in_time : (k : ℕ) → k < length x.watched → IfSome (watched_in x_then.watched k).monitor.due (λ d. at.now ≤ d)
    in_time k inside = elim (same_or_not k i) [
      | inl here ↦ subst (λ w. IfSome w.monitor.due (λ d. at.now ≤ d)) (sym (ap (watched_in x_then.watched) here ∙ new.0)) (weaker at.now renewed.input.monitor.due settled.later)
      | inr apart ↦ subst (λ w. IfSome w.monitor.due (λ d. at.now ≤ d)) (sym (same_place at i k x x_then renewed apart).0) (can.in_time k inside)
    ]

    dues : (k : ℕ) → k < length x.watched → due_in x_then.dues k ≡ (watched_in x_then.watched k).monitor.due
    dues k inside = elim (same_or_not k i) [
      | inl here ↦ ap (due_in x_then.dues) here ∙ new.1 ∙ sym (ap (λ w. w.monitor.due) (ap (watched_in x_then.watched) here ∙ new.0))
      | inr apart ↦
          let same = same_place at i k x x_then renewed apart in
          same.1 ∙ can.dues k inside ∙ sym (ap (λ w. w.monitor.due) same.0)
    ]

    levels : (k : ℕ) → IsOfOption option (watched_in x_then.watched k).level
    levels k = elim (same_or_not k i) [
      | inl here ↦ subst (λ w. IsOfOption option w.level) (sym (ap (watched_in x_then.watched) here ∙ new.0)) level
      | inr apart ↦ subst (λ w. IsOfOption option w.level) (sym (same_place at i k x x_then renewed apart).0) (can.levels k)
    ]

    candidate_levels : (k : ℕ) → IsOfOption option (candidate x_then.candidates k).level
    candidate_levels k = elim (same_or_not k i) [
      | inl here ↦ subst (λ c. IsOfOption option c.level) (sym (ap (candidate x_then.candidates) here ∙ new.2)) level
      | inr apart ↦ subst (λ c. IsOfOption option c.level) (sym (same_place at i k x x_then renewed apart).2) (can.candidate_levels k)
    ]

-- the three that are kept of one input
Holds : Renewal → List Watched → List Candidate → ℕ → Watched → Option ℕ → Candidate → Type 0
Holds at told before i w due c = IsDone at i (watched_in told i) (candidate before i) w due c

moved : (P : Watched → Option ℕ → Candidate → Type 0) (w w_then : Watched) (due due_then : Option ℕ) (c c_then : Candidate) → w_then ≡ w → due_then ≡ due → c_then ≡ c → P w due c → P w_then due_then c_then
moved P w w_then due due_then c c_then first second third holds =
    subst (λ v. P v due_then c_then) (sym first) (subst (λ d. P w d c_then) (sym second) (subst (λ e. P w due e) (sym third) holds))

-- the input that is renewed is done
pub done_here : (at : Renewal) (option : NetOption) (told : List Watched) (before : List Candidate) (i : ℕ) (x x_then : InputsKept) → CanRenew at.now option x → AreRenewed at told before x → i < length told → IsRenewed at i x x_then → IsDoneAt at told before i x_then
done_here at option told before i x x_then can all within renewed =
    let inside : i < length x.watched = omega (arith, all.watched_length) in
    let new = new_place at i x x_then renewed inside (omega (arith, all.dues_length)) (omega (arith, all.candidates_length)) in
    moved (λ w due c. IsDone at i (watched_in told i) (candidate before i) w due c) renewed.input (watched_in x_then.watched i) renewed.input.monitor.due (due_in x_then.dues i) (candidate_of at i (candidate x.candidates i).priority renewed.input) (candidate x_then.candidates i) new.0 new.1 new.2
    (elim (all.each i within) [
      | inl done ↦ done_again at i (watched_in told i) (watched_in x.watched i) renewed.input (candidate before i) (candidate x.candidates i) (due_in x.dues i) done renewed.stepped
      | inr pending ↦
          subst (λ c. IsDone at i (watched_in told i) (candidate before i) renewed.input renewed.input.monitor.due (candidate_of at i c.priority renewed.input)) (sym pending.candidate_is)
          (done_first at i (watched_in told i) renewed.input (candidate before i)
          (subst (λ w. IsStepped at.now w renewed.input) pending.watched renewed.stepped)
          (subst (λ w. w.monitor.next ≤ at.now + 1) pending.watched (can.not_later i inside))
          (subst (λ w. IfSome w.monitor.due (λ d. at.now ≤ d)) pending.watched (can.in_time i inside)))
    ])

-- and each that was done still is
pub done_there : (at : Renewal) (option : NetOption) (told : List Watched) (before : List Candidate) (i k : ℕ) (x x_then : InputsKept) → CanRenew at.now option x → AreRenewed at told before x → i < length told → IsRenewed at i x x_then → IsDoneAt at told before k x → IsDoneAt at told before k x_then
done_there at option told before i k x x_then can all within renewed done = elim (same_or_not k i) [
  | inl here ↦ subst (λ j. IsDoneAt at told before j x_then) (sym here) (done_here at option told before i x x_then can all within renewed)
  | inr apart ↦
      let same = same_place at i k x x_then renewed apart in
      moved (λ w due c. IsDone at k (watched_in told k) (candidate before k) w due c) (watched_in x.watched k) (watched_in x_then.watched k) (due_in x.dues k) (due_in x_then.dues k) (candidate x.candidates k) (candidate x_then.candidates k) same.0 same.1 same.2 done
]

pub kept_one : (at : Renewal) (option : NetOption) (told : List Watched) (before : List Candidate) (i : ℕ) (x x_then : InputsKept) → CanRenew at.now option x → AreRenewed at told before x → i < length told → IsRenewed at i x x_then → AreKept at told before x x_then
kept_one at option told before i x x_then can all within renewed = record {
  renewed = record {
    watched_length = ap length renewed.watched ∙ length-set x.watched i renewed.input ∙ all.watched_length;
    dues_length = ap length renewed.dues ∙ length-set x.dues i renewed.input.monitor.due ∙ all.dues_length;
    candidates_length = ap length renewed.candidates ∙ length-set x.candidates i (candidate_of at i (candidate x.candidates i).priority renewed.input) ∙ all.candidates_length;
    each = λ k inside. each k inside;
  };
  done = λ k inside done. done_there at option told before i k x x_then can all within renewed done;
}
  where
    each : (k : ℕ) → k < length told → IsDoneAt at told before k x_then ⊎ IsPendingAt told before k x_then
    each k inside = elim (same_or_not k i) [
      | inl here ↦ inl (subst (λ j. IsDoneAt at told before j x_then) (sym here) (done_here at option told before i x x_then can all within renewed))
      | inr apart ↦ elim (all.each k inside) [
        | inl done ↦ inl (done_there at option told before i k x x_then can all within renewed done)
        | inr pending ↦
            let same = same_place at i k x x_then renewed apart in
            inr (moved (λ w due c. IsPending (watched_in told k) (candidate before k) w due c) (watched_in x.watched k) (watched_in x_then.watched k) (due_in x.dues k) (due_in x_then.dues k) (candidate x.candidates k) (candidate x_then.candidates k) same.0 same.1 same.2 pending)
      ]
    ]

-- inputs are told what they are told
told_all : (at : Renewal) (option : NetOption) (x : InputsKept) → CanRenew at.now option x → AreRenewed at x.watched x.candidates x
told_all at option x can = record {
  watched_length = refl;
  dues_length = can.dues_length;
  candidates_length = can.candidates_length;
  each = λ i within. inr (record { watched = refl; due_is = can.dues i within; candidate_is = refl });
}

-- one event more is taken
pub taken_more : (at : Renewal) (told : List Watched) (before : List Candidate) (all left : List InputEvent) (event : InputEvent) (x x_then : InputsKept) → AreTaken at told before all (event ∷ left) x → AreKept at told before x x_then → ((i : ℕ) → i < length told → touches i event ≡ true → IsDoneAt at told before i x_then) → AreTaken at told before all left x_then
taken_more at told before all left event x x_then taken kept touched = record {
  renewed = kept.renewed;
  touched = λ i within is. elim (taken.touched i within is) [
    | inr done ↦ inr (kept.done i within done)
    | inl some ↦ of i within (touches i event) refl some
  ];
}
  where
    of : (i : ℕ) → i < length told → (b : Bool) → touches i event ≡ b → list_any (touches i) (event ∷ left) ≡ true → (list_any (touches i) left ≡ true) ⊎ IsDoneAt at told before i x_then
    of i within true is some = inr (touched i within is)
    of i within false is some = inl (rw is at some)
