-- The stages of a millisecond, place by place.
use Rattle.std.proofs.Common.{◌≡◌, ◌<◌, ◌⊎◌, ℕ, zero, suc, Bool, true, false, ◌||◌, nat_eq, List, [], ◌∷◌, length, slice_index, refl, ap, sym, subst, ◌∙◌, inl, inr, arith}
use Rattle.std.specs.Prelude.{slice_index_or, IsSomeAnd}
use Rattle.std.specs.List.{list_any}
use Rattle.std.proofs.lemmas.Bool.Decides.{nat_tests}
use Rattle.sync_text.proofs.Tests.{or-second}
use Rattle.sync_element.specs.ElementState.{ElementState}
use Rattle.sync_element.specs.StandsAfter.{IsStepped}
use Rattle.sync_ql.specs.declared.levels.Level.{Level}
use Rattle.sync_topo.specs.Topology.{Topology}
use Rattle.sync_topo.specs.Lines.{line_count, sender_of}
use Rattle.sync_net.specs.NetState.{line_in}
use Rattle.sync_net.specs.private.Steps.{IsSteady}
use Rattle.sync_net.specs.private.Stages.{KeepsMarks, Workplace, changes_of, IsEvaluated, IsNotEvaluated, AreEvaluated, CanStep, IsLevelSent, Wires, IsNotGiven, IsSent, AreSent, CanSay, IsOnlyGiven}

-- two tests, one of which is that of a place
pub one-of : (a b : Bool) → (a || b) ≡ true → (a ≡ true) ⊎ ((a ≡ false) × (b ≡ true))
one-of true b is = inl refl
one-of false b is = inr (refl, is)

pub none-of : (a b : Bool) → (a || b) ≡ false → (a ≡ false) × (b ≡ false)
none-of true b is = absurd (cc)
none-of false b is = (refl, is)

pub is-place : (e place : ℕ) → nat_eq e place ≡ true → e ≡ place
is-place e place is = grind (arith, nat_tests)

pub same-place : (e : ℕ) → nat_eq e e ≡ true
same-place e = grind (arith, nat_tests)

pub keeps-marks : (a b c : List Bool) → KeepsMarks a b → KeepsMarks b c → KeepsMarks a c
keeps-marks a b c first second = record {
  count = second.count ∙ first.count;
  kept = λ k is. second.kept k (first.kept k is);
}

pub keeps-same : (a : List Bool) → KeepsMarks a a
keeps-same a = record { count = refl; kept = λ k is. is }

-- an element that was evaluated, and then left
evaluated-left : (now : ℕ) (out : ℕ → Bool) (e : ℕ) (s t u : Workplace) → IsEvaluated now out e s t → IsNotEvaluated e t u → KeepsMarks t.called u.called → IsEvaluated now out e s u
evaluated-left now out e s t u one left kept = record {
  stepped = λ other. subst (IsStepped now (changes_of s.changes e) (slice_index_or s.elements e other)) (sym (left.element other)) (one.stepped other);
  cleared = left.changes ∙ one.cleared;
  due = λ other. left.due ∙ one.due other ∙ ap (λ x. x.due) (sym (left.element other));
  sent = elim one.sent [
    | inl steady ↦ inl (λ other. subst (IsSteady now (slice_index_or s.elements e other)) (sym (left.element other)) (steady other))
    | inr marked ↦ inr (λ k is. kept.kept k (marked k is))
  ];
}

-- an element that was left, and then evaluated
left-evaluated : (now : ℕ) (out : ℕ → Bool) (e : ℕ) (s t u : Workplace) → IsNotEvaluated e s t → IsEvaluated now out e t u → IsEvaluated now out e s u
left-evaluated now out e s t u left one = record {
  stepped = λ other. subst (λ c. IsStepped now c (slice_index_or s.elements e other) (slice_index_or u.elements e other)) left.changes
      (subst (λ x. IsStepped now (changes_of t.changes e) x (slice_index_or u.elements e other)) (left.element other) (one.stepped other));
  cleared = one.cleared;
  due = one.due;
  sent = elim one.sent [
    | inl steady ↦ inl (λ other. subst (λ x. IsSteady now x (slice_index_or u.elements e other)) (left.element other) (steady other))
    | inr marked ↦ inr marked
  ];
}

-- either of two tests that passes is enough
or-here : (a b : Bool) → a ≡ true → (a || b) ≡ true
or-here true b is = refl
or-here false b is = absurd (cc)

-- one element more
pub evaluated-next : (now n m place : ℕ) (is_out : ℕ → ℕ → Bool) (done done_then : ℕ → Bool) (s t u : Workplace) → done place ≡ false →
    ((e : ℕ) → done_then e ≡ (done e || nat_eq e place)) →
    AreEvaluated now n is_out done s t → m ≡ n → AreEvaluated now m is_out (λ e. nat_eq e place) t u → AreEvaluated now n is_out done_then s u
evaluated-next now n m place is_out done done_then s t u fresh next all same one_of = record {
  elements_count = one.elements_count ∙ all.elements_count;
  changes_count = one.changes_count ∙ all.changes_count;
  dues_count = one.dues_count ∙ all.dues_count;
  called = keeps-marks s.called t.called u.called all.called one.called;
  cause = λ l is. elim (one.cause l is) [
    | inl before ↦ elim (all.cause l before) [
      | inl earlier ↦ inl earlier
      | inr out ↦ inr (out.0, next out.0 ∙ or-here (done out.0) (nat_eq out.0 place) out.1, out.2)
    ]
    | inr out ↦ inr (out.0, next out.0 ∙ or-second (done out.0) (nat_eq out.0 place) out.1, out.2)
  ];
  evaluated = λ e within is. elim (one-of (done e) (nat_eq e place) (sym (next e) ∙ is)) [
    | inl before ↦ evaluated-left now (is_out e) e s t u (all.evaluated e within before) (one.others e within (apart e before (nat_eq e place) refl)) one.called
    | inr now_is ↦ left-evaluated now (is_out e) e s t u (all.others e within now_is.0) (one.evaluated e within now_is.1)
  ];
  others = λ e within is. let both = none-of (done e) (nat_eq e place) (sym (next e) ∙ is) in
      let first = all.others e within both.0 in
      let second = one.others e within both.1 in
      record {
        element = λ other. second.element other ∙ first.element other;
        changes = second.changes ∙ first.changes;
        due = second.due ∙ first.due;
      };
  lines = λ k high. one.lines k high ∙ all.lines k high;
}
  where
    one : AreEvaluated now n is_out (λ e. nat_eq e place) t u
    one = subst (λ k. AreEvaluated now k is_out (λ e. nat_eq e place) t u) same one_of

    apart : (e : ℕ) → done e ≡ true → (b : Bool) → nat_eq e place ≡ b → nat_eq e place ≡ false
    apart e before false is = is
    apart e before true is = absurd (let same : e ≡ place = is-place e place is in let other : done e ≡ false = ap done same ∙ fresh in cc)

-- an element that isn't done yet can still make its step
pub can-step-still : (now n e : ℕ) (is_out : ℕ → ℕ → Bool) (done : ℕ → Bool) (s t : Workplace) (other : ElementState) → e < n → done e ≡ false → AreEvaluated now n is_out done s t →
    CanStep now (slice_index_or s.elements e other) (changes_of s.changes e) → CanStep now (slice_index_or t.elements e other) (changes_of t.changes e)
can-step-still now n e is_out done s t other within fresh all can =
    let left = all.others e within fresh in
    subst (λ c. CanStep now (slice_index_or t.elements e other) c) (sym left.changes)
    (subst (λ x. CanStep now x (changes_of s.changes e)) (sym (left.element other)) can)

-- a line that was given a level, and then left; and the other way round
sent-left : (plan : Topology) (elements : List ElementState) (now line : ℕ) (s t u : Wires) → IsSent plan elements now line s t → IsNotGiven (length plan.elements) line t u → IsSent plan elements now line s u
sent-left plan elements now line s t u one left = record {
  level = one.level;
  by_sender = one.by_sender;
  given = record {
    before = one.given.before;
    after = one.given.after;
    was = one.given.was;
    is = left.same ∙ one.given.is;
    said = one.given.said;
    due = left.due ∙ one.given.due;
  };
}

left-sent : (plan : Topology) (elements : List ElementState) (now line : ℕ) (s t u : Wires) → IsNotGiven (length plan.elements) line s t → IsSent plan elements now line t u → IsSent plan elements now line s u
left-sent plan elements now line s t u left one = record {
  level = one.level;
  by_sender = one.by_sender;
  given = record {
    before = one.given.before;
    after = one.given.after;
    was = sym left.same ∙ one.given.was;
    is = one.given.is;
    said = one.given.said;
    due = one.given.due;
  };
}

-- one line more
pub sent-next : (plan : Topology) (elements : List ElementState) (now place : ℕ) (done done_then : ℕ → Bool) (s t u : Wires) → done place ≡ false →
    ((e : ℕ) → done_then e ≡ (done e || nat_eq e place)) →
    AreSent plan elements now done s t → AreSent plan elements now (λ l. nat_eq l place) t u → AreSent plan elements now done_then s u
sent-next plan elements now place done done_then s t u fresh next all one = record {
  lines_count = one.lines_count ∙ all.lines_count;
  dues_count = one.dues_count ∙ all.dues_count;
  sent = λ l within is. elim (one-of (done l) (nat_eq l place) (sym (next l) ∙ is)) [
    | inl before ↦ sent-left plan elements now l s t u (all.sent l within before) (one.others l within (apart l before (nat_eq l place) refl))
    | inr now_is ↦ left-sent plan elements now l s t u (all.others l within now_is.0) (one.sent l within now_is.1)
  ];
  others = λ l within is. let both = none-of (done l) (nat_eq l place) (sym (next l) ∙ is) in
      record {
        same = (one.others l within both.1).same ∙ (all.others l within both.0).same;
        due = (one.others l within both.1).due ∙ (all.others l within both.0).due;
      };
  elements_left = λ k low. one.elements_left k low ∙ all.elements_left k low;
}
  where
    apart : (e : ℕ) → done e ≡ true → (b : Bool) → nat_eq e place ≡ b → nat_eq e place ≡ false
    apart e before false is = is
    apart e before true is = absurd (let same : e ≡ place = is-place e place is in let other : done e ≡ false = ap done same ∙ fresh in cc)

-- one line alone
pub sent-one : (plan : Topology) (elements : List ElementState) (now line : ℕ) (level : Level) (n : ℕ) (s t : Wires) → n ≡ length plan.elements →
    ((other : ElementState) → IsLevelSent plan line (slice_index_or elements (sender_of plan line) other) level) → IsOnlyGiven now n line level s t →
    AreSent plan elements now (λ l. nat_eq l line) s t
sent-one plan elements now line level n s t same by_sender one_of = record {
  lines_count = one.lines_count;
  dues_count = one.dues_count;
  sent = λ l within is. subst (λ k. IsSent plan elements now k s t) (sym (is-place l line is)) (record { level = level; by_sender = by_sender; given = one.given });
  others = λ l within is. one.others l is;
  elements_left = one.elements_left;
}
  where
    one : IsOnlyGiven now (length plan.elements) line level s t
    one = subst (λ k. IsOnlyGiven now k line level s t) same one_of

-- a line that isn't given its level yet can still be
pub can-say-still : (plan : Topology) (elements : List ElementState) (now line : ℕ) (done : ℕ → Bool) (s t : Wires) → line < line_count plan → done line ≡ false → AreSent plan elements now done s t →
    IsSomeAnd (line_in s.lines line) (CanSay now) → IsSomeAnd (line_in t.lines line) (CanSay now)
can-say-still plan elements now line done s t within fresh all can =
    subst (λ o. IsSomeAnd o (CanSay now)) (sym (all.others line within fresh).same) can

-- what stands at a place of a list is among it
pub is-listed : (xs : List ℕ) (i : ℕ) → i < length xs → list_any (nat_eq (slice_index xs i)) xs ≡ true
is-listed [] i within = absurd (omega (arith, within))
is-listed (x ∷ xs) zero within = rw (same-place x) refl
is-listed (x ∷ xs) (suc i) within = or-second (nat_eq (slice_index xs i) x) (list_any (nat_eq (slice_index xs i)) xs) (is-listed xs i (omega (arith, within)))
