-- The times at which the running times of inputs end, and the first of them.
use Rattle.std.proofs.Common.{◌≡◌, ◌≤◌, ◌<◌, ℕ, ◌+◌, List, set, length, Option, None, Some, IfSome, ap, sym, ◌∙◌, arith, subst}
use Rattle.std.specs.Prelude.{min}
use Rattle.std.proofs.Math.Decide.{dec_le, dec_lt}
use Rattle.std.proofs.Math.Nat.{min-le_left, min-le_right, min-eq_left, min-eq_right}
use Rattle.std.proofs.lemmas.List.{get_or-map, length-map, map-set}
use Rattle.agenda.specs.DueTimes.{due_in}
use Rattle.sync_element.specs.declared.watched.Watched.{Watched}
use Rattle.sync_element.specs.Kept.{dues_of, unused, watched_in}
use Rattle.sync_element.specs.private.FirstTime.{earlier_of, IsFirstSoFar}

-- a time for each input, and which
pub length_dues : (watched : List Watched) → length (dues_of watched) ≡ length watched
length_dues watched = length-map watched (λ w. w.monitor.due)

pub due_there : (watched : List Watched) (i : ℕ) → i < length watched → due_in (dues_of watched) i ≡ (watched_in watched i).monitor.due
due_there watched i within = get_or-map (λ w. w.monitor.due) watched i unused None within

-- where an input is renewed, so is its time
pub dues_set : (watched : List Watched) (i : ℕ) (input : Watched) → dues_of (set watched i input) ≡ set (dues_of watched) i input.monitor.due
dues_set watched i input = map-set (λ w. w.monitor.due) watched i input

-- what is true of each place before one and of that one
pub at_each : (P : ℕ → Type 0) (n : ℕ) → ((i : ℕ) → i < n → P i) → P n → (i : ℕ) → i < n + 1 → P i
at_each P n before here i within = elim (dec_lt i n) [
  | yes less ↦ before i less
  | no last ↦ subst P (let same : n ≡ i = omega (arith, within, last) in same) here
]

-- none is before an earlier one either
before_too : (o : Option ℕ) (at earlier : ℕ) → earlier ≤ at → IfSome o (λ other. at ≤ other) → IfSome o (λ other. earlier ≤ other)
before_too None at earlier less all = tt
before_too (Some other) at earlier less all = omega (arith, less, all)

-- the first of times, and of one more
pub one_more : (times : List (Option ℕ)) (n : ℕ) (found due : Option ℕ) → due_in times n ≡ due → IsFirstSoFar times n found → IsFirstSoFar times (n + 1) (earlier_of found due)
one_more times n None None here none = at_each (λ i. due_in times i ≡ None) n none here
one_more times n None (Some due) here none = record {
  some = (n, omega arith, here);
  first = at_each (λ i. IfSome (due_in times i) (λ other. due ≤ other)) n
      (λ i within. subst (λ o. IfSome o (λ other. due ≤ other)) (sym (none i within)) tt)
      (subst (λ o. IfSome o (λ other. due ≤ other)) (sym here) (let same : due ≤ due = omega arith in same));
}
one_more times n (Some at) None here found = record {
  some = (found.some.0, (let within = found.some.1 in omega (arith, within)), found.some.2);
  first = at_each (λ i. IfSome (due_in times i) (λ other. at ≤ other)) n found.first
      (subst (λ o. IfSome o (λ other. at ≤ other)) (sym here) tt);
}
one_more times n (Some at) (Some due) here found = record {
  some = elim (dec_le at due) [
    | yes low ↦ (found.some.0, (let within = found.some.1 in omega (arith, within)), found.some.2 ∙ ap Some (sym (min-eq_left low)))
    | no high ↦ (n, omega arith, here ∙ ap Some (sym (min-eq_right (omega (arith, high)))))
  ];
  first = at_each (λ i. IfSome (due_in times i) (λ other. min at due ≤ other)) n
      (λ i within. before_too (due_in times i) at (min at due) (min-le_left at due) (found.first i within))
      (subst (λ o. IfSome o (λ other. min at due ≤ other)) (sym here) (min-le_right at due));
}
