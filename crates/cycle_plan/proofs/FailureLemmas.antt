-- The parts of the bound after failures: one line, element, level or source more.
use Rattle.std.proofs.Common.{◌≡◌, ℕ, ◌+◌, ◌<◌, ◌≤◌, zero, suc, Bool, true, false, max, List, length, Some, refl, sym, ap, subst, ◌∙◌, inl, inr, arith}
use Rattle.std.specs.Prelude.{slice_get, slice_set, slice_index_or}
use Rattle.std.proofs.lemmas.Bool.{true≢false, cases_lt, cases_eq}
use Rattle.std.specs.List.{list_any, range_with_len}
use Rattle.std.proofs.lemmas.List.Folds.{list_any_at}
use Rattle.std.proofs.lemmas.List.FromFn.{length-range_with_len, get_or-range_with_len}
use Rattle.std.proofs.lemmas.List.{length-set}
use Rattle.std.proofs.lemmas.Option.{same_Some, slice_get_within, slice_get-get_or}
use Rattle.sync_topo.specs.declared.element.Element.{Element}
use Rattle.sync_topo.specs.Topology.{Topology}
use Rattle.sync_topo.specs.Limits.{greatest_delay}
use Rattle.sync_topo.specs.Lines.{delay_of, receiver_of, is_nominated, IsNominated}
use Rattle.sync_topo.proofs.Lists.{slice_get-set_same, slice_get-set_other}
use Rattle.net_rules.specs.Settling.{IsGreatest}
use Rattle.net_rules.specs.Losing.{IsHoldoff}
use Rattle.reach_rules.specs.Failing.{IsDelayInto, is_planned}
use Rattle.cycle_plan.specs.private.Latest.{IsIntoBelow, AreDelaysInto, IsHoldoffBelow, has_level}

-- a line that isn't nominated
pub AreDelaysInto-same : (plan : Topology) (n : ℕ) (delays : List ℕ) → is_nominated plan n ≡ false → AreDelaysInto plan n delays → AreDelaysInto plan (n + 1) delays
AreDelaysInto-same plan n delays not are = record {
  counted = are.counted;
  each = λ element delay there.
      let is = are.each element delay there in
      record {
        most = λ line low nominated into. elim (cases_lt line n) [
          | inl less ↦ is.most line less nominated into
          | inr more ↦ let same : n ≡ line = omega (arith, low, more) in absurd (true≢false (sym nominated ∙ ap (is_nominated plan) (sym same) ∙ not))
        ];
        reached = is.reached;
        few = is.few;
      };
}

-- a nominated line
pub AreDelaysInto-next : (plan : Topology) (n : ℕ) (delays : List ℕ) (receiver old : ℕ) → IsNominated plan n → receiver ≡ receiver_of plan n → receiver < length plan.elements
    → delay_of plan n ≤ greatest_delay → slice_get delays receiver ≡ Some old → AreDelaysInto plan n delays
    → AreDelaysInto plan (n + 1) (slice_set delays receiver (max old (delay_of plan n)))
AreDelaysInto-next plan n delays receiver old own into_is inside short old_is are = record {
  counted = length-set delays receiver (max old (delay_of plan n)) ∙ are.counted;
  each = λ element delay there. elim (cases_eq element receiver) [
    | inl same ↦
        let delay_same : max old (delay_of plan n) ≡ delay =
        same_Some (max old (delay_of plan n)) delay
        (sym (slice_get-set_same delays receiver (max old (delay_of plan n)) (rw are.counted inside)) ∙ ap (λ e. slice_get (slice_set delays receiver (max old (delay_of plan n))) e) (sym same) ∙ there) in
        subst (λ e. IsIntoBelow plan (n + 1) e delay) (sym same) (subst (IsIntoBelow plan (n + 1) receiver) delay_same raised)
    | inr differs ↦
        let is = are.each element delay (sym (slice_get-set_other delays receiver element (max old (delay_of plan n)) (λ same. differs (sym same))) ∙ there) in
        record {
          most = λ line low nominated into. elim (cases_lt line n) [
            | inl less ↦ is.most line less nominated into
            | inr more ↦
                let same : n ≡ line = omega (arith, low, more) in
                absurd (differs (sym into ∙ ap (receiver_of plan) (sym same) ∙ sym into_is))
          ];
          reached = is.reached;
          few = is.few;
        }
  ];
}
  where
    before : IsIntoBelow plan n receiver old
    before = are.each receiver old old_is

    raised : IsIntoBelow plan (n + 1) receiver (max old (delay_of plan n))
    raised = record {
      most = λ line low nominated into. elim (cases_lt line n) [
        | inl less ↦ let within = before.most line less nominated into in omega (arith, within)
        | inr more ↦
            let same : line ≡ n = omega (arith, low, more) in
            let e : delay_of plan line ≡ delay_of plan n = ap (delay_of plan) same in
            omega (arith, e)
      ];
      reached = elim (cases_lt old (delay_of plan n)) [
        | inl less ↦
            let e : max old (delay_of plan n) ≡ delay_of plan n = omega (arith, less) in
            inr (record { before = n; nominated = own; into = sym into_is; is = e })
        | inr more ↦
            let e : max old (delay_of plan n) ≡ old = omega (arith, more) in
            elim before.reached [
              | inl none ↦ inl (e ∙ none)
              | inr some ↦ inr (subst (IsDelayInto plan receiver) (sym e) some)
            ]
      ];
      few = omega (arith, before.few, short);
    }

-- as the code has it
pub AreDelaysInto-raised : (plan : Topology) (n : ℕ) (delays : List ℕ) (receiver delay raised : ℕ) → IsNominated plan n → receiver ≡ receiver_of plan n
    → receiver < length plan.elements → delay ≡ delay_of plan n → delay ≤ greatest_delay → raised ≡ max (slice_index_or delays receiver 0) delay
    → AreDelaysInto plan n delays → AreDelaysInto plan (n + 1) (slice_set delays receiver raised)
AreDelaysInto-raised plan n delays receiver delay raised own into_is inside delay_is short raised_is are =
    subst (λ r. AreDelaysInto plan (n + 1) (slice_set delays receiver r)) (sym (raised_is ∙ ap (max (slice_index_or delays receiver 0)) delay_is))
    (AreDelaysInto-next plan n delays receiver (slice_index_or delays receiver 0) own into_is inside (omega (arith, delay_is, short))
    (slice_get-get_or delays receiver 0 (rw are.counted inside)) are)

-- one element more
pub holdoff-more : (plan : Topology) (n holdoff : ℕ) (element : Element) → slice_get plan.elements n ≡ Some element → IsHoldoffBelow plan n holdoff
    → IsHoldoffBelow plan (n + 1) (max holdoff element.holdoff)
holdoff-more plan n holdoff element here before = record {
  most = λ place other low has. elim (cases_lt place n) [
    | inl less ↦ let m = before.most place other less has in omega (arith, m)
    | inr not_less ↦
        let at : place ≡ n = omega (arith, low, not_less) in
        let same : other ≡ element = same_Some other element (sym has ∙ ap (slice_get plan.elements) at ∙ here) in
        rw same (omega arith)
  ];
  reached = elim (cases_lt holdoff element.holdoff) [
    | inl longer ↦
        let e : max holdoff element.holdoff ≡ element.holdoff = omega (arith, longer) in
        inr (record { place = n; element = element; has = here; is = e })
    | inr shorter ↦
        let e : max holdoff element.holdoff ≡ holdoff = omega (arith, shorter) in
        rw e before.reached
  ];
}

-- over all elements
pub holdoff-all : (plan : Topology) (holdoff : ℕ) → IsHoldoffBelow plan (length plan.elements) holdoff → IsGreatest (IsHoldoff plan) holdoff
holdoff-all plan holdoff all = record {
  most = λ time is. let m = all.most is.place is.element (slice_get_within plan.elements is.place is.element is.has) is.has in omega (arith, m, is.is);
  reached = all.reached;
}

-- no source has a level, or one has
none-from : (p : ℕ → Bool) (start n : ℕ) → ((k : ℕ) → start ≤ k → k < start + n → p k ≡ false) → list_any p (range_with_len start n) ≡ false
none-from p start zero none = refl
none-from p start (suc n) none =
    rw (none start (omega arith) (omega arith), none-from p (start + 1) n (λ k after before. none k (omega (arith, after)) (omega (arith, before)))) refl

pub planned-none : (plan : Topology) (place : ℕ) → ((source : ℕ) → source < length plan.sources → has_level plan place source ≡ false) → is_planned plan place ≡ false
planned-none plan place none = none-from (has_level plan place) 0 (length plan.sources) (λ k after before. none k (omega (arith, before)))

pub planned-some : (plan : Topology) (place source : ℕ) → source < length plan.sources → has_level plan place source ≡ true → is_planned plan place ≡ true
planned-some plan place source within has =
    list_any_at (has_level plan place) (range_with_len 0 (length plan.sources)) source 0
    (subst (λ n. source < n) (sym (length-range_with_len 0 (length plan.sources))) within)
    (ap (has_level plan place) (get_or-range_with_len 0 (length plan.sources) source 0 within ∙ zero_add source) ∙ has)
  where
    zero_add : (n : ℕ) → 0 + n ≡ n
    zero_add n = omega arith
