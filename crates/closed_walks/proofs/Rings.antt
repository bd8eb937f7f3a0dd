-- Loops: going back from a line to itself. Whoever is on one traces it once round.
use Rattle.std.proofs.Common.{◌≡◌, ◌≢◌, ◌≤◌, ◌<◌, ◌+◌, ◌-◌, ℕ, zero, suc, List, [], ◌∷◌, length, Some, ap, sym, subst, ◌∙◌, inl, inr, arith, refl}
use Rattle.std.proofs.Math.Decide.{dec_lt}
use Rattle.std.proofs.lemmas.Option.{none-some, same_Some}
use Rattle.sync_text.specs.Each.{Each}
use Rattle.sync_topo.specs.declared.input.InputId.TheVariants.{Source}
use Rattle.sync_topo.specs.Topology.{Topology}
use Rattle.sync_topo.specs.Lines.{line_input, sender_of, receiver_of}
use Rattle.sync_topo.specs.Ranks.{Leads}
use Rattle.net_rules.specs.Walks.{Taken, IsOneOf, IsTaken, Joins, IsClosedWalk, TraceEnd, at_source, at_clock, at_loop, EndsAt, IsTraceAfter, IsTrace}
use Rattle.net_rules.specs.GoingBack.{line_taken, line_before, lines_before, ComesBack}
use Rattle.net_rules.proofs.BackWalk.{AreOwn, walk-back}
use Rattle.net_rules.proofs.WalkLaws.{line_input-same}

pub each-one : (P : ℕ → Type 0) (xs : List ℕ) (y : ℕ) → Each P xs → IsOneOf y xs → P y
each-one P [] y each one = absurd one
each-one P (x ∷ xs) y each one = elim one [
  | inl same ↦ subst P (sym same) each.0
  | inr later ↦ each-one P xs y each.1 later
]

module _ (plan : Topology) (taken : Taken) where
  pub back-add : (m k line : ℕ) → line_before plan taken (m + k) line ≡ line_before plan taken m (line_before plan taken k line)
  back-add zero k line = ap (λ n. line_before plan taken n line) (omega arith)
  back-add (suc m) k line =
      let more : suc m + k ≡ suc (m + k) = omega arith in
      ap (λ n. line_before plan taken n line) more ∙ ap (λ l. line_taken (taken (sender_of plan l))) (back-add m k line)

  back-as : (n m k line : ℕ) → n ≡ m + k → line_before plan taken n line ≡ line_before plan taken m (line_before plan taken k line)
  back-as n m k line same = ap (λ i. line_before plan taken i line) same ∙ back-add m k line

  -- the next line of a loop is on the same loop
  rotate : (n line : ℕ) → ComesBack plan taken n line → ComesBack plan taken n (line_before plan taken 1 line)
  rotate n line comes = record {
    some = comes.some;
    takes = λ k within.
        ap (λ l. taken (sender_of plan l)) (shift k) ∙ later k within ∙ ap (λ l. Some (line_input l)) (sym (shift (suc k)));
    round =
        shift n ∙ back-as (suc n) 1 n line (omega arith) ∙ ap (line_before plan taken 1) comes.round;
    first = λ k some within same.
        comes.first k some within
        (sym (back-as (n + k) k n line (omega arith) ∙ ap (line_before plan taken k) comes.round)
        ∙ back-as (n + k) (n - 1) (suc k) line (omega (arith, comes.some))
        ∙ ap (line_before plan taken (n - 1)) (sym (shift k) ∙ same)
        ∙ sym (back-as n (n - 1) 1 line (omega (arith, comes.some))) ∙ comes.round);
  }
    where
      shift : (k : ℕ) → line_before plan taken k (line_before plan taken 1 line) ≡ line_before plan taken (suc k) line
      shift k = sym (back-as (suc k) k 1 line (omega arith))

      last_takes : (k : ℕ) → k < n → (suc k < n → ⊥) → taken (sender_of plan (line_before plan taken (suc k) line)) ≡ Some (line_input (line_before plan taken (suc (suc k)) line))
      last_takes k within last =
          let whole : suc k ≡ n = omega (arith, within, last) in
          let at_first : line_before plan taken (suc k) line ≡ line = ap (λ i. line_before plan taken i line) whole ∙ comes.round in
          ap (λ l. taken (sender_of plan l)) at_first ∙ comes.takes 0 comes.some
          ∙ ap (λ l. Some (line_input (line_taken (taken (sender_of plan l))))) (sym at_first)

      later : (k : ℕ) → k < n → taken (sender_of plan (line_before plan taken (suc k) line)) ≡ Some (line_input (line_before plan taken (suc (suc k)) line))
      later k within = elim (dec_lt (suc k) n) [
        | yes more ↦ comes.takes (suc k) more
        | no last ↦ last_takes k within last
      ]

  pub rotated : (n line k : ℕ) → ComesBack plan taken n line → ComesBack plan taken n (line_before plan taken k line)
  rotated n line zero comes = comes
  rotated n line (suc k) comes = rotate n (line_before plan taken k line) (rotated n line k comes)

  -- going back from a line and further from there comes to it
  pub comes-to : (n line k : ℕ) → ComesBack plan taken n line → k ≤ n → line_before plan taken (n - k) (line_before plan taken k line) ≡ line
  comes-to n line k comes within = sym (back-as n (n - k) k line (omega (arith, within))) ∙ comes.round

  -- two lines of a loop are apart
  apart-on : (n line i k : ℕ) → ComesBack plan taken n line → i < k → k < n → line_before plan taken k line ≢ line_before plan taken i line
  apart-on n line i k comes less within same =
      comes.first (n - k + i) (omega (arith, within)) (omega (arith, less, within))
      (back-add (n - k) i line ∙ ap (line_before plan taken (n - k)) (sym same) ∙ comes-to n line k comes (omega (arith, within)))

  -- what is followed on the way back to an element that was passed
  record IsAlong (line element k n : ℕ) : Type 0 where
    takes : (j : ℕ) → k ≤ j → j < k + n → taken (sender_of plan (line_before plan taken j line)) ≡ Some (line_input (line_before plan taken (suc j) line))
    apart : (j : ℕ) → k ≤ j → j < k + n → sender_of plan (line_before plan taken j line) ≢ element
    round : sender_of plan (line_before plan taken (k + n) line) ≡ element

  along : (line element : ℕ) (rest passed : List ℕ) (k : ℕ) → IsOneOf element passed
      → IsTraceAfter plan taken passed (sender_of plan (line_before plan taken k line)) rest (at_loop element) → IsAlong line element k (length rest)
  along line element [] passed k one trace = record {
    takes = λ j after before. absurd (omega (arith, after, before));
    apart = λ j after before. absurd (omega (arith, after, before));
    round = (let here : k + 0 ≡ k = omega arith in ap (λ i. sender_of plan (line_before plan taken i line)) here ∙ sym trace.1);
  }
  along line element (next ∷ rest) passed k one trace =
      let at : ℕ = sender_of plan (line_before plan taken k line) in
      let same : line_before plan taken (suc k) line ≡ next = ap line_taken trace.1 in
      let further : IsAlong line element (suc k) (length rest) =
      along line element rest (at ∷ passed) (suc k) (inr one)
      (subst (λ l. IsTraceAfter plan taken (at ∷ passed) (sender_of plan l) rest (at_loop element)) (sym same) trace.2) in
      let takes_here : taken at ≡ Some (line_input (line_before plan taken (suc k) line)) = trace.1 ∙ ap (λ l. Some (line_input l)) (sym same) in
      let apart_here : at ≢ element = each-one (λ other. at ≢ other) passed element trace.0 one in
      record {
        takes = λ j after before. elim (dec_lt k j) [
          | yes later ↦ further.takes j later (omega (arith, before))
          | no first ↦
              let here : k ≡ j = omega (arith, after, first) in
              subst (λ i. taken (sender_of plan (line_before plan taken i line)) ≡ Some (line_input (line_before plan taken (suc i) line))) here takes_here
        ];
        apart = λ j after before. elim (dec_lt k j) [
          | yes later ↦ further.apart j later (omega (arith, before))
          | no first ↦ let here : k ≡ j = omega (arith, after, first) in subst (λ i. sender_of plan (line_before plan taken i line) ≢ element) here apart_here
        ];
        round =
            let more : k + suc (length rest) ≡ suc k + length rest = omega arith in
            ap (λ i. sender_of plan (line_before plan taken i line)) more ∙ further.round;
      }

  -- an element whose trace comes to it again is on a loop
  pub comes-back : (line element : ℕ) (rest passed : List ℕ) → AreOwn plan taken
      → IsTraceAfter plan taken passed element (line ∷ rest) (at_loop element) → ComesBack plan taken (suc (length rest)) line
  comes-back line element rest passed own trace =
      let n : ℕ = length rest in
      let way : IsAlong line element 0 n = along line element rest (element ∷ passed) 0 (inl refl) trace.2 in
      let takes_element : taken element ≡ Some (line_input line) = trace.1 in
      let sum : 0 + n ≡ n = omega arith in
      let at_element : sender_of plan (line_before plan taken n line) ≡ element = ap (λ i. sender_of plan (line_before plan taken i line)) (sym sum) ∙ way.round in
      let takes_last : taken (sender_of plan (line_before plan taken n line)) ≡ Some (line_input line) = ap taken at_element ∙ takes_element in
      let round : line_before plan taken (suc n) line ≡ line = ap line_taken takes_last in
      record {
        some = omega arith;
        takes = λ k within. elim (dec_lt k n) [
          | yes earlier ↦ way.takes k (omega arith) (omega (arith, earlier))
          | no last ↦
              let here : n ≡ k = omega (arith, within, last) in
              subst (λ i. taken (sender_of plan (line_before plan taken i line)) ≡ Some (line_input (line_before plan taken (suc i) line))) here
              (takes_last ∙ ap (λ l. Some (line_input l)) (sym round))
        ];
        round = round;
        first = λ k some within same. never k some within same;
      }
    where
      never : (k : ℕ) → 0 < k → k < suc (length rest) → line_before plan taken k line ≢ line
      never zero some within same = omega (arith, some)
      never (suc k) some within same =
          let way : IsAlong line element 0 (length rest) = along line element rest (element ∷ passed) 0 (inl refl) trace.2 in
          let takes_it = way.takes k (omega arith) (omega (arith, within)) in
          way.apart k (omega arith) (omega (arith, within))
          (sym (own (sender_of plan (line_before plan taken k line)) line (takes_it ∙ ap (λ l. Some (line_input l)) same)) ∙ own element line trace.1)

  -- the elements of a loop, each of which takes a line of it
  pub loop-takes : (n line k : ℕ) → AreOwn plan taken → ComesBack plan taken n line → taken (receiver_of plan line) ≡ Some (line_input line) → k ≤ n
      → taken (receiver_of plan (line_before plan taken k line)) ≡ Some (line_input (line_before plan taken k line))
  loop-takes n line zero own comes first within = first
  loop-takes n line (suc k) own comes first within =
      let takes = comes.takes k within in
      ap taken (own (sender_of plan (line_before plan taken k line)) (line_before plan taken (suc k) line) takes) ∙ takes

  pub loop-next : (n line k : ℕ) → AreOwn plan taken → ComesBack plan taken n line → k < n
      → receiver_of plan (line_before plan taken (suc k) line) ≡ sender_of plan (line_before plan taken k line)
  loop-next n line k own comes within =
      own (sender_of plan (line_before plan taken k line)) (line_before plan taken (suc k) line) (comes.takes k within)

  -- the trace of an element on a loop goes once round
  round-ends : (n line : ℕ) (end : TraceEnd) → AreOwn plan taken → ComesBack plan taken n line → taken (receiver_of plan line) ≡ Some (line_input line)
      → (lines passed : List ℕ) (k : ℕ) → k ≤ n
      → ((y : ℕ) → IsOneOf y passed → (i : ℕ) × (i < k) × (y ≡ receiver_of plan (line_before plan taken i line)))
      → (0 < k → IsOneOf (receiver_of plan line) passed)
      → IsTraceAfter plan taken passed (receiver_of plan (line_before plan taken k line)) lines end
      → (end ≡ at_loop (receiver_of plan line)) × (length lines + k ≡ n)
  round-ends n line end own comes first [] passed k within earlier begun trace = by end trace
    where
      takes : taken (receiver_of plan (line_before plan taken k line)) ≡ Some (line_input (line_before plan taken k line))
      takes = loop-takes n line k own comes first within

      source_line : (source l : ℕ) → Source source ≡ line_input l → ⊥
      source_line source l same = cc

      by : (e : TraceEnd) → EndsAt taken passed (receiver_of plan (line_before plan taken k line)) e → (e ≡ at_loop (receiver_of plan line)) × (0 + k ≡ n)
      by (at_source source) is = absurd (source_line source (line_before plan taken k line) (same_Some (Source source) (line_input (line_before plan taken k line)) (sym is.1 ∙ takes)))
      by (at_clock clock) is = absurd (none-some (line_input (line_before plan taken k line)) (sym is.1 ∙ takes))
      by (at_loop again) is =
          let met = earlier (receiver_of plan (line_before plan taken k line)) is.0 in
          let same_line : line_before plan taken k line ≡ line_before plan taken met.0 line =
          line_input-same (line_before plan taken k line) (line_before plan taken met.0 line)
          (same_Some (line_input (line_before plan taken k line)) (line_input (line_before plan taken met.0 line))
          (sym takes ∙ ap taken met.2 ∙ loop-takes n line met.0 own comes first (omega (arith, met.1, within)))) in
          elim (dec_lt k n) [
            | yes inside ↦ absurd (apart-on n line met.0 k comes met.1 inside same_line)
            | no whole ↦
                let all : k ≡ n = omega (arith, within, whole) in
                (ap at_loop (is.1 ∙ ap (receiver_of plan) (ap (λ i. line_before plan taken i line) all ∙ comes.round)), omega (arith, all))
          ]
  round-ends n line end own comes first (next ∷ rest) passed k within earlier begun trace =
      let at : ℕ = receiver_of plan (line_before plan taken k line) in
      let takes : taken at ≡ Some (line_input (line_before plan taken k line)) = loop-takes n line k own comes first within in
      elim (dec_lt k n) [
        | yes inside ↦
            let same : next ≡ line_before plan taken k line =
            line_input-same next (line_before plan taken k line) (same_Some (line_input next) (line_input (line_before plan taken k line)) (sym trace.1 ∙ takes)) in
            let then_at : sender_of plan next ≡ receiver_of plan (line_before plan taken (suc k) line) =
            ap (sender_of plan) same ∙ sym (loop-next n line k own comes inside) in
            let facts = round-ends n line end own comes first rest (at ∷ passed) (suc k) inside
            (λ y one. elim one [
              | inl here ↦ (k, omega arith, here)
              | inr before ↦ let was = earlier y before in (was.0, omega (arith, was.1), was.2)
            ])
            (λ _. elim (dec_lt 0 k) [
              | yes later ↦ inr (begun later)
              | no none ↦ let zero_is : k ≡ 0 = omega (arith, none) in inl (ap (λ i. receiver_of plan (line_before plan taken i line)) (sym zero_is))
            ])
            (subst (λ e. IsTraceAfter plan taken (at ∷ passed) e rest end) then_at trace.2) in
            (facts.0, omega (arith, facts.1))
        | no whole ↦
            let all : k ≡ n = omega (arith, within, whole) in
            let back : at ≡ receiver_of plan line = ap (receiver_of plan) (ap (λ i. line_before plan taken i line) all ∙ comes.round) in
            absurd (each-one (λ other. at ≢ other) passed (receiver_of plan line) trace.0 (begun (omega (arith, all, comes.some))) back)
      ]

  pub loop-ends : (n line : ℕ) (lines : List ℕ) (end : TraceEnd) → AreOwn plan taken → ComesBack plan taken n line → taken (receiver_of plan line) ≡ Some (line_input line)
      → IsTrace plan taken (receiver_of plan line) lines end → (end ≡ at_loop (receiver_of plan line)) × (length lines ≡ n)
  loop-ends n line lines end own comes first trace =
      let facts = round-ends n line end own comes first lines [] 0 (omega arith) (λ y one. absurd one) (λ some. absurd (omega (arith, some))) trace in
      (facts.0, omega (arith, facts.1))

  -- a closed walk comes back to its first line
  stretch-takes : (line : ℕ) (rest : List ℕ) (end : ℕ) → Leads (Joins plan) line rest end → Each (IsTaken plan taken) (line ∷ rest)
      → (line_before plan taken (suc (length rest)) end ≡ line)
      × ((k : ℕ) → k < suc (length rest) → taken (sender_of plan (line_before plan taken k end)) ≡ Some (line_input (line_before plan taken (suc k) end)))
  stretch-takes line [] end leads each =
      let takes : taken (sender_of plan end) ≡ Some (line_input line) = ap taken (sym leads) ∙ each.0 in
      let head : line_before plan taken 1 end ≡ line = ap line_taken takes in (
        head,
        λ k within.
            let here : 0 ≡ k = omega (arith, within) in
            subst (λ i. taken (sender_of plan (line_before plan taken i end)) ≡ Some (line_input (line_before plan taken (suc i) end))) here
            (takes ∙ ap (λ l. Some (line_input l)) (sym head)),
      )
  stretch-takes line (next ∷ rest) end leads each =
      let later = stretch-takes next rest end leads.1 each.1 in
      let m : ℕ = suc (length rest) in
      let takes : taken (sender_of plan (line_before plan taken m end)) ≡ Some (line_input line) =
      ap (λ l. taken (sender_of plan l)) later.0 ∙ ap taken (sym leads.0) ∙ each.0 in
      let head : line_before plan taken (suc m) end ≡ line = ap line_taken takes in (
        head,
        λ k within. elim (dec_lt k m) [
          | yes inside ↦ later.1 k inside
          | no last ↦
              let here : m ≡ k = omega (arith, within, last) in
              subst (λ i. taken (sender_of plan (line_before plan taken i end)) ≡ Some (line_input (line_before plan taken (suc i) end))) here
              (takes ∙ ap (λ l. Some (line_input l)) (sym head))
        ],
      )

  pub each-before : (P : ℕ → Type 0) (m line k : ℕ) → Each P (lines_before plan taken m line) → 0 < k → k ≤ m → P (line_before plan taken k line)
  each-before P zero line k each some within = absurd (omega (arith, some, within))
  each-before P (suc m) line k each some within = elim (dec_lt k (suc m)) [
    | yes lower ↦ each-before P m line k each.1 some (omega (arith, lower))
    | no last ↦ let here : suc m ≡ k = omega (arith, last, within) in subst (λ i. P (line_before plan taken i line)) here each.0
  ]

  pub walk-comes : (first : ℕ) (rest : List ℕ) → IsClosedWalk plan taken (first ∷ rest) → ComesBack plan taken (suc (length rest)) first
  walk-comes first rest walk =
      let facts = stretch-takes first rest first walk.joined walk.each_taken in
      record {
        some = omega arith;
        takes = facts.1;
        round = facts.0;
        first = λ k some within same.
            each-before (λ other. first ≢ other) (length rest) first k
            (subst (Each (λ other. first ≢ other)) (ap tail (walk-back plan taken first rest walk)) walk.apart.0) some (omega (arith, within)) (sym same);
      }
    where
      tail : List ℕ → List ℕ
      tail [] = []
      tail (x ∷ xs) = xs
