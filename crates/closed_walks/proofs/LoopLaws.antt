-- Listing the loops.
use Rattle.std.proofs.Common.{◌≡◌, ◌≤◌, ◌<◌, ◌+◌, ◌-◌, ◌++◌, ℕ, zero, suc, Bool, true, false, List, [], ◌∷◌, length, Option, None, Some, ap, sym, subst, ◌∙◌, inl, inr, arith, refl}
use Rattle.std.specs.Prelude.{slice_set, slice_get, IfSome}
use Rattle.std.proofs.Math.Decide.{dec_lt}
use Rattle.std.proofs.lemmas.Bool.{true≢false}
use Rattle.std.proofs.lemmas.Bool.Decides.{eqb_tells}
use Rattle.std.proofs.lemmas.Option.{same_Some, slice_get_cases}
use Rattle.sync_text.proofs.Each.{Each-map, Each-append}
use Rattle.sync_text.specs.Each.{Each}
use Rattle.sync_topo.specs.declared.input.InputId.{InputId}
use Rattle.sync_topo.specs.declared.input.InputId.TheVariants.{Line}
use Rattle.sync_topo.specs.declared.input.LineId.{LineId}
use Rattle.sync_topo.specs.Topology.{Topology}
use Rattle.sync_topo.specs.Lines.{line_input, sender_of, receiver_of, numbers}
use Rattle.net_rules.specs.GoingBack.{line_before, lines_before, ComesBack}
use Rattle.net_rules.specs.Walks.{Taken, IsTaken, TraceEnd, at_source, at_clock, at_loop, IsTrace}
use Rattle.net_rules.proofs.BackWalk.{AreOwn, walk-back, back-walk}
use Rattle.net_rules.proofs.WalkLaws.{line_input-same}
use Rattle.closed_walks.specs.declared.traced.End.{End}
use Rattle.closed_walks.specs.declared.traced.End.TheVariants as end_as
use Rattle.closed_walks.specs.declared.traced.Ending.{Ending}
use Rattle.closed_walks.specs.declared.following.Next.{Next}
use Rattle.closed_walks.specs.declared.following.Next.TheVariants.{On, Over}
use Rattle.closed_walks.specs.Traces.{end_of, EndsSo}
use Rattle.closed_walks.specs.Following.{is_met, next_of}
use Rattle.closed_walks.specs.Loops.{first_line, IsLoop, IsListed, AreInOrder}
use Rattle.closed_walks.specs.private.Listing.{backwards, AreMarked, IsOfListed, AreListed}
use Rattle.closed_walks.proofs.FollowLaws.{met-kept, met-here, met-still, numbers-then, takes-on}
use Rattle.closed_walks.proofs.Rings.{rotated, comes-to, loop-takes, loop-next, each-before, walk-comes, comes-back, loop-ends}

module _ (plan : Topology) (taken : Taken) where
  -- a loop comes round after one number of lines
  one-count : (n m line : ℕ) → ComesBack plan taken n line → ComesBack plan taken m line → n ≡ m
  one-count n m line comes others = elim (dec_lt n m) [
    | yes less ↦ absurd (others.first n comes.some less comes.round)
    | no at_least ↦ elim (dec_lt m n) [
      | yes more ↦ absurd (comes.first m others.some more others.round)
      | no at_most ↦ omega (arith, at_least, at_most)
    ]
  ]

  -- marking one element more
  pub marked-none : (line : ℕ) (listed : List Bool) → AreMarked plan taken line 0 listed listed
  marked-none line listed = record {
    still = λ element is. is;
    marked = λ i within. absurd (omega (arith, within));
    others = λ element is. inl is;
  }

  pub marked-more : (line k at : ℕ) (before after : List Bool) → at < length after → at ≡ sender_of plan (line_before plan taken k line)
      → AreMarked plan taken line k before after → AreMarked plan taken line (k + 1) before (slice_set after at true)
  marked-more line k at before after within is was = record {
    still = λ element old. met-still after at element within (was.still element old);
    marked = λ i few. elim (eqb_tells i k) [
      | inl same ↦ met-here after at (sender_of plan (line_before plan taken i line)) within (ap (λ j. sender_of plan (line_before plan taken j line)) same.1 ∙ sym is)
      | inr other ↦ met-still after at (sender_of plan (line_before plan taken i line)) within (was.marked i (let apart = other.1 in omega (arith, few, apart)))
    ];
    others = λ element marked. elim (met-kept after at element marked) [
      | inl same ↦ inr (k, omega arith, same ∙ is)
      | inr earlier ↦ elim (was.others element earlier) [
        | inl old ↦ inl old
        | inr one ↦ inr (one.0, (let few = one.1 in omega (arith, few)), one.2)
      ]
    ];
  }

  module _ (own : AreOwn plan taken) where
    -- marks go on round a loop
    round-met : (number : ℕ) (listed : List Bool) (walks : List (List ℕ)) → AreListed plan taken number listed walks
        → (n line k : ℕ) → IsTaken plan taken line → ComesBack plan taken n line → is_met listed (receiver_of plan line) ≡ true → k ≤ n
        → is_met listed (receiver_of plan (line_before plan taken k line)) ≡ true
    round-met number listed walks are n line zero takes comes met within = met
    round-met number listed walks are n line (suc k) takes comes met within =
        let before = round-met number listed walks are n line k takes comes met (omega (arith, within)) in
        ap (is_met listed) (loop-next plan taken n line k own comes within)
        ∙ are.round (line_before plan taken k line) n (loop-takes plan taken n line k own comes takes (omega (arith, within)))
        (rotated plan taken n line k comes) before

    -- a loop whose elements aren't marked begins here, where all that begin lower are marked
    lowest-here : (number : ℕ) (listed : List Bool) (walks : List (List ℕ)) → AreListed plan taken number listed walks
        → (n k : ℕ) → IsTaken plan taken number → ComesBack plan taken n number → is_met listed (receiver_of plan number) ≡ false → 0 < k → k < n
        → number < line_before plan taken k number
    lowest-here number listed walks are n k takes comes new some within = elim (dec_lt number (line_before plan taken k number)) [
      | yes above ↦ above
      | no not_above ↦ elim (dec_lt (line_before plan taken k number) number) [
        | no same ↦ absurd (comes.first k some within (omega (arith, not_above, same)))
        | yes below ↦
            let other : ℕ = line_before plan taken k number in
            let takes_other : IsTaken plan taken other = loop-takes plan taken n number k own comes takes (omega (arith, within)) in
            let comes_other = rotated plan taken n number k comes in
            let met = are.behind other n below takes_other comes_other in
            let all = round-met number listed walks are n other (n - k) takes_other comes_other met (omega arith) in
            absurd (true≢false (sym all ∙ ap (λ l. is_met listed (receiver_of plan l)) (comes-to plan taken n number k comes (omega (arith, within))) ∙ new))
      ]
    ]

    each-lines : (P : ℕ → Type 0) (m line : ℕ) → ((k : ℕ) → 0 < k → k ≤ m → P (line_before plan taken k line)) → Each P (lines_before plan taken m line)
    each-lines P zero line holds = tt
    each-lines P (suc m) line holds = (holds (suc m) (omega arith) (omega arith), each-lines P m line (λ k some within. holds k some (omega (arith, within))))

    pub walk-is : (number : ℕ) (listed : List Bool) (walks : List (List ℕ)) → AreListed plan taken number listed walks
        → (n : ℕ) → IsTaken plan taken number → ComesBack plan taken n number → is_met listed (receiver_of plan number) ≡ false
        → IsLoop plan taken (lines_before plan taken n number) × (first_line (lines_before plan taken n number) ≡ number)
    walk-is number listed walks are zero takes comes new = absurd (let some = comes.some in omega (arith, some))
    walk-is number listed walks are (suc m) takes comes new = (
      (
        back-walk plan taken (suc m) number own comes,
        subst (λ first. Each (λ line. first < line) (lines_before plan taken m number)) (sym comes.round)
            (each-lines (λ line. number < line) m number (λ k some within. lowest-here number listed walks are (suc m) k takes comes new some (omega (arith, within)))),
      ),
      comes.round,
    )

    -- a loop from its lowest line isn't marked before it is listed
    pub loop-new : (number : ℕ) (listed : List Bool) (walks : List (List ℕ)) → AreListed plan taken number listed walks
        → (rest : List ℕ) → IsLoop plan taken (number ∷ rest) → is_met listed (receiver_of plan number) ≡ true → ⊥
    loop-new number listed walks are rest loop met =
        let comes = walk-comes plan taken number rest loop.0 in
        let takes : IsTaken plan taken number = loop.0.each_taken.0 in
        let of = are.from (receiver_of plan number) met in
        let line : ℕ = line_before plan taken (suc of.steps) of.first in
        let here : taken (receiver_of plan number) ≡ Some (line_input line) = ap taken of.is ∙ of.comes.takes of.steps of.within in
        let same : number ≡ line = line_input-same number line (same_Some (line_input number) (line_input line) (sym takes ∙ here)) in
        let comes_there : ComesBack plan taken of.count number = subst (ComesBack plan taken of.count) (sym same) (rotated plan taken of.count of.first (suc of.steps) of.comes) in
        let count : of.count ≡ suc (length rest) = one-count of.count (suc (length rest)) number comes_there comes in
        let back : line_before plan taken (of.count - suc of.steps) number ≡ of.first =
        ap (line_before plan taken (of.count - suc of.steps)) same ∙ comes-to plan taken of.count of.first (suc of.steps) of.comes of.within in
        let lower = of.lower in
        elim (dec_lt 0 (of.count - suc of.steps)) [
          | yes some ↦
              let above : number < line_before plan taken (of.count - suc of.steps) number =
              each-before plan taken (λ other. number < other) (length rest) number (of.count - suc of.steps)
              (subst (Each (λ other. number < other)) (ap tail (walk-back plan taken number rest loop.0)) loop.1) some (omega (arith, count)) in
              omega (arith, above, back, lower)
          | no none ↦
              let zero_is : of.count - suc of.steps ≡ 0 = omega (arith, none) in
              let at : number ≡ of.first = ap (λ i. line_before plan taken i number) (sym zero_is) ∙ back in
              omega (arith, at, lower)
        ]
      where
        tail : List ℕ → List ℕ
        tail [] = []
        tail (x ∷ xs) = xs

    -- one line more was looked at, from which no loop is listed
    pub listed-skip : (number : ℕ) (listed : List Bool) (walks : List (List ℕ)) → AreListed plan taken number listed walks
        → ((count : ℕ) → IsTaken plan taken number → ComesBack plan taken count number → is_met listed (receiver_of plan number) ≡ true)
        → AreListed plan taken (number + 1) listed walks
    listed-skip number listed walks are met = record {
      each = are.each;
      all = all_then;
      below = Each-map (λ walk. first_line walk < number) (λ walk. first_line walk < number + 1) (λ walk less. omega (arith, less)) walks are.below;
      in_order = are.in_order;
      behind = λ line count less takes comes. elim (dec_lt line number) [
        | yes earlier ↦ are.behind line count earlier takes comes
        | no last ↦
            let here : number ≡ line = omega (arith, less, last) in
            subst (λ l. is_met listed (receiver_of plan l) ≡ true) here (met count (subst (IsTaken plan taken) (sym here) takes) (subst (ComesBack plan taken count) (sym here) comes))
      ];
      round = are.round;
      from = λ element marked. later number element (are.from element marked);
    }
      where
        later : (number element : ℕ) → IsOfListed plan taken number element → IsOfListed plan taken (number + 1) element
        later number element of = record {
          first = of.first;
          count = of.count;
          steps = of.steps;
          lower = (let lower = of.lower in omega (arith, lower));
          takes = of.takes;
          comes = of.comes;
          within = of.within;
          is = of.is;
        }

        all_then : (lines : List ℕ) → IsLoop plan taken lines → first_line lines < number + 1 → IsListed lines walks
        all_then [] loop less = absurd loop.0
        all_then (first ∷ rest) loop less = elim (dec_lt first number) [
          | yes earlier ↦ are.all (first ∷ rest) loop earlier
          | no last ↦
              let here : first ≡ number = omega (arith, less, last) in
              let loop_here : IsLoop plan taken (number ∷ rest) = subst (λ f. IsLoop plan taken (f ∷ rest)) here loop in
              absurd (loop-new number listed walks are rest loop_here
              (met (suc (length rest)) loop_here.0.each_taken.0 (walk-comes plan taken number rest loop_here.0)))
        ]

    listed-front : (lines : List ℕ) (walks others : List (List ℕ)) → IsListed lines walks → IsListed lines (walks ++ others)
    listed-front lines [] others one = absurd one
    listed-front lines (walk ∷ walks) others one = elim one [
      | inl same ↦ inl same
      | inr later ↦ inr (listed-front lines walks others later)
    ]

    listed-last : (lines walk : List ℕ) (walks : List (List ℕ)) → lines ≡ walk → IsListed lines (walks ++ walk ∷ [])
    listed-last lines walk [] same = inl same
    listed-last lines walk (other ∷ walks) same = inr (listed-last lines walk walks same)

    in-order-more : (walk : List ℕ) (walks : List (List ℕ)) → AreInOrder walks → Each (λ other. first_line other < first_line walk) walks → AreInOrder (walks ++ walk ∷ [])
    in-order-more walk [] order below = (tt, tt)
    in-order-more walk (other ∷ walks) order below =
        (Each-append (λ next. first_line other < first_line next) walks (walk ∷ []) order.0 (below.0, tt), in-order-more walk walks order.1 below.1)

    -- and one from which a loop is listed
    pub listed-one : (number count : ℕ) (listed after : List Bool) (walks : List (List ℕ)) (walk : List ℕ) → AreListed plan taken number listed walks
        → IsTaken plan taken number → ComesBack plan taken count number → is_met listed (receiver_of plan number) ≡ false
        → AreMarked plan taken number count listed after → walk ≡ lines_before plan taken count number
        → AreListed plan taken (number + 1) after (walks ++ walk ∷ [])
    listed-one number count listed after walks walk are takes comes new marked is = record {
      each = Each-append (IsLoop plan taken) walks (walk ∷ []) are.each (loop.0, tt);
      all = all_then;
      below = Each-append (λ other. first_line other < number + 1) walks (walk ∷ [])
          (Each-map (λ other. first_line other < number) (λ other. first_line other < number + 1) (λ other less. omega (arith, less)) walks are.below)
          ((let first = loop.1 in omega (arith, first)), tt);
      in_order = in-order-more walk walks are.in_order
          (Each-map (λ other. first_line other < number) (λ other. first_line other < first_line walk) (λ other less. (let first = loop.1 in omega (arith, less, first))) walks are.below);
      behind = λ line whole less takes_line comes_line. elim (dec_lt line number) [
        | yes earlier ↦ marked.still (receiver_of plan line) (are.behind line whole earlier takes_line comes_line)
        | no last ↦
            let here : number ≡ line = omega (arith, less, last) in
            subst (λ l. is_met after (receiver_of plan l) ≡ true) here own_marked
      ];
      round = λ line whole takes_line comes_line met. elim (marked.others (receiver_of plan line) met) [
        | inl old ↦ marked.still (sender_of plan line) (are.round line whole takes_line comes_line old)
        | inr one ↦ on one.0 line one.1 takes_line one.2
      ];
      from = λ element met. elim (marked.others element met) [
        | inl old ↦ later (are.from element old)
        | inr one ↦ record {
          first = number;
          count = count;
          steps = one.0;
          lower = omega arith;
          takes = takes;
          comes = comes;
          within = one.1;
          is = one.2;
        }
      ];
    }
      where
        loop : IsLoop plan taken walk × (first_line walk ≡ number)
        loop = subst (λ lines. IsLoop plan taken lines × (first_line lines ≡ number)) (sym is) (walk-is number listed walks are count takes comes new)

        later : {element : ℕ} → IsOfListed plan taken number element → IsOfListed plan taken (number + 1) element
        later of = record {
          first = of.first;
          count = of.count;
          steps = of.steps;
          lower = (let lower = of.lower in omega (arith, lower));
          takes = of.takes;
          comes = of.comes;
          within = of.within;
          is = of.is;
        }

        own_marked : is_met after (receiver_of plan number) ≡ true
        own_marked =
            let some = comes.some in
            let last : suc (count - 1) ≡ count = omega (arith, some) in
            let at : receiver_of plan number ≡ sender_of plan (line_before plan taken (count - 1) number) =
            ap (receiver_of plan) (sym (ap (λ i. line_before plan taken i number) last ∙ comes.round)) ∙ loop-next plan taken count number (count - 1) own comes (omega (arith, some)) in
            ap (is_met after) at ∙ marked.marked (count - 1) (omega (arith, some))

        on : (i line : ℕ) → i < count → IsTaken plan taken line → receiver_of plan line ≡ sender_of plan (line_before plan taken i number) → is_met after (sender_of plan line) ≡ true
        on i line within takes_line at =
            let same : line ≡ line_before plan taken (suc i) number =
            line_input-same line (line_before plan taken (suc i) number)
            (same_Some (line_input line) (line_input (line_before plan taken (suc i) number)) (sym takes_line ∙ ap taken at ∙ comes.takes i within)) in
            ap (λ l. is_met after (sender_of plan l)) same ∙ (elim (dec_lt (suc i) count) [
              | yes more ↦ marked.marked (suc i) more
              | no last ↦
                  let whole : suc i ≡ count = omega (arith, within, last) in
                  ap (λ l. is_met after (sender_of plan l)) (ap (λ j. line_before plan taken j number) whole ∙ comes.round) ∙ marked.marked 0 comes.some
            ])

        all_then : (lines : List ℕ) → IsLoop plan taken lines → first_line lines < number + 1 → IsListed lines (walks ++ walk ∷ [])
        all_then [] other less = absurd other.0
        all_then (first ∷ rest) other less = elim (dec_lt first number) [
          | yes earlier ↦ listed-front (first ∷ rest) walks (walk ∷ []) (are.all (first ∷ rest) other earlier)
          | no last ↦
              let here : first ≡ number = omega (arith, less, last) in
              let lines : first ∷ rest ≡ lines_before plan taken (suc (length rest)) first = walk-back plan taken first rest other.0 in
              let round : ComesBack plan taken (suc (length rest)) number = subst (ComesBack plan taken (suc (length rest))) here (walk-comes plan taken first rest other.0) in
              let counts : suc (length rest) ≡ count = one-count (suc (length rest)) count number round comes in
              listed-last (first ∷ rest) walk walks
              (lines ∙ ap (lines_before plan taken (suc (length rest))) here ∙ ap (λ n. lines_before plan taken n number) counts ∙ sym is)
        ]

    -- nothing is listed at first
    pub listed-nothing : (listed : List Bool) → ((element : ℕ) → is_met listed element ≡ true → ⊥) → AreListed plan taken 0 listed []
    listed-nothing listed none = record {
      each = tt;
      all = λ lines loop less. absurd (omega (arith, less));
      below = tt;
      in_order = tt;
      behind = λ line count less takes comes. absurd (omega (arith, less));
      round = λ line count takes comes met. absurd (none (receiver_of plan line) met);
      from = λ element met. absurd (none element met);
    }

-- lines reversed round
backwards-push : (lines : List LineId) (line : LineId) → backwards (lines ++ line ∷ []) ≡ line.0 ∷ backwards lines
backwards-push [] line = refl
backwards-push (first ∷ rest) line = ap (λ ls. ls ++ first.0 ∷ []) (backwards-push rest line)

pub reversed-more : (walk walk_then items rest : List LineId) (line : LineId) (whole : List ℕ) → items ≡ rest ++ line ∷ [] → walk_then ≡ walk ++ line ∷ []
    → numbers walk ++ backwards items ≡ whole → numbers walk_then ++ backwards rest ≡ whole
reversed-more walk walk_then items rest line whole is more so_far =
    ap (λ ls. numbers ls ++ backwards rest) more ∙ sym (numbers-then walk line (backwards rest))
    ∙ ap (λ ls. numbers walk ++ ls) (sym (ap backwards is ∙ backwards-push rest line)) ∙ so_far

-- the next line of a loop
pub never-over : (taken : Option InputId) (element line : ℕ) (next : Next) (end : End) → next ≡ next_of taken element → next ≡ Over end → taken ≡ Some (line_input line) → ⊥
never-over taken element line next end is over takes = never (sym (is ∙ ap (λ o. next_of o element) takes) ∙ over)
  where
    never : On (record { 0 = line }) ≡ Over end → ⊥
    never same = cc

pub back-more : (plan : Topology) (taken : Taken) (count first k at to : ℕ) (lines lines_then : List LineId) (line : LineId) (next : Next) (before after : List Bool)
    → ComesBack plan taken count first → k < count → at < length after
    → at ≡ sender_of plan (line_before plan taken k first) → next ≡ next_of (taken at) at → next ≡ On line
    → to ≡ sender_of plan line.0 → lines_then ≡ lines ++ line ∷ [] → backwards lines ≡ lines_before plan taken k first → AreMarked plan taken first k before after
    → (to ≡ sender_of plan (line_before plan taken (k + 1) first)) × (backwards lines_then ≡ lines_before plan taken (k + 1) first)
    × AreMarked plan taken first (k + 1) before (slice_set after at true)
back-more plan taken count first k at to lines lines_then line next before after comes within inside here is on from more so_far marked =
    let one : suc k ≡ k + 1 = omega arith in
    let takes : taken at ≡ Some (Line line) = takes-on (taken at) at line next is on in
    let same : line.0 ≡ line_before plan taken (suc k) first =
    line_input-same line.0 (line_before plan taken (suc k) first)
    (same_Some (line_input line.0) (line_input (line_before plan taken (suc k) first)) (sym takes ∙ ap taken here ∙ comes.takes k within)) in (
      from ∙ ap (sender_of plan) same ∙ ap (λ i. sender_of plan (line_before plan taken i first)) one,
      ap backwards more ∙ backwards-push lines line ∙ ap (λ l. l ∷ backwards lines) same ∙ ap (λ ls. line_before plan taken (suc k) first ∷ ls) so_far
          ∙ ap (λ i. lines_before plan taken i first) one,
      marked-more plan taken first k at before after inside here marked,
    )

-- whether a line begins a loop, by how the trace of its receiver ends
trace-comes : (plan : Topology) (taken : Taken) (element line : ℕ) (lines : List ℕ) → AreOwn plan taken → IsTrace plan taken element lines (at_loop element)
    → taken element ≡ Some (line_input line) → ComesBack plan taken (length lines) line
trace-comes plan taken element line [] own trace takes = absurd trace.0
trace-comes plan taken element line (first ∷ rest) own trace takes =
    let same : first ≡ line = line_input-same first line (same_Some (line_input first) (line_input line) (sym trace.1 ∙ takes)) in
    comes-back plan taken line element rest [] own (subst (λ l. IsTrace plan taken element (l ∷ rest) (at_loop element)) same trace)

pub begins-comes : (plan : Topology) (taken : Taken) (endings : List Ending) (to line : ℕ) (count : Option ℕ) → AreOwn plan taken
    → ((element : ℕ) (ending : Ending) → slice_get endings element ≡ Some ending → EndsSo plan taken element ending)
    → taken to ≡ Some (line_input line) → IfSome count (λ n. slice_get endings to ≡ Some (record { lines = n; end = end_as.Loop to }))
    → IfSome count (λ n. ComesBack plan taken n line)
begins-comes plan taken endings to line None own each takes is = tt
begins-comes plan taken endings to line (Some n) own each takes is =
    let ends = each to (record { lines = n; end = end_as.Loop to }) is in
    subst (λ m. ComesBack plan taken m line) ends.1 (trace-comes plan taken to line ends.0 own ends.2 takes)

end-is : (end : End) (element : ℕ) → end_of end ≡ at_loop element → end ≡ end_as.Loop element
end-is (end_as.Source source) element same = cc
end-is (end_as.OwnClock clock) element same = cc
end-is (end_as.Loop again) element same = ap end_as.Loop (ap number_of same)
  where
    number_of : TraceEnd → ℕ
    number_of (at_source n) = n
    number_of (at_clock n) = n
    number_of (at_loop n) = n

pub begins-none : (plan : Topology) (taken : Taken) (endings : List Ending) (to line n : ℕ) → AreOwn plan taken → to < length endings
    → ((element : ℕ) (ending : Ending) → slice_get endings element ≡ Some ending → EndsSo plan taken element ending)
    → ((count : ℕ) → slice_get endings to ≡ Some (record { lines = count; end = end_as.Loop to }) → ⊥)
    → to ≡ receiver_of plan line → IsTaken plan taken line → ComesBack plan taken n line → ⊥
begins-none plan taken endings to line n own within each none is takes comes = elim (slice_get_cases endings to).1 [
  | inl there ↦
      let ends = each to there.0 there.2 in
      let facts = loop-ends plan taken n line ends.0 (end_of there.0.end) own comes takes (subst (λ e. IsTrace plan taken e ends.0 (end_of there.0.end)) is ends.2) in
      let end : there.0.end ≡ end_as.Loop to = end-is there.0.end to (facts.0 ∙ ap at_loop (sym is)) in
      none there.0.lines (there.2 ∙ ap (λ e. Some (record { lines = there.0.lines; end = e })) end)
  | inr past ↦ omega (arith, within, past.0)
]
