-- The parts of the settling bound: one line or element more, and what they come to.
use Rattle.std.proofs.Common.{◌≡◌, ℕ, ◌+◌, ◌/◌, ◌<◌, ◌≤◌, suc, Bool, true, false, max, List, ◌∷◌, [], length, Option, None, Some, refl, sym, ap, ◌∙◌, inl, inr, ◌⊎◌, arith}
use Rattle.std.specs.Prelude.{◌≢◌, ◌==◌, slice_get, unwrap_or, IsTrue, if◌then◌else◌, ◌&&◌}
use Rattle.std.proofs.lemmas.Bool.{and_parts, or_cases, cases_lt, cases_Bool, eqb-true, eq-eqb}
use Rattle.std.proofs.lemmas.Option.{same_Some, none-some, slice_get_within}
use Rattle.sync_topo.specs.declared.link.Link.{Link}
use Rattle.sync_topo.specs.declared.element.Element.{Element}
use Rattle.sync_topo.specs.Topology.{Topology}
use Rattle.sync_topo.specs.Lines.{line_count, ends_at_b, sender_of, receiver_of, is_nominated, IsNominated}
use Rattle.sync_topo.specs.Bundles.{line_bundle, bundle_of, bundle_name, is_same_bundle, are_of_one_bundle, join_same}
use Rattle.sync_topo.specs.Hops.{goes_back}
use Rattle.sync_topo.specs.Ranks.{HopTest, AreLeastRanks, IsFirstCycle, IsLeastRank}
use Rattle.sync_topo.specs.WellFormed.{IsWellFormed}
use Rattle.sync_topo.proofs.LineLaws.{IsNominated-within}
use Rattle.sync_topo.proofs.LineNames.{link_there}
use Rattle.net_rules.specs.Settling.{IsRankOver, IsWait, IsGreatest}
use Rattle.rank_cert.specs.Ranks.{Ranks, rank_at}
use Rattle.cycle_plan.proofs.Walks.{one_least, residue_nominated}
use Rattle.cycle_plan.specs.private.BoundParts.{IsRankBelow, IsWaitBelow}

-- one line more
pub rank-more : (plan : Topology) (ranks : Ranks) (n greatest : ℕ) → IsRankBelow plan ranks n greatest
    → IsRankBelow plan ranks (n + 1) (max greatest (unwrap_or (rank_at ranks n) 0))
rank-more plan ranks n greatest before = of (rank_at ranks n) refl
  where
    below : (line : ℕ) → line < n + 1 → (line < n) ⊎ (line ≡ n)
    below line low = elim (cases_lt line n) [
      | inl less ↦ inl less
      | inr not_less ↦ inr (omega (arith, low, not_less))
    ]

    of : (o : Option ℕ) → rank_at ranks n ≡ o → IsRankBelow plan ranks (n + 1) (max greatest (unwrap_or o 0))
    of None is = record {
      most = λ line rank low has. elim (below line low) [
        | inl less ↦ let m = before.most line rank less has in omega (arith, m)
        | inr same ↦ absurd (none-some rank (sym is ∙ ap (rank_at ranks) (sym same) ∙ has))
      ];
      reached = rw (zero-max greatest) before.reached;
    }
      where
        zero-max : (g : ℕ) → max g 0 ≡ g
        zero-max g = omega arith
    of (Some rank) is = record {
      most = λ line other low has. elim (below line low) [
        | inl less ↦ let m = before.most line other less has in omega (arith, m)
        | inr same ↦ let e = same_Some rank other (sym is ∙ ap (rank_at ranks) (sym same) ∙ has) in omega (arith, e)
      ];
      reached = greater (cases_lt greatest rank);
    }
      where
        greater : (greatest < rank) ⊎ (rank ≤ greatest) → (max greatest rank ≡ 0) ⊎ ((line : ℕ) × (rank_at ranks line ≡ Some (max greatest rank)))
        greater (inl less) = let e : max greatest rank ≡ rank = omega (arith, less) in rw e (inr (n, is))
        greater (inr more) = let e : max greatest rank ≡ greatest = omega (arith, more) in rw e before.reached

-- over all lines: the greatest least rank
pub rank-all : (hop : HopTest) (plan : Topology) (ranks : Ranks) (greatest : ℕ) → AreLeastRanks hop (is_nominated plan) (rank_at ranks)
    → IsRankBelow plan ranks (line_count plan) greatest → IsGreatest (IsRankOver hop plan) greatest
rank-all hop plan ranks greatest least all = record {
  most = λ n is.
      let mine = least.least is.line is.nominated in
      let same = one_least hop is.line mine.0 n mine.2 is.is in
      let m = all.most is.line mine.0 (IsNominated-within plan is.line is.nominated) mine.1 in
      omega (arith, m, same);
  reached = elim all.reached [
    | inl none ↦ inl none
    | inr some ↦ inr (ranked some.0 some.1)
  ];
}
  where
    ranked : (line : ℕ) → rank_at ranks line ≡ Some greatest → IsRankOver hop plan greatest
    ranked line has = elim (cases_Bool (is_nominated plan line)) [
      | inl nominated ↦
          let mine = least.least line nominated in
          let same = same_Some mine.0 greatest (sym mine.1 ∙ has) in
          record { line = line; nominated = nominated; is = rw (← same) mine.2 }
      | inr not ↦ absurd (none-some greatest (sym (least.none line not) ∙ has))
    ]

-- and each nominated line has its least rank
pub ranked-all : (hop : HopTest) (plan : Topology) (ranks : Ranks) → AreLeastRanks hop (is_nominated plan) (rank_at ranks)
    → (line : ℕ) → IsNominated plan line → (rank : ℕ) × IsLeastRank hop line rank
ranked-all hop plan ranks least line nominated = let mine = least.least line nominated in (mine.0, mine.2)

-- the ends of a line, by the direction that it runs in
meet : (to_b back_to_b : Bool) (link back : Link) → join_same link back ≡ true
    → (if to_b then link.b else link.a) ≢ (if back_to_b then back.b else back.a)
    → (if to_b then link.b else link.a) ≡ (if back_to_b then back.a else back.b)
meet to_b back_to_b link back same differ = by (or_cases _ _ same) to_b back_to_b differ
  where
    by : ((link.a == back.a && link.b == back.b) ≡ true) ⊎ ((link.a == back.b && link.b == back.a) ≡ true) → (t u : Bool)
        → (if t then link.b else link.a) ≢ (if u then back.b else back.a)
        → (if t then link.b else link.a) ≡ (if u then back.a else back.b)
    by (inl both) t u d = straight t u (eqb-true _ _ (and_parts _ _ both).0) (eqb-true _ _ (and_parts _ _ both).1) d
      where
        straight : (t u : Bool) → link.a ≡ back.a → link.b ≡ back.b → (if t then link.b else link.a) ≢ (if u then back.b else back.a)
            → (if t then link.b else link.a) ≡ (if u then back.a else back.b)
        straight true true ea eb d = absurd (d eb)
        straight true false ea eb d = eb
        straight false true ea eb d = ea
        straight false false ea eb d = absurd (d ea)
    by (inr both) t u d = crossed t u (eqb-true _ _ (and_parts _ _ both).0) (eqb-true _ _ (and_parts _ _ both).1) d
      where
        crossed : (t u : Bool) → link.a ≡ back.b → link.b ≡ back.a → (if t then link.b else link.a) ≢ (if u then back.b else back.a)
            → (if t then link.b else link.a) ≡ (if u then back.a else back.b)
        crossed true true ea eb d = eb
        crossed true false ea eb d = absurd (d eb)
        crossed false true ea eb d = absurd (d ea)
        crossed false false ea eb d = ea

-- the two links of one bundle join the same two elements
joined : (plan : Topology) (i j : ℕ) (one other : Link) → IsWellFormed plan → slice_get plan.links i ≡ Some one → slice_get plan.links j ≡ Some other
    → IsTrue (are_of_one_bundle plan.links i j) → join_same one other ≡ true
joined plan i j one other well at_i at_j of_one = elim (or_cases (i == j) (is_same_bundle (bundle_name plan.links i) (bundle_name plan.links j)) of_one) [
  | inl same ↦
      let is : one ≡ other = same_Some one other (sym at_i ∙ ap (slice_get plan.links) (eqb-true i j same) ∙ at_j) in
      rw is (itself other)
  | inr named ↦ well.bundles_join i j one other at_i at_j (rw (at_i, at_j) at named)
]
  where
    itself : (link : Link) → join_same link link ≡ true
    itself link = rw (eq-eqb link.a link.a refl, eq-eqb link.b link.b refl) refl

-- lines of one bundle that lead to different elements go back from one another
pub opposed : (plan : Topology) (line back : ℕ) → IsWellFormed plan → line < line_count plan → back < line_count plan
    → ((i j : ℕ) → i < length plan.links → j < length plan.links → bundle_of plan i ≡ bundle_of plan j → IsTrue (are_of_one_bundle plan.links i j))
    → line_bundle plan line ≡ line_bundle plan back → receiver_of plan line ≢ receiver_of plan back
    → IsTrue (goes_back plan line back)
opposed plan line back well within back_within one same differ =
    let here = link_there plan line within in
    let there = link_there plan back back_within in
    let join = joined plan (line / 2) (back / 2) here.0 there.0 well here.1 there.1 (one (line / 2) (back / 2) (omega arith) (omega arith) same) in
    let met : receiver_of plan line ≡ sender_of plan back =
    rw (here.1, there.1) (meet (ends_at_b line) (ends_at_b back) here.0 there.0 join (rw (here.1, there.1) at differ)) in
    rw (eq-eqb _ _ met) (eq-eqb _ _ same)

-- with a cycle a line has no least rank
pub cyclic-none : (hop : HopTest) (plan : Topology) (lines : List ℕ) → ((from next : ℕ) → IsTrue (hop from next) → IsNominated plan next)
    → IsFirstCycle hop lines → ((line : ℕ) → IsNominated plan line → (rank : ℕ) × IsLeastRank hop line rank) → ⊥
cyclic-none hop plan [] nominates first ranked = first
cyclic-none hop plan (line ∷ rest) nominates first ranked =
    let start = first.met.0 in
    let residue = first.met.2.residue in
    let least = ranked start (residue_nominated hop (is_nominated plan) nominates start residue) in
    let more = least.1.longest (suc least.0) (residue (suc least.0)) in
    omega (arith, more)

-- one element more
pub wait-more : (plan : Topology) (delay n wait : ℕ) (element : Element) → slice_get plan.elements n ≡ Some element
    → IsWaitBelow plan delay n wait → IsWaitBelow plan delay (n + 1) (max wait (max element.holdoff element.wtr))
wait-more plan delay n wait element here before = record {
  hearing = let h = before.hearing in omega (arith, h);
  most = λ place other low has. elim (cases_lt place n) [
    | inl less ↦ let m = before.most place other less has in (omega (arith, m.0), omega (arith, m.1))
    | inr not_less ↦
        let at : place ≡ n = omega (arith, low, not_less) in
        let same : other ≡ element = same_Some other element (sym has ∙ ap (slice_get plan.elements) at ∙ here) in
        rw same (omega arith, omega arith)
  ];
  reached = elim (cases_lt wait (max element.holdoff element.wtr)) [
    | inl longer ↦
        let e : max wait (max element.holdoff element.wtr) ≡ max element.holdoff element.wtr = omega (arith, longer) in
        rw e (inl (record { place = n; element = element; has = here; is = one element.holdoff element.wtr }))
    | inr shorter ↦
        let e : max wait (max element.holdoff element.wtr) ≡ wait = omega (arith, shorter) in
        rw e before.reached
  ];
}
  where
    one : (a b : ℕ) → (max a b ≡ a) ⊎ (max a b ≡ b)
    one a b = elim (cases_lt a b) [
      | inl less ↦ inr (omega (arith, less))
      | inr more ↦ inl (omega (arith, more))
    ]

-- over all elements: the longest wait
pub wait-all : (plan : Topology) (delay wait : ℕ) → IsWaitBelow plan delay (length plan.elements) wait → IsGreatest (IsWait plan delay) wait
wait-all plan delay wait all = record {
  most = λ time is. elim is [
    | inl of ↦
        let m = all.most of.place of.element (slice_get_within plan.elements of.place of.element of.has) of.has in
        elim of.is [
          | inl holdoff ↦ omega (arith, m.0, holdoff)
          | inr restore ↦ omega (arith, m.1, restore)
        ]
    | inr hearing ↦ let h = all.hearing in omega (arith, h, hearing)
  ];
  reached = inr all.reached;
}
