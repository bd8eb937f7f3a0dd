-- When the lines out of an element can be ranked, and when they are held.
use Rattle.std.proofs.Common.{◌≡◌, ℕ, zero, suc, ◌+◌, ◌<◌, ◌≤◌, true, List, [], ◌∷◌, ◌++◌, length, Option, Some, None, refl, sym, ap, subst, ◌∙◌, inl, inr, arith, eq-eqb}
use Rattle.std.specs.Prelude.{◌≢◌, slice_get, slice_set, if◌then◌else◌}
use Rattle.std.specs.List.{Contains}
use Rattle.std.proofs.lemmas.List.Elements.{Contains-append_cases}
use Rattle.sync_topo.specs.declared.returns.ReturnRule.{ReturnRule}
use Rattle.sync_topo.specs.Hops.{HopsBy, hops_by}
use Rattle.cycle_plan.specs.private.Numbers.{number_in, number_out}
use Rattle.std.proofs.lemmas.Bool.{cases_lt, cases_eq, eqb-true}
use Rattle.std.proofs.lemmas.List.{get_or-set_same, get_or-set_other, length-set}
use Rattle.std.proofs.lemmas.Option.{same_Some, slice_get-get_or, slice_get_within}
use Rattle.sync_topo.specs.Topology.{Topology}
use Rattle.sync_topo.specs.WellFormed.{IsWellFormed}
use Rattle.sync_topo.specs.Lines.{is_nominated, IsNominated, sender_of, inputs_of}
use Rattle.sync_topo.proofs.LineLaws.{IsNominated-within}
use Rattle.rank_cert.specs.Ranks.{Ranks, rank_at}
use Rattle.sync_topo.specs.declared.input.InputId.{InputId}
use Rattle.cycle_plan.specs.private.Inputs.{line_at, IsOpenLine, AreFirstOpen}
use Rattle.cycle_plan.specs.private.Tops.{AreSmall, IsRankedAt, IsTop}
use Rattle.cycle_plan.specs.private.Peeling.{IsRanking, IsOpenInto, IsWatched, IsPeeling, IsHeld, AreKept, IsMore, IsSettled, IsAmong, AreFree, AreNext, IsTopOf, IsPeeled}
use Rattle.cycle_plan.specs.declared.inputs.OpenInputs.{OpenInputs}
use Rattle.cycle_plan.specs.declared.ranking.Ranking.{Ranking}
use Rattle.cycle_plan.specs.declared.greatest.Greatest.{Greatest}
use Rattle.cycle_plan.specs.private.Greatest.{greatest_but}
use Rattle.cycle_plan.proofs.HopFacts.{line_at_within, hop_parts, hop_from, input_place, input_is, ends_apart}
use Rattle.cycle_plan.proofs.PeelingLemmas.{Grows, fewer, IsNext-grows, IsOpenInto-grows}
use Rattle.cycle_plan.proofs.GreatestLaws.{above-but, reached-but}
use Rattle.cycle_plan.proofs.WatchLemmas.{open_line, closed_line, line_at_open, past_end}

-- ranks are below the number of lines
pub small : (returns : ReturnRule) (plan : Topology) (ranks : Ranks) → IsWellFormed plan → IsRanking returns plan ranks → AreSmall ranks
small returns plan ranks well_formed ranking line rank ranked =
    let below = ranking.below line rank ranked in
    omega (arith, below, well_formed.few_links)

-- a line without a rank into an element holds each line out of it, but those of its own bundle
held_by : (returns : ReturnRule) (plan : Topology) (ranks : Ranks) (element line from : ℕ) → IsNominated plan line → sender_of plan line ≡ element
    → IsOpenInto plan ranks element from → number_in returns plan from ≢ number_out returns plan line → IsHeld returns plan ranks line
held_by returns plan ranks element line from nominated sent stands apart =
    (from, hop_from returns plan from line stands.nominated nominated (stands.into ∙ sym sent) apart, stands.unranked)

-- an open input is a nominated line into the element that has no rank
pub open_into : (plan : Topology) (ranks : Ranks) (element place line : ℕ) → IsOpenLine ranks (inputs_of plan element) place line → IsOpenInto plan ranks element line
open_into plan ranks element place line stands =
    let is = input_is plan element place line stands.here in
    record { nominated = is.0; into = is.1; unranked = stands.unranked }

-- and each such line is an open input
pub open_place : (plan : Topology) (ranks : Ranks) (element line : ℕ) → IsOpenInto plan ranks element line
    → (place : ℕ) × IsOpenLine ranks (inputs_of plan element) place line
open_place plan ranks element line stands =
    let at = input_place plan element line stands.nominated stands.into in
    (at.0, record { here = at.1; unranked = stands.unranked })

-- two open inputs of two bundles hold every line out of the element
pub settled_by_two : (returns : ReturnRule) (plan : Topology) (ranks : Ranks) (element : ℕ) (watch : OpenInputs) → AreFirstOpen returns plan ranks (inputs_of plan element) watch
    → watch.second < length (inputs_of plan element) → IsSettled returns plan ranks element
settled_by_two returns plan ranks element watch places two line nominated sent none =
    let inputs : List InputId = inputs_of plan element in
    let apart = places.apart two in
    let one = open_line ranks inputs watch.first (places.first (omega (arith, apart, two))) in
    let other = open_line ranks inputs watch.second (places.second two) in
    let differ = places.differ one.0 other.0 one.1.here other.1.here in
    elim (cases_eq (number_in returns plan one.0) (number_out returns plan line)) [
      | inl same ↦
          held_by returns plan ranks element line other.0 nominated sent (open_into plan ranks element watch.second other.0 other.1)
          (λ also. differ (same ∙ sym also))
      | inr differs ↦ held_by returns plan ranks element line one.0 nominated sent (open_into plan ranks element watch.first one.0 one.1) differs
    ]

-- an element that is done holds nothing
pub settled_if_done : (returns : ReturnRule) (plan : Topology) (ranks : Ranks) (element : ℕ) (watch : OpenInputs) → IsWatched returns plan ranks element watch → watch.done ≡ true → IsSettled returns plan ranks element
settled_if_done returns plan ranks element watch watched done line nominated sent none = absurd (watched.done done line nominated sent none)

-- where all open inputs are of one bundle, each line into the element without a rank is of it
pub open_of_bundle : (returns : ReturnRule) (plan : Topology) (ranks : Ranks) (element : ℕ) (watch : OpenInputs) (last line : ℕ) → AreFirstOpen returns plan ranks (inputs_of plan element) watch
    → length (inputs_of plan element) ≤ watch.second → line_at (inputs_of plan element) watch.first ≡ Some last → IsOpenInto plan ranks element line
    → number_in returns plan line ≡ number_in returns plan last
open_of_bundle returns plan ranks element watch last line places one here stands =
    let inputs : List InputId = inputs_of plan element in
    let at = open_place plan ranks element line stands in
    let inside = line_at_within inputs at.0 line at.1.here in
    let first_inside = line_at_within inputs watch.first last here in
    let first = line_at_open ranks inputs watch.first last here (places.first first_inside) in
    elim (cases_lt at.0 watch.first) [
      | inl before ↦ absurd (closed_line ranks inputs at.0 line (places.watched.before at.0 before) at.1)
      | inr not_before ↦
          places.watched.between at.0 watch.first line last not_before (omega (arith, inside, one)) (omega arith) (omega (arith, first_inside, one)) at.1 first
    ]

-- with no open input, no line into the element is without a rank
pub none_open : (returns : ReturnRule) (plan : Topology) (ranks : Ranks) (element : ℕ) (watch : OpenInputs) (line : ℕ) → AreFirstOpen returns plan ranks (inputs_of plan element) watch
    → line_at (inputs_of plan element) watch.first ≡ None → IsOpenInto plan ranks element line → ⊥
none_open returns plan ranks element watch line places none stands =
    let inputs : List InputId = inputs_of plan element in
    let at = open_place plan ranks element line stands in
    let inside = line_at_within inputs at.0 line at.1.here in
    let end = past_end ranks inputs watch.first places.first none in
    closed_line ranks inputs at.0 line (places.watched.before at.0 (omega (arith, inside, end))) at.1

-- then each line out of the element is free
pub free_all : (returns : ReturnRule) (plan : Topology) (ranks : Ranks) (element : ℕ) (watch : OpenInputs) → AreFirstOpen returns plan ranks (inputs_of plan element) watch
    → line_at (inputs_of plan element) watch.first ≡ None → AreFree returns plan ranks element None
free_all returns plan ranks element watch places none line from nominated sent among hop left =
    let parts = hop_parts returns plan from line hop in
    none_open returns plan ranks element watch from places none (record { nominated = parts.0; into = parts.2 ∙ sent; unranked = left })

-- and where all open inputs are of one bundle, those of this bundle are
pub free_of_bundle : (returns : ReturnRule) (plan : Topology) (ranks : Ranks) (element : ℕ) (watch : OpenInputs) (last : ℕ) → AreFirstOpen returns plan ranks (inputs_of plan element) watch
    → length (inputs_of plan element) ≤ watch.second → line_at (inputs_of plan element) watch.first ≡ Some last
    → AreFree returns plan ranks element (Some (number_in returns plan last))
free_of_bundle returns plan ranks element watch last places one here line from nominated sent among hop left =
    let parts = hop_parts returns plan from line hop in
    let bundles = open_of_bundle returns plan ranks element watch last from places one here (record { nominated = parts.0; into = parts.2 ∙ sent; unranked = left }) in
    parts.3 (bundles ∙ sym (eqb-true _ _ among))

-- once the lines out over the bundle of an open input have ranks, this input holds all others
pub settled_by_one : (returns : ReturnRule) (plan : Topology) (ranks : Ranks) (element last : ℕ) → IsOpenInto plan ranks element last
    → ((line : ℕ) → IsNominated plan line → sender_of plan line ≡ element → number_in returns plan last ≡ number_out returns plan line → rank_at ranks line ≢ None)
    → IsSettled returns plan ranks element
settled_by_one returns plan ranks element last stands given line nominated sent left = elim (cases_eq (number_in returns plan last) (number_out returns plan line)) [
  | inl same ↦ absurd (given line nominated sent same left)
  | inr differs ↦ held_by returns plan ranks element line last nominated sent stands differs
]

-- the rank after the top is the next
pub IsTopOf-from : (returns : ReturnRule) (plan : Topology) (ranks : Ranks) (element : ℕ) (top : Greatest) → IsRanking returns plan ranks
    → IsTop returns plan ranks (inputs_of plan element) (length (inputs_of plan element)) top → IsTopOf returns plan ranks element top
IsTopOf-from returns plan ranks element top ranking is_top line nominated sent ranked = record {
  above = λ from hop.
      let parts = hop_parts returns plan from line hop in
      let rank = some from hop in
      let low = above-but IsWay top out is_top (number_in returns plan from) (rank.0 + 1) rank.2 parts.3 in
      (rank.0, rank.1, omega (arith, low));
  reached = elim (reached-but IsWay top out is_top) [
    | inl none ↦ inl none
    | inr found ↦ inr (
      found.1.line,
      found.1.rank,
      hop_of found.0 (greatest_but top out) found.1 (λ same. found.2 (sym found.1.number_is ∙ same)),
      found.1.ranked,
      sym found.1.next_is,
    )
  ];
}
  where
    inputs : List InputId
    inputs = inputs_of plan element

    out : ℕ
    out = number_out returns plan line

    IsWay : ℕ → ℕ → Type 0
    IsWay = IsRankedAt returns plan ranks inputs (length inputs)

    -- a line that hops there has a rank, and stands among the inputs with it
    some : (from : ℕ) → HopsBy returns plan from line → (rank : ℕ) × (rank_at ranks from ≡ Some rank) × IsWay (number_in returns plan from) (rank + 1)
    some from hop = by_rank (rank_at ranks from) refl
      where
        by_rank : (o : Option ℕ) → rank_at ranks from ≡ o → (rank : ℕ) × (rank_at ranks from ≡ Some rank) × IsWay (number_in returns plan from) (rank + 1)
        by_rank None e = absurd (ranked from hop e)
        by_rank (Some rank) e =
            let parts = hop_parts returns plan from line hop in
            let at = input_place plan element from parts.0 (parts.2 ∙ sent) in (
              rank,
              e,
              record {
                line = from;
                rank = rank;
                place = at.0;
                low = line_at_within inputs at.0 from at.1;
                here = at.1;
                ranked = e;
                number_is = refl;
                next_is = refl;
              },
            )

    -- a line among the inputs that has a rank hops to the line, unless it has its number
    hop_of : (number next : ℕ) (way : IsWay number next) → number_in returns plan way.line ≢ out → HopsBy returns plan way.line line
    hop_of number next way apart =
        let from_nominated = ranking.only way.line way.rank way.ranked in
        let is = input_is plan element way.place way.line way.here in
        hop_from returns plan way.line line from_nominated nominated (is.1 ∙ sym sent) apart

-- what is said of the next ranks stays so
pub AreNext-grows : (returns : ReturnRule) (plan : Topology) (before after : Ranks) (element : ℕ) (only : Option ℕ) (top : Greatest) → Grows (rank_at before) (rank_at after)
    → AreNext returns plan before element only top → AreNext returns plan after element only top
AreNext-grows returns plan before after element only top grows next line nominated sent among =
    IsNext-grows (hops_by returns plan) (rank_at before) (rank_at after) line (greatest_but top (number_out returns plan line)) grows (next line nominated sent among)

-- more and yet more
pub IsMore-same : (returns : ReturnRule) (plan : Topology) (ranking : Ranking) → IsPeeling returns plan ranking → IsMore returns plan ranking ranking
IsMore-same returns plan ranking peeling = record { peeling = peeling; grows = λ line rank ranked. ranked; keeps = λ line kept. kept; work = omega arith }

pub IsMore-trans : (returns : ReturnRule) (plan : Topology) (one two three : Ranking) → IsMore returns plan one two → IsMore returns plan two three → IsMore returns plan one three
IsMore-trans returns plan one two three first second = record {
  peeling = second.peeling;
  grows = λ line rank ranked. second.grows line rank (first.grows line rank ranked);
  keeps = λ line kept. second.keeps line (first.keeps line kept);
  work = omega (arith, first.work, second.work);
}

-- an element's watch is set
pub IsMore-watch : (returns : ReturnRule) (plan : Topology) (before after : Ranking) (element : ℕ) (watch : OpenInputs) → IsPeeling returns plan before → element < length plan.elements
    → IsWatched returns plan before.ranks element watch → after.ranks ≡ before.ranks → after.waiting ≡ before.waiting
    → after.watches.items ≡ slice_set before.watches.items element watch → after.order ≡ before.order → IsMore returns plan before after
IsMore-watch returns plan before after element watch peeling within watched ranks waiting watches order = record {
  peeling = record {
    ranked = rw ranks peeling.ranked;
    watches = rw watches (length-set before.watches.items element watch ∙ peeling.watches);
    watched = λ other other_watch there. elim (cases_eq other element) [
      | inl same ↦
          let inside : element < length (slice_set before.watches.items element watch) = rw (length-set before.watches.items element watch, peeling.watches) within in
          let here : slice_get (slice_set before.watches.items element watch) element ≡ Some watch =
          slice_get-get_or (slice_set before.watches.items element watch) element watch inside
          ∙ ap (λ w. Some w) (get_or-set_same before.watches.items element watch watch (rw peeling.watches within)) in
          let is : watch ≡ other_watch =
          same_Some watch other_watch (sym here ∙ ap (λ e. slice_get (slice_set before.watches.items element watch) e) (sym same) ∙ subst (λ w. slice_get w other ≡ Some other_watch) watches there) in
          subst (λ e. IsWatched returns plan after.ranks e other_watch) (sym same) (subst (λ w. IsWatched returns plan after.ranks element w) is (rw ranks watched))
      | inr differs ↦
          let there_set = subst (λ w. slice_get w other ≡ Some other_watch) watches there in
          let inside_set = slice_get_within (slice_set before.watches.items element watch) other other_watch there_set in
          let inside : other < length before.watches.items = rw (← length-set before.watches.items element watch) inside_set in
          let stood : slice_get before.watches.items other ≡ Some other_watch =
          slice_get-get_or before.watches.items other watch inside
          ∙ ap (λ w. Some w) (sym (get_or-set_other before.watches.items element other watch watch differs))
          ∙ sym (slice_get-get_or (slice_set before.watches.items element watch) other watch inside_set) ∙ there_set in
          rw ranks (peeling.watched other other_watch stood)
    ];
    waiting = rw waiting peeling.waiting;
    ordered = rw (ranks, order) peeling.ordered;
  };
  grows = λ line rank ranked. rw ranks ranked;
  keeps = λ line kept. rw (ranks, waiting) kept;
  work = rw (ranks, waiting) (omega arith);
}

-- what is known of an element's new watch
pub IsWatched-new : (returns : ReturnRule) (plan : Topology) (ranks : Ranks) (element : ℕ) (old new : OpenInputs) → IsWatched returns plan ranks element old → AreFirstOpen returns plan ranks (inputs_of plan element) new
    → new.back ≡ old.back → new.done ≡ old.done → IsWatched returns plan ranks element new
IsWatched-new returns plan ranks element old new was places back done = record {
  watched = places.watched;
  back = λ is_back. was.back (sym back ∙ is_back);
  done = λ is_done. was.done (sym done ∙ is_done);
}

-- what is kept after an element was taken from the waiting ones and settled
pub kept_after : (returns : ReturnRule) (plan : Topology) (before taken after : Ranking) (element : ℕ) → AreKept returns plan before → taken.ranks ≡ before.ranks
    → before.waiting.items ≡ taken.waiting.items ++ element ∷ [] → IsMore returns plan taken after → IsSettled returns plan after.ranks element → AreKept returns plan after
kept_after returns plan before taken after element kept ranks waiting more settled line nominated left =
    let had : rank_at taken.ranks line ≡ None = fewer (rank_at taken.ranks) (rank_at after.ranks) more.grows line left in
    elim (kept line nominated (rw (← ranks) had)) [
      | inl held ↦ more.keeps line (inl (rw ranks held))
      | inr waits ↦ elim (Contains-append_cases taken.waiting.items (element ∷ []) (sender_of plan line) (rw (← waiting) waits)) [
        | inl still ↦ more.keeps line (inr still)
        | inr here ↦ inl (settled line nominated (only_one element (sender_of plan line) here) left)
      ]
    ]
  where
    only_one : (one other : ℕ) → Contains (one ∷ []) other → other ≡ one
    only_one one other (zero, low, is) = sym is
    only_one one other (suc place, low, is) = absurd (omega arith)

-- once no element waits, all that can be ranked is ranked
pub peeled_at_end : (returns : ReturnRule) (plan : Topology) (ranking : Ranking) → IsPeeling returns plan ranking → AreKept returns plan ranking → length ranking.waiting.items ≡ 0
    → IsPeeled (hops_by returns plan) (is_nominated plan) (rank_at ranking.ranks)
peeled_at_end returns plan ranking peeling kept none = record {
  exact = peeling.ranked.exact;
  only = peeling.ranked.only;
  stuck = λ line nominated left. elim (kept line nominated left) [
    | inl held ↦ held
    | inr waits ↦ let inside = waits.1 in absurd (omega (arith, inside, none))
  ];
}

-- the line at the first open place has no rank
pub first_line : (returns : ReturnRule) (plan : Topology) (ranks : Ranks) (element : ℕ) (watch : OpenInputs) (line : ℕ) → AreFirstOpen returns plan ranks (inputs_of plan element) watch
    → line_at (inputs_of plan element) watch.first ≡ Some line → IsOpenInto plan ranks element line
first_line returns plan ranks element watch line places here =
    let inputs : List InputId = inputs_of plan element in
    open_into plan ranks element watch.first line
    (line_at_open ranks inputs watch.first line here (places.first (line_at_within inputs watch.first line here)))

-- an open input that is no line out of the element stays open while only such lines get ranks
pub open_stays : (plan : Topology) (before after : Ranks) (element line : ℕ) → IsWellFormed plan → IsOpenInto plan before element line
    → ((other : ℕ) → sender_of plan other ≢ element → rank_at after other ≡ rank_at before other) → IsOpenInto plan after element line
open_stays plan before after element line well stands others = record {
  nominated = stands.nominated;
  into = stands.into;
  unranked =
      others line (λ sent. ends_apart plan line well (IsNominated-within plan line stands.nominated) (sent ∙ sym stands.into)) ∙ stands.unranked;
}

-- once the lines out of the element over the bundle of its open inputs have ranks, the ways back are done
pub back_done : (returns : ReturnRule) (plan : Topology) (before after : Ranks) (element : ℕ) (watch : OpenInputs) (last : ℕ) → AreFirstOpen returns plan before (inputs_of plan element) watch
    → length (inputs_of plan element) ≤ watch.second → line_at (inputs_of plan element) watch.first ≡ Some last → Grows (rank_at before) (rank_at after)
    → ((line : ℕ) → IsNominated plan line → sender_of plan line ≡ element → IsAmong returns plan (Some (number_in returns plan last)) line → rank_at after line ≢ None)
    → (line from : ℕ) → IsNominated plan line → sender_of plan line ≡ element → IsOpenInto plan after element from
    → number_in returns plan from ≡ number_out returns plan line → rank_at after line ≢ None
back_done returns plan before after element watch last places one here grows given line from nominated sent stands bundles =
    let of_last = open_of_bundle returns plan before element watch last from places one here (IsOpenInto-grows plan before after element from grows stands) in
    given line nominated sent (eq-eqb _ _ (sym bundles ∙ of_last))
