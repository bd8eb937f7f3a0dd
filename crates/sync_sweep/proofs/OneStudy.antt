-- A case has one row.
use Rattle.std.proofs.Common.{◌≡◌, ℕ, List, [], ◌∷◌, length, refl, sym, ap, subst, ◌∙◌}
use Rattle.std.specs.Prelude.{nat_eq, nat_lt, ◌&&◌}
use Rattle.std.specs.List.{find, range_with_len}
use Rattle.sync_topo.specs.declared.event.Case.{Case}
use Rattle.sync_topo.specs.declared.event.Event.{Event}
use Rattle.sync_topo.specs.Topology.{Topology}
use Rattle.net_rules.specs.Walks.{Taken, TraceEnd, IsTrace}
use Rattle.closed_walks.specs.declared.traced.Ending.{Ending}
use Rattle.closed_walks.proofs.OneEndings.{one-endings}
use Rattle.sync_sweep.specs.declared.on_way.OnWay.{OnWay}
use Rattle.sync_sweep.specs.declared.studying.StudyRow.{StudyRow}
use Rattle.timings.specs.declared.counted.Timing.{Timing}
use Rattle.sync_sweep.specs.Cases.{merged}
use Rattle.sync_sweep.specs.OnWay.{before_own, worse_for, IsWorseFor, IsOnWay}
use Rattle.sync_sweep.specs.Outcomes.{taken_by}
use Rattle.sync_sweep.specs.Study.{IsStudyRow, AreStudyRows}
use Rattle.timings.specs.Timing.{IsCounted, IsLengthIn, IsTiming}
use Rattle.sync_sweep.proofs.OneOutcome.{one-outcome, one-greatest}

-- traces are counted in one way
one-counted : (endings : List Ending) (one other : Timing) → IsCounted endings one → IsCounted endings other → one ≡ other
one-counted endings one other first second =
    ap (λ x. record { lost = x; first = one.first; longest = one.longest }) (first.lost ∙ sym second.lost)
    ∙ ap (λ x. record { lost = other.lost; first = x; longest = one.longest }) (first.first ∙ sym second.first)
    ∙ ap (λ x. record { lost = other.lost; first = other.first; longest = x })
    (one-greatest (IsLengthIn endings) one.longest other.longest first.longest second.longest)

-- and so is what a case costs on the way
one-way : (plan : Topology) (events : List Event) (before until : ℕ) (one other : OnWay) → IsOnWay plan events before until one → IsOnWay plan events before until other
    → one ≡ other
one-way plan events before until one other first second =
    let dark : one.dark ≡ other.dark = one-greatest (IsWorseFor plan events before until) one.dark other.dark first.dark second.dark in
    let darkest : one.darkest ≡ other.darkest =
    first.darkest
    ∙ ap (λ n. find (λ element. nat_lt 0 n && nat_eq (worse_for plan events before until element) n) (range_with_len 0 (length plan.elements))) dark
    ∙ sym second.darkest in
    ap (λ x. record { hurt = x; dark = one.dark; darkest = one.darkest; still = one.still }) (first.hurt ∙ sym second.hurt)
    ∙ ap (λ x. record { hurt = other.hurt; dark = x; darkest = one.darkest; still = one.still }) dark
    ∙ ap (λ x. record { hurt = other.hurt; dark = other.dark; darkest = x; still = one.still }) darkest
    ∙ ap (λ x. record { hurt = other.hurt; dark = other.dark; darkest = other.darkest; still = x }) (first.still ∙ sym second.still)

module _ (one_trace : (plan : Topology) (taken : Taken) (element : ℕ) (lines others : List ℕ) (end other : TraceEnd)
    → IsTrace plan taken element lines end → IsTrace plan taken element others other → (lines ≡ others) × (end ≡ other)) where
  one-timing : (plan : Topology) (taken : Taken) (one other : Timing) → IsTiming plan taken one → IsTiming plan taken other → one ≡ other
  one-timing plan taken one other first second =
      let endings = one-endings one_trace plan taken first.endings second.endings first.are_endings second.are_endings in
      one-counted second.endings one other (subst (λ e. IsCounted e one) endings first.counted) second.counted

  one-row : (plan : Topology) (common own : List Event) (until : ℕ) (one other : StudyRow) → IsStudyRow plan common own until one → IsStudyRow plan common own until other
      → one ≡ other
  one-row plan common own until one other first second =
      let events = merged common own in
      ap (λ x. record { outcome = x; timing = one.timing; way = one.way }) (one-outcome plan events until one.outcome other.outcome first.outcome second.outcome)
      ∙ ap (λ x. record { outcome = other.outcome; timing = x; way = one.way }) (one-timing plan (taken_by plan events until) one.timing other.timing first.timing second.timing)
      ∙ ap (λ x. record { outcome = other.outcome; timing = other.timing; way = x }) (one-way plan events (before_own own until) until one.way other.way first.way second.way)

  pub one-study : (plan : Topology) (common : List Event) (until : ℕ) (cases : List Case) (rows others : List StudyRow) → AreStudyRows plan common until cases rows
      → AreStudyRows plan common until cases others → rows ≡ others
  one-study plan common until [] [] [] first second = refl
  one-study plan common until [] (row ∷ rows) others first second = absurd first
  one-study plan common until [] [] (other ∷ others) first second = absurd second
  one-study plan common until (case ∷ cases) [] others first second = absurd first
  one-study plan common until (case ∷ cases) (row ∷ rows) [] first second = absurd second
  one-study plan common until (case ∷ cases) (row ∷ rows) (other ∷ others) first second =
      ap (λ r. r ∷ rows) (one-row plan common case.events until row other first.0 second.0)
      ∙ ap (λ rs. other ∷ rs) (one-study plan common until cases rows others first.1 second.1)
