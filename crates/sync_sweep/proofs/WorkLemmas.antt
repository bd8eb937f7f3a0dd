-- A case on a branch.
use Rattle.std.proofs.Common.{◌≡◌, ◌≤◌, ◌<◌, ℕ, List, [], ◌∷◌, ◌++◌, length, ◌+◌, ◌-◌, inl, inr, ap, sym, subst, ◌∙◌, arith}
use Rattle.std.specs.List.{All}
use Rattle.std.proofs.lemmas.List.{append-nil}
use Rattle.std.proofs.lemmas.Option.{slice_get_cases}
use Rattle.sync_topo.specs.declared.event.Event.{Event}
use Rattle.sync_topo.specs.declared.event.Part.{Part}
use Rattle.sync_topo.specs.declared.event.Part.TheVariants as part
use Rattle.sync_topo.specs.declared.event.What.{What}
use Rattle.sync_topo.specs.declared.event.What.TheVariants.{Down, Up, EsmcOff, EsmcOn, SourceLevel, Lockout, Unlock, Forced, Manual, Clear, ClearWtr}
use Rattle.sync_topo.specs.declared.input.InputId.{InputId}
use Rattle.sync_topo.specs.declared.input.InputId.TheVariants.{Line, Source}
use Rattle.sync_topo.specs.Topology.{Topology}
use Rattle.sync_topo.specs.Events.{IsPart, MayHappen, IsCase, IsEventList}
use Rattle.sync_topo.specs.Lines.{line_count, IsInput}
use Rattle.sync_topo.specs.WellFormed.{IsWellFormed}
use Rattle.net_rules.specs.Signals.{events_at}
use Rattle.event_times.specs.EventTimes.{AreTold}
use Rattle.event_times.proofs.EventTimes.{none-at}
use Rattle.sync_net.specs.NetState.{NetState}
use Rattle.sync_net.specs.Standing.{StandsFor}
use Rattle.sync_topo.specs.declared.event.Case.{Case}
use Rattle.sync_sweep.specs.private.Base.{AreCommonBefore}
use Rattle.sync_sweep.specs.Cases.{merged}
use Rattle.sync_sweep.proofs.CountLemmas.{some-element}
use Rattle.event_times.proofs.Ascending.{ascend}
use Rattle.sync_sweep.proofs.Merging.{at-merged, merged-list}

-- before a millisecond a run has the common events alone
pub common-before : (plan : Topology) (common own : List Event) (from : ℕ) → IsEventList plan common → IsEventList plan own → All (λ event. from ≤ event.at) own
    → AreCommonBefore plan common from (merged common own)
common-before plan common own from first second later = record {
  ordered = merged-list plan common own first second;
  here = λ t early.
      at-merged t common own (ascend common first.in_order)
      ∙ ap (λ back. events_at t common ++ back)
      (none-at t own (λ k other inside same. let late = later k other inside in absurd (omega (arith, late, same, early))))
      ∙ append-nil (events_at t common);
}

-- so the network stands at its end for each list that has these events alone up to there
pub stood : (base branch after : NetState) (common told all : List Event) (from until : ℕ) → branch ≡ base
    → ((all : List Event) → AreCommonBefore base.plan common from all → StandsFor base all from)
    → ((all : List Event) → AreTold branch.plan all from until told → StandsFor branch all from → StandsFor after all (until + 1))
    → AreCommonBefore base.plan common from all → AreTold base.plan all from until told → StandsFor after all (until + 1)
stood base branch after common told all from until same stands run before are =
    run all (subst (λ (n : NetState). AreTold n.plan all from until told) (sym same) are)
    (subst (λ (n : NetState). StandsFor n all from) (sym same) (stands all before))

-- a plan to which something happens has elements
some-source : (plan : Topology) (source : ℕ) → IsWellFormed plan → source < length plan.sources → 0 < length plan.elements
some-source plan source well within = elim (slice_get_cases plan.sources source).1 [
  | inl there ↦ omega (arith, (well.sources_fit source there.0 there.2).at_is_element)
  | inr past ↦ absurd (omega (arith, within, past.0))
]

some-line : (plan : Topology) (line : ℕ) → IsWellFormed plan → line < line_count plan → 0 < length plan.elements
some-line plan line well within = some-element plan 0 well (omega (arith, within))

some-input : (plan : Topology) (input : InputId) → IsWellFormed plan → IsInput plan input → 0 < length plan.elements
some-input plan (Line line) well within = some-line plan line.0 well within
some-input plan (Source source) well within = some-source plan source well within

some-part : (plan : Topology) (p : Part) → IsWellFormed plan → IsPart plan p → 0 < length plan.elements
some-part plan (part.Link link) well within = some-element plan link well within
some-part plan (part.Line line) well within = some-line plan line.0 well within
some-part plan (part.Source source) well within = some-source plan source well within

some-what : (plan : Topology) (happens : What) → IsWellFormed plan → MayHappen plan happens → 0 < length plan.elements
some-what plan (Down p) well may = some-part plan p well may
some-what plan (Up p) well may = some-part plan p well may
some-what plan (EsmcOff line) well may = some-line plan line.0 well may
some-what plan (EsmcOn line) well may = some-line plan line.0 well may
some-what plan (SourceLevel source level) well may = some-source plan source well may.0
some-what plan (Lockout input) well may = some-input plan input well may
some-what plan (Unlock input) well may = some-input plan input well may
some-what plan (Forced input) well may = some-input plan input well may
some-what plan (Manual input) well may = some-input plan input well may
some-what plan (Clear element) well may = omega (arith, may)
some-what plan (ClearWtr input) well may = some-input plan input well may

pub case-elements : (plan : Topology) (case : Case) → IsWellFormed plan → IsCase plan case → 0 < length plan.elements
case-elements plan case well is = of case.events is.list is.some
  where
    of : (events : List Event) → IsEventList plan events → 0 < length events → 0 < length plan.elements
    of [] list some = absurd (omega (arith, some))
    of (event ∷ events) list some = some-what plan event.what well (list.fit 0 event (omega arith))
