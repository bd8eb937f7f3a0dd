-- The events that are told up to a millisecond are those before the next.
use Rattle.std.proofs.Common.{◌≡◌, ◌≤◌, ◌<◌, ℕ, suc, List, sym, ap, ◌∙◌, arith}
use Rattle.sync_text.proofs.Each.{Each-map, each-all}
use Rattle.sync_topo.specs.declared.event.Event.{Event}
use Rattle.sync_topo.specs.Topology.{Topology}
use Rattle.net_rules.specs.Signals.{events_before}
use Rattle.event_times.specs.EventTimes.{AreTold, AreWithin}
use Rattle.inspection.specs.Commands.{commands_part}
use Rattle.inspection.specs.private.Tables.{commands_told}
use Rattle.event_times.proofs.Ascending.{ascend}
use Rattle.inspection.proofs.Ordered.{all-before, before-same}
use Rattle.inspection.proofs.Applied.{commands-same}

told-is : (plan : Topology) (events told : List Event) (until : ℕ) → AreTold plan events 0 until told → AreWithin plan 0 until told → told ≡ events_before (suc until) events
told-is plan events told until is within =
    sym (all-before told (suc until) (Each-map (λ event. event.at ≤ until) (λ event. event.at < suc until) (λ event early. omega (arith, early)) told (each-all (λ event. event.at ≤ until) told within.up_to)))
    ∙ sym (before-same events told (suc until) (ascend events is.ordered.in_order) (ascend told within.list.in_order) (λ t early. is.here t (omega arith) (omega (arith, early))))

pub told-commands : (plan : Topology) (events told : List Event) (until : ℕ) → AreTold plan events 0 until told → AreWithin plan 0 until told → commands_told plan told ≡ commands_part plan events (suc until)
told-commands plan events told until is within =
    ap (commands_told plan) (told-is plan events told until is within) ∙ commands-same plan events (suc until) (ascend events is.ordered.in_order)
