use Rattle.std.proofs.Common.{◌≡◌, sym, subst}
use Rattle.std.specs.List.{All}
use Rattle.sync_topo.specs.Topology.{Topology}
use Rattle.event_sim.specs.Changes.{IsChangeOf}
use Rattle.event_sim.specs.declared.change.Watch.TheVariants.{Changes}
use Rattle.event_sim.specs.private.Showing.{AreShown, AreShownIf, AreNoted}
use Rattle.event_sim.specs.private.Running.{RunStands, IsAfterTurn}
use Rattle.event_sim.proofs.RowLaws.{shown-then}
use Rattle.event_sim.proofs.RunLaws.{turn-noted, turn-cost, turn-late, noted-of-plan}
use Rattle.event_sim.proofs.running.Run.take_turn.Given.{Over}
use Rattle.event_sim.proofs.running.Run.take_turn.Goals as goal
use Rattle.event_sim.proofs.running.Run.take_turn.Goals.{In_ok-fits-in-Changes}

pub returns-in-Nothing-clause-cost : goal.returns-in-Nothing-clause-cost
returns-in-Nothing-clause-cost g c =
    turn-cost c.args.self.now.net c.step.new.self c.args.now c.args.events.now c.args.steps.now c.step.new.steps
    c.in_ok-step.ensures.evaluated c.in_ok-step.ensures.ticks c.in_ok-step.ensures.active

pub returns-in_ok-fits-in-Changes-clause-cost : goal.returns-in_ok-fits-in-Changes-clause-cost
returns-in_ok-fits-in-Changes-clause-cost g c =
    turn-cost c.args.self.now.net c.step.new.self c.args.now c.args.events.now c.args.steps.now c.step.new.steps
    c.in_ok-step.ensures.evaluated c.in_ok-step.ensures.ticks c.in_ok-step.ensures.active

-- what was kept before the step is what the elements showed, and what is kept after it is what they show
was : (g : Over) (c : In_ok-fits-in-Changes g) → AreShown c.args.self.now.net c.args.self.now.shown.items
was g c = subst (λ watch. AreShownIf watch c.args.self.now.net c.args.self.now.shown.items) c.in-Changes.is c.requires.going.shown

shown : (g : Over) (c : In_ok-fits-in-Changes g) → AreShown c.step.new.self c.note_changes.new.shown.items
shown g c =
    shown-then c.args.self.now.net c.step.new.self c.args.self.now.shown.items c.note_changes.new.shown.items c.in_ok-step.ensures.plan c.in_ok-step.ensures.evaluated (was g c)
    c.in_ok-fits-in-Changes.ensures.renewed

pub returns-in_ok-fits-in-Changes-clause-noted : goal.returns-in_ok-fits-in-Changes-clause-noted
returns-in_ok-fits-in-Changes-clause-noted g c = λ all here run.
    let is : c.args.self.now.watch ≡ Changes = c.in-Changes.is in
    subst (λ watch. IsAfterTurn c.in_ok-fits-in-Changes.fits watch c.step.new.self c.note_changes.new.changes.items all c.args.now) (sym is)
    (turn-noted (record { stands = c.elements_law.ensures.stands }) c.args.self.now.net c.step.new.self c.args.self.now.shown.items c.note_changes.new.shown.items
    c.args.self.now.changes.items c.note_changes.new.changes.items c.args.now c.args.events.now c.in_ok-fits-in-Changes.fits
    c.in_ok-step.ensures.plan c.in_ok-step.ensures.stands (was g (goal.at.returns-in_ok-fits-in-Changes-clause-noted g c).In_ok-fits-in-Changes) (shown g (goal.at.returns-in_ok-fits-in-Changes-clause-noted g c).In_ok-fits-in-Changes) c.in_ok-fits-in-Changes.ensures.noted all here
    (subst (λ watch. RunStands watch c.args.self.now.net c.args.self.now.changes.items all c.args.now) is run))

pub returns-in_ok-fits-in-Changes-clause-late : goal.returns-in_ok-fits-in-Changes-clause-late
returns-in_ok-fits-in-Changes-clause-late g c = λ not_fit.
    let much = subst (λ fits. AreNoted fits c.step.new.self c.args.now c.args.self.now.shown.items c.note_changes.new.shown.items c.args.self.now.changes.items c.note_changes.new.changes.items)
    not_fit c.in_ok-fits-in-Changes.ensures.noted in
    turn-late c.step.new.self.plan c.args.now c.args.self.now.net.next c.args.self.now.shown.items c.note_changes.new.shown.items c.args.self.now.changes.items
    (shown g (goal.at.returns-in_ok-fits-in-Changes-clause-late g c).In_ok-fits-in-Changes).few c.requires.going.first c.requires.in_time.later much.many

pub returns-in-Nothing-clause-of_plan : goal.returns-in-Nothing-clause-of_plan
returns-in-Nothing-clause-of_plan g c =
    subst (λ (plan : Topology). All (IsChangeOf plan) c.args.self.now.changes.items) (sym c.in_ok-step.ensures.plan) c.requires.of_plan

pub returns-in_ok-fits-in-Changes-clause-of_plan : goal.returns-in_ok-fits-in-Changes-clause-of_plan
returns-in_ok-fits-in-Changes-clause-of_plan g c =
    noted-of-plan c.args.self.now.net c.step.new.self c.args.self.now.shown.items c.note_changes.new.shown.items c.args.self.now.changes.items c.note_changes.new.changes.items
    c.args.now c.in_ok-fits-in-Changes.fits c.in_ok-step.ensures.plan (shown g (goal.at.returns-in_ok-fits-in-Changes-clause-of_plan g c).In_ok-fits-in-Changes) c.in_ok-fits-in-Changes.ensures.noted c.requires.of_plan
