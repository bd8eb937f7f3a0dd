use Rattle.std.proofs.Common.{◌<◌, length, sym, subst}
use Rattle.std.specs.Prelude.{IfOk}
use Rattle.sync_topo.specs.Topology.{Topology}
use Rattle.sync_topo.specs.Lines.{receiver_of}
use Rattle.sync_topo.specs.Hops.{IsRising}
use Rattle.sync_top.specs.Forms.Trial.{IsTrialText}
use Rattle.sync_top.proofs.LadderRises.{ladder_rises}
use Rattle.sync_top.proofs.RunLaws.{has_link}
use Rattle.sync_top.proofs.trial.trial_text.Goals as goal

pub tried-requires : goal.tried-requires
tried-requires c = record {
  leads_up = subst (λ (p : Topology). IsRising p (receiver_of p)) (sym c.in_ok-plan.ensures.ladder) (ladder_rises c.args.elements);
  link = subst (λ (p : Topology). 0 < length p.links) (sym c.in_ok-plan.ensures.ladder) (has_link c.args.elements c.requires.least);
}

pub returns : goal.returns
returns c = record {
  text = subst (λ (p : Topology). IfOk c.tried.result (IsTrialText c.args.elements p)) c.in_ok-plan.ensures.ladder c.tried.ensures.text;
}
