use Rattle.std.proofs.Common.{◌≡◌, List, drop, length}
use Rattle.sync_ql.specs.declared.rules.Candidate.{Candidate}
use Rattle.sync_element.specs.declared.watched.Watched.{Watched}
use Rattle.sync_element.specs.private.Renewing.{CanRenew, AreRenewed, AreTaken}
use Rattle.sync_element.specs.Whole.{inputs_kept}
use Rattle.sync_element.proofs.renewing.renew_told.Given as goal

-- each input that an event up to here touches is renewed
abbrev pub invariant-loop-event : goal.invariant-loop-event
invariant-loop-event l = record {
  can : CanRenew l.now l.config.own.option (inputs_kept l.inputs);
  count : length l.inputs.watched.items ≡ length l.fn.inputs.watched.items;
  taken : (told : List Watched) (before : List Candidate) → AreRenewed (record { now = l.now; switches = l.commands; floor = l.config.floor }) told before (inputs_kept l.fn.inputs) → AreTaken (record { now = l.now; switches = l.commands; floor = l.config.floor }) told before l.told (drop l.event-index l.told) (inputs_kept l.inputs);
}
