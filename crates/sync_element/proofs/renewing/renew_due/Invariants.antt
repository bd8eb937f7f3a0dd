use Rattle.std.proofs.Common.{◌≡◌, ◌<◌, ℕ, IfSome, List, length}
use Rattle.sync_ql.specs.declared.rules.Candidate.{Candidate}
use Rattle.sync_element.specs.declared.watched.Watched.{Watched}
use Rattle.agenda.specs.DueTimes.{due_in}
use Rattle.sync_element.specs.private.Renewing.{CanRenew, AreRenewed, AreKept}
use Rattle.sync_element.specs.Whole.{inputs_kept}
use Rattle.sync_element.proofs.renewing.renew_due.Given as goal

-- the inputs up to here are renewed where they have to be
abbrev pub invariant-loop-i : goal.invariant-loop-i
invariant-loop-i l = record {
  can : CanRenew l.now l.config.own.option (inputs_kept l.inputs);
  count : length l.inputs.watched.items ≡ length l.fn.inputs.watched.items;
  passed : (k : ℕ) → k < l.i → IfSome (due_in (inputs_kept l.inputs).dues k) (λ due. l.now < due);
  kept : (told : List Watched) (before : List Candidate) → AreRenewed (record { now = l.now; switches = l.commands; floor = l.config.floor }) told before (inputs_kept l.fn.inputs) → AreKept (record { now = l.now; switches = l.commands; floor = l.config.floor }) told before (inputs_kept l.fn.inputs) (inputs_kept l.inputs);
}
