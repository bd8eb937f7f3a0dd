use Rattle.std.proofs.Common.{◌≡◌, Option, map}
use Rattle.std.specs.Prelude.{IfSome}
use Rattle.std.specs.String.{string_bytes}
use Rattle.sync_edge.specs.Contents.{Contents}
use Rattle.sync_topo.specs.Topology.{Topology}
use Rattle.net_rules.specs.Safety.{IsLoopFree}
use Rattle.reach_rules.specs.Protection.{IsProtected}
use Rattle.protection.specs.Orderly.{IsFound}
use Rattle.sync_top.specs.declared.status.Status.TheVariants.{Done}
use Rattle.sync_top.specs.Form.{Form, form_of}
use Rattle.sync_top.specs.Answer.{outside_of, IsAnswer}
use Rattle.sync_top.specs.LoopFree.{IsCheckedLoopFree}
use Rattle.sync_top.specs.Forms.Priority.{IsCheckedForPriority}
use Rattle.sync_top.specs.ChainBounds.{IsBoundedByChains}
use Rattle.sync_top.specs.Protection.{IsHoldingOut}
use Rattle.sync_top.specs.Agreement.{IsComingToRest}
use Rattle.sync_top.specs.Survival.{Protects, IsSurvivor}
use Rattle.sync_top.proofs.Cuts.{cut-from}
use Rattle.sync_top.proofs.Endings.{done-from}
use Rattle.sync_top.proofs.LoopFree.{form-loop_free, form-never_loops, form-bounds, form-holds_out, form-rests}
use Rattle.sync_top.proofs.Surviving.{form-protects, found-loop_free, found-survives}
use Rattle.sync_top.proofs.program.run.Given.{Over}
use Rattle.sync_top.proofs.program.run.Goals as goal
use Rattle.sync_top.proofs.program.run.Goals.{In-Ok-write_all}

pub returns-clause-cut : goal.returns-clause-cut
returns-clause-cut g c = λ fault.
    let F = g.F.Folder in let K = g.K.Sink in
    cut-from (map string_bytes c.args.words.now) (F.contents c.args.folder.now) (F.steady c.args.folder.now) (F.faults c.args.folder.now) (F.faults c.reply_to.new.folder)
    (K.written c.args.sink.now) (K.written c.write_all.new.sink) c.in-Ok.reply.status c.in-Ok.reply.text
    c.in-Ok.ensures.ends (rw c.bytes.ensures at c.in-Err.ensures.front)

-- what the words ask for, and what follows where its answer is done
abbrev form : (g : Over) → In-Ok-write_all g → Option Form
form g c = form_of (map string_bytes c.args.words.now)

done : (g : Over) (c : In-Ok-write_all g) (P : Contents → Type 0) → ((files : Contents) → IsAnswer (map string_bytes c.args.words.now) files Done c.in-Ok.reply.text → P files)
    → c.in-Ok.reply.status ≡ Done → IfSome (g.F.Folder.contents c.args.folder.now) P
done g c P follows =
    let F = g.F.Folder in
    done-from P (map string_bytes c.args.words.now) (outside_of F.contents F.steady F.faults c.args.folder.now c.reply_to.new.folder) c.in-Ok.reply.status c.in-Ok.reply.text
    follows c.in-Ok.ensures.ends

pub returns-in-Ok-write_all-clause-accepted_is_loop_free : goal.returns-in-Ok-write_all-clause-accepted_is_loop_free
returns-in-Ok-write_all-clause-accepted_is_loop_free g c =
    let end = (goal.at.returns-in-Ok-write_all-clause-accepted_is_loop_free g c).In-Ok-write_all in
    done g end (IsCheckedLoopFree (form g end)) (λ files. form-loop_free (form g end) files c.in-Ok.reply.text)

pub returns-in-Ok-write_all-clause-accepted_never_loops : goal.returns-in-Ok-write_all-clause-accepted_never_loops
returns-in-Ok-write_all-clause-accepted_never_loops g c =
    let end = (goal.at.returns-in-Ok-write_all-clause-accepted_never_loops g c).In-Ok-write_all in
    done g end (IsCheckedForPriority (form g end)) (λ files. form-never_loops (form g end) files c.in-Ok.reply.text)

pub returns-in-Ok-write_all-clause-chains_are_bounds : goal.returns-in-Ok-write_all-clause-chains_are_bounds
returns-in-Ok-write_all-clause-chains_are_bounds g c =
    let end = (goal.at.returns-in-Ok-write_all-clause-chains_are_bounds g c).In-Ok-write_all in
    done g end (IsBoundedByChains (form g end)) (λ files. form-bounds (form g end) files c.in-Ok.reply.text)

pub returns-in-Ok-write_all-clause-protected_holds_out : goal.returns-in-Ok-write_all-clause-protected_holds_out
returns-in-Ok-write_all-clause-protected_holds_out g c =
    let end = (goal.at.returns-in-Ok-write_all-clause-protected_holds_out g c).In-Ok-write_all in
    done g end (IsHoldingOut (form g end)) (λ files. form-holds_out (form g end) files c.in-Ok.reply.text)

pub returns-in-Ok-write_all-clause-agreed_comes_to_rest : goal.returns-in-Ok-write_all-clause-agreed_comes_to_rest
returns-in-Ok-write_all-clause-agreed_comes_to_rest g c =
    let end = (goal.at.returns-in-Ok-write_all-clause-agreed_comes_to_rest g c).In-Ok-write_all in
    done g end (IsComingToRest (form g end)) (λ files. form-rests (form g end) files c.in-Ok.reply.text)

protects : (g : Over) (c : In-Ok-write_all g) (P : Topology → Type 0) → ((plan found : Topology) → IsFound plan found → IsProtected found → P found)
    → c.in-Ok.reply.status ≡ Done
    → IfSome (g.F.Folder.contents c.args.folder.now) (Protects P (form g c) (g.K.Sink.written c.args.sink.now) (g.K.Sink.written c.write_all.new.sink))
protects g c P holds =
    let old = g.K.Sink.written c.args.sink.now in
    let new = g.K.Sink.written c.write_all.new.sink in
    done g c (Protects P (form g c) old new) (λ files. form-protects P holds old new (form g c) files c.in-Ok.reply.text (rw c.bytes.ensures at c.in-Ok-write_all.ensures.ok))

pub returns-in-Ok-write_all-clause-protected_plan_is_loop_free : goal.returns-in-Ok-write_all-clause-protected_plan_is_loop_free
returns-in-Ok-write_all-clause-protected_plan_is_loop_free g c =
    let end = (goal.at.returns-in-Ok-write_all-clause-protected_plan_is_loop_free g c).In-Ok-write_all in
    protects g end IsLoopFree found-loop_free

pub returns-in-Ok-write_all-clause-protected_plan_survives : goal.returns-in-Ok-write_all-clause-protected_plan_survives
returns-in-Ok-write_all-clause-protected_plan_survives g c =
    let end = (goal.at.returns-in-Ok-write_all-clause-protected_plan_survives g c).In-Ok-write_all in
    protects g end IsSurvivor found-survives
