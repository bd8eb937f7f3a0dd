use Rattle.std.proofs.Common.{◌++◌, ◌∷◌, ◌+◌, [], map, ap, sym, subst, ◌∙◌}
use Rattle.std.specs.Prelude.{is_some}
use Rattle.std.proofs.lemmas.List.{map-append}
use Rattle.std.proofs.lemmas.Result.{on_ok_weaker}
use Rattle.net_rules.specs.Walks.{Taken}
use Rattle.closed_walks.specs.Taking.{taken_in_list}
use Rattle.sync_topo.specs.Lines.{numbers}
use Rattle.closed_walks.specs.private.Listing.{AreListed}
use Rattle.closed_walks.proofs.KnownLaws.{taken-own}
use Rattle.closed_walks.proofs.LoopLaws.{listed-skip, listed-one}
use Rattle.closed_walks.proofs.listing.list_from.Goals as goal

pub returns-in_ok-walk-in-Some : goal.returns-in_ok-walk-in-Some
returns-in_ok-walk-in-Some c =
    let plan = c.args.plan.now in
    let taken : Taken = taken_in_list c.args.taken.now in
    let walk = c.in_ok-walk-in-Some.walk in
    let one : AreListed plan taken (c.args.line.0 + 1) c.walk_from.new.listed (map numbers c.args.walks.now ++ numbers walk ∷ []) =
    listed-one plan taken (taken-own plan c.args.taken.now c.requires.taken) c.args.line.0 c.in-Some.count c.args.listed.now c.walk_from.new.listed (map numbers c.args.walks.now) (numbers walk)
    c.requires.listed c.in-Some.ensures.takes c.in-Some.ensures.comes c.in-Some.ensures.new c.in_ok-walk-in-Some.ensures.marked c.in_ok-walk-in-Some.ensures.walk in
    on_ok_weaker c.push.result
    (λ more. subst (AreListed plan taken (c.args.line.0 + 1) c.walk_from.new.listed) (sym (ap (map numbers) more ∙ map-append numbers c.args.walks.now (walk ∷ []))) one)
    c.push.ensures.ok

pub returns-in-None : goal.returns-in-None
returns-in-None c =
    listed-skip c.args.plan.now (taken_in_list c.args.taken.now) (taken-own c.args.plan.now c.args.taken.now c.requires.taken) c.args.line.0 c.args.listed.now (map numbers c.args.walks.now)
    c.requires.listed (c.begins.ensures.none (ap is_some c.in-None.is))
