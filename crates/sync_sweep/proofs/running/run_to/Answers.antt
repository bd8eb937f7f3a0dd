use Rattle.std.proofs.Common.{◌≡◌, ◌+◌, ◌-◌, ℕ, List, length, ap, sym, subst, ◌∙◌, arith}
use Rattle.sync_topo.specs.Topology.{Topology}
use Rattle.sync_net.specs.NetState.{NetState}
use Rattle.sync_net.specs.Standing.{StandsFor}
use Rattle.sync_sweep.specs.declared.spells.Spell.{Spell}
use Rattle.sync_sweep.specs.OnWay.{IsOnWay}
use Rattle.sync_sweep.specs.private.Branching.{IsBranch, AreMarksOf}
use Rattle.sync_sweep.specs.private.ShownNow.{AreShown}
use Rattle.sync_sweep.specs.private.Spells.{AreNone, AreNoneBut, AreNoneUnmarked, AreCountedSo, IsWayOf}
use Rattle.sync_sweep.proofs.SpellLemmas.{begun, none-but, none-unmarked, own-branch}
use Rattle.sync_sweep.proofs.TimedLemmas.{written}
use Rattle.sync_sweep.proofs.WayLemmas.{way-is}
use Rattle.sync_sweep.proofs.running.run_to.Goals as goal

pub returns-clause-run : goal.returns-clause-run
returns-clause-run c =
    let before = c.args.branch.now in
    let ran = c.run_events.new.branch in
    let after = c.show.new.branch in
    let run = c.in_ok-run_events.ensures in
    let net : after.net ≡ ran.net = c.show.ensures.net in
    let touched : after.touched ≡ ran.touched = c.show.ensures.touched in
    let plan : after.net.plan ≡ before.net.plan = ap (λ n. n.plan) net ∙ c.run_events.ensures.plan in
    let marked : IsBranch before.net ran.net ran.touched = run.branch before.net (own-branch before.net before.touched c.requires.branch.marks) in
    let spells : List Spell = ran.spells.items in
    let unmarked : AreNoneUnmarked ran.touched spells =
    run.unmarked (none-unmarked (length before.net.plan.elements) before.touched before.spells.items c.requires.branch.spells) in
    let but : AreNoneBut c.listed.result.now spells =
    subst (λ places. AreNoneBut places spells) (sym c.listed.ensures.listed) (none-but ran.touched spells c.listed.ensures.all unmarked) in
    let none : AreNone (length spells) c.take_way-way.new.spells =
    subst (λ list. AreNone (length list) c.take_way-way.new.spells) c.as_mut_slice.ensures.value
    (c.take_way-way.ensures.none (subst (AreNoneBut c.listed.result.now) (sym c.as_mut_slice.ensures.value) but)) in
    let many : length spells ≡ length after.net.plan.elements =
    c.run_events.ensures.spells ∙ c.requires.branch.spells.count ∙ ap (λ (p : Topology). length p.elements) (sym plan) in
    record {
      plan = plan;
      ready = record {
        live = ap (λ n. n.spent) net ∙ run.live;
        next = ap (λ n. n.next) net ∙ run.next;
        elements = omega (arith, c.requires.branch.elements, ap (λ (p : Topology). length p.elements) plan);
        marks = subst (AreMarksOf after.net.plan) (sym touched) (subst (λ (p : Topology). AreMarksOf p ran.touched) (sym plan) marked.marks);
        shown = c.show.ensures.shown before.net marked (subst (AreShown before.net) (sym c.run_events.ensures.shown) c.requires.branch.shown);
        spells =
            let same : after.spells.items ≡ c.take_way-way.new.spells =
            ap (λ v. v.items) c.show.ensures.spells
            ∙ written ran.spells.len c.take_way-way.new.spells spells (omega (arith, c.take_way-way.ensures.count, c.as_mut_slice.ensures.len, ap length c.as_mut_slice.ensures.value)) in
            subst (AreNone (length after.net.plan.elements)) (sym same) (subst (λ n. AreNone n c.take_way-way.new.spells) many none);
      };
      stands = λ all told stood. subst (λ (n : NetState). StandsFor n all (c.args.until + 1)) (sym net) (run.stands all told stood);
      branch = λ base is. subst (λ (n : NetState). IsBranch base n after.touched) (sym net) (subst (IsBranch base ran.net) (sym touched) (run.branch base is));
    }

pub returns-clause-way : goal.returns-clause-way
returns-clause-way c = λ all stepped told stands.
    let net = c.args.branch.now.net in
    let plan : Topology = net.plan in
    let after = c.run_events.new.branch.net in
    let levels = c.args.branch.now.shown.levels in
    let from : ℕ = c.args.from in
    let until : ℕ = c.args.until in
    let before : List Spell = c.args.branch.now.spells.items in
    let spells : List Spell = c.run_events.new.branch.spells.items in
    let law = c.elements_law.ensures.stands in
    let none : AreNone (length plan.elements) before = c.requires.branch.spells in
    let unmarked : AreNoneUnmarked c.run_events.new.branch.touched spells =
    c.in_ok-run_events.ensures.unmarked (none-unmarked (length plan.elements) c.args.branch.now.touched before none) in
    let but : AreNoneBut c.listed.result.now spells =
    subst (λ places. AreNoneBut places spells) (sym c.listed.ensures.listed) (none-but c.run_events.new.branch.touched spells c.listed.ensures.all unmarked) in
    let way : IsWayOf spells (until + 1) c.take_way-way.result =
    subst (λ list. IsWayOf list (until + 1) c.take_way-way.result) c.as_mut_slice.ensures.value
    (c.take_way-way.ensures.way (subst (AreNoneBut c.listed.result.now) (sym c.as_mut_slice.ensures.value) but)) in
    let counted : AreCountedSo after levels all (from - 1) (until + 1) spells =
    c.in_ok-run_events.ensures.counted all (from - 1) told stands (begun law net levels all from before c.element-element.result.now stepped stands c.requires.branch.shown.levels none) in
    let many : length spells ≡ length after.plan.elements = c.run_events.ensures.spells ∙ none.count ∙ ap (λ (p : Topology). length p.elements) (sym c.run_events.ensures.plan) in
    subst (λ (p : Topology). IsOnWay p all (from - 1) until c.take_way-way.result) c.run_events.ensures.plan
    (way-is law after levels all (from - 1) until spells c.take_way-way.result many (c.in_ok-run_events.ensures.stands all told stands) counted way)
