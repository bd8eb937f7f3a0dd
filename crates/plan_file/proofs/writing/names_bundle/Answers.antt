use Rattle.std.proofs.Common.{◌≡◌, slice_get, ap, sym, ◌∙◌, inl, inr, arith}
use Rattle.std.specs.Prelude.{is_some}
use Rattle.std.proofs.lemmas.Bool.{cases_lt}
use Rattle.std.proofs.lemmas.Option.{same_Some, slice_get_within}
use Rattle.sync_topo.specs.declared.link.Link.{Link}
use Rattle.sync_topo.proofs.BundleRules.{list_any-at, list_any-none}
use Rattle.plan_file.proofs.writing.names_bundle.Goals as goal

pub returns-then-is_some : goal.returns-then-is_some
returns-then-is_some c =
    sym (list_any-at (λ (link : Link). is_some link.bundle) c.args.plan.now.links c.loop-link.link c.link.result.now c.link.ensures.link (sym c.is_some.ensures ∙ c.if-is_some.true))

pub loop-link-preserved : goal.loop-link-preserved
loop-link-preserved c = λ i link before at.
    elim (cases_lt i c.loop-link.link) [
      | inl earlier ↦ c.loop-link.invariant i link earlier at
      | inr here ↦
          let same : i ≡ c.loop-link.link = omega (arith, before) in
          let is : c.link.result.now ≡ link = same_Some _ _ (sym c.link.ensures.link ∙ ap (slice_get c.args.plan.now.links) (sym same) ∙ at) in
          ap (λ (l : Link). is_some l.bundle) (sym is) ∙ sym c.is_some.ensures ∙ c.if-is_some.false
    ]

pub returns : goal.returns
returns c =
    sym (list_any-none (λ (link : Link). is_some link.bundle) c.args.plan.now.links
    (λ i link at. c.loop-link.invariant i link (omega (arith, slice_get_within c.args.plan.now.links i link at, c.links-link-end.ensures.count)) at))
