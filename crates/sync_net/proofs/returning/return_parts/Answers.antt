use Rattle.std.proofs.Common.{◌≡◌, rules, refl, sym, ap, subst, ◌∙◌, length}
use Rattle.std.proofs.lemmas.List.{with_items_is}
use Rattle.sync_net.specs.private.Copied.{AreRenewed, IsElementDue, IsLineDue}
use Rattle.sync_net.proofs.GoingBack.{dues_back}
use Rattle.sync_net.proofs.returning.return_parts.Goals as goal

pub returns : goal.returns
returns c =
    let parts = c.args.parts.now in
    let base = c.args.base.now in
    let elements : c.return_elements.new.elements ≡ base.elements.items = c.in_ok-return_elements.ensures ∙ c.as_slice.ensures.value in
    let lines : c.return_lines.new.lines ≡ base.lines.items = c.in_ok-return_lines.ensures ∙ c.as_slice-2.ensures.value in
    let signals : c.return_places.new.items ≡ base.signals.items = c.return_places.ensures ∙ c.as_slice-5.ensures.value in
    let heards : c.return_places-2.new.items ≡ base.heards.items = c.return_places-2.ensures ∙ c.as_slice-6.ensures.value in
    let sources : c.return_places-3.new.items ≡ base.sources.items = c.return_places-3.ensures ∙ c.as_slice-7.ensures.value in
    record {
      next = refl;
      later_steps = refl;
      elements = with_items_is parts.elements c.return_elements.new.elements (ap length elements ∙ sym c.requires.elements.count ∙ sym parts.elements.ok.0) ∙ elements;
      lines = with_items_is parts.lines c.return_lines.new.lines (ap length lines ∙ sym c.requires.lines.count ∙ sym parts.lines.ok.0) ∙ lines;
      signals = with_items_is parts.signals c.return_places.new.items (ap length signals ∙ sym c.requires.signals.count ∙ sym parts.signals.ok.0) ∙ signals;
      sources = with_items_is parts.sources c.return_places-3.new.items (ap length sources ∙ sym c.requires.sources.count ∙ sym parts.sources.ok.0) ∙ sources;
      heards = with_items_is parts.heards c.return_places-2.new.items (ap length heards ∙ sym c.requires.heards.count ∙ sym parts.heards.ok.0) ∙ heards;
      dues = dues_back c.args.plan.now parts base c.args.elements.now c.args.lines.now c.renew_element_dues.new.dues c.renew_line_dues.new.dues
          c.requires.whole c.requires.base_whole c.requires.elements_within c.requires.elements c.requires.lines
          (subst (λ xs. AreRenewed 0 c.args.elements.now (IsElementDue xs) parts.dues c.renew_element_dues.new.dues) c.as_slice-3.ensures.value c.renew_element_dues.ensures)
          (subst (λ n. AreRenewed n c.args.lines.now (IsLineDue base.lines.items) c.renew_element_dues.new.dues c.renew_line_dues.new.dues) c.elements.ensures.count
          (subst (λ xs. AreRenewed c.elements.result c.args.lines.now (IsLineDue xs) c.renew_element_dues.new.dues c.renew_line_dues.new.dues) c.as_slice-4.ensures.value c.renew_line_dues.ensures));
      changes = refl;
      active = search rules;
      called = search rules;
    }
