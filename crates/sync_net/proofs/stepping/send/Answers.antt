use Rattle.std.proofs.Common.{◌≡◌, refl, sym, ◌∙◌}
use Rattle.std.specs.Vec.{with_items}
use Rattle.std.proofs.lemmas.List.{with_items_is}
use Rattle.sync_net.proofs.stepping.send.Goals as goal

pub returns : goal.returns
returns c =
    let lines = c.args.parts.now.lines in
    let sent = rw (c.as_slice.ensures.value, c.as_mut_slice.ensures.value) at c.in_ok-send_lines.ensures.sent in
    let same : (with_items lines c.send_lines.new.lines).items ≡ c.send_lines.new.lines = with_items_is lines c.send_lines.new.lines (sent.lines_count ∙ sym lines.ok.0) in
    record {
      tables = record { next = refl; later_steps = refl };
      elements = refl;
      signals = refl;
      sources = refl;
      heards = refl;
      tellings = refl;
      called = refl;
      listed = c.listed-listed.ensures.all;
      sent = rw same sent;
    }
