-- The text so far, and that of one more line.
use Rattle.std.proofs.Common.{◌≡◌, ◌+◌, ◌++◌, [], Ok, rules, sym, ap, subst, ◌∙◌}
use Rattle.std.specs.List.{cons_option, filter_map}
use Rattle.std.proofs.lemmas.List.{append-nil}
use Rattle.capture_text.specs.Capture.{text_of_lines}
use Rattle.capture_text.specs.private.Steps.{with_front}
use Rattle.capture_text.proofs.TextLemmas.{with_line}
use Rattle.pcap_file.specs.Timed.{timed_of, record_of_line}
use Rattle.pcap_file.specs.CaptureOf.{timed_rows, IsCaptureOf}
use Rattle.pcap_file.specs.Written.{written_head}
use Rattle.pcap_file.specs.private.WrittenSoFar.{IsWrittenSoFar}
use Rattle.pcap_file.proofs.FramesOf.{none-written, next-row, capture-of}
use Rattle.pcap_file.proofs.encoding.encode_pcap.Goals as goal

-- the header is a capture of none of the rows
pub loop-number-init : goal.loop-number-init
loop-number-init c = record {
  whole = search rules;
  rows = [];
  written = subst (IsWrittenSoFar []) (sym (c.in_ok-put_head.ensures.ok ∙ ap (λ front. front ++ written_head) c.new-text.ensures)) (none-written c.put_head.ensures.capture);
  left = search rules;
}

pub loop-number-preserved : goal.loop-number-preserved
loop-number-preserved c =
    let before = c.loop-number.invariant in
    let line = c.in-Some.ensures.line in
    let next : c.next_line.new.self.number ≡ c.loop-number.lines.number + 1 = sym c.in-Some.ensures.counts ∙ c.in-Some.ensures.number in
    let put : with_front c.loop-number.text (record_of_line c.args.option (c.loop-number.lines.number + 1) c.in-Some.line.now) ≡ Ok c.put_record_of.new.text =
    ap (λ n. with_front c.loop-number.text (record_of_line c.args.option n c.in-Some.line.now)) (sym c.in-Some.ensures.number) ∙ c.in_ok-put_record_of.ensures.put in
    record {
      whole = ap (λ n. with_front c.put_record_of.new.text (text_of_lines (record_of_line c.args.option) (n + 1) c.next_line.new.self.lines)) next
          ∙ sym (with_line (record_of_line c.args.option) (c.loop-number.lines.number + 1) c.in-Some.line.now c.next_line.new.self.lines c.loop-number.text c.put_record_of.new.text put)
          ∙ ap (λ lines. with_front c.loop-number.text (text_of_lines (record_of_line c.args.option) (c.loop-number.lines.number + 1) lines)) (sym line)
          ∙ before.whole;
      rows = before.rows ++ cons_option (timed_of c.args.option c.in-Some.line.now) [];
      written = c.in_ok-put_record_of.ensures.captured before.rows before.written;
      left = next-row (timed_of c.args.option) before.rows c.in-Some.line.now c.next_line.new.self.lines
          ∙ ap (λ lines. before.rows ++ filter_map (timed_of c.args.option) lines) (sym line)
          ∙ before.left;
    }

pub returns-clause-capture : goal.returns-clause-capture
returns-clause-capture c =
    let before = c.loop-number.invariant in
    let all : before.rows ≡ timed_rows c.args.option c.args.bytes.now =
    sym (append-nil before.rows) ∙ ap (λ lines. before.rows ++ filter_map (timed_of c.args.option) lines) (sym c.in_default.ensures.none) ∙ before.left in
    subst (λ rows. IsCaptureOf rows c.loop-number.text) all (capture-of before.rows c.loop-number.text before.written)
