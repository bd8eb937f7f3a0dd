-- The packets so far are those of the records that were gone through.
use Rattle.std.proofs.Common.{◌≡◌, ◌<◌, ◌≤◌, ◌+◌, length, drop, None, Some, sym, ap, ◌∙◌, arith}
use Rattle.std.proofs.lemmas.List.{length-drop}
use Rattle.std.proofs.lemmas.List.Elements.{All-push}
use Rattle.pcap_file.specs.declared.reading.Packet.{Packet}
use Rattle.pcap_file.specs.private.Pcap.{first_packet}
use Rattle.pcap_file.specs.private.Steps.{with_packets}
use Rattle.pcap_file.proofs.Packets.{so_far_more, at_end, refused_here}
use Rattle.pcap_file.proofs.reading.read_records.Goals as goal

pub returns-in_default-clause-exact : goal.returns-in_default-clause-exact
returns-in_default-clause-exact c =
    let left = drop c.loop-place.place c.args.bytes.now in
    let none : first_packet c.args.order c.loop-place.place left ≡ None = cc in
    let some : 0 < length left = omega (arith, length-drop c.loop-place.place c.args.bytes.now) in
    sym c.loop-place.invariant.so_far
    ∙ ap (with_packets c.loop-place.packets) (refused_here c.args.order (c.loop-place.number + 1) c.loop-place.place left some none)

pub loop-place-preserved : goal.loop-place-preserved
loop-place-preserved c =
    let left = drop c.loop-place.place c.args.bytes.now in
    let is : first_packet c.args.order c.loop-place.place left ≡ Some c.in-Some.packet = cc in
    let behind = c.in-Some.ensures.behind in
    let whole = c.in-Some.ensures.within in
    let size = length-drop c.loop-place.place c.args.bytes.now in
    let back = ap length c.split_at.ensures.back in
    let end : c.in-Some.packet.start + c.in-Some.packet.len ≤ length c.args.bytes.now = omega (arith, whole, size, back) in record {
      here = end;
      counted = omega (arith, behind);
      so_far = rw c.in_ok-push.ensures.ok (so_far_more c.args.order (c.loop-place.number + 1) c.loop-place.place c.args.bytes.now c.loop-place.packets c.in-Some.packet _ c.loop-place.invariant.so_far is behind);
      within = rw c.in_ok-push.ensures.ok (All-push (λ (packet : Packet). packet.start + packet.len ≤ length c.args.bytes.now) c.loop-place.packets c.in-Some.packet c.loop-place.invariant.within end);
    }

pub returns-clause-exact : goal.returns-clause-exact
returns-clause-exact c = at_end c.args.order _ c.loop-place.place c.args.bytes.now c.loop-place.packets _ c.loop-place.invariant.so_far (omega arith)
