use Rattle.std.proofs.Common.{rules, ◌≡◌, ◌<◌, ◌++◌, ◌^◌, [], ◌∷◌, length, Some, None, sym, subst, ap, ◌∙◌, arith}
use Rattle.std.specs.List.{cons_option}
use Rattle.std.proofs.lemmas.Bool.{eqb-true}
use Rattle.std.proofs.lemmas.List.{append-nil}
use Rattle.esmc_frame.specs.Frame.{written_frame}
use Rattle.pcap_file.specs.declared.encoding.Timed.{Timed}
use Rattle.pcap_file.specs.Timed.{timed_of}
use Rattle.pcap_file.specs.Written.{written_record}
use Rattle.pcap_file.specs.private.WrittenSoFar.{IsWrittenSoFar}
use Rattle.pcap_file.proofs.FramesOf.{no-octets, no-row, one-written}
use Rattle.pcap_file.proofs.encoding.put_record_of.Goals as goal

-- an empty line says nothing
pub returns-then-is_empty-clause-captured : goal.returns-then-is_empty-clause-captured
returns-then-is_empty-clause-captured c = λ rows so_far.
    let empty : c.args.line.now ≡ [] = no-octets c.args.line.now (eqb-true (length c.args.line.now) 0 (sym c.is_empty.ensures ∙ c.if-is_empty.true)) in
    let none : timed_of c.args.option c.args.line.now ≡ None = ap (timed_of c.args.option) empty ∙ no-row c.args.option in
    subst (λ more. IsWrittenSoFar (rows ++ cons_option more []) c.args.text.now) (sym none)
    (subst (λ all. IsWrittenSoFar all c.args.text.now) (sym (append-nil rows)) so_far)

pub returns-clause-captured : goal.returns-clause-captured
returns-clause-captured c = λ rows so_far.
    let timed : Timed = c.in-Some.timed in
    let frame : c.encode.new.out ≡ written_frame timed.pdu = c.encode.ensures.written in
    let said : timed_of c.args.option c.args.line.now ≡ Some timed = search rules in
    let put : c.put_packet.new.out ≡ c.args.text.now ++ written_record timed.sec timed.usec (written_frame timed.pdu) =
    c.in_ok-put_packet.ensures.ok ∙ ap (λ octets. c.args.text.now ++ written_record timed.sec timed.usec octets) frame in
    let long : length (written_frame timed.pdu) < 2 ^ 32 = omega (arith, ap length frame, c.encode.array_long) in
    subst (λ more. IsWrittenSoFar (rows ++ cons_option more []) c.put_packet.new.out) (sym said)
    (subst (IsWrittenSoFar (rows ++ timed ∷ [])) (sym put) (one-written rows c.args.text.now timed so_far (omega arith) (omega arith) long))
