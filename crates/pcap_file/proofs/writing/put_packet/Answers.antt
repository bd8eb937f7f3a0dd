-- What a record adds to a capture.
use Rattle.std.proofs.Common.{◌≡◌, ◌++◌, ℕ, List, [], ◌∷◌, Result, Ok, Err, sym, subst, arith, OnOk}
use Rattle.sync_text.specs.declared.errors.NoMemory.{NoMemory}
use Rattle.pcap_file.specs.Pcap.{octets_of}
use Rattle.pcap_file.specs.Written.{written_record, written_packet, IsLittleCapture}
use Rattle.pcap_file.proofs.Captures.{little_written, frame_there}
use Rattle.pcap_file.proofs.writing.put_packet.Goals as goal

-- what holds of the text that is wanted holds after a put that was not refused
on_put : (P : List ℕ → Type 0) (result : Result (Unit {0}) NoMemory) (new wanted : List ℕ) → OnOk result (new ≡ wanted) → P wanted → OnOk result (P new)
on_put P (Ok done) new wanted is holds = subst P (sym is) holds
on_put P (Err refused) new wanted is holds = tt

pub returns-clause-ok : goal.returns-clause-ok
unfolding written_record
returns-clause-ok c =
    subst (λ (head : List ℕ). OnOk c.put_made.result (c.put_made.new.out ≡ c.args.out.now ++ (head ++ c.args.frame.now))) c.head_of-head.ensures c.put_made.ensures.ok

pub returns-clause-added : goal.returns-clause-added
returns-clause-added c = λ packets capture.
    on_put (λ text. IsLittleCapture text (packets ++ written_packet c.args.sec c.args.usec c.args.out.now c.args.frame.now ∷ [])) c.put_made.result c.put_made.new.out _ (returns-clause-ok c)
    (little_written c.args.sec c.args.usec c.args.out.now c.args.frame.now packets (omega arith) (omega arith) (omega arith) capture)

pub returns-clause-frame : goal.returns-clause-frame
returns-clause-frame c =
    on_put (λ text. octets_of text (written_packet c.args.sec c.args.usec c.args.out.now c.args.frame.now) ≡ c.args.frame.now) c.put_made.result c.put_made.new.out _ (returns-clause-ok c)
    (frame_there c.args.sec c.args.usec c.args.out.now c.args.frame.now)
