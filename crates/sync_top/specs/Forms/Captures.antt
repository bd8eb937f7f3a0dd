-- The answers to `decode` and `encode`, and to `pcap-decode` and `pcap-encode`.
use Rattle.std.specs.Prelude.{ℕ, List, codes, Some, None, Result}
use Rattle.sync_top.specs.declared.status.Status.{Status}
use Rattle.sync_top.specs.declared.status.Status.TheVariants.{BadFrames}
use Rattle.capture_text.specs.Numbers.{numbers_of as capture_numbers}
use Rattle.capture_text.specs.declared.error.CaptureErr.{CaptureErr}
use Rattle.pcap_file.specs.declared.error.PcapErr.{PcapErr}
use Rattle.pcap_file.specs.Refusal.{numbers_of as pcap_numbers}
use Rattle.sync_top.specs.Reading.{OrRefused, numbered_refusal, IsText}

-- the line on the first captured frame or row that is refused
abbrev pub capture_refusal : CaptureErr → List ℕ
capture_refusal refused = numbered_refusal (codes "bad frames ") (capture_numbers refused).0 (Some (capture_numbers refused).1) (capture_numbers refused).2

-- the answer to captured frames or rows: the text that they give, or the line on the first that is refused
abbrev pub IsCaptured : Result (List ℕ) CaptureErr → Status → List ℕ → Type 0
IsCaptured made status text = OrRefused IsText BadFrames capture_refusal made status text

-- the line on the first thing that is wrong with a capture
abbrev pub pcap_refusal : PcapErr → List ℕ
pcap_refusal refused = numbered_refusal (codes "bad capture ") (pcap_numbers refused).0 (pcap_numbers refused).1 None

-- the answer to a capture: the rows that it gives, or the line on the first thing that is wrong with it
abbrev pub IsCapture : Result (List ℕ) PcapErr → Status → List ℕ → Type 0
IsCapture made status text = OrRefused IsText BadFrames pcap_refusal made status text
