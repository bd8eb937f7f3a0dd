use Rattle.std.proofs.Common.{ap, ◌∙◌}
use Rattle.hex.specs.Hex.{encode_lower}
use Rattle.esmc_frame.specs.Frame.{written_frame}
use Rattle.node_replay.proofs.frames.frame_digits.Goals as goal

pub returns : goal.returns
returns c = c.digits_of.ensures ∙ ap (λ pdu. encode_lower (written_frame pdu)) c.carried.ensures.pdu
