use Rattle.node_file.proofs.LineCuts.{octets_read}
use Rattle.hex.specs.Hex.{decode_of}
use Rattle.std.proofs.Common.{◌∙◌}
use Rattle.node_file.proofs.reading.frame_said.Goals as goal

pub returns-clause-said : goal.returns-clause-said
returns-clause-said c =
    c.word_of_frame.ensures.said
    ∙ octets_read c.args.number c.args.option c.args.line (decode_of c.args.digits.now) c.put_octets.result _ c.put_octets.ensures cc
