use Rattle.node_file.proofs.HalfLemmas.{half_put}
use Rattle.node_file.proofs.reading.put_octets.Goals as goal

pub returns : goal.returns
returns c = half_put c.args.digits.now _ _ _ c.is_ok.result c.decode_to_slice.ensures.value c.requires c.is_ok.ensures.value
