use Rattle.std.proofs.Common.{refl}
use Rattle.pcap_file.specs.Pcap.{number_at, packets_from}
use Rattle.pcap_file.proofs.writing.put_head.Goals as goal

pub returns-clause-capture : goal.returns-clause-capture
unfolding number_at packets_from
returns-clause-capture c = record { little = refl; packets_are = refl }
