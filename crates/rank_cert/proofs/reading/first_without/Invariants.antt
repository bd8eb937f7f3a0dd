use Rattle.std.proofs.Common.{◌≡◌, ◌-◌, ◌&&◌, find}
use Rattle.std.specs.Prelude.{is_none}
use Rattle.std.specs.List.{range_with_len}
use Rattle.sync_topo.specs.Lines.{line_count, is_nominated}
use Rattle.rank_cert.specs.Ranks.{rank_at}
use Rattle.rank_cert.specs.CertificateText.{first_without}
use Rattle.rank_cert.proofs.reading.first_without.Given as goal

abbrev pub invariant-loop-number : goal.invariant-loop-number
invariant-loop-number l =
    find (λ line. is_nominated l.plan line && is_none (rank_at l.cert line)) (range_with_len l.number (line_count l.plan - l.number)) ≡ first_without l.plan l.cert
