use Rattle.std.proofs.Common.{◌≡◌, ◌∙◌, None, Ok, sym, ap}
use Rattle.std.specs.Option.{option_map}
use Rattle.sync_topo.specs.declared.input.LineId.{LineId}
use Rattle.rank_cert.specs.CertificateText.{first_without}
use Rattle.rank_cert.proofs.Certificates.{certificate-of, line-missing, IsRanked-complete, RanksNoOther-from}
use Rattle.rank_cert.proofs.reading.cert_of.Goals as goal

pub returns-in-Some-clause-exact : goal.returns-in-Some-clause-exact
returns-in-Some-clause-exact c =
    let header = rw c.taken.ensures at (sym c.is_header.ensures ∙ c.if-not-is_header.false) in
    rw (c.in_ok-advance.ensures.found (ap Ok c.if-not-branch.false))
    (line-missing c.args.plan.now c.advance.new.self.taken c.advance.new.self.left c.take_rows.new.cert c.in-Some.line header
    c.in-Ok.ensures.sound c.in-Ok.ensures.taken c.in-Some.ensures)

pub returns-in-None-clause-exact : goal.returns-in-None-clause-exact
returns-in-None-clause-exact c =
    let header = rw c.taken.ensures at (sym c.is_header.ensures ∙ c.if-not-is_header.false) in
    let lacks : first_without c.args.plan.now c.take_rows.new.cert ≡ None = sym c.first_without.ensures ∙ ap (option_map (λ (line : LineId). line.0)) c.in-None.is in
    rw (c.in_ok-advance.ensures.found (ap Ok c.if-not-branch.false))
    (certificate-of c.args.plan.now c.advance.new.self.taken c.advance.new.self.left c.take_rows.new.cert header
    c.in-Ok.ensures.sound c.in-Ok.ensures.taken lacks)

pub returns-in-None-clause-ranked : goal.returns-in-None-clause-ranked
returns-in-None-clause-ranked c =
    let lacks : first_without c.args.plan.now c.take_rows.new.cert ≡ None = sym c.first_without.ensures ∙ ap (option_map (λ (line : LineId). line.0)) c.in-None.is in
    IsRanked-complete c.args.plan.now c.take_rows.new.cert c.in-Ok.ensures.taken.counted lacks

pub returns-in-None-clause-no_other : goal.returns-in-None-clause-no_other
returns-in-None-clause-no_other c = RanksNoOther-from c.args.plan.now c.advance.new.self.left c.take_rows.new.cert c.in-Ok.ensures.taken
