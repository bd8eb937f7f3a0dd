use Rattle.std.proofs.Common.{◌≡◌, ◌∙◌, ◌∷◌, [], Ok, Some, length, ap, sym, subst, arith}
use Rattle.std.proofs.lemmas.List.{take_all}
use Rattle.csv_records.proofs.FirstRefusals.{first_refusal-some, first_refusal-none}
use Rattle.rank_cert.specs.Rows.{Fields}
use Rattle.rank_cert.specs.CertificateText.{refusal_at, unless}
use Rattle.rank_cert.specs.private.RowsTaken.{AreRanksBy}
use Rattle.rank_cert.proofs.Taking.{refusal_at-is, AreTaken-more, at_drop, all_taken}
use Rattle.rank_cert.proofs.reading.take_rows.Goals as goal

pub loop-number-preserved : goal.loop-number-preserved
loop-number-preserved c =
    let all = c.args.records.now.left in let so_far = c.loop-number.invariant in
    let next = sym so_far.left ∙ c.in_ok-advance.ensures.found (ap Ok c.if-branch.true) in
    let here = at_drop all c.loop-number.number c.advance.new.self.taken c.advance.new.self.left next in
    record {
      taken = AreTaken-more c.args.plan.now all c.loop-number.number c.loop-number.cert c.take_row.new.cert c.taken.result.now so_far.taken
          (here.0 ∙ ap (λ (row : Fields). Some row) (sym c.taken.ensures)) c.in-Ok.ensures.sound c.in-Ok.ensures.taken;
      left = here.1;
      counted = omega (arith, here.2);
      fresh = c.in_ok-advance.ensures.goes_on;
    }

pub returns-in-Err-clause-refused : goal.returns-in-Err-clause-refused
returns-in-Err-clause-refused c =
    let plan = c.args.plan.now in let all = c.args.records.now.left in let so_far = c.loop-number.invariant in
    let next = sym so_far.left ∙ c.in_ok-advance.ensures.found (ap Ok c.if-branch.true) in
    let here = at_drop all c.loop-number.number c.advance.new.self.taken c.advance.new.self.left next in
    let at = here.0 ∙ ap (λ (row : Fields). Some row) (sym c.taken.ensures) in
    ap unless
    (first_refusal-some (refusal_at plan all) (length all) c.loop-number.number c.in-Err.refused here.2
    (refusal_at-is plan all c.loop-number.number c.loop-number.cert c.taken.result.now so_far.taken at ∙ c.in-Err.ensures.refused) so_far.taken.sound)

pub returns-clause-sound : goal.returns-clause-sound
returns-clause-sound c =
    let all = c.args.records.now.left in let so_far = c.loop-number.invariant in
    let ended = all_taken all c.loop-number.number (sym so_far.left ∙ c.in_ok-advance.ensures.none (ap Ok c.if-branch.false)) in
    first_refusal-none (refusal_at c.args.plan.now all) (length all) (λ i before. so_far.taken.sound i (omega (arith, ended)))

pub returns-clause-taken : goal.returns-clause-taken
returns-clause-taken c =
    let all = c.args.records.now.left in let so_far = c.loop-number.invariant in
    let ended = all_taken all c.loop-number.number (sym so_far.left ∙ c.in_ok-advance.ensures.none (ap Ok c.if-branch.false)) in
    subst (λ rows. AreRanksBy c.args.plan.now rows c.loop-number.cert) (take_all c.loop-number.number all ended) so_far.taken.given
