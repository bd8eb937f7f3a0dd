use Rattle.std.proofs.Common.{◌≡◌, take, length, arith, sym, refl, ap, ◌∙◌}
use Rattle.std.proofs.lemmas.List.{take_all, length-take-le, length-append}
use Rattle.esmc_frame.proofs.Laws.{reading_of-written_frame, spelled_by}
use Rattle.esmc_frame.proofs.frame.encode.Goals as goal

-- part by part, from the padding back to the destination
pub returns-clause-written : goal.returns-clause-written
returns-clause-written c =
    sym (take_all 60 c.put_extended.new.out (omega (arith, c.put_extended.array_long)))
    ∙ rw (
      c.put_extended.ensures.put,
      c.put_at-3.ensures,
      c.put-7.ensures,
      c.put-6.ensures,
      c.put_at-2.ensures,
      c.version_and_flag.ensures,
      c.put-5.ensures,
      c.put-4.ensures,
      c.put-3.ensures,
      c.put-2.ensures,
      c.put_at.ensures,
      c.put.ensures,
    )
    refl

pub returns-clause-read_back : goal.returns-clause-read_back
returns-clause-read_back c =
    let source = c.args.pdu.now.source in
    let before = take 6 c.put.new.out in
    let six : length source ≡ 6 =
    omega (
      arith,
      ap length c.put_at.ensures,
      length-append before source,
      length-take-le 12 c.put_at.new.out,
      length-take-le 6 c.put.new.out,
      c.put_at.array_long,
      c.put.array_long,
    ) in
    rw (returns-clause-written c) (reading_of-written_frame _ six c.requires c.put_extended.ensures.clock)

pub returns-clause-spelled : goal.returns-clause-spelled
returns-clause-spelled c = (spelled_by _ _ (sym (returns-clause-read_back c)) c.args.pdu.now).0 refl
