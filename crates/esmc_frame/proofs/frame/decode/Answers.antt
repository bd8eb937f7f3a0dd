use Rattle.std.proofs.Common.{◌≡◌, None, rules, refl}
use Rattle.esmc_frame.specs.Reading.{first_wrong}
use Rattle.esmc_frame.proofs.Bits.{masked_bit, masked_low_bits}
use Rattle.esmc_frame.proofs.Laws.{spelled_by}
use Rattle.esmc_frame.proofs.frame.decode.Goals as goal

pub returns-clause-exact : goal.returns-clause-exact
returns-clause-exact c =
    let none : first_wrong c.args.frame.now ≡ None = search rules in
    rw (masked_bit, masked_low_bits, c.copy_from_slice.ensures.after, c.extended_in.ensures, none) refl

pub returns-clause-spelled : goal.returns-clause-spelled
returns-clause-spelled c = spelled_by _ _ (returns-clause-exact c)
