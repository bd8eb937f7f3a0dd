use Rattle.std.proofs.Common.{◌≡◌, ℕ, Bool, List, None, length, replicate, false, arith, ap, sym, ◌∙◌}
use Rattle.std.proofs.lemmas.List.{length-replicate}
use Rattle.agenda.specs.DueTimes.{due_count}
use Rattle.agenda.specs.EarlierDue.{times_by}
use Rattle.agenda.proofs.KeptTimes.{times-new}
use Rattle.agenda.proofs.FirstDues.{kept-new, count-new}
use Rattle.agenda.proofs.due_times.DueTimes.new.Goals as goal

-- none of new objects is due
none : (n : ℕ) (flags : List Bool) (rounds : List ℕ) → flags ≡ replicate n false → times_by flags rounds ≡ replicate n None
none n flags rounds is = ap (λ flags. times_by flags rounds) is ∙ times-new n rounds

pub invariant_of-result : goal.invariant_of-result
invariant_of-result c =
    let n : ℕ = c.args.count in
    let flags : List Bool = c.in_ok-flags.flags.items in
    let rounds : List ℕ = c.in_ok-rounds.rounds.items in
    let times = none n flags rounds c.in_ok-flags.ensures in
    let size : length flags ≡ n = ap length c.in_ok-flags.ensures ∙ length-replicate n false in
    record {
      few = omega (arith, size, c.requires.few);
      first = kept-new n flags rounds c.in_ok-flags.ensures c.in_ok-rounds.ensures;
      count = sym (ap due_count times ∙ count-new n);
    }

pub returns : goal.returns
returns c = none c.args.count c.in_ok-flags.flags.items c.in_ok-rounds.rounds.items c.in_ok-flags.ensures
