use Rattle.std.proofs.Common.{◌∷◌, sym, take, drop, arith}
use Rattle.std.proofs.lemmas.List.{append_assoc}
use Rattle.sync_sweep.proofs.Merging.{after-split}
use Rattle.sync_sweep.proofs.cases.put_earlier.Goals as goal

pub returns : goal.returns
returns c = λ event rest same.
    let own = c.args.own.now in
    let count = c.count_before-count.result in
    let split = after-split event rest own count c.count_before-count.ensures.within
    (λ k other before. omega (arith, c.count_before-count.ensures.before k other before, same))
    (λ other more. omega (arith, c.count_before-count.ensures.later other more, same)) in
    rw (split, c.in_ok-put_all.ensures, c.split_at.ensures.front, c.split_at.ensures.back)
    (sym (append_assoc c.args.all.now (take count own) (event ∷ rest (drop count own))))
