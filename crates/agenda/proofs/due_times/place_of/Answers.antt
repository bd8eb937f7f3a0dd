use Rattle.std.proofs.Common.{◌≡◌, ◌<◌, ℕ, ◌+◌, ◌-◌, ◌*◌, arith, sym, ap, subst, ◌∙◌}
use Rattle.std.specs.Prelude.{slice_index_or}
use Rattle.std.proofs.lemmas.List.{get_or_default}
use Rattle.agenda.specs.declared.due_times.TheConstants.{NEVER}
use Rattle.agenda.proofs.FirstDues.{one_wins}
use Rattle.agenda.proofs.due_times.place_of.Goals as goal

pub loop-round-preserved-then-rounds-round : goal.loop-round-preserved-then-rounds-round
loop-round-preserved-then-rounds-round c =
    let rounds = c.args.rounds.now in
    let n : ℕ = c.args.count in
    let k : ℕ = c.loop-round.round in
    let below : k < n = omega (arith, c.loop-round-test.true) in
    let twice : 2 * k ≡ k * 2 = omega arith in
    record {
      some = omega arith;
      within = omega (arith, below);
      same = λ players all.
          let left : slice_index_or rounds (2 * k) NEVER ≡ slice_index_or rounds (k * 2) 0 =
          ap (λ j. slice_index_or rounds j NEVER) twice ∙ get_or_default rounds (k * 2) NEVER 0 (omega (arith, below, c.requires.room)) in
          subst (λ j. slice_index_or rounds (j + 1) NEVER ≡ slice_index_or rounds 1 0) twice
          (one_wins n players rounds k (slice_index_or rounds 1 0) all c.loop-round.invariant.some below (c.loop-round.invariant.same players all)
          (λ is. c.if-rounds-round.true (sym left ∙ is)));
    }

pub returns-clause-winner : goal.returns-clause-winner
returns-clause-winner c players all =
    let rounds = c.args.rounds.now in
    let n : ℕ = c.args.count in
    let k : ℕ = c.loop-round.round in
    let past : ¬ (k < n) = omega (arith, c.loop-round-test.false) in
    let place : n + (k - n) ≡ k = omega (arith, past) in
    sym (all.players (k - n) (omega (arith, past, c.loop-round.invariant.within)))
    ∙ ap (λ j. slice_index_or rounds j NEVER) place ∙ c.loop-round.invariant.same players all
    ∙ sym (get_or_default rounds 1 NEVER 0 (omega (arith, c.requires.room, c.requires.some)))
