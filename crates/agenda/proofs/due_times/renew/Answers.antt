use Rattle.std.proofs.Common.{◌≡◌, ◌<◌, ℕ, ◌+◌, ◌*◌, List, length, arith, subst, ◌∙◌, length-set}
use Rattle.std.specs.Prelude.{min, slice_index_or}
use Rattle.std.proofs.lemmas.List.{get_or_default}
use Rattle.agenda.specs.declared.due_times.TheConstants.{NEVER}
use Rattle.agenda.specs.private.Tournament.{IsTournament, with_player}
use Rattle.agenda.proofs.Tournaments.{winner_at, with_same, with_winner}
use Rattle.agenda.proofs.due_times.renew.Goals as goal

-- the winner of a round as it was read
won : (rounds : List ℕ) (n k winner : ℕ) → length rounds ≡ n + n → k < n → winner ≡ min (slice_index_or rounds (2 * k) 0) (slice_index_or rounds (2 * k + 1) 0)
    → winner ≡ winner_at min NEVER rounds k
won rounds n k winner room within is =
    rw (get_or_default rounds (2 * k) NEVER 0 (omega (arith, room, within)), get_or_default rounds (2 * k + 1) NEVER 0 (omega (arith, room, within))) is

pub returns-then-rounds-round-clause-renewed : goal.returns-then-rounds-round-clause-renewed
returns-then-rounds-round-clause-renewed c players all =
    let l = c.loop-round in
    let winner = won l.rounds c.args.count l.round c.earlier-winner.result l.invariant.room l.invariant.within c.earlier-winner.ensures in
    with_same min NEVER c.args.count (with_player players c.args.place c.args.player) l.rounds l.round (l.invariant.renewed players all)
    (get_or_default l.rounds l.round NEVER 0 (omega (arith, l.invariant.room, l.invariant.within)) ∙ c.if-rounds-round.true ∙ winner)

pub loop-round-preserved : goal.loop-round-preserved
loop-round-preserved c =
    let l = c.loop-round in
    let winner = won l.rounds c.args.count l.round c.earlier-winner.result l.invariant.room l.invariant.within c.earlier-winner.ensures in
    record {
      room = omega (arith, length-set l.rounds l.round c.earlier-winner.result, l.invariant.room);
      within = omega (arith, l.invariant.within);
      renewed = λ players all. rw winner (with_winner min NEVER c.args.count (with_player players c.args.place c.args.player) l.rounds l.round (l.invariant.renewed players all) c.loop-round-test.true l.invariant.within);
    }

pub returns-clause-renewed : goal.returns-clause-renewed
returns-clause-renewed c players all =
    let last : c.loop-round.round ≡ 0 = omega (arith, c.loop-round-test.false) in
    subst (IsTournament min NEVER c.args.count (with_player players c.args.place c.args.player) c.loop-round.rounds) last (c.loop-round.invariant.renewed players all)
