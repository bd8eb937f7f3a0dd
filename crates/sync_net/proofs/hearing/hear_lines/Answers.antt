use Rattle.std.proofs.Common.{◌≡◌, ◌<◌, ◌+◌, ℕ, length, slice_index, take, nat_eq, List, arith, ap, subst, sym, true, false, ◌||◌, ◌∙◌, take_all}
use Rattle.std.specs.List.{list_any}
use Rattle.sync_topo.specs.Lines.{line_count}
use Rattle.agenda.proofs.MarkedPlaces.{behind, not_before}
use Rattle.sync_net.specs.private.Noting.{line_at}
use Rattle.sync_net.proofs.StageLaws.{is-listed}
use Rattle.sync_net.proofs.HearingLaws.{told-next, can-tell-still}
use Rattle.sync_net.proofs.hearing.hear_lines.Goals as goal

pub hear-requires-clause-nominated : goal.hear-requires-clause-nominated
hear-requires-clause-nominated c =
    let items : List ℕ = c.listed-place-items.result.now in
    let i : ℕ = c.loop-place.place-index in
    (c.requires.can_tell (slice_index items i) (subst (λ xs. list_any (nat_eq (slice_index items i)) xs ≡ true) c.listed-place-items.ensures.listed (is-listed items i c.loop-place-test.true))).0

pub hear-requires-clause-can_tell : goal.hear-requires-clause-can_tell
hear-requires-clause-can_tell c =
    let marked = c.args.called.now in
    let i : ℕ = c.loop-place.place-index in
    let items : List ℕ = c.listed-place-items.result.now in
    let same : items ≡ marked.listed = c.listed-place-items.ensures.listed in
    let inside : i < length marked.listed = omega (arith, c.loop-place-test.true, ap length same) in
    let place : slice_index items i ≡ slice_index marked.listed i = ap (λ xs. slice_index xs i) same in
    let fresh : list_any (nat_eq (slice_index items i)) (take i marked.listed) ≡ false =
    subst (λ k. list_any (nat_eq k) (take i marked.listed) ≡ false) (sym place) (not_before i marked.listed c.listed-place-items.ensures.all.apart inside) in
    can-tell-still c.args.plan.now c.args.now (slice_index items i) (line_at c.args.signals.now) (λ e. list_any (nat_eq e) (take i marked.listed)) _ _ fresh c.loop-place.invariant.told
    (c.requires.can_tell (slice_index items i) (subst (λ xs. list_any (nat_eq (slice_index items i)) xs ≡ true) same (is-listed items i c.loop-place-test.true))).1

pub loop-place-preserved : goal.loop-place-preserved
loop-place-preserved c =
    let marked = c.args.called.now in
    let i : ℕ = c.loop-place.place-index in
    let items : List ℕ = c.listed-place-items.result.now in
    let same : items ≡ marked.listed = c.listed-place-items.ensures.listed in
    let inside : i < length marked.listed = omega (arith, c.loop-place-test.true, ap length same) in
    let place : slice_index items i ≡ slice_index marked.listed i = ap (λ xs. slice_index xs i) same in
    let within : slice_index items i < line_count c.args.plan.now =
    subst (λ k. k < line_count c.args.plan.now) (sym place) (omega (arith, c.listed-place-items.ensures.all.within i 0 inside, c.requires.marks)) in
    let fresh : list_any (nat_eq (slice_index items i)) (take i marked.listed) ≡ false =
    subst (λ k. list_any (nat_eq k) (take i marked.listed) ≡ false) (sym place) (not_before i marked.listed c.listed-place-items.ensures.all.apart inside) in
    record {
      lines_count = c.in_ok-hear.ensures.lines_count ∙ c.loop-place.invariant.lines_count;
      heards_count = c.in_ok-hear.ensures.heards_count ∙ c.loop-place.invariant.heards_count;
      lists_count = c.in_ok-hear.ensures.changes_count ∙ c.loop-place.invariant.lists_count;
      flags_count = c.in_ok-hear.ensures.marks.count ∙ c.loop-place.invariant.flags_count;
      told = told-next c.args.plan.now c.args.now (slice_index items i) (line_at c.args.signals.now) c.signal_of-signal.result
          (λ e. list_any (nat_eq e) (take i marked.listed)) (λ e. list_any (nat_eq e) (take (i + 1) marked.listed)) _ _ _ fresh
          (λ e. subst (λ k. list_any (nat_eq e) (take (i + 1) marked.listed) ≡ (list_any (nat_eq e) (take i marked.listed) || nat_eq e k)) (sym place) (behind e i marked.listed inside))
          c.signal_of-signal.ensures within
          (c.requires.can_tell (slice_index items i) (subst (λ xs. list_any (nat_eq (slice_index items i)) xs ≡ true) same (is-listed items i c.loop-place-test.true))).0
          c.loop-place.invariant.told c.in_ok-hear.ensures;
    }

pub returns : goal.returns
returns c =
    let marked = c.args.called.now in
    let i : ℕ = c.loop-place.place-index in
    let all : take i marked.listed ≡ marked.listed = take_all i marked.listed (omega (arith, c.loop-place-test.false, ap length c.listed-place-items.ensures.listed)) in
    rw all at c.loop-place.invariant.told
