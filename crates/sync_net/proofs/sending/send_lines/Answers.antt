use Rattle.std.proofs.Common.{◌≡◌, ◌<◌, ◌+◌, ℕ, length, slice_index, take, nat_eq, List, arith, ap, subst, sym, true, false, ◌||◌, ◌∙◌, take_all}
use Rattle.std.specs.List.{list_any}
use Rattle.sync_topo.specs.Lines.{line_count}
use Rattle.agenda.proofs.MarkedPlaces.{behind, not_before}
use Rattle.sync_net.proofs.StageLaws.{sent-next, can-say-still, is-listed}
use Rattle.sync_net.proofs.sending.send_lines.Goals as goal

pub send-requires-clause-can_say : goal.send-requires-clause-can_say
send-requires-clause-can_say c =
    let marked = c.args.called.now in
    let i : ℕ = c.loop-place.place-index in
    let items : List ℕ = c.listed-place-items.result.now in
    let same : items ≡ marked.listed = c.listed-place-items.ensures.listed in
    let inside : i < length marked.listed = omega (arith, c.loop-place-test.true, ap length same) in
    let place : slice_index items i ≡ slice_index marked.listed i = ap (λ xs. slice_index xs i) same in
    let within : slice_index items i < line_count c.args.plan.now =
    subst (λ k. k < line_count c.args.plan.now) (sym place) (omega (arith, c.listed-place-items.ensures.all.within i 0 inside, c.requires.marks)) in
    let fresh : list_any (nat_eq (slice_index items i)) (take i marked.listed) ≡ false =
    subst (λ k. list_any (nat_eq k) (take i marked.listed) ≡ false) (sym place) (not_before i marked.listed c.listed-place-items.ensures.all.apart inside) in
    can-say-still c.args.plan.now c.args.elements.now c.args.now (slice_index items i) (λ e. list_any (nat_eq e) (take i marked.listed)) _ _ within fresh
    c.loop-place.invariant.sent (c.requires.can_say (slice_index items i) (subst (λ xs. list_any (nat_eq (slice_index items i)) xs ≡ true) same (is-listed items i c.loop-place-test.true)))

pub loop-place-preserved : goal.loop-place-preserved
loop-place-preserved c =
    let marked = c.args.called.now in
    let i : ℕ = c.loop-place.place-index in
    let items : List ℕ = c.listed-place-items.result.now in
    let same : items ≡ marked.listed = c.listed-place-items.ensures.listed in
    let inside : i < length marked.listed = omega (arith, c.loop-place-test.true, ap length same) in
    let place : slice_index items i ≡ slice_index marked.listed i = ap (λ xs. slice_index xs i) same in
    let fresh : list_any (nat_eq (slice_index items i)) (take i marked.listed) ≡ false =
    subst (λ k. list_any (nat_eq k) (take i marked.listed) ≡ false) (sym place) (not_before i marked.listed c.listed-place-items.ensures.all.apart inside) in
    record {
      lines_count = c.in_ok-send.ensures.sent.lines_count ∙ c.loop-place.invariant.lines_count;
      dues_count = c.in_ok-send.ensures.sent.dues_count ∙ c.loop-place.invariant.dues_count;
      sent = sent-next c.args.plan.now c.args.elements.now c.args.now (slice_index items i)
          (λ e. list_any (nat_eq e) (take i marked.listed)) (λ e. list_any (nat_eq e) (take (i + 1) marked.listed)) _ _ _ fresh
          (λ e. subst (λ k. list_any (nat_eq e) (take (i + 1) marked.listed) ≡ (list_any (nat_eq e) (take i marked.listed) || nat_eq e k)) (sym place) (behind e i marked.listed inside))
          c.loop-place.invariant.sent c.in_ok-send.ensures.sent;
    }

pub returns : goal.returns
returns c =
    let marked = c.args.called.now in
    let i : ℕ = c.loop-place.place-index in
    let all : take i marked.listed ≡ marked.listed = take_all i marked.listed (omega (arith, c.loop-place-test.false, ap length c.listed-place-items.ensures.listed)) in
    record { sent = rw all at c.loop-place.invariant.sent }
