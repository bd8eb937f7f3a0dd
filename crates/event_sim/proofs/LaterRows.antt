-- Later events leave earlier rows.
use Rattle.std.proofs.Common.{◌≡◌, ◌≤◌, ◌<◌, ℕ, zero, suc, List, ◌++◌, length, map, refl, ap, sym, subst, ◌∙◌, arith, length-append}
use Rattle.std.specs.List.{All, range_with_len}
use Rattle.std.proofs.Math.Decide.{dec_lt}
use Rattle.sync_text.proofs.Each.{Each-map, Each-range, Each-filter}
use Rattle.sync_text.specs.Each.{Each}
use Rattle.sync_topo.specs.declared.event.Event.{Event}
use Rattle.sync_topo.specs.Topology.{Topology}
use Rattle.sync_topo.proofs.Lists.{filter_range_agree}
use Rattle.net_rules.specs.Signals.{signals_by}
use Rattle.net_rules.specs.History.{element_past, out_at}
use Rattle.net_rules.proofs.Lists.{map-same}
use Rattle.sync_topo.specs.Sizes.{most_rows}
use Rattle.event_sim.specs.declared.change.Change.{Change}
use Rattle.event_sim.specs.declared.change.Watch.{Watch}
use Rattle.event_sim.specs.declared.change.Watch.TheVariants.{Changes, Nothing}
use Rattle.event_sim.specs.Rows.{shows_other, shown_after, shown_by, has_changed, changed_in, row_of, rows_in, rows_until}
use Rattle.event_sim.specs.Standing.{watched_rows}
use Rattle.event_sim.specs.Answers.{IsLastFit, AreTooMany}
use Rattle.event_sim.specs.private.Running.{IsCut}
use Rattle.sync_net.specs.NetState.{NetState}

-- with what is shown, the rows are the same
rows-in-same : (plan : Topology) (events others : List Event) (t : ℕ)
    → ((element n : ℕ) → element < length plan.elements → n ≤ suc t → shown_by plan others element n ≡ shown_by plan events element n)
    → rows_in plan others t ≡ rows_in plan events t
rows-in-same plan events others t same =
    let alike : changed_in plan others t ≡ changed_in plan events t =
    filter_range_agree (has_changed plan others t) (has_changed plan events t) (length plan.elements)
    (λ place within. ap (λ was. shows_other was (shown_by plan others place (suc t))) (same place t within (omega arith))
    ∙ ap (shows_other (shown_by plan events place t)) (same place (suc t) within (omega arith))) in
    let inside : Each (λ place. place < length plan.elements) (changed_in plan events t) =
    Each-map _ _ (λ place both. both.0) _
    (Each-filter (λ place. place < length plan.elements) (has_changed plan events t) (range_with_len 0 (length plan.elements))
    (Each-range (λ place. place < length plan.elements) 0 (length plan.elements) (λ k low high. omega (arith, high)))) in
    ap (map (λ place. row_of t place (shown_by plan others place (suc t)))) alike
    ∙ map-same (λ place. row_of t place (shown_by plan others place (suc t))) (λ place. row_of t place (shown_by plan events place (suc t))) (changed_in plan events t)
    (Each-map _ _ (λ place within. ap (row_of t place) (same place (suc t) within (omega arith))) _ inside)

pub rows-same : (plan : Topology) (events others : List Event) (n : ℕ)
    → ((element k : ℕ) → element < length plan.elements → k ≤ n → shown_by plan others element k ≡ shown_by plan events element k)
    → rows_until plan others n ≡ rows_until plan events n
rows-same plan events others zero same = refl
rows-same plan events others (suc n) same =
    ap (λ (rows : List Change). rows ++ rows_in plan others n) (rows-same plan events others n (λ element k within early. same element k within (omega (arith, early))))
    ∙ ap (λ (rows : List Change). rows_until plan events n ++ rows) (rows-in-same plan events others n same)

-- later events leave the rows of the milliseconds before them
pub rows-later : (plan : Topology) (events more : List Event) (watch : Watch) (n until : ℕ)
    → ((t : ℕ) → All (λ event. t < event.at) more → (element k : ℕ) → element < length plan.elements → k ≤ suc t
    → element_past plan (signals_by plan (events ++ more)) (out_at plan (signals_by plan (events ++ more))) element k
    ≡ element_past plan (signals_by plan events) (out_at plan (signals_by plan events)) element k)
    → n ≤ until → All (λ event. until ≤ event.at) more
    → watched_rows watch plan (events ++ more) n ≡ watched_rows watch plan events n
rows-later plan events more Nothing n until later early late = refl
rows-later plan events more Changes zero until later early late = refl
rows-later plan events more Changes (suc n) until later early late =
    rows-same plan events (events ++ more) (suc n) (λ element k within soon.
    ap (shown_after plan element) (later n (λ i other inside. let after = late i other inside in omega (arith, after, early)) element k within soon))

-- more milliseconds have no fewer rows
pub rows-grow : (plan : Topology) (events : List Event) (m n : ℕ) → m ≤ n → length (rows_until plan events m) ≤ length (rows_until plan events n)
rows-grow plan events m zero early = let same : m ≡ 0 = omega (arith, early) in subst (λ (k : ℕ). length (rows_until plan events k) ≤ 0) (sym same) (omega arith)
rows-grow plan events m (suc n) early = elim (dec_lt n m) [
  | yes here ↦ let same : suc n ≡ m = omega (arith, early, here) in subst (λ (k : ℕ). length (rows_until plan events k) ≤ length (rows_until plan events (suc n))) same (omega arith)
  | no later ↦
      let less = rows-grow plan events m n (omega (arith, later)) in
      omega (arith, less, length-append (rows_until plan events n) (rows_in plan events n))
]

-- where the rows of a millisecond are too many, the one before is the last up to which all fit
pub last-fit : (plan : Topology) (events : List Event) (t until : ℕ) (watch : Watch) (net : NetState) (changes : List Change) → net.plan ≡ plan
    → IsCut watch net changes events (suc t) → length changes ≤ most_rows net.plan → t < until → IsLastFit plan events t until
last-fit plan events t until watch net changes same cut few early = record {
  fit =
      let rows : changes ≡ rows_until plan events (suc t) = cut.rows ∙ ap (λ (p : Topology). rows_until p events (suc t)) same in
      subst (λ (all : List Change). length all ≤ most_rows plan) rows (subst (λ (p : Topology). length changes ≤ most_rows p) same few);
  full = full;
  all = let more = rows-grow plan events (suc (suc t)) (suc until) (omega (arith, early)) in omega (arith, full, more);
}
  where
    full : AreTooMany plan events (suc (suc t))
    full = subst (λ (p : Topology). AreTooMany p events (suc (suc t))) same cut.full
