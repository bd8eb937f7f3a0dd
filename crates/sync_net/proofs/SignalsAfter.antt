-- What is kept of signals after a millisecond, by the events in it.
use Rattle.std.proofs.Common.{◌≡◌, ℕ, zero, suc, true, List, ap, sym, ◌∙◌}
use Rattle.std.specs.Prelude.{unwrap_or, if◌then◌else◌}
use Rattle.sync_topo.specs.declared.input.InputId.TheVariants.{Source}
use Rattle.sync_topo.specs.declared.event.Event.{Event}
use Rattle.sync_topo.specs.Topology.{Topology}
use Rattle.sync_topo.specs.Events.{IsInOrder}
use Rattle.sync_topo.specs.Lines.{line_input}
use Rattle.net_rules.specs.Signals.{events_at, last_word, says_up, says_esmc, says_level, planned_level, source_level_before, up_at, said_at}
use Rattle.sync_net.specs.Kept.{Kept, source_signal}
use Rattle.sync_net.specs.Standing.{AreSignals, IsNominatedSource}
use Rattle.net_words.specs.Before.{up_before, said_before}
use Rattle.sync_net.specs.private.Noted.{AreNoted, IsSettled}
use Rattle.net_words.proofs.SplitWords.{none-before-0, word-until}

-- a source that is kept as the events before a millisecond have it, and is up, has the level said
-- last
pub are-settled : (plan : Topology) (was : Kept) (all : List Event) (n : ℕ) → AreSignals plan was all n
    → (source : ℕ) → IsNominatedSource plan source → IsSettled (source_signal was source)
unfolding up_at said_at
are-settled plan was all zero signals source nominated up =
    signals.source_level source nominated
    ∙ sym (signals.source_said source nominated ∙ ap (λ es. unwrap_or (last_word (says_level source) es) (planned_level plan source)) (none-before-0 all))
are-settled plan was all (suc t) signals source nominated up =
    let is_up : up_at all (Source source) t ≡ true = sym (signals.source_up source nominated) ∙ up in
    signals.source_level source nominated
    ∙ ap (λ b. if b then said_at plan all source t else source_level_before plan all source t) is_up
    ∙ sym (signals.source_said source nominated)

-- what is kept after the events of a millisecond are noted is as the events before the next one
-- have it
pub signals-after : (plan : Topology) (all events : List Event) (now : ℕ) (was then_kept : Kept) → IsInOrder all
    → AreSignals plan was all now → events_at now all ≡ events → AreNoted plan events was then_kept → AreSignals plan then_kept all (suc now)
unfolding up_at said_at
signals-after plan all events now was then_kept ordered signals at noted = record {
  line_up = λ line nominated.
      noted.line_up line nominated
      ∙ ap (unwrap_or (last_word (says_up (line_input line)) events)) (signals.line_up line nominated)
      ∙ sym (word-until (says_up (line_input line)) true all events now ordered at);
  line_esmc = λ line nominated.
      noted.line_esmc line nominated
      ∙ ap (unwrap_or (last_word (says_esmc line) events)) (signals.line_esmc line nominated)
      ∙ sym (word-until (says_esmc line) true all events now ordered at);
  source_up = source_up;
  source_said = source_said;
  source_level = λ source nominated.
      noted.source_level source nominated (are-settled plan was all now signals source nominated)
      ∙ ap (λ b. if b then (source_signal then_kept source).said else (source_signal was source).level) (source_up source nominated)
      ∙ ap (λ level. if up_before all (Source source) (suc now) then level else (source_signal was source).level) (source_said source nominated)
      ∙ ap (λ level. if up_before all (Source source) (suc now) then said_before plan all source (suc now) else level) (signals.source_level source nominated);
}
  where
    source_up : (source : ℕ) → IsNominatedSource plan source → (source_signal then_kept source).up ≡ up_before all (Source source) (suc now)
    source_up source nominated =
        noted.source_up source nominated
        ∙ ap (unwrap_or (last_word (says_up (Source source)) events)) (signals.source_up source nominated)
        ∙ sym (word-until (says_up (Source source)) true all events now ordered at)

    source_said : (source : ℕ) → IsNominatedSource plan source → (source_signal then_kept source).said ≡ said_before plan all source (suc now)
    source_said source nominated =
        noted.source_said source nominated
        ∙ ap (unwrap_or (last_word (says_level source) events)) (signals.source_said source nominated)
        ∙ sym (word-until (says_level source) (planned_level plan source) all events now ordered at)
