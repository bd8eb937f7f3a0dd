-- One event more, of those that name sources, is settled and told.
use Rattle.std.proofs.Common.{◌≡◌, ℕ, Bool, true, false, ◌||◌, List, [], ◌∷◌, ◌++◌, Option, None, Some, refl, ap, sym, ◌∙◌, append_assoc}
use Rattle.std.specs.List.{list_any}
use Rattle.sync_ql.specs.declared.rules.InputEvent.{InputEvent}
use Rattle.sync_topo.specs.declared.event.Event.{Event}
use Rattle.sync_topo.specs.declared.input.InputId.TheVariants.{Source}
use Rattle.sync_topo.specs.Topology.{Topology}
use Rattle.net_words.specs.declared.input_words.Saying.TheVariants.{HasLevel}
use Rattle.sync_net.specs.declared.signals.SourceSignal.{SourceSignal}
use Rattle.net_words.specs.declared.tellings.Tellings.{Tellings}
use Rattle.sync_net.specs.private.Noting.{source_at}
use Rattle.net_words.specs.Words.{input_words}
use Rattle.sync_net.specs.Named.{named_source, names_source}
use Rattle.sync_net.specs.private.SourceLevels.{settled, settle_if, AreSourcesSettled, level_words, all_level_words}
use Rattle.net_words.specs.Tellings.{told_to, is_active, is_something, AreTold}
use Rattle.net_words.specs.private.Tellings.{AreToldSoFar}

-- what is told of levels is the same of sources that level_now alike
same-words : (plan : Topology) (sources others : List SourceSignal) (named : Option ℕ) (element : ℕ)
    → ((source : ℕ) → settled (source_at sources source) ≡ settled (source_at others source)) → level_words plan sources named element ≡ level_words plan others named element
same-words plan sources others None element same = refl
same-words plan sources others (Some source) element same = ap (λ (s : SourceSignal). input_words plan (HasLevel s.level) (Source source) element) (same source)

something-append : (xs ys : List InputEvent) → is_something (xs ++ ys) ≡ (is_something xs || is_something ys)
something-append [] ys = refl
something-append (x ∷ xs) ys = refl

or-assoc : (a b c : Bool) → ((a || b) || c) ≡ (a || (b || c))
or-assoc true b c = refl
or-assoc false b c = refl

pub levels-told : (plan : Topology) (sources mid : List SourceSignal) (all rest : List Event) (event : Event) (before now after : Tellings)
    → ((source : ℕ) → settled (source_at mid source) ≡ settled (source_at sources source))
    → AreToldSoFar (all_level_words plan sources all) (all_level_words plan sources (event ∷ rest)) before now
    → AreTold (level_words plan mid (named_source event.what)) now after
    → AreToldSoFar (all_level_words plan sources all) (all_level_words plan sources rest) before after
levels-told plan sources mid all rest event before now after same so_far told = record {
  count = told.count ∙ so_far.count;
  flags_count = told.flags_count ∙ so_far.flags_count;
  list = λ element.
      ap (λ xs. xs ++ all_level_words plan sources rest element) (told.list element ∙ ap (λ xs. told_to now element ++ xs) (words element))
      ∙ append_assoc (told_to now element) (level_words plan sources (named_source event.what) element) (all_level_words plan sources rest element)
      ∙ so_far.list element;
  flag = λ element.
      ap (λ b. b || is_something (all_level_words plan sources rest element)) (told.flag element ∙ ap (λ xs. is_active now element || is_something xs) (words element))
      ∙ or-assoc (is_active now element) (is_something (level_words plan sources (named_source event.what) element)) (is_something (all_level_words plan sources rest element))
      ∙ ap (λ b. is_active now element || b) (sym (something-append (level_words plan sources (named_source event.what) element) (all_level_words plan sources rest element)))
      ∙ so_far.flag element;
}
  where
    words : (element : ℕ) → level_words plan mid (named_source event.what) element ≡ level_words plan sources (named_source event.what) element
    words element = same-words plan mid sources (named_source event.what) element same

level_now-more : (here later : Bool) (now after : SourceSignal) → settled after ≡ settled now → after ≡ settle_if here now → settle_if later after ≡ settle_if (here || later) now
level_now-more true true now after same is = same
level_now-more true false now after same is = is
level_now-more false true now after same is = same
level_now-more false false now after same is = is

pub levels-settled : (all rest : List Event) (event : Event) (before now after : List SourceSignal) → AreSourcesSettled all (event ∷ rest) before now
    → AreSourcesSettled (event ∷ []) [] now after → AreSourcesSettled all rest before after
levels-settled all rest event before now after so_far here = record {
  count = here.count ∙ so_far.count;
  same = λ source. here.same source ∙ so_far.same source;
  source = λ source.
      level_now-more (names_source source event) (list_any (names_source source) rest) (source_at now source) (source_at after source) (here.same source)
      (here.source source ∙ ap (λ b. settle_if b (source_at now source)) (or-none (names_source source event)))
      ∙ so_far.source source;
}
  where
    or-none : (b : Bool) → (b || false) ≡ b
    or-none true = refl
    or-none false = refl
