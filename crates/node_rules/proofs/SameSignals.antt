-- What an element is told makes the signals of its inputs and of the lines out of it, and the commands to it.
use Rattle.std.proofs.Common.{◌≡◌, ◌≤◌, ◌<◌, ℕ, zero, suc, Bool, true, false, ◌||◌, List, ◌∷◌, Option, None, Some, refl, ap, sym, ◌∙◌, arith}
use Rattle.std.specs.Prelude.{if◌then◌else◌, nat_lt, nat_eq, unwrap_or}
use Rattle.std.specs.List.{list_any, filter_map, cons_option}
use Rattle.std.specs.Option.{option_or}
use Rattle.std.proofs.lemmas.Bool.{lt-ltb, ltb-true, eqb-true}
use Rattle.sync_topo.specs.declared.input.InputId.{InputId}
use Rattle.sync_topo.specs.declared.input.InputId.TheVariants.{Source}
use Rattle.sync_topo.specs.declared.event.Part.TheVariants as part
use Rattle.sync_topo.specs.declared.event.What.{What}
use Rattle.sync_topo.specs.declared.event.Event.{Event}
use Rattle.sync_topo.specs.Topology.{Topology}
use Rattle.sync_topo.specs.Lines.{line_input, sender_of}
use Rattle.net_rules.specs.Signals.{Signals, events_before, last_word, is_of_part, says_up, says_esmc, says_level, clears, command_to, up_at, esmc_at, said_at, source_level_before, source_level_at, signals_by}
use Rattle.net_rules.specs.Inputs.{IsInputOf}
use Rattle.node_rules.specs.FromNetwork.{even_line, odd_line, is_told_to, told_to, AreGivenAs}
use Rattle.node_rules.proofs.Gathering.{AreOneLink, in_times, told-gathered, given-gathered, within-kept}
use Rattle.node_rules.proofs.ToldLaws.{of-lines, up-untold, out-untold, esmc-untold, level-untold, clear-untold, command-untold}

-- what comes from outside to one element is the same up to a millisecond
pub record AreSameTo (plan : Topology) (element until : ℕ) (signals others : Signals) : Type 0 where
  pub up : (input : InputId) (s : ℕ) → IsInputOf plan element input → s ≤ until → signals.up input s ≡ others.up input s
  pub clear : (input : InputId) (s : ℕ) → IsInputOf plan element input → s ≤ until → signals.clear input s ≡ others.clear input s
  pub source_level : (source s : ℕ) → IsInputOf plan element (Source source) → s ≤ until → signals.source_level source s ≡ others.source_level source s
  pub commands : (s : ℕ) → s ≤ until → signals.commands element s ≡ others.commands element s
  pub up_out : (line s : ℕ) → sender_of plan line ≡ element → s ≤ until → signals.up (line_input line) s ≡ others.up (line_input line) s
  pub esmc_out : (line s : ℕ) → sender_of plan line ≡ element → s ≤ until → signals.esmc line s ≡ others.esmc line s

silent : {A : Type 0} (o word : Option A) → word ≡ None → option_or o word ≡ o
silent None word none = none
silent (Some x) word none = refl

-- a word that both lines of a link say where it is of the link is said once
said_twice : {A : Type 0} (x : A) (even odd whole : Bool) (o : Option A) → whole ≡ (even || odd)
    → option_or (option_or o (if odd then Some x else None)) (if even then Some x else None) ≡ option_or o (if whole then Some x else None)
said_twice x even odd whole (Some y) same = refl
said_twice x true true whole None same = rw same refl
said_twice x true false whole None same = rw same refl
said_twice x false true whole None same = rw same refl
said_twice x false false whole None same = rw same refl

said_turned : {A : Type 0} (x : A) (even odd whole : Bool) (o : Option A) → whole ≡ (even || odd)
    → option_or (option_or o (if even then Some x else None)) (if odd then Some x else None) ≡ option_or o (if whole then Some x else None)
said_turned x even odd whole (Some y) same = refl
said_turned x true true whole None same = rw same refl
said_turned x true false whole None same = rw same refl
said_turned x false true whole None same = rw same refl
said_turned x false false whole None same = rw same refl

said_never : {A : Type 0} (o : Option A) → option_or (option_or o None) None ≡ option_or o None
said_never None = refl
said_never (Some x) = refl

-- the steps by which words are gathered
abbrev word_step : {A : Type 0} → (What → Option A) → What → Option A → Option A
word_step says what o = option_or o (says what)

up-link : (input : InputId) → AreOneLink (word_step (says_up input))
up-link input = record {
  down = λ link o. said_twice false (is_of_part input (even_line link)) (is_of_part input (odd_line link)) (is_of_part input (part.Link link)) o (of-lines input link);
  down_turned = λ link o. said_turned false (is_of_part input (even_line link)) (is_of_part input (odd_line link)) (is_of_part input (part.Link link)) o (of-lines input link);
  up = λ link o. said_twice true (is_of_part input (even_line link)) (is_of_part input (odd_line link)) (is_of_part input (part.Link link)) o (of-lines input link);
  up_turned = λ link o. said_turned true (is_of_part input (even_line link)) (is_of_part input (odd_line link)) (is_of_part input (part.Link link)) o (of-lines input link);
}

esmc-link : (line : ℕ) → AreOneLink (word_step (says_esmc line))
esmc-link line = record {
  down = λ link o. said_never o;
  down_turned = λ link o. said_never o;
  up = λ link o. said_never o;
  up_turned = λ link o. said_never o;
}

level-link : (source : ℕ) → AreOneLink (word_step (says_level source))
level-link source = record {
  down = λ link o. said_never o;
  down_turned = λ link o. said_never o;
  up = λ link o. said_never o;
  up_turned = λ link o. said_never o;
}

early : (s until n : ℕ) → s ≤ until → nat_lt n (suc s) ≡ true → nat_lt n (suc until) ≡ true
early s until n before is = let earlier : n < suc s = ltb-true n (suc s) is in lt-ltb n (suc until) (omega (arith, before, earlier))

now : (s until n : ℕ) → s ≤ until → nat_eq n s ≡ true → nat_lt n (suc until) ≡ true
now s until n before is = let same : n ≡ s = eqb-true n s is in lt-ltb n (suc until) (omega (arith, before, same))

module _ (plan : Topology) (events given : List Event) (element until : ℕ)
    (are : AreGivenAs (told_to plan element (events_before (suc until) events)) (told_to plan element (events_before (suc until) given))) where
  gathered : {R : Type 0} (gather : List Event → R) (step : What → R → R) → ((event : Event) (some : List Event) → gather (event ∷ some) ≡ step event.what (gather some))
      → AreOneLink step → ((what : What) (r : R) → is_told_to plan element what ≡ false → step what r ≡ r)
      → (p : ℕ → Bool) → ((n : ℕ) → p n ≡ true → nat_lt n (suc until) ≡ true)
      → gather (in_times p given) ≡ gather (in_times p events)
  gathered gather step steps link quiet p within =
      sym (enough given)
      ∙ given-gathered gather step steps link p (told_to plan element (events_before (suc until) events)) (told_to plan element (events_before (suc until) given)) are
      ∙ enough events
    where
      -- what is told in time is enough
      enough : (some : List Event) → gather (in_times p (told_to plan element (events_before (suc until) some))) ≡ gather (in_times p some)
      enough some =
          told-gathered gather step steps (λ event. is_told_to plan element event.what) (λ event. p event.at) (λ event r none. quiet event.what r none) (events_before (suc until) some)
          ∙ ap gather (within-kept (λ event. p event.at) (λ event. nat_lt event.at (suc until)) (λ event. within event.at) some)

  word : {A : Type 0} (says : What → Option A) → AreOneLink (word_step says) → ((what : What) → is_told_to plan element what ≡ false → says what ≡ None)
      → (s : ℕ) → s ≤ until → last_word says (events_before (suc s) given) ≡ last_word says (events_before (suc s) events)
  word says link untold s before =
      gathered (last_word says) (word_step says) (λ event some. refl) link (λ what o none. silent o (says what) (untold what none)) (λ n. nat_lt n (suc s)) (λ n. early s until n before)

  level_before : (source n : ℕ) → IsInputOf plan element (Source source) → n ≤ suc until → source_level_before plan given source n ≡ source_level_before plan events source n
  unfolding up_at said_at
  level_before source zero of before = refl
  level_before source (suc n) of before =
      rw (
        word (says_up (Source source)) (up-link (Source source)) (up-untold plan (Source source) element of) n (omega (arith, before)),
        word (says_level source) (level-link source) (level-untold plan source element of) n (omega (arith, before)),
        level_before source n of (omega (arith, before)),
      ) refl

  pub same-signals : AreSameTo plan element until (signals_by plan given) (signals_by plan events)
  unfolding up_at esmc_at source_level_at
  same-signals = record {
    up = λ input s of before. ap (λ o. unwrap_or o true) (word (says_up input) (up-link input) (up-untold plan input element of) s before);
    clear = λ input s of before.
        gathered (list_any (λ event. clears input event.what)) (λ what b. clears input what || b) (λ event some. refl)
        (record { down = λ link b. refl; down_turned = λ link b. refl; up = λ link b. refl; up_turned = λ link b. refl })
        (λ what b none. ap (λ c. c || b) (clear-untold plan input element of what none)) (λ n. nat_eq n s) (λ n. now s until n before);
    source_level = λ source s of before. level_before source (suc s) of (omega (arith, before));
    commands = λ s before.
        gathered (filter_map (λ event. command_to plan element event.what)) (λ what some. cons_option (command_to plan element what) some) (λ event some. refl)
        (record { down = λ link some. refl; down_turned = λ link some. refl; up = λ link some. refl; up_turned = λ link some. refl })
        (λ what some none. ap (λ o. cons_option o some) (command-untold plan element what none)) (λ n. nat_eq n s) (λ n. now s until n before);
    up_out = λ line s from before. ap (λ o. unwrap_or o true) (word (says_up (line_input line)) (up-link (line_input line)) (out-untold plan line element from) s before);
    esmc_out = λ line s from before. ap (λ o. unwrap_or o true) (word (says_esmc line) (esmc-link line) (esmc-untold plan line element from) s before);
  }
