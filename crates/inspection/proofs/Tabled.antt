-- The tables of all elements after one event more.
use Rattle.std.proofs.Common.{◌≡◌, ◌≢◌, ◌<◌, ◌+◌, ℕ, Bool, false, List, [], ◌∷◌, ◌++◌, length, take, Option, None, Some, slice_get, refl, ap, sym, ◌∙◌, inl, inr}
use Rattle.std.specs.Prelude.{slice_index_or}
use Rattle.std.specs.List.{cons_option}
use Rattle.std.specs.Option.{option_map_or}
use Rattle.std.proofs.lemmas.Bool.Decides.{eqb_tells}
use Rattle.std.proofs.lemmas.List.{take_more, length-replicate}
use Rattle.std.proofs.lemmas.Option.{get_or_from_slice_get, slice_get_within}
use Rattle.sync_ql.specs.declared.rules.Cmd.{Cmd}
use Rattle.sync_ql.specs.Switches.{Switches, unswitched, after_commands}
use Rattle.sync_topo.specs.declared.event.Event.{Event}
use Rattle.sync_topo.specs.Topology.{Topology}
use Rattle.sync_topo.specs.Lines.{inputs_of}
use Rattle.net_rules.specs.Signals.{command_to}
use Rattle.inspection.specs.declared.asked.Asked.{Asked}
use Rattle.inspection.specs.Commands.{asked_of, command_row, is_taken, row_of, row_at, commands_among}
use Rattle.inspection.specs.private.Tables.{command_by, after_asked, table_after, AreTables, table_at}
use Rattle.inspection.proofs.Applied.{table-append}
use Rattle.inspection.proofs.Asking.{asked-here, asked-elsewhere, none-asked}
use Rattle.inspection.proofs.Bars.{length-commands}

-- a table has room for each input
pub table-room : (plan : Topology) (events : List Event) (element : ℕ) → length (table_after plan events element).locked ≡ length (inputs_of plan element)
unfolding table_after
table-room plan events element =
    length-commands (commands_among plan element events) (unswitched (length (inputs_of plan element))) ∙ length-replicate (length (inputs_of plan element)) false

after-one : (s : Switches) (command : Option Cmd) → after_commands s (cons_option command []) ≡ after_asked s command
after-one s None = refl
after-one s (Some command) = refl

-- one event more
pub table-more : (plan : Topology) (events : List Event) (place : ℕ) (event : Event) (element : ℕ) → slice_get events place ≡ Some event
    → table_after plan (take (place + 1) events) element ≡ after_asked (table_after plan (take place events) element) (command_to plan element event.what)
table-more plan events place event element at =
    ap (λ front. table_after plan front element) (take_more events place event (slice_get_within events place event at) ∙ ap (λ last. take place events ++ last ∷ []) (get_or_from_slice_get events place event event at))
    ∙ table-append plan (take place events) (event ∷ []) element
    ∙ after-one (table_after plan (take place events) element) (command_to plan element event.what)

-- where it is no command the tables stay
pub tables-stay : (plan : Topology) (events : List Event) (place : ℕ) (event : Event) (tables : List Switches) → slice_get events place ≡ Some event → asked_of plan event.what ≡ None
    → AreTables plan (take place events) tables → AreTables plan (take (place + 1) events) tables
tables-stay plan events place event tables at none before = record {
  count = before.count;
  each = λ element other within.
      before.each element other within
      ∙ sym (table-more plan events place event element at ∙ ap (after_asked (table_after plan (take place events) element)) (none-asked plan event.what element none));
}

-- where it is one, that of its element is one on
pub tables-next : (plan : Topology) (events : List Event) (place : ℕ) (event : Event) (asked : Asked) (was now : List Switches) → slice_get events place ≡ Some event → asked_of plan event.what ≡ Some asked
    → AreTables plan (take place events) was → length now ≡ length was
    → ((other : Switches) → slice_index_or now asked.element other ≡ after_asked (slice_index_or was asked.element other) (command_by plan asked))
    → ((element : ℕ) (other : Switches) → element ≢ asked.element → slice_index_or now element other ≡ slice_index_or was element other)
    → AreTables plan (take (place + 1) events) now
tables-next plan events place event asked was now at is before count here others = record {
  count = count ∙ before.count;
  each = λ element other within. elim (eqb_tells element asked.element) [
    | inl same ↦
        ap (λ e. slice_index_or now e other) same.1
        ∙ here other
        ∙ ap (λ s. after_asked s (command_by plan asked)) (ap (λ e. slice_index_or was e other) (sym same.1) ∙ before.each element other within)
        ∙ ap (after_asked (table_after plan (take place events) element)) (sym (ap (λ e. command_to plan e event.what) same.1 ∙ asked-here plan event.what asked is))
        ∙ sym (table-more plan events place event element at)
    | inr apart ↦
        others element other apart.1
        ∙ before.each element other within
        ∙ sym (table-more plan events place event element at ∙ ap (after_asked (table_after plan (take place events) element)) (asked-elsewhere plan event.what asked element is apart.1))
  ];
}

-- the row of an event that is no command, and of one that is
pub no-row : (plan : Topology) (events : List Event) (place : ℕ) (event : Event) (before : ℕ → ℕ → ℕ → Switches) → slice_get events place ≡ Some event → asked_of plan event.what ≡ None
    → row_at plan events before place ≡ []
no-row plan events place event before at none =
    ap (λ o. option_map_or (λ event. row_of plan (before place event.at) event.at event.what) o []) at
    ∙ ap (λ o. option_map_or (λ asked. command_row plan event.at asked (is_taken (before place event.at asked.element) (command_to plan asked.element event.what))) o []) none

pub one-command : (plan : Topology) (events : List Event) (place : ℕ) (event : Event) (asked : Asked) (tables : List Switches) (other : Switches) (taken : Bool) → slice_get events place ≡ Some event
    → asked_of plan event.what ≡ Some asked → AreTables plan (take place events) tables → asked.element < length plan.elements
    → taken ≡ is_taken (slice_index_or tables asked.element other) (command_by plan asked)
    → row_at plan events (table_at plan events) place ≡ command_row plan event.at asked taken
one-command plan events place event asked tables other taken at is before within told =
    ap (λ o. option_map_or (λ event. row_of plan (table_at plan events place event.at) event.at event.what) o []) at
    ∙ ap (λ o. option_map_or (λ asked. command_row plan event.at asked (is_taken (table_at plan events place event.at asked.element) (command_to plan asked.element event.what))) o []) is
    ∙ ap (command_row plan event.at asked)
    (ap (is_taken (table_after plan (take place events) asked.element)) (asked-here plan event.what asked is)
    ∙ ap (λ s. is_taken s (command_by plan asked)) (sym (before.each asked.element other within))
    ∙ sym told)
