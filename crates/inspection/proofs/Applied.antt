-- The rows of commands by the tables alone are those by the rules.
use Rattle.std.proofs.Common.{◌≡◌, ◌≤◌, ℕ, zero, suc, true, false, List, [], ◌∷◌, ◌++◌, length, take, Option, None, Some, slice_get, refl, ap, sym, subst, ◌∙◌, arith}
use Rattle.std.specs.Prelude.{nat_lt, replicate, codes}
use Rattle.std.proofs.lemmas.Bool.{ltb-true}
use Rattle.std.specs.List.{concat}
use Rattle.std.specs.Option.{option_map_or}
use Rattle.std.proofs.lemmas.List.Elements.{filter_map-append}
use Rattle.sync_text.specs.Each.{Each}
use Rattle.sync_text.proofs.Each.{Each-map, Each-filter, Each-any, each-at}
use Rattle.sync_ql.specs.declared.rules.Cmd.{Cmd}
use Rattle.sync_ql.specs.Switches.{Switches, unswitched, after_commands}
use Rattle.sync_ql.specs.Moment.{Moment, Settings, switches_at}
use Rattle.sync_ql.proofs.QuietMoments.{switches_at-cons, map-range_same}
use Rattle.sync_topo.specs.declared.event.What.{What}
use Rattle.sync_topo.specs.declared.event.Event.{Event}
use Rattle.sync_topo.specs.Topology.{Topology}
use Rattle.sync_topo.specs.Lines.{inputs_of}
use Rattle.net_rules.specs.Signals.{signals_by, command_to, events_before, events_at}
use Rattle.net_rules.specs.History.{Levels, settings_of, heard, moment_at, element_past, out_at}
use Rattle.net_rules.proofs.NetLaws.{many-inputs}
use Rattle.inspection.specs.declared.asked.Asked.{Asked}
use Rattle.inspection.specs.Commands.{asked_of, command_row, is_taken, row_of, row_at, commands_among, applied_at, commands_part}
use Rattle.inspection.specs.private.Tables.{table_after, table_at, commands_told}
use Rattle.event_times.proofs.Ascending.{Ascend, ascend-before}
use Rattle.inspection.proofs.Ordered.{none-first, before-more, before-before, front-is}
use Rattle.inspection.proofs.Bars.{SameBars, same-commands, same-taken, after-append}

-- the table after more events
pub table-append : (plan : Topology) (events more : List Event) (element : ℕ) → table_after plan (events ++ more) element ≡ after_commands (table_after plan events element) (commands_among plan element more)
unfolding table_after
table-append plan events more element =
    ap (after_commands (unswitched (length (inputs_of plan element)))) (filter_map-append (λ (event : Event). command_to plan element event.what) events more)
    ∙ after-append (commands_among plan element events) (commands_among plan element more) (unswitched (length (inputs_of plan element)))

-- the commands of a millisecond
commands-at : (plan : Topology) (events : List Event) (out : Levels) (element t : ℕ)
    → (moment_at plan (signals_by plan events) (heard plan (signals_by plan events) out) element t).commands ≡ commands_among plan element (events_at t events)
unfolding moment_at
commands-at plan events out element t = refl

-- what a millisecond's end leaves of the bars
end-bars : (settings : Settings) (now : Moment) (before : List Moment) (t : Switches) → SameBars (after_commands (switches_at settings before) now.commands) t → SameBars (switches_at settings (now ∷ before)) t
end-bars settings now before t same =
    subst (λ s. SameBars s t) (sym (switches_at-cons settings now before)) (record { locked = same.locked; forced = same.forced })

-- before the first millisecond nothing is barred
bars-first : (plan : Topology) (element : ℕ) → SameBars (switches_at (settings_of plan element) []) (table_after plan [] element)
unfolding switches_at table_after
bars-first plan element = record { locked = ap (λ n. replicate n false) (many-inputs plan element); forced = refl }

-- the bars of the rules after any milliseconds are those of the table after all commands before
pub bars-after : (plan : Topology) (events : List Event) (out : Levels) (element n : ℕ) → Ascend events
    → SameBars (switches_at (settings_of plan element) (element_past plan (signals_by plan events) out element n)) (table_after plan (events_before n events) element)
bars-after plan events out element zero order =
    subst (λ before. SameBars (switches_at (settings_of plan element) []) (table_after plan before element)) (sym (none-first events)) (bars-first plan element)
bars-after plan events out element (suc t) order =
    let settings : Settings = settings_of plan element in
    let past : List Moment = element_past plan (signals_by plan events) out element t in
    let commands : List Cmd = commands_among plan element (events_at t events) in
    let same : SameBars (after_commands (switches_at settings past) commands) (after_commands (table_after plan (events_before t events) element) commands) =
    same-commands commands (switches_at settings past) (table_after plan (events_before t events) element) (bars-after plan events out element t order) in
    let table : table_after plan (events_before (suc t) events) element ≡ after_commands (table_after plan (events_before t events) element) commands =
    ap (λ before. table_after plan before element) (before-more events t order) ∙ table-append plan (events_before t events) (events_at t events) element in
    end-bars settings (moment_at plan (signals_by plan events) (heard plan (signals_by plan events) out) element t) past (table_after plan (events_before (suc t) events) element)
    (subst (λ told. SameBars (after_commands (switches_at settings past) told) (table_after plan (events_before (suc t) events) element)) (sym (commands-at plan events out element t))
    (subst (SameBars (after_commands (switches_at settings past) commands)) (sym table) same))

-- before an event that is told the bars are the same
applied-same : (plan : Topology) (events : List Event) (n place : ℕ) (event : Event) (element : ℕ) → Ascend events → slice_get (events_before n events) place ≡ Some event → event.at ≤ n
    → SameBars (applied_at plan events (events_before n events) place event.at element) (table_at plan (events_before n events) place event.at element)
unfolding applied_at
applied-same plan events n place event element order at early =
    let told : List Event = events_before n events in
    let here : List Event = events_at event.at (take place told) in
    let commands : List Cmd = commands_among plan element here in
    let out : Levels = out_at plan (signals_by plan events) in
    let before : Switches = switches_at (settings_of plan element) (element_past plan (signals_by plan events) out element event.at) in
    let front : take place told ≡ events_before event.at events ++ here = front-is told place event (ascend-before n events order) at ∙ ap (λ earlier. earlier ++ here) (before-before events event.at n early) in
    let table : table_after plan (take place told) element ≡ after_commands (table_after plan (events_before event.at events) element) commands =
    ap (λ earlier. table_after plan earlier element) front ∙ table-append plan (events_before event.at events) here element in
    subst (SameBars (after_commands before commands)) (sym table)
    (same-commands commands before (table_after plan (events_before event.at events) element) (bars-after plan events out element event.at order))

-- so is the row
row-same : (plan : Topology) (s u : ℕ → Switches) (t : ℕ) (happens : What) → ((element : ℕ) → SameBars (s element) (u element)) → row_of plan s t happens ≡ row_of plan u t happens
row-same plan s u t happens same = by (asked_of plan happens)
  where
    row : (ℕ → Switches) → Asked → List ℕ
    row before asked = command_row plan t asked (is_taken (before asked.element) (command_to plan asked.element happens))

    by : (o : Option Asked) → option_map_or (row s) o [] ≡ option_map_or (row u) o []
    by None = refl
    by (Some asked) = ap (command_row plan t asked) (same-taken (s asked.element) (u asked.element) (command_to plan asked.element happens) (same asked.element))

place-same : (plan : Topology) (events : List Event) (n place : ℕ) → Ascend events → Each (λ event. event.at ≤ n) (events_before n events)
    → row_at plan (events_before n events) (applied_at plan events (events_before n events)) place ≡ row_at plan (events_before n events) (table_at plan (events_before n events)) place
place-same plan events n place order early = by (slice_get (events_before n events) place) refl
  where
    told : List Event
    told = events_before n events

    row : (ℕ → ℕ → ℕ → Switches) → Event → List ℕ
    row before event = row_of plan (before place event.at) event.at event.what

    by : (o : Option Event) → slice_get told place ≡ o → option_map_or (row (applied_at plan events told)) o [] ≡ option_map_or (row (table_at plan told)) o []
    by None at = refl
    by (Some event) at =
        row-same plan (applied_at plan events told place event.at) (table_at plan told place event.at) event.at event.what
        (λ element. applied-same plan events n place event element order at (each-at (λ e. e.at ≤ n) told place event early at))

-- all that is before a millisecond is no later than it
no-later : (events : List Event) (n : ℕ) → Each (λ event. event.at ≤ n) (events_before n events)
no-later events n =
    Each-map (λ event. Unit {0} × (nat_lt event.at n ≡ true)) (λ event. event.at ≤ n) (λ event both. let early = ltb-true event.at n both.1 in omega (arith, early))
    (events_before n events) (Each-filter (λ event. Unit {0}) (λ event. nat_lt event.at n) events (Each-any (λ event. Unit {0}) (λ event. tt) events))

pub commands-same : (plan : Topology) (events : List Event) (n : ℕ) → Ascend events → commands_told plan (events_before n events) ≡ commands_part plan events n
commands-same plan events n order =
    ap (λ rows. codes "commands\n" ++ concat rows)
    (map-range_same (row_at plan (events_before n events) (table_at plan (events_before n events))) (row_at plan (events_before n events) (applied_at plan events (events_before n events))) (length (events_before n events))
    (λ place within. sym (place-same plan events n place order (no-later events n))))
