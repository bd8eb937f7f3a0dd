-- The rules at networks that can be counted by hand.
use Rattle.std.specs.Prelude.{◌≡◌, ℕ, List, [], ◌∷◌, map, codes, Option, None, Some, unwrap_or, refl, true, false, ◌++◌}
use native.Mathlib.Decide.{dec_lt}
use Rattle.sync_ql.specs.declared.levels.NetOption.TheVariants.{I}
use Rattle.sync_ql.specs.declared.levels.Level.{Level}
use Rattle.sync_ql.specs.Level.{level_of_name, do_not_use_of}
use Rattle.sync_ql.specs.declared.rules.Cmd.TheVariants as command
use Rattle.sync_ql.specs.Pasts.{past_of}
use Rattle.sync_ql.specs.Condition.{failed_at}
use Rattle.sync_ql.specs.Messages.{LineMoment, is_sent, came, heard_at}
use Rattle.sync_ql.specs.Moment.{switches_at, selection_at}
use Rattle.sync_ql.specs.Output.{clock_level_at}
use Rattle.sync_topo.specs.declared.input.InputId.{InputId}
use Rattle.sync_topo.specs.declared.input.InputId.TheVariants.{Source}
use Rattle.sync_topo.specs.declared.event.Event.{Event}
use Rattle.sync_topo.specs.declared.event.Part.TheVariants as part
use Rattle.sync_topo.specs.declared.event.What.{What}
use Rattle.sync_topo.specs.declared.event.What.TheVariants.{Down, Up, EsmcOff, EsmcOn, SourceLevel, Lockout, Unlock, Forced, Manual, Clear, ClearWtr}
use Rattle.sync_topo.specs.Topology.{Topology}
use Rattle.sync_topo.specs.Lines.{line_input}
use Rattle.sync_topo.specs.Bundles.{lowest_of_bundle}
use Rattle.sync_topo.specs.private.Examples.{element}
use Rattle.net_rules.specs.Signals.{signals_by, up_at, esmc_at, said_at, source_level_at}
use Rattle.net_rules.specs.History.{settings_of, heard, moment_at, taken_at, level_at, failed_by, sent_level, out_at}
use Rattle.net_rules.specs.Activity.{touches, is_busy}

-- two elements, and a link between them that is nominated at both ends
abbrev pair : ℕ → Topology
pair delay = record {
  option = I;
  elements = element (codes "A") ∷ element (codes "B") ∷ [];
  links = record { name = codes "L1"; a = 0; b = 1; priority_a = 1; priority_b = 1; delay_a = delay; delay_b = delay; bundle = None } ∷ [];
  sources = [];
}

-- what an element takes in some milliseconds
abbrev taken : Topology → List Event → ℕ → List ℕ → List (Option InputId)
taken plan events element times = map (taken_at plan (signals_by plan events) (out_at plan (signals_by plan events)) element) times

-- with a delay of 2 the elements face each other at 2 and 3, and not at 1 and 4
pair_faces_for_a_delay : taken (pair 2) [] 0 (1 ∷ 2 ∷ 3 ∷ 4 ∷ []) ≡ None ∷ Some (line_input 1) ∷ Some (line_input 1) ∷ None ∷ []
unfolding failed_at switches_at selection_at clock_level_at came heard_at up_at esmc_at said_at source_level_at heard settings_of moment_at taken_at level_at sent_level out_at lowest_of_bundle dec_lt
pair_faces_for_a_delay = refl

-- the names of levels
abbrev named : List ℕ → Level
named name = unwrap_or (level_of_name I name) (do_not_use_of I)

-- three elements one after another, each of which may take the one before, and a source at the first
abbrev chain : Topology
chain = record {
  option = I;
  elements = element (codes "A") ∷ element (codes "B") ∷ element (codes "C") ∷ [];
  links = record { name = codes "L1"; a = 0; b = 1; priority_a = 0; priority_b = 1; delay_a = 10; delay_b = 10; bundle = None }
      ∷ record { name = codes "L2"; a = 1; b = 2; priority_a = 0; priority_b = 1; delay_a = 10; delay_b = 10; bundle = None } ∷ [];
  sources = record { name = codes "S"; at = 0; level = named (codes "QL-PRC"); priority = 1 } ∷ [];
}

-- the level of an element in some milliseconds
abbrev levels : Topology → List Event → ℕ → List ℕ → List Level
levels plan events element times = map (level_at plan (signals_by plan events) (out_at plan (signals_by plan events)) element) times

-- the source's level comes to B after one delay and to C after two
level_goes_along : levels chain [] 2 (0 ∷ 10 ∷ 19 ∷ 20 ∷ []) ≡ named (codes "QL-SEC") ∷ named (codes "QL-SEC") ∷ named (codes "QL-SEC") ∷ named (codes "QL-PRC") ∷ []
unfolding failed_at switches_at selection_at clock_level_at came heard_at up_at esmc_at said_at source_level_at heard settings_of moment_at taken_at level_at sent_level out_at lowest_of_bundle dec_lt
level_goes_along = refl

takes_what_it_hears : taken chain [] 1 (0 ∷ 9 ∷ 10 ∷ []) ≡ None ∷ None ∷ Some (line_input 0) ∷ []
unfolding failed_at switches_at selection_at clock_level_at came heard_at up_at esmc_at said_at source_level_at heard settings_of moment_at taken_at level_at sent_level out_at lowest_of_bundle dec_lt
takes_what_it_hears = refl

-- C hears B's own level first, and takes it
takes_the_first_level : taken chain [] 2 (9 ∷ 10 ∷ 19 ∷ 20 ∷ []) ≡ None ∷ Some (line_input 2) ∷ Some (line_input 2) ∷ Some (line_input 2) ∷ []
unfolding failed_at switches_at selection_at clock_level_at came heard_at up_at esmc_at said_at source_level_at heard settings_of moment_at taken_at level_at sent_level out_at lowest_of_bundle dec_lt
takes_the_first_level = refl

-- two elements with two links between them, of one bundle: do-not-use goes back on both
abbrev bundled : Topology
bundled = record {
  option = I;
  elements = element (codes "A") ∷ element (codes "B") ∷ [];
  links = record { name = codes "L1"; a = 0; b = 1; priority_a = 1; priority_b = 1; delay_a = 1; delay_b = 1; bundle = Some (codes "T") }
      ∷ record { name = codes "L2"; a = 0; b = 1; priority_a = 1; priority_b = 1; delay_a = 1; delay_b = 1; bundle = Some (codes "T") } ∷ [];
  sources = [];
}

bundle_faces_once : taken bundled [] 0 (0 ∷ 1 ∷ 2 ∷ []) ≡ None ∷ Some (line_input 1) ∷ None ∷ []
unfolding failed_at switches_at selection_at clock_level_at came heard_at up_at esmc_at said_at source_level_at heard settings_of moment_at taken_at level_at sent_level out_at lowest_of_bundle dec_lt
bundle_faces_once = refl

-- what happens at a millisecond
abbrev event : ℕ → What → Event
event at what = record { at = at; what = what }

-- an event on a link is one on both its lines, and is in force in its own millisecond
abbrev link_down : List Event
link_down = event 1 (Down (part.Link 0)) ∷ event 4 (Up (part.Link 0)) ∷ []

link_is_both_lines :
    map (up_at link_down (line_input 0)) (0 ∷ 1 ∷ 3 ∷ 4 ∷ []) ++ map (up_at link_down (line_input 1)) (0 ∷ 1 ∷ 3 ∷ 4 ∷ []) ++ map (up_at link_down (line_input 2)) (1 ∷ [])
    ≡ true ∷ false ∷ false ∷ true ∷ true ∷ false ∷ false ∷ true ∷ true ∷ []
unfolding up_at
link_is_both_lines = refl

-- of two in one millisecond the last counts
last_counts : up_at (event 2 (Down (part.Line (record { 0 = 0 }))) ∷ event 2 (Up (part.Line (record { 0 = 0 }))) ∷ []) (line_input 0) 2 ≡ true
unfolding up_at
last_counts = refl

esmc_off_and_on : map (esmc_at (event 1 (EsmcOff (record { 0 = 0 })) ∷ event 3 (EsmcOn (record { 0 = 0 })) ∷ []) 0) (0 ∷ 1 ∷ 2 ∷ 3 ∷ []) ≡ true ∷ false ∷ false ∷ true ∷ []
unfolding esmc_at
esmc_off_and_on = refl

-- a source that is down keeps the level that it had, and has the one last said when it is up again
level_is_kept :
    map (source_level_at chain (event 2 (Down (part.Source 0)) ∷ event 3 (SourceLevel 0 (named (codes "QL-SSU-A"))) ∷ event 4 (Up (part.Source 0)) ∷ []) 0) (2 ∷ 3 ∷ 4 ∷ [])
    ≡ named (codes "QL-PRC") ∷ named (codes "QL-PRC") ∷ named (codes "QL-SSU-A") ∷ []
unfolding source_level_at said_at up_at dec_lt
level_is_kept = refl

-- one that is down from the start has the plan's level
level_of_a_start :
    source_level_at chain (event 0 (Down (part.Source 0)) ∷ event 0 (SourceLevel 0 (named (codes "QL-SSU-A"))) ∷ []) 0 0 ≡ named (codes "QL-PRC")
unfolding source_level_at said_at up_at dec_lt
level_of_a_start = refl

-- commands name an input by its place; one on an input that isn't nominated, or of another element, is none
abbrev commands : List Event
commands = event 1 (Lockout (Source 0)) ∷ event 1 (Forced (line_input 1)) ∷ event 1 (Manual (line_input 0)) ∷ event 1 (Clear 0) ∷ event 2 (Unlock (Source 0)) ∷ []

commands_come_to_their_elements :
    map (λ element. (signals_by chain commands).commands element 1) (0 ∷ 1 ∷ 2 ∷ [])
    ≡ (command.Lockout 0 ∷ command.Clear ∷ []) ∷ (command.Manual 0 ∷ []) ∷ [] ∷ []
commands_come_to_their_elements = refl

clear_of_its_input : map (λ input. (signals_by chain (event 1 (ClearWtr (line_input 0)) ∷ [])).clear input 1) (line_input 0 ∷ line_input 2 ∷ []) ≡ true ∷ false ∷ []
clear_of_its_input = refl

-- a link touches both its elements, a line its receiver, and a source that isn't nominated nobody
abbrev idle_source : Topology
idle_source = record {
  option = I;
  elements = chain.elements;
  links = chain.links;
  sources = record { name = codes "S"; at = 0; level = named (codes "QL-PRC"); priority = 0 } ∷ [];
}

what_touches :
    map (λ element. touches chain element (Down (part.Link 0))) (0 ∷ 1 ∷ 2 ∷ [])
    ++ map (λ element. touches chain element (EsmcOff (record { 0 = 2 }))) (0 ∷ 1 ∷ 2 ∷ [])
    ++ map (λ element. touches chain element (Forced (Source 0))) (0 ∷ 1 ∷ [])
    ++ map (λ element. touches idle_source element (Down (part.Source 0))) (0 ∷ 1 ∷ [])
    ≡ true ∷ true ∷ false ∷ false ∷ false ∷ true ∷ true ∷ false ∷ false ∷ false ∷ []
what_touches = refl

-- a line that speaks with one level
abbrev speaking : LineMoment
speaking = record { up = true; esmc = true; level = Some (named (codes "QL-PRC")) }

abbrev cut : LineMoment
cut = record { up = false; esmc = true; level = Some (named (codes "QL-PRC")) }

-- a message arrives a delay later, and on a line that went down meanwhile it is lost
message_arrives : came 2 (speaking ∷ speaking ∷ speaking ∷ []) ≡ Some (named (codes "QL-PRC"))
unfolding came dec_lt
message_arrives = refl

message_is_lost : came 2 (speaking ∷ cut ∷ speaking ∷ []) ≡ None
unfolding came dec_lt
message_is_lost = refl

-- one goes out with news, and then each second
sent_each_second : map (λ n. is_sent (past_of (λ t. speaking) n)) (1 ∷ 2 ∷ 1000 ∷ 1001 ∷ 1002 ∷ []) ≡ true ∷ false ∷ false ∷ true ∷ false ∷ []
unfolding dec_lt
sent_each_second = refl

-- busy are the milliseconds in which something arrives or changes
when_busy : map (is_busy (pair 2) []) (0 ∷ 1 ∷ 2 ∷ 3 ∷ 4 ∷ []) ≡ true ∷ false ∷ true ∷ false ∷ true ∷ []
unfolding failed_at switches_at selection_at clock_level_at came heard_at up_at esmc_at said_at source_level_at heard settings_of moment_at taken_at level_at sent_level out_at failed_by lowest_of_bundle dec_lt
when_busy = refl
