-- Files of one element that can be read by hand, and what a network brings to one.
use Rattle.std.specs.Prelude.{◌≡◌, ℕ, ◌++◌, List, [], ◌∷◌, map, codes, true, false, Option, None, Some, unwrap_or, refl}
use Rattle.std.proofs.Common.{inr}
use native.Mathlib.Decide.{dec_lt}
use Rattle.sync_ql.specs.declared.levels.NetOption.TheVariants.{I}
use Rattle.sync_ql.specs.declared.levels.Level.{Level}
use Rattle.sync_ql.specs.Level.{level_of_name, do_not_use_of}
use Rattle.sync_ql.specs.Condition.{failed_at}
use Rattle.sync_ql.specs.Messages.{came, heard_at}
use Rattle.sync_ql.specs.Moment.{switches_at, selection_at}
use Rattle.sync_ql.specs.Output.{clock_level_at}
use Rattle.sync_topo.specs.declared.event.Event.{Event}
use Rattle.sync_topo.specs.declared.event.Part.TheVariants as part
use Rattle.sync_topo.specs.declared.event.What.{What}
use Rattle.sync_topo.specs.declared.event.What.TheVariants.{Down, Up, EsmcOff, SourceLevel, Forced, Clear}
use Rattle.sync_topo.specs.Topology.{Topology}
use Rattle.sync_topo.specs.Lines.{line_input}
use Rattle.sync_topo.specs.Bundles.{lowest_of_bundle}
use Rattle.sync_topo.specs.private.Examples.{element}
use Rattle.net_rules.specs.Signals.{signals_by, up_at, esmc_at, said_at, source_level_at}
use Rattle.net_rules.specs.History.{settings_of, heard, moment_at, sent_level, out_at}
use Rattle.node_file.specs.declared.row.NodeWord.TheVariants.{Frame, Happens}
use Rattle.node_file.specs.declared.row.NodeRow.{NodeRow}
use Rattle.node_rules.specs.Replay.{heard_in, node_taken, node_out, out_past, sends_frame, is_event}
use Rattle.node_rules.specs.Brought.{brought}
use Rattle.node_rules.specs.FromNetwork.{network_out, is_told_to, even_line, odd_line, on_lines, told_to, AreGivenAs}

-- the names of levels
abbrev named : List ℕ → Level
named name = unwrap_or (level_of_name I name) (do_not_use_of I)

-- two elements, of which the second may take the first over a line of delay 2, and a source at the first
abbrev chain : Topology
chain = record {
  option = I;
  elements = element (codes "A") ∷ element (codes "B") ∷ [];
  links = record { name = codes "L1"; a = 0; b = 1; priority_a = 0; priority_b = 1; delay_a = 2; delay_b = 2; bundle = None } ∷ [];
  sources = record { name = codes "S"; at = 0; level = named (codes "QL-PRC"); priority = 1 } ∷ [];
}

-- a frame on the line to B with a level, or with codes that name none, and what happens there
abbrev frame : ℕ → Option Level → NodeRow
frame at level = record { at = at; word = Frame (record { 0 = 0 }) level }

abbrev happens : ℕ → What → NodeRow
happens at what = record { at = at; word = Happens what }

abbrev prc : Level
prc = named (codes "QL-PRC")

abbrev ssu_a : Level
ssu_a = named (codes "QL-SSU-A")

-- what B hears from A in some milliseconds
abbrev hears : List NodeRow → List ℕ → List (Option Level)
hears rows times = map (heard_in chain rows 0) times

frame_is_heard : hears (frame 2 (Some prc) ∷ []) (1 ∷ 2 ∷ 3 ∷ []) ≡ None ∷ Some prc ∷ Some prc ∷ []
unfolding heard_in up_at dec_lt
frame_is_heard = refl

-- of two in one millisecond the last counts, and what happens between them doesn't part them
last_frame_counts : hears (frame 2 (Some prc) ∷ happens 2 (Clear 1) ∷ frame 2 (Some ssu_a) ∷ []) (2 ∷ 3 ∷ []) ≡ Some ssu_a ∷ Some ssu_a ∷ []
unfolding heard_in up_at dec_lt
last_frame_counts = refl

-- a frame on a line that is down at the end of its millisecond doesn't count, and what was heard before is heard on
down_frame_is_lost :
    hears (frame 2 (Some prc) ∷ happens 3 (Down (even_line 0)) ∷ frame 4 (Some ssu_a) ∷ happens 5 (Up (even_line 0)) ∷ []) (3 ∷ 4 ∷ 5 ∷ 6 ∷ [])
    ≡ Some prc ∷ Some prc ∷ Some prc ∷ Some prc ∷ []
unfolding heard_in up_at dec_lt
down_frame_is_lost = refl

-- one before the line is up again in the same millisecond counts, and one before it goes down doesn't
end_of_millisecond_decides :
    hears (happens 1 (Down (even_line 0)) ∷ frame 3 (Some prc) ∷ happens 3 (Up (even_line 0)) ∷ []) (3 ∷ []) ++ hears (frame 3 (Some prc) ∷ happens 3 (Down (even_line 0)) ∷ []) (3 ∷ [])
    ≡ Some prc ∷ None ∷ []
unfolding heard_in up_at dec_lt
end_of_millisecond_decides = refl

-- codes that name no level are heard as none, and hide what was heard before
no_level_hides : hears (frame 2 (Some prc) ∷ frame 4 None ∷ []) (3 ∷ 4 ∷ 5 ∷ []) ≡ Some prc ∷ None ∷ None ∷ []
unfolding heard_in up_at dec_lt
no_level_hides = refl

-- a level is heard for five seconds
heard_for_five_seconds : hears (frame 2 (Some prc) ∷ []) (5001 ∷ 5002 ∷ []) ≡ Some prc ∷ None ∷ []
unfolding heard_in up_at dec_lt
heard_for_five_seconds = refl

-- ---- what an element is told

-- a link touches both its elements, a line its receiver and its sender, and ESMC is told to the sender. A's source is
-- told to A alone, and what isn't nominated is no input: line 1 into A
told_or_not :
    map (λ element. is_told_to chain element (Down (part.Link 0))) (0 ∷ 1 ∷ []) ++ map (λ element. is_told_to chain element (Up (even_line 0))) (0 ∷ 1 ∷ [])
    ++ map (λ element. is_told_to chain element (EsmcOff (record { 0 = 0 }))) (0 ∷ 1 ∷ []) ++ map (λ element. is_told_to chain element (SourceLevel 0 ssu_a)) (0 ∷ 1 ∷ [])
    ++ map (λ element. is_told_to chain element (Forced (line_input 0))) (0 ∷ 1 ∷ []) ++ map (λ element. is_told_to chain element (Forced (line_input 1))) (0 ∷ 1 ∷ [])
    ≡ true ∷ true ∷ true ∷ true ∷ true ∷ false ∷ true ∷ false ∷ false ∷ true ∷ false ∷ false ∷ []
told_or_not = refl

abbrev event : ℕ → What → Event
event at what = record { at = at; what = what }

-- an event on a link is given on both its lines, in its place
abbrev cut : List Event
cut = event 1 (EsmcOff (record { 0 = 1 })) ∷ event 3 (Down (part.Link 0)) ∷ event 3 (SourceLevel 0 ssu_a) ∷ event 5 (Up (part.Link 0)) ∷ []

given_on_lines :
    on_lines (told_to chain 1 cut)
    ≡ event 1 (EsmcOff (record { 0 = 1 })) ∷ event 3 (Down (even_line 0)) ∷ event 3 (Down (odd_line 0)) ∷ event 5 (Up (even_line 0)) ∷ event 5 (Up (odd_line 0)) ∷ []
given_on_lines = refl

either_line_first : AreGivenAs (event 3 (Down (part.Link 0)) ∷ []) (event 3 (Down (odd_line 0)) ∷ event 3 (Down (even_line 0)) ∷ [])
either_line_first = ([], inr refl, refl)

-- ---- what a network brings to an element

-- B hears the source's level after a delay; what is on its way when the link goes down is lost, and what A says when it is
-- up again comes a delay later
what_comes_to_b :
    brought chain cut 1 8
    ≡ happens 1 (EsmcOff (record { 0 = 1 })) ∷ frame 2 (Some prc) ∷ happens 3 (Down (even_line 0)) ∷ happens 3 (Down (odd_line 0))
    ∷ happens 5 (Up (even_line 0)) ∷ happens 5 (Up (odd_line 0)) ∷ frame 7 (Some ssu_a) ∷ []
unfolding failed_at switches_at selection_at clock_level_at came heard_at up_at esmc_at said_at source_level_at heard settings_of moment_at sent_level out_at lowest_of_bundle dec_lt
what_comes_to_b = refl

abbrev frames : List NodeRow
frames = frame 2 (Some prc) ∷ frame 1002 (Some prc) ∷ []

network_hears_the_same :
    map (heard chain (signals_by chain []) (network_out chain []) 0) (0 ∷ 1 ∷ 2 ∷ 3 ∷ []) ≡ hears frames (0 ∷ 1 ∷ 2 ∷ 3 ∷ [])
unfolding heard_in failed_at switches_at selection_at clock_level_at came heard_at up_at esmc_at said_at source_level_at heard settings_of moment_at sent_level out_at lowest_of_bundle dec_lt
network_hears_the_same = refl

-- B then takes the line, and gives do-not-use back on it
takes_the_line : map (node_taken chain frames 1) (1 ∷ 2 ∷ []) ≡ None ∷ Some (line_input 0) ∷ []
unfolding heard_in failed_at switches_at selection_at up_at esmc_at said_at source_level_at settings_of moment_at node_taken lowest_of_bundle dec_lt
takes_the_line = refl

gives_do_not_use_back : map (node_out chain frames 1 1) (1 ∷ 2 ∷ []) ≡ named (codes "QL-SEC") ∷ do_not_use_of I ∷ []
unfolding heard_in failed_at switches_at selection_at clock_level_at up_at esmc_at said_at source_level_at settings_of moment_at node_out lowest_of_bundle dec_lt
gives_do_not_use_back = refl

-- it sends a frame at first and at a change, which is an event message
sends_at_a_change :
    map (sends_frame chain frames 1 1) (0 ∷ 1 ∷ 2 ∷ 3 ∷ []) ++ map (λ t. is_event (out_past chain frames 1 1 t)) (1 ∷ 3 ∷ [])
    ≡ true ∷ false ∷ true ∷ false ∷ false ∷ true ∷ []
unfolding heard_in failed_at switches_at selection_at clock_level_at up_at esmc_at said_at source_level_at settings_of moment_at node_out lowest_of_bundle dec_lt
sends_at_a_change = refl
