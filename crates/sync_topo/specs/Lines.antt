-- Lines and inputs: each link is two lines, one for each direction, and an element takes its timing from nominated lines and sources.
use Rattle.std.specs.Prelude.{ℕ, ◌+◌, ◌-◌, ◌*◌, ◌/◌, ◌%◌, ◌<◌, Bool, ◌&&◌, ◌==◌, nat_eq, nat_lt, false, position, IsTrue, if◌then◌else◌, List, [], ◌++◌, length, map, filter, find, codes, Option, slice_get, option_map}
use Rattle.std.specs.Option.{option_map_or, option_or}
use Rattle.std.specs.List.{range_with_len}
use Rattle.std.specs.Str.{bytes_eq}
use Rattle.sync_topo.specs.declared.link.Link.{Link}
use Rattle.sync_topo.specs.declared.input.LineId.{LineId}
use Rattle.sync_topo.specs.declared.input.InputId.{InputId}
use Rattle.sync_topo.specs.declared.input.InputId.TheVariants.{Line, Source}
use Rattle.sync_topo.specs.Topology.{Topology}
use Rattle.sync_topo.specs.Names.{source_names, place_of}

-- how many lines a plan has: two for each link
abbrev pub line_count : Topology → ℕ
line_count plan = 2 * length plan.links

-- the link that a line is one direction of
abbrev pub link_of : Topology → ℕ → Option Link
link_of plan line = slice_get plan.links (line / 2)

-- line 2k runs from end a of link k to its end b, and line 2k + 1 from b to a
abbrev pub ends_at_b : ℕ → Bool
ends_at_b line = line % 2 == 0

-- the numbers of some lines
abbrev pub numbers : List LineId → List ℕ
numbers lines = map (λ line. line.0) lines

-- the element that a line brings timing from; 0 where there is no such line
abbrev pub sender_of : Topology → ℕ → ℕ
sender_of plan line = option_map_or (λ link. if ends_at_b line then link.a else link.b) (link_of plan line) 0

-- the element that a line brings timing to; 0 where there is no such line
abbrev pub receiver_of : Topology → ℕ → ℕ
receiver_of plan line = option_map_or (λ link. if ends_at_b line then link.b else link.a) (link_of plan line) 0

-- the other direction of a line's link
abbrev pub reverse_of : ℕ → ℕ
reverse_of line = if ends_at_b line then line + 1 else line - 1

-- how many milliseconds a message takes on a line; 0 where there is no such line
abbrev pub delay_of : Topology → ℕ → ℕ
delay_of plan line = option_map_or (λ link. if ends_at_b line then link.delay_b else link.delay_a) (link_of plan line) 0

-- the priority that the receiver gives a line; 0 where there is no such line
abbrev pub priority_of : Topology → ℕ → ℕ
priority_of plan line =
    option_map_or (λ link. if ends_at_b line then link.priority_b else link.priority_a) (link_of plan line) 0

-- the receiver may take its timing from the line: it gives it a priority. After G.781, nominated input.
abbrev pub is_nominated : Topology → ℕ → Bool
is_nominated plan line = nat_lt 0 (priority_of plan line)

-- the receiver gives the line a priority
abbrev pub IsNominated : Topology → ℕ → Type 0
IsNominated plan line = IsTrue (is_nominated plan line)

-- the element of a source; 0 where there is no such source
abbrev pub element_of_source : Topology → ℕ → ℕ
element_of_source plan source = option_map_or (λ s. s.at) (slice_get plan.sources source) 0

-- the priority that its element gives a source; 0 where there is no such source
abbrev pub source_priority : Topology → ℕ → ℕ
source_priority plan source = option_map_or (λ s. s.priority) (slice_get plan.sources source) 0

-- the plan has the input
abbrev pub IsInput : Topology → InputId → Type 0
IsInput plan (Line line) = line.0 < line_count plan
IsInput plan (Source source) = source < length plan.sources

-- the number that an input goes by: a line's is the line's own, and those of the sources come after all lines
abbrev pub input_number : Topology → InputId → ℕ
input_number plan (Line line) = line.0
input_number plan (Source source) = line_count plan + source

-- the priority that an element gives an input
abbrev pub input_priority : Topology → InputId → ℕ
input_priority plan (Line line) = priority_of plan line.0
input_priority plan (Source source) = source_priority plan source

-- the element may take its timing from the input. After G.781, nominated input.
abbrev pub is_nominated_input : Topology → InputId → Bool
is_nominated_input plan input = nat_lt 0 (input_priority plan input)

-- the nominated lines into an element, in order
abbrev pub lines_into : Topology → ℕ → List ℕ
lines_into plan element =
    filter (λ line. is_nominated plan line && receiver_of plan line == element) (range_with_len 0 (line_count plan))

-- the nominated sources at an element, in order
abbrev pub sources_at : Topology → ℕ → List ℕ
sources_at plan element =
    filter (λ source. nat_lt 0 (source_priority plan source) && element_of_source plan source == element) (range_with_len 0 (length plan.sources))

-- the input that a line is
abbrev pub line_input : ℕ → InputId
line_input line = Line (record { 0 = line })

-- the inputs of an element, in order of number: the nominated lines into it, and then the nominated sources at it
abbrev pub inputs_of : Topology → ℕ → List InputId
inputs_of plan element = map line_input (lines_into plan element) ++ map Source (sources_at plan element)

-- the line of a number
abbrev pub line_id : ℕ → LineId
line_id line = record { 0 = line }

-- the nominated lines out of an element, in order of number
abbrev pub lines_out : Topology → ℕ → List LineId
lines_out plan element =
    map line_id (filter (λ line. is_nominated plan line && sender_of plan line == element) (range_with_len 0 (line_count plan)))

-- the element of an input: a line's receiver, and a source's own
abbrev pub element_of : Topology → InputId → ℕ
element_of plan (Line line) = receiver_of plan line.0
element_of plan (Source source) = element_of_source plan source

-- two inputs are the same
abbrev pub is_same_input : InputId → InputId → Bool
is_same_input (Line a) (Line b) = nat_eq a.0 b.0
is_same_input (Source a) (Source b) = nat_eq a b
is_same_input a b = false

-- the place of an input among those of an element; one that isn't nominated there has none
abbrev pub place_at : Topology → ℕ → InputId → Option ℕ
place_at plan element input = position (is_same_input input) (inputs_of plan element)

-- an element's name; empty where there is no such element
abbrev pub element_name : Topology → ℕ → List ℕ
element_name plan element = option_map_or (λ e. e.name) (slice_get plan.elements element) []

-- a line's name: its link's name, the sign >, and its receiver's name, as L1>B
abbrev pub line_name : Topology → ℕ → List ℕ
line_name plan line =
    option_map_or (λ link. link.name) (link_of plan line) [] ++ codes ">" ++ element_name plan (receiver_of plan line)

-- a source's name; empty where there is no such source
abbrev pub source_name : Topology → ℕ → List ℕ
source_name plan source = option_map_or (λ s. s.name) (slice_get plan.sources source) []

-- an input's name: the line's or the source's
abbrev pub input_name : Topology → InputId → List ℕ
input_name plan (Line line) = line_name plan line.0
input_name plan (Source source) = source_name plan source

-- the line of a name
abbrev pub line_of_name : Topology → List ℕ → Option ℕ
line_of_name plan name = find (λ line. bytes_eq (line_name plan line) name) (range_with_len 0 (line_count plan))

-- the input of a name: the line, or else the source
abbrev pub input_of_name : Topology → List ℕ → Option InputId
input_of_name plan name =
    option_or (option_map line_input (line_of_name plan name)) (option_map Source (place_of (source_names plan.sources) name))
