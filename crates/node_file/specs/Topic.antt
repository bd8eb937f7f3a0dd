-- What the word of a line says of its target. This project's own.
use Rattle.std.specs.Prelude.{ℕ, Bool, ◌||◌, List, codes, Option, None, Some, is_some, option_map, option_and_then, if◌then◌else◌}
use Rattle.std.specs.Str.{bytes_eq}
use Rattle.sync_topo.specs.Topology.{Topology}
use Rattle.event_file.specs.declared.word.WordTarget.{WordTarget}
use Rattle.event_file.specs.declared.word.WordTarget.TheVariants as said
use Rattle.event_file.specs.Words.{word_of, line_named, said_of}
use Rattle.node_file.specs.declared.topic.Topic.{Topic}
use Rattle.node_file.specs.declared.topic.Topic.TheVariants.{Comes, Says}
use Rattle.node_file.specs.NodeRow.{is_of_element, is_at_source, is_frame_line}

-- a word is `frame`, or one of the words of event files
abbrev pub says_frame : List ℕ → Bool
says_frame word = bytes_eq word (codes "frame")

abbrev pub is_word : List ℕ → Bool
is_word word = says_frame word || is_some (word_of word)

-- the value, where a test holds
abbrev pub only_where : {A : Type 0} → (A → Bool) → Option A → Option A
only_where test None = None
only_where test (Some value) = if test value then Some value else None

-- what an event word says is of the element, or of what is there
abbrev pub is_there : Topology → ℕ → WordTarget → Bool
is_there plan element (said.Happens what) = is_of_element plan element what
is_there plan element (said.GetsLevel source) = is_at_source plan element source

-- what a word says of a target: a frame comes on a nominated line into the element; the others are said as in event files,
-- of the element, its sources and the lines into and out of it
abbrev pub topic_of : Topology → ℕ → List ℕ → List ℕ → Option Topic
topic_of plan element word target =
    if says_frame word then option_map Comes (only_where (λ line. is_frame_line plan element line.0) (line_named plan target))
    else option_map Says (only_where (is_there plan element) (option_and_then (λ known. said_of plan known target) (word_of word)))
