-- The words in which elements are told of events.
use Rattle.std.specs.Prelude.{ℕ, ◌+◌, ◌*◌, Bool, true, false, nat_eq, if◌then◌else◌, List, [], ◌∷◌, ◌++◌, Option, None, Some}
use Rattle.sync_ql.specs.declared.rules.Cmd.TheVariants as command
use Rattle.sync_ql.specs.declared.rules.InputEvent.{InputEvent}
use Rattle.sync_ql.specs.declared.rules.InputEvent.TheVariants as tell
use Rattle.sync_topo.specs.declared.input.InputId.{InputId}
use Rattle.sync_topo.specs.declared.input.InputId.TheVariants.{Line, Source}
use Rattle.sync_topo.specs.declared.event.Part.{Part}
use Rattle.sync_topo.specs.declared.event.Part.TheVariants as part
use Rattle.sync_topo.specs.declared.event.What.{What}
use Rattle.sync_topo.specs.declared.event.What.TheVariants.{Down, Up, EsmcOff, EsmcOn, SourceLevel, Lockout, Unlock, Forced, Manual, Clear, ClearWtr}
use Rattle.sync_topo.specs.declared.event.Event.{Event}
use Rattle.sync_topo.specs.Topology.{Topology}
use Rattle.sync_topo.specs.Lines.{line_input, place_at}
use Rattle.net_words.specs.declared.input_words.Saying.{Saying}
use Rattle.net_words.specs.declared.input_words.Saying.TheVariants.{IsUp, HasLevel, IsCleared, IsLocked, IsUnlocked, IsForced, IsManual}

-- what is said of the input at a place
abbrev pub said_as : Saying → ℕ → InputEvent
said_as (IsUp up) place = tell.Signal place up
said_as (HasLevel level) place = tell.Heard place (Some level)
said_as IsCleared place = tell.ClearWtr place
said_as IsLocked place = tell.Command (command.Lockout place)
said_as IsUnlocked place = tell.Command (command.Unlock place)
said_as IsForced place = tell.Command (command.Forced place)
said_as IsManual place = tell.Command (command.Manual place)

-- what is said of an input is told to an element where it is an input of that element
abbrev pub word_at : Saying → Option ℕ → List InputEvent
word_at saying None = []
word_at saying (Some place) = said_as saying place ∷ []

abbrev pub input_words : Topology → Saying → InputId → ℕ → List InputEvent
input_words plan saying input element = word_at saying (place_at plan element input)

-- an element is told of a part that goes down or comes up: of both lines of a link
abbrev pub part_words : Topology → Bool → Part → ℕ → List InputEvent
part_words plan up (part.Link link) element =
    input_words plan (IsUp up) (line_input (2 * link)) element ++ input_words plan (IsUp up) (line_input (2 * link + 1)) element
part_words plan up (part.Line line) element = input_words plan (IsUp up) (Line line) element
part_words plan up (part.Source source) element = input_words plan (IsUp up) (Source source) element

-- one event alone is told to one element
abbrev pub only_to : ℕ → InputEvent → ℕ → List InputEvent
only_to one event element = if nat_eq one element then event ∷ [] else []

-- what an element is told of an event at once: all but levels
abbrev pub words_of : Topology → What → ℕ → List InputEvent
words_of plan (Down part) element = part_words plan false part element
words_of plan (Up part) element = part_words plan true part element
words_of plan (EsmcOff line) element = []
words_of plan (EsmcOn line) element = []
words_of plan (SourceLevel source level) element = []
words_of plan (Lockout input) element = input_words plan IsLocked input element
words_of plan (Unlock input) element = input_words plan IsUnlocked input element
words_of plan (Forced input) element = input_words plan IsForced input element
words_of plan (Manual input) element = input_words plan IsManual input element
words_of plan (Clear one) element = only_to one (tell.Command command.Clear) element
words_of plan (ClearWtr input) element = input_words plan IsCleared input element

abbrev pub all_words : Topology → List Event → ℕ → List InputEvent
all_words plan [] element = []
all_words plan (event ∷ events) element = words_of plan event.what element ++ all_words plan events element
