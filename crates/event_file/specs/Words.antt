-- The words for what happens, and what they are said of. This project's own.
use Rattle.std.specs.Prelude.{◌<◌, ℕ, List, [], length, codes, Option, Some, None, option_map, if◌then◌else◌}
use Rattle.std.specs.Option.{option_or}
use Rattle.std.specs.Str.{bytes_eq}
use Rattle.sync_ql.specs.declared.levels.NetOption.{NetOption}
use Rattle.sync_ql.specs.Level.{level_of_name}
use Rattle.sync_topo.specs.declared.input.LineId.{LineId}
use Rattle.sync_topo.specs.declared.event.Part.{Part}
use Rattle.sync_topo.specs.declared.event.Part.TheVariants as part
use Rattle.sync_topo.specs.declared.event.What.{What}
use Rattle.sync_topo.specs.declared.event.What.TheVariants as what
use Rattle.sync_topo.specs.Topology.{Topology}
use Rattle.sync_topo.specs.Names.{place_of, element_names, link_names, source_names}
use Rattle.sync_topo.specs.Lines.{line_of_name, input_of_name}
use Rattle.sync_topo.specs.Events.{MayHappen}
use Rattle.event_file.specs.declared.word.Word.{Word}
use Rattle.event_file.specs.declared.word.Word.TheVariants as word
use Rattle.event_file.specs.declared.word.WordTarget.{WordTarget}
use Rattle.event_file.specs.declared.word.WordTarget.TheVariants.{Happens, GetsLevel}

-- the word that some bytes are
abbrev pub word_of : List ℕ → Option Word
word_of bytes =
    if bytes_eq bytes (codes "down") then Some word.Down
    else if bytes_eq bytes (codes "up") then Some word.Up
    else if bytes_eq bytes (codes "esmc-off") then Some word.EsmcOff
    else if bytes_eq bytes (codes "esmc-on") then Some word.EsmcOn
    else if bytes_eq bytes (codes "level") then Some word.Level
    else if bytes_eq bytes (codes "lockout") then Some word.Lockout
    else if bytes_eq bytes (codes "unlock") then Some word.Unlock
    else if bytes_eq bytes (codes "forced") then Some word.Forced
    else if bytes_eq bytes (codes "manual") then Some word.Manual
    else if bytes_eq bytes (codes "clear") then Some word.Clear
    else if bytes_eq bytes (codes "clear-wtr") then Some word.ClearWtr
    else None

-- the line of a name, as it is named in events
abbrev pub line_named : Topology → List ℕ → Option LineId
line_named plan name = option_map (λ line. record { 0 = line }) (line_of_name plan name)

-- the link, the line or the source of a name: a link stands for both its lines
abbrev pub part_of_name : Topology → List ℕ → Option Part
part_of_name plan name =
    option_or (option_map part.Link (place_of (link_names plan.links) name))
    (option_or (option_map part.Line (line_named plan name)) (option_map part.Source (place_of (source_names plan.sources) name)))

-- what a word says of the target of a name, if it is said of one: `down` and `up` of links, lines and sources; `esmc-off`
-- and `esmc-on` of lines; `level` of sources; `clear` of elements; and the other words of lines and sources
abbrev pub said_of : Topology → Word → List ℕ → Option WordTarget
said_of plan word.Down name = option_map (λ p. Happens (what.Down p)) (part_of_name plan name)
said_of plan word.Up name = option_map (λ p. Happens (what.Up p)) (part_of_name plan name)
said_of plan word.EsmcOff name = option_map (λ l. Happens (what.EsmcOff l)) (line_named plan name)
said_of plan word.EsmcOn name = option_map (λ l. Happens (what.EsmcOn l)) (line_named plan name)
said_of plan word.Level name = option_map GetsLevel (place_of (source_names plan.sources) name)
said_of plan word.Lockout name = option_map (λ i. Happens (what.Lockout i)) (input_of_name plan name)
said_of plan word.Unlock name = option_map (λ i. Happens (what.Unlock i)) (input_of_name plan name)
said_of plan word.Forced name = option_map (λ i. Happens (what.Forced i)) (input_of_name plan name)
said_of plan word.Manual name = option_map (λ i. Happens (what.Manual i)) (input_of_name plan name)
said_of plan word.Clear name = option_map (λ e. Happens (what.Clear e)) (place_of (element_names plan.elements) name)
said_of plan word.ClearWtr name = option_map (λ i. Happens (what.ClearWtr i)) (input_of_name plan name)

-- what happens, by the value: it is empty, but for a level, which it names
abbrev pub what_of : NetOption → WordTarget → List ℕ → Option What
what_of option (Happens happens) value = if bytes_eq value [] then Some happens else None
what_of option (GetsLevel source) value = option_map (what.SourceLevel source) (level_of_name option value)

-- what is said may happen to the plan, or is of one of its sources
abbrev pub IsSaid : Topology → WordTarget → Type 0
IsSaid plan (Happens happens) = MayHappen plan happens
IsSaid plan (GetsLevel source) = source < length plan.sources
