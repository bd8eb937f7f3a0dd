-- The table of a sweep, as text. This project's own.
use Rattle.std.specs.Prelude.{ℕ, Bool, true, false, List, [], ◌++◌, slice_get, map, codes, Option, None, Some}
use Rattle.std.specs.List.{concat}
use Rattle.std.specs.Fmt.{decimal}
use Rattle.std.specs.Option.{option_map_or}
use Rattle.sync_ql.specs.Level.{name_of}
use Rattle.sync_topo.specs.declared.link.Link.{Link}
use Rattle.sync_topo.specs.Topology.{Topology}
use Rattle.sync_sweep.specs.declared.outcomes.Outcome.{Outcome}
use Rattle.sync_sweep.specs.declared.row.SweepRow.{SweepRow}

-- the name of a link
abbrev pub link_name : Topology → ℕ → List ℕ
link_name plan link = option_map_or (λ (l : Link). l.name) (slice_get plan.links link) []

abbrev pub settled_word : Bool → List ℕ
settled_word true = codes "yes"
settled_word false = codes "no"

abbrev pub bound_word : Option ℕ → List ℕ
bound_word None = codes "none"
bound_word (Some bound) = decimal bound

-- how many elements are in each state, and how many closed walks there are
abbrev pub counts_text : Outcome → List ℕ
counts_text outcome =
    decimal outcome.locked ++ codes "," ++ decimal outcome.holdover ++ codes "," ++ decimal outcome.free ++ codes "," ++ decimal outcome.loops

-- what becomes of a network: settled,locked,holdover,freerun,loops,worst,bound
abbrev pub results_text : Outcome → List ℕ
results_text outcome =
    settled_word outcome.settled ++ codes "," ++ counts_text outcome ++ codes "," ++ name_of outcome.worst ++ codes "," ++ bound_word outcome.bound

-- a row: link,settled,locked,holdover,freerun,loops,worst,bound
abbrev pub row_text : Topology → SweepRow → List ℕ
row_text plan row = link_name plan row.link ++ codes "," ++ results_text row.outcome ++ codes "\n"

abbrev pub head_text : List ℕ
head_text = codes "link,settled,locked,holdover,freerun,loops,worst,bound\n"

abbrev pub table_text : Topology → List SweepRow → List ℕ
table_text plan rows = head_text ++ concat (map (row_text plan) rows)
