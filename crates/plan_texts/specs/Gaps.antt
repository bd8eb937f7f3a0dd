-- The rows of failures that cut somebody off.
use Rattle.std.specs.Prelude.{ℕ, List, [], ◌++◌, map, codes, slice_get, unwrap_or}
use Rattle.std.specs.List.{concat}
use Rattle.std.specs.Option.{option_map_or}
use Rattle.std.specs.Fmt.{decimal}
use Rattle.sync_topo.specs.declared.link.Link.{Link}
use Rattle.sync_topo.specs.Topology.{Topology}
use Rattle.sync_topo.specs.Bundles.{bundle_name}
use Rattle.sync_topo.specs.Lines.{element_name, source_name}
use Rattle.reach_rules.specs.declared.failure.Failure.{Failure}
use Rattle.reach_rules.specs.declared.failure.Failure.TheVariants as fails
use Rattle.protection.specs.declared.gap.Gap.{Gap}

-- the word for what fails, and its name; nothing has none
abbrev pub failure_word : Failure → List ℕ
failure_word fails.Nothing = codes "none"
failure_word (fails.Link link) = codes "link"
failure_word (fails.Bundle link) = codes "bundle"
failure_word (fails.Source source) = codes "source"
failure_word (fails.Element element) = codes "element"
failure_word (fails.Group group) = codes "group"

abbrev pub failure_name : Topology → Failure → List ℕ
failure_name plan fails.Nothing = []
failure_name plan (fails.Link link) = option_map_or (λ (l : Link). l.name) (slice_get plan.links link) []
failure_name plan (fails.Bundle link) = unwrap_or (bundle_name plan.links link) []
failure_name plan (fails.Source source) = source_name plan source
failure_name plan (fails.Element element) = element_name plan element
failure_name plan (fails.Group group) = group.name

-- how many elements it cuts off, and the first of them
abbrev pub cut_text : Topology → Gap → List ℕ
cut_text plan gap = codes "," ++ decimal gap.elements ++ codes "," ++ element_name plan gap.first ++ codes "\n"

-- the row of a failure: the word, the name, and whom it cuts off
abbrev pub gap_row : Topology → Gap → List ℕ
gap_row plan gap = failure_word gap.failure ++ codes "," ++ failure_name plan gap.failure ++ cut_text plan gap

abbrev pub gaps_text : Topology → List Gap → List ℕ
gaps_text plan gaps = codes "kind,failure,elements,first\n" ++ concat (map (gap_row plan) gaps)
