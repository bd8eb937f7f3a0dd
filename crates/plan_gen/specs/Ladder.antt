-- The ladder: a plan of any number of elements, to try things on. This project's own.
use Rattle.std.specs.Prelude.{ℕ, ◌-◌, zero, suc, List, [], ◌∷◌, ◌++◌, map, flat_map, codes, None, unwrap_or}
use Rattle.std.specs.List.{range_with_len}
use Rattle.std.specs.Fmt.{decimal}
use Rattle.sync_ql.specs.declared.levels.NetOption.TheVariants.{I}
use Rattle.sync_ql.specs.declared.levels.Level.{Level}
use Rattle.sync_ql.specs.Level.{level_of_name, do_not_use_of}
use Rattle.sync_topo.specs.declared.element.Element.{Element}
use Rattle.sync_topo.specs.declared.link.Link.{Link}
use Rattle.sync_topo.specs.declared.source.Source.{Source}
use Rattle.sync_topo.specs.Topology.{Topology}

-- a name of a letter and a number, as E7
abbrev pub numbered : List ℕ → ℕ → List ℕ
numbered letter number = letter ++ decimal number

-- the level of a name in option I
abbrev pub level_named : List ℕ → Level
level_named name = unwrap_or (level_of_name I name) (do_not_use_of I)

-- element j, of which a plan file says nothing but the name
abbrev pub ladder_element : ℕ → Element
ladder_element j = record { name = numbered (codes "E") j; own = level_named (codes "QL-SEC"); floor = None; holdoff = 300; wtr = 300000 }

-- a link from an earlier element up to element j, which alone may take its timing from it
abbrev pub link_up : List ℕ → ℕ → ℕ → ℕ → Link
link_up letter from j priority =
    record { name = numbered letter j; a = from; b = j; priority_a = 0; priority_b = priority; delay_a = 10; delay_b = 10; bundle = None }

-- the step from the element before, and the rail from the one before that, which comes first in priority
abbrev pub step : ℕ → Link
step j = link_up (codes "S") (j - 1) j 2

abbrev pub rail : ℕ → Link
rail j = link_up (codes "R") (j - 2) j 1

-- the links up to element j: none to element 0, only the step to element 1, and a step and a rail to each later one
abbrev pub links_up_to : ℕ → List Link
links_up_to zero = []
links_up_to (suc zero) = step 1 ∷ []
links_up_to (suc (suc i)) = step (suc (suc i)) ∷ rail (suc (suc i)) ∷ []

-- a source of priority 1 at an element
abbrev pub ladder_source : List ℕ → ℕ → List ℕ → Source
ladder_source name at level = record { name = name; at = at; level = level_named level; priority = 1 }

-- the ladder of n elements: its elements by number, the links up to each of them in turn, and two sources at its foot
abbrev pub ladder : ℕ → Topology
ladder n = record {
  option = I;
  elements = map ladder_element (range_with_len 0 n);
  links = flat_map links_up_to (range_with_len 0 n);
  sources = ladder_source (codes "P0") 0 (codes "QL-PRC") ∷ ladder_source (codes "P1") 1 (codes "QL-SSU-A") ∷ [];
}
