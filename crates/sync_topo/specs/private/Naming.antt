-- How a line is found by its name: what only private clauses cite.
use Rattle.std.specs.Prelude.{◌≡◌, ℕ, ◌+◌, ◌*◌, Bool, false, ◌==◌, if◌then◌else◌, List, ◌++◌, Option, Some, None, slice_get, codes}
use Rattle.std.specs.Option.{option_map_or}
use Rattle.std.specs.List.{list_any}
use Rattle.std.specs.Str.{bytes_eq}
use Rattle.sync_topo.specs.Topology.{Topology}
use Rattle.sync_topo.specs.Lines.{element_name}

-- the sign >, whose code is 62, stands in the bytes
abbrev pub has_sign : List ℕ → Bool
has_sign bytes = list_any (λ byte. byte == 62) bytes

-- the bytes are what stands before their first sign >, the sign, and what stands after it
pub record IsCut (bytes front back : List ℕ) : Type 0 where
  pub whole : bytes ≡ front ++ (codes ">" ++ back)
  pub first : has_sign front ≡ false

-- the line of a link into the element of a name
abbrev pub line_into : Topology → ℕ → List ℕ → Option ℕ
line_into plan k receiver =
    option_map_or (λ link.
    if bytes_eq (element_name plan link.b) receiver then Some (2 * k)
    else if bytes_eq (element_name plan link.a) receiver then Some (2 * k + 1)
    else None) (slice_get plan.links k) None
