-- How the bundles of a plan's links are kept: what only private clauses cite.
use Rattle.std.specs.Prelude.{◌≡◌, ℕ, ◌<◌, Bool, List, length, Option, Some, slice_get, find, option_and_then}
use Rattle.std.specs.List.{range_with_len}
use Rattle.sync_topo.specs.declared.link.Link.{Link}
use Rattle.sync_topo.specs.Bundles.{is_same_bundle, bundle_name, lowest_of_bundle}
use Rattle.sync_topo.specs.Names.{place_of}

-- the link names the bundle
abbrev pub names_bundle : List Link → List ℕ → ℕ → Bool
names_bundle links name link = is_same_bundle (bundle_name links link) (Some name)

-- the lowest-numbered link that names the bundle
abbrev pub first_of_bundle : List Link → List ℕ → Option ℕ
first_of_bundle links name = find (names_bundle links name) (range_with_len 0 (length links))

-- the number that stands beside a name
abbrev pub first_beside : List (List ℕ) → List ℕ → List ℕ → Option ℕ
first_beside names firsts name = option_and_then (slice_get firsts) (place_of names name)

-- beside each bundle's name stands its first link, and the number of each link's bundle is kept
pub record AreBundlesOf (names : List (List ℕ)) (firsts numbers : List ℕ) (links : List Link) : Type 0 where
  pub paired : length firsts ≡ length names
  pub found : (name : List ℕ) → first_beside names firsts name ≡ first_of_bundle links name
  pub counted : length numbers ≡ length links
  pub kept : (link : ℕ) → link < length links → slice_get numbers link ≡ Some (lowest_of_bundle links link)
