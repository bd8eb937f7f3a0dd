-- How what a search finds is tried: what only private clauses cite.
use Rattle.std.specs.Prelude.{ℕ, List, Option, slice_get, unwrap_or}
use Rattle.std.specs.Option.{option_flatten}

-- the bundle of an element in a list; 0 where it has none
abbrev pub bundle_at : List (Option ℕ) → ℕ → ℕ
bundle_at bundles element = unwrap_or (option_flatten (slice_get bundles element)) 0
