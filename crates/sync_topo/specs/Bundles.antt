-- Bundles: parallel links that go back together.
use Rattle.std.specs.Prelude.{◌≡◌, ℕ, ◌/◌, Bool, false, ◌&&◌, ◌||◌, ◌==◌, IsTrue, List, length, Option, Some, None, slice_get, find, unwrap_or, option_and_then}
use Rattle.std.specs.List.{range_with_len}
use Rattle.std.specs.Str.{bytes_eq}
use Rattle.sync_topo.specs.declared.link.Link.{Link}
use Rattle.sync_topo.specs.Topology.{Topology}

-- both name a bundle, and it is the same one
abbrev pub is_same_bundle : Option (List ℕ) → Option (List ℕ) → Bool
is_same_bundle None other = false
is_same_bundle (Some one) None = false
is_same_bundle (Some one) (Some other) = bytes_eq one other

-- the bundle that a link names, if it names one
abbrev pub bundle_name : List Link → ℕ → Option (List ℕ)
bundle_name links link = option_and_then (λ l. l.bundle) (slice_get links link)

-- the two are one link, or links that name the same bundle: a link that names none is a bundle of its own
abbrev pub are_of_one_bundle : List Link → ℕ → ℕ → Bool
are_of_one_bundle links one other = one == other || is_same_bundle (bundle_name links one) (bundle_name links other)

-- the lowest-numbered link of a link's bundle
unfoldable pub lowest_of_bundle : List Link → ℕ → ℕ
lowest_of_bundle links link = unwrap_or (find (λ other. are_of_one_bundle links other link) (range_with_len 0 (length links))) link

-- the number that a link's bundle goes by: that of its lowest-numbered link. This project's own.
abbrev pub bundle_of : Topology → ℕ → ℕ
bundle_of plan link = lowest_of_bundle plan.links link

-- the bundle of a line's link
abbrev pub line_bundle : Topology → ℕ → ℕ
line_bundle plan line = bundle_of plan (line / 2)

-- the links of the two lines are of one bundle
abbrev pub are_bundled : Topology → ℕ → ℕ → Bool
are_bundled plan line other = line_bundle plan line == line_bundle plan other

-- the two links join the same two elements, whichever end is a
abbrev pub join_same : Link → Link → Bool
join_same one other = (one.a == other.a && one.b == other.b) || (one.a == other.b && one.b == other.a)

-- links that name the same bundle join the same two elements
abbrev pub BundlesJoin : List Link → Type 0
BundlesJoin links =
    (i j : ℕ) (one other : Link) → slice_get links i ≡ Some one → slice_get links j ≡ Some other
    → IsTrue (is_same_bundle one.bundle other.bundle) → IsTrue (join_same one other)

-- no link names a bundle: as in every plan of version 1
abbrev pub NamesNoBundle : Topology → Type 0
NamesNoBundle plan = (k : ℕ) (link : Link) → slice_get plan.links k ≡ Some link → link.bundle ≡ None
