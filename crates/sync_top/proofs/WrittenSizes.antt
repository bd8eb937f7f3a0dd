-- What is written is not too long for a file that goes with its plan.
use Rattle.std.proofs.Common.{◌≡◌, ℕ, ◌≤◌, Bool, true, false, ◌&&◌, nat_le, List, length, refl, arith}
use Rattle.std.specs.Prelude.{Result, Ok, Err, IfOk, if◌then◌else◌}
use Rattle.std.proofs.lemmas.Bool.{and_parts, leb-true}
use Rattle.sync_text.specs.declared.errors.NoMemory.{NoMemory}
use Rattle.sync_topo.specs.declared.sizes.Size.{Size}
use Rattle.sync_topo.specs.declared.sizes.Size.TheVariants.{Standard, Large}
use Rattle.sync_topo.specs.Topology.{Topology}
use Rattle.sync_topo.specs.WellFormed.{IsWellFormed}
use Rattle.sync_topo.specs.Sizes.{most_elements, most_links, most_sources, is_within, is_standard, size_of}
use Rattle.sync_topo.proofs.SizedPlans.{well-within}
use Rattle.plan_file.specs.Spelling.{plan_size}
use Rattle.rank_cert.specs.CertificateText.{certificate_size}
use Rattle.prio_mode.specs.ForcedText.{forced_size}
use Rattle.sync_top.specs.Reading.{file_limit}

-- a plan is no larger than its own size
own-size : (plan : Topology) → IsWellFormed plan → is_within (size_of plan) plan ≡ true
unfolding size_of
own-size plan well = by (is_standard plan) refl
  where
    by : (standard : Bool) → is_standard plan ≡ standard → is_within (if standard then Standard else Large) plan ≡ true
    by true standard = standard
    by false large = well-within plan well

-- so that it has no more of each than its size allows
pub record IsFew (plan : Topology) (size : Size) : Type 0 where
  pub elements : length plan.elements ≤ most_elements size
  pub links : length plan.links ≤ most_links size
  pub sources : length plan.sources ≤ most_sources size

few : (plan : Topology) → IsWellFormed plan → IsFew plan (size_of plan)
few plan well =
    let size : Size = size_of plan in
    let elements : Bool = nat_le (length plan.elements) (most_elements size) in
    let links : Bool = nat_le (length plan.links) (most_links size) in
    let sources : Bool = nat_le (length plan.sources) (most_sources size) in
    let all = and_parts (elements && links) sources (own-size plan well) in
    let both = and_parts elements links all.0 in
    record {
      elements = leb-true (length plan.elements) (most_elements size) both.0;
      links = leb-true (length plan.links) (most_links size) both.1;
      sources = leb-true (length plan.sources) (most_sources size) all.1;
    }

pub plan-fits : (plan : Topology) → IsWellFormed plan → plan_size plan ≤ file_limit (size_of plan)
plan-fits plan well = by (size_of plan) (few plan well)
  where
    by : (size : Size) → IsFew plan size → plan_size plan ≤ file_limit size
    by Standard few = omega (arith, few.elements, few.links, few.sources)
    by Large few = omega (arith, few.elements, few.links, few.sources)

pub certificate-fits : (plan : Topology) → IsWellFormed plan → certificate_size plan ≤ file_limit (size_of plan)
certificate-fits plan well = by (size_of plan) (few plan well)
  where
    by : (size : Size) → IsFew plan size → certificate_size plan ≤ file_limit size
    by Standard few = omega (arith, few.links)
    by Large few = omega (arith, few.links)

pub forced-fits : (plan : Topology) → IsWellFormed plan → forced_size plan ≤ file_limit (size_of plan)
forced-fits plan well = by (size_of plan) (few plan well)
  where
    by : (size : Size) → IsFew plan size → forced_size plan ≤ file_limit size
    by Standard few = omega (arith, few.elements)
    by Large few = omega (arith, few.elements)

-- a text that is no longer than one bound is no longer than a greater one
pub still-short : (result : Result (List ℕ) NoMemory) (bound limit : ℕ) → bound ≤ limit → IfOk result (λ text. length text ≤ bound) → IfOk result (λ text. length text ≤ limit)
still-short (Ok text) bound limit less short = omega (arith, less, short)
still-short (Err error) bound limit less short = tt
