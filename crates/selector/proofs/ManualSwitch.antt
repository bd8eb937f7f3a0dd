-- When a manual switch stands.
use Rattle.std.proofs.Common.{◌≡◌, ◌<◌, ◌↔◌, ℕ, Bool, true, false, not, ◌&&◌, List, length, get_or, Option, None, Some, IsTrue, MatchOption, refl, ap, ◌∙◌}
use Rattle.std.proofs.lemmas.Bool.{and_parts}
use Rattle.sync_ql.specs.declared.rules.Candidate.{Candidate}
use Rattle.sync_ql.specs.Selection.{candidate, is_eligible, is_better, manual_stands, ManualStands}
use Rattle.selector.specs.private.Scanned.{IsFirstBestAt}
use Rattle.selector.proofs.Eligible.{read_is, none_passes, none_passes-true, none_passes-false}
use Rattle.selector.proofs.FirstBest.{none_better_than_best}

-- one to an eligible input stands where the best one's level isn't better
pub stands_by_best : (inputs : List Candidate) (i manual : ℕ) (best_read manual_read : Candidate) → IsFirstBestAt inputs (length inputs) i → best_read ≡ get_or inputs i best_read → manual_read ≡ get_or inputs manual manual_read → manual < length inputs → is_eligible manual_read ≡ true →
    manual_stands inputs (Some manual) ≡ not (is_better best_read.level manual_read.level)
stands_by_best inputs i manual best_read manual_read first best_is manual_is within eligible =
    let best = read_is inputs i best_read best_is first.within in
    let switched = read_is inputs manual manual_read manual_is within in
    ap (λ b. is_eligible (candidate inputs manual) && b) (none_better_than_best inputs i first (candidate inputs manual))
    ∙ rw (best, switched, eligible) refl

-- whether an input has a better level than that of the switch
abbrev is_better_than : List Candidate → ℕ → Candidate → Bool
is_better_than inputs manual other = is_better other.level (candidate inputs manual).level

to_facts : (inputs : List Candidate) (manual : ℕ) → IsTrue (manual_stands inputs (Some manual)) → ManualStands inputs manual
to_facts inputs manual stands =
    let parts = and_parts (is_eligible (candidate inputs manual)) (none_passes (is_better_than inputs manual) inputs) stands in
    record {
      eligible = parts.0;
      none_better = λ k eligible better. let fails = none_passes-false (is_better_than inputs manual) inputs k eligible better in cc;
    }

from_facts : (inputs : List Candidate) (manual : ℕ) → ManualStands inputs manual → IsTrue (manual_stands inputs (Some manual))
from_facts inputs manual facts =
    rw (facts.eligible) (none_passes-true (is_better_than inputs manual) inputs (λ k eligible. fails k eligible (is_better_than inputs manual (candidate inputs k)) refl))
  where
    fails : (k : ℕ) → is_eligible (candidate inputs k) ≡ true → (b : Bool) → is_better_than inputs manual (candidate inputs k) ≡ b → is_better_than inputs manual (candidate inputs k) ≡ false
    fails k eligible true better = absurd (facts.none_better k eligible better)
    fails k eligible false not_better = not_better

-- the test is the fact; without a switch none stands
pub stands_in_facts : (inputs : List Candidate) (manual : Option ℕ) → MatchOption manual (manual_stands inputs manual ≡ false) (λ i. IsTrue (manual_stands inputs manual) ↔ ManualStands inputs i)
stands_in_facts inputs None = refl
stands_in_facts inputs (Some manual) = (to_facts inputs manual, from_facts inputs manual)
