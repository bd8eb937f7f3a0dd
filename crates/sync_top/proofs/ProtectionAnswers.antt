-- That `protected` has one answer, with groups and without, and the same where there is no group.
use Rattle.std.proofs.Common.{◌≡◌, ℕ, List, [], sym, ◌∙◌, ap, subst}
use Rattle.std.specs.Prelude.{◌↔◌}
use Rattle.std.specs.List.{Contains}
use Rattle.std.proofs.lemmas.List.{append-nil}
use Rattle.std.proofs.lemmas.List.Elements.{All-nil, All-contains}
use Rattle.sync_topo.specs.Topology.{Topology}
use Rattle.reach_rules.specs.declared.failure.Failure.{Failure}
use Rattle.reach_rules.specs.declared.failure.Failure.TheVariants as fails
use Rattle.reach_rules.specs.declared.group.Group.{Group}
use Rattle.reach_rules.specs.Protection.{IsFailureOf, IsFailureAmong, IsProtectedFrom, IsProtected, IsProtectedWith}
use Rattle.protection.specs.declared.gap.Gap.{Gap}
use Rattle.protection.specs.Gaps.{failures_of, failures_with, AreRowsOf, AreGaps, AreGapsWith}
use Rattle.protection.proofs.GapLaws.{one-list, one-list_with, protected-gaps, protected-gaps_with}
use Rattle.plan_texts.specs.Gaps.{gaps_text}
use Rattle.sync_top.specs.declared.status.Status.{Status}
use Rattle.sync_top.specs.Forms.Protected.{IsShieldText, AreGapRows, IsProtectedText}
use Rattle.sync_top.specs.Forms.Groups.{IsGroupsText}
use Rattle.sync_top.specs.Status.{OnDoneOrRefuted}
use Rattle.sync_top.proofs.OneEnd.{IsOne, one-refuted, refuted-more}

-- one thing is found, where the rows are one list, and none of a plan that is protected
one_found : (plan : Topology) (Protected : Type 0) (Are : List Gap → Type 0) → ((gaps others : List Gap) → Are gaps → Are others → others ≡ gaps)
    → ((gaps : List Gap) → Are gaps → Protected → gaps ≡ []) → IsOne (λ status text. OnDoneOrRefuted status (IsShieldText Protected text) (AreGapRows plan Are text))
one_found plan Protected Are one none =
    one-refuted (IsShieldText Protected) (AreGapRows plan Are)
    (λ text another first second. first.1 ∙ sym second.1)
    (λ text another first second. first.3 ∙ ap (gaps_text plan) (one second.0 first.0 second.1 first.1) ∙ sym second.3)
    (λ text another shields cuts. cuts.2 (none cuts.0 cuts.1 shields.0))

pub one_protected : (plan : Topology) → IsOne (IsProtectedText plan)
one_protected plan = one_found plan (IsProtected plan) (AreGaps plan) (one-list plan) (protected-gaps plan)

pub one_protected_with : (plan : Topology) (groups : List Group) → IsOne (IsGroupsText plan groups)
one_protected_with plan groups = one_found plan (IsProtectedWith plan groups) (AreGapsWith plan groups) (one-list_with plan groups) (protected-gaps_with plan groups)

-- with no group it is what is found of the plan alone
no-group : (group : Group) → Contains [] group → ⊥
no-group group is = All-contains (λ (other : Group). ⊥) [] group (All-nil (λ (other : Group). ⊥)) is

alone-with : (plan : Topology) → IsProtected plan → (failure : Failure) → IsFailureAmong plan [] failure → IsProtectedFrom plan failure
alone-with plan protected (fails.Group group) is = absurd (no-group group is)
alone-with plan protected fails.Nothing is = protected fails.Nothing is
alone-with plan protected (fails.Link k) is = protected (fails.Link k) is
alone-with plan protected (fails.Bundle k) is = protected (fails.Bundle k) is
alone-with plan protected (fails.Source k) is = protected (fails.Source k) is
alone-with plan protected (fails.Element k) is = protected (fails.Element k) is

with-alone : (plan : Topology) → IsProtectedWith plan [] → (failure : Failure) → IsFailureOf plan failure → IsProtectedFrom plan failure
with-alone plan protected (fails.Group group) is = absurd is
with-alone plan protected fails.Nothing is = protected fails.Nothing is
with-alone plan protected (fails.Link k) is = protected (fails.Link k) is
with-alone plan protected (fails.Bundle k) is = protected (fails.Bundle k) is
with-alone plan protected (fails.Source k) is = protected (fails.Source k) is
with-alone plan protected (fails.Element k) is = protected (fails.Element k) is

same-failures : (plan : Topology) → failures_with plan [] ≡ failures_of plan
same-failures plan = append-nil (failures_of plan)

same-rows : (plan : Topology) (gaps : List Gap) → AreGapsWith plan [] gaps → AreGaps plan gaps
same-rows plan gaps = subst (λ failures. AreRowsOf plan failures gaps) (same-failures plan)

rows-same : (plan : Topology) (gaps : List Gap) → AreGaps plan gaps → AreGapsWith plan [] gaps
rows-same plan gaps = subst (λ failures. AreRowsOf plan failures gaps) (sym (same-failures plan))

pub no-groups : (plan : Topology) (status : Status) (text : List ℕ) → IsGroupsText plan [] status text ↔ IsProtectedText plan status text
no-groups plan status text = (
  refuted-more status (λ found. (with-alone plan found.0, found.1)) (λ found. (found.0, same-rows plan found.0 found.1, found.2, found.3)),
  refuted-more status (λ found. (alone-with plan found.0, found.1)) (λ found. (found.0, rows-same plan found.0 found.1, found.2, found.3)),
)
