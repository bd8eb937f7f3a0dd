-- What it is to be the first broken rule.
use Rattle.std.proofs.Common.{◌≡◌, ◌↔◌, Bool, true, false, not, ◌&&◌, List, [], ◌∷◌, Option, Some, None, refl, sym, ap}
use Rattle.std.specs.Prelude.{if◌then◌else◌, Ok, Err}
use Rattle.std.specs.List.{list_all}
use Rattle.std.proofs.lemmas.Bool.{and_parts, true≢false}
use Rattle.std.proofs.lemmas.Option.{none-some, same_Some}
use Rattle.sync_topo.specs.declared.error.PlanErr.{PlanErr}
use Rattle.sync_text.specs.declared.errors.NoAnswer.{NoAnswer}
use Rattle.sync_text.specs.declared.errors.NoAnswer.TheVariants.{NoMemory, Refused}
use Rattle.sync_topo.specs.declared.rows.PlanRows.{PlanRows}
use Rattle.sync_topo.specs.Topology.{Topology}
use Rattle.sync_topo.specs.Rules.{Rule, rule}
use Rattle.sync_topo.specs.RowValues.{plan_from}
use Rattle.sync_topo.specs.PlanRows.{rules_of, first_broken, or_refusal, plan_of_rows, AreKept, IsFirstBroken}
use Rattle.sync_text.specs.Gives.{Refuses}
use Rattle.sync_topo.specs.private.Steps.{Tells}
use Rattle.sync_topo.proofs.RowLoops.{kept-front}

-- no rule is broken where none is the first
pub all-kept : (rules : List Rule) → first_broken rules ≡ None → AreKept rules
all-kept [] none = refl
all-kept (first ∷ rules) none = cases first.broken refl none (all-kept rules)
  where
    cases : (b : Bool) → first.broken ≡ b → (if b then Some first.refusal else first_broken rules) ≡ None
        → (first_broken rules ≡ None → AreKept rules) → (not first.broken && list_all (λ (r : Rule). not r.broken) rules) ≡ true
    cases true e h later = absurd (none-some first.refusal (sym h))
    cases false e h later = rw (e, later h) refl

none-broken : (rules : List Rule) → AreKept rules → first_broken rules ≡ None
none-broken [] kept = refl
none-broken (first ∷ rules) kept =
    let parts = and_parts (not first.broken) (list_all (λ (r : Rule). not r.broken) rules) kept in
    cases first.broken parts.0 (none-broken rules parts.1)
  where
    cases : (b : Bool) → not b ≡ true → first_broken rules ≡ None → (if b then Some first.refusal else first_broken rules) ≡ None
    cases true h rest = absurd (true≢false (sym h))
    cases false h rest = rest

-- the first broken rule has kept rules before it, and only those
found-first : (rules : List Rule) (refusal : PlanErr) → first_broken rules ≡ Some refusal → IsFirstBroken rules refusal
found-first [] refusal found = absurd (none-some refusal found)
found-first (first ∷ rules) refusal found = cases first.broken refl found (found-first rules refusal)
  where
    cases : (b : Bool) → first.broken ≡ b → (if b then Some first.refusal else first_broken rules) ≡ Some refusal
        → (first_broken rules ≡ Some refusal → IsFirstBroken rules refusal) → IsFirstBroken (first ∷ rules) refusal
    cases true e here later =
        let same : first ≡ rule refusal true = rw (← same_Some first.refusal refusal here, ← e) refl in
        record { before = []; after = rules; order = ap (λ (r : Rule). r ∷ rules) same; kept = refl }
    cases false e there later =
        let rest = later there in
        record { before = first ∷ rest.before; after = rest.after; order = ap (λ (rs : List Rule). first ∷ rs) rest.order; kept = rw (e, rest.kept) refl }

pub first-found : (rules : List Rule) (refusal : PlanErr) → IsFirstBroken rules refusal → first_broken rules ≡ Some refusal
first-found rules refusal first = rw first.order (kept-front first.before (rule refusal true ∷ first.after) (none-broken first.before first.kept))

-- the rows give what they say exactly where no rule is broken
pub plan-kept : (rows : PlanRows) → (plan_of_rows rows ≡ Ok (plan_from rows)) ↔ AreKept (rules_of rows)
unfolding plan_of_rows
plan-kept rows = (
  λ given. all-kept (rules_of rows) (was (first_broken (rules_of rows)) given),
  λ kept. ap (λ (found : Option PlanErr). or_refusal found (plan_from rows)) (none-broken (rules_of rows) kept),
)
  where
    was : (found : Option PlanErr) → or_refusal found (plan_from rows) ≡ Ok (plan_from rows) → found ≡ None
    was None h = refl
    was (Some refusal) h = absurd (cc)

-- the rows are refused exactly with the first broken rule
pub refused-first : (rows : PlanRows) (refusal : PlanErr) → (plan_of_rows rows ≡ Err refusal) ↔ IsFirstBroken (rules_of rows) refusal
unfolding plan_of_rows
refused-first rows refusal = (
  λ refused. found-first (rules_of rows) refusal (was (first_broken (rules_of rows)) refused),
  λ first. ap (λ (found : Option PlanErr). or_refusal found (plan_from rows)) (first-found (rules_of rows) refusal first),
)
  where
    was : (found : Option PlanErr) → or_refusal found (plan_from rows) ≡ Err refusal → found ≡ Some refusal
    was None h = absurd (cc)
    was (Some other) h = cc

-- what a step tells of all rules is what the rows are refused with
pub Tells-all : (rows : PlanRows) (error : NoAnswer PlanErr) → Tells error (first_broken (rules_of rows)) → Refuses error (plan_of_rows rows)
unfolding plan_of_rows
Tells-all rows NoMemory t = tt
Tells-all rows (Refused error) t = rw t refl

-- the plan of rows that break no rule is what they say
pub kept-plan : (rows : PlanRows) (plan : Topology) → first_broken (rules_of rows) ≡ None → plan ≡ plan_from rows → plan_of_rows rows ≡ Ok plan
unfolding plan_of_rows
kept-plan rows plan none is = rw (none, is) refl
