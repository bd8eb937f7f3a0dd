-- The first broken rule, row by row.
use Rattle.std.proofs.Common.{◌≡◌, true, false, List, [], ◌∷◌, ◌++◌, map, Option, Some, None, refl, sym, ◌∙◌, append_assoc}
use Rattle.std.specs.Prelude.{if◌then◌else◌}
use Rattle.std.specs.Option.{option_or}
use Rattle.std.proofs.lemmas.List.{map-append}
use Rattle.sync_topo.specs.declared.error.PlanErr.{PlanErr}
use Rattle.sync_text.specs.declared.errors.NoAnswer.{NoAnswer}
use Rattle.sync_text.specs.declared.errors.NoAnswer.TheVariants.{NoMemory, Refused}
use Rattle.sync_topo.specs.Rules.{Rule}
use Rattle.sync_topo.specs.PlanRows.{first_broken}
use Rattle.sync_topo.specs.private.Steps.{Tells, rows_from}

-- the first broken rule of two lists
pub first_broken-append : (xs ys : List Rule) → first_broken (xs ++ ys) ≡ option_or (first_broken xs) (first_broken ys)
first_broken-append [] ys = refl
first_broken-append (x ∷ xs) ys =
    rw (first_broken-append xs ys) (elim (x.broken) as (λ b. (if b then Some x.refusal else option_or (first_broken xs) (first_broken ys)) ≡ option_or (if b then Some x.refusal else first_broken xs) (first_broken ys)) [ true ↦ refl | false ↦ refl ])

-- what is told of a list of rules is told of it and what comes after it
pub Tells-front : (error : NoAnswer PlanErr) (xs ys : List Rule) → Tells error (first_broken xs) → Tells error (first_broken (xs ++ ys))
Tells-front NoMemory xs ys t = tt
Tells-front (Refused error) xs ys t = first_broken-append xs ys ∙ (rw t refl)

-- rules that are kept change nothing for those after them
pub kept-front : (xs ys : List Rule) → first_broken xs ≡ None → first_broken (xs ++ ys) ≡ first_broken ys
kept-front xs ys kept = first_broken-append xs ys ∙ (rw kept refl)

-- a loop over rows has come to a row that breaks no rule: what is left is the same
pub loop-kept : {A : Type 0} (rules : List A → A → List Rule) (own : List Rule) (before : List A) (row : A) (rest items : List A) (total : Option PlanErr)
    → own ≡ rules before row → items ≡ row ∷ rest → first_broken (rows_from rules before items) ≡ total → first_broken own ≡ None
    → first_broken (rows_from rules (before ++ row ∷ []) rest) ≡ total
loop-kept rules own before row rest items total is next so_far kept =
    sym (kept-front (rules before row) (rows_from rules (before ++ row ∷ []) rest) (rw is at kept)) ∙ rw next at so_far

-- or to one that does: its refusal is that of all rows
pub loop-refused : {A : Type 0} (rules : List A → A → List Rule) (own : List Rule) (before : List A) (row : A) (rest items : List A) (total : Option PlanErr) (error : NoAnswer PlanErr)
    → own ≡ rules before row → items ≡ row ∷ rest → first_broken (rows_from rules before items) ≡ total → Tells error (first_broken own) → Tells error total
loop-refused rules own before row rest items total error is next so_far tells =
    let here : Tells error (first_broken (rules before row)) = rw is at tells in
    let there : first_broken (rows_from rules before (row ∷ rest)) ≡ total = rw next at so_far in
    rw (← there) (Tells-front error (rules before row) (rows_from rules (before ++ row ∷ []) rest) here)

-- one row more is behind
pub whole-more : {A : Type 0} (before : List A) (row : A) (rest items all : List A) → items ≡ row ∷ rest → before ++ items ≡ all → (before ++ row ∷ []) ++ rest ≡ all
whole-more before row rest items all next whole = append_assoc before (row ∷ []) rest ∙ rw next at whole

pub made-more : {A B : Type 0} (make : A → B) (before : List A) (row : A) (old now : List B) (last : B)
    → old ≡ map make before → now ≡ old ++ last ∷ [] → last ≡ make row → now ≡ map make (before ++ row ∷ [])
made-more make before row old now last made pushed is = rw (pushed, made, is, map-append make before (row ∷ [])) refl
