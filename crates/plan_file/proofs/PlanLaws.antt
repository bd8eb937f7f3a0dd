-- When a file is refused, and for what.
use Rattle.std.proofs.Common.{◌≡◌, ℕ, Bool, true, false, List, Option, Some, None, option_and_then, Result, Ok, Err, refl, sym, subst, ◌∙◌, ap, inl, inr}
use Rattle.std.specs.Prelude.{◌≢◌, ◌↔◌, IfOk, not, ◌&&◌, if◌then◌else◌}
use Rattle.toml.specs.Data.{Data, string, integer, float, boolean, datetime, array, table, Members}
use Rattle.sync_topo.specs.declared.place.Place.{Place}
use Rattle.sync_topo.specs.declared.error.PlanErr.{PlanErr}
use Rattle.sync_topo.specs.declared.sizes.Size.{Size}
use Rattle.sync_topo.specs.PlanRows.{plan_of_sized}
use Rattle.sync_topo.specs.Topology.{Topology}
use Rattle.plan_rows.specs.declared.error.PlanFileErr.{PlanFileErr}
use Rattle.plan_rows.specs.declared.error.PlanFileErr.TheVariants.{Syntax, Key as WrongKey, Kind as WrongKind, Plan}
use Rattle.sync_text.specs.Chain.{◌>>=◌, found, unless}
use Rattle.plan_rows.specs.Format.{keys_of, version_of}
use Rattle.plan_rows.specs.declared.version.Version.{Version}
use Rattle.plan_rows.specs.Rules.{has_only, has_needed, keeps_kinds, refusal_of, refusal_at, value_at, IsFirstBroken, KeepsRules}
use Rattle.plan_rows.specs.Rows.{said_rows, rows_of_document}
use Rattle.plan_rows.specs.private.Rows.{first_refusal}
use Rattle.plan_file.specs.PlanText.{document_of, of_rows, plan_of_size, OfDocument, GivesRows}
use Rattle.plan_rows.specs.Gives.{RefusesWhere}
use Rattle.sync_text.specs.declared.errors.NoAnswer.{NoAnswer}
use Rattle.sync_text.specs.declared.errors.NoAnswer.TheVariants.{NoMemory, Refused}
use Rattle.sync_text.specs.Gives.{Gives}
use Rattle.plan_file.proofs.FirstBroken.{keeps, some_at, is_first}

-- the place of a refusal of a table
abbrev pub place_in : PlanFileErr → Option Place
place_in (WrongKey place) = Some place
place_in (WrongKind place) = Some place
place_in error = None

own_place : (version : Version) (place : Place) (value : Data) (refusal : PlanFileErr) → refusal_of version place value ≡ Some refusal → place_in refusal ≡ Some place
unfolding refusal_of
own_place version place (table fields) refusal is =
    by (has_only (keys_of version place.section) fields && has_needed (keys_of version place.section) fields) (keeps_kinds (keys_of version place.section) fields) is
  where
    by : (named kinds : Bool) → (if not named then Some (WrongKey place) else if not kinds then Some (WrongKind place) else None) ≡ Some refusal → place_in refusal ≡ Some place
    by false kinds is = let same : WrongKey place ≡ refusal = cc in rw (← same) refl
    by true false is = let same : WrongKind place ≡ refusal = cc in rw (← same) refl
    by true true is = absurd (cc)
own_place version place (string s) refusal is = let same : WrongKind place ≡ refusal = cc in rw (← same) refl
own_place version place (integer z) refusal is = let same : WrongKind place ≡ refusal = cc in rw (← same) refl
own_place version place (float x) refusal is = let same : WrongKind place ≡ refusal = cc in rw (← same) refl
own_place version place (boolean b) refusal is = let same : WrongKind place ≡ refusal = cc in rw (← same) refl
own_place version place (datetime d) refusal is = let same : WrongKind place ≡ refusal = cc in rw (← same) refl
own_place version place (array ds) refusal is = let same : WrongKind place ≡ refusal = cc in rw (← same) refl

-- a refusal at a place names it
names_place : (document : Members) (place : Place) (refusal : PlanFileErr) → refusal_at document place ≡ Some refusal → place_in refusal ≡ Some place
names_place document place refusal is = by (value_at document place) is
  where
    by : (value : Option Data) → option_and_then (refusal_of (version_of document) place) value ≡ Some refusal → place_in refusal ≡ Some place
    by None is = absurd (cc)
    by (Some value) is = own_place (version_of document) place value refusal is

-- a table is refused exactly where a rule is broken there first
pub table_law : (size : Size) (bytes : List ℕ) (place : Place) (refusal : PlanFileErr) → place_in refusal ≡ Some place
    → (plan_of_size size bytes ≡ Err refusal) ↔ OfDocument bytes (λ document. IsFirstBroken document place refusal)
unfolding plan_of_size rows_of_document
table_law size bytes place refusal named = by (document_of bytes)
  where
    no_rows : (answer : Result Topology PlanErr) → of_rows answer ≡ Err refusal → ⊥
    no_rows (Ok plan) is = absurd (cc)
    no_rows (Err error) is = let same : Plan error ≡ refusal = cc in let none : place_in (Plan error) ≡ Some place = subst (λ r. place_in r ≡ Some place) (sym same) named in absurd (cc)

    by : (document : Option Members)
        → (((found document Syntax >>= λ document. rows_of_document document) >>= λ rows. of_rows (plan_of_sized size rows)) ≡ Err refusal)
        ↔ elim document as (λ _. Type 0) [ None ↦ ⊥ | Some document ↦ IsFirstBroken document place refusal ]
    by None = (λ is. (let same : Syntax ≡ refusal = cc in let none : place_in Syntax ≡ Some place = subst (λ r. place_in r ≡ Some place) (sym same) named in absurd (cc)), λ never. absurd never)
    by (Some document) = of (first_refusal document) refl
      where
        of : (first : Option PlanFileErr) → first_refusal document ≡ first
            → ((unless first (said_rows document) >>= λ rows. of_rows (plan_of_sized size rows)) ≡ Err refusal) ↔ IsFirstBroken document place refusal
        of None is = (
          λ refused. absurd (no_rows (plan_of_sized size (said_rows document)) refused),
          λ broken. absurd (let none = keeps document is place in let some = broken.broken in cc),
        )
        of (Some own) is = (
          λ refused. let (at, broken) = some_at document own is in
              let same : own ≡ refusal = cc in
              let named_at = names_place document at own broken.broken in
              let place_is : at ≡ place = (let there : place_in own ≡ Some place = subst (λ r. place_in r ≡ Some place) (sym same) named in cc) in
              subst (λ p. IsFirstBroken document p refusal) place_is (subst (λ r. IsFirstBroken document at r) same broken),
          λ broken. let first = is_first document place refusal broken in let same : own ≡ refusal = cc in rw same refl,
        )

-- the bytes are refused as such exactly where they are no document
pub syntax_law : (size : Size) (bytes : List ℕ) → (plan_of_size size bytes ≡ Err Syntax) ↔ (document_of bytes ≡ None)
unfolding plan_of_size rows_of_document
syntax_law size bytes = by (document_of bytes)
  where
    no_rows : (answer : Result Topology PlanErr) → of_rows answer ≡ Err Syntax → ⊥
    no_rows (Ok plan) is = absurd (cc)
    no_rows (Err error) is = absurd (cc)

    by : (document : Option Members)
        → (((found document Syntax >>= λ document. rows_of_document document) >>= λ rows. of_rows (plan_of_sized size rows)) ≡ Err Syntax) ↔ (document ≡ None)
    by None = (λ is. refl, λ none. refl)
    by (Some document) = of (first_refusal document) refl
      where
        of : (first : Option PlanFileErr) → first_refusal document ≡ first
            → ((unless first (said_rows document) >>= λ rows. of_rows (plan_of_sized size rows)) ≡ Err Syntax) ↔ (Some document ≡ None)
        of None is = (λ refused. absurd (no_rows (plan_of_sized size (said_rows document)) refused), λ none. absurd (cc))
        of (Some own) is = (
          λ refused. let (at, broken) = some_at document own is in
              let same : own ≡ Syntax = cc in
              let named_at = names_place document at own broken.broken in
              let none : place_in Syntax ≡ Some at = subst (λ r. place_in r ≡ Some at) same named_at in absurd (cc),
          λ none. absurd (cc),
        )

-- the rows of a document that keeps the rules decide
rows_law : (size : Size) (bytes : List ℕ) (answer : Result Topology PlanErr) → (plan_of_size size bytes ≡ of_rows answer) ↔ GivesRows size bytes answer
unfolding plan_of_size rows_of_document
rows_law size bytes answer = by (document_of bytes)
  where
    same_rows : (rows other : Result Topology PlanErr) → of_rows rows ≡ of_rows other → rows ≡ other
    same_rows (Ok plan) (Ok other) is = let same : plan ≡ other = cc in rw same refl
    same_rows (Ok plan) (Err other) is = absurd (cc)
    same_rows (Err error) (Ok other) is = absurd (cc)
    same_rows (Err error) (Err other) is = let same : Plan error ≡ Plan other = cc in let one : error ≡ other = cc in rw one refl

    no_table : (rows : Result Topology PlanErr) (refusal : PlanFileErr) (place : Place) → place_in refusal ≡ Some place → Err refusal ≡ of_rows rows → ⊥
    no_table (Ok plan) refusal place named is = absurd (cc)
    no_table (Err error) refusal place named is =
        let same : refusal ≡ Plan error = cc in
        let none : place_in (Plan error) ≡ Some place = subst (λ r. place_in r ≡ Some place) same named in absurd (cc)

    no_document : (rows : Result Topology PlanErr) → Err Syntax ≡ of_rows rows → ⊥
    no_document (Ok plan) is = absurd (cc)
    no_document (Err error) is = absurd (cc)

    by : (document : Option Members)
        → (((found document Syntax >>= λ document. rows_of_document document) >>= λ rows. of_rows (plan_of_sized size rows)) ≡ of_rows answer)
        ↔ elim document as (λ _. Type 0) [ None ↦ ⊥ | Some document ↦ KeepsRules document × (plan_of_sized size (said_rows document) ≡ answer) ]
    by None = (λ is. absurd (no_document answer is), λ never. absurd never)
    by (Some document) = of (first_refusal document) refl
      where
        of : (first : Option PlanFileErr) → first_refusal document ≡ first
            → ((unless first (said_rows document) >>= λ rows. of_rows (plan_of_sized size rows)) ≡ of_rows answer)
            ↔ (KeepsRules document × (plan_of_sized size (said_rows document) ≡ answer))
        of None is = (λ given. (keeps document is, same_rows (plan_of_sized size (said_rows document)) answer given), λ both. ap of_rows both.1)
        of (Some own) is = (
          λ given. let (at, broken) = some_at document own is in
              absurd (no_table answer own at (names_place document at own broken.broken) given),
          λ both. let (at, broken) = some_at document own is in
              absurd (let none = both.0 at in let some = broken.broken in cc),
        )

-- the plan, and the refusal of the rows
pub plan_law : (size : Size) (bytes : List ℕ) (plan : Topology) → (plan_of_size size bytes ≡ Ok plan) ↔ GivesRows size bytes (Ok plan)
plan_law size bytes plan = rows_law size bytes (Ok plan)

pub refused_rows_law : (size : Size) (bytes : List ℕ) (error : PlanErr) → (plan_of_size size bytes ≡ Err (Plan error)) ↔ GivesRows size bytes (Err error)
refused_rows_law size bytes error = rows_law size bytes (Err error)

-- what the definition refuses is refused, unless out of memory
pub refuses_where : {A : Type 0} (result : Result A (NoAnswer PlanFileErr)) (answer : Result A PlanFileErr) (refusal : PlanFileErr) (Fact : Type 0)
    → Gives result answer → ((answer ≡ Err refusal) ↔ Fact) → RefusesWhere result refusal Fact
refuses_where (Ok value) answer refusal Fact gives law =
    inr (λ is. absurd (cc), λ fact. let is = law.1 fact in absurd (cc))
refuses_where (Err NoMemory) answer refusal Fact gives law = inl refl
refuses_where (Err (Refused error)) answer refusal Fact gives law =
    inr (
      λ is. let same : error ≡ refusal = cc in law.0 (rw same at gives),
      λ fact. let is = law.1 fact in let same : error ≡ refusal = cc in rw same refl,
    )

pub gives_plan : (size : Size) (bytes : List ℕ) (result : Result Topology (NoAnswer PlanFileErr)) → Gives result (plan_of_size size bytes) → IfOk result (λ plan. GivesRows size bytes (Ok plan))
gives_plan size bytes (Ok plan) gives = (plan_law size bytes plan).0 gives
gives_plan size bytes (Err error) gives = tt
