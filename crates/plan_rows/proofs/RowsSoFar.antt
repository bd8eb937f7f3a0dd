-- The rows that are read so far, and those of the entries that are left.
use Rattle.std.proofs.Common.{◌≡◌, ℕ, ◌+◌, List, [], ◌∷◌, ◌++◌, map, Option, Some, None, Result, Ok, Err, refl, sym}
use Rattle.std.specs.Option.{option_or}
use Rattle.toml.specs.Data.{Data, string, integer, float, boolean, datetime, array, table, Members}
use Rattle.sync_topo.specs.declared.rows.PlanRows.{PlanRows}
use Rattle.sync_topo.specs.declared.place.Section.TheVariants.{Head, Elements, Links, Sources}
use Rattle.sync_topo.specs.declared.place.Section.{Section}
use Rattle.sync_topo.specs.declared.place.Place.{Place}
use Rattle.plan_rows.specs.declared.version.Version.{Version}
use Rattle.plan_rows.specs.declared.version.Version.TheVariants.{One, Two}
use Rattle.plan_rows.specs.Format.{keys_of, version_of}
use Rattle.plan_rows.specs.declared.error.PlanFileErr.{PlanFileErr}
use Rattle.sync_text.specs.Chain.{◌>>=◌, unless}
use Rattle.plan_rows.specs.Rules.{refusal_of, entries_of}
use Rattle.plan_rows.specs.Rows.{first_from, element_row, link_row, source_row, said_rows, rows_of_document}
use Rattle.plan_rows.specs.private.Slots.{slots_of}
use Rattle.plan_rows.specs.private.Values.{rows_from, head_said, head_in}
use Rattle.plan_rows.proofs.ValueFacts.{refusal_is}

-- the rows before these, where there are these
abbrev pub with_front : {A E : Type 0} → List A → Result (List A) E → Result (List A) E
with_front front (Ok rows) = Ok (front ++ rows)
with_front front (Err refusal) = Err refusal

-- the row of the first entry, and those of the others
first_and_rest : {A : Type 0} (here : Option PlanFileErr) (later : Option PlanFileErr) (first : A) (rest : List A)
    → unless (option_or here later) (first ∷ rest) ≡ (unless here first >>= λ one. unless later rest >>= λ more. Ok (one ∷ more))
first_and_rest None None first rest = refl
first_and_rest None (Some refusal) first rest = refl
first_and_rest (Some refusal) later first rest = refl

-- the rows of all entries, or the first refusal among them
pub rows_are : {A : Type 0} (version : Version) (row : Data → A) (section : Section) (n : ℕ) (entries : List Data)
    → unless (first_from version section n entries) (map row entries) ≡ rows_from version row section n entries
rows_are version row section n [] = refl
rows_are version row section n (entry ∷ entries) =
    rw (← rows_are version row section (n + 1) entries)
    (first_and_rest (refusal_of version (record { section = section; row = n }) entry) (first_from version section (n + 1) entries) (row entry) (map row entries))

-- a step that may be refused, before the others
step : {A B : Type 0} (first : Result A PlanFileErr) (here later : Option PlanFileErr) (value : A) (all : B) (next : A → Result B PlanFileErr)
    → unless here value ≡ first → next value ≡ unless later all → (first >>= next) ≡ unless (option_or here later) all
step first None later value all next is others = rw (← is) others
step first (Some refusal) later value all next is others = rw (← is) refl

last_step : {A B : Type 0} (last : Result A PlanFileErr) (here : Option PlanFileErr) (value : A) (all : A → B)
    → unless here value ≡ last → (last >>= λ v. Ok (all v)) ≡ unless here (all value)
last_step last None value all is = rw (← is) refl
last_step last (Some refusal) value all is = rw (← is) refl

-- versions with the same keys for a section refuse the same of it
pub refusal-same : (version other : Version) (place : Place) (entry : Data) → keys_of version place.section ≡ keys_of other place.section
    → refusal_of version place entry ≡ refusal_of other place entry
unfolding refusal_of
refusal-same version other place (table fields) same = rw same refl
refusal-same version other place (string s) same = refl
refusal-same version other place (integer z) same = refl
refusal-same version other place (float x) same = refl
refusal-same version other place (boolean b) same = refl
refusal-same version other place (datetime d) same = refl
refusal-same version other place (array ds) same = refl

pub first_from-same : (version other : Version) (section : Section) (n : ℕ) (entries : List Data) → keys_of version section ≡ keys_of other section
    → first_from version section n entries ≡ first_from other section n entries
first_from-same version other section n [] same = refl
first_from-same version other section n (entry ∷ entries) same =
    rw (refusal-same version other (record { section = section; row = n }) entry same, first_from-same version other section (n + 1) entries same) refl

abbrev pub document_steps : Members → Result PlanRows PlanFileErr
document_steps document = do
  head ← head_in document
  elements ← rows_from One element_row Elements 1 head.elements
  links ← rows_from head.version (link_row head.version) Links 1 head.links
  sources ← rows_from One source_row Sources 1 head.sources
  Ok (record { option = head.option; elements = elements; links = links; sources = sources })

-- the head, and then the rows of each section in order, give what the document says
pub document_is : (document : Members) → rows_of_document document ≡ document_steps document
unfolding rows_of_document
document_is document =
    let version : Version = version_of document in
    let es = entries_of Elements document in
    let ls = entries_of Links document in
    let ss = entries_of Sources document in
    let said = said_rows document in
    let elements : first_from version Elements 1 es ≡ first_from One Elements 1 es = first_from-same version One Elements 1 es refl in
    let sources : first_from version Sources 1 ss ≡ first_from One Sources 1 ss = first_from-same version One Sources 1 ss refl in
    rw (elements, sources) (sym (step (head_in document)
    (refusal_of version (record { section = Head; row = 0 }) (table document)) _ (head_said (slots_of (keys_of Two Head) document).values) said _
    (rw (refusal_is version (record { section = Head; row = 0 }) document) refl)
    (step (rows_from One element_row Elements 1 es) (first_from One Elements 1 es) _ (map element_row es) said _ (rows_are One element_row Elements 1 es)
    (step (rows_from version (link_row version) Links 1 ls) (first_from version Links 1 ls) _ (map (link_row version) ls) said _ (rows_are version (link_row version) Links 1 ls)
    (last_step (rows_from One source_row Sources 1 ss) (first_from One Sources 1 ss) (map source_row ss) (λ rows. record said { sources = rows }) (rows_are One source_row Sources 1 ss))))))
