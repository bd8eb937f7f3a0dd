-- How the reading of files ends the work, and a file with a plan. This project's own.
use Rattle.std.specs.Prelude.{◌≡◌, ℕ, ⊤, nat_lt, List, [], ◌++◌, length, codes, Option, Some, None, Result, Ok, Err, if◌then◌else◌}
use Rattle.std.specs.FinMap.{get}
use Rattle.sync_edge.specs.Contents.{Contents}
use Rattle.sync_topo.specs.Topology.{Topology}
use Rattle.sync_topo.specs.declared.place.Place.{Place}
use Rattle.sync_topo.specs.declared.place.Section.{Section}
use Rattle.sync_topo.specs.declared.place.Section.TheVariants.{Head, Elements, Links, Sources}
use Rattle.sync_topo.specs.Refusal.{refusal_number, refused_place}
use Rattle.plan_rows.specs.declared.error.PlanFileErr.{PlanFileErr}
use Rattle.plan_rows.specs.declared.error.PlanFileErr.TheVariants as plan
use Rattle.sync_text.specs.Chain.{◌>>=◌}
use Rattle.plan_file.specs.PlanText.{plan_of_size}
use Rattle.sync_topo.specs.Sizes.{size_of}
use Rattle.sync_topo.specs.declared.sizes.Size.{Size}
use Rattle.sync_topo.specs.declared.sizes.Size.TheVariants.{Standard, Large}
use Rattle.plan_texts.specs.Lines.{text_line}
use Rattle.sync_top.specs.declared.input.TheConstants.{STANDARD_BYTES, LARGE_BYTES}
use Rattle.sync_top.specs.Form.{PlanName}
use Rattle.sync_top.specs.declared.status.Status.{Status}
use Rattle.sync_top.specs.declared.status.Status.TheVariants.{Done, BadPlan, TooLong}
use Rattle.std.specs.Fmt.{decimal}
use Rattle.plan_rows.specs.Refusal.{number_of as file_number}
use Rattle.sync_topo.specs.declared.error.PlanErr.{PlanErr}

-- how the reading of the files can end the work
pub data End : Type 0 where
  -- a file that the work comes to isn't there, so there is no answer
  no_file : End
  -- the answer is this status and this text
  answered : Status → List ℕ → End

-- the most bytes of a plan's file where the plan may be of this size, and of a file that goes with a plan of this size
abbrev pub file_limit : Size → ℕ
file_limit Standard = STANDARD_BYTES
file_limit Large = LARGE_BYTES

-- the answer to what was read, or what ended the reading
abbrev pub Answered : {A : Type 0} → (A → Status → List ℕ → Type 0) → Result A End → Status → List ℕ → Type 0
Answered Answers (Ok read) status text = Answers read status text
Answered Answers (Err no_file) status text = ⊥
Answered Answers (Err (answered known written)) status text = (status ≡ known) × (text ≡ written)

-- the answer to what was given: that to what is made of it, or in a status of its own the line on why it is refused
abbrev pub OrRefused : {A E : Type 0} → (A → Status → List ℕ → Type 0) → Status → (E → List ℕ) → Result A E → Status → List ℕ → Type 0
OrRefused Answers known line (Ok made) status text = Answers made status text
OrRefused Answers known line (Err refused) status text = (status ≡ known) × (text ≡ text_line (line refused))

-- what a form reads: how many files it names, what its first file gives, and what all of them give
pub record Reading : Type 1 where
  pub files : ℕ
  pub First : Type 0
  pub first : Contents → Result First End
  pub Read : Type 0
  pub read : Contents → Result Read End

abbrev pub no_files : Reading
no_files = record { files = 0; First = ⊤; first = λ _. Ok tt; Read = ⊤; read = λ _. Ok tt }

abbrev pub one_file : {A : Type 0} → (Contents → Result A End) → Reading
one_file {A = A} read = record { files = 1; First = A; first = read; Read = A; read = read }

abbrev pub two_files : {A B : Type 0} → (Contents → Result A End) → (Contents → Result B End) → Reading
two_files {A = A} {B = B} first read = record { files = 2; First = A; first = first; Read = B; read = read }

-- the bytes of a file that may be as long as the size says
abbrev pub file : Size → List ℕ → Contents → Result (List ℕ) End
file size name files = within (get files name)
  where
    within : Option (List ℕ) → Result (List ℕ) End
    within None = Err no_file
    within (Some bytes) = if nat_lt (file_limit size) (length bytes) then Err (answered TooLong (text_line (codes "too long"))) else Ok bytes

-- the line on a refusal: what is refused, the refusal's number, and where
abbrev pub refusal_line : List ℕ → ℕ → List ℕ → List ℕ
refusal_line what number place = what ++ decimal number ++ place

-- a number behind a space, where there is one
abbrev pub spaced : Option ℕ → List ℕ
spaced None = []
spaced (Some number) = codes " " ++ decimal number

-- the line on a refusal by numbers alone: its own, that of the row or line, and that of what is wrong in it
abbrev pub numbered_refusal : List ℕ → ℕ → Option ℕ → Option ℕ → List ℕ
numbered_refusal what number row part = what ++ decimal number ++ spaced row ++ spaced part

-- a section by its name, and a place by its section and row
abbrev pub section_name : Section → List ℕ
section_name Head = codes "head"
section_name Elements = codes "element"
section_name Links = codes "link"
section_name Sources = codes "source"

abbrev pub place_text : Place → List ℕ
place_text place = section_name place.section ++ codes " " ++ decimal place.row

-- the refusal of a plan's rows: its number, and the row that breaks the rule
abbrev pub rows_refusal : PlanErr → List ℕ
rows_refusal error = refusal_line (codes " ") (refusal_number error) (codes " " ++ place_text (refused_place error))

-- where a plan is refused
abbrev pub plan_place : PlanFileErr → List ℕ
plan_place plan.Syntax = []
plan_place (plan.Key place) = codes " " ++ place_text place
plan_place (plan.Kind place) = codes " " ++ place_text place
plan_place (plan.Plan error) = rows_refusal error

-- the line on a plan that is refused
abbrev pub plan_refusal : PlanFileErr → List ℕ
plan_refusal refused = refusal_line (codes "bad plan ") (file_number refused) (plan_place refused)

-- the plan, where it isn't refused
abbrev pub accepted_plan : Result Topology PlanFileErr → Result Topology End
accepted_plan (Ok topology) = Ok topology
accepted_plan (Err refused) = Err (answered BadPlan (text_line (plan_refusal refused)))

-- the plan of a file, which may be of no more than the size that the words allow
abbrev pub plan_in : PlanName → Contents → Result Topology End
plan_in asked files = do
  bytes ← file asked.size asked.name files
  accepted_plan (plan_of_size asked.size bytes)

-- the plan first, and then the bytes of a file, which may be as long as the plan's size says
abbrev pub plan_and_file : PlanName → List ℕ → Contents → Result (Topology × List ℕ) End
plan_and_file plan_name name files = do
  plan ← plan_in plan_name files
  bytes ← file (size_of plan) name files
  Ok (plan, bytes)

-- the text that was asked for
abbrev pub IsText : List ℕ → Status → List ℕ → Type 0
IsText given status text = (status ≡ Done) × (text ≡ given)
