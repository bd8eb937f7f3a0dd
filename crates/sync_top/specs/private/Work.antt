-- What a step of the work did: what only private clauses cite.
use Rattle.std.specs.Prelude.{◌≡◌, ◌≢◌, ◌↔◌, ◌≤◌, ◌+◌, ℕ, ⊤, IsTrue, IsErr, List, Option, Some, None, IfSome, Result, Ok, Err}
use Rattle.sync_text.specs.declared.errors.NoMemory as wanting
use Rattle.sync_edge.specs.Contents.{Contents}
use Rattle.sync_edge.specs.Faults.{Rose}
use Rattle.sync_top.specs.declared.status.Status.{Status}
use Rattle.sync_top.specs.declared.status.Status.TheVariants.{Done, Refuted, Stopped, BadCert, BadEvents, BadFrames, Usage, BadPlan, ReadFault, WriteFault, NoMemory}
use Rattle.sync_top.specs.declared.reply.Reply.{Reply}
use Rattle.sync_top.specs.declared.reply.Stop.{Stop}
use Rattle.sync_top.specs.declared.reply.Stop.TheVariants.{Ended, NoMemory}
use Rattle.sync_top.specs.declared.found.Finding.{Finding}
use Rattle.sync_top.specs.declared.found.Finding.TheVariants as finding
use Rattle.sync_top.specs.declared.found.Found.{Found}
use Rattle.sync_top.specs.Form.{Form}
use Rattle.sync_top.specs.Reading.{End, no_file, answered, Reading}
use Rattle.sync_top.specs.Answer.{fault_text, Outside, FormAnswer, FormMissesFile, PlanEndsReading, file_count}

-- the status of what was found
abbrev pub ends_in : Finding → Status
ends_in finding.Done = Done
ends_in finding.Refuted = Refuted
ends_in finding.Stopped = Stopped
ends_in finding.BadCert = BadCert
ends_in finding.BadEvents = BadEvents
ends_in finding.BadFrames = BadFrames

-- the reply with what was found, which wants memory alone
abbrev pub replied : Result Found wanting.NoMemory → Result Reply Stop
replied (Ok found) = Ok (record { status = ends_in found.finding; text = found.text })
replied (Err no_memory) = Err NoMemory

-- the work ended in this status and text: by an answer to the contents that are told, with no fault on the way,
-- or by a fault of the folder, which a steady folder has only where a file is missing
abbrev pub EndsIn : (Contents → Status → List ℕ → Type 0) → (Contents → Type 0) → Outside → Status → List ℕ → Type 0
EndsIn Answers Misses outside ReadFault text =
    Rose outside.before outside.now × (text ≡ fault_text) × (IsTrue outside.steady → IfSome outside.told Misses)
EndsIn Answers Misses outside WriteFault text = ⊥
EndsIn Answers Misses outside NoMemory text = ⊥
EndsIn Answers Misses outside status text =
    IfSome outside.told (λ files. Answers files status text) × (outside.now ≡ outside.before)

-- a step that reads gave a value with no fault on the way, or ended the work
abbrev pub Reads : {A B : Type 0} → (A → B) → Outside → Result A Stop → (Contents → Result B End) → Type 0
Reads see outside (Ok value) step =
    IfSome outside.told (λ files. step files ≡ Ok (see value)) × (outside.now ≡ outside.before)
Reads see outside (Err NoMemory) step = ⊤
Reads see outside (Err (Ended reply)) step =
    EndsIn (λ files status text. step files ≡ Err (answered status text)) (λ files. step files ≡ Err no_file)
    outside reply.status reply.text

-- the whole work gave a reply
abbrev pub Replies : (Contents → Status → List ℕ → Type 0) → (Contents → Type 0) → Outside → Result Reply Stop → Type 0
Replies Answers Misses outside (Ok reply) = EndsIn Answers Misses outside reply.status reply.text
Replies Answers Misses outside (Err NoMemory) = ⊤
Replies Answers Misses outside (Err (Ended reply)) = EndsIn Answers Misses outside reply.status reply.text

-- a step that ends the work never finds that the words are no form
abbrev pub NeverUsage : {A : Type 0} → Result A Stop → Type 0
NeverUsage (Ok value) = ⊤
NeverUsage (Err NoMemory) = ⊤
NeverUsage (Err (Ended reply)) = reply.status ≢ Usage

-- the reply is that the words are no form exactly where P holds
abbrev pub UsageWhere : Result Reply Stop → Type 0 → Type 0
UsageWhere (Ok reply) P = (reply.status ≡ Usage) ↔ P
UsageWhere (Err NoMemory) P = ⊤
UsageWhere (Err (Ended reply)) P = (reply.status ≡ Usage) ↔ P

-- the status in which a step ended the work
abbrev pub stopped_in : {A : Type 0} → Result A Stop → Option Status
stopped_in (Ok value) = None
stopped_in (Err NoMemory) = None
stopped_in (Err (Ended reply)) = Some reply.status

-- the status of the whole work
abbrev pub status_of : Result Reply Stop → Option Status
status_of (Ok reply) = Some reply.status
status_of (Err NoMemory) = None
status_of (Err (Ended reply)) = Some reply.status

-- one file was read at most, in a step of the work
pub record Gets {A B : Type 0} (see : A → B) (outside : Outside) (tried tries : ℕ) (result : Result A Stop)
    (step : Contents → Result B End) : Type 0 where
  pub reads : Reads see outside result step
  pub form : NeverUsage result
  pub once : tries ≤ tried + 1

-- all was read that a form reads, or what ended the reading ends the work: the second file isn't tried where the first does
pub record HasRead {A : Type 0} (reading : Reading) (see : A → reading.Read) (outside : Outside) (tried tries : ℕ)
    (result : Result A Stop) : Type 0 where
  pub reads : Reads see outside result reading.read
  pub form : NeverUsage result
  pub once : tries ≤ tried + reading.files
  pub plan_alone : stopped_in result ≡ Some BadPlan → tries ≤ tried + 1
  pub first_alone : IfSome outside.told (λ files. IsErr (reading.first files) → tries ≤ tried + 1)

-- the work that a form asks for was done
pub record WorkFacts (form : Option Form) (outside : Outside) (tried tries : ℕ) (result : Result Reply Stop) : Type 0 where
  pub replies : Replies (FormAnswer form) (FormMissesFile form) outside result
  pub usage : UsageWhere result (form ≡ None)
  pub once : tries ≤ tried + file_count form
  pub plan_alone : status_of result ≡ Some BadPlan → tries ≤ tried + 1
  pub first_alone : IfSome outside.told (λ files. PlanEndsReading form files → tries ≤ tried + 1)

-- the same, which a proof opens where it looks into it
unfoldable pub Works : Option Form → Outside → ℕ → ℕ → Result Reply Stop → Type 0
Works form outside tried tries result = WorkFacts form outside tried tries result
