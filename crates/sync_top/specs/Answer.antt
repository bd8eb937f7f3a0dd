-- The program's answer to some words over some files: a status and a text.
use Rattle.std.specs.Prelude.{◌≡◌, ℕ, ◌⊎◌, nat_lt, Bool, List, codes, Option, Some, None, Err}
use Rattle.std.specs.Prelude.{⊤, IsTrue, IfSome, IsErr}
use Rattle.std.specs.Io.KnownBytes.{Appends}
use Rattle.sync_edge.specs.Faults.{Rose}
use Rattle.sync_edge.specs.Transfers.{AppendsFront}
use Rattle.sync_edge.specs.Contents.{Contents}
use Rattle.plan_texts.specs.Lines.{text_line}
use Rattle.sync_top.specs.declared.status.Status.{Status}
use Rattle.sync_top.specs.declared.status.Status.TheVariants.{Usage, BadCert, BadEvents}
use Rattle.sync_ql.specs.declared.levels.NetOption.{NetOption}
use Rattle.sync_topo.specs.Topology.{Topology}
use Rattle.sync_topo.specs.declared.event.Event.{Event}
use Rattle.rank_cert.specs.Ranks as cert
use Rattle.rank_cert.specs.CertificateText.{certificate_of}
use Rattle.event_file.specs.EventText.{events_of}
use Rattle.capture_text.specs.Capture.{decoded_text, encoded_text}
use Rattle.pcap_file.specs.Timed.{decoded_pcap, encoded_pcap}
use Rattle.sync_top.specs.declared.form.PlanForm.{PlanForm}
use Rattle.sync_top.specs.declared.form.PlanForm.TheVariants.{Rank, Chains, Protected, Protect, Agree, Hops, Nominate, PrioRank, Sweep}
use Rattle.sync_top.specs.declared.form.FileForm.{FileForm}
use Rattle.sync_top.specs.declared.form.FileForm.TheVariants.{Ranks, Groups, Events, Study}
use Rattle.sync_top.specs.declared.form.RanksForm.{RanksForm}
use Rattle.sync_top.specs.declared.form.RanksForm.TheVariants.{Check, PrioCheck}
use Rattle.sync_top.specs.declared.form.EventsForm.{EventsForm}
use Rattle.sync_top.specs.declared.form.EventsForm.TheVariants.{Sim, PrioSim, Inspect}
use Rattle.sync_top.specs.declared.form.FramesForm.{FramesForm}
use Rattle.sync_top.specs.declared.form.FramesForm.TheVariants.{Decode, Encode, PcapDecode, PcapEncode}
use Rattle.sync_top.specs.declared.form.LadderForm.{LadderForm}
use Rattle.sync_top.specs.declared.form.LadderForm.TheVariants.{Gen, Trial}
use Rattle.sync_topo.specs.declared.sizes.Size.TheVariants.{Standard}
use Rattle.sync_top.specs.Form.{Form, on_plan, on_file, on_frames, on_ladder, node, form_of}
use Rattle.sync_top.specs.Reading.{Reading, one_file, two_files, no_files, Answered, OrRefused, no_file, file, plan_in, plan_and_file}
use Rattle.sync_top.specs.Forms.Check.{certificate_refusal, IsVerdict}
use Rattle.sync_top.specs.Forms.Rank.{IsPlanned}
use Rattle.sync_top.specs.Forms.Chains.{IsChained}
use Rattle.sync_top.specs.Forms.Protected.{IsProtectedText}
use Rattle.sync_top.specs.Forms.Groups.{IsGroupsReply}
use Rattle.sync_top.specs.Forms.Protect.{IsProtectingText}
use Rattle.sync_top.specs.Forms.Agree.{IsAgreedText}
use Rattle.sync_top.specs.Forms.Hops.{AreHopRows}
use Rattle.sync_top.specs.Forms.Nominate.{IsNominatedText}
use Rattle.sync_top.specs.Forms.Captures.{IsCaptured, IsCapture}
use Rattle.sync_top.specs.Forms.Gen.{IsLadderText}
use Rattle.sync_top.specs.Forms.Trial.{IsTrial}
use Rattle.sync_top.specs.Forms.Sim.{event_refusal, IsReport}
use Rattle.sync_top.specs.Forms.Sweep.{IsSweepTable}
use Rattle.sync_top.specs.Forms.Study.{IsStudyReply}
use Rattle.sync_top.specs.Forms.Priority.{IsPriorityVerdict, IsPriorityPlanned, IsPriorityRun}
use Rattle.sync_top.specs.Forms.Inspect.{IsInspected}
use Rattle.sync_top.specs.Forms.Node.{element_of_plan, node_bytes, IsNodeReply}

-- what answers a plan
abbrev pub PlanAnswer : PlanForm → Topology → Status → List ℕ → Type 0
PlanAnswer Rank plan status text = IsPlanned plan status text
PlanAnswer Chains plan status text = IsChained plan status text
PlanAnswer Protected plan status text = IsProtectedText plan status text
PlanAnswer Protect plan status text = IsProtectingText plan status text
PlanAnswer Agree plan status text = IsAgreedText plan status text
PlanAnswer Hops plan status text = AreHopRows plan status text
PlanAnswer Nominate plan status text = IsNominatedText plan status text
PlanAnswer PrioRank plan status text = IsPriorityPlanned plan status text
PlanAnswer (Sweep at until) plan status text = IsSweepTable plan at until status text

-- what answers the ranks of a certificate
abbrev pub RanksAnswer : RanksForm → Topology → cert.Ranks → Status → List ℕ → Type 0
RanksAnswer Check plan ranks status text = IsVerdict plan ranks status text
RanksAnswer PrioCheck plan ranks status text = IsPriorityVerdict plan ranks status text

-- what answers events, up to a millisecond
abbrev pub EventsAnswer : EventsForm → Topology → List Event → ℕ → Status → List ℕ → Type 0
EventsAnswer Sim plan events until status text = IsReport plan events until status text
EventsAnswer PrioSim plan events until status text = IsPriorityRun plan events until status text
EventsAnswer Inspect plan events until status text = IsInspected plan events until status text

-- what answers the bytes of a certificate, and of events
abbrev pub IsRanksReply : RanksForm → Topology → List ℕ → Status → List ℕ → Type 0
IsRanksReply what plan bytes status text =
    OrRefused (RanksAnswer what plan) BadCert (certificate_refusal plan) (certificate_of plan bytes) status text

abbrev pub IsEventsReply : EventsForm → Topology → List ℕ → ℕ → Status → List ℕ → Type 0
IsEventsReply what plan bytes until status text =
    OrRefused (λ events. EventsAnswer what plan events until) BadEvents event_refusal (events_of plan bytes) status text

-- what answers the bytes of a file that goes with a plan
abbrev pub FileAnswer : FileForm → Topology → List ℕ → Status → List ℕ → Type 0
FileAnswer (Ranks what) plan bytes status text = IsRanksReply what plan bytes status text
FileAnswer Groups plan bytes status text = IsGroupsReply plan bytes status text
FileAnswer (Events what until) plan bytes status text = IsEventsReply what plan bytes until status text
FileAnswer (Study until) plan bytes status text = IsStudyReply plan bytes until status text

-- what answers the bytes of captured frames or of rows
abbrev pub FramesAnswer : FramesForm → NetOption → List ℕ → Status → List ℕ → Type 0
FramesAnswer Decode option bytes status text = IsCaptured (decoded_text option bytes) status text
FramesAnswer Encode option bytes status text = IsCaptured (encoded_text option bytes) status text
FramesAnswer PcapDecode option bytes status text = IsCapture (decoded_pcap option bytes) status text
FramesAnswer PcapEncode option bytes status text = IsCaptured (encoded_pcap option bytes) status text

-- what answers a number of elements
abbrev pub LadderAnswer : LadderForm → ℕ → Status → List ℕ → Type 0
LadderAnswer Gen n status text = IsLadderText n status text
LadderAnswer Trial n status text = IsTrial n status text

-- what a form reads, and what answers that
pub record Meaning : Type 1 where
  pub reading : Reading
  pub Answers : reading.Read → Status → List ℕ → Type 0

abbrev pub meaning : Form → Meaning
meaning (on_plan what plan) = record { reading = one_file (plan_in plan); Answers = PlanAnswer what }
meaning (on_file what plan name) = record {
  reading = two_files (plan_in plan) (plan_and_file plan name);
  Answers = λ read. FileAnswer what read.0 read.1;
}
meaning (on_frames what option name) = record { reading = one_file (file Standard name); Answers = FramesAnswer what option }
meaning (on_ladder what n) = record { reading = no_files; Answers = λ _. LadderAnswer what n }
meaning (node plan element name until) = record {
  reading = two_files (element_of_plan plan element) (node_bytes plan element name);
  Answers = λ read. IsNodeReply read.0 read.1 read.2 until;
}

-- how many files the form names, and that it reads any
abbrev pub file_count : Option Form → ℕ
file_count None = 0
file_count (Some form) = (meaning form).reading.files

abbrev pub reads_file : Option Form → Bool
reads_file form = nat_lt 0 (file_count form)

-- the answer to a form, and to words that are none
abbrev pub FormAnswer : Option Form → Contents → Status → List ℕ → Type 0
FormAnswer None files status text = (status ≡ Usage) × (text ≡ text_line (codes "usage"))
FormAnswer (Some form) files status text = Answered (meaning form).Answers ((meaning form).reading.read files) status text

-- the program's answer to some words
abbrev pub IsAnswer : List (List ℕ) → Contents → Status → List ℕ → Type 0
IsAnswer words files status text = FormAnswer (form_of words) files status text

-- over given files the form has one answer: each has but `protect`, of which it isn't said which plan is found
abbrev pub HasOneAnswer : Option Form → Type 0
HasOneAnswer (Some (on_plan Protect plan)) = ⊥
HasOneAnswer form = ⊤

-- a form whose answer comes to a file that isn't there
abbrev pub FormMissesFile : Option Form → Contents → Type 0
FormMissesFile None files = ⊥
FormMissesFile (Some form) files = (meaning form).reading.read files ≡ Err no_file

-- a form whose first file, which is the plan where it names two, ends the reading: it isn't there, it is too long, it is
-- refused, or it hasn't the element that is asked for
abbrev pub PlanEndsReading : Option Form → Contents → Type 0
PlanEndsReading None files = ⊥
PlanEndsReading (Some form) files = IsErr ((meaning form).reading.first files)

-- words whose answer comes to a file that isn't there
abbrev pub MissesFile : List (List ℕ) → Contents → Type 0
MissesFile words files = FormMissesFile (form_of words) files

-- the contents are told, and have each file that the answer comes to
abbrev pub HasFiles : List (List ℕ) → Option Contents → Type 0
HasFiles words None = ⊥
HasFiles words (Some files) = ¬ MissesFile words files

-- the line that is written where a file can't be read
abbrev pub fault_text : List ℕ
fault_text = text_line (codes "read fault")

-- what a folder tells before some work, and its count of faults before and after it
pub record Outside : Type 0 where
  pub told : Option Contents
  pub steady : Bool
  pub before : ℕ
  pub now : ℕ

abbrev pub outside_of : {F : Type 0} → (F → Option Contents) → (F → Bool) → (F → ℕ) → F → F → Outside
outside_of contents steady faults old new =
    record { told = contents old; steady = steady old; before = faults old; now = faults new }

-- a fault of the folder may come: its count rose, and it isn't steady with every file there
abbrev pub MayFault : List (List ℕ) → Outside → Type 0
MayFault words outside = Rose outside.before outside.now × (IsTrue outside.steady → IfSome outside.told (MissesFile words))

-- the text of the answer in this status was written
abbrev pub Delivers : List (List ℕ) → Option (List ℕ) → Option (List ℕ) → Status → Contents → Type 0
Delivers words before now status files = (text : List ℕ) × IsAnswer words files status text × Appends before now text

-- what was to be written: the text of an answer, or the line on a file that can't be read where that may come
abbrev pub IsPending : List (List ℕ) → Type 0 → Contents → List ℕ → Type 0
IsPending words Fault files text = ((status : Status) × IsAnswer words files status text) ⊎ ((text ≡ fault_text) × Fault)

-- only a front of what was to be written was written
abbrev pub IsCut : List (List ℕ) → Option (List ℕ) → Option (List ℕ) → Type 0 → Contents → Type 0
IsCut words before now Fault files = (text : List ℕ) × AppendsFront before now text × IsPending words Fault files text
