-- That words over some files have one answer.
use Rattle.std.proofs.Common.{◌≡◌, ℕ, List, Option, Some, None, Result, Ok, Err, sym, ◌∙◌, ap, arith}
use Rattle.sync_edge.specs.Contents.{Contents}
use Rattle.sync_topo.specs.declared.event.Event.{Event}
use Rattle.sync_topo.specs.Topology.{Topology}
use Rattle.sync_topo.specs.Hops.{hops, hops_any}
use Rattle.rank_cert.specs.Ranks.{Ranks}
use Rattle.rank_cert.specs.CertificateText.{certificate_of}
use Rattle.event_file.specs.EventText.{events_of}
use Rattle.event_file.specs.CaseText.{cases_of}
use Rattle.group_file.specs.GroupText.{groups_of}
use Rattle.cycle_plan.proofs.OneCycle.{one_cycle}
use Rattle.sync_topo.specs.declared.returns.ReturnRule.TheVariants.{Barred}
use Rattle.plan_texts.specs.Lines.{cycle_text}
use Rattle.plan_texts.specs.Hops.{hops_text}
use Rattle.sync_top.proofs.OneEnd.{IsOne, one-refuted, one-stopped}
use Rattle.sync_top.proofs.Verdicts.{one_verdict, no_first_cycle}
use Rattle.trace_report.specs.Report.{IsWholeReport, stopped_report}
use Rattle.capture_text.specs.Capture.{decoded_text, encoded_text}
use Rattle.pcap_file.specs.Timed.{decoded_pcap, encoded_pcap}
use Rattle.node_file.specs.NodeFile.{rows_of}
use Rattle.sync_ql.specs.declared.levels.NetOption.{NetOption}
use Rattle.sync_top.specs.declared.status.Status.{Status}
use Rattle.sync_top.specs.declared.status.Status.TheVariants.{BadCert, BadEvents, BadFrames}
use Rattle.sync_top.specs.declared.form.PlanForm.{PlanForm}
use Rattle.sync_top.specs.declared.form.PlanForm.TheVariants.{Rank, Chains, Protected, Protect, Agree, Hops, Nominate, PrioRank, Sweep}
use Rattle.sync_top.specs.declared.form.FileForm.{FileForm}
use Rattle.sync_top.specs.declared.form.FileForm.TheVariants as asks
use Rattle.sync_top.specs.declared.form.RanksForm.{RanksForm}
use Rattle.sync_top.specs.declared.form.RanksForm.TheVariants.{Check, PrioCheck}
use Rattle.sync_top.specs.declared.form.EventsForm.{EventsForm}
use Rattle.sync_top.specs.declared.form.EventsForm.TheVariants.{Sim, PrioSim, Inspect}
use Rattle.sync_top.specs.declared.form.FramesForm.{FramesForm}
use Rattle.sync_top.specs.declared.form.FramesForm.TheVariants.{Decode, Encode, PcapDecode, PcapEncode}
use Rattle.sync_top.specs.declared.form.LadderForm.{LadderForm}
use Rattle.sync_top.specs.declared.form.LadderForm.TheVariants.{Gen, Trial}
use Rattle.sync_top.specs.Form.{Form, PlanName, form_of, on_plan, on_file, on_frames, on_ladder, node}
use Rattle.sync_top.specs.Reading.{End, no_file, answered, Answered, OrRefused, IsText}
use Rattle.sync_top.specs.Forms.Rank.{IsRanksText, IsCycleText, IsPlanned}
use Rattle.sync_top.specs.Forms.Hops.{AreHopRows}
use Rattle.sync_top.specs.Forms.Nominate.{IsNominatedText}
use Rattle.plan_file.specs.Spelling.{plan_text}
use Rattle.nominate.specs.Nomination.{nominated_plan}
use Rattle.nominate.proofs.HopLaws.{one-list}
use Rattle.sync_top.specs.Forms.Captures.{capture_refusal, pcap_refusal}
use Rattle.sync_top.specs.Forms.Sim.{event_refusal, IsFullReport, IsShortReport, IsReport}
use Rattle.sync_top.specs.Forms.Check.{certificate_refusal}
use Rattle.sync_top.specs.Forms.Groups.{group_refusal, IsGroupsText}
use Rattle.sync_top.specs.Forms.Sweep.{IsSweepTable}
use Rattle.sync_top.specs.Forms.Study.{IsStudyTable}
use Rattle.event_file.specs.declared.case_file.Cases.{Cases}
use Rattle.sync_topo.specs.declared.event.Case.{Case}
use Rattle.sync_sweep.specs.declared.studying.StudyRow.{StudyRow}
use Rattle.sync_sweep.specs.Study.{AreStudyRows}
use Rattle.sync_sweep.specs.StudyText.{study_text}
use Rattle.sync_sweep.specs.SweepText.{table_text}
use Rattle.sync_sweep.proofs.OneSweep.{one-sweep}
use Rattle.sync_top.specs.Answer.{PlanAnswer, RanksAnswer, EventsAnswer, FileAnswer, FramesAnswer, LadderAnswer, meaning, HasOneAnswer, FormAnswer, IsAnswer}
use Rattle.inspection.specs.Inspection.{inspection}
use Rattle.sync_top.proofs.OneText.{same_text}
use Rattle.sync_top.proofs.ChainAnswers.{one_chained}
use Rattle.sync_top.proofs.ProtectionAnswers.{one_protected, one_protected_with}
use Rattle.sync_top.proofs.AgreeAnswers.{one_agreed}
use Rattle.sync_top.proofs.PriorityAnswers.{one_priority_planned, one_priority_run}
use Rattle.sync_top.specs.Forms.Node.{node_refusal, AreFramesSent, IsNodeReply}
use Rattle.sync_top.proofs.NodeAnswers.{one_sent}
use Rattle.plan_gen.specs.Ladder.{ladder}
use Rattle.sync_top.specs.Forms.Trial.{IsTrial}
use Rattle.sync_top.proofs.LastFits.{one_last}
use Rattle.sync_top.proofs.OneTrial.{one_trial_text}

-- where there is one answer to what was read, there is one with all that may end the reading
one_answered : {A : Type 0} (Answers : A → Status → List ℕ → Type 0) → ((value : A) → IsOne (Answers value))
    → (read : Result A End) → IsOne (Answered Answers read)
one_answered Answers one (Ok value) status other text another first second = one value status other text another first second
one_answered Answers one (Err no_file) status other text another first second = absurd first
one_answered Answers one (Err (answered known written)) status other text another first second =
    (first.0 ∙ sym second.0, first.1 ∙ sym second.1)

-- so there is with what is given, which may be refused
one_given : {A E : Type 0} (Answers : A → Status → List ℕ → Type 0) (known : Status) (line : E → List ℕ) → ((value : A) → IsOne (Answers value))
    → (made : Result A E) → IsOne (OrRefused Answers known line made)
one_given Answers known line one (Ok value) status other text another first second = one value status other text another first second
one_given Answers known line one (Err refused) status other text another first second =
    (first.0 ∙ sym second.0, first.1 ∙ sym second.1)

-- the planner finds one thing
one_planned : (plan : Topology) → IsOne (IsPlanned plan)
one_planned plan =
    one-refuted (IsRanksText plan) (IsCycleText plan)
    (λ text another one two. one.3 ∙ same_text (hops plan) plan one.0 two.0 one.1 two.1 ∙ sym two.3)
    (λ text another one two. one.2 ∙ ap (cycle_text plan) (one_cycle (hops plan) one.0 two.0 one.1 two.1) ∙ sym two.2)
    (λ text another ranks cycle. no_first_cycle Barred plan ranks.0 cycle.0 ranks.2 cycle.1)

-- a text that was asked for is one
one_asked : (given : List ℕ) → IsOne (IsText given)
one_asked given status other text another first second = (first.0 ∙ sym second.0, first.1 ∙ sym second.1)

-- a trial has one answer
one_trial : (n : ℕ) → IsOne (IsTrial n)
one_trial n status other text another first second =
    (first.0 ∙ sym second.0, one_trial_text n (ladder n) text another first.1 second.1)

module _ (one_whole : (plan : Topology) (events : List Event) (until : ℕ) (text another : List ℕ) → IsWholeReport plan events until text → IsWholeReport plan events until another → text ≡ another)
    (one_study_rows : (plan : Topology) (common : List Event) (until : ℕ) (cases : List Case) (rows others : List StudyRow) → AreStudyRows plan common until cases rows
    → AreStudyRows plan common until cases others → rows ≡ others)
  where
    -- a run gives one report
    one_report : (plan : Topology) (events : List Event) (until : ℕ) → IsOne (IsReport plan events until)
    one_report plan events until =
        one-stopped (IsFullReport plan events until) (IsShortReport plan events until)
        (λ text another one two. one_whole plan events until text another one.1 two.1)
        (λ text another one two. one.2 ∙ ap (stopped_report plan events) (one_last plan events until one.0 two.0 one.1 two.1) ∙ sym two.2)
        (λ text another whole short. absurd (omega (arith, whole.0, short.1.all)))

    -- the rows of hop counts are one
    one_hop_rows : (plan : Topology) → IsOne (AreHopRows plan)
    one_hop_rows plan status other text another first second =
        let same = one-list plan first.1.0 second.1.0 first.1.1 second.1.1 in
        (first.0 ∙ sym second.0, first.1.2 ∙ ap (hops_text plan) same ∙ sym second.1.2)

    -- a plan has one table of link failures
    one_sweep_table : (plan : Topology) (at until : ℕ) → IsOne (IsSweepTable plan at until)
    one_sweep_table plan at until status other text another first second =
        let same = one-sweep plan at until first.1.0 second.1.0 first.1.1 second.1.1 in
        (first.0 ∙ sym second.0, first.1.2 ∙ ap (table_text plan) same ∙ sym second.1.2)

    -- the hop counts of a plan are one, and so are the plan that is nominated by them and its text
    one_nominated : (plan : Topology) → IsOne (IsNominatedText plan)
    one_nominated plan status other text another first second =
        let mine = first.1.1 in
        let theirs = second.1.1 in
        let counts = one-list plan mine.counts theirs.counts mine.are theirs.are in
        (first.0 ∙ sym second.0, first.1.2 ∙ ap plan_text (mine.is ∙ ap (nominated_plan plan) counts ∙ sym theirs.is) ∙ sym second.1.2)

    -- what answers a plan is one
    one_plan : (what : PlanForm) (name : PlanName) → HasOneAnswer (Some (on_plan what name)) → (plan : Topology) → IsOne (PlanAnswer what plan)
    one_plan Rank name has plan = one_planned plan
    one_plan Chains name has plan = one_chained plan
    one_plan Protected name has plan = one_protected plan
    one_plan Protect name has plan = absurd has
    one_plan Agree name has plan = one_agreed plan
    one_plan Hops name has plan = one_hop_rows plan
    one_plan Nominate name has plan = one_nominated plan
    one_plan PrioRank name has plan = one_priority_planned plan
    one_plan (Sweep at until) name has plan = one_sweep_table plan at until

    -- so is what answers the ranks of a certificate
    one_ranks : (what : RanksForm) (plan : Topology) (ranks : Ranks) → IsOne (RanksAnswer what plan ranks)
    one_ranks Check plan ranks = one_verdict (hops plan) plan ranks
    one_ranks PrioCheck plan ranks = one_verdict (hops_any plan) plan ranks

    -- and events
    one_events : (what : EventsForm) (plan : Topology) (events : List Event) (until : ℕ) → IsOne (EventsAnswer what plan events until)
    one_events Sim plan events until = one_report plan events until
    one_events PrioSim plan events until = one_priority_run plan events until
    one_events Inspect plan events until = one_asked (inspection plan events until)

    -- and cases
    one_study : (plan : Topology) (cases : Cases) (until : ℕ) → IsOne (IsStudyTable plan cases until)
    one_study plan cases until status other text another first second =
        (first.0 ∙ sym second.0, first.1.2 ∙ ap (study_text plan cases.names) (one_study_rows plan cases.common until cases.cases first.1.0 second.1.0 first.1.1 second.1.1) ∙ sym second.1.2)

    -- so is what answers the bytes of a file that goes with a plan
    one_file : (what : FileForm) (plan : Topology) (bytes : List ℕ) → IsOne (FileAnswer what plan bytes)
    one_file (asks.Ranks what) plan bytes =
        one_given (RanksAnswer what plan) BadCert (certificate_refusal plan) (one_ranks what plan) (certificate_of plan bytes)
    one_file asks.Groups plan bytes = one_given (IsGroupsText plan) BadEvents group_refusal (one_protected_with plan) (groups_of plan bytes)
    one_file (asks.Events what until) plan bytes =
        one_given (λ events. EventsAnswer what plan events until) BadEvents event_refusal (λ events. one_events what plan events until) (events_of plan bytes)
    one_file (asks.Study until) plan bytes =
        one_given (λ cases. IsStudyTable plan cases until) BadEvents event_refusal (λ cases. one_study plan cases until) (cases_of plan bytes)

    -- and the bytes of frames or rows
    one_frames : (what : FramesForm) (option : NetOption) (bytes : List ℕ) → IsOne (FramesAnswer what option bytes)
    one_frames Decode option bytes = one_given IsText BadFrames capture_refusal one_asked (decoded_text option bytes)
    one_frames Encode option bytes = one_given IsText BadFrames capture_refusal one_asked (encoded_text option bytes)
    one_frames PcapDecode option bytes = one_given IsText BadFrames pcap_refusal one_asked (decoded_pcap option bytes)
    one_frames PcapEncode option bytes = one_given IsText BadFrames capture_refusal one_asked (encoded_pcap option bytes)

    -- and a number of elements
    one_ladder : (what : LadderForm) (n : ℕ) → IsOne (LadderAnswer what n)
    one_ladder Gen n status other text another first second = (first.0 ∙ sym second.0, first.1 ∙ sym second.1)
    one_ladder Trial n status other text another first second = one_trial n status other text another first second

    -- and what an element received
    one_node : (plan : Topology) (element : ℕ) (bytes : List ℕ) (until : ℕ) → IsOne (IsNodeReply plan element bytes until)
    one_node plan element bytes until =
        one_given (λ rows. AreFramesSent plan element rows until) BadFrames node_refusal (λ rows. one_sent plan element rows until) (rows_of plan element bytes)

    -- what a form reads has one answer
    one_meaning : (form : Form) → HasOneAnswer (Some form) → (read : (meaning form).reading.Read) → IsOne ((meaning form).Answers read)
    one_meaning (on_plan what plan) has read = one_plan what plan has read
    one_meaning (on_file what plan name) has read = one_file what read.0 read.1
    one_meaning (on_frames what option name) has read = one_frames what option read
    one_meaning (on_ladder what n) has read = one_ladder what n
    one_meaning (node plan element name until) has read = one_node read.0 read.1 read.2 until

    -- a form has one answer
    one_form : (form : Option Form) (files : Contents) → HasOneAnswer form → IsOne (FormAnswer form files)
    one_form None files has status other text another first second = (first.0 ∙ sym second.0, first.1 ∙ sym second.1)
    one_form (Some form) files has status other text another first second =
        one_answered (meaning form).Answers (one_meaning form has) ((meaning form).reading.read files) status other text another first second

    pub one_status : (words : List (List ℕ)) (files : Contents) (status other : Status) (text another : List ℕ) → HasOneAnswer (form_of words)
        → IsAnswer words files status text → IsAnswer words files other another → status ≡ other
    one_status words files status other text another has first second = (one_form (form_of words) files has status other text another first second).0

    pub one_text : (words : List (List ℕ)) (files : Contents) (status other : Status) (text another : List ℕ) → HasOneAnswer (form_of words)
        → IsAnswer words files status text → IsAnswer words files other another → text ≡ another
    one_text words files status other text another has first second = (one_form (form_of words) files has status other text another first second).1
