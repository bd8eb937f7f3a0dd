-- What a done answer says of the plan that was read: no timing loop can form in it, its rows of chains are bounds, and it
-- holds out.
use Rattle.std.proofs.Common.{◌≡◌, ℕ, List, Option, Some, Result, Ok, Err, refl, sym, subst, ◌∙◌}
use Rattle.sync_edge.specs.Contents.{Contents}
use Rattle.sync_topo.specs.declared.error.PlanErr.{PlanErr}
use Rattle.sync_topo.specs.declared.rows.PlanRows.{PlanRows}
use Rattle.sync_topo.specs.Topology.{Topology}
use Rattle.sync_topo.specs.declared.sizes.Size.{Size}
use Rattle.sync_topo.specs.Sizes.{size_of}
use Rattle.sync_topo.specs.PlanRows.{plan_of_sized}
use Rattle.sync_topo.specs.WellFormed.{IsWellFormed}
use Rattle.sync_topo.proofs.SizedPlans.{sized-accepted}
use Rattle.net_rules.proofs.FinalLaws.{loop_free}
use Rattle.plan_rows.specs.declared.error.PlanFileErr.{PlanFileErr}
use Rattle.sync_text.specs.Chain.{◌>>=◌}
use Rattle.plan_file.specs.PlanText.{rows_in_file, of_rows, plan_of_size}
use Rattle.rank_cert.specs.Ranks.{Ranks, rank_of}
use Rattle.rank_cert.specs.CertificateText.{certificate_of}
use Rattle.sync_top.specs.declared.status.Status.{Status}
use Rattle.sync_top.specs.declared.status.Status.TheVariants.{Done, BadCert, BadEvents}
use Rattle.sync_top.specs.declared.form.PlanForm.TheVariants.{Chains, Protected, Agree}
use Rattle.sync_top.specs.declared.form.FileForm.TheVariants as asks
use Rattle.sync_top.specs.declared.form.RanksForm.{RanksForm}
use Rattle.sync_top.specs.declared.form.RanksForm.TheVariants.{Check, PrioCheck}
use Rattle.sync_top.specs.declared.form.LadderForm.TheVariants.{Trial}
use Rattle.sync_top.specs.Form.{Form, PlanName, on_plan, on_file, on_ladder}
use Rattle.sync_top.specs.Reading.{End, no_file, answered, file, plan_in, plan_and_file, Answered, OrRefused}
use Rattle.sync_top.specs.Forms.Check.{certificate_refusal}
use Rattle.sync_top.specs.Forms.Trial.{IsTrial}
use Rattle.sync_top.specs.Answer.{FormAnswer, IsRanksReply, RanksAnswer}
use Rattle.sync_top.specs.LoopFree.{IsCheckedLoopFree}
use Rattle.sync_top.specs.Forms.Priority.{IsCheckedForPriority}
use Rattle.prio_mode.proofs.LoopLaws.{never_loops}
use Rattle.sync_top.proofs.Accepted.{file_never_done, never_done}
use Rattle.sync_top.specs.ChainBounds.{IsBoundedByChains}
use Rattle.sync_top.specs.Protection.{IsHoldingOut}
use Rattle.sync_top.specs.Agreement.{IsComingToRest}
use Rattle.sync_top.specs.Forms.Agree.{IsAgreedText}
use Rattle.reach_rules.specs.Failing.{is_planned}
use Rattle.reach_rules.proofs.AgreedLaws.{comes-to-rest}
use Rattle.reach_rules.proofs.FailingLaws.{rests-soon, sooner}
use Rattle.sync_top.specs.Forms.Protected.{IsProtectedText}
use Rattle.sync_top.specs.Forms.Groups.{group_refusal, IsGroupsReply, IsGroupsText}
use Rattle.reach_rules.specs.Protection.{IsProtectedWith}
use Rattle.group_file.specs.GroupText.{groups_of}
use Rattle.reach_rules.proofs.ProtectionLaws.{protected-holds, with-holds}
use Rattle.reach_rules.proofs.SurvivalLaws.{survives-with, survives-soon_with}
use Rattle.sync_top.specs.Forms.Chains.{IsChained}
use Rattle.reach_rules.proofs.ChainLaws.{rows-bound}
use Rattle.sync_topo.specs.Hops.{hops, hops_any}
use Rattle.sync_topo.specs.Ranks.{HopTest, Rises}

-- the plan of some bytes is well formed
plan-well : (size : Size) (bytes : List ℕ) (plan : Topology) → plan_of_size size bytes ≡ Ok plan → IsWellFormed plan
unfolding plan_of_size
plan-well size bytes plan is = by (rows_in_file bytes) is
  where
    of : (made : Result Topology PlanErr) → of_rows made ≡ Ok plan → made ≡ Ok plan
    of (Ok own) given = cc
    of (Err error) given = cc

    by : (rows : Result PlanRows PlanFileErr) → (rows >>= λ r. of_rows (plan_of_sized size r)) ≡ Ok plan → IsWellFormed plan
    by (Ok rows) given = (sized-accepted size rows plan (of (plan_of_sized size rows) given)).0
    by (Err error) given = cc

-- so is the plan of a file
pub file-well : (name : PlanName) (files : Contents) (plan : Topology) → plan_in name files ≡ Ok plan → IsWellFormed plan
file-well name files plan is = by (file name.size name.name files) refl
  where
    read : (bytes : List ℕ) (o : Result Topology PlanFileErr) → plan_of_size name.size bytes ≡ o → file name.size name.name files ≡ Ok bytes → IsWellFormed plan
    read bytes (Ok own) gives found = plan-well name.size bytes plan (gives ∙ cc (rw (found, gives) at is))
    read bytes (Err error) gives found = cc (rw (found, gives) at is)

    by : (o : Result (List ℕ) End) → file name.size name.name files ≡ o → IsWellFormed plan
    by (Ok bytes) found = read bytes (plan_of_size name.size bytes) refl found
    by (Err end) found = cc (rw found at is)

-- what was read where the answer is done, and the answer to it
pub done-read : {A : Type 0} (Answers : A → Status → List ℕ → Type 0) (read : Result A End) (text : List ℕ)
    → ((known : Status) (said : List ℕ) → read ≡ Err (answered known said) → known ≡ Done → ⊥)
    → Answered Answers read Done text → (value : A) × (read ≡ Ok value) × Answers value Done text
done-read Answers (Ok value) text never answer = (value, refl, answer)
done-read Answers (Err no_file) text never answer = absurd answer
done-read Answers (Err (answered known said)) text never answer = absurd (never known said refl (sym answer.0))

-- and where reading goes on
done-first : {A B : Type 0} (Answers : B → Status → List ℕ → Type 0) (read : Result A End) (next : A → Result B End) (text : List ℕ)
    → ((known : Status) (said : List ℕ) → read ≡ Err (answered known said) → known ≡ Done → ⊥)
    → Answered Answers (read >>= next) Done text → (value : A) × (read ≡ Ok value) × Answered Answers (next value) Done text
done-first Answers (Ok value) next text never answer = (value, refl, answer)
done-first Answers (Err no_file) next text never answer = absurd answer
done-first Answers (Err (answered known said)) next text never answer = absurd (never known said refl (sym answer.0))

-- what was made of what was given where the answer is done, and the answer to it
done-given : {A E : Type 0} (Answers : A → Status → List ℕ → Type 0) (known : Status) (line : E → List ℕ) (made : Result A E) (text : List ℕ) → (known ≡ Done → ⊥)
    → OrRefused Answers known line made Done text → (value : A) × (made ≡ Ok value) × Answers value Done text
done-given Answers known line (Ok value) text never answer = (value, refl, answer)
done-given Answers known line (Err refused) text never answer = absurd (never (sym answer.0))

-- where the answer to a plan and the bytes of a file is done, they were read
done-file : (Answers : Topology × List ℕ → Status → List ℕ → Type 0) (plan_name : PlanName) (name text : List ℕ) (files : Contents)
    → Answered Answers (plan_and_file plan_name name files) Done text
    → (plan : Topology) × (plan_in plan_name files ≡ Ok plan) × ((bytes : List ℕ) × (file (size_of plan) name files ≡ Ok bytes) × Answers (plan, bytes) Done text)
done-file Answers plan_name name text files answer =
    let first = done-first Answers (plan_in plan_name files) (λ plan. file (size_of plan) name files >>= λ bytes. Ok (plan, bytes)) text (never_done plan_name files) answer in
    (first.0, first.1, done-first Answers (file (size_of first.0) name files) (λ bytes. Ok (first.0, bytes)) text (file_never_done (size_of first.0) name files) first.2)

-- where ranks are accepted over some hops, a plan was read, and they rise
rising : (what : RanksForm) (hop : Topology → HopTest) (plan_name : PlanName) (name text : List ℕ) (files : Contents)
    → ((plan : Topology) (ranks : Ranks) → RanksAnswer what plan ranks Done text → Rises (hop plan) (rank_of ranks))
    → Answered (λ (read : Topology × List ℕ). IsRanksReply what read.0 read.1) (plan_and_file plan_name name files) Done text
    → (plan : Topology) × (plan_in plan_name files ≡ Ok plan) × ((ranks : Ranks) × Rises (hop plan) (rank_of ranks))
rising what hop plan_name name text files rises answer =
    let read = done-file (λ read. IsRanksReply what read.0 read.1) plan_name name text files answer in
    let plan = read.0 in
    let given = done-given (RanksAnswer what plan) BadCert (certificate_refusal plan) (certificate_of plan read.2.0) text (λ done. cc) read.2.2 in
    (plan, read.1, (given.0, rises plan given.0 given.2))

-- what the answer to a form says where the form is this one
pub answer-to : (form : Option Form) (own : Form) (files : Contents) (text : List ℕ) → FormAnswer form files Done text → form ≡ Some own → FormAnswer (Some own) files Done text
answer-to form own files text answer is = subst (λ (f : Option Form). FormAnswer f files Done text) is answer

module _ (form : Option Form) (files : Contents) (text : List ℕ) (answer : FormAnswer form files Done text) where
  pub form-loop_free : IsCheckedLoopFree form files
  form-loop_free = record {
    checked = λ plan_name name is.
        let found = rising Check hops plan_name name text files (λ plan ranks verdict. verdict.0) (answer-to form (on_file (asks.Ranks Check) plan_name name) files text answer is) in
        (found.0, found.1, loop_free found.0 (rank_of found.2.0) (file-well plan_name files found.0 found.1) found.2.1);
    tried = λ n is. let trial : IsTrial n Done text = answer-to form (on_ladder Trial n) files text answer is in trial.1.accepted;
  }

  pub form-never_loops : IsCheckedForPriority form files
  form-never_loops = λ plan_name name is.
      let found = rising PrioCheck hops_any plan_name name text files (λ plan ranks verdict. verdict.0) (answer-to form (on_file (asks.Ranks PrioCheck) plan_name name) files text answer is) in
      (found.0, found.1, never_loops found.0 (rank_of found.2.0) found.2.1)

  -- where `chains` is done, a plan was read, and it has rows, which are bounds
  pub form-bounds : IsBoundedByChains form files
  form-bounds = λ name is.
      let found = done-read IsChained (plan_in name files) text (never_done name files) (answer-to form (on_plan Chains name) files text answer is) in
      let rows = found.2.1 in
      (found.0, found.1, (rows.0, rows.1, rows-bound found.0 rows.0 (file-well name files found.0 found.1) rows.1))

  -- where `protected` is done, a plan was read, and it holds out; and with groups, a plan and groups were read, and it withstands them
  pub form-holds_out : IsHoldingOut form files
  form-holds_out = record {
    alone = λ name is.
        let found = done-read IsProtectedText (plan_in name files) text (never_done name files) (answer-to form (on_plan Protected name) files text answer is) in
        (found.0, found.1, protected-holds found.0 (file-well name files found.0 found.1) found.2.0);
    grouped = λ plan_name name is.
        let read = done-file (λ read. IsGroupsReply read.0 read.1) plan_name name text files (answer-to form (on_file asks.Groups plan_name name) files text answer is) in
        let plan = read.0 in
        let bytes = read.2.0 in
        let given = done-given (IsGroupsText plan) BadEvents group_refusal (groups_of plan bytes) text (λ done. cc) read.2.2 in
        let groups = given.0 in
        let well = file-well plan_name files plan read.1 in
        let protected : IsProtectedWith plan groups = given.2.0 in (
          plan,
          read.1,
          (
            bytes,
            read.2.1,
            (
              groups,
              given.1,
              record {
                holds = with-holds plan groups well protected;
                survives = λ bound agreed. survives-with plan bound groups well agreed protected;
                soon = λ bound failed. survives-soon_with plan bound groups well failed protected;
              },
            ),
          ),
        );
  }

  -- where `agree` is done, a plan was read, and it comes to rest by its bounds
  pub form-rests : IsComingToRest form files
  form-rests = λ name asked.
      let found = done-read IsAgreedText (plan_in name files) text (never_done name files) (answer-to form (on_plan Agree name) files text answer asked) in
      let plan = found.0 in
      let is = found.2 in (
        plan,
        found.1,
        record {
          bound = is.bound;
          agreed = is.agreed;
          comes = comes-to-rest plan is.bound is.well_formed is.agreed;
          failures = is.failures;
          failed = is.failed;
          sooner = sooner (is_planned plan) plan is.failures is.bound is.failed is.agreed;
          soon = rests-soon plan is.failures is.well_formed is.failed;
        },
      )
