-- That the test of ranks accepts what the planner wrote.
use Rattle.std.proofs.Common.{◌≡◌, ◌≤◌, ◌<◌, ℕ, Bool, true, false, List, [], ◌∷◌, length, Option, Some, None, Result, Ok, Err, refl, sym}
use Rattle.std.specs.Prelude.{codes, nat_lt}
use Rattle.std.specs.FinMap.{get}
use Rattle.std.proofs.lemmas.Bool.{le-ltb, lt-ltb}
use Rattle.sync_edge.specs.Contents.{Contents}
use Rattle.sync_topo.specs.Topology.{Topology}
use Rattle.sync_topo.specs.declared.sizes.Size.{Size}
use Rattle.sync_topo.specs.Sizes.{size_of}
use Rattle.plan_rows.specs.declared.error.PlanFileErr.{PlanFileErr}
use Rattle.plan_file.specs.PlanText.{plan_of_size}
use Rattle.plan_texts.specs.Lines.{text_line}
use Rattle.sync_top.specs.declared.status.Status.{Status}
use Rattle.sync_top.specs.declared.status.Status.TheVariants.{Done}
use Rattle.sync_top.specs.Form.{PlanName, is_file_word, form_in}
use Rattle.sync_top.specs.Reading.{End, no_file, answered, file, file_limit, plan_in, plan_and_file, Answered}
use Rattle.sync_top.specs.Forms.Rank.{IsPlanned}
use Rattle.sync_top.specs.declared.form.RanksForm.TheVariants.{Check}
use Rattle.sync_top.specs.Answer.{FormAnswer, IsRanksReply}

-- a file that isn't too long is read
file_is : (size : Size) (name text : List ℕ) (files : Contents) → get files name ≡ Some text → length text ≤ file_limit size → file size name files ≡ Ok text
file_is size name text files there short =
    let fits : nat_lt (file_limit size) (length text) ≡ false = le-ltb _ _ short in
    rw (there, fits) refl

-- what ends the reading of a file is no answer that was done
pub file_never_done : (size : Size) (name : List ℕ) (files : Contents) (known : Status) (said : List ℕ) → file size name files ≡ Err (answered known said) → known ≡ Done → ⊥
file_never_done size name files known said is done = there (get files name) refl
  where
    long : (bytes : List ℕ) (b : Bool) → nat_lt (file_limit size) (length bytes) ≡ b → get files name ≡ Some bytes → ⊥
    long bytes true over found = cc (rw (found, over) at is, done)
    long bytes false fits found = cc (rw (found, fits) at is)

    there : (o : Option (List ℕ)) → get files name ≡ o → ⊥
    there None absent = cc (rw absent at is)
    there (Some bytes) found = long bytes (nat_lt (file_limit size) (length bytes)) refl found

-- nor is what ends the reading of a plan
pub never_done : (plan : PlanName) (files : Contents) (known : Status) (said : List ℕ) → plan_in plan files ≡ Err (answered known said) → known ≡ Done → ⊥
never_done plan files known said is done = by (file plan.size plan.name files) refl
  where
    refused : (bytes : List ℕ) (read : Result Topology PlanFileErr) → plan_of_size plan.size bytes ≡ read → file plan.size plan.name files ≡ Ok bytes → ⊥
    refused bytes (Ok topology) gives found = cc (rw (found, gives) at is)
    refused bytes (Err error) gives found = cc (rw (found, gives) at is, done)

    by : (read : Result (List ℕ) End) → file plan.size plan.name files ≡ read → ⊥
    by (Ok bytes) found = refused bytes (plan_of_size plan.size bytes) refl found
    by (Err no_file) found = cc (rw found at is)
    by (Err (answered status text)) found = file_never_done plan.size plan.name files status text found (cc (rw found at is, done))

-- what the planner wrote for a plan is accepted with this plan
accepted : (plan_name : PlanName) (name text : List ℕ) (files : Contents) → get files name ≡ Some text → (read : Result Topology End) → plan_in plan_name files ≡ read
    → Answered IsPlanned read Done text
    → Answered (λ read. IsRanksReply Check read.0 read.1) (plan_and_file plan_name name files) Done (text_line (codes "accepted"))
accepted plan_name name text files there (Ok plan) is (ranks, least, rising, written, back, short) =
    rw (is, file_is (size_of plan) name text files there short, back) (rising, refl)
accepted plan_name name text files there (Err no_file) is planned = absurd planned
accepted plan_name name text files there (Err (answered known said)) is planned = absurd (never_done plan_name files known said is (sym planned.0))

-- in each size that the words may allow
pub planned_is_accepted : (size : Size) (plan certificate text : List ℕ) (files : Contents) → FormAnswer (form_in size (codes "rank" ∷ plan ∷ [])) files Done text
    → 0 < length certificate → get files certificate ≡ Some text
    → FormAnswer (form_in size (codes "check" ∷ plan ∷ certificate ∷ [])) files Done (text_line (codes "accepted"))
planned_is_accepted size plan certificate text files = by (is_file_word plan) refl
  where
    by : (b : Bool) → is_file_word plan ≡ b → FormAnswer (form_in size (codes "rank" ∷ plan ∷ [])) files Done text
        → 0 < length certificate → get files certificate ≡ Some text
        → FormAnswer (form_in size (codes "check" ∷ plan ∷ certificate ∷ [])) files Done (text_line (codes "accepted"))
    by false none answer named there = cc (rw none at answer).0
    by true word answer named there =
        let other : is_file_word certificate ≡ true = lt-ltb _ _ named in
        let plan_name : PlanName = record { size = size; name = plan } in
        rw (word, other) (accepted plan_name certificate text files there (plan_in plan_name files) refl (rw word at answer))
