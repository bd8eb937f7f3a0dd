-- How the work of a form ends: with a reply to what was read, or with what ended the reading.
use Rattle.std.proofs.Common.{◌≡◌, ℕ, List, Option, None, Some, Result, Ok, Err, refl, sym, subst, arith}
use Rattle.std.specs.Prelude.{⊤, IfOk, IfSome, codes}
use Rattle.std.proofs.lemmas.Option.{IfSome_then}
use Rattle.sync_text.specs.declared.errors.NoMemory as wanting
use Rattle.sync_edge.specs.Contents.{Contents}
use Rattle.plan_texts.specs.Lines.{text_line}
use Rattle.sync_top.specs.declared.status.Status.{Status}
use Rattle.sync_top.specs.declared.status.Status.TheVariants.{Done, Refuted, Usage, BadPlan, BadCert, BadEvents, BadFrames, ReadFault, WriteFault, TooLong, NoMemory, Stopped}
use Rattle.sync_top.specs.declared.found.Finding.{Finding}
use Rattle.sync_top.specs.declared.found.Finding.TheVariants as finding
use Rattle.sync_top.specs.declared.found.Found.{Found}
use Rattle.sync_top.specs.declared.reply.Reply.{Reply}
use Rattle.sync_top.specs.declared.reply.Stop.{Stop}
use Rattle.sync_top.specs.declared.reply.Stop.TheVariants.{Ended, NoMemory}
use Rattle.sync_top.specs.Form.{Form}
use Rattle.sync_top.specs.Reading.{End, no_file, answered, one_file, no_files}
use Rattle.sync_top.specs.Answer.{Outside, meaning, FormAnswer, FormMissesFile, IsAnswer, MissesFile}
use Rattle.sync_top.specs.private.Work.{EndsIn, Gets, HasRead, WorkFacts, Works, ends_in, replied}

-- what holds of all contents holds of those that are told
always : (P : Contents → Type 0) (told : Option Contents) → ((files : Contents) → P files) → IfSome told P
always P None all = tt
always P (Some files) all = all files

-- one file that was read is all that a form of one file reads
pub one-read : {A B : Type 0} (see : A → B) (outside : Outside) (tried tries : ℕ) (result : Result A Stop) (step : Contents → Result B End)
    → Gets see outside tried tries result step → HasRead (one_file step) see outside tried tries result
one-read see outside tried tries result step gets = record {
  reads = gets.reads;
  form = gets.form;
  once = gets.once;
  plan_alone = λ _. gets.once;
  first_alone = always _ outside.told (λ files _. gets.once);
}

-- a form of no files has read all
pub no-read : (outside : Outside) (tried : ℕ) → outside.now ≡ outside.before → HasRead no_files (λ (value : ⊤). value) outside tried tried (Ok tt)
no-read outside tried calm = record {
  reads = (always (λ files. no_files.read files ≡ Ok tt) outside.told (λ files. refl), calm);
  form = tt;
  once = omega arith;
  plan_alone = λ bad. cc;
  first_alone = always _ outside.told (λ files ends. omega arith);
}

module _ (form : Form) (outside : Outside) where
  -- what answers what was read is an answer to the form
  answers-read : (told : Option Contents) (value : (meaning form).reading.Read) (status : Status) (text : List ℕ)
      → IfSome told (λ files. (meaning form).reading.read files ≡ Ok value) → (meaning form).Answers value status text
      → IfSome told (λ files. FormAnswer (Some form) files status text)
  answers-read None value status text is answers = tt
  answers-read (Some files) value status text is answers = rw is answers

  -- so is what ended the reading
  answers-end : (told : Option Contents) (status : Status) (text : List ℕ)
      → IfSome told (λ files. (meaning form).reading.read files ≡ Err (answered status text))
      → IfSome told (λ files. FormAnswer (Some form) files status text)
  answers-end None status text is = tt
  answers-end (Some files) status text is = rw is (refl, refl)

  -- what was found ends the work
  ends-found : (value : (meaning form).reading.Read) (f : Finding) (text : List ℕ)
      → IfSome outside.told (λ files. (meaning form).reading.read files ≡ Ok value) → outside.now ≡ outside.before
      → (meaning form).Answers value (ends_in f) text → EndsIn (FormAnswer (Some form)) (FormMissesFile (Some form)) outside (ends_in f) text
  ends-found value finding.Done text is calm answers = (answers-read outside.told value Done text is answers, calm)
  ends-found value finding.Refuted text is calm answers = (answers-read outside.told value Refuted text is answers, calm)
  ends-found value finding.Stopped text is calm answers = (answers-read outside.told value Stopped text is answers, calm)
  ends-found value finding.BadCert text is calm answers = (answers-read outside.told value BadCert text is answers, calm)
  ends-found value finding.BadEvents text is calm answers = (answers-read outside.told value BadEvents text is answers, calm)
  ends-found value finding.BadFrames text is calm answers = (answers-read outside.told value BadFrames text is answers, calm)

  -- what ended the reading ends the work
  ends-in : (status : Status) (text : List ℕ)
      → EndsIn (λ files known written. (meaning form).reading.read files ≡ Err (answered known written)) (λ files. (meaning form).reading.read files ≡ Err no_file) outside status text
      → EndsIn (FormAnswer (Some form)) (FormMissesFile (Some form)) outside status text
  ends-in ReadFault text ends = ends
  ends-in WriteFault text ends = ends
  ends-in NoMemory text ends = ends
  ends-in Done text ends = (answers-end outside.told Done text ends.0, ends.1)
  ends-in Refuted text ends = (answers-end outside.told Refuted text ends.0, ends.1)
  ends-in Usage text ends = (answers-end outside.told Usage text ends.0, ends.1)
  ends-in BadPlan text ends = (answers-end outside.told BadPlan text ends.0, ends.1)
  ends-in BadCert text ends = (answers-end outside.told BadCert text ends.0, ends.1)
  ends-in BadEvents text ends = (answers-end outside.told BadEvents text ends.0, ends.1)
  ends-in BadFrames text ends = (answers-end outside.told BadFrames text ends.0, ends.1)
  ends-in TooLong text ends = (answers-end outside.told TooLong text ends.0, ends.1)
  ends-in Stopped text ends = (answers-end outside.told Stopped text ends.0, ends.1)

-- what was found is no status of the reading
never-usage : (f : Finding) → ends_in f ≡ Usage → ⊥
never-usage finding.Done is = cc
never-usage finding.Refuted is = cc
never-usage finding.Stopped is = cc
never-usage finding.BadCert is = cc
never-usage finding.BadEvents is = cc
never-usage finding.BadFrames is = cc

never-bad_plan : (f : Finding) → ends_in f ≡ BadPlan → ⊥
never-bad_plan finding.Done is = cc
never-bad_plan finding.Refuted is = cc
never-bad_plan finding.Stopped is = cc
never-bad_plan finding.BadCert is = cc
never-bad_plan finding.BadEvents is = cc
never-bad_plan finding.BadFrames is = cc

-- all was read, and what was found of it is replied
pub worked : {A : Type 0} (form : Form) (outside : Outside) (tried tries : ℕ) (see : A → (meaning form).reading.Read) (value : A)
    (found : Result Found wanting.NoMemory) (result : Result Reply Stop)
    → HasRead (meaning form).reading see outside tried tries (Ok value)
    → IfOk found (λ f. (meaning form).Answers (see value) (ends_in f.finding) f.text)
    → result ≡ replied found → Works (Some form) outside tried tries result
unfolding Works
worked form outside tried tries see value found result has answers is =
    subst (λ r. WorkFacts (Some form) outside tried tries r) (sym is) (by found answers)
  where
    some : {X : Type 0} (x y : X) → Some x ≡ Some y → x ≡ y
    some x y same = cc

    by : (found : Result Found wanting.NoMemory) → IfOk found (λ f. (meaning form).Answers (see value) (ends_in f.finding) f.text)
        → WorkFacts (Some form) outside tried tries (replied found)
    by (Ok f) answers = record {
      replies = ends-found form outside (see value) f.finding f.text has.reads.0 has.reads.1 answers;
      usage = (λ usage. absurd (never-usage f.finding usage), λ none. cc);
      once = has.once;
      plan_alone = λ bad. absurd (never-bad_plan f.finding (some (ends_in f.finding) BadPlan bad));
      first_alone = has.first_alone;
    }
    by (Err no_memory) answers = record {
      replies = tt;
      usage = tt;
      once = has.once;
      plan_alone = λ bad. cc;
      first_alone = has.first_alone;
    }

-- something ended the reading
pub ended : {A : Type 0} (form : Form) (outside : Outside) (tried tries : ℕ) (see : A → (meaning form).reading.Read) (stop : Stop)
    → HasRead (meaning form).reading see outside tried tries (Err stop) → Works (Some form) outside tried tries (Err stop)
unfolding Works
ended form outside tried tries see NoMemory has = record {
  replies = tt;
  usage = tt;
  once = has.once;
  plan_alone = has.plan_alone;
  first_alone = has.first_alone;
}
ended form outside tried tries see (Ended reply) has = record {
  replies = ends-in form outside reply.status reply.text has.reads;
  usage = (λ usage. absurd (has.form usage), λ none. cc);
  once = has.once;
  plan_alone = has.plan_alone;
  first_alone = has.first_alone;
}

-- words that are no form, and out of memory
pub no-form : (outside : Outside) (tried : ℕ) (text : List ℕ) → text ≡ text_line (codes "usage") → outside.now ≡ outside.before
    → Works None outside tried tried (Ok (record { status = Usage; text = text }))
unfolding Works
no-form outside tried text is calm = record {
  replies = (always (λ files. FormAnswer None files Usage text) outside.told (λ files. (refl, is)), calm);
  usage = (λ _. refl, λ _. refl);
  once = omega arith;
  plan_alone = λ bad. cc;
  first_alone = always _ outside.told (λ files ends. absurd ends);
}

pub no-memory : (outside : Outside) (tried : ℕ) → Works None outside tried tried (Err NoMemory)
unfolding Works
no-memory outside tried = record {
  replies = tt;
  usage = tt;
  once = omega arith;
  plan_alone = λ bad. cc;
  first_alone = always _ outside.told (λ files ends. absurd ends);
}

-- what follows from an answer that is done holds where the work ended so
pub done-from : (P : Contents → Type 0) (words : List (List ℕ)) (outside : Outside) (status : Status) (text : List ℕ)
    → ((files : Contents) → IsAnswer words files Done text → P files)
    → EndsIn (IsAnswer words) (MissesFile words) outside status text → status ≡ Done → IfSome outside.told P
done-from P words outside status text follows ends done =
    IfSome_then outside.told (subst (λ (s : Status). EndsIn (IsAnswer words) (MissesFile words) outside s text) done ends).0 follows
