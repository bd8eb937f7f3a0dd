-- What was to be written where a write failed.
use Rattle.std.proofs.Common.{ℕ, Bool, List, Option, Some, None, inl, inr}
use Rattle.std.specs.Prelude.{IfSome}
use Rattle.sync_edge.specs.Contents.{Contents}
use Rattle.sync_edge.specs.Transfers.{AppendsFront}
use Rattle.sync_top.specs.declared.status.Status.{Status}
use Rattle.sync_top.specs.declared.status.Status.TheVariants.{Done, Refuted, Usage, BadPlan, BadCert, BadEvents, BadFrames, ReadFault, WriteFault, TooLong, NoMemory, Stopped}
use Rattle.sync_top.specs.Answer.{Outside, IsAnswer, MissesFile, MayFault, IsCut}
use Rattle.sync_top.specs.private.Work.{EndsIn}

abbrev pub outside : Option Contents → Bool → ℕ → ℕ → Outside
outside told steady before now = record { told = told; steady = steady; before = before; now = now }

-- a front of a reply is a front of an answer, or of the line on a file that can't be read
pub cut-from : (words : List (List ℕ)) (told : Option Contents) (steady : Bool) (before now : ℕ) (old new : Option (List ℕ)) (status : Status) (text : List ℕ)
    → EndsIn (IsAnswer words) (MissesFile words) (outside told steady before now) status text → AppendsFront old new text
    → IfSome told (IsCut words old new (MayFault words (outside told steady before now)))
cut-from words None steady before now old new status text ends front = tt
cut-from words (Some files) steady before now old new ReadFault text (rose, written, missing) front = (text, front, inr (written, (rose, missing)))
cut-from words (Some files) steady before now old new WriteFault text ends front = absurd ends
cut-from words (Some files) steady before now old new NoMemory text ends front = absurd ends
cut-from words (Some files) steady before now old new Done text (answer, calm) front = (text, front, inl (Done, answer))
cut-from words (Some files) steady before now old new Refuted text (answer, calm) front = (text, front, inl (Refuted, answer))
cut-from words (Some files) steady before now old new Usage text (answer, calm) front = (text, front, inl (Usage, answer))
cut-from words (Some files) steady before now old new BadPlan text (answer, calm) front = (text, front, inl (BadPlan, answer))
cut-from words (Some files) steady before now old new BadCert text (answer, calm) front = (text, front, inl (BadCert, answer))
cut-from words (Some files) steady before now old new BadEvents text (answer, calm) front = (text, front, inl (BadEvents, answer))
cut-from words (Some files) steady before now old new Stopped text (answer, calm) front = (text, front, inl (Stopped, answer))
cut-from words (Some files) steady before now old new BadFrames text (answer, calm) front = (text, front, inl (BadFrames, answer))
cut-from words (Some files) steady before now old new TooLong text (answer, calm) front = (text, front, inl (TooLong, answer))
