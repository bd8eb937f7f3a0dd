-- The exit status of the program. This project's own.
use Rattle.std.specs.Prelude.{ℕ, ⊤}
use Rattle.sync_top.specs.declared.status.Status.{Status}
use Rattle.sync_top.specs.declared.status.Status.TheVariants.{Done, Refuted, Usage, BadPlan, BadCert, BadEvents, BadFrames, ReadFault, WriteFault, TooLong, NoMemory, Stopped}

-- the number of each status
abbrev pub exit_number : Status → ℕ
exit_number Done = 0
exit_number Refuted = 1
exit_number Usage = 2
exit_number BadPlan = 3
exit_number BadCert = 4
exit_number BadEvents = 5
exit_number BadFrames = 6
exit_number ReadFault = 7
exit_number WriteFault = 8
exit_number TooLong = 9
exit_number NoMemory = 10
exit_number Stopped = 11

-- a fact for each status that tells an answer: no fault, and not out of memory
abbrev pub OnAnswer : Status → Type 0 → Type 0
OnAnswer ReadFault P = ⊤
OnAnswer WriteFault P = ⊤
OnAnswer NoMemory P = ⊤
OnAnswer status P = P

-- a fact where the work is done and one where it is refuted, and none with another status
abbrev pub OnDoneOrRefuted : Status → Type 0 → Type 0 → Type 0
OnDoneOrRefuted Done Found Against = Found
OnDoneOrRefuted Refuted Found Against = Against
OnDoneOrRefuted status Found Against = ⊥

-- the same where it is done and where it stopped
abbrev pub OnDoneOrStopped : Status → Type 0 → Type 0 → Type 0
OnDoneOrStopped Done Found Short = Found
OnDoneOrStopped Stopped Found Short = Short
OnDoneOrStopped status Found Short = ⊥
