-- What a lockout leaves.
use Rattle.std.proofs.Common.{◌≡◌, ◌≤◌, ◌<◌, ℕ, Bool, true, false, List, take, set, length, replicate, length-take, Option, None, Some, IfSome, refl, arith, get_or-set_other}
use Rattle.std.proofs.Math.Seq.{take-set-lt}
use Rattle.std.proofs.lemmas.List.{take-replicate}
use Rattle.std.proofs.lemmas.Bool.Decides.{nat_tests}
use Rattle.sync_ql.specs.Switches.{Switches, unswitched, other_than}
use Rattle.operator_cmds.specs.private.Switched.{IsFree}

abbrev pub switches : List Bool → Option ℕ → Option ℕ → Switches
switches locked forced manual = record { locked = locked; forced = forced; manual = manual }

-- the lockouts of the inputs alone
pub take_set : (n : ℕ) (locked : List Bool) (i : ℕ) (lock : Bool) → i < n → take n (set locked i lock) ≡ set (take n locked) i lock
take_set n locked i lock within = take-set-lt n locked i lock within

-- a forced input that stays after a lockout is free
pub free_of_others : (inputs : ℕ) (locked : List Bool) (i : ℕ) (forced : Option ℕ) → IfSome forced (IsFree inputs locked) → IfSome (other_than i forced) (IsFree inputs (set locked i true))
free_of_others inputs locked i None free = tt
free_of_others inputs locked i (Some k) free = grind (arith, nat_tests, get_or-set_other {A = Bool})

-- an input that is one of the lockouts is one of the inputs
pub within_inputs : (n i : ℕ) (locked : List Bool) → i < length (take n locked) → i < n
within_inputs n i locked within = omega (arith, length-take n locked)

-- an input is locked out, or no longer, and the switches stay, or lose a forced one
pub relocked : (n i : ℕ) (locked : List Bool) (lock : Bool) (forced manual forced_then manual_then : Option ℕ) → i < length (take n locked) → forced_then ≡ forced → manual_then ≡ manual →
    switches (take n (set locked i lock)) forced_then manual_then ≡ switches (set (take n locked) i lock) forced manual
relocked n i locked lock forced manual forced_then manual_then within same_forced same_manual =
    rw (take_set n locked i lock (within_inputs n i locked within), same_forced, same_manual) refl

-- no input is locked out
pub none_locked : (n : ℕ) → n ≤ 64 → switches (take n (replicate 64 false)) None None ≡ unswitched n
none_locked n few = rw (take-replicate n 64 false few) refl
