-- What a transfer has done so far.
use Rattle.std.proofs.Common.{◌≡◌, ◌∙◌, ap, ℕ, ◌+◌, ◌≤◌, List, length, take, drop, Bool, Option, Some, None, Result, Ok, Err, arith}
use Rattle.std.proofs.Math.Seq.{take-add}
use Rattle.std.proofs.KnownBytes.{Appends-trans}
use Rattle.std.specs.Io.KnownBytes.{Appends, Consumes}
use Rattle.sync_edge.specs.Contents.{Contents, Holds, HoldsMoreThan, Starts, KeepsFolder}
use Rattle.sync_edge.specs.Transfers.{AreRead, IsTriedOnce}
use Rattle.sync_edge.specs.private.Transfers.{AreTaken, IsLeft, IsMoreLeftThan}
use Rattle.sync_edge.specs.Faults.{one_more}
use Rattle.sync_edge.specs.declared.errors.ReadErr.{ReadErr}
use Rattle.sync_edge.specs.declared.errors.ReadErr.TheVariants.{Failed, TooLong, NoMemory}

-- the text is what was read since the start, and no call failed
pub record ReadsSoFar {F : Type 0} (contents : F → Option Contents) (left : F → Option (List ℕ)) (steady : F → Bool) (faults tries : F → ℕ) (old now : F) (text : List ℕ) : Type 0 where
  pub read : Consumes (left old) (left now) text
  pub keeps : KeepsFolder contents steady faults old now
  pub calm : faults now ≡ faults old
  pub tried : tries now ≡ tries old

-- the first `done` bytes were written, and no call failed
pub record WritesSoFar {K : Type 0} (written : K → Option (List ℕ)) (faults : K → ℕ) (old now : K) (bytes : List ℕ) (done : ℕ) : Type 0 where
  pub within : done ≤ length bytes
  pub front : Appends (written old) (written now) (take done bytes)
  pub calm : faults now ≡ faults old

-- what each of two calls keeps, both keep
pub keeps_folder_trans : {F : Type 0} {contents : F → Option Contents} {steady : F → Bool} {faults : F → ℕ} (a b c : F) → KeepsFolder contents steady faults a b → KeepsFolder contents steady faults b c → KeepsFolder contents steady faults a c
keeps_folder_trans a b c first then = record {
  same = then.same ∙ first.same;
  stays = λ steady. then.stays (first.stays steady);
  later = omega (arith, first.later, then.later);
}

-- all that is left of a file just started is that file
pub holds_left : (told : Option Contents) (name : List ℕ) (left : Option (List ℕ)) (text : List ℕ) → Starts told name left → IsLeft left text → Holds told name text
holds_left None name left text starts all = tt
holds_left (Some files) name None text starts all = absurd starts
holds_left (Some files) name (Some rest) text starts all = starts ∙ ap Some all

-- a file just started has more bytes than the limit where more are left
pub holds_more : (limit : ℕ) (told : Option Contents) (name : List ℕ) (left : Option (List ℕ)) → Starts told name left → IsMoreLeftThan limit left → HoldsMoreThan limit told name
holds_more limit None name left starts more = tt
holds_more limit (Some files) name None starts more = absurd starts
holds_more limit (Some files) name (Some rest) starts more = rw starts more

-- what was taken of a file just started was read of that file
pub read_of : (most : ℕ) (told : Option Contents) (name : List ℕ) (before now : Option (List ℕ)) → Starts told name before → AreTaken most before now → AreRead most told name now
read_of most None name before now starts taken = tt
read_of most (Some files) name None now starts taken = absurd starts
read_of most (Some files) name (Some rest) None starts taken = absurd taken
read_of most (Some files) name (Some rest) (Some left) starts taken = rw starts taken

-- one try, and none after it, are one
pub tried_once : {T : Type 0} (a b c : ℕ) (result : Result T ReadErr) → b ≡ one_more a → c ≡ b → IsTriedOnce a c result
tried_once a b c (Err Failed) one none = none ∙ one
tried_once a b c (Err TooLong) one none = none ∙ one
tried_once a b c (Err NoMemory) one none = omega (arith, one, none)
tried_once a b c (Ok value) one none = none ∙ one

-- a write that follows what was written
pub writes_more : (a b c : Option (List ℕ)) (bytes : List ℕ) (done count : ℕ) → Appends a b (take done bytes) → Appends b c (take count (drop done bytes)) → Appends a c (take (done + count) bytes)
writes_more a b c bytes done count first then = rw take-add (Appends-trans _ _ _ _ _ first then)
