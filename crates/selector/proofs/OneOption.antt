-- The levels of a table are of one network option.
use Rattle.std.proofs.Common.{◌≡◌, ◌<◌, ℕ, Bool, true, false, nat_eq, List, set, length, Option, None, Some, refl, sym, arith, subst, get_or-set_other}
use Rattle.std.proofs.lemmas.Bool.Decides.{nat_tests}
use Rattle.std.proofs.lemmas.List.{get_or-set_same}
use Rattle.sync_ql.specs.declared.levels.Level.{Level}
use Rattle.sync_ql.specs.declared.rules.Candidate.{Candidate}
use Rattle.sync_ql.specs.Selection.{candidate, SameOption, AreOfOneOption}
use Rattle.sync_ql.proofs.Eligible.{nobody}

same_self : (l : Option Level) → SameOption l l
same_self None = tt
same_self (Some level) = refl

same_sym : (a b : Option Level) → SameOption a b → SameOption b a
same_sym None None same = tt
same_sym None (Some b) same = tt
same_sym (Some a) None same = tt
same_sym (Some a) (Some b) same = sym same

pub one_option-set : (inputs : List Candidate) (i : ℕ) (c : Candidate) → i < length inputs → AreOfOneOption inputs → ((k : ℕ) → SameOption c.level (candidate inputs k).level) → AreOfOneOption (set inputs i c)
one_option-set inputs i c within all same j k = of (nat_eq j i) refl (nat_eq k i) refl
  where
    here : (m : ℕ) → nat_eq m i ≡ true → candidate (set inputs i c) m ≡ c
    here m is =
        let e : i ≡ m = grind (arith, nat_tests) in
        subst (λ n. candidate (set inputs i c) n ≡ c) e (get_or-set_same inputs i c nobody within)

    there : (m : ℕ) → nat_eq m i ≡ false → candidate (set inputs i c) m ≡ candidate inputs m
    there m is = let apart : ¬ (m ≡ i) = grind (arith, nat_tests) in get_or-set_other inputs i m c nobody apart

    of : (a : Bool) → nat_eq j i ≡ a → (b : Bool) → nat_eq k i ≡ b → SameOption (candidate (set inputs i c) j).level (candidate (set inputs i c) k).level
    of true first true second = rw (here j first, here k second) (same_self c.level)
    of true first false second = rw (here j first, there k second) (same k)
    of false first true second = rw (there j first, here k second) (same_sym c.level (candidate inputs j).level (same j))
    of false first false second = rw (there j first, there k second) (all j k)
