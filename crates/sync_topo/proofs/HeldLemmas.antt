-- What is kept for each element when one more input or element comes.
use Rattle.std.proofs.Common.{◌≡◌, ℕ, ◌<◌, true, nat_lt, List, [], ◌∷◌, ◌++◌, length, Some, slice_get, slice_set, get_or, refl, sym, Vec}
use Rattle.std.proofs.Common.{inl, inr}
use Rattle.std.proofs.lemmas.Bool.{lt-ltb}
use Rattle.std.specs.declared.alloc.Global.{Global}
use Rattle.std.proofs.lemmas.Bool.Decides.{eqb_tells}
use Rattle.std.proofs.lemmas.List.{append-nil}
use Rattle.std.proofs.lemmas.Option.{slice_get_read}
use Rattle.sync_topo.specs.Held.{held}
use Rattle.sync_topo.specs.private.Held.{taken}
use Rattle.sync_topo.proofs.Lists.{slice_get-set_same, slice_get-set_other}

-- an input with a priority is kept for its element, and for no other
pub held-take : {A : Type 0} (inputs : List (Vec A Global)) (own taken_too : Vec A Global) (receiver priority : ℕ) (input : A) (element : ℕ)
    → receiver < length inputs → 0 < priority
    → own ≡ get_or inputs receiver own
    → taken_too.items ≡ own.items ++ input ∷ []
    → held (slice_set inputs receiver taken_too) element ≡ held inputs element ++ taken receiver priority input element
held-take inputs own taken_too receiver priority input element inside nominated read pushed =
    let here : slice_get inputs receiver ≡ Some own = slice_get_read inputs (length inputs) receiver own refl inside read in
    let given : nat_lt 0 priority ≡ true = lt-ltb 0 priority nominated in
    elim (eqb_tells receiver element) [
      | inl same ↦
          let at : slice_get (slice_set inputs receiver taken_too) element ≡ Some taken_too
          = rw (← same.1) (slice_get-set_same inputs receiver taken_too inside) in
          let before : slice_get inputs element ≡ Some own = rw (← same.1) here in
          rw (at, before, given, same.0, pushed) refl
      | inr other ↦
          rw (slice_get-set_other inputs receiver element taken_too other.1, given, other.0) (sym (append-nil (held inputs element)))
    ]
