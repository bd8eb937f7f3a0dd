-- A millisecond is settled where all inputs are steady and all lines settled, and what follows.
use Rattle.std.proofs.Common.{◌≡◌, ◌<◌, ◌-◌, ◌+◌, ℕ, zero, suc, false, Option, None, Some, ap, sym, subst, ◌∙◌, arith}
use Rattle.std.specs.Prelude.{IsTrue, nat_eq, if◌then◌else◌}
use Rattle.std.proofs.Math.Decide.{dec_lt}
use Rattle.std.proofs.lemmas.Option.{none-some, same_Some}
use Rattle.std.proofs.lemmas.Bool.{ne_eqb}
use Rattle.sync_text.proofs.Each.{Each-map}
use Rattle.sync_topo.specs.declared.input.InputId.{InputId}
use Rattle.sync_topo.specs.Topology.{Topology}
use Rattle.sync_topo.specs.Lines.{IsInput, IsNominated, is_nominated_input, inputs_of}
use Rattle.net_rules.specs.Signals.{Signals}
use Rattle.net_rules.specs.Inputs.{IsInputOf}
use Rattle.net_rules.specs.History.{Levels}
use Rattle.net_rules.specs.Settled.{IsSteady, IsSettledByNews}
use Rattle.net_rules.proofs.InputLaws.{inputs-are}
use Rattle.settle_trace.specs.private.Resting.{IsLineSettled, AreSteady}

-- the last of so many milliseconds
pub last-is : (next now : ℕ) (answer : Option ℕ) → answer ≡ Some now → answer ≡ (if nat_eq next 0 then None else Some (next - 1)) → next ≡ suc now
last-is zero now answer some is = absurd (none-some now (sym is ∙ some))
last-is (suc t) now answer some is =
    let other : nat_eq (suc t) 0 ≡ false = ne_eqb (suc t) 0 (λ same. omega (arith, same)) in
    let there : answer ≡ Some (suc t - 1) = is ∙ ap (λ b. if b then None else Some (suc t - 1)) other in
    let same : suc t - 1 ≡ now = same_Some (suc t - 1) now (sym there ∙ some) in
    omega (arith, same)

-- one more of so many
pub one-more : (P : ℕ → Type 0) (n : ℕ) → ((k : ℕ) → k < n → P k) → P n → (k : ℕ) → k < n + 1 → P k
one-more P n before here k within = elim (dec_lt k n) [
  | yes earlier ↦ before k earlier
  | no last ↦ let same : n ≡ k = omega (arith, within, last) in subst P same here
]

-- all parts of a settled millisecond, line by line
pub settled-by : (plan : Topology) (signals : Signals) (out : Levels) (t : ℕ)
    → ((input : InputId) → IsInput plan input → IsTrue (is_nominated_input plan input) → IsSteady plan signals input t)
    → ((line : ℕ) → IsNominated plan line → IsLineSettled plan signals out t line)
    → IsSettledByNews plan signals out t
settled-by plan signals out t steady lines = record {
  steady = steady;
  carried = λ line nominated. (lines line nominated).carried;
  spoken = λ line nominated. (lines line nominated).spoken;
  silent = λ line nominated. (lines line nominated).silent;
  nothing_on_way = λ line nominated. (lines line nominated).nothing_on_way;
}

pub settled-line : (plan : Topology) (signals : Signals) (out : Levels) (t line : ℕ) → IsSettledByNews plan signals out t
    → IsNominated plan line → IsLineSettled plan signals out t line
settled-line plan signals out t line settled nominated = record {
  carried = settled.carried line nominated;
  spoken = settled.spoken line nominated;
  silent = settled.silent line nominated;
  nothing_on_way = settled.nothing_on_way line nominated;
}

-- and of each element of the plan
pub settled-element : (plan : Topology) (signals : Signals) (t element : ℕ)
    → ((input : InputId) → IsInput plan input → IsTrue (is_nominated_input plan input) → IsSteady plan signals input t)
    → AreSteady plan signals t element
settled-element plan signals t element steady =
    Each-map (IsInputOf plan element) (λ input. IsSteady plan signals input t) (λ input is. steady input is.has is.nominated) (inputs_of plan element) (inputs-are plan element)
