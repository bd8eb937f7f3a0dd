-- What doesn't touch an element says nothing of it.
use Rattle.std.proofs.Common.{◌≡◌, ◌+◌, ◌*◌, ◌/◌, ◌⊎◌, ℕ, Bool, true, false, ◌||◌, get_or, Option, None, Some, option_map, refl, ap, sym, ◌∙◌, inl, inr, arith}
use Rattle.std.specs.Prelude.{nat_eq, nat_lt, if◌then◌else◌}
use Rattle.std.specs.Cmp.Derive.{both_true}
use Rattle.std.proofs.lemmas.Bool.{true≢false, eqb-true, eq-eqb}
use Rattle.std.proofs.lemmas.Bool.Decides.{eqb_tells}
use Rattle.std.proofs.lemmas.List.Quantifiers.{position-Some}
use Rattle.std.proofs.lemmas.Option.{slice_get-get_or}
use Rattle.sync_text.proofs.Each.{each-at}
use Rattle.sync_ql.specs.declared.rules.Cmd.TheVariants as command
use Rattle.sync_topo.specs.declared.input.InputId.{InputId}
use Rattle.sync_topo.specs.declared.input.InputId.TheVariants.{Line, Source}
use Rattle.sync_topo.specs.declared.event.Part.{Part}
use Rattle.sync_topo.specs.declared.event.Part.TheVariants as part
use Rattle.sync_topo.specs.declared.event.What.{What}
use Rattle.sync_topo.specs.declared.event.What.TheVariants.{Down, Up, EsmcOff, EsmcOn, SourceLevel, Lockout, Unlock, Forced, Manual, Clear, ClearWtr}
use Rattle.sync_topo.specs.Topology.{Topology}
use Rattle.sync_topo.specs.Lines.{receiver_of, source_priority, element_of_source, inputs_of, is_same_input, place_at}
use Rattle.net_rules.specs.Signals.{is_of_part, says_up, says_esmc, says_level, clears, command_to}
use Rattle.net_rules.specs.Inputs.{IsInputOf}
use Rattle.net_rules.specs.Activity.{is_at, is_part_at, touches}
use Rattle.net_rules.proofs.InputLaws.{inputs-are}

pub if_none : {A : Type 0} (b : Bool) (x : A) → b ≡ false → (if b then Some x else None) ≡ None
if_none true x is = cc
if_none false x is = refl

pub not_here : (a b : Bool) → (a ≡ true → b ≡ true) → b ≡ false → a ≡ false
not_here false b here none = refl
not_here true b here none = absurd (true≢false (sym (here refl) ∙ none))

-- an input of an element is at it
pub input-is_at : (plan : Topology) (element : ℕ) (input : InputId) → IsInputOf plan element input → is_at plan element input ≡ true
input-is_at plan element (Line line) is = eq-eqb (receiver_of plan line.0) element is.of_element
input-is_at plan element (Source source) is =
    both_true {s = nat_lt 0 (source_priority plan source)} {t = nat_eq (element_of_source plan source) element} is.nominated (eq-eqb (element_of_source plan source) element is.of_element)

-- a part that an input is of is at its element
part-at : (plan : Topology) (input : InputId) (element : ℕ) (part : Part) → IsInputOf plan element input → is_of_part input part ≡ true → is_part_at plan element part ≡ true
part-at plan (Line line) element (part.Link link) of is = by (halves line.0 link (eqb-true (line.0 / 2) link is))
  where
    halves : (n k : ℕ) → n / 2 ≡ k → (n ≡ 2 * k) ⊎ (n ≡ 2 * k + 1)
    halves n k half = elim (eqb_tells n (2 * k)) [
      | inl even ↦ inl even.1
      | inr odd ↦ inr (omega (arith, half, odd.1))
    ]

    by : (line.0 ≡ 2 * link) ⊎ (line.0 ≡ 2 * link + 1) → (nat_eq (receiver_of plan (2 * link)) element || nat_eq (receiver_of plan (2 * link + 1)) element) ≡ true
    by which = elim which [
      | inl even ↦ rw (eq-eqb (receiver_of plan (2 * link)) element (ap (receiver_of plan) (sym even) ∙ of.of_element)) refl
      | inr odd ↦ either (nat_eq (receiver_of plan (2 * link)) element) (nat_eq (receiver_of plan (2 * link + 1)) element) (eq-eqb (receiver_of plan (2 * link + 1)) element (ap (receiver_of plan) (sym odd) ∙ of.of_element))
    ]
      where
        either : (a b : Bool) → b ≡ true → (a || b) ≡ true
        either true b is = refl
        either false b is = is
part-at plan (Line line) element (part.Line other) of is =
    eq-eqb (receiver_of plan other.0) element (ap (receiver_of plan) (sym (eqb-true line.0 other.0 is)) ∙ of.of_element)
part-at plan (Line line) element (part.Source source) of is = cc
part-at plan (Source source) element (part.Link link) of is = cc
part-at plan (Source source) element (part.Line other) of is = cc
part-at plan (Source source) element (part.Source other) of is =
    ap (λ s. is_at plan element (Source s)) (sym (eqb-true source other is)) ∙ input-is_at plan element (Source source) of

pub up-silent : (plan : Topology) (input : InputId) (element : ℕ) → IsInputOf plan element input → (what : What) → touches plan element what ≡ false → says_up input what ≡ None
up-silent plan input element of (Down part) none = if_none (is_of_part input part) false (not_here (is_of_part input part) (is_part_at plan element part) (part-at plan input element part of) none)
up-silent plan input element of (Up part) none = if_none (is_of_part input part) true (not_here (is_of_part input part) (is_part_at plan element part) (part-at plan input element part of) none)
up-silent plan input element of (EsmcOff line) none = refl
up-silent plan input element of (EsmcOn line) none = refl
up-silent plan input element of (SourceLevel source level) none = refl
up-silent plan input element of (Lockout other) none = refl
up-silent plan input element of (Unlock other) none = refl
up-silent plan input element of (Forced other) none = refl
up-silent plan input element of (Manual other) none = refl
up-silent plan input element of (Clear other) none = refl
up-silent plan input element of (ClearWtr other) none = refl

pub esmc-silent : (plan : Topology) (line element : ℕ) → receiver_of plan line ≡ element → (what : What) → touches plan element what ≡ false → says_esmc line what ≡ None
esmc-silent plan line element of (EsmcOff other) none =
    if_none (nat_eq line other.0) false (not_here (nat_eq line other.0) (nat_eq (receiver_of plan other.0) element) (λ is. eq-eqb (receiver_of plan other.0) element (ap (receiver_of plan) (sym (eqb-true line other.0 is)) ∙ of)) none)
esmc-silent plan line element of (EsmcOn other) none =
    if_none (nat_eq line other.0) true (not_here (nat_eq line other.0) (nat_eq (receiver_of plan other.0) element) (λ is. eq-eqb (receiver_of plan other.0) element (ap (receiver_of plan) (sym (eqb-true line other.0 is)) ∙ of)) none)
esmc-silent plan line element of (Down part) none = refl
esmc-silent plan line element of (Up part) none = refl
esmc-silent plan line element of (SourceLevel source level) none = refl
esmc-silent plan line element of (Lockout other) none = refl
esmc-silent plan line element of (Unlock other) none = refl
esmc-silent plan line element of (Forced other) none = refl
esmc-silent plan line element of (Manual other) none = refl
esmc-silent plan line element of (Clear other) none = refl
esmc-silent plan line element of (ClearWtr other) none = refl

pub level-silent : (plan : Topology) (source element : ℕ) → IsInputOf plan element (Source source) → (what : What) → touches plan element what ≡ false → says_level source what ≡ None
level-silent plan source element of (SourceLevel other level) none =
    if_none (nat_eq source other) level (not_here (nat_eq source other) (is_at plan element (Source other))
    (λ is. ap (λ s. is_at plan element (Source s)) (sym (eqb-true source other is)) ∙ input-is_at plan element (Source source) of) none)
level-silent plan source element of (Down part) none = refl
level-silent plan source element of (Up part) none = refl
level-silent plan source element of (EsmcOff line) none = refl
level-silent plan source element of (EsmcOn line) none = refl
level-silent plan source element of (Lockout other) none = refl
level-silent plan source element of (Unlock other) none = refl
level-silent plan source element of (Forced other) none = refl
level-silent plan source element of (Manual other) none = refl
level-silent plan source element of (Clear other) none = refl
level-silent plan source element of (ClearWtr other) none = refl

-- of two inputs that are the same the one is at an element where the other is
pub same-is_at : (plan : Topology) (element : ℕ) (input other : InputId) → is_same_input input other ≡ true → is_at plan element other ≡ is_at plan element input
same-is_at plan element (Line line) (Line other) is = ap (λ l. nat_eq (receiver_of plan l) element) (sym (eqb-true line.0 other.0 is))
same-is_at plan element (Source source) (Source other) is = ap (λ s. is_at plan element (Source s)) (sym (eqb-true source other is))
same-is_at plan element (Line line) (Source other) is = cc
same-is_at plan element (Source source) (Line other) is = cc

pub clear-silent : (plan : Topology) (input : InputId) (element : ℕ) → IsInputOf plan element input → (what : What) → touches plan element what ≡ false → clears input what ≡ false
clear-silent plan input element of (ClearWtr other) none =
    not_here (is_same_input input other) (is_at plan element other) (λ is. same-is_at plan element input other is ∙ input-is_at plan element input of) none
clear-silent plan input element of (Down part) none = refl
clear-silent plan input element of (Up part) none = refl
clear-silent plan input element of (EsmcOff line) none = refl
clear-silent plan input element of (EsmcOn line) none = refl
clear-silent plan input element of (SourceLevel source level) none = refl
clear-silent plan input element of (Lockout other) none = refl
clear-silent plan input element of (Unlock other) none = refl
clear-silent plan input element of (Forced other) none = refl
clear-silent plan input element of (Manual other) none = refl
clear-silent plan input element of (Clear other) none = refl

-- an input that isn't at an element has no place among those of the element
no-place : (plan : Topology) (element : ℕ) (input : InputId) → is_at plan element input ≡ false → place_at plan element input ≡ None
no-place plan element input other = of (place_at plan element input) refl
  where
    of : (o : Option ℕ) → place_at plan element input ≡ o → o ≡ None
    of None is = refl
    of (Some i) is =
        let found = position-Some (is_same_input input) (inputs_of plan element) i input is in
        let own = each-at (IsInputOf plan element) (inputs_of plan element) i (get_or (inputs_of plan element) i input) (inputs-are plan element)
        (slice_get-get_or (inputs_of plan element) i input found.0) in
        let here : is_at plan element input ≡ true =
        sym (same-is_at plan element input (get_or (inputs_of plan element) i input) found.1) ∙ input-is_at plan element (get_or (inputs_of plan element) i input) own in
        absurd (true≢false (sym here ∙ other))

pub command-silent : (plan : Topology) (element : ℕ) (what : What) → touches plan element what ≡ false → command_to plan element what ≡ None
command-silent plan element (Lockout input) none = ap (option_map command.Lockout) (no-place plan element input none)
command-silent plan element (Unlock input) none = ap (option_map command.Unlock) (no-place plan element input none)
command-silent plan element (Forced input) none = ap (option_map command.Forced) (no-place plan element input none)
command-silent plan element (Manual input) none = ap (option_map command.Manual) (no-place plan element input none)
command-silent plan element (Clear other) none = if_none (nat_eq element other) command.Clear (not_here (nat_eq element other) (nat_eq other element) (λ is. eq-eqb other element (sym (eqb-true element other is))) none)
command-silent plan element (Down part) none = refl
command-silent plan element (Up part) none = refl
command-silent plan element (EsmcOff line) none = refl
command-silent plan element (EsmcOn line) none = refl
command-silent plan element (SourceLevel source level) none = refl
command-silent plan element (ClearWtr other) none = refl
