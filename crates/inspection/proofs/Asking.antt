-- Which command an element gets of what happens.
use Rattle.std.proofs.Common.{◌≡◌, ◌≢◌, ◌<◌, ℕ, Option, None, Some, refl, ap, sym, subst, ◌∙◌}
use Rattle.std.specs.Prelude.{if◌then◌else◌, option_map}
use Rattle.std.proofs.lemmas.Bool.{eq-eqb, ne_eqb}
use Rattle.std.proofs.lemmas.Option.{same_Some, none-some}
use Rattle.sync_ql.specs.declared.rules.Cmd.{Cmd}
use Rattle.sync_ql.specs.declared.rules.Cmd.TheVariants as command
use Rattle.sync_ql.specs.Switches.{NamesInput}
use Rattle.sync_topo.specs.declared.input.InputId.{InputId}
use Rattle.sync_topo.specs.declared.event.What.{What}
use Rattle.sync_topo.specs.declared.event.What.TheVariants as what
use Rattle.sync_topo.specs.Topology.{Topology}
use Rattle.sync_topo.specs.Lines.{element_of, place_at}
use Rattle.net_rules.specs.Signals.{command_to}
use Rattle.net_words.proofs.PlaceLemmas.{no-place-there}
use Rattle.inspection.specs.declared.asked.Asked.{Asked}
use Rattle.inspection.specs.declared.asked.Order.{Order}
use Rattle.inspection.specs.declared.asked.Order.TheVariants.{Lockout, Unlock, Forced, Manual, Clear}
use Rattle.inspection.specs.Commands.{asked_of, on_input}
use Rattle.inspection.specs.private.Tables.{order_at, command_by}

-- a command on an input is made by its place
same-order : (order : Order) (make : ℕ → Cmd) → ((i : ℕ) → make i ≡ order_at order i) → (o : Option ℕ) → option_map make o ≡ option_map (order_at order) o
same-order order make is None = refl
same-order order make is (Some i) = ap Some (is i)

-- the one that is asked gets the command
pub asked-here : (plan : Topology) (happens : What) (asked : Asked) → asked_of plan happens ≡ Some asked → command_to plan asked.element happens ≡ command_by plan asked
asked-here plan (what.Lockout input) asked is =
    subst (λ a. command_to plan a.element (what.Lockout input) ≡ command_by plan a) (same_Some (on_input plan Lockout input) asked is) (same-order Lockout command.Lockout (λ i. refl) (place_at plan (element_of plan input) input))
asked-here plan (what.Unlock input) asked is =
    subst (λ a. command_to plan a.element (what.Unlock input) ≡ command_by plan a) (same_Some (on_input plan Unlock input) asked is) (same-order Unlock command.Unlock (λ i. refl) (place_at plan (element_of plan input) input))
asked-here plan (what.Forced input) asked is =
    subst (λ a. command_to plan a.element (what.Forced input) ≡ command_by plan a) (same_Some (on_input plan Forced input) asked is) (same-order Forced command.Forced (λ i. refl) (place_at plan (element_of plan input) input))
asked-here plan (what.Manual input) asked is =
    subst (λ a. command_to plan a.element (what.Manual input) ≡ command_by plan a) (same_Some (on_input plan Manual input) asked is) (same-order Manual command.Manual (λ i. refl) (place_at plan (element_of plan input) input))
asked-here plan (what.Clear element) asked is =
    subst (λ a. command_to plan a.element (what.Clear element) ≡ command_by plan a) (same_Some (record { element = element; order = Clear; input = None }) asked is)
    (ap (λ b. if b then Some command.Clear else None) (eq-eqb element element refl))
asked-here plan (what.Down part) asked is = absurd (none-some asked is)
asked-here plan (what.Up part) asked is = absurd (none-some asked is)
asked-here plan (what.EsmcOff line) asked is = absurd (none-some asked is)
asked-here plan (what.EsmcOn line) asked is = absurd (none-some asked is)
asked-here plan (what.SourceLevel source level) asked is = absurd (none-some asked is)
asked-here plan (what.ClearWtr input) asked is = absurd (none-some asked is)

-- a command on an input is none to another element
elsewhere : (plan : Topology) (order : Order) (make : ℕ → Cmd) (input : InputId) (asked : Asked) (element : ℕ) → Some (on_input plan order input) ≡ Some asked → element ≢ asked.element
    → option_map make (place_at plan element input) ≡ None
elsewhere plan order make input asked element is other =
    ap (option_map make) (no-place-there plan element input (λ of. other (sym of.of_element ∙ ap (λ (a : Asked). a.element) (same_Some (on_input plan order input) asked is))))

-- no other gets one
pub asked-elsewhere : (plan : Topology) (happens : What) (asked : Asked) (element : ℕ) → asked_of plan happens ≡ Some asked → element ≢ asked.element → command_to plan element happens ≡ None
asked-elsewhere plan (what.Lockout input) asked element is other = elsewhere plan Lockout command.Lockout input asked element is other
asked-elsewhere plan (what.Unlock input) asked element is other = elsewhere plan Unlock command.Unlock input asked element is other
asked-elsewhere plan (what.Forced input) asked element is other = elsewhere plan Forced command.Forced input asked element is other
asked-elsewhere plan (what.Manual input) asked element is other = elsewhere plan Manual command.Manual input asked element is other
asked-elsewhere plan (what.Clear one) asked element is other =
    ap (λ b. if b then Some command.Clear else None)
    (ne_eqb element one (λ same. other (same ∙ ap (λ (a : Asked). a.element) (same_Some (record { element = one; order = Clear; input = None }) asked is))))
asked-elsewhere plan (what.Down part) asked element is other = refl
asked-elsewhere plan (what.Up part) asked element is other = refl
asked-elsewhere plan (what.EsmcOff line) asked element is other = refl
asked-elsewhere plan (what.EsmcOn line) asked element is other = refl
asked-elsewhere plan (what.SourceLevel source level) asked element is other = refl
asked-elsewhere plan (what.ClearWtr input) asked element is other = refl

-- where none is asked none gets one
pub none-asked : (plan : Topology) (happens : What) (element : ℕ) → asked_of plan happens ≡ None → command_to plan element happens ≡ None
none-asked plan (what.Lockout input) element is = absurd (none-some (on_input plan Lockout input) (sym is))
none-asked plan (what.Unlock input) element is = absurd (none-some (on_input plan Unlock input) (sym is))
none-asked plan (what.Forced input) element is = absurd (none-some (on_input plan Forced input) (sym is))
none-asked plan (what.Manual input) element is = absurd (none-some (on_input plan Manual input) (sym is))
none-asked plan (what.Clear one) element is = absurd (none-some (record { element = one; order = Clear; input = None }) (sym is))
none-asked plan (what.Down part) element is = refl
none-asked plan (what.Up part) element is = refl
none-asked plan (what.EsmcOff line) element is = refl
none-asked plan (what.EsmcOn line) element is = refl
none-asked plan (what.SourceLevel source level) element is = refl
none-asked plan (what.ClearWtr input) element is = refl

-- a command on an input that has a place names it
names : (order : Order) (i n : ℕ) → i < n → NamesInput n (order_at order i)
names Lockout i n within = within
names Unlock i n within = within
names Forced i n within = within
names Manual i n within = within
names Clear i n within = tt
