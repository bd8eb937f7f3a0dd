-- What a table has at the keys of its section, and which rule it breaks by that.
use Rattle.std.specs.Prelude.{ℕ, ℤ, Bool, true, false, not, ◌&&◌, ◌||◌, List, [], ◌∷◌, map, Option, Some, None, is_none, option_map, option_and_then, unwrap_or, slice_get, Result, if◌then◌else◌}
use Rattle.std.specs.Option.{option_map_or, option_or}
use Rattle.std.specs.List.{list_any}
use Rattle.std.specs.Str.{bytes_eq}
use Rattle.toml.specs.Data.{Data, as_str, as_integer}
use Rattle.toml.specs.View.{view}
use Rattle.toml.specs.declared.value.Value.{Value}
use Rattle.sync_topo.specs.declared.place.Place.{Place}
use Rattle.plan_rows.specs.declared.error.PlanFileErr.{PlanFileErr}
use Rattle.plan_rows.specs.declared.error.PlanFileErr.TheVariants.{Key as WrongKey, Kind as WrongKind}
use Rattle.sync_text.specs.Chain.{unless}
use Rattle.plan_rows.specs.Format.{Key}

-- what a table has at each of some keys, in the order of the keys, and whether it has another key
pub record Slots : Type 0 where
  pub values : List (Option Data)
  pub other : Bool

abbrev pub no_slots : List Key → Slots
no_slots keys = record { values = map (λ key. None) keys; other = false }

-- the value, put into the slot of its key. A slot that has one keeps it
abbrev pub put_at : List Key → List (Option Data) → List ℕ → Data → List (Option Data)
put_at (key ∷ keys) (slot ∷ slots) name value =
    if bytes_eq name key.name then option_or slot (Some value) ∷ slots else slot ∷ put_at keys slots name value
put_at keys slots name value = slots

abbrev pub put : List Key → Slots → List ℕ → Data → Slots
put keys slots name value = record {
  values = put_at keys slots.values name value;
  other = slots.other || not (list_any (λ key. bytes_eq name key.name) keys);
}

-- the name is that of a key whose slot is empty
abbrev pub is_new : List Key → List (Option Data) → List ℕ → Bool
is_new (key ∷ keys) (slot ∷ slots) name = if bytes_eq name key.name then is_none slot else is_new keys slots name
is_new keys slots name = false

-- a slot that must have a value has none
abbrev pub lacks : List Key → List (Option Data) → Bool
lacks (key ∷ keys) (slot ∷ slots) = (key.needed && is_none slot) || lacks keys slots
lacks keys slots = false

-- what the slots have is of the kinds of their keys
abbrev pub fits : List Key → List (Option Data) → Bool
fits (key ∷ keys) (slot ∷ slots) = option_map_or key.takes slot true && fits keys slots
fits keys slots = true

-- the rule that slots break, if they break one, and what they say
abbrev pub slots_refusal : Place → List Key → Slots → Option PlanFileErr
slots_refusal place keys slots =
    if slots.other || lacks keys slots.values then Some (WrongKey place)
    else if not (fits keys slots.values) then Some (WrongKind place)
    else None

abbrev pub said_by : {A : Type 0} → Place → List Key → (List (Option Data) → A) → Slots → Result A PlanFileErr
said_by place keys said slots = unless (slots_refusal place keys slots) (said slots.values)

-- the data in a slot
abbrev pub seen : Option Value → Option Data
seen slot = option_map view slot

abbrev pub slot_at : ℕ → List (Option Data) → Option Data
slot_at n slots = unwrap_or (slice_get slots n) None

-- the text in a slot, the integer, and the text that must be there
abbrev pub text_in : Option Data → Option (List ℕ)
text_in slot = option_and_then as_str slot

abbrev pub integer_in : Option Data → Option ℤ
integer_in slot = option_and_then as_integer slot

abbrev pub name_in : Option Data → List ℕ
name_in slot = unwrap_or (text_in slot) []
