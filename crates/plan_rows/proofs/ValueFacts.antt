-- The slots of a table by its members, one after the other, and the rule that they break.
use Rattle.std.proofs.Common.{◌≡◌, ℕ, Bool, true, false, not, ◌&&◌, ◌||◌, List, [], ◌∷◌, map, Option, Some, None, Ordering, Less, Equal, Greater, nat_cmp, is_eq, refl, ap, sym, ◌∙◌, inl, inr}
use Rattle.std.specs.Prelude.{⊤, is_some, is_none}
use Rattle.std.specs.Option.{option_or}
use Rattle.std.specs.Ordering.{match_ordering}
use Rattle.std.specs.Cmp.Lexicographic.{slice_cmp}
use Rattle.std.specs.List.{list_any}
use Rattle.std.specs.Str.{bytes_eq}
use Rattle.std.proofs.Math.Bool.{or-false}
use Rattle.std.proofs.lemmas.Bool.{cases_Bool, or_parts}
use Rattle.std.proofs.lemmas.Cmp.{nat_list_eq_equiv}
use Rattle.std.proofs.lemmas.Map.Text.{is_eq-slice_cmp}
use Rattle.std.proofs.lemmas.Slice.Eq.{bytes_eq-Decides}
use Rattle.toml.specs.Data.{Data, table, Members, no_members, member, get_member}
use Rattle.toml.specs.View.{items_of}
use Rattle.toml.proofs.Views.{view-String, view-Integer, view-Float, view-Boolean, view-Datetime, view-Array, view-Table}
use Rattle.sync_topo.specs.declared.place.Place.{Place}
use Rattle.sync_topo.specs.declared.place.Section.TheVariants.{Head, Elements, Links, Sources}
use Rattle.plan_rows.specs.declared.version.Version.{Version}
use Rattle.plan_rows.specs.declared.version.Version.TheVariants.{Two}
use Rattle.plan_rows.specs.Format.{Key, keys_of}
use Rattle.plan_rows.specs.Rules.{has_only, has_needed, keeps_kinds, refusal_of, data_of}
use Rattle.plan_rows.specs.Slots.{Slots, no_slots, put_at, put, lacks, fits, slots_refusal}
use Rattle.plan_rows.specs.private.Slots.{slots_of, taken}

-- the data of the items of some data
pub data_of_items : (entries : List Data) → data_of (items_of entries) ≡ entries
data_of_items [] = refl
data_of_items (entry ∷ entries) = ap (λ rest. entry ∷ rest) (data_of_items entries)

-- the data of each kind of value
pub ruleset views = (view-String, view-Integer, view-Float, view-Boolean, view-Datetime, view-Array, view-Table, data_of_items)

-- tests joined one after the other, and from the last one on
and_one : (a : Bool) → a ≡ (a && true)
and_one true = refl
and_one false = refl

and_two : (a b : Bool) → (a && b) ≡ (a && (b && true))
and_two true b = and_one b
and_two false b = refl

and_three : (a b c : Bool) → (a && b && c) ≡ (a && (b && (c && true)))
and_three true b c = and_two b c
and_three false b c = refl

pub all_four : (a b c d : Bool) → (a && b && c && d) ≡ (a && (b && (c && (d && true))))
all_four true b c d = and_three b c d
all_four false b c d = refl

pub all_five : (a b c d e : Bool) → (a && b && c && d && e) ≡ (a && (b && (c && (d && (e && true)))))
all_five true b c d e = all_four b c d e
all_five false b c d e = refl

all_six : (a b c d e f : Bool) → (a && b && c && d && e && f) ≡ (a && (b && (c && (d && (e && (f && true))))))
all_six true b c d e f = all_five b c d e f
all_six false b c d e f = refl

all_seven : (a b c d e f g : Bool) → (a && b && c && d && e && f && g) ≡ (a && (b && (c && (d && (e && (f && (g && true)))))))
all_seven true b c d e f g = all_six b c d e f g
all_seven false b c d e f g = refl

pub all_eight : (a b c d e f g h : Bool) → (a && b && c && d && e && f && g && h) ≡ (a && (b && (c && (d && (e && (f && (g && (h && true))))))))
all_eight true b c d e f g h = all_seven b c d e f g h
all_eight false b c d e f g h = refl

pub needed_one : (a b : Bool) → (a || b) ≡ (a || (b || false))
needed_one true b = refl
needed_one false b = sym (or-false b)

needed_two : (a b c : Bool) → (a || b || c) ≡ (a || (b || (c || false)))
needed_two true b c = refl
needed_two false b c = needed_one b c

pub needed_three : (a b c d : Bool) → (a || b || c || d) ≡ (a || (b || (c || (d || false))))
needed_three true b c d = refl
needed_three false b c d = needed_two b c d

-- what a table has at a key, by its first member
at_first : {A : Type 0} (order : Ordering) (others here : A) → is_eq order ≡ true → match_ordering order others here others ≡ here
at_first Less others here same = absurd (cc same)
at_first Equal others here same = refl
at_first Greater others here same = absurd (cc same)

at_others : {A : Type 0} (order : Ordering) (others here : A) → is_eq order ≡ false → match_ordering order others here others ≡ others
at_others Less others here other = refl
at_others Equal others here other = absurd (cc other)
at_others Greater others here other = refl

first_member : (name key : List ℕ) (value : Data) (rest : Members) → bytes_eq name key ≡ true → get_member key (member name value rest) ≡ Some value
first_member name key value rest same =
    at_first (slice_cmp nat_cmp key name) (get_member key rest) (Some value) (is_eq-slice_cmp key name ∙ nat_list_eq_equiv.symm key name ∙ same)

pub other_member : (name key : List ℕ) (value : Data) (rest : Members) → bytes_eq name key ≡ false → get_member key (member name value rest) ≡ get_member key rest
other_member name key value rest other =
    at_others (slice_cmp nat_cmp key name) (get_member key rest) (Some value) (is_eq-slice_cmp key name ∙ nat_list_eq_equiv.symm key name ∙ other)

-- the slots, and what members give those that have nothing
abbrev merged : List Key → List (Option Data) → Members → List (Option Data)
merged (key ∷ keys) (slot ∷ slots) fields = option_or slot (get_member key.name fields) ∷ merged keys slots fields
merged keys slots fields = slots

-- no two of the keys are one
abbrev pub AreApart : List Key → Type 0
AreApart [] = ⊤
AreApart (key ∷ keys) = (list_any (λ other. bytes_eq key.name other.name) keys ≡ false) × AreApart keys

-- a member of another key gives them nothing
kept : (keys : List Key) (slots : List (Option Data)) (name : List ℕ) (value : Data) (rest : Members)
    → list_any (λ key. bytes_eq name key.name) keys ≡ false → merged keys slots (member name value rest) ≡ merged keys slots rest
kept [] slots name value rest none = refl
kept (key ∷ keys) [] name value rest none = refl
kept (key ∷ keys) (slot ∷ slots) name value rest none =
    let parts = or_parts (bytes_eq name key.name) (list_any (λ key. bytes_eq name key.name) keys) none in
    rw (other_member name key.name value rest parts.0, kept keys slots name value rest parts.1) refl

first_stays : (slot later : Option Data) (value : Data) → option_or (option_or slot (Some value)) later ≡ option_or slot (Some value)
first_stays None later value = refl
first_stays (Some first) later value = refl

-- a member that is put is one that is given
one_put : (keys : List Key) (slots : List (Option Data)) (name : List ℕ) (value : Data) (rest : Members) → AreApart keys
    → merged keys (put_at keys slots name value) rest ≡ merged keys slots (member name value rest)
one_put [] slots name value rest apart = refl
one_put (key ∷ keys) [] name value rest apart = refl
one_put (key ∷ keys) (slot ∷ slots) name value rest apart = elim (cases_Bool (bytes_eq name key.name)) [
  | inl same ↦
      let is : name ≡ key.name = (bytes_eq-Decides name key.name).0 same in
      let none : list_any (λ other. bytes_eq name other.name) keys ≡ false = ap (λ n. list_any (λ (other : Key). bytes_eq n other.name) keys) is ∙ apart.0 in
      rw (same, first_member name key.name value rest same, kept keys slots name value rest none)
      (ap (λ first. first ∷ merged keys slots rest) (first_stays slot (get_member key.name rest) value))
  | inr other ↦ rw (other, other_member name key.name value rest other, one_put keys slots name value rest apart.1) refl
]

-- the test of a key, from either side
any_turned : (keys : List Key) (name : List ℕ) → list_any (λ key. bytes_eq name key.name) keys ≡ list_any (λ key. bytes_eq key.name name) keys
any_turned [] name = refl
any_turned (key ∷ keys) name = rw (nat_list_eq_equiv.symm name key.name, any_turned keys name) refl

others_of : (other here rest : Bool) → ((other || not here) || not rest) ≡ (other || not (here && rest))
others_of true here rest = refl
others_of false true rest = refl
others_of false false rest = refl

merged-none : (keys : List Key) (slots : List (Option Data)) → merged keys slots no_members ≡ slots
merged-none [] slots = refl
merged-none (key ∷ keys) [] = refl
merged-none (key ∷ keys) (None ∷ slots) = ap (λ rest. None ∷ rest) (merged-none keys slots)
merged-none (key ∷ keys) (Some value ∷ slots) = ap (λ rest. Some value ∷ rest) (merged-none keys slots)

-- all members of a table, put into slots
taken_is : (keys : List Key) (slots : Slots) (fields : Members) → AreApart keys
    → taken keys slots fields ≡ record { values = merged keys slots.values fields; other = slots.other || not (has_only keys fields) }
taken_is keys slots no_members apart = rw (merged-none keys slots.values, or-false slots.other) refl
taken_is keys slots (member name value rest) apart =
    taken_is keys (put keys slots name value) rest apart
    ∙ rw (
      one_put keys slots.values name value rest apart,
      any_turned keys name,
      others_of slots.other (list_any (λ key. bytes_eq key.name name) keys) (has_only keys rest),
    ) refl

merged-all : (keys : List Key) (fields : Members) → merged keys (map (λ key. None) keys) fields ≡ map (λ key. get_member key.name fields) keys
merged-all [] fields = refl
merged-all (key ∷ keys) fields = ap (λ rest. get_member key.name fields ∷ rest) (merged-all keys fields)

slots_are : (keys : List Key) (fields : Members) → AreApart keys → taken keys (no_slots keys) fields ≡ slots_of keys fields
slots_are keys fields apart =
    taken_is keys (no_slots keys) fields apart ∙ ap (λ (values : List (Option Data)). let slots : Slots = record { values = values; other = not (has_only keys fields) } in slots) (merged-all keys fields)

pub head_taken : (fields : Members) → taken (keys_of Two Head) (no_slots (keys_of Two Head)) fields ≡ slots_of (keys_of Two Head) fields
head_taken fields = slots_are (keys_of Two Head) fields (refl, (refl, (refl, (refl, (refl, tt)))))

pub element_taken : (fields : Members) → taken (keys_of Two Elements) (no_slots (keys_of Two Elements)) fields ≡ slots_of (keys_of Two Elements) fields
element_taken fields = slots_are (keys_of Two Elements) fields (refl, (refl, (refl, (refl, (refl, tt)))))

pub link_taken : (fields : Members) → taken (keys_of Two Links) (no_slots (keys_of Two Links)) fields ≡ slots_of (keys_of Two Links) fields
link_taken fields = slots_are (keys_of Two Links) fields (refl, (refl, (refl, (refl, (refl, (refl, (refl, (refl, tt))))))))

pub source_taken : (fields : Members) → taken (keys_of Two Sources) (no_slots (keys_of Two Sources)) fields ≡ slots_of (keys_of Two Sources) fields
source_taken fields = slots_are (keys_of Two Sources) fields (refl, (refl, (refl, (refl, tt))))

-- the rule that a table breaks is the one that its slots break
lacks_is : (keys : List Key) (fields : Members) → not (has_needed keys fields) ≡ lacks keys (map (λ key. get_member key.name fields) keys)
lacks_is [] fields = refl
lacks_is (key ∷ keys) fields =
    one key.needed (get_member key.name fields) (has_needed keys fields)
    ∙ ap (λ rest. (key.needed && is_none (get_member key.name fields)) || rest) (lacks_is keys fields)
  where
    one : (needed : Bool) (slot : Option Data) (rest : Bool) → not ((not needed || is_some slot) && rest) ≡ ((needed && is_none slot) || not rest)
    one false slot rest = refl
    one true None rest = refl
    one true (Some value) rest = refl

fits_is : (keys : List Key) (fields : Members) → keeps_kinds keys fields ≡ fits keys (map (λ key. get_member key.name fields) keys)
fits_is [] fields = refl
fits_is (key ∷ keys) fields = rw (← fits_is keys fields) refl

not-and : (a b : Bool) → not (a && b) ≡ (not a || not b)
not-and true b = refl
not-and false b = refl

pub refusal_is : (version : Version) (place : Place) (fields : Members)
    → refusal_of version place (table fields) ≡ slots_refusal place (keys_of version place.section) (slots_of (keys_of version place.section) fields)
unfolding refusal_of
refusal_is version place fields =
    let keys = keys_of version place.section in
    rw (not-and (has_only keys fields) (has_needed keys fields), lacks_is keys fields, fits_is keys fields) refl
