-- What stands at the keys of a table after one key more, and what one expression more defines.
use Rattle.std.proofs.Common.{if◌then◌else◌, ◌≡◌, ℕ, true, false, not, List, [], ◌∷◌, ◌++◌, map, Option, Some, None, Ordering, Less, Equal, Greater, nat_cmp, is_eq, refl, ap, sym, subst, ◌∙◌, inl, inr, ◌⊎◌}
use Rattle.std.specs.Prelude.{is_none, option_map}
use Rattle.std.specs.Ordering.{match_ordering}
use Rattle.std.specs.Cmp.Lexicographic.{slice_cmp}
use Rattle.std.specs.List.{list_any}
use Rattle.std.specs.Str.{bytes_eq}
use Rattle.std.proofs.Math.Bool.{or-false}
use Rattle.std.proofs.lemmas.Bool.{cases_Bool, or_parts, false≢true}
use Rattle.std.proofs.lemmas.Option.{none-some}
use Rattle.std.proofs.lemmas.Cmp.{nat_list_eq_equiv}
use Rattle.std.proofs.lemmas.Map.Text.{is_eq-slice_cmp}
use Rattle.std.proofs.lemmas.Slice.Eq.{bytes_eq-Decides}
use Rattle.toml.specs.Data.{Data, Items, no_items, item, push_item, table, get_member, same_key}
use Rattle.toml.specs.Tables.{Node, value, open_array, Nodes, no_nodes, node, get_node, insert, replace, close, close_node, define, along_header, along_dots, at_key, key_value, array_table}
use Rattle.toml.proofs.NodeLaws.{get_node-insert, get_node-replace}
use Rattle.plan_rows.specs.Format.{Key}
use Rattle.plan_rows.specs.Rules.{has_only, data_of}
use Rattle.plan_rows.specs.Slots.{Slots, put_at, put, is_new}
use Rattle.plan_rows.specs.private.Slots.{slots_of}
use Rattle.plan_rows.proofs.ValueFacts.{AreApart}

-- the value at a key of a table
pub get_member-close : (k : List ℕ) (ns : Nodes) → get_member k (close ns) ≡ option_map close_node (get_node k ns)
get_member-close k no_nodes = refl
get_member-close k (node l x ns) = by (slice_cmp nat_cmp k l) (get_member-close k ns)
  where
    by : (o : Ordering) → get_member k (close ns) ≡ option_map close_node (get_node k ns)
        → match_ordering o (get_member k (close ns)) (Some (close_node x)) (get_member k (close ns)) ≡ option_map close_node (if is_eq o then Some x else get_node k ns)
    by Less same = same
    by Equal same = refl
    by Greater same = same

-- a key with no value has no node
pub no_node : (o : Option Node) → option_map close_node o ≡ None → o ≡ None
no_node None none = refl
no_node (Some x) none = absurd (none-some (close_node x) (sym none))

cases_ordering : (o : Ordering) → (o ≡ Less) ⊎ ((o ≡ Equal) ⊎ (o ≡ Greater))
cases_ordering Less = inl refl
cases_ordering Equal = inr (inl refl)
cases_ordering Greater = inr (inr refl)

-- two keys are one
same_is : (k l : List ℕ) → same_key k l ≡ true → k ≡ l
same_is k l same = (bytes_eq-Decides k l).0 (sym (is_eq-slice_cmp k l) ∙ same)

other_key : (k l : List ℕ) → bytes_eq k l ≡ false → same_key k l ≡ false
other_key k l other = is_eq-slice_cmp k l ∙ other

-- this node stands at this key, the others stand as they did, and there is no other key
pub record IsSet (k : List ℕ) (x : Node) (old new : Nodes) : Type 0 where
  pub here : get_node k new ≡ Some x
  pub others : (l : List ℕ) → bytes_eq l k ≡ false → get_node l new ≡ get_node l old
  pub only : (keys : List Key) → list_any (λ key. bytes_eq key.name k) keys ≡ true → has_only keys (close new) ≡ has_only keys (close old)

insert-other : (l k : List ℕ) (x : Node) (ns : Nodes) → get_node k ns ≡ None → same_key l k ≡ false → get_node l (insert k x ns) ≡ get_node l ns
insert-other l k x no_nodes none other = rw other refl
insert-other l k x (node j y ns) none other =
    elim (cases_ordering (slice_cmp nat_cmp k j)) [
      | inl less ↦ rw (less, other) refl
      | inr more ↦ elim more [
        | inl tie ↦ absurd (none-some y (sym (rw tie at none)))
        | inr greater ↦
            let rest : get_node k ns ≡ None = rw greater at none in
            rw (greater, insert-other l k x ns rest other) refl
      ]
    ]

insert-only : (keys : List Key) (k : List ℕ) (x : Node) (ns : Nodes) → get_node k ns ≡ None → list_any (λ key. bytes_eq key.name k) keys ≡ true
    → has_only keys (close (insert k x ns)) ≡ has_only keys (close ns)
insert-only keys k x no_nodes none known = rw known refl
insert-only keys k x (node j y ns) none known =
    elim (cases_ordering (slice_cmp nat_cmp k j)) [
      | inl less ↦ rw (less, known) refl
      | inr more ↦ elim more [
        | inl tie ↦ absurd (none-some y (sym (rw tie at none)))
        | inr greater ↦
            let rest : get_node k ns ≡ None = rw greater at none in
            rw (greater, insert-only keys k x ns rest known) refl
      ]
    ]

replace-other : (l k : List ℕ) (x : Node) (ns : Nodes) → same_key l k ≡ false → get_node l (replace k x ns) ≡ get_node l ns
replace-other l k x no_nodes other = refl
replace-other l k x (node j y ns) other =
    elim (cases_Bool (same_key k j)) [
      | inl same ↦
          let away : same_key l j ≡ false = subst (λ i. same_key l i ≡ false) (same_is k j same) other in
          rw (same, away) refl
      | inr apart ↦ rw (apart, replace-other l k x ns other) refl
    ]

replace-only : (keys : List Key) (k : List ℕ) (x : Node) (ns : Nodes) → has_only keys (close (replace k x ns)) ≡ has_only keys (close ns)
replace-only keys k x no_nodes = refl
replace-only keys k x (node j y ns) =
    elim (cases_Bool (same_key k j)) [
      | inl same ↦ rw same refl
      | inr apart ↦ rw (apart, replace-only keys k x ns) refl
    ]

pub inserted : (k : List ℕ) (x : Node) (ns : Nodes) → get_node k ns ≡ None → IsSet k x ns (insert k x ns)
inserted k x ns none = record {
  here = get_node-insert k x ns;
  others = λ l other. insert-other l k x ns none (other_key l k other);
  only = λ keys known. insert-only keys k x ns none known;
}

pub replaced : (k : List ℕ) (x y : Node) (ns : Nodes) → get_node k ns ≡ Some y → IsSet k x ns (replace k x ns)
replaced k x y ns found = record {
  here = get_node-replace k x ns y found;
  others = λ l other. replace-other l k x ns (other_key l k other);
  only = λ keys known. replace-only keys k x ns;
}

-- a key that is new is one of the keys, and has no node
known_if_new : (keys : List Key) (slots : List (Option Data)) (k : List ℕ) → is_new keys slots k ≡ true → list_any (λ key. bytes_eq k key.name) keys ≡ true
known_if_new [] slots k new = absurd (false≢true new)
known_if_new (key ∷ keys) [] k new = absurd (false≢true new)
known_if_new (key ∷ keys) (slot ∷ slots) k new = elim (cases_Bool (bytes_eq k key.name)) [
  | inl same ↦ rw same refl
  | inr other ↦ rw other (known_if_new keys slots k (rw other at new))
]

turned : (keys : List Key) (k : List ℕ) → list_any (λ key. bytes_eq key.name k) keys ≡ list_any (λ key. bytes_eq k key.name) keys
turned [] k = refl
turned (key ∷ keys) k = rw (nat_list_eq_equiv.symm key.name k, turned keys k) refl

empty_slot : (o : Option Data) → is_none o ≡ true → o ≡ None
empty_slot None new = refl
empty_slot (Some d) new = absurd (false≢true new)

abbrev values_of : List Key → Nodes → List (Option Data)
values_of keys ns = map (λ key. get_member key.name (close ns)) keys

absent_if_new : (keys : List Key) (ns : Nodes) (k : List ℕ) → is_new keys (values_of keys ns) k ≡ true → get_node k ns ≡ None
absent_if_new [] ns k new = absurd (false≢true new)
absent_if_new (key ∷ keys) ns k new = elim (cases_Bool (bytes_eq k key.name)) [
  | inl same ↦
      let is : key.name ≡ k = sym ((bytes_eq-Decides k key.name).0 same) in
      let none : get_member key.name (close ns) ≡ None = empty_slot _ (rw same at new) in
      no_node (get_node k ns) (sym (get_member-close k ns) ∙ subst (λ n. get_member n (close ns) ≡ None) is none)
  | inr other ↦ absent_if_new keys ns k (rw other at new)
]

same_values : (keys : List Key) (k : List ℕ) (x : Node) (old new : Nodes) → IsSet k x old new → list_any (λ key. bytes_eq k key.name) keys ≡ false
    → values_of keys new ≡ values_of keys old
same_values [] k x old new set none = refl
same_values (key ∷ keys) k x old new set none =
    let parts = or_parts (bytes_eq k key.name) (list_any (λ key. bytes_eq k key.name) keys) none in
    let away : bytes_eq key.name k ≡ false = nat_list_eq_equiv.symm key.name k ∙ parts.0 in
    let here : get_member key.name (close new) ≡ get_member key.name (close old)
    = get_member-close key.name new ∙ ap (option_map close_node) (set.others key.name away) ∙ sym (get_member-close key.name old) in
    rw (here, same_values keys k x old new set parts.1) refl

values_put : (keys : List Key) (k : List ℕ) (d : Data) (old new : Nodes) → IsSet k (value d) old new → AreApart keys → is_new keys (values_of keys old) k ≡ true
    → values_of keys new ≡ put_at keys (values_of keys old) k d
values_put [] k d old new set apart fresh = refl
values_put (key ∷ keys) k d old new set apart fresh = elim (cases_Bool (bytes_eq k key.name)) [
  | inl same ↦
      let is : k ≡ key.name = (bytes_eq-Decides k key.name).0 same in
      let none : get_member key.name (close old) ≡ None = empty_slot _ (rw same at fresh) in
      let there : get_member key.name (close new) ≡ Some d
      = subst (λ n. get_member n (close new) ≡ Some d) is (get_member-close k new ∙ ap (option_map close_node) set.here) in
      let later : list_any (λ other. bytes_eq k other.name) keys ≡ false = ap (λ n. list_any (λ (other : Key). bytes_eq n other.name) keys) is ∙ apart.0 in
      rw (same, none, there, same_values keys k (value d) old new set later) refl
  | inr other ↦
      let away : bytes_eq key.name k ≡ false = nat_list_eq_equiv.symm key.name k ∙ other in
      let here : get_member key.name (close new) ≡ get_member key.name (close old)
      = get_member-close key.name new ∙ ap (option_map close_node) (set.others key.name away) ∙ sym (get_member-close key.name old) in
      rw (other, here, values_put keys k d old new set apart.1 (rw other at fresh)) refl
]

-- the slots of a table after a value at a new key
pub put_slots : (keys : List Key) (slots : Slots) (k : List ℕ) (d : Data) (ns : Nodes) → AreApart keys → slots_of keys (close ns) ≡ slots → is_new keys slots.values k ≡ true
    → (get_node k ns ≡ None) × (slots_of keys (close (insert k (value d) ns)) ≡ put keys slots k d)
put_slots keys slots k d ns apart is fresh =
    let new : is_new keys (values_of keys ns) k ≡ true = subst (λ (s : Slots). is_new keys s.values k ≡ true) (sym is) fresh in
    let none : get_node k ns ≡ None = absent_if_new keys ns k new in
    let set : IsSet k (value d) ns (insert k (value d) ns) = inserted k (value d) ns none in
    let known : list_any (λ key. bytes_eq k key.name) keys ≡ true = known_if_new keys (values_of keys ns) k new in
    let only : has_only keys (close (insert k (value d) ns)) ≡ has_only keys (close ns) = set.only keys (turned keys k ∙ known) in
    let all : slots_of keys (close (insert k (value d) ns)) ≡ put keys (slots_of keys (close ns)) k d
    = rw (values_put keys k d ns (insert k (value d) ns) set apart new, only, known, or-false (not (has_only keys (close ns)))) refl in
    (none, all ∙ ap (λ (s : Slots). put keys s k d) is)

-- the entries of an array with one more
pub data_of-push : (done : Items) (d : Data) → data_of (push_item done d) ≡ data_of done ++ d ∷ []
data_of-push no_items d = refl
data_of-push (item first done) d = ap (λ rest. first ∷ rest) (data_of-push done d)

pub key_is_new : (k : List ℕ) (d : Data) (ns : Nodes) → get_node k ns ≡ None → at_key k (key_value d) ns ≡ Some (insert k (value d) ns)
unfolding at_key
key_is_new k d ns none = rw none refl

-- a value at a new key of the head, and of the last table of a section
pub defines_head : (k : List ℕ) (d : Data) (root : Nodes) → get_node k root ≡ None → define (root, []) (([], k), key_value d) ≡ Some (insert k (value d) root, [])
unfolding define along_header along_dots
defines_head k d root none = rw (key_is_new k d root none) refl

pub defines_in : (s k : List ℕ) (d : Data) (root last : Nodes) (done : Items) → get_node s root ≡ Some (open_array done last) → get_node k last ≡ None
    → define (root, s ∷ []) (([], k), key_value d) ≡ Some (replace s (open_array done (insert k (value d) last)) root, s ∷ [])
unfolding define along_header along_dots
defines_in s k d root last done found none = rw (found, key_is_new k d last none) refl

-- the first table of a section, and one more
pub defines_first : (s : List ℕ) (root : Nodes) (path : List (List ℕ)) → get_node s root ≡ None
    → define (root, path) (([], s), array_table) ≡ Some (insert s (open_array no_items no_nodes) root, s ∷ [])
unfolding define along_header at_key
defines_first s root path none = rw none refl

pub defines_next : (s : List ℕ) (root last : Nodes) (done : Items) (path : List (List ℕ)) → get_node s root ≡ Some (open_array done last)
    → define (root, path) (([], s), array_table) ≡ Some (replace s (open_array (push_item done (table (close last))) no_nodes) root, s ∷ [])
unfolding define along_header at_key
defines_next s root last done path found = rw found refl
