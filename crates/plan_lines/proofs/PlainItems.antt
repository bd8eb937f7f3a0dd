-- The arrays of inline tables that the head gives for its sections, an entry and a value at a time.
use Rattle.std.proofs.Common.{◌≡◌, ℕ, suc, ◌-◌, ◌<◌, true, false, ◌==◌, List, [], ◌∷◌, ◌++◌, length, drop, Some, None, refl, ap, sym, subst, ◌∙◌, arith}
use Rattle.toml_parser.specs.Lexical.{Read, first, skip_blank}
use Rattle.toml.specs.Data.{Data, Items, no_items, push_item, string, integer, float, boolean, datetime, array, table, Members}
use Rattle.toml.specs.Tables.{value, Nodes, no_nodes, get_node, insert, close, Document, along_dots, put as put_pair}
use Rattle.toml.specs.Parse.{read_map, val, items, members, key_equals, after_element}
use Rattle.toml.proofs.Turns.{items_end, items_more, val_array, val_table, members_end, members_more, keyval_ok}
use Rattle.plan_lines.specs.declared.entry.Entry.{Entry}
use Rattle.plan_lines.specs.declared.entry.EntryKind.{EntryKind}
use Rattle.plan_lines.specs.declared.entry.EntryKind.TheVariants as kind
use Rattle.plan_lines.specs.declared.entry.SectionRows.{SectionRows}
use Rattle.plan_lines.specs.declared.plain.LinesRead.{LinesRead}
use Rattle.plan_rows.specs.declared.values.HeadValues.{HeadValues}
use Rattle.plan_rows.specs.Rules.{data_of}
use Rattle.plan_rows.specs.Slots.{no_slots, put, is_new}
use Rattle.plan_rows.specs.private.Slots.{slots_of}
use Rattle.plan_lines.specs.private.Lines.{key_of, keys_in, kind_of, entry_slots, GiveRows, Adds, given_in, Follows, TakesValue, Gives, ReadsEntry, KeepsOthers, ReadsItems}
use Rattle.plan_lines.proofs.PlainNodes.{put_slots, data_of-push, key_is_new}
use Rattle.plan_lines.proofs.PlainSteps.{apart_in, adds_row, adds_keeps, gives_leads}

-- an inline table of which this rest is left, and what it has so far
pub record InTable (k : EntryKind) (s rest : List ℕ) (made : Entry) : Type 0 where
  pub nodes : Nodes
  pub turns : ℕ
  pub room : length rest < turns
  pub reads : members (val 78) (length s) no_nodes (drop 1 s) ≡ members (val 78) turns nodes rest
  pub slots : slots_of (keys_in k) (close nodes) ≡ entry_slots made
  pub of_kind : kind_of made ≡ k

pub table_begins : (k : EntryKind) (s : List ℕ) (made : Entry) → length (drop 1 s) < length s → kind_of made ≡ k → entry_slots made ≡ no_slots (keys_in k) → InTable k s (drop 1 s) made
table_begins k s made some is slots = record { nodes = no_nodes; turns = length s; room = some; reads = refl; slots = sym slots; of_kind = is }

pub table_ends : (k : EntryKind) (s rest : List ℕ) (made : Entry) → InTable k s rest made → (first s == 91) ≡ false → (first s == 123) ≡ true → (first (skip_blank rest) == 125) ≡ true
    → ReadsEntry k (val 79 s) made (drop 1 (skip_blank rest))
table_ends k s rest made so_far no_array is_table closes =
    let read : val 79 s ≡ Some (table (close so_far.nodes), drop 1 (skip_blank rest))
    = val_table 78 s no_array is_table ∙ ap (read_map table) (so_far.reads ∙ members_end (val 78) so_far.turns so_far.nodes rest (omega (arith, so_far.room)) closes) in
    subst (λ o. ReadsEntry k o made (drop 1 (skip_blank rest))) (sym read) (refl, so_far.of_kind, so_far.slots)

pair_put : (key : List ℕ) (d : Data) (ns : Nodes) → get_node key ns ≡ None → put_pair ([], key) d ns ≡ Some (insert key (value d) ns)
unfolding along_dots
pair_put key d ns none = key_is_new key d ns none

pub table_goes_on : (k : EntryKind) (s rest key at_value after next : List ℕ) (d : Data) (before made : Entry) → InTable k s rest before → (first (skip_blank rest) == 125) ≡ false
    → key_equals (skip_blank rest) ≡ Some (([], key), at_value) → val 78 at_value ≡ Some (d, after) → after_element 125 after ≡ Some next → length next < length rest
    → kind_of made ≡ kind_of before → is_new (keys_in (kind_of before)) (entry_slots before).values key ≡ true → entry_slots made ≡ put (keys_in (kind_of before)) (entry_slots before) key d
    → InTable k s next made
table_goes_on k s rest key at_value after next d before made so_far open_still key_read value_read more shorter same fresh is =
    let fresh_in : is_new (keys_in k) (entry_slots before).values key ≡ true = subst (λ j. is_new (keys_in j) (entry_slots before).values key ≡ true) so_far.of_kind fresh in
    let is_in : entry_slots made ≡ put (keys_in k) (entry_slots before) key d = subst (λ j. entry_slots made ≡ put (keys_in j) (entry_slots before) key d) so_far.of_kind is in
    let slots = put_slots (keys_in k) (entry_slots before) key d so_far.nodes (apart_in k) so_far.slots fresh_in in
    record {
      nodes = insert key (value d) so_far.nodes;
      turns = so_far.turns - 1;
      room = omega (arith, so_far.room, shorter);
      reads = so_far.reads
          ∙ members_more (val 78) so_far.turns so_far.nodes (insert key (value d) so_far.nodes) rest ([], key) d after next (omega (arith, so_far.room)) open_still
          (keyval_ok (val 78) (skip_blank rest) at_value after ([], key) d key_read value_read) (pair_put key d so_far.nodes slots.0) more;
      slots = slots.1 ∙ sym is_in;
      of_kind = same ∙ so_far.of_kind;
    }

-- an array of which this rest is left, and the rows of its entries so far
pub record InArray (k : EntryKind) (s rest : List ℕ) (old new : SectionRows) : Type 0 where
  pub found : Items
  pub turns : ℕ
  pub room : length rest < turns
  pub reads : items (val 79) (suc (length s)) no_items s ≡ items (val 79) turns found rest
  pub keeps : KeepsOthers k old new
  pub gives : GiveRows k old [] → GiveRows k new (data_of found)

keeps_all : (k : EntryKind) (rows : SectionRows) → KeepsOthers k rows rows
keeps_all kind.Element rows = refl
keeps_all kind.Link rows = refl
keeps_all kind.Source rows = refl

keeps_then : (k : EntryKind) (first_rows then_rows last_rows : SectionRows) → KeepsOthers k first_rows then_rows → KeepsOthers k then_rows last_rows → KeepsOthers k first_rows last_rows
keeps_then kind.Element first_rows then_rows last_rows one other = other ∙ ap (λ (rows : SectionRows). record rows { elements = last_rows.elements }) one
keeps_then kind.Link first_rows then_rows last_rows one other = other ∙ ap (λ (rows : SectionRows). record rows { links = last_rows.links; bundled = last_rows.bundled }) one
keeps_then kind.Source first_rows then_rows last_rows one other = other ∙ ap (λ (rows : SectionRows). record rows { sources = last_rows.sources }) one

pub array_begins : (k : EntryKind) (s : List ℕ) (rows : SectionRows) → InArray k s s rows rows
array_begins k s rows = record { found = no_items; turns = suc (length s); room = omega arith; reads = refl; keeps = keeps_all k rows; gives = λ none. none }

pub array_ends : (k : EntryKind) (s rest : List ℕ) (old new : SectionRows) → InArray k s rest old new → (first (skip_blank rest) == 93) ≡ true
    → ReadsItems k (items (val 79) (suc (length s)) no_items s) (drop 1 (skip_blank rest)) old new
array_ends k s rest old new so_far closes =
    let read : items (val 79) (suc (length s)) no_items s ≡ Some (so_far.found, drop 1 (skip_blank rest))
    = so_far.reads ∙ items_end (val 79) so_far.turns so_far.found rest (omega (arith, so_far.room)) closes in
    subst (λ o. ReadsItems k o (drop 1 (skip_blank rest)) old new) (sym read) (refl, so_far.keeps, so_far.gives)

-- an inline table that is read
record IsEntry (k : EntryKind) (read : Read Data) (made : Entry) (rest : List ℕ) : Type 0 where
  fields : Members
  reads : read ≡ Some (table fields, rest)
  of_kind : kind_of made ≡ k
  slots : slots_of (keys_in k) fields ≡ entry_slots made

entry_is : (k : EntryKind) (read : Read Data) (made : Entry) (rest : List ℕ) → ReadsEntry k read made rest → IsEntry k read made rest
entry_is k None made rest reads = absurd reads
entry_is k (Some (string s, after)) made rest reads = absurd reads
entry_is k (Some (integer z, after)) made rest reads = absurd reads
entry_is k (Some (float x, after)) made rest reads = absurd reads
entry_is k (Some (boolean b, after)) made rest reads = absurd reads
entry_is k (Some (datetime d, after)) made rest reads = absurd reads
entry_is k (Some (array found, after)) made rest reads = absurd reads
entry_is k (Some (table fields, after)) made rest (same, is, slots) = record { fields = fields; reads = ap (λ a. Some (table fields, a)) same; of_kind = is; slots = slots }

pub array_goes_on : (k : EntryKind) (s rest after next : List ℕ) (made : Entry) (old before new : SectionRows) → InArray k s rest old before → (first (skip_blank rest) == 93) ≡ false
    → ReadsEntry k (val 79 (skip_blank rest)) made after → Adds made before new → after_element 93 after ≡ Some next → length next < length rest → InArray k s next old new
array_goes_on k s rest after next made old before new so_far open_still reads adds more shorter =
    let read = entry_is k (val 79 (skip_blank rest)) made after reads in
    let slots : slots_of (keys_in (kind_of made)) read.fields ≡ entry_slots made = subst (λ j. slots_of (keys_in j) read.fields ≡ entry_slots made) (sym read.of_kind) read.slots in
    let row : GiveRows k before (data_of so_far.found) → GiveRows k new (data_of so_far.found ++ table read.fields ∷ [])
    = subst (λ j. GiveRows j before (data_of so_far.found) → GiveRows j new (data_of so_far.found ++ table read.fields ∷ [])) read.of_kind
    (adds_row made before new (data_of so_far.found) read.fields adds slots) in
    record {
      found = push_item so_far.found (table read.fields);
      turns = so_far.turns - 1;
      room = omega (arith, so_far.room, shorter);
      reads = so_far.reads ∙ items_more (val 79) so_far.turns so_far.found rest (table read.fields) after next (omega (arith, so_far.room)) open_still read.reads more;
      keeps = keeps_then k old before new so_far.keeps (subst (λ j. KeepsOthers j before new) read.of_kind (adds_keeps made before new adds));
      gives = λ none. subst (GiveRows k new) (sym (data_of-push so_far.found (table read.fields))) (row (so_far.gives none));
    }

-- the array at the key of a section of the head
pub entries_taken : (k : EntryKind) (s key rest : List ℕ) (old : LinesRead) (new_head : HeadValues) (new_rows : SectionRows) (doc : Document) → (first s == 91) ≡ true → suc (length (drop 1 s)) ≡ length s
    → key ≡ key_of k → ReadsItems k (items (val 79) (suc (length (drop 1 s))) no_items (drop 1 s)) rest old.rows new_rows → Follows old doc → old.current ≡ None → given_in k old.head ≡ false
    → Gives k old.head new_head → TakesValue (val 80 s) key doc rest (record { head = new_head; rows = new_rows; current = None })
entries_taken k s key rest old new_head new_rows doc opens size is reads follows none not_given marked =
    subst (λ o. TakesValue o key doc rest now) (sym (val_array 79 s opens ∙ ap (λ n. read_map array (items (val 79) n no_items (drop 1 s))) (sym size)))
    (subst (λ n. TakesValue (read_map array all) n doc rest now) (sym is) (by all reads))
  where
    now : LinesRead
    now = record { head = new_head; rows = new_rows; current = None }

    all : Read Items
    all = items (val 79) (suc (length (drop 1 s))) no_items (drop 1 s)

    by : (o : Read Items) → ReadsItems k o rest old.rows new_rows → TakesValue (read_map array o) (key_of k) doc rest now
    by None reads = absurd reads
    by (Some (found, after)) (same, keeps, gives) = (same, gives_leads k old new_head new_rows found doc follows none not_given marked keeps gives)
