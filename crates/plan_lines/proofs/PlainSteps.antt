-- What the lines so far say after one value more, after what is open is closed, and after an entry opens.
use Rattle.std.proofs.Common.{◌≡◌, ℕ, Bool, true, false, not, ◌||◌, List, [], ◌∷◌, ◌++◌, codes, Option, Some, None, Result, Ok, Err, refl, ap, sym, subst, ◌∙◌, inl, inr, ◌⊎◌}
use Rattle.std.specs.Prelude.{⊤, is_some, IsOkAnd, if◌then◌else◌}
use Rattle.std.specs.Str.{bytes_eq}
use Rattle.std.proofs.Math.Bool.{or-false}
use Rattle.std.proofs.lemmas.Bool.{or_parts, false≢true}
use Rattle.std.proofs.lemmas.Option.{none-some}
use Rattle.sync_text.specs.Chain.{unless}
use Rattle.toml.specs.Data.{Data, Items, no_items, push_item, table, array, Members}
use Rattle.toml.specs.Tables.{Node, value, open_array, open_table, Nodes, no_nodes, get_node, insert, replace, close, Document, define, key_value, array_table}
use Rattle.sync_topo.specs.declared.place.Place.{Place}
use Rattle.sync_topo.specs.declared.place.Section.{Section}
use Rattle.sync_topo.specs.declared.place.Section.TheVariants.{Head, Elements, Links, Sources}
use Rattle.sync_topo.specs.declared.rows.ElementRow.{ElementRow}
use Rattle.sync_topo.specs.declared.rows.LinkRow.{LinkRow}
use Rattle.sync_topo.specs.declared.rows.SourceRow.{SourceRow}
use Rattle.plan_lines.specs.declared.entry.Entry.{Entry}
use Rattle.plan_lines.specs.declared.entry.Entry.TheVariants as entry
use Rattle.plan_lines.specs.declared.entry.EntryKind.{EntryKind}
use Rattle.plan_lines.specs.declared.entry.EntryKind.TheVariants as kind
use Rattle.plan_lines.specs.declared.entry.SectionRows.{SectionRows}
use Rattle.plan_rows.specs.declared.error.PlanFileErr.{PlanFileErr}
use Rattle.plan_lines.specs.declared.plain.LinesRead.{LinesRead}
use Rattle.plan_rows.specs.declared.values.HeadValues.{HeadValues}
use Rattle.plan_rows.specs.declared.values.LinkValues.{LinkValues}
use Rattle.plan_rows.specs.declared.version.Version.{Version}
use Rattle.plan_rows.specs.declared.version.Version.TheVariants.{One, Two}
use Rattle.plan_rows.specs.Format.{Key, keys_of}
use Rattle.plan_rows.specs.Rules.{data_of}
use Rattle.plan_rows.specs.Rows.{element_row, link_row, source_row}
use Rattle.plan_rows.specs.Slots.{Slots, no_slots, said_by, put, is_new, lacks, fits, seen}
use Rattle.plan_rows.specs.private.Slots.{slots_of}
use Rattle.plan_rows.specs.Values.{element_slots, link_slots, source_slots, element_said, link_said, source_said}
use Rattle.plan_rows.specs.private.Values.{without_bundle}
use Rattle.plan_lines.specs.private.Lines.{key_of, keys_in, kind_of, entry_slots, IsRow, AreRows, Allows, GiveRows, Adds, given_in, opened_in, IsPart, PartOf, IsSaid, path_of, HasNoTables, Follows, Leads, ClosesIn, Closes, PutsIn, Puts, Gives, KeepsOthers}
use Rattle.plan_rows.proofs.ValueFacts.{AreApart}
use Rattle.plan_rows.proofs.EntryFacts.{element_in_table, link_in_table, source_in_table}
use Rattle.plan_lines.proofs.PlainNodes.{IsSet, inserted, replaced, put_slots, no_node, data_of-push, defines_head, defines_in, defines_first, defines_next}

-- two kinds are one, or their keys differ
pub same_kind : (k j : EntryKind) → (k ≡ j) ⊎ (bytes_eq (key_of k) (key_of j) ≡ false)
same_kind kind.Element kind.Element = inl refl
same_kind kind.Element kind.Link = inr refl
same_kind kind.Element kind.Source = inr refl
same_kind kind.Link kind.Element = inr refl
same_kind kind.Link kind.Link = inl refl
same_kind kind.Link kind.Source = inr refl
same_kind kind.Source kind.Element = inr refl
same_kind kind.Source kind.Link = inr refl
same_kind kind.Source kind.Source = inl refl

-- the keys of the entries of each kind are apart
pub apart_in : (k : EntryKind) → AreApart (keys_in k)
apart_in kind.Element = (refl, (refl, (refl, (refl, (refl, tt)))))
apart_in kind.Link = (refl, (refl, (refl, (refl, (refl, (refl, (refl, (refl, tt))))))))
apart_in kind.Source = (refl, (refl, (refl, (refl, tt))))

opened_here : (made : Entry) → opened_in (kind_of made) (Some made) ≡ Some (entry_slots made)
opened_here (entry.Element values) = refl
opened_here (entry.Link values) = refl
opened_here (entry.Source values) = refl

opened_of : (k : EntryKind) (made : Entry) → kind_of made ≡ k → opened_in k (Some made) ≡ Some (entry_slots made)
opened_of k made is = subst (λ j. opened_in j (Some made) ≡ Some (entry_slots made)) is (opened_here made)

opened_elsewhere : (k : EntryKind) (made : Entry) → bytes_eq (key_of k) (key_of (kind_of made)) ≡ false → opened_in k (Some made) ≡ None
opened_elsewhere kind.Element (entry.Element values) other = absurd (false≢true (sym other))
opened_elsewhere kind.Element (entry.Link values) other = refl
opened_elsewhere kind.Element (entry.Source values) other = refl
opened_elsewhere kind.Link (entry.Element values) other = refl
opened_elsewhere kind.Link (entry.Link values) other = absurd (false≢true (sym other))
opened_elsewhere kind.Link (entry.Source values) other = refl
opened_elsewhere kind.Source (entry.Element values) other = refl
opened_elsewhere kind.Source (entry.Link values) other = refl
opened_elsewhere kind.Source (entry.Source values) other = absurd (false≢true (sym other))

opened_none : (k : EntryKind) → opened_in k None ≡ None
opened_none kind.Element = refl
opened_none kind.Link = refl
opened_none kind.Source = refl

-- the keys of sections and those of the head's own values differ
version_apart : (k : EntryKind) → bytes_eq (codes "version") (key_of k) ≡ false
version_apart kind.Element = refl
version_apart kind.Link = refl
version_apart kind.Source = refl

option_apart : (k : EntryKind) → bytes_eq (codes "option") (key_of k) ≡ false
option_apart kind.Element = refl
option_apart kind.Link = refl
option_apart kind.Source = refl

apart_version : (k : EntryKind) → bytes_eq (key_of k) (codes "version") ≡ false
apart_version kind.Element = refl
apart_version kind.Link = refl
apart_version kind.Source = refl

apart_option : (k : EntryKind) → bytes_eq (key_of k) (codes "option") ≡ false
apart_option kind.Element = refl
apart_option kind.Link = refl
apart_option kind.Source = refl

known_key : (k : EntryKind) → Rattle.std.specs.List.list_any (λ (key : Key). bytes_eq key.name (key_of k)) (keys_of Two Head) ≡ true
known_key kind.Element = refl
known_key kind.Link = refl
known_key kind.Source = refl

-- a value at the head's version, and at its option
head_version : (head : HeadValues) (rows : SectionRows) (slot : Option Rattle.toml.specs.declared.value.Value.Value) (d : Data) (root : Nodes)
    → IsSaid (record { head = head; rows = rows; current = None }) root → ((k : EntryKind) → HasNoTables (get_node (key_of k) root)) → seen head.version ≡ None → seen slot ≡ Some d
    → Leads (define (root, []) (([], codes "version"), key_value d)) (record { head = record head { version = slot }; rows = rows; current = None })
head_version head rows slot d root said bare none is =
    let absent : get_node (codes "version") root ≡ None = no_node _ (said.version ∙ none) in
    let set = inserted (codes "version") (value d) root absent in
    rw (defines_head (codes "version") d root absent) (record {
      said = record {
        version = rw (set.here, is) refl;
        option = rw (set.others (codes "option") refl) said.option;
        only = set.only (keys_of Two Head) refl ∙ said.only;
        part = λ k. by k _ _ (set.others (key_of k) (apart_version k)) (said.part k);
      };
      path = refl;
      in_head = λ here k. rw (set.others (key_of k) (apart_version k)) (bare k);
    })
  where
    by : (k : EntryKind) (old new : Nodes) → get_node (key_of k) new ≡ get_node (key_of k) old → PartOf k (record { head = head; rows = rows; current = None }) old
        → PartOf k (record { head = record head { version = slot }; rows = rows; current = None }) new
    by kind.Element old new same part = rw same part
    by kind.Link old new same part = rw same part
    by kind.Source old new same part = rw same part

head_option : (head : HeadValues) (rows : SectionRows) (slot : Option Rattle.toml.specs.declared.value.Value.Value) (d : Data) (root : Nodes)
    → IsSaid (record { head = head; rows = rows; current = None }) root → ((k : EntryKind) → HasNoTables (get_node (key_of k) root)) → seen head.option ≡ None → seen slot ≡ Some d
    → Leads (define (root, []) (([], codes "option"), key_value d)) (record { head = record head { option = slot }; rows = rows; current = None })
head_option head rows slot d root said bare none is =
    let absent : get_node (codes "option") root ≡ None = no_node _ (said.option ∙ none) in
    let set = inserted (codes "option") (value d) root absent in
    rw (defines_head (codes "option") d root absent) (record {
      said = record {
        version = rw (set.others (codes "version") refl) said.version;
        option = rw (set.here, is) refl;
        only = set.only (keys_of Two Head) refl ∙ said.only;
        part = λ k. by k _ _ (set.others (key_of k) (apart_option k)) (said.part k);
      };
      path = refl;
      in_head = λ here k. rw (set.others (key_of k) (apart_option k)) (bare k);
    })
  where
    by : (k : EntryKind) (old new : Nodes) → get_node (key_of k) new ≡ get_node (key_of k) old → PartOf k (record { head = head; rows = rows; current = None }) old
        → PartOf k (record { head = record head { option = slot }; rows = rows; current = None }) new
    by kind.Element old new same part = rw same part
    by kind.Link old new same part = rw same part
    by kind.Source old new same part = rw same part

-- the tables of what is open
pub record IsOpen (k : EntryKind) (rows : SectionRows) (given : Bool) (slots : Slots) (node : Option Node) : Type 0 where
  pub done : Items
  pub last : Nodes
  pub there : node ≡ Some (open_array done last)
  pub not_given : given ≡ false
  pub rows_of : GiveRows k rows (data_of done)
  pub slots_of_last : slots_of (keys_in k) (close last) ≡ slots

open_part : (k : EntryKind) (rows : SectionRows) (given : Bool) (slots : Slots) (opened : Option Slots) (node : Option Node) → opened ≡ Some slots → IsPart (keys_in k) (GiveRows k rows) given opened node
    → IsOpen k rows given slots node
open_part k rows given slots None found is part = absurd (none-some slots is)
open_part k rows given slots (Some other) None is part = absurd (none-some other (sym part.1))
open_part k rows given slots (Some other) (Some (value d)) is part = absurd (none-some other (sym part.1))
open_part k rows given slots (Some other) (Some (open_table origin inner)) is part = absurd part
open_part k rows given slots (Some other) (Some (open_array done last)) is part =
    record { done = done; last = last; there = refl; not_given = part.0; rows_of = part.1.0; slots_of_last = part.1.1 ∙ ap (λ o. Rattle.std.specs.Prelude.unwrap_or o slots) is }

-- a value in what is open
put_open : (head : HeadValues) (rows : SectionRows) (before after : Entry) (key : List ℕ) (d : Data) (root : Nodes) → IsSaid (record { head = head; rows = rows; current = Some before }) root
    → kind_of after ≡ kind_of before → is_new (keys_in (kind_of before)) (entry_slots before).values key ≡ true
    → entry_slots after ≡ put (keys_in (kind_of before)) (entry_slots before) key d
    → Leads (define (root, key_of (kind_of before) ∷ []) (([], key), key_value d)) (record { head = head; rows = rows; current = Some after })
put_open head rows before after key d root said same fresh is =
    let k = kind_of before in
    let found = open_part k rows (given_in k head) (entry_slots before) _ (get_node (key_of k) root) (opened_here before) (said.part k) in
    let slots = put_slots (keys_in k) (entry_slots before) key d found.last (apart_in k) found.slots_of_last fresh in
    let made = open_array found.done (insert key (value d) found.last) in
    let set = replaced (key_of k) made _ root found.there in
    let new_root = replace (key_of k) made root in
    let part : (j : EntryKind) → PartOf j (record { head = head; rows = rows; current = Some after }) new_root = λ j. elim (same_kind j k) [
      | inl one ↦ subst (λ i. PartOf i (record { head = head; rows = rows; current = Some after }) new_root) (sym one)
          (subst (λ o. IsPart (keys_in k) (GiveRows k rows) (given_in k head) o (get_node (key_of k) new_root)) (sym (opened_of k after same))
          (subst (IsPart (keys_in k) (GiveRows k rows) (given_in k head) (Some (entry_slots after))) (sym set.here) (found.not_given, (found.rows_of, slots.1 ∙ sym is))))
      | inr other ↦
          let away : bytes_eq (key_of j) (key_of (kind_of after)) ≡ false = rw same other in
          let none : opened_in j (Some before) ≡ opened_in j (Some after) = opened_elsewhere j before other ∙ sym (opened_elsewhere j after away) in
          let now : IsPart (keys_in j) (GiveRows j rows) (given_in j head) (opened_in j (Some after)) (get_node (key_of j) root)
          = subst (λ o. IsPart (keys_in j) (GiveRows j rows) (given_in j head) o (get_node (key_of j) root)) none (said.part j) in
          subst (IsPart (keys_in j) (GiveRows j rows) (given_in j head) (opened_in j (Some after))) (sym (set.others (key_of j) other)) now
    ] in
    rw (defines_in (key_of k) key d root found.last found.done found.there slots.0) (record {
      said = record {
        version = rw (set.others (codes "version") (version_apart k)) said.version;
        option = rw (set.others (codes "option") (option_apart k)) said.option;
        only = set.only (keys_of Two Head) (known_key k) ∙ said.only;
        part = part;
      };
      path = rw same refl;
      in_head = λ here. absurd (none-some after (sym here));
    })

-- a value that is put is one that is defined
pub put_leads : (key : List ℕ) (d : Data) (old new : LinesRead) (doc : Document) → Puts key d old new → Follows old doc → Leads (define doc (([], key), key_value d)) new
put_leads key d old new doc puts follows = by old.current new.current refl refl puts
  where
    by : (before after : Option Entry) → old.current ≡ before → new.current ≡ after → PutsIn key d before after old new → Leads (define doc (([], key), key_value d)) new
    by None None opened closed (rows, inl (is, none, there, others)) =
        let said : IsSaid (record { head = old.head; rows = old.rows; current = None }) doc.0 = subst (λ o. IsSaid (record { head = old.head; rows = old.rows; current = o }) doc.0) opened follows.said in
        let path : doc.1 ≡ [] = follows.path ∙ ap path_of opened in
        let leads = head_version old.head old.rows new.head.version d doc.0 said (follows.in_head opened) none there in
        let here : Leads (define doc (([], codes "version"), key_value d)) (record { head = record old.head { version = new.head.version }; rows = old.rows; current = None })
        = subst (λ p. Leads (define (doc.0, p) (([], codes "version"), key_value d)) (record { head = record old.head { version = new.head.version }; rows = old.rows; current = None })) (sym path) leads in
        let at_head = subst (λ h. Leads (define doc (([], codes "version"), key_value d)) (record { head = h; rows = old.rows; current = None })) (sym others) here in
        let at_rows = subst (λ r. Leads (define doc (([], codes "version"), key_value d)) (record { head = new.head; rows = r; current = None })) (sym rows) at_head in
        let at_open = subst (λ o. Leads (define doc (([], codes "version"), key_value d)) (record { head = new.head; rows = new.rows; current = o })) (sym closed) at_rows in
        subst (λ k. Leads (define doc (([], k), key_value d)) new) (sym is) at_open
    by None None opened closed (rows, inr (is, none, there, others)) =
        let said : IsSaid (record { head = old.head; rows = old.rows; current = None }) doc.0 = subst (λ o. IsSaid (record { head = old.head; rows = old.rows; current = o }) doc.0) opened follows.said in
        let path : doc.1 ≡ [] = follows.path ∙ ap path_of opened in
        let leads = head_option old.head old.rows new.head.option d doc.0 said (follows.in_head opened) none there in
        let here : Leads (define doc (([], codes "option"), key_value d)) (record { head = record old.head { option = new.head.option }; rows = old.rows; current = None })
        = subst (λ p. Leads (define (doc.0, p) (([], codes "option"), key_value d)) (record { head = record old.head { option = new.head.option }; rows = old.rows; current = None })) (sym path) leads in
        let at_head = subst (λ h. Leads (define doc (([], codes "option"), key_value d)) (record { head = h; rows = old.rows; current = None })) (sym others) here in
        let at_rows = subst (λ r. Leads (define doc (([], codes "option"), key_value d)) (record { head = new.head; rows = r; current = None })) (sym rows) at_head in
        let at_open = subst (λ o. Leads (define doc (([], codes "option"), key_value d)) (record { head = new.head; rows = new.rows; current = o })) (sym closed) at_rows in
        subst (λ k. Leads (define doc (([], k), key_value d)) new) (sym is) at_open
    by (Some before) (Some after) opened closed (rows, head, same, fresh, is) =
        let said : IsSaid (record { head = old.head; rows = old.rows; current = Some before }) doc.0 = subst (λ o. IsSaid (record { head = old.head; rows = old.rows; current = o }) doc.0) opened follows.said in
        let path : doc.1 ≡ key_of (kind_of before) ∷ [] = follows.path ∙ ap path_of opened in
        let leads = put_open old.head old.rows before after key d doc.0 said same fresh is in
        let here = subst (λ p. Leads (define (doc.0, p) (([], key), key_value d)) (record { head = old.head; rows = old.rows; current = Some after })) (sym path) leads in
        let at_head = subst (λ h. Leads (define doc (([], key), key_value d)) (record { head = h; rows = old.rows; current = Some after })) (sym head) here in
        let at_rows = subst (λ r. Leads (define doc (([], key), key_value d)) (record { head = new.head; rows = r; current = Some after })) (sym rows) at_head in
        subst (λ o. Leads (define doc (([], key), key_value d)) (record { head = new.head; rows = new.rows; current = o })) (sym closed) at_rows
    by None (Some after) opened closed puts = absurd puts
    by (Some before) None opened closed puts = absurd puts

-- a refusal is of its place alone, so that what is accepted at one is at each
refused_or : {A : Type 0} (other wrong : Bool) (here there : Place) (said row : A)
    → unless (if other then Some (Rattle.plan_rows.specs.declared.error.PlanFileErr.TheVariants.Key here) else if not wrong then Some (Rattle.plan_rows.specs.declared.error.PlanFileErr.TheVariants.Kind here) else None) said ≡ Ok row
    → unless (if other then Some (Rattle.plan_rows.specs.declared.error.PlanFileErr.TheVariants.Key there) else if not wrong then Some (Rattle.plan_rows.specs.declared.error.PlanFileErr.TheVariants.Kind there) else None) said ≡ Ok row
refused_or true wrong here there said row is = absurd (cc is)
refused_or false true here there said row is = is
refused_or false false here there said row is = absurd (cc is)

at_each : {A : Type 0} (keys : List Key) (said : List (Option Data) → A) (slots : Slots) (here there : Place) (row : A) → said_by here keys said slots ≡ Ok row → said_by there keys said slots ≡ Ok row
at_each keys said slots here there row is = refused_or (slots.other || lacks keys slots.values) (fits keys slots.values) here there (said slots.values) row is

-- the rows with one more
rows_more : {A : Type 0} (version : Version) (row : Data → A) (section : Section) (entries : List Data) (rows : List A) (said : Data) (first : A)
    → AreRows version row section entries rows → IsRow version row section said first → AreRows version row section (entries ++ said ∷ []) (rows ++ first ∷ [])
rows_more version row section [] [] said first are is = (is, tt)
rows_more version row section [] (other ∷ rows) said first are is = absurd are
rows_more version row section (entry ∷ entries) [] said first are is = absurd are
rows_more version row section (entry ∷ entries) (other ∷ rows) said first are is = (are.0, rows_more version row section entries rows said first are.1 is)

-- a link without a bundle has the same slots in both versions
same_without : (values : LinkValues) → is_some values.bundle ≡ false → without_bundle (link_slots values) ≡ link_slots values
same_without values none = by values.bundle refl none
  where
    by : (bundle : Option Rattle.toml.specs.declared.value.Value.Value) → values.bundle ≡ bundle → is_some bundle ≡ false → without_bundle (link_slots values) ≡ link_slots values
    by None is none = rw (is, or-false values.other) refl
    by (Some named) is none = absurd (false≢true (sym none))

link_said_by : (version : Version) (values : LinkValues) (row : LinkRow) (fields : Members) (n : ℕ) → Allows version (is_some values.bundle) → slots_of (keys_of Two Links) fields ≡ link_slots values
    → said_by (record { section = Links; row = 0 }) (keys_of Two Links) link_said (link_slots values) ≡ Ok row
    → Rattle.plan_rows.specs.private.Rows.row_at version (link_row version) Links n (table fields) ≡ Ok row
link_said_by Two values row fields n allowed slots is =
    link_in_table Two n fields
    ∙ subst (λ s. said_by (record { section = Links; row = n }) (keys_of Two Links) link_said s ≡ Ok row) (sym slots) (at_each (keys_of Two Links) link_said (link_slots values) (record { section = Links; row = 0 }) (record { section = Links; row = n }) row is)
link_said_by One values row fields n allowed slots is =
    link_in_table One n fields
    ∙ subst (λ s. said_by (record { section = Links; row = n }) (keys_of Two Links) link_said s ≡ Ok row) (sym (ap without_bundle slots ∙ same_without values allowed)) (at_each (keys_of Two Links) link_said (link_slots values) (record { section = Links; row = 0 }) (record { section = Links; row = n }) row is)

allowed_parts : (version : Version) (bundled bundle : Bool) → Allows version (bundled || bundle) → Allows version bundled × Allows version bundle
allowed_parts One bundled bundle none = or_parts bundled bundle none
allowed_parts Two bundled bundle none = (tt, tt)

-- the rows of a section after those of an entry more, of its table
pub adds_row : (made : Entry) (old new : SectionRows) (entries : List Data) (fields : Members) → Adds made old new → slots_of (keys_in (kind_of made)) fields ≡ entry_slots made
    → GiveRows (kind_of made) old entries → GiveRows (kind_of made) new (entries ++ table fields ∷ [])
adds_row (entry.Element values) old new entries fields adds slots gives = by (said_by (record { section = Elements; row = 0 }) (keys_of Two Elements) element_said (element_slots values)) refl adds
  where
    by : (answer : Result ElementRow PlanFileErr) → said_by (record { section = Elements; row = 0 }) (keys_of Two Elements) element_said (element_slots values) ≡ answer
        → IsOkAnd answer (λ row. new ≡ record old { elements = old.elements ++ row ∷ [] }) → GiveRows kind.Element new (entries ++ table fields ∷ [])
    by (Err error) is adds = absurd adds
    by (Ok row) is adds =
        let one : IsRow One element_row Elements (table fields) row = λ n.
        element_in_table n fields
        ∙ subst (λ s. said_by (record { section = Elements; row = n }) (keys_of Two Elements) element_said s ≡ Ok row) (sym slots) (at_each (keys_of Two Elements) element_said (element_slots values) (record { section = Elements; row = 0 }) (record { section = Elements; row = n }) row is) in
        rw adds (rows_more One element_row Elements entries old.elements (table fields) row gives one)
adds_row (entry.Source values) old new entries fields adds slots gives = by (said_by (record { section = Sources; row = 0 }) (keys_of Two Sources) source_said (source_slots values)) refl adds
  where
    by : (answer : Result SourceRow PlanFileErr) → said_by (record { section = Sources; row = 0 }) (keys_of Two Sources) source_said (source_slots values) ≡ answer
        → IsOkAnd answer (λ row. new ≡ record old { sources = old.sources ++ row ∷ [] }) → GiveRows kind.Source new (entries ++ table fields ∷ [])
    by (Err error) is adds = absurd adds
    by (Ok row) is adds =
        let one : IsRow One source_row Sources (table fields) row = λ n.
        source_in_table n fields
        ∙ subst (λ s. said_by (record { section = Sources; row = n }) (keys_of Two Sources) source_said s ≡ Ok row) (sym slots) (at_each (keys_of Two Sources) source_said (source_slots values) (record { section = Sources; row = 0 }) (record { section = Sources; row = n }) row is) in
        rw adds (rows_more One source_row Sources entries old.sources (table fields) row gives one)
adds_row (entry.Link values) old new entries fields adds slots gives = by (said_by (record { section = Links; row = 0 }) (keys_of Two Links) link_said (link_slots values)) refl adds
  where
    by : (answer : Result LinkRow PlanFileErr) → said_by (record { section = Links; row = 0 }) (keys_of Two Links) link_said (link_slots values) ≡ answer
        → IsOkAnd answer (λ row. new ≡ record old { links = old.links ++ row ∷ []; bundled = old.bundled || is_some values.bundle }) → GiveRows kind.Link new (entries ++ table fields ∷ [])
    by (Err error) is adds = absurd adds
    by (Ok row) is adds = rw adds (λ version allowed.
        let parts = allowed_parts version old.bundled (is_some values.bundle) allowed in
        rows_more version (link_row version) Links entries old.links (table fields) row (gives version parts.0) (λ n. link_said_by version values row fields n parts.1 slots is))

-- those of other sections are as they were
pub record Others (k : EntryKind) (old new : SectionRows) : Type 0 where
  pub keeps : (j : EntryKind) (entries : List Data) → bytes_eq (key_of j) (key_of k) ≡ false → GiveRows j old entries → GiveRows j new entries

elements_only : (old : SectionRows) (rows : Rattle.sync_text.specs.declared.lists.Rows.Rows ElementRow) → Others kind.Element old (record old { elements = rows })
elements_only old rows = record { keeps = by }
  where
    by : (j : EntryKind) (entries : List Data) → bytes_eq (key_of j) (key_of kind.Element) ≡ false → GiveRows j old entries → GiveRows j (record old { elements = rows }) entries
    by kind.Element entries other gives = absurd (false≢true (sym other))
    by kind.Link entries other gives = gives
    by kind.Source entries other gives = gives

links_only : (old : SectionRows) (rows : Rattle.sync_text.specs.declared.lists.Rows.Rows LinkRow) (bundled : Bool) → Others kind.Link old (record old { links = rows; bundled = bundled })
links_only old rows bundled = record { keeps = by }
  where
    by : (j : EntryKind) (entries : List Data) → bytes_eq (key_of j) (key_of kind.Link) ≡ false → GiveRows j old entries → GiveRows j (record old { links = rows; bundled = bundled }) entries
    by kind.Element entries other gives = gives
    by kind.Link entries other gives = absurd (false≢true (sym other))
    by kind.Source entries other gives = gives

sources_only : (old : SectionRows) (rows : Rattle.sync_text.specs.declared.lists.Rows.Rows SourceRow) → Others kind.Source old (record old { sources = rows })
sources_only old rows = record { keeps = by }
  where
    by : (j : EntryKind) (entries : List Data) → bytes_eq (key_of j) (key_of kind.Source) ≡ false → GiveRows j old entries → GiveRows j (record old { sources = rows }) entries
    by kind.Element entries other gives = gives
    by kind.Link entries other gives = gives
    by kind.Source entries other gives = absurd (false≢true (sym other))

pub adds_keeps : (made : Entry) (old new : SectionRows) → Adds made old new → KeepsOthers (kind_of made) old new
adds_keeps (entry.Element values) old new adds = by (said_by (record { section = Elements; row = 0 }) (keys_of Two Elements) element_said (element_slots values)) adds
  where
    by : (answer : Result ElementRow PlanFileErr) → IsOkAnd answer (λ row. new ≡ record old { elements = old.elements ++ row ∷ [] }) → new ≡ record old { elements = new.elements }
    by (Err error) adds = absurd adds
    by (Ok row) adds = rw adds refl
adds_keeps (entry.Link values) old new adds = by (said_by (record { section = Links; row = 0 }) (keys_of Two Links) link_said (link_slots values)) adds
  where
    by : (answer : Result LinkRow PlanFileErr) → IsOkAnd answer (λ row. new ≡ record old { links = old.links ++ row ∷ []; bundled = old.bundled || is_some values.bundle }) → new ≡ record old { links = new.links; bundled = new.bundled }
    by (Err error) adds = absurd adds
    by (Ok row) adds = rw adds refl
adds_keeps (entry.Source values) old new adds = by (said_by (record { section = Sources; row = 0 }) (keys_of Two Sources) source_said (source_slots values)) adds
  where
    by : (answer : Result SourceRow PlanFileErr) → IsOkAnd answer (λ row. new ≡ record old { sources = old.sources ++ row ∷ [] }) → new ≡ record old { sources = new.sources }
    by (Err error) adds = absurd adds
    by (Ok row) adds = rw adds refl

pub keeps_others : (k : EntryKind) (old new : SectionRows) → KeepsOthers k old new → Others k old new
keeps_others kind.Element old new keeps = subst (Others kind.Element old) (sym keeps) (elements_only old new.elements)
keeps_others kind.Link old new keeps = subst (Others kind.Link old) (sym keeps) (links_only old new.links new.bundled)
keeps_others kind.Source old new keeps = subst (Others kind.Source old) (sym keeps) (sources_only old new.sources)

-- a part whose rows are now others that its entries give too
part_kept : (keys : List Key) (Give Gives_now : List Data → Type 0) (given : Bool) (node : Option Node) → ((entries : List Data) → Give entries → Gives_now entries) → IsPart keys Give given None node
    → IsPart keys Gives_now given None node
part_kept keys Give Gives_now given None gives part = (part.0, part.1, gives [] part.2)
part_kept keys Give Gives_now given (Some (value (array found))) gives part = (part.0, part.1, gives _ part.2)
part_kept keys Give Gives_now given (Some (value (Rattle.toml.specs.Data.string s))) gives part = absurd part.2
part_kept keys Give Gives_now given (Some (value (Rattle.toml.specs.Data.integer z))) gives part = absurd part.2
part_kept keys Give Gives_now given (Some (value (Rattle.toml.specs.Data.float x))) gives part = absurd part.2
part_kept keys Give Gives_now given (Some (value (Rattle.toml.specs.Data.boolean b))) gives part = absurd part.2
part_kept keys Give Gives_now given (Some (value (Rattle.toml.specs.Data.datetime d))) gives part = absurd part.2
part_kept keys Give Gives_now given (Some (value (table fields))) gives part = absurd part.2
part_kept keys Give Gives_now given (Some (open_table origin inner)) gives part = absurd part
part_kept keys Give Gives_now given (Some (open_array done last)) gives part = (part.0, gives _ part.1)

-- what is open, closed: its table is the last of its section, with its row
closes_open : (head : HeadValues) (old new : SectionRows) (made : Entry) (root : Nodes) → IsSaid (record { head = head; rows = old; current = Some made }) root → Adds made old new
    → IsSaid (record { head = head; rows = new; current = None }) root
closes_open head old new made root said adds = record { version = said.version; option = said.option; only = said.only; part = part }
  where
    k : EntryKind
    k = kind_of made

    found : IsOpen k old (given_in k head) (entry_slots made) (get_node (key_of k) root)
    found = open_part k old (given_in k head) (entry_slots made) _ (get_node (key_of k) root) (opened_here made) (said.part k)

    here : PartOf k (record { head = head; rows = new; current = None }) root
    here = subst (λ o. IsPart (keys_in k) (GiveRows k new) (given_in k head) o (get_node (key_of k) root)) (sym (opened_none k))
        (subst (IsPart (keys_in k) (GiveRows k new) (given_in k head) None) (sym found.there)
        (found.not_given, adds_row made old new (data_of found.done) (close found.last) adds found.slots_of_last found.rows_of))

    part : (j : EntryKind) → PartOf j (record { head = head; rows = new; current = None }) root
    part j = elim (same_kind j k) [
      | inl one ↦ subst (λ i. PartOf i (record { head = head; rows = new; current = None }) root) (sym one) here
      | inr other ↦
          let was : IsPart (keys_in j) (GiveRows j old) (given_in j head) None (get_node (key_of j) root)
          = subst (λ o. IsPart (keys_in j) (GiveRows j old) (given_in j head) o (get_node (key_of j) root)) (opened_elsewhere j made other) (said.part j) in
          let kept = keeps_others k old new (adds_keeps made old new adds) in
          subst (λ o. IsPart (keys_in j) (GiveRows j new) (given_in j head) o (get_node (key_of j) root)) (sym (opened_none j))
          (part_kept (keys_in j) (GiveRows j old) (GiveRows j new) (given_in j head) (get_node (key_of j) root) (λ entries gives. kept.keeps j entries other gives) was)
    ]

pub closes : (old new : LinesRead) (root : Nodes) → Closes old new → IsSaid old root → IsSaid new root × (new.current ≡ None) × (new.head ≡ old.head)
closes old new root is said = by old.current refl is
  where
    by : (current : Option Entry) → old.current ≡ current → ClosesIn current old new → IsSaid new root × (new.current ≡ None) × (new.head ≡ old.head)
    by None at_head same = rw same (said, at_head, refl)
    by (Some made) opened (head, none, adds) =
        let was : IsSaid (record { head = old.head; rows = old.rows; current = Some made }) root = subst (λ o. IsSaid (record { head = old.head; rows = old.rows; current = o }) root) opened said in
        let now : IsSaid (record { head = old.head; rows = new.rows; current = None }) root = closes_open old.head old.rows new.rows made root was adds in
        let at_none = subst (λ o. IsSaid (record { head = old.head; rows = new.rows; current = o }) root) (sym none) now in
        (subst (λ h. IsSaid (record { head = h; rows = new.rows; current = new.current }) root) (sym head) at_none, none, head)

-- a part whose rows, node and mark are as they were
part_elsewhere : (j : EntryKind) (head new_head : HeadValues) (rows new_rows : SectionRows) (root new_root : Nodes) → given_in j new_head ≡ given_in j head → get_node (key_of j) new_root ≡ get_node (key_of j) root
    → ((entries : List Data) → GiveRows j rows entries → GiveRows j new_rows entries) → PartOf j (record { head = head; rows = rows; current = None }) root
    → IsPart (keys_in j) (GiveRows j new_rows) (given_in j new_head) None (get_node (key_of j) new_root)
part_elsewhere j head new_head rows new_rows root new_root marks same gives part =
    let was : IsPart (keys_in j) (GiveRows j rows) (given_in j head) None (get_node (key_of j) root)
    = subst (λ o. IsPart (keys_in j) (GiveRows j rows) (given_in j head) o (get_node (key_of j) root)) (opened_none j) part in
    let kept = part_kept (keys_in j) (GiveRows j rows) (GiveRows j new_rows) (given_in j head) (get_node (key_of j) root) gives was in
    subst (λ g. IsPart (keys_in j) (GiveRows j new_rows) g None (get_node (key_of j) new_root)) (sym marks)
    (subst (IsPart (keys_in j) (GiveRows j new_rows) (given_in j head) None) (sym same) kept)

-- an entry opens: a table of its section is set
opened_follows : (k : EntryKind) (head : HeadValues) (rows : SectionRows) (made : Entry) (done : Items) (root new_root : Nodes) → IsSaid (record { head = head; rows = rows; current = None }) root
    → kind_of made ≡ k → entry_slots made ≡ no_slots (keys_in k) → given_in k head ≡ false → GiveRows k rows (data_of done) → IsSet (key_of k) (open_array done no_nodes) root new_root
    → Follows (record { head = head; rows = rows; current = Some made }) (new_root, key_of k ∷ [])
opened_follows k head rows made done root new_root said same slots not_given gives set = record {
  said = record {
    version = rw (set.others (codes "version") (version_apart k)) said.version;
    option = rw (set.others (codes "option") (option_apart k)) said.option;
    only = set.only (keys_of Two Head) (known_key k) ∙ said.only;
    part = part;
  };
  path = ap (λ j. key_of j ∷ []) (sym same);
  in_head = λ here. absurd (none-some made (sym here));
}
  where
    opened : PartOf k (record { head = head; rows = rows; current = Some made }) new_root
    opened = subst (λ o. IsPart (keys_in k) (GiveRows k rows) (given_in k head) o (get_node (key_of k) new_root)) (sym (opened_of k made same))
        (subst (IsPart (keys_in k) (GiveRows k rows) (given_in k head) (Some (entry_slots made))) (sym set.here) (not_given, (gives, sym slots)))

    part : (j : EntryKind) → PartOf j (record { head = head; rows = rows; current = Some made }) new_root
    part j = elim (same_kind j k) [
      | inl one ↦ subst (λ i. PartOf i (record { head = head; rows = rows; current = Some made }) new_root) (sym one) opened
      | inr other ↦
          let away : bytes_eq (key_of j) (key_of (kind_of made)) ≡ false = ap (λ i. bytes_eq (key_of j) (key_of i)) same ∙ other in
          subst (λ o. IsPart (keys_in j) (GiveRows j rows) (given_in j head) o (get_node (key_of j) new_root)) (sym (opened_elsewhere j made away))
          (part_elsewhere j head head rows rows root new_root refl (set.others (key_of j) other) (λ entries give. give) (said.part j))
    ]

-- it is the first of its section, or one more
opens_at : (k : EntryKind) (head : HeadValues) (rows : SectionRows) (made : Entry) (doc : Document) (node : Option Node) → IsSaid (record { head = head; rows = rows; current = None }) doc.0
    → kind_of made ≡ k → entry_slots made ≡ no_slots (keys_in k) → given_in k head ≡ false → get_node (key_of k) doc.0 ≡ node
    → IsPart (keys_in k) (GiveRows k rows) (given_in k head) None node
    → Leads (define doc (([], key_of k), array_table)) (record { head = head; rows = rows; current = Some made })
opens_at k head rows made doc None said same slots not_given is part =
    subst (λ next. Leads next (record { head = head; rows = rows; current = Some made })) (sym (defines_first (key_of k) doc.0 doc.1 is))
    (opened_follows k head rows made no_items doc.0 _ said same slots not_given part.2 (inserted (key_of k) (open_array no_items no_nodes) doc.0 is))
opens_at k head rows made doc (Some (value d)) said same slots not_given is part = absurd (false≢true (sym not_given ∙ part.0))
opens_at k head rows made doc (Some (open_table origin inner)) said same slots not_given is part = absurd part
opens_at k head rows made doc (Some (open_array done last)) said same slots not_given is part =
    subst (λ next. Leads next (record { head = head; rows = rows; current = Some made })) (sym (defines_next (key_of k) doc.0 last done doc.1 is))
    (opened_follows k head rows made (push_item done (table (close last))) doc.0 _ said same slots not_given
    (subst (GiveRows k rows) (sym (data_of-push done (table (close last)))) part.1) (replaced (key_of k) _ _ doc.0 is))

-- what is open is closed, and an entry opens
pub opens : (k : EntryKind) (old closed : LinesRead) (made : Entry) (doc : Document) → Closes old closed → Follows old doc → given_in k old.head ≡ false → kind_of made ≡ k → entry_slots made ≡ no_slots (keys_in k)
    → Leads (define doc (([], key_of k), array_table)) (record { head = closed.head; rows = closed.rows; current = Some made })
opens k old closed made doc is follows not_given same slots =
    let (said, none, head) = closes old closed doc.0 is follows.said in
    let at_none : IsSaid (record { head = closed.head; rows = closed.rows; current = None }) doc.0 = subst (λ o. IsSaid (record { head = closed.head; rows = closed.rows; current = o }) doc.0) none said in
    let part : IsPart (keys_in k) (GiveRows k closed.rows) (given_in k closed.head) None (get_node (key_of k) doc.0)
    = subst (λ o. IsPart (keys_in k) (GiveRows k closed.rows) (given_in k closed.head) o (get_node (key_of k) doc.0)) (opened_none k) (at_none.part k) in
    opens_at k closed.head closed.rows made doc (get_node (key_of k) doc.0) at_none same slots (ap (given_in k) head ∙ not_given) refl part

-- a section that the head gives
record IsMarked (k : EntryKind) (old new : HeadValues) : Type 0 where
  here : given_in k new ≡ true
  others : (j : EntryKind) → bytes_eq (key_of j) (key_of k) ≡ false → given_in j new ≡ given_in j old
  version : new.version ≡ old.version
  option : new.option ≡ old.option

marks : (k : EntryKind) (old new : HeadValues) → Gives k old new → IsMarked k old new
marks kind.Element old new (given, is) = record { here = given; others = by; version = ap (λ (h : HeadValues). h.version) is; option = ap (λ (h : HeadValues). h.option) is }
  where
    by : (j : EntryKind) → bytes_eq (key_of j) (key_of kind.Element) ≡ false → given_in j new ≡ given_in j old
    by kind.Element other = absurd (false≢true (sym other))
    by kind.Link other = ap (λ (h : HeadValues). is_some h.links) is
    by kind.Source other = ap (λ (h : HeadValues). is_some h.sources) is
marks kind.Link old new (given, is) = record { here = given; others = by; version = ap (λ (h : HeadValues). h.version) is; option = ap (λ (h : HeadValues). h.option) is }
  where
    by : (j : EntryKind) → bytes_eq (key_of j) (key_of kind.Link) ≡ false → given_in j new ≡ given_in j old
    by kind.Element other = ap (λ (h : HeadValues). is_some h.elements) is
    by kind.Link other = absurd (false≢true (sym other))
    by kind.Source other = ap (λ (h : HeadValues). is_some h.sources) is
marks kind.Source old new (given, is) = record { here = given; others = by; version = ap (λ (h : HeadValues). h.version) is; option = ap (λ (h : HeadValues). h.option) is }
  where
    by : (j : EntryKind) → bytes_eq (key_of j) (key_of kind.Source) ≡ false → given_in j new ≡ given_in j old
    by kind.Element other = ap (λ (h : HeadValues). is_some h.elements) is
    by kind.Link other = ap (λ (h : HeadValues). is_some h.links) is
    by kind.Source other = absurd (false≢true (sym other))

-- a section that the head doesn't give has nothing while the head is read
absent_part : (keys : List Key) (Give : List Data → Type 0) (given : Bool) (node : Option Node) → given ≡ false → HasNoTables node → IsPart keys Give given None node → (node ≡ None) × Give []
absent_part keys Give given None not_given bare part = (refl, part.2)
absent_part keys Give given (Some (value d)) not_given bare part = absurd (false≢true (sym not_given ∙ part.0))
absent_part keys Give given (Some (open_table origin inner)) not_given bare part = absurd part
absent_part keys Give given (Some (open_array done last)) not_given bare part = absurd bare

-- the head gives the entries of a section
gives_at : (k : EntryKind) (head new_head : HeadValues) (rows new_rows : SectionRows) (found : Items) (root : Nodes) → IsSaid (record { head = head; rows = rows; current = None }) root
    → ((j : EntryKind) → HasNoTables (get_node (key_of j) root)) → given_in k head ≡ false → IsMarked k head new_head → Others k rows new_rows → (GiveRows k rows [] → GiveRows k new_rows (data_of found))
    → Leads (define (root, []) (([], key_of k), key_value (array found))) (record { head = new_head; rows = new_rows; current = None })
gives_at k head new_head rows new_rows found root said bare not_given marked others gives =
    subst (λ next. Leads next (record { head = new_head; rows = new_rows; current = None })) (sym (defines_head (key_of k) (array found) root absent.0)) (record {
      said = record {
        version = rw (set.others (codes "version") (version_apart k)) (said.version ∙ ap seen (sym marked.version));
        option = rw (set.others (codes "option") (option_apart k)) (said.option ∙ ap seen (sym marked.option));
        only = set.only (keys_of Two Head) (known_key k) ∙ said.only;
        part = part;
      };
      path = refl;
      in_head = λ here j. no_tables j (same_kind j k);
    })
  where
    was : IsPart (keys_in k) (GiveRows k rows) (given_in k head) None (get_node (key_of k) root)
    was = subst (λ o. IsPart (keys_in k) (GiveRows k rows) (given_in k head) o (get_node (key_of k) root)) (opened_none k) (said.part k)

    absent : (get_node (key_of k) root ≡ None) × GiveRows k rows []
    absent = absent_part (keys_in k) (GiveRows k rows) (given_in k head) (get_node (key_of k) root) not_given (bare k) was

    new_root : Nodes
    new_root = insert (key_of k) (value (array found)) root

    set : IsSet (key_of k) (value (array found)) root new_root
    set = inserted (key_of k) (value (array found)) root absent.0

    no_tables : (j : EntryKind) → (j ≡ k) ⊎ (bytes_eq (key_of j) (key_of k) ≡ false) → HasNoTables (get_node (key_of j) new_root)
    no_tables j (inl one) = subst (λ i. HasNoTables (get_node (key_of i) new_root)) (sym one) (subst HasNoTables (sym set.here) tt)
    no_tables j (inr other) = subst HasNoTables (sym (set.others (key_of j) other)) (bare j)

    here : PartOf k (record { head = new_head; rows = new_rows; current = None }) new_root
    here = subst (λ o. IsPart (keys_in k) (GiveRows k new_rows) (given_in k new_head) o (get_node (key_of k) new_root)) (sym (opened_none k))
        (subst (IsPart (keys_in k) (GiveRows k new_rows) (given_in k new_head) None) (sym set.here) (marked.here, refl, gives absent.1))

    part : (j : EntryKind) → PartOf j (record { head = new_head; rows = new_rows; current = None }) new_root
    part j = elim (same_kind j k) [
      | inl one ↦ subst (λ i. PartOf i (record { head = new_head; rows = new_rows; current = None }) new_root) (sym one) here
      | inr other ↦
          subst (λ o. IsPart (keys_in j) (GiveRows j new_rows) (given_in j new_head) o (get_node (key_of j) new_root)) (sym (opened_none j))
          (part_elsewhere j head new_head rows new_rows root new_root (marked.others j other) (set.others (key_of j) other) (λ entries give. others.keeps j entries other give) (said.part j))
    ]

pub gives_leads : (k : EntryKind) (old : LinesRead) (new_head : HeadValues) (new_rows : SectionRows) (found : Items) (doc : Document) → Follows old doc → old.current ≡ None → given_in k old.head ≡ false
    → Gives k old.head new_head → KeepsOthers k old.rows new_rows → (GiveRows k old.rows [] → GiveRows k new_rows (data_of found))
    → Leads (define doc (([], key_of k), key_value (array found))) (record { head = new_head; rows = new_rows; current = None })
gives_leads k old new_head new_rows found doc follows none not_given marked keeps gives =
    let said : IsSaid (record { head = old.head; rows = old.rows; current = None }) doc.0 = subst (λ o. IsSaid (record { head = old.head; rows = old.rows; current = o }) doc.0) none follows.said in
    let path : doc.1 ≡ [] = follows.path ∙ ap path_of none in
    subst (λ p. Leads (define (doc.0, p) (([], key_of k), key_value (array found))) (record { head = new_head; rows = new_rows; current = None })) (sym path)
    (gives_at k old.head new_head old.rows new_rows found doc.0 said (follows.in_head none) not_given (marks k old.head new_head marked) (keeps_others k old.rows new_rows keeps) gives)
