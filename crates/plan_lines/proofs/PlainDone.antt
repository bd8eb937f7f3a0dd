-- What is said when all lines are read is what the document says.
use Rattle.std.proofs.Common.{◌≡◌, ℕ, ◌+◌, Bool, true, false, List, [], ◌∷◌, codes, Option, Some, None, Ok, refl, ap, sym, subst, ◌∙◌}
use Rattle.std.specs.Prelude.{option_map}
use Rattle.std.specs.Option.{option_map_or}
use Rattle.toml.specs.Data.{Data, string, integer, float, boolean, datetime, array, table, Members}
use Rattle.toml.specs.Tables.{Node, value, open_array, open_table, Nodes, get_node, close, close_node, Document}
use Rattle.sync_topo.specs.declared.place.Section.{Section}
use Rattle.sync_topo.specs.declared.place.Section.TheVariants.{Head, Elements, Links, Sources}
use Rattle.sync_topo.specs.declared.rows.PlanRows.{PlanRows}
use Rattle.plan_lines.specs.declared.entry.EntryKind.TheVariants as kind
use Rattle.plan_lines.specs.declared.entry.SectionRows.{SectionRows}
use Rattle.plan_lines.specs.declared.plain.LinesRead.{LinesRead}
use Rattle.plan_rows.specs.declared.version.Version.{Version}
use Rattle.plan_rows.specs.declared.version.Version.TheVariants.{One, Two}
use Rattle.plan_rows.specs.Format.{Key, keys_of, is_version, is_option, is_array}
use Rattle.plan_rows.specs.Rows.{element_row, link_row, source_row, rows_of_document}
use Rattle.plan_rows.specs.Slots.{said_by, seen}
use Rattle.plan_rows.specs.private.Slots.{slots_of, entries_in}
use Rattle.plan_rows.specs.Values.{version_in, option_in}
use Rattle.plan_rows.specs.private.Values.{head_said, head_in, rows_from}
use Rattle.plan_lines.specs.private.Lines.{keys_in, AreRows, GiveRows, given_in, IsPart, IsSaid, Follows, Closes, MakeRows}
use Rattle.plan_rows.proofs.RowsSoFar.{document_steps, document_is}
use Rattle.plan_lines.proofs.PlainNodes.{get_member-close, data_of-push}
use Rattle.plan_lines.proofs.PlainSteps.{closes}

-- the rows of entries from any first row on
pub all_rows : {A : Type 0} (version : Version) (row : Data → A) (section : Section) (entries : List Data) (rows : List A) (n : ℕ) → AreRows version row section entries rows
    → rows_from version row section n entries ≡ Ok rows
all_rows version row section [] [] n are = refl
all_rows version row section [] (first ∷ rows) n are = absurd are
all_rows version row section (entry ∷ entries) [] n are = absurd are
all_rows version row section (entry ∷ entries) (first ∷ rows) n are = rw (are.0 n, all_rows version row section entries rows (n + 1) are.1) refl

-- a section of which nothing is open has an array, if it has anything, and its rows are those of the entries
part_ends : (keys : List Key) (Give : List Data → Type 0) (given : Bool) (node : Option Node) → IsPart keys Give given None node
    → (option_map_or is_array (option_map close_node node) true ≡ true) × Give (entries_in (option_map close_node node))
part_ends keys Give given None part = (refl, part.2)
part_ends keys Give given (Some (value (array found))) part = (refl, part.2)
part_ends keys Give given (Some (value (string s))) part = absurd part.2
part_ends keys Give given (Some (value (integer z))) part = absurd part.2
part_ends keys Give given (Some (value (float x))) part = absurd part.2
part_ends keys Give given (Some (value (boolean b))) part = absurd part.2
part_ends keys Give given (Some (value (datetime d))) part = absurd part.2
part_ends keys Give given (Some (value (table fields))) part = absurd part.2
part_ends keys Give given (Some (open_table origin inner)) part = absurd part
part_ends keys Give given (Some (open_array done last)) part = (refl, subst Give (sym (data_of-push done (table (close last)))) part.1)

-- the head that slots of these kinds say
head_ok : (v o e l s : Option Data) → option_map_or is_version v true ≡ true → option_map_or is_option o true ≡ true → option_map_or is_array e true ≡ true → option_map_or is_array l true ≡ true
    → option_map_or is_array s true ≡ true
    → said_by (record { section = Head; row = 0 }) (keys_of Two Head) head_said (record { values = v ∷ o ∷ e ∷ l ∷ s ∷ []; other = false }) ≡ Ok (head_said (v ∷ o ∷ e ∷ l ∷ s ∷ []))
head_ok v o e l s v_fits o_fits e_fits l_fits s_fits = rw (v_fits, o_fits, e_fits, l_fits, s_fits) refl

steps_are : (document : Members) (v o e l s : Option Data) (rows : SectionRows) → head_in document ≡ Ok (head_said (v ∷ o ∷ e ∷ l ∷ s ∷ []))
    → rows_from One element_row Elements 1 (entries_in e) ≡ Ok rows.elements → rows_from (version_in v) (link_row (version_in v)) Links 1 (entries_in l) ≡ Ok rows.links
    → rows_from One source_row Sources 1 (entries_in s) ≡ Ok rows.sources
    → document_steps document ≡ Ok (record { option = option_in o; elements = rows.elements; links = rows.links; sources = rows.sources })
steps_are document v o e l s rows head elements links sources = rw (head, elements, links, sources) refl

-- the rows of a document of which nothing is open
said_is : (read : LinesRead) (root : Nodes) (all : PlanRows) → IsSaid read root → read.current ≡ None → MakeRows read.head read.rows all → rows_of_document (close root) ≡ Ok all
said_is read root all said none (v_fits, o_fits, allows, is) =
    let document = close root in
    let slot : List ℕ → Option Data = λ key. option_map close_node (get_node key root) in
    let v = slot (codes "version") in
    let o = slot (codes "option") in
    let e = slot (codes "element") in
    let l = slot (codes "link") in
    let s = slot (codes "source") in
    let at_none : IsSaid (record { head = read.head; rows = read.rows; current = None }) root = subst (λ c. IsSaid (record { head = read.head; rows = read.rows; current = c }) root) none said in
    let elements = part_ends (keys_in kind.Element) (GiveRows kind.Element read.rows) (given_in kind.Element read.head) (get_node (codes "element") root) (at_none.part kind.Element) in
    let links = part_ends (keys_in kind.Link) (GiveRows kind.Link read.rows) (given_in kind.Link read.head) (get_node (codes "link") root) (at_none.part kind.Link) in
    let sources = part_ends (keys_in kind.Source) (GiveRows kind.Source read.rows) (given_in kind.Source read.head) (get_node (codes "source") root) (at_none.part kind.Source) in
    let fits_v : option_map_or is_version v true ≡ true = ap (λ d. option_map_or is_version d true) said.version ∙ v_fits in
    let fits_o : option_map_or is_option o true ≡ true = ap (λ d. option_map_or is_option d true) said.option ∙ o_fits in
    let slots : slots_of (keys_of Two Head) document ≡ record { values = v ∷ o ∷ e ∷ l ∷ s ∷ []; other = false } = rw (
      get_member-close (codes "version") root,
      get_member-close (codes "option") root,
      get_member-close (codes "element") root,
      get_member-close (codes "link") root,
      get_member-close (codes "source") root,
      said.only,
    ) refl in
    let head : head_in document ≡ Ok (head_said (v ∷ o ∷ e ∷ l ∷ s ∷ []))
    = ap (said_by (record { section = Head; row = 0 }) (keys_of Two Head) head_said) slots ∙ head_ok v o e l s fits_v fits_o elements.0 links.0 sources.0 in
    let version : version_in v ≡ version_in (seen read.head.version) = ap version_in said.version in
    let link_rows : AreRows (version_in v) (link_row (version_in v)) Links (entries_in l) read.rows.links
    = subst (λ n. AreRows n (link_row n) Links (entries_in l) read.rows.links) (sym version) (links.1 (version_in (seen read.head.version)) allows) in
    document_is document
    ∙ steps_are document v o e l s read.rows head (all_rows One element_row Elements (entries_in e) read.rows.elements 1 elements.1) (all_rows (version_in v) (link_row (version_in v)) Links (entries_in l) read.rows.links 1 link_rows)
    (all_rows One source_row Sources (entries_in s) read.rows.sources 1 sources.1)
    ∙ rw (said.option, is) refl

pub finish_is : (read closed : LinesRead) (doc : Document) (all : PlanRows) → Follows read doc → Closes read closed → MakeRows closed.head closed.rows all → rows_of_document (close doc.0) ≡ Ok all
finish_is read closed doc all follows is makes =
    let (said, none, head) = closes read closed doc.0 is follows.said in
    said_is closed doc.0 all said none makes
