-- The text that is written for a plan, letter by letter. This project's own, spelled as the crate `toml` spells the plan's document.
use Rattle.std.specs.Prelude.{ℕ, ◌+◌, ◌*◌, List, [], ◌∷◌, ◌++◌, length, map, codes}
use Rattle.std.specs.List.{concat}
use Rattle.std.specs.Fmt.{signed_decimal}
use Rattle.toml.specs.Data.{Data, string, integer, array, no_items, Members, no_members, member}
use Rattle.sync_topo.specs.Topology.{Topology}
use Rattle.plan_file.specs.Writing.{option_name, element_table, link_table, source_table, names_bundle, with_version}

-- a value and the end of its line: a name between quotes, a number in digits, or an array without items
abbrev pub value_text : Data → List ℕ
value_text (string name) = codes "\"" ++ (name ++ codes "\"\n")
value_text (integer number) = signed_decimal number ++ codes "\n"
value_text _ = codes "[]\n"

-- the line of a key
abbrev pub field_text : List ℕ → Data → List ℕ
field_text key value = key ++ (codes " = " ++ value_text value)

-- the lines of a table's keys
abbrev pub fields_text : Members → List ℕ
fields_text no_members = []
fields_text (member key value rest) = field_text key value ++ fields_text rest

-- a table of a section: an empty line, the section's key in brackets, and the lines of the table's keys
abbrev pub header_text : List ℕ → List ℕ
header_text key = codes "\n[[" ++ (key ++ codes "]]\n")

abbrev pub row_text : List ℕ → Members → List ℕ
row_text key fields = header_text key ++ fields_text fields

-- the tables of a section, one for each item
abbrev pub rows_text : {A : Type 0} → List ℕ → (A → Members) → List A → List ℕ
rows_text key fields items = concat (map (λ item. row_text key (fields item)) items)

-- an array without items stands at the key of a section that has none
abbrev pub with_none : {A : Type 0} → List ℕ → List A → Members → Members
with_none key [] rest = member key (array no_items) rest
with_none key (item ∷ items) rest = rest

-- the keys of the head: of the sections without tables, the option, and the second version where a link names a bundle
abbrev pub head_fields : Topology → Members
head_fields plan =
    with_none (codes "element") plan.elements
    (with_none (codes "link") plan.links
    (member (codes "option") (string (option_name plan.option))
    (with_none (codes "source") plan.sources (with_version (names_bundle plan)))))

-- the text: the lines of the head, and the tables of elements, links and sources in the order of the plan
unfoldable pub plan_text : Topology → List ℕ
plan_text plan =
    fields_text (head_fields plan)
    ++ (rows_text (codes "element") element_table plan.elements
    ++ (rows_text (codes "link") (link_table plan) plan.links
    ++ rows_text (codes "source") (source_table plan) plan.sources))

-- the most bytes of a key's line: a key and a name have at most 32, and there are six more
abbrev pub field_size : ℕ
field_size = 70

-- the most bytes of a table with so many keys: a header has at most 38
abbrev pub row_size : ℕ → ℕ
row_size count = 38 + count * field_size

-- the most bytes of the plan's text: the head has at most five keys, and the tables of elements, links and sources five, eight and four
abbrev pub plan_size : Topology → ℕ
plan_size plan = 5 * field_size + (length plan.elements * row_size 5 + (length plan.links * row_size 8 + length plan.sources * row_size 4))
