-- Rows and refusals of documents that are known from outside.
use Rattle.std.specs.Prelude.{◌≡◌, ◌∷◌, [], ℕ, List, codes, Option, Some, None, Ok, Err, pos, negsuc, option_and_then, refl}
use Rattle.std.specs.Option.{option_map}
use Rattle.std.specs.Str.{chars, is_utf8}
use Rattle.toml.proofs.OnLiterals.{toml_on_literals}
use Rattle.sync_ql.specs.declared.levels.NetOption.TheVariants.{I, II}
use Rattle.sync_topo.specs.declared.place.Section.{Section}
use Rattle.sync_topo.specs.declared.place.Section.TheVariants.{Head, Elements, Links, Sources}
use Rattle.sync_topo.specs.declared.place.Place.{Place}
use Rattle.sync_topo.specs.declared.error.PlanErr.TheVariants.{NoElement}
use Rattle.sync_topo.specs.declared.element.Element.{Element}
use Rattle.sync_topo.specs.RowValues.{default_own}
use Rattle.sync_topo.specs.PlanRows.{plan_of_rows}
use Rattle.plan_rows.specs.declared.error.PlanFileErr.{PlanFileErr}
use Rattle.plan_rows.specs.declared.error.PlanFileErr.TheVariants.{Syntax, Key, Kind, Plan}
use Rattle.plan_rows.specs.Rules.{refusal_of}
use Rattle.plan_rows.specs.Rows.{element_row, link_row, source_row, said_rows, rows_of_document}
use Rattle.plan_rows.specs.private.Rows.{first_refusal}
use Rattle.sync_topo.specs.declared.sizes.Size.TheVariants.{Standard}
use Rattle.plan_file.specs.PlanText.{document_of, plan_of_size}
use Rattle.plan_file.specs.Spelling.{plan_text}
use Rattle.std.specs.Fmt.{digits}
use Rattle.std.proofs.Common.{lit<}
use native.Mathlib.Decide.{dec_lt}

-- the first table of a text's document that is at fault
abbrev first_fault : List ℕ → Option PlanFileErr
first_fault text = option_and_then first_refusal (document_of text)

abbrev at : Section → ℕ → Place
at section row = record { section = section; row = row }

pub open_text_is_no_document : plan_of_size Standard (codes "a='") ≡ Err Syntax
unfolding toml_on_literals is_utf8 chars plan_of_size
open_text_is_no_document = refl

pub unknown_key_comes_before_a_wrong_kind : first_fault (codes "version=2\ncolor=1") ≡ Some (Key (at Head 0))
unfolding toml_on_literals is_utf8 chars refusal_of
unknown_key_comes_before_a_wrong_kind = refl

pub other_version_is_of_the_wrong_kind : first_fault (codes "version=3\nelement=[1]") ≡ Some (Kind (at Head 0))
unfolding toml_on_literals is_utf8 chars refusal_of
other_version_is_of_the_wrong_kind = refl

pub bundle_is_a_key_of_version_two : first_fault (codes "version=2\nlink=[{name='L',a='A',b='B',bundle='T'}]") ≡ None
unfolding toml_on_literals is_utf8 chars refusal_of
bundle_is_a_key_of_version_two = refl

pub bundle_is_unknown_in_version_one : first_fault (codes "version=1\nlink=[{name='L',a='A',b='B',bundle='T'}]") ≡ Some (Key (at Links 1))
unfolding toml_on_literals is_utf8 chars refusal_of
bundle_is_unknown_in_version_one = refl

pub bundle_is_unknown_without_a_version : first_fault (codes "link=[{name='L',a='A',b='B',bundle='T'}]") ≡ Some (Key (at Links 1))
unfolding toml_on_literals is_utf8 chars refusal_of
bundle_is_unknown_without_a_version = refl

pub missing_key_is_told_at_its_row : first_fault (codes "element=[{name='A'},{}]\nlink=[1]") ≡ Some (Key (at Elements 2))
unfolding toml_on_literals is_utf8 chars refusal_of
missing_key_is_told_at_its_row = refl

pub element_comes_before_a_link : first_fault (codes "link=[{x=1}]\nelement=[{name='A',wtr='5'}]") ≡ Some (Kind (at Elements 1))
unfolding toml_on_literals is_utf8 chars refusal_of
element_comes_before_a_link = refl

pub source_without_a_level : first_fault (codes "source=[{name='S',at='A'}]") ≡ Some (Key (at Sources 1))
unfolding toml_on_literals is_utf8 chars refusal_of
source_without_a_level = refl

pub link_has_its_bundle : option_map said_rows (document_of (codes "version=2\nlink=[{name='L',a='A',b='B',bundle='T'}]"))
    ≡ Some (record {
      option = I;
      elements = [];
      links = record { name = codes "L"; a = codes "A"; b = codes "B"; priority_a = None; priority_b = None; delay_a = None; delay_b = None; bundle = Some (codes "T") } ∷ [];
      sources = [];
    })
unfolding toml_on_literals is_utf8 chars link_row
link_has_its_bundle = refl

pub no_bytes_say_no_rows : option_map said_rows (document_of []) ≡ Some (record { option = I; elements = []; links = []; sources = [] })
unfolding toml_on_literals is_utf8 chars
no_bytes_say_no_rows = refl

pub each_key_has_its_field : option_map said_rows (document_of (codes "option='II'\nlink=[{name='L',a='A',b='B',priority_b=2,delay_a=-3}]\nsource=[{name='S',at='A',level='QL-PRS'}]"))
    ≡ Some (record {
      option = II;
      elements = [];
      links = record { name = codes "L"; a = codes "A"; b = codes "B"; priority_a = None; priority_b = Some (pos 2); delay_a = Some (negsuc 2); delay_b = None; bundle = None } ∷ [];
      sources = record { name = codes "S"; at = codes "A"; level = codes "QL-PRS"; priority = None } ∷ [];
    })
unfolding toml_on_literals is_utf8 chars link_row source_row
each_key_has_its_field = refl

-- an element of option I of which a plan says the name alone
abbrev plain_element : List ℕ → Element
plain_element name = record { name = name; own = default_own I; floor = None; holdoff = 300; wtr = 300000 }

pub no_bytes_are_the_empty_plan : plan_of_size Standard [] ≡ Ok (record { option = I; elements = []; links = []; sources = [] })
unfolding toml_on_literals is_utf8 chars refusal_of rows_of_document plan_of_size plan_of_rows
no_bytes_are_the_empty_plan = refl

pub delay_a_is_of_the_line_into_a : plan_of_size Standard (codes "element=[{name='A'},{name='B'}]\nlink=[{name='L',a='A',b='B',priority_b=1,delay_a=7}]")
    ≡ Ok (record {
      option = I;
      elements = plain_element (codes "A") ∷ plain_element (codes "B") ∷ [];
      links = record { name = codes "L"; a = 0; b = 1; priority_a = 0; priority_b = 1; delay_a = 7; delay_b = 1; bundle = None } ∷ [];
      sources = [];
    })
unfolding toml_on_literals is_utf8 chars refusal_of element_row link_row rows_of_document plan_of_size plan_of_rows
delay_a_is_of_the_line_into_a = refl

pub link_to_no_element_is_a_refusal_of_the_rows : plan_of_size Standard (codes "element=[{name='A'}]\nlink=[{name='L',a='A',b='B'}]") ≡ Err (Plan (NoElement (at Links 1)))
unfolding toml_on_literals is_utf8 chars refusal_of element_row link_row rows_of_document plan_of_size plan_of_rows
link_to_no_element_is_a_refusal_of_the_rows = refl

-- a text that is written, worked out by hand
pub text_of_a_plan_with_a_bundle : plan_text (record {
  option = I;
  elements = plain_element (codes "A") ∷ record (plain_element (codes "B")) { floor = Some (record { option = I; place = 3; is_row = lit< tt }) } ∷ [];
  links = record { name = codes "L"; a = 0; b = 1; priority_a = 0; priority_b = 12; delay_a = 7; delay_b = 1; bundle = Some (codes "T") } ∷ [];
  sources = [];
})
    ≡ codes "option = \"I\"\nsource = []\nversion = 2\n\n[[element]]\nholdoff = 300\nname = \"A\"\nown = \"QL-SEC\"\nwtr = 5\n\n[[element]]\nfloor = \"QL-PRC\"\nholdoff = 300\nname = \"B\"\nown = \"QL-SEC\"\nwtr = 5\n\n[[link]]\na = \"A\"\nb = \"B\"\nbundle = \"T\"\ndelay_a = 7\ndelay_b = 1\nname = \"L\"\npriority_a = 0\npriority_b = 12\n"
unfolding plan_text digits dec_lt
text_of_a_plan_with_a_bundle = refl

pub text_of_the_empty_plan : plan_text (record { option = II; elements = []; links = []; sources = [] }) ≡ codes "element = []\nlink = []\noption = \"II\"\nsource = []\n"
unfolding plan_text
text_of_the_empty_plan = refl
