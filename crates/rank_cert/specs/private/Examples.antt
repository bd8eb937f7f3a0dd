-- Certificates on a chain of three elements, read by hand.
use Rattle.std.specs.Prelude.{◌≡◌, ℕ, List, ◌∷◌, [], codes, Some, None, Ok, Err, refl}
use Rattle.sync_text.specs.Number.{number_of}
use Rattle.sync_ql.specs.declared.levels.NetOption.TheVariants.{I}
use Rattle.sync_topo.specs.declared.element.Element.{Element}
use Rattle.sync_topo.specs.RowValues.{element_from}
use Rattle.sync_topo.specs.Topology.{Topology}
use Rattle.rank_cert.specs.declared.error.CertErr.TheVariants.{Header, Row, Line, Twice, Missing}
use Rattle.rank_cert.specs.Rows.{Fields}
use Rattle.rank_cert.specs.CertificateText.{certificate_of_records, nominated_lines}

-- an element with the defaults of option I
abbrev element : List ℕ → Element
element name = element_from I (record { name = name; own = None; floor = None; holdoff = None; wtr = None })

-- A to B over L1, and B to C over L2, each nominated where it ends
abbrev chain : Topology
chain = record {
  option = I;
  elements = element (codes "A") ∷ element (codes "B") ∷ element (codes "C") ∷ [];
  links =
      record { name = codes "L1"; a = 0; b = 1; priority_a = 0; priority_b = 1; delay_a = 1; delay_b = 1; bundle = None }
      ∷ record { name = codes "L2"; a = 1; b = 2; priority_a = 0; priority_b = 1; delay_a = 1; delay_b = 1; bundle = None }
      ∷ [];
  sources = [];
}

abbrev header : Fields
header = codes "line" ∷ codes "rank" ∷ []

pub rows_in_any_order : certificate_of_records chain (header ∷ (codes "L2>C" ∷ codes "1" ∷ []) ∷ (codes "L1>B" ∷ codes "0" ∷ []) ∷ []) ≡ Ok (Some 0 ∷ None ∷ Some 1 ∷ None ∷ [])
unfolding number_of certificate_of_records
rows_in_any_order = refl

pub no_records_have_no_header : certificate_of_records chain [] ≡ Err Header
unfolding certificate_of_records
no_records_have_no_header = refl

pub lowest_line_without_a_row_is_missing : certificate_of_records chain (header ∷ []) ≡ Err (Missing (record { 0 = 0 }))
unfolding certificate_of_records
lowest_line_without_a_row_is_missing = refl

pub row_of_one_field_is_no_row : certificate_of_records chain (header ∷ (codes "L1>B" ∷ codes "0" ∷ []) ∷ (codes "L2>C" ∷ []) ∷ []) ≡ Err (Row 2)
unfolding number_of certificate_of_records
row_of_one_field_is_no_row = refl

pub line_that_is_not_nominated_has_no_row : certificate_of_records chain (header ∷ (codes "L1>A" ∷ codes "0" ∷ []) ∷ []) ≡ Err (Line 1)
unfolding number_of certificate_of_records
line_that_is_not_nominated_has_no_row = refl

pub line_stands_once : certificate_of_records chain (header ∷ (codes "L1>B" ∷ codes "0" ∷ []) ∷ (codes "L1>B" ∷ codes "0" ∷ []) ∷ []) ≡ Err (Twice 2)
unfolding number_of certificate_of_records
line_stands_once = refl

-- of two faults of one row the number is looked at first, and an earlier row before a later one
pub number_comes_before_the_line : certificate_of_records chain (header ∷ (codes "L9>C" ∷ codes "01" ∷ []) ∷ (codes "L9>C" ∷ codes "1" ∷ []) ∷ []) ≡ Err (Row 1)
unfolding number_of certificate_of_records
number_comes_before_the_line = refl

pub nominated_lines_in_order : nominated_lines chain ≡ 0 ∷ 2 ∷ []
nominated_lines_in_order = refl
