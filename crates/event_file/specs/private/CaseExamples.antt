-- Rows of case files, read by hand.
use Rattle.std.specs.Prelude.{◌≡◌, ℕ, List, ◌∷◌, [], codes, Some, Ok, Err, refl}
use Rattle.sync_topo.specs.declared.event.Case.{Case}
use Rattle.sync_topo.specs.declared.event.Event.{Event}
use Rattle.sync_topo.specs.declared.event.Part.TheVariants as part
use Rattle.sync_topo.specs.declared.event.What.TheVariants as what
use Rattle.sync_topo.specs.private.Examples.{twin}
use Rattle.sync_topo.specs.Sizes.{size_of, event_limit}
use Rattle.sync_text.specs.Number.{number_of}
use Rattle.event_file.specs.declared.error.EventErr.TheVariants as refusal
use Rattle.event_file.specs.Rows.{Fields, row_refusal}
use Rattle.event_file.specs.CaseRows.{case_refusal}
use Rattle.event_file.specs.CaseText.{cases_of_rows, cases_of_records}

-- the first link goes down in a millisecond: a row of a case, or a common one
abbrev down : List ℕ → List ℕ → Fields
down name at = name ∷ at ∷ codes "down" ∷ codes "L1" ∷ [] ∷ []

abbrev down_at : ℕ → Event
down_at at = record { at = at; what = what.Down (part.Link 0) }

abbrev case_with : List Event → Case
case_with events = record { events = events }

abbrev header : Fields
header = codes "case" ∷ codes "at" ∷ codes "what" ∷ codes "target" ∷ codes "value" ∷ []

-- each case begins anew: its first event may be before that of the row before
pub times_are_those_of_one_case
    : cases_of_records twin (header ∷ down [] (codes "7") ∷ down [] (codes "9") ∷ down (codes "one") (codes "5") ∷ down (codes "one") (codes "5") ∷ down (codes "two") (codes "4") ∷ [])
    ≡ Ok (record {
      common = down_at 7 ∷ down_at 9 ∷ [];
      names = codes "one" ∷ codes "two" ∷ [];
      cases = case_with (down_at 5 ∷ down_at 5 ∷ []) ∷ case_with (down_at 4 ∷ []) ∷ [];
    })
unfolding case_refusal row_refusal number_of event_limit size_of
times_are_those_of_one_case = refl

pub no_rows_are_no_cases : cases_of_records twin (header ∷ []) ≡ Ok (record { common = []; names = []; cases = [] })
no_rows_are_no_cases = refl

pub common_rows_alone_are_no_case : cases_of_rows twin (down [] (codes "7") ∷ []) ≡ Ok (record { common = down_at 7 ∷ []; names = []; cases = [] })
unfolding case_refusal row_refusal number_of event_limit size_of
common_rows_alone_are_no_case = refl

-- 26
pub no_records_have_no_header : cases_of_records twin [] ≡ Err refusal.Header
no_records_have_no_header = refl

pub header_of_events_is_none : cases_of_records twin ((codes "at" ∷ codes "what" ∷ codes "target" ∷ codes "value" ∷ []) ∷ []) ≡ Err refusal.Header
header_of_events_is_none = refl

-- 33, whatever the row holds
pub one_row_too_many : case_refusal twin [] 100001 [] ≡ Some refusal.Limit
unfolding case_refusal event_limit size_of
one_row_too_many = refl

-- 27 comes before the name is looked at
pub row_of_an_event_file_is_none : cases_of_rows twin ((codes "10" ∷ codes "down" ∷ codes "L1" ∷ [] ∷ []) ∷ []) ≡ Err (refusal.Fields 1)
unfolding case_refusal event_limit size_of
row_of_an_event_file_is_none = refl

pub row_of_six_fields_is_none : cases_of_rows twin ((codes "a b" ∷ codes "10" ∷ codes "down" ∷ codes "L1" ∷ [] ∷ [] ∷ []) ∷ []) ≡ Err (refusal.Fields 1)
unfolding case_refusal event_limit size_of
row_of_six_fields_is_none = refl

-- 51 comes before the time is looked at
pub case_has_a_name_of_the_plans_form : cases_of_rows twin (down [] (codes "7") ∷ down (codes "a b") (codes "x") ∷ []) ≡ Err (refusal.Name 2)
unfolding case_refusal row_refusal number_of event_limit size_of
case_has_a_name_of_the_plans_form = refl

pub common_rows_come_first : cases_of_rows twin (down (codes "one") (codes "7") ∷ down [] (codes "8") ∷ []) ≡ Err (refusal.Name 2)
unfolding case_refusal row_refusal number_of event_limit size_of
common_rows_come_first = refl

-- 52 comes before the time is looked at, and an earlier row before a later one
pub rows_of_a_case_stand_together
    : cases_of_rows twin (down (codes "one") (codes "7") ∷ down (codes "two") (codes "7") ∷ down (codes "one") (codes "x") ∷ down [] (codes "8") ∷ []) ≡ Err (refusal.Apart 3)
unfolding case_refusal row_refusal number_of event_limit size_of
rows_of_a_case_stand_together = refl

-- 28 to 32
pub time_is_a_millisecond : cases_of_rows twin (down (codes "one") (codes "86400001") ∷ []) ≡ Err (refusal.Time 1)
unfolding case_refusal row_refusal number_of event_limit size_of
time_is_a_millisecond = refl

pub time_of_common_rows_may_not_fall : cases_of_rows twin (down [] (codes "7") ∷ down [] (codes "6") ∷ []) ≡ Err (refusal.Order 2)
unfolding case_refusal row_refusal number_of event_limit size_of
time_of_common_rows_may_not_fall = refl

pub time_of_a_case_may_not_fall : cases_of_rows twin (down [] (codes "9") ∷ down (codes "one") (codes "7") ∷ down (codes "one") (codes "6") ∷ []) ≡ Err (refusal.Order 3)
unfolding case_refusal row_refusal number_of event_limit size_of
time_of_a_case_may_not_fall = refl

pub word_is_one_of_the_format : cases_of_rows twin ((codes "one" ∷ codes "7" ∷ codes "jump" ∷ codes "L9" ∷ [] ∷ []) ∷ []) ≡ Err (refusal.What 1)
unfolding case_refusal row_refusal number_of event_limit size_of
word_is_one_of_the_format = refl

pub target_is_of_the_plan : cases_of_rows twin ((codes "one" ∷ codes "7" ∷ codes "down" ∷ codes "L9" ∷ codes "x" ∷ []) ∷ []) ≡ Err (refusal.Target 1)
unfolding case_refusal row_refusal number_of event_limit size_of
target_is_of_the_plan = refl

pub value_is_empty_but_for_a_level : cases_of_rows twin ((codes "one" ∷ codes "7" ∷ codes "down" ∷ codes "L1" ∷ codes "x" ∷ []) ∷ []) ≡ Err (refusal.Value 1)
unfolding case_refusal row_refusal number_of event_limit size_of
value_is_empty_but_for_a_level = refl
