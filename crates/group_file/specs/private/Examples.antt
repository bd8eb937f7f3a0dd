-- Rows of group files, read by hand.
use Rattle.std.specs.Prelude.{◌≡◌, ℕ, List, ◌∷◌, [], codes, Some, Ok, Err, refl}
use Rattle.sync_topo.specs.private.Examples.{twin}
use Rattle.sync_topo.specs.Sizes.{size_of, event_limit}
use Rattle.event_file.specs.Rows.{Fields}
use Rattle.reach_rules.specs.declared.group.Group.{Group}
use Rattle.group_file.specs.declared.error.GroupErr.TheVariants as refusal
use Rattle.group_file.specs.Rows.{row_refusal}
use Rattle.group_file.specs.GroupText.{groups_of_rows, groups_of_records}

abbrev header : Fields
header = codes "group" ∷ codes "kind" ∷ codes "part" ∷ []

pub no_rows_are_no_groups : groups_of_records twin (header ∷ []) ≡ Ok []
no_rows_are_no_groups = refl

-- 26
pub no_records_have_no_header : groups_of_records twin [] ≡ Err refusal.Header
no_records_have_no_header = refl

-- 33, whatever the row holds
pub one_row_too_many : row_refusal twin [] 100001 [] ≡ Some refusal.Limit
unfolding row_refusal event_limit size_of
one_row_too_many = refl

-- 27 comes before the name is looked at
pub row_of_two_fields_is_none : groups_of_rows twin ((codes "9 9" ∷ codes "link" ∷ []) ∷ []) ≡ Err (refusal.Fields 1)
unfolding row_refusal event_limit size_of
row_of_two_fields_is_none = refl

-- a row of a group
abbrev row : List ℕ → List ℕ → List ℕ → Fields
row group kind part = group ∷ kind ∷ part ∷ []

abbrev group_of_parts : List ℕ → List ℕ → List ℕ → List ℕ → Group
group_of_parts name links sources elements = record { name = name; links = links; sources = sources; elements = elements }

-- parts of each kind in their order, and a part of another group; a group may have the name of a link
pub parts_are_sorted_by_kind
    : groups_of_records twin
    (header ∷ row (codes "L1") (codes "link") (codes "L2") ∷ row (codes "L1") (codes "element") (codes "B") ∷ row (codes "L1") (codes "link") (codes "L1")
    ∷ row (codes "D") (codes "link") (codes "L2") ∷ row (codes "D") (codes "source") (codes "S") ∷ [])
    ≡ Ok (group_of_parts (codes "L1") (1 ∷ 0 ∷ []) [] (1 ∷ []) ∷ group_of_parts (codes "D") (1 ∷ []) (0 ∷ []) [] ∷ [])
unfolding row_refusal event_limit size_of
parts_are_sorted_by_kind = refl

-- 51 comes before the kind is looked at
pub group_has_a_name_of_the_plans_form : groups_of_rows twin (row (codes "a b") (codes "x") (codes "x") ∷ []) ≡ Err (refusal.Name 1)
unfolding row_refusal event_limit size_of
group_has_a_name_of_the_plans_form = refl

pub group_without_a_name_is_none : groups_of_rows twin (row [] (codes "link") (codes "L1") ∷ []) ≡ Err (refusal.Name 1)
unfolding row_refusal event_limit size_of
group_without_a_name_is_none = refl

-- 52 comes before the kind is looked at, and an earlier row before a later one
pub rows_of_a_group_stand_together
    : groups_of_rows twin
    (row (codes "D") (codes "link") (codes "L1") ∷ row (codes "E") (codes "link") (codes "L1") ∷ row (codes "D") (codes "x") (codes "L2") ∷ row (codes "a b") (codes "x") [] ∷ [])
    ≡ Err (refusal.Apart 3)
unfolding row_refusal event_limit size_of
rows_of_a_group_stand_together = refl

-- 53 comes before the part is looked at
pub kind_is_one_of_three_words : groups_of_rows twin (row (codes "D") (codes "line") (codes "L9") ∷ []) ≡ Err (refusal.Kind 1)
unfolding row_refusal event_limit size_of
kind_is_one_of_three_words = refl

-- 31
pub part_is_of_its_kind : groups_of_rows twin (row (codes "D") (codes "source") (codes "L1") ∷ []) ≡ Err (refusal.Part 1)
unfolding row_refusal event_limit size_of
part_is_of_its_kind = refl

pub part_stands_once_in_a_group
    : groups_of_rows twin (row (codes "D") (codes "link") (codes "L1") ∷ row (codes "D") (codes "link") (codes "L2") ∷ row (codes "D") (codes "link") (codes "L1") ∷ [])
    ≡ Err (refusal.Part 3)
unfolding row_refusal event_limit size_of
part_stands_once_in_a_group = refl
