-- What is put one after another is the text.
use Rattle.std.proofs.Common.{◌≡◌, ℕ, ◌+◌, ◌==◌, zero, suc, pos, false, List, [], ◌∷◌, ◌++◌, length, map, take, codes, Option, Some, None, slice_get, refl, sym, ap, ◌∙◌, arith, append_assoc, append-nil}
use Rattle.std.specs.Prelude.{if◌then◌else◌}
use Rattle.std.specs.List.{concat}
use Rattle.std.proofs.lemmas.Bool.Decides.{nat_tests}
use Rattle.std.proofs.lemmas.Option.{none-some, same_Some}
use Rattle.std.proofs.lemmas.List.Folds.{concat-append}
use Rattle.toml.specs.Data.{Data, string, integer, array, no_items, Members, no_members, member}
use Rattle.sync_ql.specs.declared.levels.Level.{Level}
use Rattle.sync_topo.specs.Topology.{Topology}
use Rattle.plan_file.specs.Writing.{option_name, with_floor, with_bundle, names_bundle, with_version}
use Rattle.plan_file.specs.Spelling.{field_text, fields_text, header_text, row_text, rows_text, with_none, head_fields}

-- a text put, and then what follows it
put_more : (old before after this rest : List ℕ) → before ≡ old ++ this → after ≡ before ++ rest → after ≡ old ++ (this ++ rest)
put_more old before after this rest first second = second ∙ ap (λ t. t ++ rest) first ∙ append_assoc old this rest

-- a line put, and then the lines of the other keys; and no more lines
field_put : (key : List ℕ) (value : Data) (rest : Members) (old before after : List ℕ) → before ≡ old ++ field_text key value → after ≡ before ++ fields_text rest
    → after ≡ old ++ fields_text (member key value rest)
field_put key value rest old before after first second = put_more old before after (field_text key value) (fields_text rest) first second

last_put : (key : List ℕ) (value : Data) (old after : List ℕ) → after ≡ old ++ field_text key value → after ≡ old ++ fields_text (member key value no_members)
last_put key value old after only = only ∙ ap (λ t. old ++ t) (sym (append-nil (field_text key value)))

-- lines that may be there, before others
floor_first : (floor : Option Level) (rest : Members) → fields_text (with_floor floor no_members) ++ fields_text rest ≡ fields_text (with_floor floor rest)
floor_first None rest = refl
floor_first (Some floor) rest = first_of (codes "floor") (string _) rest
  where
    first_of : (key : List ℕ) (value : Data) (rest : Members) → fields_text (member key value no_members) ++ fields_text rest ≡ fields_text (member key value rest)
    first_of key value rest = ap (λ t. t ++ fields_text rest) (append-nil (field_text key value))

bundle_first : (bundle : Option (List ℕ)) (rest : Members) → fields_text (with_bundle bundle no_members) ++ fields_text rest ≡ fields_text (with_bundle bundle rest)
bundle_first None rest = refl
bundle_first (Some bundle) rest = first_of (codes "bundle") (string bundle) rest
  where
    first_of : (key : List ℕ) (value : Data) (rest : Members) → fields_text (member key value no_members) ++ fields_text rest ≡ fields_text (member key value rest)
    first_of key value rest = ap (λ t. t ++ fields_text rest) (append-nil (field_text key value))

some_are_not_none : (n : ℕ) → (suc n == 0) ≡ false
some_are_not_none n = grind (arith, nat_tests)

none_first : {A : Type 0} (key : List ℕ) (items : List A) (rest : Members) (count : ℕ) → count ≡ length items
    → (if count == 0 then field_text key (array no_items) else []) ++ fields_text rest ≡ fields_text (with_none key items rest)
none_first key [] rest count is = rw is refl
none_first key (x ∷ xs) rest count is = rw (is, some_are_not_none (length xs)) refl

-- ---- the tables

pub element_put : (floor : Option Level) (holdoff wtr : ℕ) (name own old t0 t1 t2 t3 t4 t5 : List ℕ)
    → t0 ≡ old ++ header_text (codes "element")
    → t1 ≡ t0 ++ fields_text (with_floor floor no_members)
    → t2 ≡ t1 ++ field_text (codes "holdoff") (integer (pos holdoff))
    → t3 ≡ t2 ++ field_text (codes "name") (string name)
    → t4 ≡ t3 ++ field_text (codes "own") (string own)
    → t5 ≡ t4 ++ field_text (codes "wtr") (integer (pos wtr))
    → t5 ≡ old ++ row_text (codes "element") (with_floor floor
    (member (codes "holdoff") (integer (pos holdoff)) (member (codes "name") (string name) (member (codes "own") (string own) (member (codes "wtr") (integer (pos wtr)) no_members)))))
element_put floor holdoff wtr name own old t0 t1 t2 t3 t4 t5 e0 e1 e2 e3 e4 e5 =
    let m5 : Members = member (codes "wtr") (integer (pos wtr)) no_members in
    let m4 : Members = member (codes "own") (string own) m5 in
    let m3 : Members = member (codes "name") (string name) m4 in
    let m2 : Members = member (codes "holdoff") (integer (pos holdoff)) m3 in
    let r5 = last_put (codes "wtr") (integer (pos wtr)) t4 t5 e5 in
    let r4 = field_put (codes "own") (string own) m5 t3 t4 t5 e4 r5 in
    let r3 = field_put (codes "name") (string name) m4 t2 t3 t5 e3 r4 in
    let r2 = field_put (codes "holdoff") (integer (pos holdoff)) m3 t1 t2 t5 e2 r3 in
    let r1 = put_more t0 t1 t5 (fields_text (with_floor floor no_members)) (fields_text m2) e1 r2 ∙ ap (λ t. t0 ++ t) (floor_first floor m2) in
    put_more old t0 t5 (header_text (codes "element")) (fields_text (with_floor floor m2)) e0 r1

pub link_put : (bundle : Option (List ℕ)) (delay_a delay_b priority_a priority_b : ℕ) (a b name old t0 t1 t2 t3 t4 t5 t6 t7 t8 : List ℕ)
    → t0 ≡ old ++ header_text (codes "link")
    → t1 ≡ t0 ++ field_text (codes "a") (string a)
    → t2 ≡ t1 ++ field_text (codes "b") (string b)
    → t3 ≡ t2 ++ fields_text (with_bundle bundle no_members)
    → t4 ≡ t3 ++ field_text (codes "delay_a") (integer (pos delay_a))
    → t5 ≡ t4 ++ field_text (codes "delay_b") (integer (pos delay_b))
    → t6 ≡ t5 ++ field_text (codes "name") (string name)
    → t7 ≡ t6 ++ field_text (codes "priority_a") (integer (pos priority_a))
    → t8 ≡ t7 ++ field_text (codes "priority_b") (integer (pos priority_b))
    → t8 ≡ old ++ row_text (codes "link") (member (codes "a") (string a) (member (codes "b") (string b) (with_bundle bundle
    (member (codes "delay_a") (integer (pos delay_a)) (member (codes "delay_b") (integer (pos delay_b)) (member (codes "name") (string name)
    (member (codes "priority_a") (integer (pos priority_a)) (member (codes "priority_b") (integer (pos priority_b)) no_members))))))))
link_put bundle delay_a delay_b priority_a priority_b a b name old t0 t1 t2 t3 t4 t5 t6 t7 t8 e0 e1 e2 e3 e4 e5 e6 e7 e8 =
    let m8 : Members = member (codes "priority_b") (integer (pos priority_b)) no_members in
    let m7 : Members = member (codes "priority_a") (integer (pos priority_a)) m8 in
    let m6 : Members = member (codes "name") (string name) m7 in
    let m5 : Members = member (codes "delay_b") (integer (pos delay_b)) m6 in
    let m4 : Members = member (codes "delay_a") (integer (pos delay_a)) m5 in
    let m3 : Members = with_bundle bundle m4 in
    let m2 : Members = member (codes "b") (string b) m3 in
    let m1 : Members = member (codes "a") (string a) m2 in
    let r8 = last_put (codes "priority_b") (integer (pos priority_b)) t7 t8 e8 in
    let r7 = field_put (codes "priority_a") (integer (pos priority_a)) m8 t6 t7 t8 e7 r8 in
    let r6 = field_put (codes "name") (string name) m7 t5 t6 t8 e6 r7 in
    let r5 = field_put (codes "delay_b") (integer (pos delay_b)) m6 t4 t5 t8 e5 r6 in
    let r4 = field_put (codes "delay_a") (integer (pos delay_a)) m5 t3 t4 t8 e4 r5 in
    let r3 = put_more t2 t3 t8 (fields_text (with_bundle bundle no_members)) (fields_text m4) e3 r4 ∙ ap (λ t. t2 ++ t) (bundle_first bundle m4) in
    let r2 = field_put (codes "b") (string b) m3 t1 t2 t8 e2 r3 in
    let r1 = field_put (codes "a") (string a) m2 t0 t1 t8 e1 r2 in
    put_more old t0 t8 (header_text (codes "link")) (fields_text m1) e0 r1

pub source_put : (priority : ℕ) (at level name old t0 t1 t2 t3 t4 : List ℕ)
    → t0 ≡ old ++ header_text (codes "source")
    → t1 ≡ t0 ++ field_text (codes "at") (string at)
    → t2 ≡ t1 ++ field_text (codes "level") (string level)
    → t3 ≡ t2 ++ field_text (codes "name") (string name)
    → t4 ≡ t3 ++ field_text (codes "priority") (integer (pos priority))
    → t4 ≡ old ++ row_text (codes "source") (member (codes "at") (string at) (member (codes "level") (string level) (member (codes "name") (string name) (member (codes "priority") (integer (pos priority)) no_members))))
source_put priority at level name old t0 t1 t2 t3 t4 e0 e1 e2 e3 e4 =
    let m4 : Members = member (codes "priority") (integer (pos priority)) no_members in
    let m3 : Members = member (codes "name") (string name) m4 in
    let m2 : Members = member (codes "level") (string level) m3 in
    let m1 : Members = member (codes "at") (string at) m2 in
    let r4 = last_put (codes "priority") (integer (pos priority)) t3 t4 e4 in
    let r3 = field_put (codes "name") (string name) m4 t2 t3 t4 e3 r4 in
    let r2 = field_put (codes "level") (string level) m3 t1 t2 t4 e2 r3 in
    let r1 = field_put (codes "at") (string at) m2 t0 t1 t4 e1 r2 in
    put_more old t0 t4 (header_text (codes "source")) (fields_text m1) e0 r1

-- ---- one table more

-- what a function makes of one item more
map_take_more : {A B : Type 0} (f : A → B) (items : List A) (i : ℕ) (item : A) → slice_get items i ≡ Some item → map f (take (i + 1) items) ≡ map f (take i items) ++ f item ∷ []
map_take_more f [] i item at = absurd (none-some item at)
map_take_more f (first ∷ items) zero item at = ap (λ one. f one ∷ []) (same_Some first item at)
map_take_more f (first ∷ items) (suc i) item at =
    let e : suc i + 1 ≡ suc (i + 1) = omega arith in
    rw e (ap (λ rest. f first ∷ rest) (map_take_more f items i item at))

pub row_put : {A : Type 0} (key : List ℕ) (fields : A → Members) (items : List A) (i : ℕ) (item : A) (old before after : List ℕ) → slice_get items i ≡ Some item
    → before ≡ old ++ rows_text key fields (take i items) → after ≡ before ++ row_text key (fields item) → after ≡ old ++ rows_text key fields (take (i + 1) items)
row_put {A} key fields items i item old before after at so_far this =
    let row : A → List ℕ = λ x. row_text key (fields x) in
    let joined : concat (map row (take (i + 1) items)) ≡ concat (map row (take i items)) ++ row item
    = ap concat (map_take_more row items i item at) ∙ concat-append (map row (take i items)) (row item ∷ []) ∙ ap (λ t. concat (map row (take i items)) ++ t) (append-nil (row item)) in
    put_more old before after (rows_text key fields (take i items)) (row item) so_far this ∙ ap (λ t. old ++ t) (sym joined)

-- ---- the head and the whole

pub head_put : (plan : Topology) (elements links sources : ℕ) (old t0 t1 t2 t3 t4 : List ℕ) → elements ≡ length plan.elements → links ≡ length plan.links → sources ≡ length plan.sources
    → t0 ≡ old ++ (if elements == 0 then field_text (codes "element") (array no_items) else [])
    → t1 ≡ t0 ++ (if links == 0 then field_text (codes "link") (array no_items) else [])
    → t2 ≡ t1 ++ field_text (codes "option") (string (option_name plan.option))
    → t3 ≡ t2 ++ (if sources == 0 then field_text (codes "source") (array no_items) else [])
    → t4 ≡ t3 ++ fields_text (with_version (names_bundle plan))
    → t4 ≡ old ++ fields_text (head_fields plan)
head_put plan elements links sources old t0 t1 t2 t3 t4 all_elements all_links all_sources e0 e1 e2 e3 e4 =
    let version : Members = with_version (names_bundle plan) in
    let source_end : Members = with_none (codes "source") plan.sources version in
    let option_end : Members = member (codes "option") (string (option_name plan.option)) source_end in
    let link_end : Members = with_none (codes "link") plan.links option_end in
    let r3 = put_more t2 t3 t4 (if sources == 0 then field_text (codes "source") (array no_items) else []) (fields_text version) e3 e4
    ∙ ap (λ t. t2 ++ t) (none_first (codes "source") plan.sources version sources all_sources) in
    let r2 = field_put (codes "option") (string (option_name plan.option)) source_end t1 t2 t4 e2 r3 in
    let r1 = put_more t0 t1 t4 (if links == 0 then field_text (codes "link") (array no_items) else []) (fields_text option_end) e1 r2
    ∙ ap (λ t. t0 ++ t) (none_first (codes "link") plan.links option_end links all_links) in
    put_more old t0 t4 (if elements == 0 then field_text (codes "element") (array no_items) else []) (fields_text link_end) e0 r1
    ∙ ap (λ t. old ++ t) (none_first (codes "element") plan.elements link_end elements all_elements)

pub whole_put : (head elements links sources t0 t1 t2 t3 : List ℕ) → t0 ≡ [] ++ head → t1 ≡ t0 ++ elements → t2 ≡ t1 ++ links → t3 ≡ t2 ++ sources → t3 ≡ head ++ (elements ++ (links ++ sources))
whole_put head elements links sources t0 t1 t2 t3 e0 e1 e2 e3 =
    let r2 = put_more t1 t2 t3 links sources e2 e3 in
    let r1 = put_more t0 t1 t3 elements (links ++ sources) e1 r2 in
    put_more [] t0 t3 head (elements ++ (links ++ sources)) e0 r1
