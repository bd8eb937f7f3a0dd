-- What is put row by row is the text of the ladder.
use Rattle.std.proofs.Common.{◌≡◌, ℕ, ◌+◌, ◌<◌, ◌≤◌, zero, suc, true, false, List, [], ◌∷◌, ◌++◌, map, codes, refl, sym, ap, ◌∙◌, arith, append_assoc, append-nil, inl, inr}
use Rattle.std.specs.Prelude.{◌≢◌, Bool, flat_map, is_some}
use Rattle.std.specs.Option.{option_map_or}
use Rattle.std.proofs.lemmas.Bool.{cases_Bool, true≢false}
use Rattle.std.specs.List.{concat, list_any, range_with_len}
use Rattle.std.proofs.lemmas.List.{map-append}
use Rattle.std.proofs.lemmas.List.Folds.{concat-append}
use Rattle.std.proofs.lemmas.Grind.{flat_map-append}
use Rattle.toml.specs.Data.{string, Members}
use Rattle.sync_ql.specs.declared.levels.NetOption.TheVariants.{I}
use Rattle.sync_topo.specs.declared.element.Element.{Element}
use Rattle.sync_topo.specs.declared.link.Link.{Link}
use Rattle.sync_topo.specs.Lines.{element_name}
use Rattle.plan_file.specs.Writing.{option_name, element_table, table_at, link_table, source_table}
use Rattle.plan_file.specs.Spelling.{field_text, fields_text, row_text, rows_text, head_fields, plan_text}
use Rattle.plan_gen.specs.Ladder.{numbered, ladder_element, step, rail, links_up_to, ladder_source, ladder}
use Rattle.plan_gen.specs.private.LadderText.{table_up}
use Rattle.sync_text.proofs.Ranges.{range_more}
use Rattle.plan_gen.proofs.Ranges.{range_get}
use Rattle.plan_gen.proofs.RowLaws.{map-flat_map}

-- ---- rows put one after another

rows_more : {A : Type 0} (key : List ℕ) (fields : A → Members) (items more : List A) → rows_text key fields (items ++ more) ≡ rows_text key fields items ++ rows_text key fields more
rows_more {A} key fields items more =
    let row : A → List ℕ = λ x. row_text key (fields x) in
    ap concat (map-append row items more) ∙ concat-append (map row items) (map row more)

items_put : {A : Type 0} (key : List ℕ) (fields : A → Members) (items more : List A) (old before after : List ℕ) → before ≡ old ++ rows_text key fields items
    → after ≡ before ++ rows_text key fields more → after ≡ old ++ rows_text key fields (items ++ more)
items_put key fields items more old before after so_far this =
    this ∙ ap (λ t. t ++ rows_text key fields more) so_far ∙ append_assoc old (rows_text key fields items) (rows_text key fields more)
    ∙ ap (λ t. old ++ t) (sym (rows_more key fields items more))

one_put : {A : Type 0} (key : List ℕ) (fields : A → Members) (item : A) (before after : List ℕ) → after ≡ before ++ row_text key (fields item) → after ≡ before ++ rows_text key fields (item ∷ [])
one_put key fields item before after this = this ∙ ap (λ t. before ++ t) (sym (append-nil (row_text key (fields item))))

-- ---- the loops

elements_more : (j : ℕ) → map ladder_element (range_with_len 0 (j + 1)) ≡ map ladder_element (range_with_len 0 j) ++ ladder_element j ∷ []
elements_more j = rw (range_more j) (map-append ladder_element (range_with_len 0 j) (j ∷ []))

pub element_put : (j : ℕ) (old before after : List ℕ) → before ≡ old ++ rows_text (codes "element") element_table (map ladder_element (range_with_len 0 j))
    → after ≡ before ++ row_text (codes "element") (element_table (ladder_element j))
    → after ≡ old ++ rows_text (codes "element") element_table (map ladder_element (range_with_len 0 (j + 1)))
element_put j old before after so_far this =
    rw (elements_more j) (items_put (codes "element") element_table (map ladder_element (range_with_len 0 j)) (ladder_element j ∷ []) old before after so_far
    (one_put (codes "element") element_table (ladder_element j) before after this))

links_more : (j : ℕ) → flat_map links_up_to (range_with_len 0 (j + 1)) ≡ flat_map links_up_to (range_with_len 0 j) ++ links_up_to j
links_more j = rw (range_more j, flat_map-append links_up_to (range_with_len 0 j) (j ∷ []), append-nil (links_up_to j)) refl

pub links_put : (j : ℕ) (old before after : List ℕ) → before ≡ old ++ rows_text (codes "link") table_up (flat_map links_up_to (range_with_len 0 j))
    → after ≡ before ++ rows_text (codes "link") table_up (links_up_to j)
    → after ≡ old ++ rows_text (codes "link") table_up (flat_map links_up_to (range_with_len 0 (j + 1)))
links_put j old before after so_far this =
    rw (links_more j) (items_put (codes "link") table_up (flat_map links_up_to (range_with_len 0 j)) (links_up_to j) old before after so_far this)

-- ---- the links up to one element

pub one_up : (j : ℕ) (old after : List ℕ) → j ≡ 1 → after ≡ old ++ row_text (codes "link") (table_up (step j)) → after ≡ old ++ rows_text (codes "link") table_up (links_up_to j)
one_up zero old after is this = absurd (omega (arith, is))
one_up (suc zero) old after is this = one_put (codes "link") table_up (step 1) old after this
one_up (suc (suc i)) old after is this = absurd (omega (arith, is))

pub two_up : (j : ℕ) (old before after : List ℕ) → j ≢ 0 → j ≢ 1 → before ≡ old ++ row_text (codes "link") (table_up (step j))
    → after ≡ before ++ row_text (codes "link") (table_up (rail j)) → after ≡ old ++ rows_text (codes "link") table_up (links_up_to j)
two_up zero old before after no_first no_second first second = absurd (no_first refl)
two_up (suc zero) old before after no_first no_second first second = absurd (no_second refl)
two_up (suc (suc i)) old before after no_first no_second first second =
    items_put (codes "link") table_up (step (suc (suc i)) ∷ []) (rail (suc (suc i)) ∷ []) old before after
    (one_put (codes "link") table_up (step (suc (suc i))) old before first) (one_put (codes "link") table_up (rail (suc (suc i))) before after second)

-- ---- the head

none_in_both : (p : Link → Bool) (items more : List Link) → list_any p items ≡ false → list_any p more ≡ false → list_any p (items ++ more) ≡ false
none_in_both p [] more none others = others
none_in_both p (item ∷ items) more none others =
    elim (cases_Bool (p item)) [
      | inl names ↦ let met : true ≡ false = rw names at none in absurd (true≢false met)
      | inr lacks ↦
          let rest : list_any p items ≡ false = rw lacks at none in
          rw lacks (none_in_both p items more rest others)
    ]

no_bundle_up : (j : ℕ) → list_any (λ (link : Link). is_some link.bundle) (links_up_to j) ≡ false
no_bundle_up zero = refl
no_bundle_up (suc zero) = refl
no_bundle_up (suc (suc i)) = refl

no_bundle : (start n : ℕ) → list_any (λ (link : Link). is_some link.bundle) (flat_map links_up_to (range_with_len start n)) ≡ false
no_bundle start zero = refl
no_bundle start (suc n) =
    none_in_both (λ (link : Link). is_some link.bundle) (links_up_to start) (flat_map links_up_to (range_with_len (start + 1) n)) (no_bundle_up start) (no_bundle (start + 1) n)

pub head_is : (n : ℕ) → 2 ≤ n → fields_text (head_fields (ladder n)) ≡ field_text (codes "option") (string (option_name I))
head_is zero low = absurd (omega (arith, low))
head_is (suc zero) low = absurd (omega (arith, low))
head_is (suc (suc m)) low = rw (no_bundle 0 (suc (suc m))) (append-nil (field_text (codes "option") (string (option_name I))))

-- ---- the names of the elements at the ends of links

pub name_is : (n j : ℕ) → j < n → element_name (ladder n) j ≡ numbered (codes "E") j
name_is n j inside = ap (λ found. option_map_or (λ (element : Element). element.name) found []) (range_get ladder_element n j inside)

row_is : (n : ℕ) (link : Link) → link.a < n → link.b < n → row_text (codes "link") (link_table (ladder n) link) ≡ row_text (codes "link") (table_up link)
row_is n link a_inside b_inside = rw (name_is n link.a a_inside, name_is n link.b b_inside) refl

rows_are : (n j : ℕ) → j < n → map (λ link. row_text (codes "link") (link_table (ladder n) link)) (links_up_to j) ≡ map (λ link. row_text (codes "link") (table_up link)) (links_up_to j)
rows_are n zero inside = refl
rows_are n (suc zero) inside = ap (λ t. t ∷ []) (row_is n (step 1) (omega (arith, inside)) inside)
rows_are n (suc (suc i)) inside =
    rw (row_is n (step (suc (suc i))) (omega (arith, inside)) inside, row_is n (rail (suc (suc i))) (omega (arith, inside)) inside) refl

pub links_are : (n : ℕ) → rows_text (codes "link") (link_table (ladder n)) (ladder n).links ≡ rows_text (codes "link") table_up (flat_map links_up_to (range_with_len 0 n))
links_are n =
    let up : ℕ → List (List ℕ) = λ j. map (λ link. row_text (codes "link") (table_up link)) (links_up_to j) in
    ap concat (map-flat_map (λ link. row_text (codes "link") (link_table (ladder n) link)) links_up_to up 0 n (λ j inside. rows_are n j (omega (arith, inside)))
    ∙ sym (map-flat_map (λ link. row_text (codes "link") (table_up link)) links_up_to up 0 n (λ j inside. refl)))

-- ---- the whole

pub ladder_put : (n : ℕ) (t0 t1 t2 t3 t4 : List ℕ) → 2 ≤ n
    → t0 ≡ [] ++ field_text (codes "option") (string (option_name I))
    → t1 ≡ t0 ++ rows_text (codes "element") element_table (map ladder_element (range_with_len 0 n))
    → t2 ≡ t1 ++ rows_text (codes "link") table_up (flat_map links_up_to (range_with_len 0 n))
    → t3 ≡ t2 ++ row_text (codes "source") (table_at (numbered (codes "E") 0) (ladder_source (codes "P0") 0 (codes "QL-PRC")))
    → t4 ≡ t3 ++ row_text (codes "source") (table_at (numbered (codes "E") 1) (ladder_source (codes "P1") 1 (codes "QL-SSU-A")))
    → t4 ≡ plan_text (ladder n)
unfolding plan_text
ladder_put n t0 t1 t2 t3 t4 low e0 e1 e2 e3 e4 =
    let head : List ℕ = fields_text (head_fields (ladder n)) in
    let elements : List ℕ = rows_text (codes "element") element_table (ladder n).elements in
    let links : List ℕ = rows_text (codes "link") (link_table (ladder n)) (ladder n).links in
    let first : List ℕ = row_text (codes "source") (source_table (ladder n) (ladder_source (codes "P0") 0 (codes "QL-PRC"))) in
    let second : List ℕ = row_text (codes "source") (source_table (ladder n) (ladder_source (codes "P1") 1 (codes "QL-SSU-A"))) in
    let f0 : t0 ≡ head = e0 ∙ sym (head_is n low) in
    let f2 : t2 ≡ t1 ++ links = e2 ∙ ap (λ t. t1 ++ t) (sym (links_are n)) in
    let f3 : t3 ≡ t2 ++ first = rw (name_is n 0 (omega (arith, low))) e3 in
    let f4 : t4 ≡ t3 ++ second = rw (name_is n 1 (omega (arith, low))) e4 in
    joined head elements links first second t0 t1 t2 t3 t4 f0 e1 f2 f3 f4
  where
    joined : (head elements links first second t0 t1 t2 t3 t4 : List ℕ) → t0 ≡ head → t1 ≡ t0 ++ elements → t2 ≡ t1 ++ links → t3 ≡ t2 ++ first → t4 ≡ t3 ++ second
        → t4 ≡ head ++ (elements ++ (links ++ (first ++ (second ++ []))))
    joined head elements links first second t0 t1 t2 t3 t4 e0 e1 e2 e3 e4 =
        e4 ∙ ap (λ t. t ++ second) (e3 ∙ ap (λ t. t ++ first) (e2 ∙ ap (λ t. t ++ links) (e1 ∙ ap (λ t. t ++ elements) e0)))
        ∙ append_assoc (((head ++ elements) ++ links)) first second ∙ append_assoc (head ++ elements) links (first ++ second) ∙ append_assoc head elements (links ++ (first ++ second))
        ∙ ap (λ t. head ++ (elements ++ (links ++ (first ++ t)))) (sym (append-nil second))
