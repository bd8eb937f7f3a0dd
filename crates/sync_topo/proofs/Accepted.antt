-- Rows that break no rule say a plan which keeps every rule.
use Rattle.std.proofs.Common.{◌≡◌, ℕ, ◌<◌, ◌≤◌, Bool, true, false, not, ◌||◌, nat_lt, nat_le, List, [], ◌∷◌, ◌++◌, length, map, Option, Some, None, slice_get, refl, sym, ap, subst, ◌∙◌, arith, append_assoc, length-append, lit<}
use Rattle.std.specs.Prelude.{Ok, ℤ, pos, negsuc, IfSome, option_and_then, unwrap_or, if◌then◌else◌}
use Rattle.std.specs.Option.{option_or}
use Rattle.std.proofs.Math.Decide.{dec_lt}
use Rattle.std.proofs.lemmas.Bool.{and_parts, or_parts, not-true, leb-true, ltb-true, ltb-false, true≢false, not-false}
use Rattle.std.proofs.lemmas.List.{append-nil, length-map, map-append}
use Rattle.std.proofs.lemmas.Option.{none-some, same_Some}
use Rattle.sync_ql.specs.declared.levels.NetOption.{NetOption}
use Rattle.sync_ql.specs.declared.levels.NetOption.TheVariants.{I, II}
use Rattle.sync_ql.specs.declared.levels.Level.{Level}
use Rattle.sync_ql.specs.Table.{levels_of}
use Rattle.sync_ql.specs.Level.{place_of as level_place, level_at, place_of_name, level_of_name, do_not_use_of}
use Rattle.sync_topo.specs.declared.error.PlanErr.{PlanErr}
use Rattle.sync_topo.specs.declared.element.Element.{Element}
use Rattle.sync_topo.specs.declared.link.Link.{Link}
use Rattle.sync_topo.specs.declared.source.Source.{Source}
use Rattle.sync_topo.specs.declared.rows.ElementRow.{ElementRow}
use Rattle.sync_topo.specs.declared.rows.LinkRow.{LinkRow}
use Rattle.sync_topo.specs.declared.rows.SourceRow.{SourceRow}
use Rattle.sync_topo.specs.declared.rows.PlanRows.{PlanRows}
use Rattle.sync_topo.specs.Topology.{Topology}
use Rattle.sync_topo.specs.Limits.{element_limit, link_limit, source_limit}
use Rattle.sync_topo.specs.Names.{is_name, is_named, element_names}
use Rattle.sync_topo.specs.RowValues.{number_or, if_clock_level, clock_level, default_own, element_of_name, element_from, link_from, source_from, plan_from}
use Rattle.sync_topo.specs.Rules.{Rule, is_outside, has_room, element_rules, link_rules, source_rules}
use Rattle.sync_topo.specs.PlanRows.{each_row, element_row_rules, link_row_rules, source_row_rules, limits_of, rules_of, first_broken, or_refusal, plan_of_rows}
use Rattle.sync_topo.specs.private.Steps.{rows_from, element_rules_after, link_rules_after, source_rules_after}
use Rattle.sync_topo.specs.private.Indexed.{MayJoin, MayLink, MayFeed}
use Rattle.sync_topo.specs.WellFormed.{IsClockLevel, IsWellFormed}
use Rattle.sync_topo.proofs.FirstBroken.{all-kept}
use Rattle.sync_topo.proofs.Lists.{places-apart}
use Rattle.sync_topo.proofs.RowLoops.{first_broken-append}
use Rattle.sync_topo.proofs.RowRules.{element_rules-are, link_rules-are, source_rules-are}
use Rattle.sync_topo.proofs.RowsOfPlan.{place_of-distinct}
use Rattle.sync_topo.proofs.RuleLemmas.{is_named-place}
use Rattle.sync_topo.proofs.WellFormedLemmas.{IsWellFormed-empty, IsWellFormed-element, IsWellFormed-link, IsWellFormed-source}

-- ---- truths

is-true : (b : Bool) → not (not b) ≡ true → b ≡ true
is-true true e = refl
is-true false e = absurd (true≢false (sym e))

-- ---- what a row says

-- a number that is not outside its limits is within them, and so is the default
number_within : (low high default : ℕ) (given : Option ℤ) → low ≤ default → default ≤ high → is_outside low high given ≡ false
    → (low ≤ number_or default given) × (number_or default given ≤ high)
number_within low high default None least most inside = (least, most)
number_within low high default (Some (pos n)) least most inside =
    let both = and_parts (nat_le low n) (nat_le n high) (not-false _ inside) in
    (leb-true low n both.0, leb-true n high both.1)
number_within low high default (Some (negsuc n)) least most inside = absurd (true≢false inside)

-- a level of the option's table is one of the option
level_at-option : (option : NetOption) (place : ℕ) (level : Level) → level_at option place ≡ Some level → level.option ≡ option
level_at-option option place level = by (dec_lt place (length (levels_of option)))
  where
    by : (d : Dec (place < length (levels_of option)))
        → elim d as (λ _. Option Level) [ yes within ↦ Some (record { option = option; place = place; is_row = within }) | no beyond ↦ None ] ≡ Some level
        → level.option ≡ option
    by (yes within) e = ap (λ (l : Level). l.option) (sym (same_Some _ level e))
    by (no beyond) e = absurd (none-some level e)

named_level : (option : NetOption) (name : List ℕ) (level : Level) → level_of_name option name ≡ Some level → level.option ≡ option
named_level option name level = by (place_of_name option name)
  where
    by : (place : Option ℕ) → option_and_then (level_at option) place ≡ Some level → level.option ≡ option
    by None e = absurd (none-some level e)
    by (Some place) e = level_at-option option place level e

-- a level that a clock may have
clock_level-is : (option : NetOption) (name : List ℕ) (level : Level) → clock_level option name ≡ Some level → IsClockLevel option level
clock_level-is option name level = by (level_of_name option name) refl
  where
    by : (found : Option Level) → level_of_name option name ≡ found → if_clock_level option found ≡ Some level → IsClockLevel option level
    by None is e = absurd (none-some level e)
    by (Some there) is e = tested (nat_lt (level_place there) (level_place (do_not_use_of option))) refl e
      where
        tested : (better : Bool) → nat_lt (level_place there) (level_place (do_not_use_of option)) ≡ better → (if better then Some there else None) ≡ Some level
            → IsClockLevel option level
        tested true better found =
            rw (← same_Some there level found) (record { of_option = named_level option name there is; above_do_not_use = ltb-true _ _ better })
        tested false better found = absurd (none-some level found)

default_own-is : (option : NetOption) → IsClockLevel option (default_own option)
unfolding dec_lt
default_own-is I = record { of_option = refl; above_do_not_use = lit< tt }
default_own-is II = record { of_option = refl; above_do_not_use = lit< tt }

own_level : (option : NetOption) (given : Option (List ℕ)) → IsClockLevel option (unwrap_or (option_and_then (clock_level option) given) (default_own option))
own_level option None = default_own-is option
own_level option (Some name) = by (clock_level option name) refl
  where
    by : (found : Option Level) → clock_level option name ≡ found → IsClockLevel option (unwrap_or found (default_own option))
    by None is = default_own-is option
    by (Some level) is = clock_level-is option name level is

floor_level : (option : NetOption) (given : Option (List ℕ)) → IfSome (option_and_then (clock_level option) given) (IsClockLevel option)
floor_level option None = tt
floor_level option (Some name) = by (clock_level option name) refl
  where
    by : (found : Option Level) → clock_level option name ≡ found → IfSome found (IsClockLevel option)
    by None is = tt
    by (Some level) is = clock_level-is option name level is

source_level : (option : NetOption) (name : List ℕ) → (unwrap_or (level_of_name option name) (do_not_use_of option)).option ≡ option
source_level option name = by (level_of_name option name) refl
  where
    last : (o : NetOption) → (do_not_use_of o).option ≡ o
    last I = refl
    last II = refl

    by : (found : Option Level) → level_of_name option name ≡ found → (unwrap_or found (do_not_use_of option)).option ≡ option
    by None is = last option
    by (Some level) is = named_level option name level is

-- the element of a name that is an element's
pub record IsNamed (elements : List Element) (name : List ℕ) : Type 0 where
  pub within : element_of_name elements name < length elements
  pub there : slice_get (element_names elements) (element_of_name elements name) ≡ Some name

named_element : (plan : Topology) (name : List ℕ) → IsWellFormed plan → is_named (element_names plan.elements) name ≡ true → IsNamed plan.elements name
named_element plan name well named =
    let place = is_named-place (element_names plan.elements) name named in
    let is : element_of_name plan.elements name ≡ place.0
    = ap (λ (found : Option ℕ). unwrap_or found 0) (place_of-distinct (element_names plan.elements) name place.0 well.elements_distinct place.2) in
    record {
      within = omega (arith, is, place.1, length-map plan.elements (λ (e : Element). e.name));
      there = ap (slice_get (element_names plan.elements)) is ∙ place.2;
    }

-- ---- a row that breaks no rule may come next

may_join : (plan : Topology) (row : ElementRow) → first_broken (element_rules plan row) ≡ None → MayJoin plan (element_from plan.option row)
may_join plan row kept =
    let name = and_parts _ _ (all-kept (element_rules plan row) kept) in
    let twice = and_parts _ _ name.1 in
    let range = and_parts _ _ twice.1 in
    let times = or_parts (is_outside 300 1800 row.holdoff) (is_outside 0 12 row.wtr) (not-true _ range.0) in
    let holdoff = number_within 300 1800 300 row.holdoff (omega arith) (omega arith) times.0 in
    let wtr = number_within 0 12 5 row.wtr (omega arith) (omega arith) times.1 in
    record {
      named = is-true (is_name row.name) name.0;
      fresh = not-true _ twice.0;
      fits = record {
        own_is_clock_level = own_level plan.option row.own;
        floor_is_clock_level = floor_level plan.option row.floor;
        least_holdoff = holdoff.0;
        greatest_holdoff = holdoff.1;
        whole_minutes = (number_or 5 row.wtr, wtr.1, refl);
      };
    }

may_link : (plan : Topology) (row : LinkRow) → IsWellFormed plan → first_broken (link_rules plan row) ≡ None → MayLink plan (link_from plan.elements row)
may_link plan row well kept =
    let link : Link = link_from plan.elements row in
    let name = and_parts _ _ (all-kept (link_rules plan row) kept) in
    let twice = and_parts _ _ name.1 in
    let ends = and_parts _ _ twice.1 in
    let apart = and_parts _ _ ends.1 in
    let range = and_parts _ _ apart.1 in
    let bundle = and_parts _ _ range.1 in
    let room = and_parts _ _ bundle.1 in
    let named = and_parts (is_named (element_names plan.elements) row.a) (is_named (element_names plan.elements) row.b) (is-true _ ends.0) in
    let a = named_element plan row.a well named.0 in
    let b = named_element plan row.b well named.1 in
    let four = or_parts (is_outside 0 255 row.priority_a || is_outside 0 255 row.priority_b || is_outside 1 2000 row.delay_a) (is_outside 1 2000 row.delay_b) (not-true _ range.0) in
    let three = or_parts (is_outside 0 255 row.priority_a || is_outside 0 255 row.priority_b) (is_outside 1 2000 row.delay_a) four.0 in
    let two = or_parts (is_outside 0 255 row.priority_a) (is_outside 0 255 row.priority_b) three.0 in
    let priority_a = number_within 0 255 0 row.priority_a (omega arith) (omega arith) two.0 in
    let priority_b = number_within 0 255 0 row.priority_b (omega arith) (omega arith) two.1 in
    let delay_a = number_within 1 2000 1 row.delay_a (omega arith) (omega arith) three.1 in
    let delay_b = number_within 1 2000 1 row.delay_b (omega arith) (omega arith) four.1 in
    let longer : Topology = record plan { links = plan.links ++ link ∷ [] } in
    let rooms = and_parts (has_room longer link.a) (has_room longer link.b) (is-true _ room.0) in
    record {
      named = is-true (is_name row.name) name.0;
      fresh = not-true _ twice.0;
      joins = record {
        a_is_element = a.within;
        b_is_element = b.within;
        apart = places-apart (element_names plan.elements) link.a link.b row.a row.b a.there b.there (not-true _ apart.0);
        priority_a_fits = priority_a.1;
        priority_b_fits = priority_b.1;
        least_delay_a = delay_a.0;
        greatest_delay_a = delay_a.1;
        least_delay_b = delay_b.0;
        greatest_delay_b = delay_b.1;
      };
      bundle_fits = not-true _ bundle.0;
      room_at_a = rooms.0;
      room_at_b = rooms.1;
    }

may_feed : (plan : Topology) (row : SourceRow) → IsWellFormed plan → first_broken (source_rules plan row) ≡ None → MayFeed plan (source_from plan.option plan.elements row)
may_feed plan row well kept =
    let name = and_parts _ _ (all-kept (source_rules plan row) kept) in
    let twice = and_parts _ _ name.1 in
    let ends = and_parts _ _ twice.1 in
    let range = and_parts _ _ ends.1 in
    let level = and_parts _ _ range.1 in
    let room = and_parts _ _ level.1 in
    let others = or_parts _ _ (not-true _ twice.0) in
    let at = named_element plan row.at well (is-true _ ends.0) in
    let priority = number_within 0 255 1 row.priority (omega arith) (omega arith) (not-true _ range.0) in
    record {
      named = is-true (is_name row.name) name.0;
      no_link = others.0;
      fresh = others.1;
      fits = record {
        at_is_element = at.within;
        of_option = source_level plan.option row.level;
        priority_fits = priority.1;
      };
      room = is-true _ room.0;
    }

-- ---- row by row

both-none : (one other : Option PlanErr) → option_or one other ≡ None → (one ≡ None) × (other ≡ None)
both-none None other e = (refl, e)
both-none (Some error) other e = absurd (none-some error (sym e))

none-of-both : (front rest : List Rule) → first_broken (front ++ rest) ≡ None → (first_broken front ≡ None) × (first_broken rest ≡ None)
none-of-both front rest none = both-none _ _ (sym (first_broken-append front rest) ∙ none)

-- what the rows behind and the first of those to come make
abbrev made_more : {A B : Type 0} (make : A → B) (behind : List A) (row : A) → map make behind ++ make row ∷ [] ≡ map make (behind ++ row ∷ [])
made_more make behind row = sym (map-append make behind (row ∷ []))

abbrev elements_of : NetOption → List ElementRow → Topology
elements_of option rows = record { option = option; elements = map (element_from option) rows; links = []; sources = [] }

elements_well : (option : NetOption) (behind rows : List ElementRow) → IsWellFormed (elements_of option behind) → length (behind ++ rows) ≤ element_limit
    → first_broken (rows_from (element_rules_after option) behind rows) ≡ None → IsWellFormed (elements_of option (behind ++ rows))
elements_well option behind [] well few kept = rw (append-nil behind) well
elements_well option behind (row ∷ rows) well few kept =
    let none = none-of-both (element_rules_after option behind row) (rows_from (element_rules_after option) (behind ++ row ∷ []) rows) kept in
    let whole : (behind ++ row ∷ []) ++ rows ≡ behind ++ row ∷ rows = append_assoc behind (row ∷ []) rows in
    let plan : Topology = elements_of option behind in
    let room : length plan.elements < element_limit = omega (arith, few, length-append behind (row ∷ rows), length-map behind (element_from option)) in
    let next : IsWellFormed (elements_of option (behind ++ row ∷ []))
    = subst (λ (es : List Element). IsWellFormed (record plan { elements = es })) (made_more (element_from option) behind row)
    (IsWellFormed-element plan (element_from option row) well room (may_join plan row none.0)) in
    rw (← whole) (elements_well option (behind ++ row ∷ []) rows next (rw whole few) none.1)

abbrev links_of : NetOption → List Element → List LinkRow → Topology
links_of option elements rows = record { option = option; elements = elements; links = map (link_from elements) rows; sources = [] }

links_well : (option : NetOption) (elements : List Element) (behind rows : List LinkRow) → IsWellFormed (links_of option elements behind) → length (behind ++ rows) ≤ link_limit
    → first_broken (rows_from (link_rules_after option elements) behind rows) ≡ None → IsWellFormed (links_of option elements (behind ++ rows))
links_well option elements behind [] well few kept = rw (append-nil behind) well
links_well option elements behind (row ∷ rows) well few kept =
    let none = none-of-both (link_rules_after option elements behind row) (rows_from (link_rules_after option elements) (behind ++ row ∷ []) rows) kept in
    let whole : (behind ++ row ∷ []) ++ rows ≡ behind ++ row ∷ rows = append_assoc behind (row ∷ []) rows in
    let plan : Topology = links_of option elements behind in
    let room : length plan.links < link_limit = omega (arith, few, length-append behind (row ∷ rows), length-map behind (link_from elements)) in
    let next : IsWellFormed (links_of option elements (behind ++ row ∷ []))
    = subst (λ (ls : List Link). IsWellFormed (record plan { links = ls })) (made_more (link_from elements) behind row)
    (IsWellFormed-link plan (link_from elements row) well refl room (may_link plan row well none.0)) in
    rw (← whole) (links_well option elements (behind ++ row ∷ []) rows next (rw whole few) none.1)

abbrev sources_of : NetOption → List Element → List Link → List SourceRow → Topology
sources_of option elements links rows = record { option = option; elements = elements; links = links; sources = map (source_from option elements) rows }

sources_well : (option : NetOption) (elements : List Element) (links : List Link) (behind rows : List SourceRow) → IsWellFormed (sources_of option elements links behind)
    → length (behind ++ rows) ≤ source_limit → first_broken (rows_from (source_rules_after option elements links) behind rows) ≡ None
    → IsWellFormed (sources_of option elements links (behind ++ rows))
sources_well option elements links behind [] well few kept = rw (append-nil behind) well
sources_well option elements links behind (row ∷ rows) well few kept =
    let none = none-of-both (source_rules_after option elements links behind row) (rows_from (source_rules_after option elements links) (behind ++ row ∷ []) rows) kept in
    let whole : (behind ++ row ∷ []) ++ rows ≡ behind ++ row ∷ rows = append_assoc behind (row ∷ []) rows in
    let plan : Topology = sources_of option elements links behind in
    let room : length plan.sources < source_limit = omega (arith, few, length-append behind (row ∷ rows), length-map behind (source_from option elements)) in
    let next : IsWellFormed (sources_of option elements links (behind ++ row ∷ []))
    = subst (λ (ss : List Source). IsWellFormed (record plan { sources = ss })) (made_more (source_from option elements) behind row)
    (IsWellFormed-source plan (source_from option elements row) well room (may_feed plan row well none.0)) in
    rw (← whole) (sources_well option elements links (behind ++ row ∷ []) rows next (rw whole few) none.1)

-- ---- all rows

said_well : (rows : PlanRows) → first_broken (rules_of rows) ≡ None → IsWellFormed (plan_from rows)
said_well rows none =
    let A = limits_of rows in
    let B = each_row (element_row_rules rows) rows.elements in
    let C = each_row (link_row_rules rows) rows.links in
    let D = each_row (source_row_rules rows) rows.sources in
    let last = none-of-both (A ++ B ++ C) D none in
    let third = none-of-both (A ++ B) C last.0 in
    let second = none-of-both A B third.0 in
    let few_elements = and_parts _ _ (all-kept A second.0) in
    let few_links = and_parts _ _ few_elements.1 in
    let few_sources = and_parts _ _ few_links.1 in
    let elements : List Element = map (element_from rows.option) rows.elements in
    let links : List Link = map (link_from elements) rows.links in
    let elements_kept : first_broken (rows_from (element_rules_after rows.option) [] rows.elements) ≡ None
    = ap first_broken (element_rules-are rows rows.option refl) ∙ second.1 in
    let links_kept : first_broken (rows_from (link_rules_after rows.option elements) [] rows.links) ≡ None
    = ap first_broken (link_rules-are rows rows.option elements refl refl) ∙ third.1 in
    let sources_kept : first_broken (rows_from (source_rules_after rows.option elements links) [] rows.sources) ≡ None
    = ap first_broken (source_rules-are rows rows.option elements links refl refl refl) ∙ last.1 in
    let with_elements = elements_well rows.option [] rows.elements (IsWellFormed-empty rows.option) (ltb-false element_limit (length rows.elements) (not-true _ few_elements.0)) elements_kept in
    let with_links = links_well rows.option elements [] rows.links with_elements (ltb-false link_limit (length rows.links) (not-true _ few_links.0)) links_kept in
    sources_well rows.option elements links [] rows.sources with_links (ltb-false source_limit (length rows.sources) (not-true _ few_sources.0)) sources_kept

-- a plan that rows give keeps every rule
pub accepted-well_formed : (rows : PlanRows) (plan : Topology) → plan_of_rows rows ≡ Ok plan → IsWellFormed plan
unfolding plan_of_rows
accepted-well_formed rows plan = by (first_broken (rules_of rows)) refl
  where
    by : (found : Option PlanErr) → first_broken (rules_of rows) ≡ found → or_refusal found (plan_from rows) ≡ Ok plan → IsWellFormed plan
    by None none given = let same : plan_from rows ≡ plan = cc in subst IsWellFormed same (said_well rows none)
    by (Some error) none given = absurd (cc)

-- it is the plan that they say
pub given-plan : (rows : PlanRows) (plan : Topology) → plan_of_rows rows ≡ Ok plan → plan_from rows ≡ plan
unfolding plan_of_rows
given-plan rows plan = by (first_broken (rules_of rows))
  where
    by : (found : Option PlanErr) → or_refusal found (plan_from rows) ≡ Ok plan → plan_from rows ≡ plan
    by None given = cc
    by (Some error) given = absurd (cc)
