-- The first source of an element, and the first line from one with one less.
use Rattle.std.proofs.Common.{◌≡◌, ◌≢◌, ℕ, zero, suc, ◌+◌, ◌<◌, Bool, true, false, ◌==◌, List, [], ◌∷◌, ◌++◌, length, map, Option, Some, None, refl, sym, ap, ◌∙◌, inl, inr, slice_get, slice_set, arith}
use Rattle.std.specs.Prelude.{find, option_map, replicate, if◌then◌else◌, IfSome, is_some}
use Rattle.std.specs.Option.{option_flatten, option_or}
use Rattle.std.specs.List.{range_with_len, All}
use Rattle.std.proofs.Common.{get_or}
use Rattle.std.proofs.lemmas.List.Elements.{All-head, All-tail}
use Rattle.std.proofs.lemmas.Bool.{cases_eq, eq-eqb, ne_eqb, eqb-true, true≢false, and_parts, false_from_ne_true}
use Rattle.std.proofs.lemmas.List.{length-set, length-replicate}
use Rattle.std.proofs.lemmas.List.Folds.{find-append}
use Rattle.std.proofs.lemmas.Option.{none-some, same_Some, slice_get_read, slice_get-get_or}
use Rattle.sync_text.proofs.Options.{option_or-none}
use Rattle.sync_text.proofs.Ranges.{range_more}
use Rattle.sync_topo.specs.declared.input.InputId.{InputId}
use Rattle.sync_topo.specs.declared.input.InputId.TheVariants.{Line, Source}
use Rattle.sync_topo.specs.declared.input.LineId.{LineId}
use Rattle.sync_topo.specs.Topology.{Topology}
use Rattle.sync_topo.specs.Lines.{line_count, line_input, sender_of, receiver_of, lines_into, sources_at, inputs_of, line_name, source_name, input_name, IsInput}
use Rattle.sync_topo.proofs.Lists.{slice_get-set_same, slice_get-set_other}
use Rattle.nominate.specs.HopCount.{Counts, count_at, is_one_less, is_count}
use Rattle.plan_texts.specs.Hops.{leads_from}
use Rattle.plan_texts.specs.private.HopRows.{first_source, line_at, AreLinesFrom, from_name}

first-inputs : (lines sources : List ℕ) → first_source (map line_input lines ++ map Source sources) ≡ slice_get sources 0
first-inputs [] [] = refl
first-inputs [] (source ∷ sources) = refl
first-inputs (line ∷ lines) sources = first-inputs lines sources

-- the first source among the inputs is the element's first
pub first-own : (plan : Topology) (element : ℕ) → first_source (inputs_of plan element) ≡ slice_get (sources_at plan element) 0
first-own plan element = first-inputs (lines_into plan element) (sources_at plan element)

-- ---- the lines from elements with one less

find-more : (p : ℕ → Bool) (n : ℕ) → find p (range_with_len 0 (n + 1)) ≡ option_or (find p (range_with_len 0 n)) (if p n then Some n else None)
find-more p n = ap (find p) (range_more n) ∙ find-append p (range_with_len 0 n) (n ∷ [])

or-some : (o : Option ℕ) (x : ℕ) (p : Option ℕ) → o ≡ Some x → option_or o p ≡ o
or-some None x p is = absurd (none-some x is)
or-some (Some y) x p is = refl

-- a line that doesn't lead on leaves the first as it was
find-not : (p : ℕ → Bool) (n : ℕ) → p n ≡ false → find p (range_with_len 0 (n + 1)) ≡ find p (range_with_len 0 n)
find-not p n never = find-more p n ∙ rw never (option_or-none (find p (range_with_len 0 n)))

-- so does one after the first
find-later : (p : ℕ → Bool) (n first : ℕ) → find p (range_with_len 0 n) ≡ Some first → find p (range_with_len 0 (n + 1)) ≡ find p (range_with_len 0 n)
find-later p n first is = find-more p n ∙ or-some (find p (range_with_len 0 n)) first (if p n then Some n else None) is

-- and the first is the first
find-first : (p : ℕ → Bool) (n : ℕ) → find p (range_with_len 0 n) ≡ None → p n ≡ true → find p (range_with_len 0 (n + 1)) ≡ Some n
find-first p n none passes = find-more p n ∙ rw (none, passes) refl

abbrev no_line : Option LineId
no_line = None

nothing_kept : (n element : ℕ) → option_flatten (slice_get (replicate n no_line) element) ≡ None
nothing_kept zero element = refl
nothing_kept (suc n) zero = refl
nothing_kept (suc n) (suc element) = nothing_kept n element

pub AreLinesFrom-none : (plan : Topology) (counts : Counts) (lines : List (Option LineId)) → lines ≡ replicate (length plan.elements) None → AreLinesFrom plan counts 0 lines
AreLinesFrom-none plan counts lines none = record {
  counted = ap length none ∙ length-replicate (length plan.elements) None;
  each = λ element hops inside is. empty element;
  within = λ element line is. absurd (none-some line (sym (empty element) ∙ is));
}
  where
    empty : (element : ℕ) → line_at lines element ≡ None
    empty element = ap (λ (xs : List (Option LineId)). line_at xs element) none ∙ ap (option_map (λ (line : LineId). line.0)) (nothing_kept (length plan.elements) element)

-- a line that leads on is one from one with one less
next-leads : (one other : Option ℕ) (hops : ℕ) → other ≡ Some (suc hops) → is_count hops one ≡ true → is_one_less one other ≡ true
next-leads None other hops is same = absurd (true≢false (sym same))
next-leads (Some m) None hops is same = absurd (none-some (suc hops) is)
next-leads (Some m) (Some n) hops is same =
    let first : m ≡ hops = eqb-true m hops same in
    let second : n ≡ suc hops = same_Some n (suc hops) is in
    eq-eqb (m + 1) n (omega (arith, first, second))

leads-next : (one other : Option ℕ) (hops : ℕ) → other ≡ Some (suc hops) → is_one_less one other ≡ true → is_count hops one ≡ true
leads-next None other hops is next = absurd (true≢false (sym next))
leads-next (Some m) None hops is next = absurd (none-some (suc hops) is)
leads-next (Some m) (Some n) hops is next =
    let first : m + 1 ≡ n = eqb-true (m + 1) n next in
    let second : n ≡ suc hops = same_Some n (suc hops) is in
    eq-eqb m hops (omega (arith, first, second))

module _ (plan : Topology) (counts : Counts) (n : ℕ) where
  -- a line to another element, or from one that hasn't one less, doesn't lead on
  not-there : (element hops : ℕ) → element ≢ receiver_of plan n → leads_from plan counts element hops n ≡ false
  not-there element hops apart = rw (ne_eqb (receiver_of plan n) element (λ same. apart (sym same))) refl

  not-next : (element hops : ℕ) → is_one_less (count_at counts (sender_of plan n)) (count_at counts (receiver_of plan n)) ≡ false → count_at counts element ≡ Some (suc hops)
      → leads_from plan counts element hops n ≡ false
  not-next element hops never is = false_from_ne_true (leads_from plan counts element hops n) (λ leads.
      let both = and_parts (receiver_of plan n == element) (is_count hops (count_at counts (sender_of plan n))) leads in
      let same : receiver_of plan n ≡ element = eqb-true (receiver_of plan n) element both.0 in
      true≢false (sym (next-leads (count_at counts (sender_of plan n)) (count_at counts (receiver_of plan n)) hops (ap (count_at counts) same ∙ is) both.1) ∙ never))

  pub AreLinesFrom-not : (lines : List (Option LineId)) → is_one_less (count_at counts (sender_of plan n)) (count_at counts (receiver_of plan n)) ≡ false
      → AreLinesFrom plan counts n lines → AreLinesFrom plan counts (n + 1) lines
  AreLinesFrom-not lines never before = record {
    counted = before.counted;
    each = λ element hops inside is. before.each element hops inside is ∙ sym (find-not (leads_from plan counts element hops) n (not-next element hops never is));
    within = before.within;
  }

  pub AreLinesFrom-later : (lines : List (Option LineId)) (first : ℕ) → line_at lines (receiver_of plan n) ≡ Some first
      → AreLinesFrom plan counts n lines → AreLinesFrom plan counts (n + 1) lines
  AreLinesFrom-later lines first kept before = record {
    counted = before.counted;
    each = λ element hops inside is. elim (cases_eq element (receiver_of plan n)) [
      | inl same ↦
          let found = sym (before.each element hops inside is) ∙ ap (line_at lines) same ∙ kept in
          before.each element hops inside is ∙ sym (find-later (leads_from plan counts element hops) n first found)
      | inr apart ↦ before.each element hops inside is ∙ sym (find-not (leads_from plan counts element hops) n (not-there element hops apart))
    ];
    within = before.within;
  }

  pub AreLinesFrom-first : (lines after : List (Option LineId)) (line : LineId) → line.0 ≡ n → n < line_count plan → receiver_of plan n < length plan.elements
      → is_one_less (count_at counts (sender_of plan n)) (count_at counts (receiver_of plan n)) ≡ true → line_at lines (receiver_of plan n) ≡ None
      → after ≡ slice_set lines (receiver_of plan n) (Some line) → AreLinesFrom plan counts n lines → AreLinesFrom plan counts (n + 1) after
  AreLinesFrom-first lines after line number low inside_n next none set before = record {
    counted = ap length set ∙ length-set lines (receiver_of plan n) (Some line) ∙ before.counted;
    each = λ element hops inside is. elim (cases_eq element (receiver_of plan n)) [
      | inl same ↦
          let here_none = sym (before.each element hops inside is) ∙ ap (line_at lines) same ∙ none in
          let from = leads-next (count_at counts (sender_of plan n)) (count_at counts (receiver_of plan n)) hops (ap (count_at counts) (sym same) ∙ is) next in
          let leads : leads_from plan counts element hops n ≡ true = rw (eq-eqb (receiver_of plan n) element (sym same)) from in
          ap (line_at after) same ∙ here ∙ sym (find-first (leads_from plan counts element hops) n here_none leads)
      | inr apart ↦ there element apart ∙ before.each element hops inside is ∙ sym (find-not (leads_from plan counts element hops) n (not-there element hops apart))
    ];
    within = λ element other is. elim (cases_eq element (receiver_of plan n)) [
      | inl same ↦ let equal : n ≡ other = same_Some n other (sym here ∙ ap (line_at after) (sym same) ∙ is) in omega (arith, equal, low)
      | inr apart ↦ before.within element other (sym (there element apart) ∙ is)
    ];
  }
    where
      here : line_at after (receiver_of plan n) ≡ Some n
      here =
          ap (λ (xs : List (Option LineId)). line_at xs (receiver_of plan n)) set
          ∙ ap (λ o. option_map (λ (l : LineId). l.0) (option_flatten o)) (slice_get-set_same lines (receiver_of plan n) (Some line) (rw before.counted inside_n))
          ∙ ap Some number

      there : (element : ℕ) → element ≢ receiver_of plan n → line_at after element ≡ line_at lines element
      there element apart =
          ap (λ (xs : List (Option LineId)). line_at xs element) set
          ∙ ap (λ o. option_map (λ (l : LineId). l.0) (option_flatten o)) (slice_get-set_other lines (receiver_of plan n) element (Some line) (λ same. apart (sym same)))

-- ---- where timing would come from

pub first-name : (plan : Topology) (element : ℕ) (inputs : List InputId) → inputs ≡ inputs_of plan element
    → option_map (input_name plan) (option_map Source (first_source inputs)) ≡ option_map (source_name plan) (slice_get (sources_at plan element) 0)
first-name plan element inputs are =
    ap (λ (found : List InputId). option_map (input_name plan) (option_map Source (first_source found))) are
    ∙ ap (λ (o : Option ℕ). option_map (input_name plan) (option_map Source o)) (first-own plan element)
    ∙ by (slice_get (sources_at plan element) 0)
  where
    by : (o : Option ℕ) → option_map (input_name plan) (option_map Source o) ≡ option_map (source_name plan) o
    by None = refl
    by (Some source) = refl

pub first-within : (plan : Topology) (inputs : List InputId) → All (IsInput plan) inputs → IfSome (option_map Source (first_source inputs)) (IsInput plan)
first-within plan [] all = tt
first-within plan (Line line ∷ inputs) all = first-within plan inputs (All-tail (IsInput plan) (Line line) inputs all)
first-within plan (Source source ∷ inputs) all = All-head (IsInput plan) (Source source) inputs all

pub line-name : (plan : Topology) (o : Option LineId) (kept : Option ℕ) → kept ≡ option_map (λ (line : LineId). line.0) o
    → option_map (input_name plan) (option_map Line o) ≡ option_map (line_name plan) kept
line-name plan None kept is = rw is refl
line-name plan (Some line) kept is = rw is refl

pub line-within : (plan : Topology) (o : Option LineId) (kept : Option ℕ) → kept ≡ option_map (λ (line : LineId). line.0) o
    → ((line : ℕ) → kept ≡ Some line → line < line_count plan) → IfSome (option_map Line o) (IsInput plan)
line-within plan None kept is within = tt
line-within plan (Some line) kept is within = within line.0 is

-- what is read at a place is what is kept there
pub line-read : (lines : List (Option LineId)) (n element : ℕ) (line : Option LineId) → n ≡ length lines → element < n → line ≡ get_or lines element line
    → line_at lines element ≡ option_map (λ (l : LineId). l.0) line
line-read lines n element line long inside read = ap (λ o. option_map (λ (l : LineId). l.0) (option_flatten o)) (slice_get_read lines n element line long inside read)

pub line_some : (o : Option LineId) → is_some o ≡ true → (line : LineId) × (o ≡ Some line)
line_some None is = absurd (true≢false (sym is))
line_some (Some line) is = (line, refl)

pub line_none : (o : Option LineId) → is_some o ≡ false → o ≡ None
line_none None is = refl
line_none (Some line) is = absurd (true≢false is)

pub next-told : (counts : Counts) (answer : Bool) (one other : Option ℕ) (s sender r receiver : ℕ) → answer ≡ is_one_less one other → one ≡ count_at counts s → s ≡ sender
    → other ≡ count_at counts r → r ≡ receiver → answer ≡ is_one_less (count_at counts sender) (count_at counts receiver)
next-told counts answer one other s sender r receiver is first from second to =
    is ∙ ap (λ (o : Option ℕ). is_one_less o other) (first ∙ ap (count_at counts) from) ∙ ap (λ (o : Option ℕ). is_one_less (count_at counts sender) o) (second ∙ ap (count_at counts) to)

-- the name at an element of count 0, and at one of another
pub from-root : (plan : Topology) (kept : Option ℕ) (element hops : ℕ) (count : Option ℕ) (from : Option InputId) → count ≡ Some hops → hops ≡ 0
    → option_map (input_name plan) from ≡ option_map (source_name plan) (slice_get (sources_at plan element) 0) → option_map (input_name plan) from ≡ from_name plan kept element count
from-root plan kept element hops count from is zero_hops named = rw (is, zero_hops) named

pub from-other : (plan : Topology) (kept : Option ℕ) (element hops : ℕ) (count : Option ℕ) (from : Option InputId) → count ≡ Some hops → hops ≢ 0
    → option_map (input_name plan) from ≡ option_map (line_name plan) kept → option_map (input_name plan) from ≡ from_name plan kept element count
from-other plan kept element zero count from is apart named = absurd (apart refl)
from-other plan kept element (suc hops) count from is apart named = rw is named

pub line-kept : (lines : List (Option LineId)) (element : ℕ) → element < length lines → line_at lines element ≡ option_map (λ (l : LineId). l.0) (get_or lines element None)
line-kept lines element inside = ap (λ o. option_map (λ (l : LineId). l.0) (option_flatten o)) (slice_get-get_or lines element None inside)
