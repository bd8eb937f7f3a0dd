-- The inputs of the elements when one more link or source comes.
use Rattle.std.proofs.Common.{◌≡◌, ℕ, ◌+◌, ◌*◌, ◌/◌, ◌%◌, ◌<◌, Bool, true, false, ◌&&◌, nat_lt, List, [], ◌∷◌, ◌++◌, length, map, filter, refl, sym, ap, ◌∙◌, arith, ne_eqb, length-append, zero-add, append_assoc}
use Rattle.std.specs.Prelude.{if◌then◌else◌, ◌==◌, ◌≢◌}
use Rattle.std.specs.List.{range_with_len, All}
use Rattle.std.proofs.lemmas.Bool.{eq-eqb}
use Rattle.std.proofs.lemmas.List.{append-nil, map-append}
use Rattle.std.proofs.lemmas.List.Elements.{All-filter, All-append, All-map}
use Rattle.std.proofs.lemmas.List.FromFn.{length-range_with_len, get_or-range_with_len}
use Rattle.sync_topo.specs.declared.input.InputId.TheVariants.{Source}
use Rattle.sync_topo.specs.declared.link.Link.{Link}
use Rattle.sync_topo.specs.declared.source.Source as declared
use Rattle.sync_topo.specs.Topology.{Topology}
use Rattle.sync_topo.specs.Lines.{line_count, is_nominated, receiver_of, sender_of, priority_of, line_id, lines_out, source_priority, element_of_source, lines_into, sources_at, line_input, inputs_of, IsInput}
use Rattle.sync_topo.specs.private.Held.{taken}
use Rattle.sync_topo.proofs.Lists.{slice_get-push_before, slice_get-push_last, filter_range_more, filter_range_agree}

-- a plan with one more link, and with one more source
abbrev pub with_link : Topology → Link → Topology
with_link plan link = record plan { links = plan.links ++ link ∷ [] }

abbrev pub with_source : Topology → declared.Source → Topology
with_source plan source = record plan { sources = plan.sources ++ source ∷ [] }

-- the line is nominated and has the element at an end
abbrev is_line_at : (Topology → ℕ → ℕ) → Topology → ℕ → ℕ → Bool
is_line_at end plan element line = is_nominated plan line && end plan line == element

-- the source is an input of the element
abbrev is_source_at : Topology → ℕ → ℕ → Bool
is_source_at plan element source = nat_lt 0 (source_priority plan source) && element_of_source plan source == element

-- a number that is taken, or none
abbrev taken_number : ℕ → ℕ → ℕ → ℕ → List ℕ
taken_number receiver priority number element = if nat_lt 0 priority && receiver == element then number ∷ [] else []

-- an end of lines which those of the earlier links keep, and which those of a new link have at two elements
pub record IsEnd (end : Topology → ℕ → ℕ) (plan : Topology) (link : Link) (to_b to_a : ℕ) : Type 0 where
  pub before : (line : ℕ) → line < 2 * length plan.links → end (with_link plan link) line ≡ end plan line
  pub at_b : end (with_link plan link) (2 * length plan.links) ≡ to_b
  pub at_a : end (with_link plan link) (2 * length plan.links + 1) ≡ to_a

half-even : (n : ℕ) → 2 * n / 2 ≡ n
half-even n = omega arith

half-odd : (n : ℕ) → (2 * n + 1) / 2 ≡ n
half-odd n = omega arith

even-is : (n : ℕ) → 2 * n % 2 ≡ 0
even-is n = omega arith

odd-is : (n : ℕ) → (2 * n + 1) % 2 ≡ 1
odd-is n = omega arith

pub receivers : (plan : Topology) (link : Link) → IsEnd receiver_of plan link link.b link.a
receivers plan link = record {
  before = λ line h. rw (slice_get-push_before plan.links link (line / 2) (omega arith)) refl;
  at_b = rw (slice_get-push_last plan.links link (2 * length plan.links / 2) (half-even (length plan.links)), even-is (length plan.links)) refl;
  at_a = rw (slice_get-push_last plan.links link ((2 * length plan.links + 1) / 2) (half-odd (length plan.links)), odd-is (length plan.links)) refl;
}

senders : (plan : Topology) (link : Link) → IsEnd sender_of plan link link.a link.b
senders plan link = record {
  before = λ line h. rw (slice_get-push_before plan.links link (line / 2) (omega arith)) refl;
  at_b = rw (slice_get-push_last plan.links link (2 * length plan.links / 2) (half-even (length plan.links)), even-is (length plan.links)) refl;
  at_a = rw (slice_get-push_last plan.links link ((2 * length plan.links + 1) / 2) (half-odd (length plan.links)), odd-is (length plan.links)) refl;
}

-- the priorities of the lines of the earlier links stay what they were, and a link brings two
pub priority-before : (plan : Topology) (link : Link) (line : ℕ) → line < 2 * length plan.links → priority_of (with_link plan link) line ≡ priority_of plan line
priority-before plan link line h = rw (slice_get-push_before plan.links link (line / 2) (omega arith)) refl

pub priority-to_b : (plan : Topology) (link : Link) → priority_of (with_link plan link) (2 * length plan.links) ≡ link.priority_b
priority-to_b plan link =
    rw (slice_get-push_last plan.links link (2 * length plan.links / 2) (half-even (length plan.links)), even-is (length plan.links)) refl

pub priority-to_a : (plan : Topology) (link : Link) → priority_of (with_link plan link) (2 * length plan.links + 1) ≡ link.priority_a
priority-to_a plan link =
    rw (slice_get-push_last plan.links link ((2 * length plan.links + 1) / 2) (half-odd (length plan.links)), odd-is (length plan.links)) refl

-- the lines that a link brings come last
lines_at-push : (end : Topology → ℕ → ℕ) (plan : Topology) (link : Link) (to_b to_a element : ℕ) → IsEnd end plan link to_b to_a
    → filter (is_line_at end (with_link plan link) element) (range_with_len 0 (line_count (with_link plan link)))
    ≡ filter (is_line_at end plan element) (range_with_len 0 (line_count plan))
    ++ taken_number to_b link.priority_b (2 * length plan.links) element ++ taken_number to_a link.priority_a (2 * length plan.links + 1) element
lines_at-push end plan link to_b to_a element ends =
    let n = length plan.links in
    let count : 2 * length (plan.links ++ link ∷ []) ≡ 2 * n + 1 + 1 = omega (arith, length-append plan.links (link ∷ [])) in
    let p = is_line_at end (with_link plan link) element in
    let before : (line : ℕ) → line < 2 * n → p line ≡ is_line_at end plan element line
    = λ line h. rw (priority-before plan link line h, ends.before line h) refl in
    let last_b : p (2 * n) ≡ (nat_lt 0 link.priority_b && to_b == element) = rw (priority-to_b plan link, ends.at_b) refl in
    let last_a : p (2 * n + 1) ≡ (nat_lt 0 link.priority_a && to_a == element) = rw (priority-to_a plan link, ends.at_a) refl in
    rw (
      count,
      filter_range_more p (2 * n + 1),
      filter_range_more p (2 * n),
      filter_range_agree p (is_line_at end plan element) (2 * n) before,
      last_b,
      last_a,
    ) refl

-- a number that is taken, as the input that it stands for
map-taken_number : {A : Type 0} (f : ℕ → A) (receiver priority number element : ℕ)
    → map f (taken_number receiver priority number element) ≡ taken receiver priority (f number) element
map-taken_number f receiver priority number element =
    elim (nat_lt 0 priority && receiver == element) as (λ b. map f (if b then number ∷ [] else []) ≡ (if b then f number ∷ [] else [])) [ true ↦ refl | false ↦ refl ]

-- the inputs that a link brings come last, while there are no sources
pub inputs_of-link : (plan : Topology) (link : Link) (element : ℕ) → plan.sources ≡ []
    → inputs_of (with_link plan link) element
    ≡ inputs_of plan element ++ taken link.b link.priority_b (line_input (2 * length plan.links)) element ++ taken link.a link.priority_a (line_input (2 * length plan.links + 1)) element
inputs_of-link plan link element none =
    let n = length plan.links in
    let to_b = taken_number link.b link.priority_b (2 * n) element in
    let to_a = taken_number link.a link.priority_a (2 * n + 1) element in
    rw (
      none,
      lines_at-push receiver_of plan link link.b link.a element (receivers plan link),
      append-nil (map line_input (lines_into plan element ++ to_b ++ to_a)),
      append-nil (map line_input (lines_into plan element)),
      map-append line_input (lines_into plan element ++ to_b) to_a,
      map-append line_input (lines_into plan element) to_b,
      map-taken_number line_input link.b link.priority_b (2 * n) element,
      map-taken_number line_input link.a link.priority_a (2 * n + 1) element,
    ) refl

-- so do the lines out of an element
pub lines_out-link : (plan : Topology) (link : Link) (element : ℕ)
    → lines_out (with_link plan link) element
    ≡ lines_out plan element ++ taken link.a link.priority_b (line_id (2 * length plan.links)) element ++ taken link.b link.priority_a (line_id (2 * length plan.links + 1)) element
lines_out-link plan link element =
    let n = length plan.links in
    let own = filter (is_line_at sender_of plan element) (range_with_len 0 (line_count plan)) in
    let to_b = taken_number link.a link.priority_b (2 * n) element in
    let to_a = taken_number link.b link.priority_a (2 * n + 1) element in
    rw (
      lines_at-push sender_of plan link link.a link.b element (senders plan link),
      map-append line_id (own ++ to_b) to_a,
      map-append line_id own to_b,
      map-taken_number line_id link.a link.priority_b (2 * n) element,
      map-taken_number line_id link.b link.priority_a (2 * n + 1) element,
    ) refl

-- the earlier sources stay what they were, and a source comes last
is_source_at-before : (plan : Topology) (source : declared.Source) (element j : ℕ) → j < length plan.sources
    → is_source_at (with_source plan source) element j ≡ is_source_at plan element j
is_source_at-before plan source element j h = rw (slice_get-push_before plan.sources source j h) refl

is_source_at-last : (plan : Topology) (source : declared.Source) (element : ℕ)
    → is_source_at (with_source plan source) element (length plan.sources) ≡ (nat_lt 0 source.priority && source.at == element)
is_source_at-last plan source element = rw (slice_get-push_last plan.sources source (length plan.sources) refl) refl

sources_at-push : (plan : Topology) (source : declared.Source) (element : ℕ)
    → sources_at (with_source plan source) element ≡ sources_at plan element ++ taken_number source.at source.priority (length plan.sources) element
sources_at-push plan source element =
    let n = length plan.sources in
    let p = is_source_at (with_source plan source) element in
    rw (
      length-append plan.sources (source ∷ []),
      filter_range_more p n,
      filter_range_agree p (is_source_at plan element) n (is_source_at-before plan source element),
      is_source_at-last plan source element,
    ) refl

pub inputs_of-source : (plan : Topology) (source : declared.Source) (element : ℕ)
    → inputs_of (with_source plan source) element
    ≡ inputs_of plan element ++ taken source.at source.priority (Source (length plan.sources)) element
inputs_of-source plan source element =
    let last = taken_number source.at source.priority (length plan.sources) element in
    rw (
      sources_at-push plan source element,
      map-append Source (sources_at plan element) last,
      map-taken_number Source source.at source.priority (length plan.sources) element,
    ) (sym (append_assoc (map line_input (lines_into plan element)) (map Source (sources_at plan element)) (taken source.at source.priority (Source (length plan.sources)) element)))

-- an element takes nothing of an input of another
pub taken-other : {A : Type 0} (receiver priority : ℕ) (input : A) (element : ℕ) → receiver ≢ element → taken receiver priority input element ≡ []
taken-other receiver priority input element other =
    let apart : (receiver == element) ≡ false = ne_eqb receiver element other in
    rw apart (elim (nat_lt 0 priority) as (λ b. (if b && false then input ∷ [] else []) ≡ []) [ true ↦ refl | false ↦ refl ])

-- an element takes its own where it has a priority
pub taken-own : {A : Type 0} (owner priority : ℕ) (item : A) → nat_lt 0 priority ≡ true → taken owner priority item owner ≡ item ∷ []
taken-own owner priority item nominated = rw (nominated, eq-eqb owner owner refl) refl

-- how many inputs an element takes of one of its own
length-taken : {A : Type 0} (priority : ℕ) (input : A) (element : ℕ) → length (taken element priority input element) ≡ (if nat_lt 0 priority then 1 else 0)
length-taken priority input element =
    let same : (element == element) ≡ true = eq-eqb element element refl in
    rw same (elim (nat_lt 0 priority) as (λ b. length (if b && true then input ∷ [] else []) ≡ (if b then 1 else 0)) [ true ↦ refl | false ↦ refl ])

-- how many inputs each end of a link then has
pub inputs-at_a : (plan : Topology) (link : Link) → plan.sources ≡ [] → link.a ≢ link.b
    → length (inputs_of (with_link plan link) link.a) ≡ length (inputs_of plan link.a) + (if nat_lt 0 link.priority_a then 1 else 0)
inputs-at_a plan link empty apart =
    let n = length plan.links in
    let before = inputs_of plan link.a in
    let none : taken link.b link.priority_b (line_input (2 * n)) link.a ≡ [] = taken-other link.b link.priority_b (line_input (2 * n)) link.a (λ e. apart (sym e)) in
    let own = taken link.a link.priority_a (line_input (2 * n + 1)) link.a in
    let is : inputs_of (with_link plan link) link.a ≡ before ++ own = rw (inputs_of-link plan link link.a empty, none, append-nil before) refl in
    ap length is ∙ length-append before own ∙ ap (λ (k : ℕ). length before + k) (length-taken link.priority_a (line_input (2 * n + 1)) link.a)

pub inputs-at_b : (plan : Topology) (link : Link) → plan.sources ≡ [] → link.a ≢ link.b
    → length (inputs_of (with_link plan link) link.b) ≡ length (inputs_of plan link.b) + (if nat_lt 0 link.priority_b then 1 else 0)
inputs-at_b plan link empty apart =
    let n = length plan.links in
    let before = inputs_of plan link.b in
    let none : taken link.a link.priority_a (line_input (2 * n + 1)) link.b ≡ [] = taken-other link.a link.priority_a (line_input (2 * n + 1)) link.b apart in
    let own = taken link.b link.priority_b (line_input (2 * n)) link.b in
    let is : inputs_of (with_link plan link) link.b ≡ before ++ own = rw (inputs_of-link plan link link.b empty, none, append-nil (before ++ own)) refl in
    ap length is ∙ length-append before own ∙ ap (λ (k : ℕ). length before + k) (length-taken link.priority_b (line_input (2 * n)) link.b)

-- how many inputs the element of a source then has
pub inputs-at_source : (plan : Topology) (source : declared.Source)
    → length (inputs_of (with_source plan source) source.at) ≡ length (inputs_of plan source.at) + (if nat_lt 0 source.priority then 1 else 0)
inputs-at_source plan source =
    let before = inputs_of plan source.at in
    let own = taken source.at source.priority (Source (length plan.sources)) source.at in
    ap length (inputs_of-source plan source source.at) ∙ length-append before own ∙ ap (λ (k : ℕ). length before + k) (length-taken source.priority (Source (length plan.sources)) source.at)

-- what is kept of a range is within it
filter_range-within : (p : ℕ → Bool) (n : ℕ) → All (λ k. k < n) (filter p (range_with_len 0 n))
filter_range-within p n =
    All-filter p (λ k. k < n) (range_with_len 0 n)
    (λ j e h. rw (get_or-range_with_len 0 n j e (rw (length-range_with_len 0 n) at h), zero-add j) (rw (length-range_with_len 0 n) at h))

-- every input is one of the plan's
pub inputs_of-within : (plan : Topology) (element : ℕ) → All (IsInput plan) (inputs_of plan element)
inputs_of-within plan element =
    All-append (IsInput plan) (map line_input (lines_into plan element)) (map Source (sources_at plan element))
    (All-map (IsInput plan) line_input (lines_into plan element) (filter_range-within (is_line_at receiver_of plan element) (line_count plan)))
    (All-map (IsInput plan) Source (sources_at plan element) (filter_range-within (is_source_at plan element) (length plan.sources)))
