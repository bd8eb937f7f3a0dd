-- What a plan with other priorities has in common with the plan.
use Rattle.std.proofs.Common.{◌≡◌, ◌≢◌, ℕ, zero, suc, ◌+◌, ◌*◌, ◌/◌, ◌%◌, ◌<◌, ◌≤◌, Bool, true, false, List, [], ◌∷◌, length, Option, Some, None, refl, sym, ap, subst, ◌∙◌, inl, inr, arith, slice_get}
use Rattle.std.specs.Prelude.{if◌then◌else◌, option_map}
use Rattle.std.specs.Option.{option_map_or}
use Rattle.std.proofs.lemmas.Bool.{eqb-true, true≢false, eq-eqb}
use Rattle.std.proofs.lemmas.Option.{none-some, same_Some, slice_get_cases}
use Rattle.sync_topo.specs.declared.link.Link.{Link}
use Rattle.sync_topo.specs.Topology.{Topology}
use Rattle.sync_topo.specs.Names.{link_names}
use Rattle.sync_topo.specs.Limits.{greatest_priority, input_limit}
use Rattle.sync_topo.specs.Lines.{line_count, ends_at_b, sender_of, receiver_of, priority_of, inputs_of}
use Rattle.sync_topo.specs.WellFormed.{IsWellFormed, JoinsTwo}
use Rattle.nominate.specs.Nomination.{with_priorities}

-- a link with the priorities of its lines
abbrev with_own : (ℕ → ℕ) → ℕ → Link → Link
with_own f k link = record link { priority_a = f (2 * k + 1); priority_b = f (2 * k) }

pub with-long : (f : ℕ → ℕ) (k : ℕ) (links : List Link) → length (with_priorities f k links) ≡ length links
with-long f k [] = refl
with-long f k (link ∷ links) = ap suc (with-long f (k + 1) links)

pub with-names : (f : ℕ → ℕ) (k : ℕ) (links : List Link) → link_names (with_priorities f k links) ≡ link_names links
with-names f k [] = refl
with-names f k (link ∷ links) = ap (λ (names : List (List ℕ)). link.name ∷ names) (with-names f (k + 1) links)

pub with-get : (f : ℕ → ℕ) (k i : ℕ) (links : List Link) → slice_get (with_priorities f k links) i ≡ option_map (with_own f (k + i)) (slice_get links i)
with-get f k i [] = refl
with-get f k zero (link ∷ links) = let here : k ≡ k + 0 = omega arith in ap (λ (n : ℕ). Some (with_own f n link)) here
with-get f k (suc i) (link ∷ links) =
    let there : k + 1 + i ≡ k + suc i = omega arith in
    with-get f (k + 1) i links ∙ ap (λ (n : ℕ). option_map (with_own f n) (slice_get links i)) there

-- priorities that are the same on the lines of the links give the same links
pub with-same : (f g : ℕ → ℕ) (k : ℕ) (links : List Link) → ((line : ℕ) → 2 * k ≤ line → line < 2 * (k + length links) → f line ≡ g line)
    → with_priorities f k links ≡ with_priorities g k links
with-same f g k [] same = refl
with-same f g k (link ∷ links) same =
    let a : f (2 * k + 1) ≡ g (2 * k + 1) = same (2 * k + 1) (omega arith) (omega arith) in
    let b : f (2 * k) ≡ g (2 * k) = same (2 * k) (omega arith) (omega arith) in
    let rest : with_priorities f (k + 1) links ≡ with_priorities g (k + 1) links = with-same f g (k + 1) links (λ line low high. same line (omega (arith, low)) (omega (arith, high))) in
    rw (a, b, rest) refl

module _ (plan : Topology) (f : ℕ → ℕ) where
  -- the plan with these priorities
  abbrev pub changed : Topology
  changed = record plan { links = with_priorities f 0 plan.links }

  changed-get : (i : ℕ) → slice_get changed.links i ≡ option_map (with_own f i) (slice_get plan.links i)
  changed-get i = let here : 0 + i ≡ i = omega arith in with-get f 0 i plan.links ∙ ap (λ (n : ℕ). option_map (with_own f n) (slice_get plan.links i)) here

  -- each of its links is one of the plan's but for priorities
  pub link-before : (i : ℕ) (link : Link) → slice_get changed.links i ≡ Some link → (old : Link) × (slice_get plan.links i ≡ Some old) × (link ≡ with_own f i old)
  link-before i link is = by (slice_get plan.links i) refl
    where
      by : (o : Option Link) → slice_get plan.links i ≡ o → (old : Link) × (slice_get plan.links i ≡ Some old) × (link ≡ with_own f i old)
      by None at = absurd (none-some link (sym (changed-get i ∙ ap (option_map (with_own f i)) at) ∙ is))
      by (Some old) at = (old, at, same_Some link (with_own f i old) (sym is ∙ changed-get i ∙ ap (option_map (with_own f i)) at))

  pub lines-same : line_count changed ≡ line_count plan
  lines-same = ap (λ (n : ℕ). 2 * n) (with-long f 0 plan.links)

  pub sender-same : (line : ℕ) → sender_of changed line ≡ sender_of plan line
  sender-same line = rw (changed-get (line / 2)) (by (slice_get plan.links (line / 2)))
    where
      by : (o : Option Link) → option_map_or (λ link. if ends_at_b line then link.a else link.b) (option_map (with_own f (line / 2)) o) 0
          ≡ option_map_or (λ link. if ends_at_b line then link.a else link.b) o 0
      by None = refl
      by (Some link) = refl

  pub receiver-same : (line : ℕ) → receiver_of changed line ≡ receiver_of plan line
  receiver-same line = rw (changed-get (line / 2)) (by (slice_get plan.links (line / 2)))
    where
      by : (o : Option Link) → option_map_or (λ link. if ends_at_b line then link.b else link.a) (option_map (with_own f (line / 2)) o) 0
          ≡ option_map_or (λ link. if ends_at_b line then link.b else link.a) o 0
      by None = refl
      by (Some link) = refl

  -- each line has the priority that is meant
  pub priority-is : (line : ℕ) → line < line_count plan → priority_of changed line ≡ f line
  priority-is line inside = elim (slice_get_cases plan.links (line / 2)).1 [
    | inl there ↦ rw (changed-get (line / 2), there.2) (by (ends_at_b line) refl)
    | inr past ↦ absurd (omega (arith, inside, past.0))
  ]
    where
      by : (b : Bool) → ends_at_b line ≡ b → (if b then f (2 * (line / 2)) else f (2 * (line / 2) + 1)) ≡ f line
      by true even = let e : line % 2 ≡ 0 = eqb-true (line % 2) 0 even in ap f (omega (arith, e))
      by false odd =
          let apart : line % 2 ≢ 0 = λ zero_rest. true≢false (sym (eq-eqb (line % 2) 0 zero_rest) ∙ odd) in
          ap f (omega (arith, apart))

  -- it keeps every rule, where the priorities fit and no element has too many inputs
  pub changed-well : IsWellFormed plan → ((line : ℕ) → f line ≤ greatest_priority) → ((element : ℕ) → length (inputs_of changed element) ≤ input_limit) → IsWellFormed changed
  changed-well well fits few = record {
    few_elements = well.few_elements;
    few_links = rw (with-long f 0 plan.links) well.few_links;
    few_sources = well.few_sources;
    elements_named = well.elements_named;
    elements_distinct = well.elements_distinct;
    elements_fit = well.elements_fit;
    links_named = rw (with-names f 0 plan.links) well.links_named;
    links_distinct = rw (with-names f 0 plan.links) well.links_distinct;
    links_join = λ i link is.
        let before = link-before i link is in
        let joins = well.links_join i before.0 before.1 in
        subst (JoinsTwo (length plan.elements)) (sym before.2) (record {
          a_is_element = joins.a_is_element;
          b_is_element = joins.b_is_element;
          apart = joins.apart;
          priority_a_fits = fits (2 * i + 1);
          priority_b_fits = fits (2 * i);
          least_delay_a = joins.least_delay_a;
          greatest_delay_a = joins.greatest_delay_a;
          least_delay_b = joins.least_delay_b;
          greatest_delay_b = joins.greatest_delay_b;
        });
    bundles_named = λ i link is.
        let before = link-before i link is in
        rw before.2 (well.bundles_named i before.0 before.1);
    bundles_join = λ i j one other is also same.
        let before = link-before i one is in
        let before_other = link-before j other also in
        rw (before.2, before_other.2) (well.bundles_join i j before.0 before_other.0 before.1 before_other.1 (rw (before.2, before_other.2) at same));
    sources_named = well.sources_named;
    sources_distinct = well.sources_distinct;
    sources_are_no_links = λ j source is. rw (with-names f 0 plan.links) (well.sources_are_no_links j source is);
    sources_fit = well.sources_fit;
    few_inputs = few;
  }
