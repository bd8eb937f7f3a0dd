-- Laws of bundles, and of lines that go back.
use Rattle.std.proofs.Common.{◌≡◌, ◌↔◌, ℕ, ◌+◌, ◌/◌, ◌%◌, ◌<◌, ◌≤◌, Bool, true, false, ◌&&◌, ◌||◌, ◌==◌, List, length, Option, Some, None, slice_get, refl, sym, ap, ◌∙◌, inl, inr, arith, ne_eqb, ◌-◌}
use Rattle.std.specs.Prelude.{◌≢◌, ◌⊎◌, option_and_then, if◌then◌else◌}
use Rattle.std.proofs.lemmas.Bool.{cases_Bool, cases_lt, eq-eqb, eqb-true, and_parts, or_cases, true≢false}
use Rattle.std.proofs.lemmas.Bool.Decides.{eqb_tells}
use Rattle.std.proofs.lemmas.Option.{same_Some}
use Rattle.sync_topo.specs.declared.link.Link.{Link}
use Rattle.sync_topo.specs.Topology.{Topology}
use Rattle.sync_topo.specs.Lines.{line_count, ends_at_b, sender_of, receiver_of, reverse_of}
use Rattle.sync_topo.specs.Bundles.{is_same_bundle, bundle_name, are_of_one_bundle, lowest_of_bundle, bundle_of, are_bundled, join_same, BundlesJoin, NamesNoBundle}
use Rattle.sync_topo.specs.Hops.{goes_back}
use Rattle.sync_topo.specs.WellFormed.{IsWellFormed}
use Rattle.sync_topo.proofs.BundleLemmas.{lowest-there, lowest-is, same-None}
use Rattle.sync_topo.proofs.BundleRules.{same-is, same-sym, join-itself}
use Rattle.sync_topo.proofs.LineNames.{link_there}

or_left : (b c : Bool) → b ≡ true → (b || c) ≡ true
or_left b c e = rw e refl

or_right : (b c : Bool) → c ≡ true → (b || c) ≡ true
or_right true c e = refl
or_right false c e = e

same-trans : (one other third : Option (List ℕ)) → is_same_bundle one other ≡ true → is_same_bundle other third ≡ true → is_same_bundle one third ≡ true
same-trans one other third first second = rw (same-is one other first) second

-- being of one bundle goes both ways, and on
one-sym : (links : List Link) (i j : ℕ) → are_of_one_bundle links i j ≡ true → are_of_one_bundle links j i ≡ true
one-sym links i j one = elim (or_cases (i == j) (is_same_bundle (bundle_name links i) (bundle_name links j)) one) [
  | inl same ↦ or_left (j == i) _ (eq-eqb j i (sym (eqb-true i j same)))
  | inr same ↦ or_right (j == i) _ (same-sym (bundle_name links i) (bundle_name links j) same)
]

one-trans : (links : List Link) (i j k : ℕ) → are_of_one_bundle links i j ≡ true → are_of_one_bundle links j k ≡ true → are_of_one_bundle links i k ≡ true
one-trans links i j k first second = elim (or_cases (i == j) (is_same_bundle (bundle_name links i) (bundle_name links j)) first) [
  | inl same ↦ rw (eqb-true i j same) second
  | inr named ↦ elim (or_cases (j == k) (is_same_bundle (bundle_name links j) (bundle_name links k)) second) [
    | inl same ↦ rw (← eqb-true j k same) first
    | inr named_too ↦ or_right (i == k) _ (same-trans (bundle_name links i) (bundle_name links j) (bundle_name links k) named named_too)
  ]
]

-- the number of a bundle is no greater than that of any link of it
pub lowest-of-all : (links : List Link) (link other : ℕ) → link < length links → are_of_one_bundle links other link ≡ true → lowest_of_bundle links link ≤ other
lowest-of-all links link other within one = elim (cases_lt other (lowest_of_bundle links link)) [
  | inl below ↦ absurd (true≢false (sym one ∙ (lowest-there links link within).lowest other below))
  | inr up_to ↦ up_to
]

-- two links have one number exactly where they are of one bundle
pub one-number : (links : List Link) (i j : ℕ) → i < length links → j < length links
    → (lowest_of_bundle links i ≡ lowest_of_bundle links j) ↔ (are_of_one_bundle links i j ≡ true)
one-number links i j i_within j_within =
    let of_i = lowest-there links i i_within in
    let of_j = lowest-there links j j_within in
    let first : ℕ = lowest_of_bundle links i in
    let other : ℕ = lowest_of_bundle links j in (
      λ same.
          let at : are_of_one_bundle links first j ≡ true = rw same of_j.same in
          one-trans links i first j (one-sym links first i of_i.same) at,
      λ one.
          let first_up_to : first ≤ other = lowest-of-all links i other i_within (one-trans links other j i of_j.same (one-sym links i j one)) in
          let other_up_to : other ≤ first = lowest-of-all links j first j_within (one-trans links first i j of_i.same one) in
          omega (arith, first_up_to, other_up_to),
    )

-- links of one bundle join the same two elements
bundle_joins : (links : List Link) (i j : ℕ) (one other : Link) → BundlesJoin links → slice_get links i ≡ Some one → slice_get links j ≡ Some other
    → are_of_one_bundle links i j ≡ true → join_same one other ≡ true
bundle_joins links i j one other join at_i at_j of_one = elim (or_cases (i == j) (is_same_bundle (bundle_name links i) (bundle_name links j)) of_one) [
  | inl same ↦
      let is : one ≡ other = same_Some one other (sym at_i ∙ ap (slice_get links) (eqb-true i j same) ∙ at_j) in
      rw is (join-itself other)
  | inr named ↦ join i j one other at_i at_j (rw (at_i, at_j) at named)
]

-- ---- lines

-- the ends of a line, by the direction that it runs in
begin_of : Bool → Link → ℕ
begin_of to_b link = if to_b then link.a else link.b

end_of : Bool → Link → ℕ
end_of to_b link = if to_b then link.b else link.a

-- a line over a bundle that begins where another ends leads back to where that begins
back_ends : (to_b back_to_b : Bool) (link back : Link) → link.a ≢ link.b → join_same link back ≡ true → (if to_b then link.b else link.a) ≡ (if back_to_b then back.a else back.b)
    → (if back_to_b then back.b else back.a) ≡ (if to_b then link.a else link.b)
back_ends to_b back_to_b link back apart same meets = by to_b back_to_b (or_cases _ _ same) meets
  where
    by : (t u : Bool) → ((link.a == back.a && link.b == back.b) ≡ true) ⊎ ((link.a == back.b && link.b == back.a) ≡ true)
        → (if t then link.b else link.a) ≡ (if u then back.a else back.b) → (if u then back.b else back.a) ≡ (if t then link.a else link.b)
    by t u (inl both) m = straight t u (eqb-true _ _ (and_parts _ _ both).0) (eqb-true _ _ (and_parts _ _ both).1) m
      where
        straight : (t u : Bool) → link.a ≡ back.a → link.b ≡ back.b → (if t then link.b else link.a) ≡ (if u then back.a else back.b)
            → (if u then back.b else back.a) ≡ (if t then link.a else link.b)
        straight true true ea eb m = absurd (apart (ea ∙ sym m))
        straight true false ea eb m = sym ea
        straight false true ea eb m = sym eb
        straight false false ea eb m = absurd (apart (m ∙ sym eb))
    by t u (inr both) m = crossed t u (eqb-true _ _ (and_parts _ _ both).0) (eqb-true _ _ (and_parts _ _ both).1) m
      where
        crossed : (t u : Bool) → link.a ≡ back.b → link.b ≡ back.a → (if t then link.b else link.a) ≡ (if u then back.a else back.b)
            → (if u then back.b else back.a) ≡ (if t then link.a else link.b)
        crossed true true ea eb m = sym ea
        crossed true false ea eb m = absurd (apart (ea ∙ sym m))
        crossed false true ea eb m = absurd (apart (m ∙ sym eb))
        crossed false false ea eb m = sym eb

pub back-ends_where_begins : (plan : Topology) (line back : ℕ) → IsWellFormed plan → line < line_count plan → back < line_count plan
    → goes_back plan line back ≡ true → receiver_of plan back ≡ sender_of plan line
back-ends_where_begins plan line back well within back_within goes =
    let both = and_parts (receiver_of plan line == sender_of plan back) (are_bundled plan line back) goes in
    let there = link_there plan line within in
    let there_back = link_there plan back back_within in
    let one = (one-number plan.links (line / 2) (back / 2) (omega arith) (omega arith)).0 (eqb-true _ _ both.1) in
    let same = bundle_joins plan.links (line / 2) (back / 2) there.0 there_back.0 well.bundles_join there.1 there_back.1 one in
    let meets = eqb-true (receiver_of plan line) (sender_of plan back) both.0 in
    rw (there.1, there_back.1) (back_ends (ends_at_b line) (ends_at_b back) there.0 there_back.0 (well.links_join (line / 2) there.0 there.1).apart same (rw (there.1, there_back.1) at meets))

pub back-sym : (plan : Topology) (line back : ℕ) → IsWellFormed plan → line < line_count plan → back < line_count plan
    → goes_back plan line back ≡ true → goes_back plan back line ≡ true
back-sym plan line back well within back_within goes =
    let both = and_parts (receiver_of plan line == sender_of plan back) (are_bundled plan line back) goes in
    let ends = back-ends_where_begins plan line back well within back_within goes in
    rw (eq-eqb _ _ ends) (eq-eqb _ _ (sym (eqb-true _ _ both.1)))

pub back-apart : (plan : Topology) (line : ℕ) → IsWellFormed plan → line < line_count plan → goes_back plan line line ≡ false
back-apart plan line well within = elim (cases_Bool (goes_back plan line line)) [
  | inr apart ↦ apart
  | inl goes ↦
      let there = link_there plan line within in
      let meets = eqb-true (receiver_of plan line) (sender_of plan line) (and_parts (receiver_of plan line == sender_of plan line) (are_bundled plan line line) goes).0 in
      absurd (own (ends_at_b line) there.0 (well.links_join (line / 2) there.0 there.1).apart (rw there.1 at meets))
]
  where
    own : (to_b : Bool) (link : Link) → link.a ≢ link.b → (if to_b then link.b else link.a) ≡ (if to_b then link.a else link.b) → ⊥
    own true link apart e = apart (sym e)
    own false link apart e = apart e

-- ---- plans without bundles

pub unnamed-alone : (plan : Topology) (link : ℕ) → link < length plan.links → bundle_name plan.links link ≡ None → bundle_of plan link ≡ link
unnamed-alone plan link within unnamed =
    lowest-is plan.links link link within (or_left (link == link) _ (eq-eqb link link refl)) (λ i below. alone i below)
  where
    alone : (i : ℕ) → i < link → are_of_one_bundle plan.links i link ≡ false
    alone i below = elim (eqb_tells i link) [
      | inl same ↦ absurd (omega (arith, same.1))
      | inr other ↦ rw (other.0, unnamed) (same-None (bundle_name plan.links i))
    ]

-- ---- the reverse of a line

pub back-reverse : (plan : Topology) (line : ℕ) → line < line_count plan → goes_back plan line (reverse_of line) ≡ true
back-reverse plan line within = by (ends_at_b line) refl
  where
    met : (back : ℕ) → sender_of plan back ≡ receiver_of plan line → back / 2 ≡ line / 2 → goes_back plan line back ≡ true
    met back begins half = rw (eq-eqb _ _ (sym begins)) (eq-eqb _ _ (ap (lowest_of_bundle plan.links) (sym half)))

    by : (to_b : Bool) → ends_at_b line ≡ to_b → goes_back plan line (if to_b then line + 1 else line - 1) ≡ true
    by true e =
        let even : line % 2 ≡ 0 = eqb-true (line % 2) 0 e in
        let half : (line + 1) / 2 ≡ line / 2 = omega arith in
        let odd : ends_at_b (line + 1) ≡ false = ne_eqb ((line + 1) % 2) 0 (omega arith) in
        met (line + 1) (rw (half, odd, e) refl) half
    by false e =
        let odd : line % 2 ≢ 0 = λ zero. true≢false (sym (eq-eqb (line % 2) 0 zero) ∙ e) in
        let half : (line - 1) / 2 ≡ line / 2 = omega arith in
        let even : ends_at_b (line - 1) ≡ true = eq-eqb ((line - 1) % 2) 0 (omega arith) in
        met (line - 1) (rw (half, even, e) refl) half

-- where no link names a bundle, only the reverse of a line goes back from it
pub unbundled-reverse : (plan : Topology) (line back : ℕ) → IsWellFormed plan → NamesNoBundle plan → line < line_count plan → back < line_count plan
    → (goes_back plan line back ≡ true) ↔ (back ≡ reverse_of line)
unbundled-reverse plan line back well none within back_within = (
  λ goes. by (ends_at_b line) refl (half goes) (apart goes),
  λ is. rw is (back-reverse plan line within),
)
  where
    own_number : (k : ℕ) → k < length plan.links → bundle_of plan k ≡ k
    own_number k inside = unnamed-alone plan k inside (unnamed (slice_get plan.links k) refl)
      where
        unnamed : (there : Option Link) → slice_get plan.links k ≡ there → option_and_then (λ (l : Link). l.bundle) there ≡ None
        unnamed None at = refl
        unnamed (Some link) at = none k link at

    half : goes_back plan line back ≡ true → line / 2 ≡ back / 2
    half goes =
        let same : bundle_of plan (line / 2) ≡ bundle_of plan (back / 2)
        = eqb-true _ _ (and_parts (receiver_of plan line == sender_of plan back) (are_bundled plan line back) goes).1 in
        sym (own_number (line / 2) (omega arith)) ∙ same ∙ own_number (back / 2) (omega arith)

    apart : goes_back plan line back ≡ true → back ≢ line
    apart goes same =
        let own : goes_back plan line line ≡ true = rw same at goes in
        true≢false (sym own ∙ back-apart plan line well within)

    by : (to_b : Bool) → ends_at_b line ≡ to_b → line / 2 ≡ back / 2 → back ≢ line → back ≡ (if to_b then line + 1 else line - 1)
    by true e halves other = let even : line % 2 ≡ 0 = eqb-true (line % 2) 0 e in omega (arith, other)
    by false e halves other =
        let odd : line % 2 ≢ 0 = λ zero. true≢false (sym (eq-eqb (line % 2) 0 zero) ∙ e) in omega (arith, other, odd)
