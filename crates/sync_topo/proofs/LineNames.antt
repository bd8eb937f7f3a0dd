-- A line's name tells its link and its receiver.
use Rattle.std.proofs.Common.{◌≡◌, ℕ, ◌+◌, ◌*◌, ◌/◌, ◌%◌, ◌<◌, zero, suc, Bool, true, false, ◌||◌, List, [], ◌∷◌, ◌++◌, length, get_or, Some, None, slice_get, refl, ap, sym, ◌∙◌, inl, inr, arith, append_assoc}
use Rattle.std.specs.Prelude.{◌==◌, ◌≢◌, if◌then◌else◌}
use Rattle.std.specs.List.{list_all}
use Rattle.std.specs.Str.{bytes_eq}
use Rattle.std.proofs.lemmas.Bool.{cases_lt, and_parts, true≢false}
use Rattle.std.proofs.lemmas.Bool.Decides.{eqb_tells}
use Rattle.std.proofs.lemmas.List.Quantifiers.{position-Some}
use Rattle.std.proofs.lemmas.Option.{slice_get-get_or, slice_get_within, slice_get-map, same_Some, none-some}
use Rattle.std.proofs.lemmas.Slice.Eq.{bytes_eq-Decides}
use Rattle.sync_topo.specs.declared.link.Link.{Link}
use Rattle.sync_topo.specs.Topology.{Topology}
use Rattle.sync_topo.specs.Lines.{line_count, receiver_of, line_name, line_of_name, element_name}
use Rattle.sync_topo.specs.Names.{is_name, is_name_byte, is_named, place_of}
use Rattle.sync_topo.specs.Names.{link_names}
use Rattle.sync_topo.specs.WellFormed.{IsWellFormed}
use Rattle.sync_topo.specs.private.Naming.{has_sign, IsCut, line_into}
use Rattle.std.proofs.Math.Bool.{or-true}
use Rattle.sync_text.proofs.Ranges.{find_range-none, find_range-first}
use Rattle.sync_topo.proofs.Lists.{is_named-at}

-- two lists of bytes that differ
pub not_same : (xs ys : List ℕ) → (xs ≡ ys → ⊥) → bytes_eq xs ys ≡ false
not_same xs ys apart = false_unless (bytes_eq xs ys) (λ e. apart ((bytes_eq-Decides xs ys).0 e))
  where
    false_unless : (b : Bool) → (b ≡ true → ⊥) → b ≡ false
    false_unless true never = absurd (never refl)
    false_unless false never = refl

-- the sign > stands in no name
pub no_sign : (bytes : List ℕ) → list_all is_name_byte bytes ≡ true → has_sign bytes ≡ false
no_sign [] all = refl
no_sign (byte ∷ bytes) all =
    let parts = and_parts (is_name_byte byte) (list_all is_name_byte bytes) all in
    elim (eqb_tells byte 62) [
      | inl sign ↦ let wrong : is_name_byte 62 ≡ true = rw sign.1 at parts.0 in absurd (true≢false (sym wrong))
      | inr other ↦ rw (other.0, no_sign bytes parts.1) refl
    ]

-- bytes are cut at their first sign > in one way only
pub cut_once : (front other : List ℕ) (back rest : List ℕ) → has_sign front ≡ false → has_sign other ≡ false
    → front ++ 62 ∷ back ≡ other ++ 62 ∷ rest → (front ≡ other) × (back ≡ rest)
cut_once [] [] back rest f g e = (refl, cc)
cut_once [] (x ∷ other) back rest f g e =
    let sign : 62 ≡ x = cc in
    absurd (true≢false (rw (← sign) at g))
cut_once (x ∷ front) [] back rest f g e =
    let sign : x ≡ 62 = cc in
    absurd (true≢false (rw sign at f))
cut_once (x ∷ front) (y ∷ other) back rest f g e =
    let same : x ≡ y = cc in
    let tails : front ++ 62 ∷ back ≡ other ++ 62 ∷ rest = cc in
    let parts = cut_once front other back rest (or_false (x == 62) (has_sign front) f) (or_false (y == 62) (has_sign other) g) tails in
    let fronts : front ≡ other = parts.0 in
    (cc, parts.1)
  where
    or_false : (b c : Bool) → (b || c) ≡ false → c ≡ false
    or_false true c e = absurd (true≢false e)
    or_false false c e = e

-- a link of a plan, by a number in range
pub link_there : (plan : Topology) (line : ℕ) → line < line_count plan → (link : Link) × (slice_get plan.links (line / 2) ≡ Some link)
link_there plan line within = there plan.links (line / 2) (omega arith)
  where
    there : (links : List Link) (k : ℕ) → k < length links → (link : Link) × (slice_get links k ≡ Some link)
    there [] k inside = absurd (omega arith)
    there (link ∷ links) zero inside = (link, refl)
    there (link ∷ links) (suc k) inside = there links k (omega arith)

-- a link's name has no sign >
pub link_no_sign : (links : List Link) (k : ℕ) (link : Link) → list_all is_name (link_names links) ≡ true → slice_get links k ≡ Some link → has_sign link.name ≡ false
link_no_sign [] k link all at = absurd (none-some link at)
link_no_sign (first ∷ links) zero link all at =
    let same : first ≡ link = same_Some first link at in
    let good : is_name first.name ≡ true = (and_parts _ _ all).0 in
    rw (← same) (no_sign first.name (and_parts _ _ good).1)
link_no_sign (first ∷ links) (suc k) link all at = link_no_sign links k link (and_parts _ _ all).1 at

pub line_name-is : (plan : Topology) (line : ℕ) (link : Link) → slice_get plan.links (line / 2) ≡ Some link
    → line_name plan line ≡ link.name ++ 62 ∷ element_name plan (receiver_of plan line)
line_name-is plan line link at = rw (at) (append_assoc link.name (62 ∷ []) _)

-- a line has a name that is cut so, where its link and its receiver have these names
line_named : (plan : Topology) (line : ℕ) (link : Link) (name front back : List ℕ) → slice_get plan.links (line / 2) ≡ Some link → IsCut name front back
    → link.name ≡ front → element_name plan (receiver_of plan line) ≡ back → bytes_eq (line_name plan line) name ≡ true
line_named plan line link name front back at cut of_link of_receiver =
    let whole : line_name plan line ≡ name = line_name-is plan line link at ∙ (rw (of_link, of_receiver) (sym cut.whole)) in
    (bytes_eq-Decides (line_name plan line) name).1 whole

-- and no other name
line_not_named : (plan : Topology) (line : ℕ) (link : Link) (name front back : List ℕ) → IsWellFormed plan → slice_get plan.links (line / 2) ≡ Some link → IsCut name front back
    → (link.name ≡ front → element_name plan (receiver_of plan line) ≡ back → ⊥) → bytes_eq (line_name plan line) name ≡ false
line_not_named plan line link name front back well at cut apart =
    not_same (line_name plan line) name (λ same.
    let plain = link_no_sign plan.links (line / 2) link well.links_named at in
    let parts = cut_once link.name front (element_name plan (receiver_of plan line)) back plain cut.first (sym (line_name-is plan line link at) ∙ same ∙ cut.whole) in
    apart parts.0 parts.1)

-- bytes without the sign > name no line
pub unsigned-names_no_line : (plan : Topology) (name : List ℕ) → IsWellFormed plan → has_sign name ≡ false → line_of_name plan name ≡ None
unsigned-names_no_line plan name well unsigned =
    find_range-none (λ line. bytes_eq (line_name plan line) name) 0 (line_count plan) (λ line low high.
    let there = link_there plan line (omega arith) in
    not_same (line_name plan line) name (λ same.
    let signed : has_sign (line_name plan line) ≡ true = rw (line_name-is plan line there.0 there.1) (has_sign-seam there.0.name _) in
    true≢false (sym signed ∙ ap has_sign same ∙ unsigned)))
  where
    has_sign-seam : (front back : List ℕ) → has_sign (front ++ 62 ∷ back) ≡ true
    has_sign-seam [] back = refl
    has_sign-seam (x ∷ front) back = rw (has_sign-seam front back) (or-true (x == 62))

-- a name of a link that the plan doesn't have names no line
pub unknown_link-names_no_line : (plan : Topology) (name front back : List ℕ) → IsWellFormed plan → IsCut name front back
    → is_named (link_names plan.links) front ≡ false → line_of_name plan name ≡ None
unknown_link-names_no_line plan name front back well cut unknown =
    find_range-none (λ line. bytes_eq (line_name plan line) name) 0 (line_count plan) (λ line low high.
    let there = link_there plan line (omega arith) in
    line_not_named plan line there.0 name front back well there.1 cut (λ of_link of_receiver.
    let at : slice_get (link_names plan.links) (line / 2) ≡ Some front
    = slice_get-map (λ (l : Link). l.name) plan.links (line / 2) ∙ (rw (there.1, of_link) refl) in
    true≢false (sym (is_named-at (link_names plan.links) front (line / 2) at) ∙ unknown)))

-- two links of one name are one link
pub one_link : (plan : Topology) (j k : ℕ) (name : List ℕ) → IsWellFormed plan
    → slice_get (link_names plan.links) j ≡ Some name → slice_get (link_names plan.links) k ≡ Some name → j ≡ k
one_link plan j k name well at_j at_k =
    let within_j = slice_get_within (link_names plan.links) j name at_j in
    let within_k = slice_get_within (link_names plan.links) k name at_k in
    elim (cases_lt j k) [
      | inl before ↦ absurd (well.links_distinct j k before within_k (at_j ∙ sym at_k))
      | inr not_before ↦ elim (cases_lt k j) [
        | inl after ↦ absurd (well.links_distinct k j after within_j (at_k ∙ sym at_j))
        | inr not_after ↦ omega arith
      ]
    ]

-- the two lines of a link
receiver_of-even : (plan : Topology) (k : ℕ) (link : Link) → slice_get plan.links k ≡ Some link → receiver_of plan (2 * k) ≡ link.b
receiver_of-even plan k link at =
    let half : 2 * k / 2 ≡ k = omega arith in
    let even : 2 * k % 2 ≡ 0 = omega arith in
    rw (half, at, even) refl

receiver_of-odd : (plan : Topology) (k : ℕ) (link : Link) → slice_get plan.links k ≡ Some link → receiver_of plan (2 * k + 1) ≡ link.a
receiver_of-odd plan k link at =
    let half : (2 * k + 1) / 2 ≡ k = omega arith in
    let odd : (2 * k + 1) % 2 ≡ 1 = omega arith in
    rw (half, at, odd) refl

-- what is known once a link of the name was found
record Known (plan : Topology) (name front back : List ℕ) (k : ℕ) (link : Link) : Type 0 where
  well : IsWellFormed plan
  cut : IsCut name front back
  at : slice_get plan.links k ≡ Some link
  of_link : link.name ≡ front
  named : slice_get (link_names plan.links) k ≡ Some front

-- lines of other links don't have the name
other_line : (plan : Topology) (name front back : List ℕ) (k : ℕ) (link : Link) → Known plan name front back k link
    → (line : ℕ) → line < line_count plan → line / 2 ≢ k → bytes_eq (line_name plan line) name ≡ false
other_line plan name front back k link known line within other =
    let there = link_there plan line within in
    line_not_named plan line there.0 name front back known.well there.1 known.cut (λ of_link of_receiver.
    let at : slice_get (link_names plan.links) (line / 2) ≡ Some front
    = slice_get-map (λ (l : Link). l.name) plan.links (line / 2) ∙ (rw (there.1, of_link) refl) in
    other (one_link plan (line / 2) k front known.well at known.named))

-- the line into b, and the line into a
line_to_b : (plan : Topology) (name front back : List ℕ) (k : ℕ) (link : Link) → Known plan name front back k link
    → bytes_eq (line_name plan (2 * k)) name ≡ bytes_eq (element_name plan link.b) back
line_to_b plan name front back k link known =
    let half : 2 * k / 2 ≡ k = omega arith in
    let at : slice_get plan.links (2 * k / 2) ≡ Some link = rw half known.at in
    let to = receiver_of-even plan k link known.at in
    both (bytes_eq (element_name plan link.b) back) refl at to
  where
    both : (b : Bool) → bytes_eq (element_name plan link.b) back ≡ b → slice_get plan.links (2 * k / 2) ≡ Some link → receiver_of plan (2 * k) ≡ link.b
        → bytes_eq (line_name plan (2 * k)) name ≡ b
    both true e at to =
        let same : element_name plan (receiver_of plan (2 * k)) ≡ back = rw to ((bytes_eq-Decides (element_name plan link.b) back).0 e) in
        line_named plan (2 * k) link name front back at known.cut known.of_link same
    both false e at to =
        line_not_named plan (2 * k) link name front back known.well at known.cut (λ of_link of_receiver.
        let same : element_name plan link.b ≡ back = rw to at of_receiver in
        true≢false (sym ((bytes_eq-Decides (element_name plan link.b) back).1 same) ∙ e))

line_to_a : (plan : Topology) (name front back : List ℕ) (k : ℕ) (link : Link) → Known plan name front back k link
    → bytes_eq (line_name plan (2 * k + 1)) name ≡ bytes_eq (element_name plan link.a) back
line_to_a plan name front back k link known =
    let half : (2 * k + 1) / 2 ≡ k = omega arith in
    let at : slice_get plan.links ((2 * k + 1) / 2) ≡ Some link = rw half known.at in
    let to = receiver_of-odd plan k link known.at in
    both (bytes_eq (element_name plan link.a) back) refl at to
  where
    both : (b : Bool) → bytes_eq (element_name plan link.a) back ≡ b → slice_get plan.links ((2 * k + 1) / 2) ≡ Some link → receiver_of plan (2 * k + 1) ≡ link.a
        → bytes_eq (line_name plan (2 * k + 1)) name ≡ b
    both true e at to =
        let same : element_name plan (receiver_of plan (2 * k + 1)) ≡ back = rw to ((bytes_eq-Decides (element_name plan link.a) back).0 e) in
        line_named plan (2 * k + 1) link name front back at known.cut known.of_link same
    both false e at to =
        line_not_named plan (2 * k + 1) link name front back known.well at known.cut (λ of_link of_receiver.
        let same : element_name plan link.a ≡ back = rw to at of_receiver in
        true≢false (sym ((bytes_eq-Decides (element_name plan link.a) back).1 same) ∙ e))

-- the line of the name is one of the two of its link, or there is none
line_of_known : (plan : Topology) (name front back : List ℕ) (k : ℕ) (link : Link) → Known plan name front back k link
    → (to_b to_a : Bool) → bytes_eq (element_name plan link.b) back ≡ to_b → bytes_eq (element_name plan link.a) back ≡ to_a
    → line_of_name plan name ≡ (if to_b then Some (2 * k) else if to_a then Some (2 * k + 1) else None)
line_of_known plan name front back k link known true to_a b a =
    let within = slice_get_within plan.links k link known.at in
    find_range-first (λ line. bytes_eq (line_name plan line) name) 0 (line_count plan) (2 * k) (omega arith) (omega arith)
    (line_to_b plan name front back k link known ∙ b)
    (λ line low high. other_line plan name front back k link known line (omega arith) (λ e. omega arith))
line_of_known plan name front back k link known false true b a =
    let within = slice_get_within plan.links k link known.at in
    find_range-first (λ line. bytes_eq (line_name plan line) name) 0 (line_count plan) (2 * k + 1) (omega arith) (omega arith)
    (line_to_a plan name front back k link known ∙ a)
    (λ line low high. elim (eqb_tells line (2 * k)) [
      | inl same ↦ rw same.1 (line_to_b plan name front back k link known ∙ b)
      | inr other ↦ other_line plan name front back k link known line (omega arith) (λ e. other.1 (omega arith))
    ])
line_of_known plan name front back k link known false false b a =
    let within = slice_get_within plan.links k link known.at in
    find_range-none (λ line. bytes_eq (line_name plan line) name) 0 (line_count plan)
    (λ line low high. elim (eqb_tells line (2 * k)) [
      | inl same ↦ rw same.1 (line_to_b plan name front back k link known ∙ b)
      | inr not_b ↦ elim (eqb_tells line (2 * k + 1)) [
        | inl same ↦ rw same.1 (line_to_a plan name front back k link known ∙ a)
        | inr not_a ↦ other_line plan name front back k link known line (omega arith) (λ e. not_a.1 (omega (arith, not_b.1)))
      ]
    ])

pub known_link-names_line : (plan : Topology) (name front back : List ℕ) (k : ℕ) → IsWellFormed plan → IsCut name front back
    → place_of (link_names plan.links) front ≡ Some k → line_into plan k back ≡ line_of_name plan name
known_link-names_line plan name front back k well cut placed =
    let found = position-Some (bytes_eq front) (link_names plan.links) k [] placed in
    let same : front ≡ get_or (link_names plan.links) k [] = (bytes_eq-Decides front _).0 found.1 in
    let named : slice_get (link_names plan.links) k ≡ Some front = slice_get-get_or (link_names plan.links) k [] found.0 ∙ ap Some (sym same) in
    of_link plan.links k named (λ link at of_link.
    let known : Known plan name front back k link = record { well = well; cut = cut; at = at; of_link = of_link; named = named } in
    rw (at, line_of_known plan name front back k link known (bytes_eq (element_name plan link.b) back) (bytes_eq (element_name plan link.a) back) refl refl) refl)
  where
    of_link : {P : Type 0} (links : List Link) (k : ℕ) → slice_get (link_names links) k ≡ Some front
        → ((link : Link) → slice_get links k ≡ Some link → link.name ≡ front → P) → P
    of_link [] k named next = absurd (none-some front named)
    of_link (link ∷ links) zero named next = next link refl (same_Some link.name front named)
    of_link (link ∷ links) (suc k) named next = of_link links k named next
