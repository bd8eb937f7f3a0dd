-- What a search finds.
use Rattle.std.proofs.Common.{◌≡◌, ℕ, ◌<◌, ◌≤◌, Bool, true, false, ◌&&◌, List, [], ◌∷◌, ◌++◌, length, get_or, drop, map, filter, find, Option, Some, None, refl, sym, ◌∙◌}
use Rattle.std.specs.Prelude.{◌==◌}
use Rattle.std.specs.List.{range_with_len}
use Rattle.std.specs.Option.{option_or}
use Rattle.std.specs.Cmp.Derive.{both_true}
use Rattle.std.proofs.lemmas.Bool.{and_parts, eq-eqb, true≢false}
use Rattle.sync_topo.specs.Topology.{Topology}
use Rattle.std.proofs.Math.Seq.{drop-cons}
use Rattle.std.proofs.lemmas.List.{drop_all}
use Rattle.sync_topo.specs.declared.input.InputId.{InputId}
use Rattle.sync_topo.specs.declared.input.InputId.TheVariants.{Source}
use Rattle.sync_topo.specs.Lines.{line_count, is_nominated, receiver_of, sender_of, lines_into, sources_at, line_input, inputs_of}
use Rattle.sync_topo.specs.Hops.{hops_by}
use Rattle.sync_topo.specs.declared.returns.ReturnRule.{ReturnRule}
use Rattle.sync_topo.proofs.HopLaws.{hop-meets}
use Rattle.rank_cert.specs.Ranks.{Ranks}
use Rattle.rank_cert.specs.private.FirstFall.{falls, fall_from, first_among, first_to}

-- a search among those that pass a weaker test finds the same
find-filter : {A : Type 0} (p q : A → Bool) (xs : List A) → ((x : A) → q x ≡ true → p x ≡ true) → find q (filter p xs) ≡ find q xs
find-filter p q [] weaker = refl
find-filter p q (x ∷ xs) weaker = cases (p x) refl (q x) refl (find-filter p q xs weaker)
  where
    cases : (b : Bool) → p x ≡ b → (c : Bool) → q x ≡ c → find q (filter p xs) ≡ find q xs → find q (filter p (x ∷ xs)) ≡ find q (x ∷ xs)
    cases true e c f rest = rw (e, rest) refl
    cases false e true f rest = absurd (true≢false (sym (weaker x f) ∙ e))
    cases false e false f rest = rw (e, f) rest

-- a line that hops to another is among the inputs of the element where that begins
pub first_to-inputs : (returns : ReturnRule) (plan : Topology) (ranks : Ranks) (next : ℕ)
    → find (λ line. falls returns plan ranks line next) (lines_into plan (sender_of plan next)) ≡ first_to returns plan ranks next
first_to-inputs returns plan ranks next =
    find-filter (λ line. is_nominated plan line && receiver_of plan line == sender_of plan next) (λ line. falls returns plan ranks line next) (range_with_len 0 (line_count plan)) (λ line e.
    let meets = hop-meets returns plan line next (and_parts (hops_by returns plan line next) _ e).0 in
    both_true {s = is_nominated plan line} {t = receiver_of plan line == sender_of plan next} meets.from
    (eq-eqb (receiver_of plan line) (sender_of plan next) meets.joined))

-- among all inputs of an element the lines come first, and no source has a line
first_among-append : (returns : ReturnRule) (plan : Topology) (ranks : Ranks) (next : ℕ) (xs ys : List InputId)
    → first_among returns plan ranks next (xs ++ ys) ≡ option_or (first_among returns plan ranks next xs) (first_among returns plan ranks next ys)
first_among-append returns plan ranks next [] ys = refl
first_among-append returns plan ranks next (x ∷ xs) ys = rw (first_among-append returns plan ranks next xs ys) (front (fall_from returns plan ranks next x))
  where
    front : (o : Option ℕ) → option_or o (option_or (first_among returns plan ranks next xs) (first_among returns plan ranks next ys))
        ≡ option_or (option_or o (first_among returns plan ranks next xs)) (first_among returns plan ranks next ys)
    front None = refl
    front (Some line) = refl

first_among-sources : (returns : ReturnRule) (plan : Topology) (ranks : Ranks) (next : ℕ) (sources : List ℕ) → first_among returns plan ranks next (map Source sources) ≡ None
first_among-sources returns plan ranks next [] = refl
first_among-sources returns plan ranks next (source ∷ sources) = first_among-sources returns plan ranks next sources

first_among-lines : (returns : ReturnRule) (plan : Topology) (ranks : Ranks) (next : ℕ) (lines : List ℕ)
    → first_among returns plan ranks next (map line_input lines) ≡ find (λ line. falls returns plan ranks line next) lines
first_among-lines returns plan ranks next [] = refl
first_among-lines returns plan ranks next (line ∷ lines) = cases (falls returns plan ranks line next) refl (first_among-lines returns plan ranks next lines)
  where
    cases : (b : Bool) → falls returns plan ranks line next ≡ b → first_among returns plan ranks next (map line_input lines) ≡ find (λ l. falls returns plan ranks l next) lines
        → first_among returns plan ranks next (map line_input (line ∷ lines)) ≡ find (λ l. falls returns plan ranks l next) (line ∷ lines)
    cases true e rest = rw e refl
    cases false e rest = rw e rest

first_among-all : (returns : ReturnRule) (plan : Topology) (ranks : Ranks) (next : ℕ) → first_among returns plan ranks next (inputs_of plan (sender_of plan next)) ≡ first_to returns plan ranks next
first_among-all returns plan ranks next =
    let lines : List ℕ = lines_into plan (sender_of plan next) in
    let sources : List ℕ = sources_at plan (sender_of plan next) in
    first_among-append returns plan ranks next (map line_input lines) (map Source sources)
    ∙ rw (first_among-sources returns plan ranks next sources, first_among-lines returns plan ranks next lines, first_to-inputs returns plan ranks next) (alone (first_to returns plan ranks next))
  where
    alone : (o : Option ℕ) → option_or o None ≡ o
    alone None = refl
    alone (Some line) = refl

-- how far the search among the inputs has come
abbrev pub is_same_from : ReturnRule → Topology → Ranks → ℕ → List InputId → ℕ → Type 0
is_same_from returns plan ranks next inputs i = first_among returns plan ranks next (drop i inputs) ≡ first_among returns plan ranks next inputs

pub first_to-found : (returns : ReturnRule) (plan : Topology) (ranks : Ranks) (next element line i : ℕ) (inputs : List InputId) (d : InputId)
    → is_same_from returns plan ranks next inputs i → inputs ≡ inputs_of plan element → element ≡ sender_of plan next
    → i < length inputs → Some line ≡ fall_from returns plan ranks next (get_or inputs i d) → Some line ≡ first_to returns plan ranks next
first_to-found returns plan ranks next element line i inputs d so_far own from within hit =
    let front : first_among returns plan ranks next (drop i inputs) ≡ Some line = rw (drop-cons inputs i d, ← hit) refl in
    let all : first_among returns plan ranks next inputs ≡ first_among returns plan ranks next (inputs_of plan (sender_of plan next)) = rw (own, from) refl in
    sym front ∙ so_far ∙ all ∙ first_among-all returns plan ranks next

pub first_to-none : (returns : ReturnRule) (plan : Topology) (ranks : Ranks) (next element i : ℕ) (inputs : List InputId)
    → is_same_from returns plan ranks next inputs i → inputs ≡ inputs_of plan element → element ≡ sender_of plan next
    → length inputs ≤ i → None ≡ first_to returns plan ranks next
first_to-none returns plan ranks next element i inputs so_far own from past =
    let front : first_among returns plan ranks next (drop i inputs) ≡ None = rw (drop_all i inputs past) refl in
    let all : first_among returns plan ranks next inputs ≡ first_among returns plan ranks next (inputs_of plan (sender_of plan next)) = rw (own, from) refl in
    sym front ∙ so_far ∙ all ∙ first_among-all returns plan ranks next
