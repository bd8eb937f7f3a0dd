-- A closed walk is found by going back from its first line, and there is one for each first line.
use Rattle.std.proofs.Common.{◌≡◌, ◌≢◌, ◌≤◌, ◌<◌, ◌+◌, ◌-◌, ℕ, zero, suc, List, [], ◌∷◌, length, Some, ap, sym, subst, ◌∙◌, arith}
use Rattle.std.proofs.Math.Decide.{dec_lt}
use Rattle.sync_text.specs.Each.{Each}
use Rattle.sync_topo.specs.Topology.{Topology}
use Rattle.sync_topo.specs.Lines.{line_input, sender_of, receiver_of}
use Rattle.sync_topo.specs.Ranks.{Leads}
use Rattle.net_rules.specs.Walks.{Taken, AreApart, IsTaken, Joins, IsClosedWalk}
use Rattle.net_rules.specs.GoingBack.{line_taken, line_before, lines_before, ComesBack}

-- what an element takes is an input of its own
abbrev pub AreOwn : Topology → Taken → Type 0
AreOwn plan taken = (element line : ℕ) → taken element ≡ Some (line_input line) → receiver_of plan line ≡ element

back-add : (plan : Topology) (taken : Taken) (m k line : ℕ) → line_before plan taken (m + k) line ≡ line_before plan taken m (line_before plan taken k line)
back-add plan taken zero k line = ap (λ n. line_before plan taken n line) (omega arith)
back-add plan taken (suc m) k line =
    let e : suc m + k ≡ suc (m + k) = omega arith in
    ap (λ n. line_before plan taken n line) e ∙ ap (λ l. line_taken (taken (sender_of plan l))) (back-add plan taken m k line)

-- the lines of a stretch are those before its end
stretch : (plan : Topology) (taken : Taken) (line : ℕ) (rest : List ℕ) (end : ℕ) → Leads (Joins plan) line rest end → Each (IsTaken plan taken) (line ∷ rest)
    → line ∷ rest ≡ lines_before plan taken (suc (length rest)) end
stretch plan taken line [] end leads each =
    ap (λ l. l ∷ []) (sym (ap line_taken (ap taken (sym leads) ∙ each.0)))
stretch plan taken line (next ∷ rest) end leads each =
    let later : next ∷ rest ≡ lines_before plan taken (suc (length rest)) end = stretch plan taken next rest end leads.1 each.1 in
    let first : next ≡ line_before plan taken (suc (length rest)) end = ap (head next) later in
    let before : line_before plan taken (suc (suc (length rest))) end ≡ line =
    ap (λ l. line_taken (taken (sender_of plan l))) (sym first) ∙ ap line_taken (ap taken (sym leads.0) ∙ each.0) in
    ap (λ l. l ∷ next ∷ rest) (sym before) ∙ ap (λ ls. line_before plan taken (suc (suc (length rest))) end ∷ ls) later
  where
    head : ℕ → List ℕ → ℕ
    head d [] = d
    head d (x ∷ xs) = x

-- a closed walk is the lines before its first line
pub walk-back : (plan : Topology) (taken : Taken) (first : ℕ) (rest : List ℕ) → IsClosedWalk plan taken (first ∷ rest)
    → first ∷ rest ≡ lines_before plan taken (suc (length rest)) first
walk-back plan taken first rest walk = stretch plan taken first rest first walk.joined walk.each_taken

-- going back over lines, from each to the one after it
leads-back : (plan : Topology) (taken : Taken) (n line m : ℕ) → AreOwn plan taken
    → ((k : ℕ) → k < n → taken (sender_of plan (line_before plan taken k line)) ≡ Some (line_input (line_before plan taken (suc k) line)))
    → suc m ≤ n → Leads (Joins plan) (line_before plan taken (suc m) line) (lines_before plan taken m line) line
leads-back plan taken n line zero own takes within = own (sender_of plan line) (line_before plan taken 1 line) (takes 0 (omega (arith, within)))
leads-back plan taken n line (suc m) own takes within = (
  own (sender_of plan (line_before plan taken (suc m) line)) (line_before plan taken (suc (suc m)) line) (takes (suc m) (omega (arith, within))),
  leads-back plan taken n line m own takes (omega (arith, within)),
)

takes-back : (plan : Topology) (taken : Taken) (n line m : ℕ) → AreOwn plan taken
    → ((k : ℕ) → k < n → taken (sender_of plan (line_before plan taken k line)) ≡ Some (line_input (line_before plan taken (suc k) line)))
    → m ≤ n → Each (IsTaken plan taken) (lines_before plan taken m line)
takes-back plan taken n line zero own takes within = tt
takes-back plan taken n line (suc m) own takes within = (
  ap taken (own (sender_of plan (line_before plan taken m line)) (line_before plan taken (suc m) line) (takes m (omega (arith, within)))) ∙ takes m (omega (arith, within)),
  takes-back plan taken n line m own takes (omega (arith, within)),
)

-- two of the lines before are apart, since going on from them comes round at different times
apart-two : (plan : Topology) (taken : Taken) (n line i j : ℕ) → ComesBack plan taken n line → 0 < i → i < j → j ≤ n
    → line_before plan taken j line ≢ line_before plan taken i line
apart-two plan taken n line i j comes some less within same =
    let m : ℕ = n - j in
    let at_j : line_before plan taken (m + j) line ≡ line =
    let e : m + j ≡ n = omega (arith, within) in ap (λ k. line_before plan taken k line) e ∙ comes.round in
    let at_i : line_before plan taken (m + i) line ≡ line =
    back-add plan taken m i line ∙ ap (line_before plan taken m) (sym same) ∙ sym (back-add plan taken m j line) ∙ at_j in
    comes.first (m + i) (omega (arith, some)) (omega (arith, less, within)) at_i

apart-each : (plan : Topology) (taken : Taken) (n line j m : ℕ) → ComesBack plan taken n line → m < j → j ≤ n
    → Each (λ other. line_before plan taken j line ≢ other) (lines_before plan taken m line)
apart-each plan taken n line j zero comes less within = tt
apart-each plan taken n line j (suc m) comes less within = (
  apart-two plan taken n line (suc m) j comes (omega arith) less within,
  apart-each plan taken n line j m comes (omega (arith, less)) within,
)

apart-back : (plan : Topology) (taken : Taken) (n line m : ℕ) → ComesBack plan taken n line → m ≤ n → AreApart (lines_before plan taken m line)
apart-back plan taken n line zero comes within = tt
apart-back plan taken n line (suc m) comes within =
    (apart-each plan taken n line (suc m) m comes (omega arith) within, apart-back plan taken n line m comes (omega (arith, within)))

pub back-walk : (plan : Topology) (taken : Taken) (n line : ℕ) → AreOwn plan taken → ComesBack plan taken n line
    → IsClosedWalk plan taken (lines_before plan taken n line)
back-walk plan taken zero line own comes = absurd (omega (arith, comes.some))
back-walk plan taken (suc m) line own comes = record {
  joined = subst (Leads (Joins plan) (line_before plan taken (suc m) line) (lines_before plan taken m line)) (sym comes.round)
      (leads-back plan taken (suc m) line m own comes.takes (omega arith));
  each_taken = takes-back plan taken (suc m) line (suc m) own comes.takes (omega arith);
  apart = apart-back plan taken (suc m) line (suc m) comes (omega arith);
}

-- a member is another than the first where the lines are apart
member_apart : (plan : Topology) (taken : Taken) (line m k : ℕ) → Each (λ other. line ≢ other) (lines_before plan taken m line) → 0 < k → k ≤ m
    → line_before plan taken k line ≢ line
member_apart plan taken line zero k each some within same = omega (arith, some, within)
member_apart plan taken line (suc m) k each some within same = elim (dec_lt k (suc m)) [
  | yes lower ↦ member_apart plan taken line m k each.1 some (omega (arith, lower)) same
  | no last ↦ let e : k ≡ suc m = omega (arith, last, within) in each.0 (sym (subst (λ n. line_before plan taken n line ≡ line) e same))
]

-- the first line is met after as many steps as the walk is long, and not before
shorter : (plan : Topology) (taken : Taken) (first : ℕ) (rest others : List ℕ) → IsClosedWalk plan taken (first ∷ rest) → IsClosedWalk plan taken (first ∷ others)
    → length rest < length others → ⊥
shorter plan taken first rest others walk other less =
    let met : first ∷ rest ≡ lines_before plan taken (suc (length rest)) first = walk-back plan taken first rest walk in
    let round : line_before plan taken (suc (length rest)) first ≡ first = ap (head first) (sym met) in
    let apart : Each (λ l. first ≢ l) others = other.apart.0 in
    let tail_is : others ≡ lines_before plan taken (length others) first = ap tail (walk-back plan taken first others other) in
    member_apart plan taken first (length others) (suc (length rest)) (subst (Each (λ l. first ≢ l)) tail_is apart) (omega arith) (omega (arith, less)) round
  where
    head : ℕ → List ℕ → ℕ
    head d [] = d
    head d (x ∷ xs) = x

    tail : List ℕ → List ℕ
    tail [] = []
    tail (x ∷ xs) = xs

pub one-walk : (plan : Topology) (taken : Taken) (first : ℕ) (rest others : List ℕ) → IsClosedWalk plan taken (first ∷ rest) → IsClosedWalk plan taken (first ∷ others)
    → rest ≡ others
one-walk plan taken first rest others walk other = elim (dec_lt (length rest) (length others)) [
  | yes less ↦ absurd (shorter plan taken first rest others walk other less)
  | no at_least ↦ elim (dec_lt (length others) (length rest)) [
    | yes more ↦ absurd (shorter plan taken first others rest other walk more)
    | no at_most ↦
        let same : length rest ≡ length others = omega (arith, at_least, at_most) in
        ap tail (walk-back plan taken first rest walk)
        ∙ ap (λ n. lines_before plan taken n first) same
        ∙ sym (ap tail (walk-back plan taken first others other))
  ]
]
  where
    tail : List ℕ → List ℕ
    tail [] = []
    tail (x ∷ xs) = xs
