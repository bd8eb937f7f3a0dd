-- The first cycle over hops that include returns: none of its lines stands twice, and no two have one receiver.
use Rattle.std.proofs.Common.{◌≡◌, ◌≢◌, ◌≤◌, ◌<◌, ℕ, List, [], ◌∷◌, map, refl, sym, subst, ◌∙◌, inl, inr, arith}
use Rattle.sync_text.proofs.Each.{each-all}
use Rattle.sync_text.specs.Each.{Each}
use Rattle.sync_topo.specs.Topology.{Topology}
use Rattle.sync_topo.specs.Lines.{receiver_of}
use Rattle.sync_topo.specs.Ranks.{HopTest, IsBefore, Leads, IsFirstCycleFrom}
use Rattle.net_rules.specs.Walks.{AreApart, IsOneOf, Joins}
use Rattle.closed_walks.proofs.Rings.{each-one}
use Rattle.cycle_plan.proofs.Back.{before_same}
use Rattle.sync_topo.specs.declared.returns.ReturnRule.TheVariants.{Allowed}
use Rattle.sync_topo.specs.Hops.{hops_any}
use Rattle.sync_topo.proofs.HopLaws.{hop-meets, hop-any-from}

-- what isn't one of a list differs from each
others : (n : ℕ) (xs : List ℕ) → (IsOneOf n xs → ⊥) → Each (λ other. n ≢ other) xs
others n [] fresh = tt
others n (x ∷ xs) fresh = (λ same. fresh (inl same), others n xs (λ more. fresh (inr more)))

-- what stands in a list that leads on has one before it
one_before : (R : ℕ → ℕ → Type 0) (first : ℕ) (rest : List ℕ) (end x : ℕ) → Leads R first rest end → IsOneOf x rest
    → (before : ℕ) × R before x × IsOneOf before (first ∷ rest)
one_before R first [] end x leads among = absurd among
one_before R first (next ∷ rest) end x leads (inl same) = (first, subst (λ n. R first n) (sym same) leads.0, inl refl)
one_before R first (next ∷ rest) end x leads (inr more) =
    let found = one_before R next rest end x leads.1 more in
    (found.0, found.1, inr found.2)

-- where the one before is always one, and the first doesn't stand again, none stands twice
stand_once : (R : ℕ → ℕ → Type 0) → ((x one other : ℕ) → R one x → R other x → one ≡ other)
    → (first : ℕ) (rest : List ℕ) (end : ℕ) → Leads R first rest end → (IsOneOf first rest → ⊥) → AreApart (first ∷ rest)
stand_once R one first [] end leads fresh = (tt, tt)
stand_once R one first (next ∷ rest) end leads fresh = (
  others first (next ∷ rest) fresh,
  stand_once R one next rest end leads.1 (λ again.
      let found = one_before R next rest end next leads.1 again in
      fresh (subst (λ line. IsOneOf line (next ∷ rest)) (one next found.0 first found.1 leads.0) found.2)),
)

-- each line of the ring is before another
abbrev pub IsFollowed : HopTest → ℕ → Type 0
IsFollowed hop line = (next : ℕ) × IsBefore hop line next

pub each_followed : (hop : HopTest) (first : ℕ) (rest : List ℕ) (end : ℕ) → Leads (IsBefore hop) first rest end → Each (IsFollowed hop) (first ∷ rest)
each_followed hop first [] end leads = ((end, leads), tt)
each_followed hop first (next ∷ rest) end leads = ((next, leads.0), each_followed hop next rest end leads.1)

-- of two followed lines with one receiver each may be taken for the other
low_of : (plan : Topology) (line other : ℕ) → IsFollowed (hops_any plan) line → IsFollowed (hops_any plan) other
    → receiver_of plan line ≡ receiver_of plan other → line ≤ other
low_of plan line other here there same =
    let mine = hop-meets Allowed plan line here.0 here.1.hops in
    let theirs = hop-meets Allowed plan other there.0 there.1.hops in
    here.1.lowest other there.1.residue (hop-any-from plan other here.0 theirs.from mine.to (sym same ∙ mine.joined))

one_receiver : (plan : Topology) (line other : ℕ) → IsFollowed (hops_any plan) line → IsFollowed (hops_any plan) other
    → receiver_of plan line ≡ receiver_of plan other → line ≡ other
one_receiver plan line other here there same =
    let low = low_of plan line other here there same in
    let high = low_of plan other line there here (sym same) in
    omega (arith, low, high)

pub receivers_differ : (plan : Topology) (line : ℕ) (rest : List ℕ) → IsFollowed (hops_any plan) line → Each (IsFollowed (hops_any plan)) rest
    → Each (λ other. line ≢ other) rest → Each (λ receiver. receiver_of plan line ≢ receiver) (map (receiver_of plan) rest)
receivers_differ plan line [] here each apart = tt
receivers_differ plan line (other ∷ rest) here each apart =
    (λ same. apart.0 (one_receiver plan line other here each.0 same), receivers_differ plan line rest here each.1 apart.1)

pub receivers_apart : (plan : Topology) (lines : List ℕ) → Each (IsFollowed (hops_any plan)) lines → AreApart lines → AreApart (map (receiver_of plan) lines)
receivers_apart plan [] each apart = tt
receivers_apart plan (line ∷ rest) each apart =
    (receivers_differ plan line rest each.0 each.1 apart.0, receivers_apart plan rest each.1 apart.1)

pub ring_apart : (hop : HopTest) (line : ℕ) (rest : List ℕ) → IsFirstCycleFrom hop line rest → AreApart (line ∷ rest)
ring_apart hop line rest cycle =
    stand_once (IsBefore hop) (λ x one other. before_same hop x one other) line rest line cycle.closes
    (λ among.
    let above = each-one (λ other. line < other) rest line
    (each-all (λ other. line < other) rest cycle.lowest) among in
    omega (arith, above))

pub ring_joins : (plan : Topology) (first : ℕ) (rest : List ℕ) (end : ℕ) → Leads (IsBefore (hops_any plan)) first rest end → Leads (Joins plan) first rest end
ring_joins plan first [] end leads = (hop-meets Allowed plan first end leads.hops).joined
ring_joins plan first (next ∷ rest) end leads = ((hop-meets Allowed plan first next leads.0.hops).joined, ring_joins plan next rest end leads.1)
