-- Private to this crate: for how long each element of a network is worse than it was.
use Rattle.std.specs.Prelude.{◌≡◌, ◌≤◌, ◌<◌, ◌+◌, ◌-◌, ℕ, Bool, true, false, cond, nat_eq, nat_lt, ◌&&◌, ◌||◌, if◌then◌else◌, List, length, slice_index_or, Option, None, Some}
use Rattle.std.specs.List.{count_by, list_any, range_with_len}
use Rattle.sync_ql.specs.declared.levels.Level.{Level}
use Rattle.sync_element.specs.ElementState.{ElementState}
use Rattle.sync_topo.specs.declared.event.Event.{Event}
use Rattle.sync_topo.specs.Topology.{Topology}
use Rattle.sync_net.specs.NetState.{NetState}
use Rattle.sync_sweep.specs.declared.on_way.OnWay.{OnWay}
use Rattle.sync_sweep.specs.declared.spells.Spell.{Spell}
use Rattle.sync_sweep.specs.declared.touched.Touched.{Touched}
use Rattle.sync_sweep.specs.private.Branching.{IsFree}
use Rattle.sync_sweep.specs.OnWay.{is_worse, is_worse_in}
use Rattle.sync_sweep.specs.Outcomes.{level_in}
use Rattle.sync_sweep.specs.private.ShownNow.{ShowsLevel}

-- of an element that was never worse
abbrev pub no_spell : Spell
no_spell = record { worse = false; otherwise = 0 }

-- in how many of so many milliseconds it was worse
abbrev pub worse_in : Spell → ℕ → ℕ
worse_in spell next = if spell.worse then next - spell.otherwise else spell.otherwise

-- all of so many elements were never worse
pub record AreNone (n : ℕ) (spells : List Spell) : Type 0 where
  pub count : length spells ≡ n
  pub each : (k : ℕ) (other : Spell) → k < n → slice_index_or spells k other ≡ no_spell

-- all but those at some places
abbrev pub AreNoneBut : List ℕ → List Spell → Type 0
AreNoneBut places spells = (k : ℕ) (other : Spell) → k < length spells → list_any (nat_eq k) places ≡ false → slice_index_or spells k other ≡ no_spell

-- all but those that are marked
abbrev pub AreNoneUnmarked : Touched → List Spell → Type 0
AreNoneUnmarked touched spells = (k : ℕ) (other : Spell) → k < length spells → IsFree touched.elements k → slice_index_or spells k other ≡ no_spell

-- an element is worse, up to but not at its due time, if nothing is told
pub record IsWorseNow (element : ElementState) (before : Level) (spell : Spell) : Type 0 where
  pub level : Level
  pub shows : ShowsLevel element level
  pub worse : spell.worse ≡ is_worse before level

-- just those elements are that are said to be
pub record AreWorseNow (net : NetState) (levels : List Level) (spells : List Spell) : Type 0 where
  pub each : (k : ℕ) (element : ElementState) (level : Level) (spell : Spell) → k < length net.plan.elements →
      IsWorseNow (slice_index_or net.elements k element) (slice_index_or levels k level) (slice_index_or spells k spell)

-- what is noted in a millisecond changes nothing of those before it
abbrev pub IsNotedAt : ℕ → Spell → Spell → Type 0
IsNotedAt now before after = before.otherwise ≤ now → (after.otherwise ≤ now) × (worse_in after now ≡ worse_in before now)

abbrev pub AreNotedAt : ℕ → List Spell → List Spell → Type 0
AreNotedAt now before after = (k : ℕ) (other : Spell) → k < length before → IsNotedAt now (slice_index_or before k other) (slice_index_or after k other)

-- these are the levels of the elements at the end of a millisecond
abbrev pub AreLevelsIn : Topology → List Event → ℕ → List Level → Type 0
AreLevelsIn plan all t levels = (k : ℕ) (other : Level) → k < length plan.elements → slice_index_or levels k other ≡ level_in plan all t k

-- an element was worse in just so many of the milliseconds after one, up to but not at another
pub record IsCountedSo (plan : Topology) (all : List Event) (before next element : ℕ) (spell : Spell) : Type 0 where
  pub in_time : spell.otherwise ≤ next
  pub is : worse_in spell next ≡ count_by (is_worse_in plan all before element) (range_with_len (before + 1) (next - (before + 1)))

-- so each element, and those that are worse now are known; some element serves for what is beyond a list
pub record AreCountedSo (net : NetState) (levels : List Level) (all : List Event) (before next : ℕ) (spells : List Spell) : Type 0 where
  pub some : ElementState
  pub later : before < next
  pub at_first : AreLevelsIn net.plan all before levels
  pub now : AreWorseNow net levels spells
  pub each : (k : ℕ) → k < length net.plan.elements → IsCountedSo net.plan all before next k (slice_index_or spells k no_spell)

-- an element is worse for longer than any so far, or for as long and comes before the first of these
abbrev pub is_darker : Option ℕ → ℕ → ℕ → ℕ → Bool
is_darker None longest place dark = nat_lt 0 dark
is_darker (Some first) longest place dark = nat_lt longest dark || (nat_eq dark longest && nat_lt place first)

-- what it costs with one more element
pub record IsWithSpell (before : OnWay) (place : ℕ) (spell : Spell) (next : ℕ) (after : OnWay) : Type 0 where
  pub hurt : after.hurt ≡ before.hurt + cond (nat_lt 0 (worse_in spell next)) 1 0
  pub still : after.still ≡ before.still + cond spell.worse 1 0
  pub dark : after.dark ≡ (if is_darker before.darkest before.dark place (worse_in spell next) then worse_in spell next else before.dark)
  pub darkest : after.darkest ≡ (if is_darker before.darkest before.dark place (worse_in spell next) then Some place else before.darkest)

-- the element that is worse for longest, and the first of those that are so for as long; none is where
-- none is worse at all
abbrev pub IsDarkOf : List Spell → ℕ → ℕ → Option ℕ → Type 0
IsDarkOf spells next dark None = dark ≡ 0
IsDarkOf spells next dark (Some element) =
    (element < length spells) × (0 < dark) × ((other : Spell) → worse_in (slice_index_or spells element other) next ≡ dark)

-- another one isn't darker
pub record IsNotDarker (next dark : ℕ) (darkest : Option ℕ) (place : ℕ) (spell : Spell) : Type 0 where
  pub at_most : worse_in spell next ≤ dark
  pub later : (first : ℕ) → darkest ≡ Some first → worse_in spell next ≡ dark → first ≤ place

-- what all of them cost
pub record IsWayOf (spells : List Spell) (next : ℕ) (way : OnWay) : Type 0 where
  pub hurt : way.hurt ≡ count_by (λ spell. nat_lt 0 (worse_in spell next)) spells
  pub still : way.still ≡ count_by (λ spell. spell.worse) spells
  pub one : IsDarkOf spells next way.dark way.darkest
  pub none : (k : ℕ) (other : Spell) → k < length spells → IsNotDarker next way.dark way.darkest k (slice_index_or spells k other)

-- what no elements cost
abbrev pub no_way : OnWay
no_way = record { hurt = 0; dark = 0; darkest = None; still = 0 }

-- what the elements at some places cost is counted, and these are as if they had never been worse
pub record AreTaken (before : List Spell) (next : ℕ) (places : List ℕ) (spells : List Spell) (way : OnWay) : Type 0 where
  pub count : length spells ≡ length before
  pub hurt : way.hurt + count_by (λ spell. nat_lt 0 (worse_in spell next)) spells ≡ count_by (λ spell. nat_lt 0 (worse_in spell next)) before
  pub still : way.still + count_by (λ spell. spell.worse) spells ≡ count_by (λ spell. spell.worse) before
  pub one : IsDarkOf before next way.dark way.darkest
  pub done : (k : ℕ) (other : Spell) → k < length before → list_any (nat_eq k) places ≡ true → slice_index_or spells k other ≡ no_spell
  pub none : (k : ℕ) (other : Spell) → k < length before → list_any (nat_eq k) places ≡ true → IsNotDarker next way.dark way.darkest k (slice_index_or before k other)
  pub left : (k : ℕ) (other : Spell) → k < length before → list_any (nat_eq k) places ≡ false → slice_index_or spells k other ≡ slice_index_or before k other

-- it is noted of the elements at some places whether they are worse; all others are as they were
pub record AreNotedSo (net : NetState) (levels : List Level) (now : ℕ) (before : List Spell) (places : List ℕ) (spells : List Spell) : Type 0 where
  pub count : length spells ≡ length before
  pub noted : AreNotedAt now before spells
  pub worse : (k : ℕ) (element : ElementState) (level : Level) (spell : Spell) → k < length before → list_any (nat_eq k) places ≡ true
      → IsWorseNow (slice_index_or net.elements k element) (slice_index_or levels k level) (slice_index_or spells k spell)
  pub left : (k : ℕ) (other : Spell) → list_any (nat_eq k) places ≡ false → slice_index_or spells k other ≡ slice_index_or before k other
