-- Which of an element's inputs is taken. After G.781, selection by quality level and priority.
-- A list of candidates has one for each input, and an input is named by its place in it.
use Rattle.std.specs.Prelude.{◌≡◌, ◌≢◌, ◌≤◌, ℕ, Bool, false, not, ◌&&◌, ◌||◌, nat_lt, nat_eq, if◌then◌else◌, List, slice_index_or, position, Option, None, Some, IsTrue, IsNone, IfSome, ⊤}
use Rattle.std.specs.List.{list_all}
use Rattle.sync_ql.specs.declared.levels.Level.{Level}
use Rattle.sync_ql.specs.declared.rules.Candidate.{Candidate}
use Rattle.sync_ql.specs.Level.{place_of, do_not_use_of}

-- the candidate at a place; beyond the list nothing can be taken
abbrev pub candidate : List Candidate → ℕ → Candidate
candidate inputs i = slice_index_or inputs i (record { level = None; priority = 0; usable = false })

-- whether there is a level, and it is better than do-not-use
abbrev pub is_above_do_not_use : Option Level → Bool
is_above_do_not_use None = false
is_above_do_not_use (Some level) = nat_lt (place_of level) (place_of (do_not_use_of level.option))

-- an input may be taken where it is usable and has a level better than do-not-use
abbrev pub is_eligible : Candidate → Bool
is_eligible c = c.usable && is_above_do_not_use c.level

-- whether one input has a better level than another, and whether both have the same one
abbrev pub is_better : Option Level → Option Level → Bool
is_better (Some a) (Some b) = nat_lt (place_of a) (place_of b)
is_better a b = false

abbrev pub is_as_good : Option Level → Option Level → Bool
is_as_good (Some a) (Some b) = nat_eq (place_of a) (place_of b)
is_as_good a b = false

-- an input beats another by a better level, or at the same level by a smaller priority number
abbrev pub beats : Candidate → Candidate → Bool
beats a b = is_better a.level b.level || is_as_good a.level b.level && nat_lt a.priority b.priority

-- eligible, and no eligible input beats it
abbrev pub is_best : List Candidate → Candidate → Bool
is_best inputs c = is_eligible c && list_all (λ other. not (is_eligible other && beats other c)) inputs

-- without a switch the input taken so far stays while it is best, and else the best of least place,
-- if there is one. The least place is this project's own
abbrev pub best_choice : List Candidate → Option ℕ → Option ℕ
best_choice inputs None = position (is_best inputs) inputs
best_choice inputs (Some taken) =
    if is_best inputs (candidate inputs taken) then Some taken
    else position (is_best inputs) inputs

-- a manual switch stands while its input is eligible and no eligible input has a better level
abbrev pub manual_stands : List Candidate → Option ℕ → Bool
manual_stands inputs None = false
manual_stands inputs (Some i) =
    is_eligible (candidate inputs i)
    && list_all (λ other. not (is_eligible other && is_better other.level (candidate inputs i).level)) inputs

-- the input of a manual switch, where it stands
abbrev pub standing_manual : List Candidate → Option ℕ → Option ℕ
standing_manual inputs manual = if manual_stands inputs manual then manual else None

-- with a forced input that one or none is taken, and with a manual one that one
abbrev pub choice : List Candidate → Option ℕ → Option ℕ → Option ℕ → Option ℕ
choice inputs (Some forced) manual taken =
    if is_eligible (candidate inputs forced) then Some forced else None
choice inputs None (Some manual) taken = Some manual
choice inputs None None taken = best_choice inputs taken

-- the same in facts, by place: an input may be taken; one beats another; one is best
abbrev pub IsEligible : List Candidate → ℕ → Type 0
IsEligible inputs i = IsTrue (is_eligible (candidate inputs i))

abbrev pub Beats : List Candidate → ℕ → ℕ → Type 0
Beats inputs i k = IsTrue (beats (candidate inputs i) (candidate inputs k))

pub record IsBest (inputs : List Candidate) (i : ℕ) : Type 0 where
  pub eligible : IsEligible inputs i
  pub unbeaten : (k : ℕ) → IsEligible inputs k → ¬ Beats inputs k i

-- what is taken without a switch
pub record IsBestChoice (inputs : List Candidate) (taken answer : Option ℕ) : Type 0 where
  pub best : IfSome answer (IsBest inputs)
  pub none : IsNone answer → (i : ℕ) → ¬ IsEligible inputs i
  pub taken_stays : IfSome taken (λ i. IsBest inputs i → answer ≡ Some i)
  pub least : answer ≢ taken → IfSome answer (λ i. (k : ℕ) → IsBest inputs k → i ≤ k)

-- a manual switch to an input stands
pub record ManualStands (inputs : List Candidate) (manual : ℕ) : Type 0 where
  pub eligible : IsEligible inputs manual
  pub none_better : (k : ℕ) → IsEligible inputs k →
      ¬ IsTrue (is_better (candidate inputs k).level (candidate inputs manual).level)

-- the levels of all inputs are of one network option
abbrev pub SameOption : Option Level → Option Level → Type 0
SameOption (Some a) (Some b) = a.option ≡ b.option
SameOption a b = ⊤

abbrev pub AreOfOneOption : List Candidate → Type 0
AreOfOneOption inputs = (i k : ℕ) → SameOption (candidate inputs i).level (candidate inputs k).level
