-- A line stands for the past that its calls make.
use Rattle.std.proofs.Math.Decide.{dec_lt}
use Rattle.std.proofs.Common.{◌≡◌, ◌≤◌, ◌<◌, ℕ, suc, ◌+◌, ◌-◌, ◌*◌, Bool, true, false, nat_eq, nat_le, if◌then◌else◌, List, [], ◌∷◌, length, Option, None, Some, IfSome, refl, ap, sym, subst, ◌∙◌, arith}
use Rattle.sync_text.proofs.Each.{Each-map}
use Rattle.sync_text.specs.Each.{Each}
use Rattle.sync_ql.specs.declared.limits.TheConstants.{LAST_MILLISECOND}
use Rattle.sync_ql.specs.Messages.{LineMoment, said, unchanged, after_unchanged, line_until}
use Rattle.link_model.specs.declared.word.Word.{Word}
use Rattle.link_model.specs.Kept.{WordsKept, Kept, words_of, all_words, lost, lost_from, if_later, loss_of, cut_arrived, arrival_of, due_of}
use Rattle.link_model.specs.private.Kept.{taken_in, IsOrdered}
use Rattle.link_model.specs.StandsFor.{IsOfPast, IsAfter, SaysTheSame, SaysTheSameIfUp}
use Rattle.link_model.specs.Whole.{next_of, seen}
use Rattle.link_model.specs.private.Whole.{IsWhole}
use Rattle.link_model.proofs.Times.{is_within, is_equal}
use Rattle.link_model.proofs.Pasts.{length-after, unchanged-after, said-unchanged}
use Rattle.link_model.proofs.Ordering.{kept_words, if_some, all-coming, ordered-later, ordered-taken, taken-same, due-arrival, next-later}
use Rattle.link_model.proofs.Steps.{kept, stays, arrives-first, gap}

-- turns and milliseconds
pub next-is : (turn n : ℕ) → 4 * n ≤ turn + 3 → turn ≤ 4 * n → next_of turn ≡ n
next-is turn n low high = omega (arith, low, high)

pub next-low : (turn : ℕ) → 4 * next_of turn ≤ turn + 3
next-low turn = omega arith

-- what is taken in
abbrev pub taken : ℕ → ℕ → WordsKept → WordsKept
taken d now k = taken_in d now k.arrived k.on_way

pub each-taken : (P : Word → Type 0) (d now : ℕ) (a : Option Word) (ws : List Word) → Each P (words_of a ws) → Each P (all_words (taken_in d now a ws))
each-taken P d now a [] all = all
each-taken P d now None (v ∷ vs) all = by (nat_eq (v.sent + d) now)
  where
    by : (b : Bool) → Each P (all_words (if b then kept_words (Some v) vs else kept_words None (v ∷ vs)))
    by true = all
    by false = all
each-taken P d now (Some w) (v ∷ vs) all = by (nat_eq (v.sent + d) now)
  where
    by : (b : Bool) → Each P (all_words (if b then kept_words (Some v) vs else kept_words (Some w) (v ∷ vs)))
    by true = all.1
    by false = all

pub each-lost : (P : Word → Type 0) (d now : ℕ) (k : WordsKept) → ((w : Word) → P w → IfSome (cut_arrived (now - d) (Some w)) P) → Each P (all_words k) → Each P (all_words (lost d now k))
each-lost P d now k cut all = by k.arrived k.on_way all
  where
    by : (a : Option Word) (ws : List Word) → Each P (words_of a ws) → Each P (words_of (cut_arrived (now - d) a) [])
    by None ws are = tt
    by (Some w) ws are = (cut w are.0, tt)

pub ordered-now : (d n now : ℕ) (k : WordsKept) → n ≤ suc now → IfSome (arrival_of d k.on_way) (λ at. now ≤ at) → IsOrdered d n k → IsOrdered d (suc now) (taken d now k)
ordered-now d n now k soon due is = elim (dec_lt now n) [
  | yes later ↦ let same : n ≡ suc now = omega (arith, soon, later) in
      let here = subst (λ m. IsOrdered d m k) same is in
      subst (IsOrdered d (suc now)) (sym (taken-same d now k.arrived k.on_way here.coming)) here
  | no earlier ↦ ordered-taken d now k.arrived k.on_way (ordered-later d n now k (omega (arith, earlier)) (all-coming n d now k.arrived k.on_way is due) is)
]

-- what is due is later
later_loss : (n : ℕ) (lost_at : Option ℕ) → IfSome (if_later n lost_at) (λ due. n ≤ due)
later_loss n None = tt
later_loss n (Some x) = by (nat_le n x) refl
  where
    by : (b : Bool) → nat_le n x ≡ b → IfSome (if b then Some x else None) (λ due. n ≤ due)
    by true less = is_within n x less
    by false less = tt

loss_later : (d n : ℕ) (a : Option Word) → IfSome (loss_of d n a) (λ due. n ≤ due)
loss_later d n None = tt
loss_later d n (Some w) = later_loss n (lost_from d w w.until)

arrival_later : (d n : ℕ) (ws : List Word) → Each (λ w. n ≤ w.sent + d) ws → IfSome (arrival_of d ws) (λ at. n ≤ at)
arrival_later d n [] coming = tt
arrival_later d n (w ∷ ws) coming = coming.0

pub due-later : (d n : ℕ) (k : WordsKept) → IsOrdered d n k → IfSome (due_of d n k) (λ due. n ≤ due)
due-later d n k is = next-later n (arrival_of d k.on_way) (loss_of d n k.arrived) (arrival_later d n k.on_way is.coming) (loss_later d n k.arrived)

-- after a call of a millisecond
pub whole-after : (d turn now c : ℕ) (k after : Kept) → 1 ≤ c → c ≤ 4 → now ≤ LAST_MILLISECOND → IsWhole d turn k → IsOrdered d (suc now) after.words
    → Each (λ w. 4 * w.sent + 4 ≤ 4 * now + c) (all_words after.words) → IsWhole d (4 * now + c) after
whole-after d turn now c k after low high last is ordered said = record {
  delay_low = is.delay_low;
  delay_high = is.delay_high;
  turn_high = omega (arith, last, high);
  ordered = subst (λ n. IsOrdered d n after.words) (sym (next-is (4 * now + c) (suc now) (omega (arith, low)) (omega (arith, high)))) ordered;
  said = said;
}

pub due-after : (d now c : ℕ) (k : WordsKept) → 1 ≤ c → c ≤ 4 → IsOrdered d (suc now) k → IfSome (due_of d (next_of (4 * now + c)) k) (λ due. now < due)
due-after d now c k low high ordered =
    subst (λ n. IfSome (due_of d n k) (λ due. now < due)) (sym (next-is (4 * now + c) (suc now) (omega (arith, low)) (omega (arith, high))))
    (if_some (λ due. suc now ≤ due) (λ due. now < due) (λ due later. omega (arith, later)) (due_of d (suc now) k) (due-later d (suc now) k ordered))

-- the line's words at a call, by the invariant
pub ready : (d turn now c : ℕ) (k : Kept) → c ≤ 4 → turn ≤ 4 * now + c → IfSome (due_of d (next_of turn) k.words) (λ due. now ≤ due) → IsWhole d turn k → IsOrdered d (suc now) (taken d now k.words)
ready d turn now c k small early due is =
    let low = next-low turn in
    ordered-now d (next_of turn) now k.words (omega (arith, low, early, small)) (due-arrival now (arrival_of d k.words.on_way) (loss_of d (next_of turn) k.words.arrived) due) is.ordered

pub said-later : (turn now c : ℕ) (ws : List Word) → turn ≤ 4 * now + c → Each (λ w. 4 * w.sent + 4 ≤ turn) ws → Each (λ w. 4 * w.sent + 4 ≤ 4 * now + suc c) ws
said-later turn now c ws early said = Each-map (λ w. 4 * w.sent + 4 ≤ turn) (λ w. 4 * w.sent + 4 ≤ 4 * now + suc c) (λ w less. omega (arith, less, early)) ws said

pub said-before : (turn now c : ℕ) (ws : List Word) → c ≤ 3 → turn ≤ 4 * now + c → Each (λ w. 4 * w.sent + 4 ≤ turn) ws → Each (λ w. w.sent < now) ws
said-before turn now c ws small early said = Each-map (λ w. 4 * w.sent + 4 ≤ turn) (λ w. w.sent < now) (λ w less. omega (arith, less, early, small)) ws said

-- the past at a call: its newest millisecond is that of the call
pub length-until : (now : ℕ) (past : List LineMoment) → length past ≤ now → length (line_until now past) ≡ now
length-until now past early = let long = length-after (now - length past) past in omega (arith, long, early)

pub until-same : (n : ℕ) (past : List LineMoment) → length past ≡ n → line_until n past ≡ past
until-same n past long = let none : n - length past ≡ 0 = omega (arith, long) in ap (λ j. after_unchanged j past) none

-- a past that has come to a millisecond stays
pub until-told : (now : ℕ) (x : LineMoment) (before : List LineMoment) → length before ≡ now → line_until (suc now) (x ∷ before) ≡ x ∷ before
until-told now x before long = until-same (suc now) (x ∷ before) (ap suc long)

pub until-next : (now : ℕ) (past : List LineMoment) → length past ≤ now → line_until (suc now) past ≡ unchanged (line_until now past) ∷ line_until now past
until-next now past early =
    let one : suc now - length past ≡ suc (now - length past) = omega (arith, early) in
    ap (λ j. after_unchanged j past) one ∙ ap (λ head. head ∷ after_unchanged (now - length past) past) (sym (unchanged-after (now - length past) past))

pub quiet-until : (d now : ℕ) (k : Kept) (past : List LineMoment) → length past ≤ now → IfSome (arrival_of d k.words.on_way) (λ at. now ≤ at) → IsOrdered d (length past) k.words → IsOfPast d k past → IsOfPast d k (line_until now past)
quiet-until d now k past early due ordered is =
    gap d k.now k.words.arrived k.words.on_way past (now - length past) now (omega (arith, early)) (all-coming (length past) d now k.words.arrived k.words.on_way ordered due) ordered is

one_more : (d : ℕ) (now : LineMoment) (a : Option Word) (ws : List Word) (past : List LineMoment) → 1 ≤ d → IsOrdered d (length past) (kept_words a ws) → IsOfPast d (kept now a ws) past
    → IsOfPast d (record { now = now; words = taken_in d (length past) a ws }) (unchanged past ∷ past)
one_more d now a [] past low ordered is = stays d now a [] past tt ordered.came is
one_more d now a (v ∷ vs) past low ordered is = by (nat_eq (v.sent + d) (length past)) refl (ordered-taken d (length past) a (v ∷ vs) ordered)
  where
    by : (b : Bool) → nat_eq (v.sent + d) (length past) ≡ b → IsOrdered d (suc (length past)) (if b then kept_words (Some v) vs else kept_words a (v ∷ vs))
        → IsOfPast d (record { now = now; words = if b then kept_words (Some v) vs else kept_words a (v ∷ vs) }) (unchanged past ∷ past)
    by true at after = arrives-first d now a v vs past low (is_equal (v.sent + d) (length past) at) ordered is
    by false other after = stays d now a (v ∷ vs) past after.coming ordered.came is

pub record IsAt (d now : ℕ) (k : Kept) (past : List LineMoment) : Type 0 where
  pub x : LineMoment
  pub before : List LineMoment
  pub long : length before ≡ now
  pub line : line_until (suc now) past ≡ x ∷ before
  pub kept_is : IsOfPast d (record { now = k.now; words = taken d now k.words }) (x ∷ before)
  pub same_if_up : (length past ≡ suc now → SaysTheSameIfUp past) → SaysTheSameIfUp (x ∷ before)
  pub same : (length past ≡ suc now → SaysTheSame past) → SaysTheSame (x ∷ before)

-- after a gap
pub gap-kept : (d now : ℕ) (k : Kept) (past : List LineMoment) → 1 ≤ d → length past ≤ now → IfSome (arrival_of d k.words.on_way) (λ at. now ≤ at)
    → IsOrdered d (length past) k.words → IsOfPast d k past
    → IsOfPast d (record { now = k.now; words = taken d now k.words }) (unchanged (line_until now past) ∷ line_until now past)
gap-kept d now k past low early due ordered is =
    subst (λ n. IsOfPast d (record { now = k.now; words = taken d n k.words }) (unchanged (line_until now past) ∷ line_until now past)) (length-until now past early)
    (one_more d k.now k.words.arrived k.words.on_way (line_until now past) low
    (subst (λ n. IsOrdered d n k.words) (sym (length-until now past early)) (ordered-later d (length past) now k.words early (all-coming (length past) d now k.words.arrived k.words.on_way ordered due) ordered))
    (quiet-until d now k past early due ordered is))

pub at-gap : (d now : ℕ) (k : Kept) (past : List LineMoment) → 1 ≤ d → length past ≤ now → IfSome (arrival_of d k.words.on_way) (λ at. now ≤ at)
    → IsOrdered d (length past) k.words → IsOfPast d k past → IsAt d now k past
at-gap d now k past low early due ordered is = record {
  x = unchanged (line_until now past);
  before = line_until now past;
  long = length-until now past early;
  line = until-next now past early;
  kept_is = gap-kept d now k past low early due ordered is;
  same_if_up = λ given up. said-unchanged (line_until now past);
  same = λ given speaks. said-unchanged (line_until now past);
}

-- in the millisecond of the last call
at-same : (d now : ℕ) (k : Kept) (past : List LineMoment) → length past ≡ suc now → IsOrdered d (length past) k.words → IsOfPast d k past → IsAt d now k past
at-same d now k [] long ordered is = absurd (omega (arith, long))
at-same d now k (x ∷ before) long ordered is = record {
  x = x;
  before = before;
  long = omega (arith, long);
  line = until-same (suc now) (x ∷ before) long;
  kept_is = subst (λ words. IsOfPast d (record { now = k.now; words = words }) (x ∷ before)) (sym (taken-same d now k.words.arrived k.words.on_way (subst (λ n. Each (λ w. n ≤ w.sent + d) k.words.on_way) long ordered.coming))) is;
  same_if_up = λ given. given long;
  same = λ given. given long;
}

pub at-call : (d turn now c : ℕ) (k : Kept) (past : List LineMoment) → c ≤ 4 → turn ≤ 4 * now + c → IfSome (due_of d (next_of turn) k.words) (λ due. now ≤ due)
    → IsWhole d turn k → IsAfter (seen d turn k) past → IsAt d now k past
at-call d turn now c k past small early due is stands =
    let low = stands.turn_low in
    let next : next_of turn ≡ length past = next-is turn (length past) stands.turn_low stands.turn_high in
    let ordered = subst (λ n. IsOrdered d n k.words) next is.ordered in
    elim (dec_lt now (length past)) [
      | yes later ↦ at-same d now k past (omega (arith, later, low, early, small)) ordered stands.kept
      | no not_later ↦ at-gap d now k past is.delay_low (omega (arith, not_later)) (due-arrival now (arrival_of d k.words.on_way) (loss_of d (next_of turn) k.words.arrived) due) ordered stands.kept
    ]
