-- The invariant and what is due after each call, and the levels that are kept.
use Rattle.std.proofs.Common.{◌≡◌, ◌≤◌, ◌<◌, ℕ, ◌+◌, ◌*◌, Bool, Option, IfSome, List, sym, subst, arith}
use Rattle.sync_text.specs.Each.{Each}
use Rattle.sync_ql.specs.declared.levels.NetOption.{NetOption}
use Rattle.sync_ql.specs.declared.levels.Level.{Level}
use Rattle.sync_ql.specs.declared.limits.TheConstants.{LAST_MILLISECOND}
use Rattle.sync_ql.specs.Messages.{LineMoment}
use Rattle.link_model.specs.declared.word.Word.{Word}
use Rattle.link_model.specs.Kept.{WordsKept, Kept, all_words, due_of}
use Rattle.link_model.specs.StandsFor.{IsAfter}
use Rattle.link_model.specs.Whole.{next_of, seen}
use Rattle.link_model.specs.private.Whole.{IsWhole}
use Rattle.link_model.proofs.Standing.{taken, each-taken, ready, said-later, whole-after, due-after}
use Rattle.link_model.proofs.Called.{words_up, each-up, ordered-up, words_esmc, each-esmc, ordered-esmc, words_said, each-words_said, ordered-words_said}

-- what is kept, under another name
pub stands-as : (d t : ℕ) (up esmc : Bool) (level is_level : Option Level) (words is_words : WordsKept) (past : List LineMoment) → level ≡ is_level → words ≡ is_words
    → IsAfter (seen d t (record { now = record { up = up; esmc = esmc; level = is_level }; words = is_words })) past
    → IsAfter (seen d t (record { now = record { up = up; esmc = esmc; level = level }; words = words })) past
stands-as d t up esmc level is_level words is_words past same_level same_words stands =
    subst (λ l. IsAfter (seen d t (record { now = record { up = up; esmc = esmc; level = l }; words = words })) past) (sym same_level)
    (subst (λ ws. IsAfter (seen d t (record { now = record { up = up; esmc = esmc; level = is_level }; words = ws })) past) (sym same_words) stands)

-- the level of a word is of an option
abbrev pub IsOf : NetOption → Word → Type 0
IsOf option w = w.level.option ≡ option

pub whole-up : (d turn now : ℕ) (up : Bool) (k : Kept) (m : LineMoment) → now ≤ LAST_MILLISECOND → turn ≤ 4 * now → IfSome (due_of d (next_of turn) k.words) (λ due. now ≤ due) → IsWhole d turn k
    → IsWhole d (4 * now + 1) (record { now = m; words = words_up d now up k.words })
whole-up d turn now up k m last early due is =
    whole-after d turn now 1 k (record { now = m; words = words_up d now up k.words }) (omega arith) (omega arith) last is (ordered-up d turn now up k early due is)
    (each-up (λ w. 4 * w.sent + 4 ≤ 4 * now + 1) d now up k.words (λ w said. said) (said-later turn now 0 (all_words k.words) (omega (arith, early)) is.said))

pub due-up : (d turn now : ℕ) (up : Bool) (k : Kept) → turn ≤ 4 * now → IfSome (due_of d (next_of turn) k.words) (λ due. now ≤ due) → IsWhole d turn k
    → IfSome (due_of d (next_of (4 * now + 1)) (words_up d now up k.words)) (λ due. now < due)
due-up d turn now up k early due is = due-after d now 1 (words_up d now up k.words) (omega arith) (omega arith) (ordered-up d turn now up k early due is)

pub option-up : (option : NetOption) (d now : ℕ) (up : Bool) (k : WordsKept) → Each (IsOf option) (all_words k) → Each (IsOf option) (all_words (words_up d now up k))
option-up option d now up k are = each-up (IsOf option) d now up k (λ w is. is) are

pub whole-esmc : (d turn now : ℕ) (on : Bool) (k : Kept) (m : LineMoment) → now ≤ LAST_MILLISECOND → turn ≤ 4 * now + 1 → IfSome (due_of d (next_of turn) k.words) (λ due. now ≤ due) → IsWhole d turn k
    → IsWhole d (4 * now + 2) (record { now = m; words = words_esmc d now on k.words })
whole-esmc d turn now on k m last early due is =
    whole-after d turn now 2 k (record { now = m; words = words_esmc d now on k.words }) (omega arith) (omega arith) last is (ordered-esmc d turn now on k early due is)
    (each-esmc (λ w. 4 * w.sent + 4 ≤ 4 * now + 2) d now on k.words (λ w said. said) (said-later turn now 1 (all_words k.words) early is.said))

pub due-esmc : (d turn now : ℕ) (on : Bool) (k : Kept) → turn ≤ 4 * now + 1 → IfSome (due_of d (next_of turn) k.words) (λ due. now ≤ due) → IsWhole d turn k
    → IfSome (due_of d (next_of (4 * now + 2)) (words_esmc d now on k.words)) (λ due. now < due)
due-esmc d turn now on k early due is = due-after d now 2 (words_esmc d now on k.words) (omega arith) (omega arith) (ordered-esmc d turn now on k early due is)

pub option-esmc : (option : NetOption) (d now : ℕ) (on : Bool) (k : WordsKept) → Each (IsOf option) (all_words k) → Each (IsOf option) (all_words (words_esmc d now on k))
option-esmc option d now on k are = each-esmc (IsOf option) d now on k (λ w is. is) are

pub whole-taken : (d turn now : ℕ) (k : Kept) (m : LineMoment) → now ≤ LAST_MILLISECOND → turn ≤ 4 * now + 2 → IfSome (due_of d (next_of turn) k.words) (λ due. now ≤ due) → IsWhole d turn k
    → IsWhole d (4 * now + 3) (record { now = m; words = taken d now k.words })
whole-taken d turn now k m last early due is =
    whole-after d turn now 3 k (record { now = m; words = taken d now k.words }) (omega arith) (omega arith) last is (ready d turn now 2 k (omega arith) early due is)
    (each-taken (λ w. 4 * w.sent + 4 ≤ 4 * now + 3) d now k.words.arrived k.words.on_way (said-later turn now 2 (all_words k.words) early is.said))

pub due-taken : (d turn now : ℕ) (k : Kept) → turn ≤ 4 * now + 2 → IfSome (due_of d (next_of turn) k.words) (λ due. now ≤ due) → IsWhole d turn k
    → IfSome (due_of d (next_of (4 * now + 3)) (taken d now k.words)) (λ due. now < due)
due-taken d turn now k early due is = due-after d now 3 (taken d now k.words) (omega arith) (omega arith) (ready d turn now 2 k (omega arith) early due is)

pub option-taken : (option : NetOption) (d now : ℕ) (k : WordsKept) → Each (IsOf option) (all_words k) → Each (IsOf option) (all_words (taken d now k))
option-taken option d now k are = each-taken (IsOf option) d now k.arrived k.on_way are

pub whole-said : (d turn now : ℕ) (news : Bool) (level : Level) (k : Kept) (m : LineMoment) → now ≤ LAST_MILLISECOND → turn ≤ 4 * now + 3 → IfSome (due_of d (next_of turn) k.words) (λ due. now ≤ due) → IsWhole d turn k
    → IsWhole d (4 * now + 4) (record { now = m; words = words_said d now news level k.words })
whole-said d turn now news level k m last early due is =
    whole-after d turn now 4 k (record { now = m; words = words_said d now news level k.words }) (omega arith) (omega arith) last is (ordered-words_said d turn now news level k early due is)
    (each-words_said (λ w. 4 * w.sent + 4 ≤ 4 * now + 4) d now news level k.words is.delay_low (λ w said. said) (omega arith, tt) (said-later turn now 3 (all_words k.words) early is.said))

pub due-said : (d turn now : ℕ) (news : Bool) (level : Level) (k : Kept) → turn ≤ 4 * now + 3 → IfSome (due_of d (next_of turn) k.words) (λ due. now ≤ due) → IsWhole d turn k
    → IfSome (due_of d (next_of (4 * now + 4)) (words_said d now news level k.words)) (λ due. now < due)
due-said d turn now news level k early due is = due-after d now 4 (words_said d now news level k.words) (omega arith) (omega arith) (ordered-words_said d turn now news level k early due is)

pub option-said : (option : NetOption) (d now : ℕ) (news : Bool) (level : Level) (k : WordsKept) → 1 ≤ d → level.option ≡ option → Each (IsOf option) (all_words k) → Each (IsOf option) (all_words (words_said d now news level k))
option-said option d now news level k low of are = each-words_said (IsOf option) d now news level k low (λ w is. is) (of, tt) are
