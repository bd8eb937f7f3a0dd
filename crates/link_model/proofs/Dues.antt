-- What is due, what is heard until then, and what a line carries.
use Rattle.std.proofs.lemmas.Bool.Decides.{nat_tests}
use Rattle.std.proofs.Math.Decide.{dec_lt}
use Rattle.std.proofs.Common.{◌≡◌, ◌≤◌, ◌<◌, ◌⊎◌, inl, inr, ℕ, zero, suc, ◌+◌, ◌-◌, ◌*◌, Bool, true, false, ◌&&◌, ◌||◌, nat_lt, nat_le, if◌then◌else◌, List, [], ◌∷◌, length, map, slice_index_or, Option, None, Some, IfSome, is_some, is_none, refl, ap, sym, subst, ◌∙◌, arith}
use Rattle.std.specs.List.{list_any}
use Rattle.std.specs.Option.{option_or}
use Rattle.sync_text.specs.Each.{Each}
use Rattle.sync_ql.specs.declared.levels.Level.{Level}
use Rattle.sync_ql.specs.declared.levels.NetOption.{NetOption}
use Rattle.sync_ql.specs.Told.{IsOfOption}
use Rattle.sync_ql.specs.FirstChange.{IsNextChange, IsFirstChange}
use Rattle.sync_ql.specs.Pasts.{first_within}
use Rattle.sync_ql.specs.Messages.{LineMoment, heard_at, delivered, on_way_at, unchanged, after_unchanged, line_until, hearing_time, IsSameOnLine, has_arrived, is_lost, IsLineDue}
use Rattle.link_model.specs.declared.word.Word.{Word}
use Rattle.link_model.specs.Carried.{HasLevel}
use Rattle.link_model.specs.Spoken.{is_before, says, spoken, end_before, second_before, last_of, last_sent, message_of}
use Rattle.link_model.specs.Kept.{Kept, words_of, heard_of, lost_from, if_later, loss_of, arrival_of, first_of, due_of}
use Rattle.link_model.specs.private.Kept.{IsWord, IsChain, IsOrdered}
use Rattle.link_model.specs.StandsFor.{IsOfPast, IsAfter}
use Rattle.link_model.specs.Whole.{next_of, seen}
use Rattle.link_model.specs.private.Whole.{IsWhole}
use Rattle.link_model.proofs.Times.{below, within, not_within, is_below, is_not_below, is_within, is_not_within, last-near, end-over}
use Rattle.link_model.proofs.Pasts.{delivered-early, delivered-more, delivered-first}
use Rattle.link_model.proofs.Ordering.{kept_words, words_rest, chain_rest, later-than}
use Rattle.link_model.proofs.Standing.{next-is, taken, quiet-until, length-until, at-call}

-- the level of the word that arrived last is heard until it is lost
abbrev pub until_loss : Option ℕ → ℕ → Bool
until_loss None k = true
until_loss (Some lost) k = nat_le k lost

end-later : (u n : ℕ) → n ≤ u → end_before (Some u) n ≡ n
end-later u n early = grind (arith, nat_tests)

alive : (d : ℕ) (w : Word) (until : Option ℕ) (k : ℕ) → w.until ≡ until → w.sent + d < k → nat_le k (d + last_of w.sent until (k - d) + 5000) ≡ until_loss (lost_from d w until) k
alive d w None k is came =
    let near = last-near w.sent None (k - d) in
    within k (d + last_of w.sent None (k - d) + 5000) (omega (arith, near, came))
alive d w (Some u) k is came = elim (dec_lt u (k - d)) [
  | yes over ↦
      ap (λ e. nat_le k (d + (if nat_lt (second_before e) w.sent then w.sent else second_before e) + 5000))
      (end-over u (k - d) (omega (arith, over)) ∙ sym (end-over u u (omega arith)))
      ∙ ap (λ until. nat_le k (d + last_of w.sent until u + 5000)) (sym is)
  | no not_over ↦
      let near = last-near w.sent (Some u) (k - d) in
      let same = end-later u (k - d) (omega (arith, not_over)) in
      let near_end = last-near w.sent (Some u) u in
      let same_end = end-over u u (omega arith) in
      let last_is : last_of w.sent w.until u ≡ last_of w.sent (Some u) u = ap (λ until. last_of w.sent until u) is in
      within k (d + last_of w.sent (Some u) (k - d) + 5000) (omega (arith, near, same, came))
      ∙ sym (within k (d + last_of w.sent w.until u + 5000) (omega (arith, near_end, same_end, last_is, not_over, came)))
]

pub heard-alive : (d : ℕ) (w : Word) (k : ℕ) → w.sent + d < k → heard_of d (Some w) hearing_time k ≡ (if until_loss (lost_from d w w.until) k then Some w.level else None)
heard-alive d w k came = ap (λ b. if b then Some w.level else None) (alive d w w.until k refl came)

-- so it stays, while no word arrives and it isn't lost
loss_stays : (lost_at : Option ℕ) (n m : ℕ) → n ≤ m → IfSome (if_later n lost_at) (λ lost. m ≤ lost) → until_loss lost_at m ≡ until_loss lost_at n
loss_stays None n m later before = refl
loss_stays (Some lost) n m later before = by (nat_le n lost) refl before
  where
    by : (b : Bool) → nat_le n lost ≡ b → IfSome (if b then Some lost else None) (λ lost. m ≤ lost) → nat_le m lost ≡ nat_le n lost
    by true is less = within m lost less ∙ sym is
    by false is less = (let over = is_not_within n lost is in not_within m lost (omega (arith, over, later))) ∙ sym is

heard_stays : (d : ℕ) (a : Option Word) (n m : ℕ) → n ≤ m → IfSome a (λ w. w.sent + d < n) → IfSome (loss_of d n a) (λ lost. m ≤ lost) → heard_of d a hearing_time m ≡ heard_of d a hearing_time n
heard_stays d None n m later came before = refl
heard_stays d (Some w) n m later came before =
    heard-alive d w m (omega (arith, came, later))
    ∙ ap (λ b. if b then Some w.level else None) (loss_stays (lost_from d w w.until) n m later before)
    ∙ sym (heard-alive d w n came)

pub heard-is : (d : ℕ) (k : Kept) (past : List LineMoment) → IsOfPast d k past → heard_at d past ≡ heard_of d k.words.arrived hearing_time (length past)
unfolding heard_at
heard-is d k past is = is.heard hearing_time

heard_until : (d : ℕ) (k : Kept) (past : List LineMoment) (m : ℕ) → length past ≤ m → IfSome (arrival_of d k.words.on_way) (λ at. m ≤ at) → IsOrdered d (length past) k.words → IsOfPast d k past
    → heard_at d (line_until m past) ≡ heard_of d k.words.arrived hearing_time m
heard_until d k past m later arrival ordered is =
    heard-is d k (line_until m past) (quiet-until d m k past later arrival ordered is)
    ∙ ap (heard_of d k.words.arrived hearing_time) (length-until m past later)

same_until : (d : ℕ) (k : Kept) (past : List LineMoment) (m : ℕ) → length past ≤ m → IfSome (arrival_of d k.words.on_way) (λ at. m ≤ at) → IfSome (loss_of d (length past) k.words.arrived) (λ lost. m ≤ lost)
    → IsOrdered d (length past) k.words → IsOfPast d k past → IsSameOnLine d past (line_until m past)
same_until d k past m later arrival loss ordered is =
    let quiet = quiet-until d m k past later arrival ordered is in
    record {
      on_way = sym quiet.on_way ∙ is.on_way;
      heard = heard_until d k past m later arrival ordered is
          ∙ heard_stays d k.words.arrived (length past) m later ordered.came loss
          ∙ sym (heard-is d k past is);
    }

-- the first change
has_first : (d x : ℕ) (ws : List Word) → arrival_of d ws ≡ Some x → list_any (λ message. nat_lt (message.sent + d) (x + 1)) (map message_of ws) ≡ true
has_first d x [] at = cc
has_first d x (w ∷ ws) at =
    let same : w.sent + d ≡ x = some_is (w.sent + d) x at in
    rw (below (w.sent + d) (x + 1) (omega (arith, same))) refl
  where
    some_is : (a b : ℕ) → Some a ≡ Some b → a ≡ b
    some_is a b same = cc

arrives_then : (d x : ℕ) (k : Kept) (past : List LineMoment) → IsOfPast d k past → arrival_of d k.words.on_way ≡ Some x → (has_arrived d (x + 1) past || is_lost d (x + 1) past) ≡ true
arrives_then d x k past is at =
    ap (λ messages. list_any (λ message. nat_lt (message.sent + d) (x + 1)) messages || is_lost d (x + 1) past) (sym is.on_way)
    ∙ ap (λ b. b || is_lost d (x + 1) past) (has_first d x k.words.on_way at)

or_true : (a : Bool) → (a || true) ≡ true
or_true true = refl
or_true false = refl

loss_is : (n lost : ℕ) (lost_at : Option ℕ) → if_later n lost_at ≡ Some lost → (lost_at ≡ Some lost) × (n ≤ lost)
loss_is n lost None is = cc
loss_is n lost (Some x) is = by (nat_le n x) refl is
  where
    by : (b : Bool) → nat_le n x ≡ b → (if b then Some x else None) ≡ Some lost → (Some x ≡ Some lost) × (n ≤ lost)
    by true less same = (same, subst (λ y. n ≤ y) (some_is x lost same) (is_within n x less))
      where
        some_is : (a b : ℕ) → Some a ≡ Some b → a ≡ b
        some_is a b same = cc
    by false less same = cc

word_lost : (d n lost : ℕ) (a : Option Word) → IfSome a (λ w. w.sent + d < n) → loss_of d n a ≡ Some lost
    → (is_some (heard_of d a hearing_time n) ≡ true) × ((is_none (heard_of d a hearing_time (suc lost)) ≡ true) × (n ≤ lost))
word_lost d n lost None came is = cc
word_lost d n lost (Some w) came is =
    let parts = loss_is n lost (lost_from d w w.until) is in
    let this_alive : heard_of d (Some w) hearing_time n ≡ Some w.level =
    heard-alive d w n came ∙ ap (λ l. if until_loss l n then Some w.level else None) parts.0 ∙ ap (λ b. if b then Some w.level else None) (within n lost parts.1) in
    let not_then : heard_of d (Some w) hearing_time (suc lost) ≡ None =
    heard-alive d w (suc lost) (omega (arith, came, parts.1)) ∙ ap (λ l. if until_loss l (suc lost) then Some w.level else None) parts.0 ∙ ap (λ b. if b then Some w.level else None) (not_within (suc lost) lost (omega arith)) in
    (ap is_some this_alive, (ap is_none not_then, parts.1))

pub is-lost : (d lost : ℕ) (k : Kept) (past : List LineMoment) → IsOrdered d (length past) k.words → IsOfPast d k past → IfSome (arrival_of d k.words.on_way) (λ at. suc lost ≤ at)
    → loss_of d (length past) k.words.arrived ≡ Some lost → is_lost d (suc lost) past ≡ true
is-lost d lost k past ordered is arrival loss =
    let parts = word_lost d (length past) lost k.words.arrived ordered.came loss in
    let bound = parts.1.1 in
    let later : length past ≤ suc lost = omega (arith, bound) in
    ap (λ h. is_some h && is_none (heard_at d (line_until (suc lost) past))) (heard-is d k past is)
    ∙ ap (λ h. is_some (heard_of d k.words.arrived hearing_time (length past)) && is_none h) (heard_until d k past (suc lost) later arrival ordered is)
    ∙ ap (λ b. b && is_none (heard_of d k.words.arrived hearing_time (suc lost))) parts.0
    ∙ parts.1.0

lost_then : (d lost : ℕ) (k : Kept) (past : List LineMoment) → IsOrdered d (length past) k.words → IsOfPast d k past → IfSome (arrival_of d k.words.on_way) (λ at. suc lost ≤ at)
    → loss_of d (length past) k.words.arrived ≡ Some lost → (has_arrived d (lost + 1) past || is_lost d (lost + 1) past) ≡ true
lost_then d lost k past ordered is arrival loss =
    let one : lost + 1 ≡ suc lost = omega arith in
    ap (λ n. has_arrived d n past || is_lost d n past) one
    ∙ ap (λ b. has_arrived d (suc lost) past || b) (is-lost d lost k past ordered is arrival loss)
    ∙ or_true (has_arrived d (suc lost) past)

if_none : (P : ℕ → Type 0) (o : Option ℕ) → o ≡ None → IfSome o P
if_none P None is = tt
if_none P (Some x) is = cc

if_is : (P : ℕ → Type 0) (o : Option ℕ) (x : ℕ) → o ≡ Some x → P x → IfSome o P
if_is P None x is p = cc
if_is P (Some y) x is p = subst P (some_is x y (sym is)) p
  where
    some_is : (a b : ℕ) → Some a ≡ Some b → a ≡ b
    some_is a b same = cc

pub next_arrival : (d n : ℕ) (x : ℕ) (ws : List Word) → Each (λ w. n ≤ w.sent + d) ws → arrival_of d ws ≡ Some x → n ≤ x
next_arrival d n x [] coming at = cc
next_arrival d n x (w ∷ ws) coming at = subst (λ y. n ≤ y) (some_is (w.sent + d) x at) coming.0
  where
    some_is : (a b : ℕ) → Some a ≡ Some b → a ≡ b
    some_is a b same = cc

pub line-due : (d : ℕ) (k : Kept) (past : List LineMoment) → IsOrdered d (length past) k.words → IsOfPast d k past → IsLineDue d past (due_of d (length past) k.words)
line-due d k past ordered is = by (arrival_of d k.words.on_way) (loss_of d (length past) k.words.arrived) refl refl
  where
    by_arrival : (x : ℕ) → arrival_of d k.words.on_way ≡ Some x → IfSome (loss_of d (length past) k.words.arrived) (λ lost. x ≤ lost)
        → IsFirstChange (λ n. IsSameOnLine d past (line_until n past)) (λ n. (has_arrived d n past || is_lost d n past) ≡ true) (length past) x
    by_arrival x at loss = record {
      later = next_arrival d (length past) x k.words.on_way ordered.coming at;
      changed = arrives_then d x k past is at;
      same_before = λ n later until. same_until d k past n later
          (if_is (λ y. n ≤ y) (arrival_of d k.words.on_way) x at until)
          (before_loss n x until (loss_of d (length past) k.words.arrived) loss) ordered is;
    }
      where
        before_loss : (n x : ℕ) → n ≤ x → (o : Option ℕ) → IfSome o (λ lost. x ≤ lost) → IfSome o (λ lost. n ≤ lost)
        before_loss n x until None loss = tt
        before_loss n x until (Some y) loss = omega (arith, until, loss)

    by_loss : (y : ℕ) → loss_of d (length past) k.words.arrived ≡ Some y → IfSome (arrival_of d k.words.on_way) (λ at. suc y ≤ at)
        → IsFirstChange (λ n. IsSameOnLine d past (line_until n past)) (λ n. (has_arrived d n past || is_lost d n past) ≡ true) (length past) y
    by_loss y at arrival = record {
      later = (word_lost d (length past) y k.words.arrived ordered.came at).1.1;
      changed = lost_then d y k past ordered is arrival at;
      same_before = λ n later until. same_until d k past n later
          (before_arrival n y until (arrival_of d k.words.on_way) arrival)
          (if_is (λ z. n ≤ z) (loss_of d (length past) k.words.arrived) y at until) ordered is;
    }
      where
        before_arrival : (n y : ℕ) → n ≤ y → (o : Option ℕ) → IfSome o (λ at. suc y ≤ at) → IfSome o (λ at. n ≤ at)
        before_arrival n y until None arrival = tt
        before_arrival n y until (Some x) arrival = omega (arith, until, arrival)

    both : (x y : ℕ) (b : Bool) → nat_lt y x ≡ b → arrival_of d k.words.on_way ≡ Some x → loss_of d (length past) k.words.arrived ≡ Some y
        → IsNextChange (λ n. IsSameOnLine d past (line_until n past)) (λ n. (has_arrived d n past || is_lost d n past) ≡ true) (length past) (if b then Some y else Some x)
    both x y true less at loss = by_loss y loss (if_is (λ z. suc y ≤ z) (arrival_of d k.words.on_way) x at (let l = is_below y x less in omega (arith, l)))
    both x y false less at loss = by_arrival x at (if_is (λ z. x ≤ z) (loss_of d (length past) k.words.arrived) y loss (is_not_below y x less))

    by : (a l : Option ℕ) → arrival_of d k.words.on_way ≡ a → loss_of d (length past) k.words.arrived ≡ l
        → IsNextChange (λ n. IsSameOnLine d past (line_until n past)) (λ n. (has_arrived d n past || is_lost d n past) ≡ true) (length past) (first_of (arrival_of d k.words.on_way) (loss_of d (length past) k.words.arrived))
    by None None at loss = rw (at, loss) (λ n later. same_until d k past n later (if_none (λ x. n ≤ x) (arrival_of d k.words.on_way) at) (if_none (λ x. n ≤ x) (loss_of d (length past) k.words.arrived) loss) ordered is)
    by (Some x) None at loss = rw (at, loss) (by_arrival x at (if_none (λ y. x ≤ y) (loss_of d (length past) k.words.arrived) loss))
    by None (Some y) at loss = rw (at, loss) (by_loss y loss (if_none (λ x. suc y ≤ x) (arrival_of d k.words.on_way) at))
    by (Some x) (Some y) at loss = rw (at, loss) (both x y (nat_lt y x) refl at loss)

pub due-now : (d turn : ℕ) (k : Kept) (past : List LineMoment) → IsWhole d turn k → IsAfter (seen d turn k) past → IsLineDue d past (due_of d (next_of turn) k.words)
due-now d turn k past is stands =
    let next : next_of turn ≡ length past = next-is turn (length past) stands.turn_low stands.turn_high in
    subst (λ n. IsLineDue d past (due_of d n k.words)) (sym next) (line-due d k past (subst (λ n. IsOrdered d n k.words) next is.ordered) stands.kept)

-- what is heard in a millisecond
pub heard-now : (d turn now : ℕ) (k : Kept) (past : List LineMoment) → turn ≤ 4 * now + 4 → IfSome (due_of d (next_of turn) k.words) (λ due. now ≤ due) → IsWhole d turn k → IsAfter (seen d turn k) past
    → heard_of d (taken d now k.words).arrived hearing_time (suc now) ≡ heard_at d (line_until (suc now) past)
heard-now d turn now k past early due is stands =
    let at = at-call d turn now 4 k past (omega arith) early due is stands in
    ap (λ n. heard_of d (taken d now k.words).arrived hearing_time (suc n)) (sym at.long)
    ∙ sym (heard-is d (record { now = k.now; words = taken d now k.words }) (at.x ∷ at.before) at.kept_is)
    ∙ ap (heard_at d) (sym at.line)

pub option-heard : (option : NetOption) (d window n : ℕ) (a : Option Word) (ws : List Word) → Each (λ w. w.level.option ≡ option) (words_of a ws) → IsOfOption option (heard_of d a window n)
option-heard option d window n None ws are = tt
option-heard option d window n (Some w) ws are = by (nat_le n (d + last_sent w (n - d) + window))
  where
    by : (b : Bool) → IsOfOption option (if b then Some w.level else None)
    by true = are.0
    by false = tt

-- the words on their way
room : (n : ℕ) (v : Word) (vs : List Word) → Each (IsWord n) (v ∷ vs) → IsChain (v ∷ vs) → v.sent + length (v ∷ vs) ≤ n
room n v [] are chain = let less = are.0.before in omega (arith, less)
room n v (u ∷ us) are chain =
    let rest = room n u us are.1 chain.1 in
    let later = later-than v.sent v.until u.sent are.0.longer chain.0.0 in
    omega (arith, rest, later)

pub few-words : (d n : ℕ) (a : Option Word) (ws : List Word) → IsOrdered d n (kept_words a ws) → length ws ≤ d
few-words d n a [] is = omega arith
few-words d n a (v ∷ vs) is =
    let long = room n v vs (words_rest (IsWord n) a (v ∷ vs) is.words) (chain_rest a (v ∷ vs) is.chain) in
    let late = is.coming.0 in
    omega (arith, long, late)

pub each-at : (P : Word → Type 0) (ws : List Word) → Each P ws → (k : ℕ) (d : Word) → k < length ws → P (slice_index_or ws k d)
each-at P [] all k d within = absurd (omega (arith, within))
each-at P (w ∷ ws) all zero d within = all.0
each-at P (w ∷ ws) all (suc k) d within = each-at P ws all.1 k d (omega (arith, within))

pub option-words : (option : NetOption) (a : Option Word) (ws : List Word) → Each (λ w. w.level.option ≡ option) (words_of a ws) → (k : ℕ) (d : Word) → k < length ws → (slice_index_or ws k d).level.option ≡ option
option-words option a ws are k d within = each-at (λ w. w.level.option ≡ option) ws (words_rest (λ w. w.level.option ≡ option) a ws are) k d within

-- what a line carries is heard, or on its way
says_level : (b : Bool) (x level : Level) (rest : Option Level) → option_or (if b then Some x else None) rest ≡ Some level → ((b ≡ true) × (x ≡ level)) ⊎ (rest ≡ Some level)
says_level true x level rest is = inl (refl, some_is x level is)
  where
    some_is : (a b : Level) → ◌≡◌ {A = Option Level} (Some a) (Some b) → a ≡ b
    some_is a b same = cc
says_level false x level rest is = inr is

has-level : (ws : List Word) (s : ℕ) (level : Level) → spoken ws s ≡ Some level → HasLevel level (map message_of ws)
has-level [] s level is = cc
has-level (w ∷ ws) s level is = elim (says_level (says w.sent w.until s) w.level level (spoken ws s) is) [
  | inl here ↦ inl here.1
  | inr there ↦ inr (has-level ws s level there)
]

before-end : (b c : Bool) → (b && c) ≡ true → c ≡ true
before-end true c both = both
before-end false c both = cc

still_heard : (d n s : ℕ) (w : Word) (until : Option ℕ) → w.until ≡ until → n ≤ s + d → is_before s until ≡ true → until_loss (lost_from d w until) n ≡ true
still_heard d n s w None is late before = refl
still_heard d n s w (Some u) is late before =
    let near = last-near w.sent (Some u) u in
    let same = end-over u u (omega arith) in
    let last_is : last_of w.sent w.until u ≡ last_of w.sent (Some u) u = ap (λ until. last_of w.sent until u) is in
    let less = is_below s u before in
    within n (d + last_of w.sent w.until u + 5000) (omega (arith, near, same, last_is, less, late))

heard_or_coming : (d n s : ℕ) (a : Option Word) (ws : List Word) (level : Level) → IfSome a (λ w. w.sent + d < n) → n ≤ s + d → spoken (words_of a ws) s ≡ Some level → (heard_of d a hearing_time n ≡ Some level) ⊎ HasLevel level (map message_of ws)
heard_or_coming d n s None ws level came late is = inr (has-level ws s level is)
heard_or_coming d n s (Some w) ws level came late is = elim (says_level (says w.sent w.until s) w.level level (spoken ws s) is) [
  | inl here ↦ inl (heard-alive d w n came ∙ ap (λ b. if b then Some w.level else None) (still_heard d n s w w.until refl late (before-end (nat_le w.sent s) (is_before s w.until) here.0)) ∙ ap (λ l. Some l) here.1)
  | inr there ↦ inr (has-level ws s level there)
]

pub carried-words : (d turn : ℕ) (k : Kept) (past : List LineMoment) (j : ℕ) (level : Level) → IsWhole d turn k → IsAfter (seen d turn k) past → d < length past + suc j
    → delivered d (after_unchanged (suc j) past) ≡ Some level → (heard_at d past ≡ Some level) ⊎ HasLevel level (on_way_at d past)
carried-words d turn k past j level is stands late delivered_is =
    let next : next_of turn ≡ length past = next-is turn (length past) stands.turn_low stands.turn_high in
    let ordered = subst (λ n. IsOrdered d n k.words) next is.ordered in
    let says = sym (stands.kept.delivers (suc j) (length past + j - d) (omega (arith, late))) ∙ delivered_is in
    elim (heard_or_coming d (length past) (length past + j - d) k.words.arrived k.words.on_way level ordered.came (omega (arith, late)) says) [
      | inl heard ↦ inl (heard-is d k past stands.kept ∙ heard)
      | inr coming ↦ inr (subst (HasLevel level) stands.kept.on_way coming)
    ]

-- a line of which nothing was told
nothing : (d j : ℕ) → delivered d (after_unchanged j []) ≡ None
nothing d zero = delivered-early d [] (omega arith)
nothing zero (suc j) = delivered-first (unchanged []) (after_unchanged j [])
nothing (suc d) (suc j) = delivered-more d (unchanged []) (after_unchanged j []) ∙ nothing d j

on_way-nothing : (d : ℕ) → on_way_at d [] ≡ []
unfolding on_way_at
on_way-nothing d = refl

none_heard : (window : ℕ) → first_within {A = Level} window [] ≡ None
none_heard zero = refl
none_heard (suc window) = refl

pub new-stands : (d : ℕ) → IsAfter (seen d 0 (record { now = unchanged []; words = record { arrived = None; on_way = [] } })) []
new-stands d = record {
  turn_low = omega arith;
  turn_high = omega arith;
  before_esmc = λ soon. tt;
  before_say = λ soon. tt;
  kept = record {
    now = refl;
    on_way = sym (on_way-nothing d);
    delivers = λ j s at. nothing d j;
    heard = λ window. none_heard window;
  };
}
