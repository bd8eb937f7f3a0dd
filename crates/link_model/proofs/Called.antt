-- What each call makes of a line.
use Rattle.std.proofs.Common.{◌≡◌, ◌≤◌, ◌<◌, ℕ, suc, ◌+◌, ◌-◌, ◌*◌, Bool, true, false, not, ◌&&◌, nat_eq, if◌then◌else◌, List, [], ◌∷◌, ◌++◌, length, map, Option, None, Some, IfSome, is_some, refl, ap, sym, subst, ◌∙◌, arith}
use Rattle.std.proofs.lemmas.List.{append-nil}
use Rattle.std.specs.Cmp.{first_so}
use Rattle.sync_text.proofs.Each.{Each-map, Each-append}
use Rattle.sync_text.specs.Each.{Each}
use Rattle.sync_ql.specs.declared.levels.Level.{Level}
use Rattle.sync_ql.specs.Pasts.{first_within}
use Rattle.sync_ql.specs.Messages.{LineMoment, said_in, said, is_same_level, is_news, came, arrivals, unchanged, line_until}
use Rattle.sync_ql.proofs.Delivered.{same-is}
use Rattle.link_model.specs.declared.word.Word.{Word}
use Rattle.link_model.specs.Calls.{turned, with_up, with_esmc, with_level}
use Rattle.link_model.specs.Kept.{WordsKept, Kept, all_words, heard_of, lost, cut_at, arrival_of, loss_of, due_of}
use Rattle.link_model.specs.private.Kept.{taken_in, said_from, ended, ended_arrived, new_word, IsOrdered}
use Rattle.link_model.specs.StandsFor.{IsOfPast, IsAfter, SaysTheSame, SaysTheSameIfUp}
use Rattle.link_model.specs.Whole.{next_of, seen}
use Rattle.link_model.specs.private.Whole.{IsWhole}
use Rattle.link_model.proofs.Times.{not_equal}
use Rattle.link_model.proofs.Pasts.{said-unchanged, said-down, no-news, news-none}
use Rattle.link_model.proofs.Ordering.{kept_words, Each-over, words_of-ended, ordered-lost, ordered-said, due-arrival}
use Rattle.link_model.proofs.Telling.{goes-down, comes-up, says-same, says-other}
use Rattle.link_model.proofs.Standing.{taken, next-is, next-low, each-taken, each-lost, ready, said-before, length-until, until-next, quiet-until, IsAt, gap-kept, at-call}

-- words of which each has a fact that an end doesn't change
pub each-said : (P : Word → Type 0) (now : ℕ) (level : Option Level) (k : WordsKept) → ((w : Word) → P w → P (ended now w)) → Each P (new_word now level) → Each P (all_words k) → Each P (all_words (said_from now level k))
each-said P now level k end new all =
    subst (Each P) (sym (words_of-ended now k.arrived k.on_way (new_word now level)))
    (Each-append P (map (ended now) (all_words k)) (new_word now level) (Each-over (ended now) P (all_words k) (Each-map P (λ w. P (ended now w)) end (all_words k) all)) new)

pub off-is : (now : ℕ) (k : WordsKept) → said_from now None k ≡ kept_words (ended_arrived now k.arrived) (map (ended now) k.on_way)
off-is now k = ap (kept_words (ended_arrived now k.arrived)) (append-nil (map (ended now) k.on_way))

pub taken-said : (d now : ℕ) (level : Level) (a : Option Word) (ws : List Word) → 1 ≤ d → taken_in d now (ended_arrived now a) (map (ended now) ws ++ new_word now (Some level)) ≡ said_from now (Some level) (taken_in d now a ws)
taken-said d now level a [] low = rw (not_equal (now + d) now (λ same. omega (arith, same, low))) refl
taken-said d now level a (v ∷ vs) low = by (nat_eq (v.sent + d) now)
  where
    by : (b : Bool) → (if b then kept_words (Some (ended now v)) (map (ended now) vs ++ new_word now (Some level)) else kept_words (ended_arrived now a) (ended now v ∷ map (ended now) vs ++ new_word now (Some level)))
        ≡ said_from now (Some level) (if b then kept_words (Some v) vs else kept_words a (v ∷ vs))
    by true = refl
    by false = refl

-- the line is up or down
abbrev pub words_up : ℕ → ℕ → Bool → WordsKept → WordsKept
words_up d now up k = if up then taken d now k else lost d now k

pub each-up : (P : Word → Type 0) (d now : ℕ) (up : Bool) (k : WordsKept) → ((w : Word) → P w → P (cut_at (now - d) w)) → Each P (all_words k) → Each P (all_words (words_up d now up k))
each-up P d now true k cut all = each-taken P d now k.arrived k.on_way all
each-up P d now false k cut all = each-lost P d now k cut all

pub ordered-up : (d turn now : ℕ) (up : Bool) (k : Kept) → turn ≤ 4 * now → IfSome (due_of d (next_of turn) k.words) (λ due. now ≤ due) → IsWhole d turn k → IsOrdered d (suc now) (words_up d now up k.words)
ordered-up d turn now true k early due is = ready d turn now 0 k (omega arith) (omega (arith, early)) due is
ordered-up d turn now false k early due is = let low = next-low turn in ordered-lost d (next_of turn) now k.words.arrived k.words.on_way (omega (arith, early, low)) is.ordered

same_up : (e : Bool) (l : Option Level) → (if true && e then l else None) ≡ (if true && e then (if (true && e) && not (true && e) then None else l) else None)
same_up true l = refl
same_up false l = refl

said-turned-up : (x : LineMoment) → x.up ≡ true → said_in x ≡ said_in (turned x true x.esmc)
said-turned-up x up = rw up (same_up x.esmc x.level)

silent_up : (e : Bool) (l : Option Level) → (if true && e then (if (true && e) && not (false && e) then None else l) else None) ≡ None
silent_up true l = refl
silent_up false l = refl

silent-turned-up : (x : LineMoment) → x.up ≡ false → said_in (turned x true x.esmc) ≡ None
silent-turned-up x down = rw down (silent_up x.esmc x.level)

was_down : (d : ℕ) (k : Kept) (x : LineMoment) (before : List LineMoment) → x ≡ unchanged before → x.up ≡ false → IsOfPast d k (x ∷ before) → IsOfPast d (record { now = turned x true x.esmc; words = k.words }) (turned x true x.esmc ∷ before)
was_down d k x [] same down is = cc (sym down ∙ ap (λ m. m.up) same)
was_down d k x (last ∷ before) same down is = comes-up d k x (turned x true x.esmc) last before down (ap (λ m. m.up) (sym same) ∙ down) (silent-turned-up x down) is

turns_up : (d : ℕ) (k : Kept) (x : LineMoment) (before : List LineMoment) → 1 ≤ d → x ≡ unchanged before → IsOfPast d k (x ∷ before) → IsOfPast d (record { now = turned x true x.esmc; words = k.words }) (turned x true x.esmc ∷ before)
turns_up d k x before low same is = by x.up refl
  where
    by : (b : Bool) → x.up ≡ b → IsOfPast d (record { now = turned x true x.esmc; words = k.words }) (turned x true x.esmc ∷ before)
    by true up = says-same d k x (turned x true x.esmc) before low up (said-turned-up x up) is
    by false down = was_down d k x before same down is

same_if_up : (up : Bool) (x : LineMoment) (before : List LineMoment) → said_in x ≡ said before → SaysTheSameIfUp (turned x up x.esmc ∷ before)
same_if_up false x before same up = cc
same_if_up true x before same up = by x.up refl
  where
    by : (b : Bool) → x.up ≡ b → said_in (turned x true x.esmc) ≡ said before
    by true is = sym (said-turned-up x is) ∙ same
    by false is = silent-turned-up x is ∙ sym (said-down x is) ∙ same

pub stands-up : (d turn now : ℕ) (up : Bool) (k : Kept) (past : List LineMoment) → turn ≤ 4 * now → IfSome (due_of d (next_of turn) k.words) (λ due. now ≤ due) → IsWhole d turn k → IsAfter (seen d turn k) past
    → IsAfter (seen d (4 * now + 1) (record { now = turned k.now up k.now.esmc; words = words_up d now up k.words })) (with_up up (line_until (suc now) past))
stands-up d turn now up k past early due is stands =
    subst (λ p. IsAfter (seen d (4 * now + 1) (record { now = turned k.now up k.now.esmc; words = words_up d now up k.words })) (with_up up p)) (sym (until-next now past short))
    (record {
      turn_low = omega (arith, long);
      turn_high = omega (arith, long);
      before_esmc = λ soon. same_if_up up x q (said-unchanged q);
      before_say = λ soon speaks. same_if_up up x q (said-unchanged q) (first_so up x.esmc speaks);
      kept = subst (λ m. IsOfPast d (record { now = turned m up m.esmc; words = words_up d now up k.words }) (turned x up x.esmc ∷ q)) (sym quiet.now) (by up);
    })
  where
    short : length past ≤ now
    short = let low = stands.turn_low in omega (arith, low, early)

    q : List LineMoment
    q = line_until now past

    x : LineMoment
    x = unchanged (line_until now past)

    long : length (line_until now past) ≡ now
    long = length-until now past short

    ordered : IsOrdered d (length past) k.words
    ordered = subst (λ n. IsOrdered d n k.words) (next-is turn (length past) stands.turn_low stands.turn_high) is.ordered

    arrival : IfSome (arrival_of d k.words.on_way) (λ at. now ≤ at)
    arrival = due-arrival now (arrival_of d k.words.on_way) (loss_of d (next_of turn) k.words.arrived) due

    quiet : IsOfPast d k (line_until now past)
    quiet = quiet-until d now k past short arrival ordered stands.kept

    came_before : IfSome k.words.arrived (λ w. w.sent + d < length (line_until now past))
    came_before = later k.words.arrived ordered.came
      where
        later : (a : Option Word) → IfSome a (λ w. w.sent + d < length past) → IfSome a (λ w. w.sent + d < length (line_until now past))
        later None less = tt
        later (Some w) less = omega (arith, less, short, long)

    by : (b : Bool) → IsOfPast d (record { now = turned (unchanged (line_until now past)) b (unchanged (line_until now past)).esmc; words = words_up d now b k.words }) (turned (unchanged (line_until now past)) b (unchanged (line_until now past)).esmc ∷ line_until now past)
    by true = turns_up d (record { now = k.now; words = taken d now k.words }) (unchanged (line_until now past)) (line_until now past) is.delay_low refl
        (gap-kept d now k past is.delay_low short arrival ordered stands.kept)
    by false = subst (λ n. IsOfPast d (record { now = turned (unchanged (line_until now past)) false (unchanged (line_until now past)).esmc; words = lost d n k.words }) (turned (unchanged (line_until now past)) false (unchanged (line_until now past)).esmc ∷ line_until now past)) long
        (goes-down d k (turned (unchanged (line_until now past)) false (unchanged (line_until now past)).esmc) (line_until now past) refl came_before quiet)

-- the ESMC is on or off
abbrev pub words_esmc : ℕ → ℕ → Bool → WordsKept → WordsKept
words_esmc d now on k =
    if on then taken d now k else kept_words (ended_arrived now (taken d now k).arrived) (map (ended now) (taken d now k).on_way)

pub each-esmc : (P : Word → Type 0) (d now : ℕ) (on : Bool) (k : WordsKept) → ((w : Word) → P w → P (ended now w)) → Each P (all_words k) → Each P (all_words (words_esmc d now on k))
each-esmc P d now true k end all = each-taken P d now k.arrived k.on_way all
each-esmc P d now false k end all =
    subst (λ words. Each P (all_words words)) (off-is now (taken d now k)) (each-said P now None (taken d now k) end tt (each-taken P d now k.arrived k.on_way all))

pub early-words : (d turn now c : ℕ) (k : Kept) → c ≤ 3 → turn ≤ 4 * now + c → IsWhole d turn k → Each (λ w. w.sent < now) (all_words (taken d now k.words))
early-words d turn now c k small early is =
    said-before turn now c (all_words (taken d now k.words)) small early (each-taken (λ w. 4 * w.sent + 4 ≤ turn) d now k.words.arrived k.words.on_way is.said)

pub ordered-esmc : (d turn now : ℕ) (on : Bool) (k : Kept) → turn ≤ 4 * now + 1 → IfSome (due_of d (next_of turn) k.words) (λ due. now ≤ due) → IsWhole d turn k → IsOrdered d (suc now) (words_esmc d now on k.words)
ordered-esmc d turn now true k early due is = ready d turn now 1 k (omega arith) early due is
ordered-esmc d turn now false k early due is =
    subst (IsOrdered d (suc now)) (off-is now (taken d now k.words))
    (ordered-said d now None (taken d now k.words).arrived (taken d now k.words).on_way is.delay_low (early-words d turn now 1 k (omega arith) early is) (ready d turn now 1 k (omega arith) early due is))

same_on : (u e : Bool) (l : Option Level) → (if u && e then l else None) ≡ (if u && true then (if (u && true) && not (u && e) then None else l) else None)
same_on true true l = refl
same_on true false l = refl
same_on false true l = refl
same_on false false l = refl

silent_off : (u e : Bool) (l : Option Level) → (if u && false then (if (u && false) && not (u && e) then None else l) else None) ≡ None
silent_off true e l = refl
silent_off false e l = refl

no_part : (a : Bool) → (a && false) ≡ true → ⊥
no_part true both = cc
no_part false both = cc

says_esmc : (on : Bool) (x : LineMoment) (before : List LineMoment) → SaysTheSameIfUp (x ∷ before) → SaysTheSame (turned x x.up on ∷ before)
says_esmc true x before same speaks = sym (same_on x.up x.esmc x.level) ∙ same (first_so x.up true speaks)
says_esmc false x before same speaks = absurd (no_part x.up speaks)

turns_esmc : (d now : ℕ) (on : Bool) (k : WordsKept) (x : LineMoment) (before : List LineMoment) → 1 ≤ d → length before ≡ now → SaysTheSameIfUp (x ∷ before)
    → IsOrdered d (suc now) (taken d now k) → IsOfPast d (record { now = x; words = taken d now k }) (x ∷ before)
    → IsOfPast d (record { now = turned x x.up on; words = words_esmc d now on k }) (turned x x.up on ∷ before)
turns_esmc d now true k x before low long same ordered is =
    says-same d (record { now = x; words = taken d now k }) x (turned x x.up true) before low refl (same_on x.up x.esmc x.level) is
turns_esmc d now false k x before low long same ordered is =
    let silent : said_in (turned x x.up false) ≡ None = silent_off x.up x.esmc x.level in
    subst (λ words. IsOfPast d (record { now = turned x x.up false; words = words }) (turned x x.up false ∷ before))
    (ap (λ l. kept_words (ended_arrived (length before) (taken d now k).arrived) (map (ended (length before)) (taken d now k).on_way ++ new_word (length before) l)) silent
    ∙ ap (λ n. said_from n None (taken d now k)) long
    ∙ off-is now (taken d now k))
    (says-other d (taken d now k).arrived (taken d now k).on_way x (turned x x.up false) before low refl (λ up. no-news x before (same up))
    (news-none (turned x x.up false) before silent ∙ sym (ap is_some silent))
    (subst (λ n. IsOrdered d (suc n) (taken d now k)) (sym long) ordered) is)

pub stands-esmc : (d turn now : ℕ) (on : Bool) (k : Kept) (past : List LineMoment) → turn ≤ 4 * now + 1 → IfSome (due_of d (next_of turn) k.words) (λ due. now ≤ due) → IsWhole d turn k → IsAfter (seen d turn k) past
    → IsAfter (seen d (4 * now + 2) (record { now = turned k.now k.now.up on; words = words_esmc d now on k.words })) (with_esmc on (line_until (suc now) past))
stands-esmc d turn now on k past early due is stands =
    subst (λ p. IsAfter (seen d (4 * now + 2) (record { now = turned k.now k.now.up on; words = words_esmc d now on k.words })) (with_esmc on p)) (sym at.line)
    (record {
      turn_low = omega (arith, long);
      turn_high = omega (arith, long);
      before_esmc = λ soon. absurd (omega (arith, soon, long));
      before_say = λ soon. says_esmc on at.x at.before same;
      kept = subst (λ m. IsOfPast d (record { now = turned m m.up on; words = words_esmc d now on k.words }) (turned at.x at.x.up on ∷ at.before)) (sym at.kept_is.now)
          (turns_esmc d now on k.words at.x at.before is.delay_low at.long same (ready d turn now 1 k (omega arith) early due is)
          (subst (λ m. IsOfPast d (record { now = m; words = taken d now k.words }) (at.x ∷ at.before)) at.kept_is.now at.kept_is));
    })
  where
    at : IsAt d now k past
    at = at-call d turn now 1 k past (omega arith) early due is stands

    long : length at.before ≡ now
    long = at.long

    same : SaysTheSameIfUp (at.x ∷ at.before)
    same = at.same_if_up (λ whole. stands.before_esmc (omega (arith, whole, early)))

-- what arrives
pub stands-taken : (d turn now : ℕ) (k : Kept) (past : List LineMoment) → turn ≤ 4 * now + 2 → IfSome (due_of d (next_of turn) k.words) (λ due. now ≤ due) → IsWhole d turn k → IsAfter (seen d turn k) past
    → IsAfter (seen d (4 * now + 3) (record { now = k.now; words = taken d now k.words })) (line_until (suc now) past)
stands-taken d turn now k past early due is stands =
    subst (IsAfter (seen d (4 * now + 3) (record { now = k.now; words = taken d now k.words }))) (sym at.line)
    (record {
      turn_low = omega (arith, long);
      turn_high = omega (arith, long);
      before_esmc = λ soon. absurd (omega (arith, soon, long));
      before_say = λ soon. at.same (λ whole. stands.before_say (omega (arith, whole, early)));
      kept = at.kept_is;
    })
  where
    at : IsAt d now k past
    at = at-call d turn now 2 k past (omega arith) early due is stands

    long : length at.before ≡ now
    long = at.long

first_one : (x : Option Level) (xs : List (Option Level)) → first_within 1 (x ∷ xs) ≡ x
first_one None xs = refl
first_one (Some level) xs = refl

pub came-taken : (d turn now : ℕ) (k : Kept) (past : List LineMoment) → turn ≤ 4 * now + 2 → IfSome (due_of d (next_of turn) k.words) (λ due. now ≤ due) → IsWhole d turn k → IsAfter (seen d turn k) past
    → heard_of d (taken d now k.words).arrived 1 (suc now) ≡ came d (line_until (suc now) past)
came-taken d turn now k past early due is stands =
    let at = at-call d turn now 2 k past (omega arith) early due is stands in
    let heard = at.kept_is.heard 1 in
    ap (λ n. heard_of d (taken d now k.words).arrived 1 (suc n)) (sym at.long)
    ∙ sym heard
    ∙ first_one (came d (at.x ∷ at.before)) (arrivals d at.before)
    ∙ ap (came d) (sym at.line)

-- a level is said
abbrev pub words_said : ℕ → ℕ → Bool → Level → WordsKept → WordsKept
words_said d now news level k =
    if news then taken_in d now (ended_arrived now k.arrived) (map (ended now) k.on_way ++ new_word now (Some level)) else taken d now k

abbrev pub is_other_now : LineMoment → Level → Bool
is_other_now x level = (x.up && x.esmc) && not (is_same_level (Some level) x.level)

pub each-words_said : (P : Word → Type 0) (d now : ℕ) (news : Bool) (level : Level) (k : WordsKept) → 1 ≤ d → ((w : Word) → P w → P (ended now w)) → Each P (new_word now (Some level)) → Each P (all_words k) → Each P (all_words (words_said d now news level k))
each-words_said P d now false level k low end new all = each-taken P d now k.arrived k.on_way all
each-words_said P d now true level k low end new all =
    subst (λ words. Each P (all_words words)) (sym (taken-said d now level k.arrived k.on_way low))
    (each-said P now (Some level) (taken d now k) end new (each-taken P d now k.arrived k.on_way all))

pub ordered-words_said : (d turn now : ℕ) (news : Bool) (level : Level) (k : Kept) → turn ≤ 4 * now + 3 → IfSome (due_of d (next_of turn) k.words) (λ due. now ≤ due) → IsWhole d turn k → IsOrdered d (suc now) (words_said d now news level k.words)
ordered-words_said d turn now false level k early due is = ready d turn now 3 k (omega arith) early due is
ordered-words_said d turn now true level k early due is =
    subst (IsOrdered d (suc now)) (sym (taken-said d now level k.words.arrived k.words.on_way is.delay_low))
    (ordered-said d now (Some level) (taken d now k.words).arrived (taken d now k.words).on_way is.delay_low (early-words d turn now 3 k (omega arith) early is) (ready d turn now 3 k (omega arith) early due is))

abbrev pub given : LineMoment → Level → LineMoment
given x level = record { up = x.up; esmc = x.esmc; level = Some level }

no_other : (u e : Bool) (l : Option Level) (level : Level) → ((u && e) && not (is_same_level (Some level) l)) ≡ false → (if u && e then l else None) ≡ (if u && e then Some level else None)
no_other true true l level same = sym (same-is (Some level) l (is_same (is_same_level (Some level) l) same))
  where
    is_same : (b : Bool) → not b ≡ false → b ≡ true
    is_same true same = refl
    is_same false same = cc
no_other true false l level same = refl
no_other false e l level same = refl

all_parts : (u e same : Bool) → ((u && e) && not same) ≡ true → ((u && e) ≡ true) × (same ≡ false)
all_parts true true true both = cc
all_parts true true false both = (refl, refl)
all_parts true false same both = cc
all_parts false e same both = cc

gives : (d now : ℕ) (news : Bool) (level : Level) (k : WordsKept) (x : LineMoment) (before : List LineMoment) → is_other_now x level ≡ news → 1 ≤ d → length before ≡ now → SaysTheSame (x ∷ before)
    → IsOrdered d (suc now) (taken d now k) → IsOfPast d (record { now = x; words = taken d now k }) (x ∷ before)
    → IsOfPast d (record { now = given x level; words = words_said d now news level k }) (given x level ∷ before)
gives d now false level k x before news_is low long same ordered is =
    says-same d (record { now = x; words = taken d now k }) x (given x level) before low refl (no_other x.up x.esmc x.level level news_is) is
gives d now true level k x before news_is low long same ordered is =
    let parts = all_parts x.up x.esmc (is_same_level (Some level) x.level) news_is in
    let says : said_in (given x level) ≡ Some level = rw parts.0 refl in
    let said_before : said before ≡ x.level = sym (same parts.0) ∙ ap (λ b. if b then x.level else None) parts.0 in
    let news : is_news (given x level ∷ before) ≡ true =
    ap (λ l. is_some l && not (is_same_level l (said before))) says ∙ ap (λ l. not (is_same_level (Some level) l)) said_before ∙ ap not parts.1 in
    subst (λ words. IsOfPast d (record { now = given x level; words = words }) (given x level ∷ before))
    (ap (λ l. kept_words (ended_arrived (length before) (taken d now k).arrived) (map (ended (length before)) (taken d now k).on_way ++ new_word (length before) l)) says
    ∙ ap (λ n. said_from n (Some level) (taken d now k)) long
    ∙ sym (taken-said d now level k.arrived k.on_way low))
    (says-other d (taken d now k).arrived (taken d now k).on_way x (given x level) before low refl (λ up. no-news x before (same parts.0))
    (news ∙ sym (ap is_some says))
    (subst (λ n. IsOrdered d (suc n) (taken d now k)) (sym long) ordered) is)

pub stands-said : (d turn now : ℕ) (level : Level) (k : Kept) (past : List LineMoment) → turn ≤ 4 * now + 3 → IfSome (due_of d (next_of turn) k.words) (λ due. now ≤ due) → IsWhole d turn k → IsAfter (seen d turn k) past
    → IsAfter (seen d (4 * now + 4) (record { now = given k.now level; words = words_said d now (is_other_now k.now level) level k.words })) (with_level level (line_until (suc now) past))
stands-said d turn now level k past early due is stands =
    subst (λ p. IsAfter (seen d (4 * now + 4) (record { now = given k.now level; words = words_said d now (is_other_now k.now level) level k.words })) (with_level level p)) (sym at.line)
    (record {
      turn_low = omega (arith, long);
      turn_high = omega (arith, long);
      before_esmc = λ soon. absurd (omega (arith, soon, long));
      before_say = λ soon. absurd (omega (arith, soon, long));
      kept = subst (λ m. IsOfPast d (record { now = given m level; words = words_said d now (is_other_now m level) level k.words }) (given at.x level ∷ at.before)) (sym at.kept_is.now)
          (gives d now (is_other_now at.x level) level k.words at.x at.before refl is.delay_low at.long (at.same (λ whole. stands.before_say (omega (arith, whole, early)))) (ready d turn now 3 k (omega arith) early due is)
          (subst (λ m. IsOfPast d (record { now = m; words = taken d now k.words }) (at.x ∷ at.before)) at.kept_is.now at.kept_is));
    })
  where
    at : IsAt d now k past
    at = at-call d turn now 3 k past (omega arith) early due is stands

    long : length at.before ≡ now
    long = at.long
