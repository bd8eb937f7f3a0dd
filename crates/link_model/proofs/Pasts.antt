-- Pasts of a line: one more millisecond, and those in which nothing is told.
use Rattle.std.proofs.Math.Bool.{and-true, and-false}
use Rattle.std.proofs.Common.{◌≡◌, ◌≤◌, ◌<◌, ℕ, zero, suc, ◌+◌, ◌%◌, Bool, true, false, ◌&&◌, nat_eq, nat_le, if◌then◌else◌, List, [], ◌∷◌, ◌++◌, length, drop, take, filter, Option, None, Some, is_some, refl, ap, sym, ◌∙◌, arith}
use Rattle.std.proofs.lemmas.List.{append-nil}
use Rattle.sync_text.specs.Each.{Each}
use Rattle.sync_ql.proofs.SameMoments.{same_level}
use Rattle.sync_text.proofs.Each.{Each-map, Each-append}
use Rattle.sync_ql.specs.declared.levels.Level.{Level}
use Rattle.sync_ql.specs.Messages.{LineMoment, Message, said_in, said, is_news, is_sent, was_up, came, delivered, message_in, news_since_down, unchanged, after_unchanged, second}
use Rattle.link_model.proofs.Times.{within, is_within}

-- milliseconds in which nothing is told
pub length-after : (j : ℕ) (past : List LineMoment) → length (after_unchanged j past) ≡ j + length past
length-after zero past = omega arith
length-after (suc j) past = let more = length-after j past in omega (arith, more)

pub unchanged-after : (j : ℕ) (past : List LineMoment) → unchanged (after_unchanged j past) ≡ unchanged past
unchanged-after zero past = refl
unchanged-after (suc j) past = refl

pub after-after : (k j m : ℕ) (past : List LineMoment) → m ≡ k + j → after_unchanged k (after_unchanged j past) ≡ after_unchanged m past
after-after zero j m past same = ap (λ n. after_unchanged n past) (omega (arith, same))
after-after (suc k) j zero past same = absurd (omega (arith, same))
after-after (suc k) j (suc m) past same =
    ap (λ head. head ∷ after_unchanged k (after_unchanged j past)) (unchanged-after j past)
    ∙ ap (λ rest. unchanged past ∷ rest) (after-after k j m past (omega (arith, same)))

pub said-unchanged : (past : List LineMoment) → said_in (unchanged past) ≡ said past
said-unchanged [] = refl
said-unchanged (now ∷ before) = refl

-- what is no news
pub message_in-none : (n : ℕ) (news : Bool) → message_in n None news ≡ []
message_in-none n true = refl
message_in-none n false = refl

pub message_in-old : (n : ℕ) (level : Option Level) → message_in n level false ≡ []
message_in-old n None = refl
message_in-old n (Some level) = refl

pub no-news : (now : LineMoment) (before : List LineMoment) → said_in now ≡ said before → is_news (now ∷ before) ≡ false
no-news now before same =
    rw (← same) (rw (same_level (said_in now)) (and-false (is_some (said_in now))))

pub news-none : (now : LineMoment) (before : List LineMoment) → said_in now ≡ None → is_news (now ∷ before) ≡ false
news-none now before silent = rw silent refl

pub news-old : (now : LineMoment) (before : List LineMoment) → now.up ≡ true → is_news (now ∷ before) ≡ false → news_since_down (now ∷ before) ≡ news_since_down before
news-old now before up old =
    ap (λ b. if b then news_since_down before ++ message_in (length before) (said_in now) (is_news (now ∷ before)) else []) up
    ∙ ap (λ b. news_since_down before ++ message_in (length before) (said_in now) b) old
    ∙ ap (λ new. news_since_down before ++ new) (message_in-old (length before) (said_in now))
    ∙ append-nil (news_since_down before)

pub news-unchanged : (past : List LineMoment) → news_since_down (unchanged past ∷ past) ≡ news_since_down past
news-unchanged [] = refl
news-unchanged (now ∷ before) = by now.up refl
  where
    by : (up : Bool) → now.up ≡ up → news_since_down (now ∷ now ∷ before) ≡ news_since_down (now ∷ before)
    by true up = news-old now (now ∷ before) up (no-news now (now ∷ before) refl)
    by false up = rw up refl

filter_one : {A : Type 0} (P : A → Type 0) (x : A) (xs : List A) (b : Bool) → P x → Each P xs → Each P (if b then x ∷ xs else xs)
filter_one P x xs true one all = (one, all)
filter_one P x xs false one all = all

pub Each-filter : {A : Type 0} (P : A → Type 0) (test : A → Bool) (xs : List A) → Each P xs → Each P (filter test xs)
Each-filter P test [] all = tt
Each-filter P test (x ∷ xs) all = filter_one P x (filter test xs) (test x) all.0 (Each-filter P test xs all.1)

-- a message of a past with the news that it was
abbrev pub WasNews : List LineMoment → Message → Type 0
WasNews past message = (ago : ℕ) → message.sent + suc ago ≡ length past → is_news (drop ago past) ≡ true

earlier : (now : LineMoment) (before : List LineMoment) (message : Message) → message.sent < length before → WasNews before message → WasNews (now ∷ before) message
earlier now before message less news zero same = absurd (omega (arith, same, less))
earlier now before message less news (suc ago) same = news ago (omega (arith, same))

-- each is news, and earlier than now
abbrev pub IsPastNews : List LineMoment → Message → Type 0
IsPastNews past message = (message.sent < length past) × WasNews past message

here : (now : LineMoment) (before : List LineMoment) (ago : ℕ) → length before + suc ago ≡ suc (length before) → is_news (now ∷ before) ≡ true → is_news (drop ago (now ∷ before)) ≡ true
here now before zero same news = news
here now before (suc ago) same news = absurd (omega (arith, same))

new_is_news : (now : LineMoment) (before : List LineMoment) (level : Option Level) (b : Bool) → is_news (now ∷ before) ≡ b → Each (IsPastNews (now ∷ before)) (message_in (length before) level b)
new_is_news now before None true news = tt
new_is_news now before None false news = tt
new_is_news now before (Some level) false news = tt
new_is_news now before (Some level) true news = ((omega arith, λ ago same. here now before ago same news), tt)

pub all-news : (past : List LineMoment) → Each (IsPastNews past) (news_since_down past)
all-news [] = tt
all-news (now ∷ before) =
    by now.up (Each-append (IsPastNews (now ∷ before)) (news_since_down before) (message_in (length before) (said_in now) (is_news (now ∷ before)))
    (Each-map (IsPastNews before) (IsPastNews (now ∷ before)) (λ message is. (let less = is.0 in omega (arith, less), earlier now before message is.0 is.1)) (news_since_down before) (all-news before))
    (new_is_news now before (said_in now) (is_news (now ∷ before)) refl))
  where
    by : (up : Bool) → Each (IsPastNews (now ∷ before)) (news_since_down before ++ message_in (length before) (said_in now) (is_news (now ∷ before))) → Each (IsPastNews (now ∷ before)) (if up then news_since_down before ++ message_in (length before) (said_in now) (is_news (now ∷ before)) else [])
    by true all = all
    by false all = tt

-- those that arrive later still
later_one : (n d : ℕ) (x : Message) (xs ys : List Message) (a b : Bool) → nat_le (suc n) (x.sent + d) ≡ a → nat_le n (x.sent + d) ≡ b
    → filter (λ message. nat_le (suc n) (message.sent + d)) xs ≡ filter (λ message. nat_le (suc n) (message.sent + d)) ys
    → (if a then x ∷ filter (λ message. nat_le (suc n) (message.sent + d)) xs else filter (λ message. nat_le (suc n) (message.sent + d)) xs)
    ≡ filter (λ message. nat_le (suc n) (message.sent + d)) (if b then x ∷ ys else ys)
later_one n d x xs ys true true late this rest = rw late (ap (λ zs. x ∷ zs) rest)
later_one n d x xs ys true false late this rest = absurd (let l = is_within (suc n) (x.sent + d) late in cc (sym this ∙ within n (x.sent + d) (omega (arith, l))))
later_one n d x xs ys false true late this rest = rw late rest
later_one n d x xs ys false false late this rest = rest

pub filter-later : (n d : ℕ) (xs : List Message) → filter (λ message. nat_le (suc n) (message.sent + d)) xs
    ≡ filter (λ message. nat_le (suc n) (message.sent + d)) (filter (λ message. nat_le n (message.sent + d)) xs)
filter-later n d [] = refl
filter-later n d (x ∷ xs) =
    later_one n d x xs (filter (λ message. nat_le n (message.sent + d)) xs) (nat_le (suc n) (x.sent + d)) (nat_le n (x.sent + d)) refl refl (filter-later n d xs)

pub filter-all : {A : Type 0} (test : A → Bool) (xs : List A) → Each (λ x. test x ≡ true) xs → filter test xs ≡ xs
filter-all test [] all = refl
filter-all test (x ∷ xs) all = rw all.0 (ap (λ ys. x ∷ ys) (filter-all test xs all.1))

pub filter-append : {A : Type 0} (test : A → Bool) (xs ys : List A) → filter test (xs ++ ys) ≡ filter test xs ++ filter test ys
filter-append test [] ys = refl
filter-append test (x ∷ xs) ys = by (test x) (filter-append test xs ys)
  where
    by : (b : Bool) → filter test (xs ++ ys) ≡ filter test xs ++ filter test ys → (if b then x ∷ filter test (xs ++ ys) else filter test (xs ++ ys)) ≡ (if b then x ∷ filter test xs else filter test xs) ++ filter test ys
    by true rest = ap (λ zs. x ∷ zs) rest
    by false rest = rest

-- what is delivered, one millisecond after another
said_up : (up : Bool) (x : LineMoment) → x.up ≡ up → (if up then said_in x else None) ≡ said_in x
said_up true x up = refl
said_up false x up = sym (rw up refl)

if_parts : {A : Type 0} (a b : Bool) (x : Option A) → (if a && b then x else None) ≡ (if a then (if b then x else None) else None)
if_parts true b x = refl
if_parts false b x = refl

pub delivered-more : (d : ℕ) (now : LineMoment) (before : List LineMoment) → delivered (suc d) (now ∷ before) ≡ (if now.up then delivered d before else None)
unfolding delivered
delivered-more d now before = if_parts now.up (was_up (take (suc d) before)) (said (drop d before))

pub delivered-first : (now : LineMoment) (before : List LineMoment) → delivered zero (now ∷ before) ≡ said_in now
unfolding delivered
delivered-first now before = rw (and-true now.up) (said_up now.up now refl)

pub delivered-early : (d : ℕ) (past : List LineMoment) → length past ≤ d → delivered d past ≡ None
unfolding delivered
delivered-early d past early = by past (was_up (take (suc d) past)) early
  where
    none : (e : ℕ) (q : List LineMoment) → length q ≤ e → said (drop e q) ≡ None
    none zero [] less = refl
    none zero (x ∷ q) less = absurd (omega (arith, less))
    none (suc e) [] less = refl
    none (suc e) (x ∷ q) less = none e q (omega (arith, less))

    by : (p : List LineMoment) (up : Bool) → length p ≤ d → (if up then said (drop d p) else None) ≡ None
    by p true less = none d p less
    by p false less = refl

pub delivered-now : (d j : ℕ) (now : LineMoment) (before : List LineMoment) → d ≤ j → delivered d (after_unchanged j (now ∷ before)) ≡ said_in now
delivered-now zero zero now before less = delivered-first now before
delivered-now zero (suc j) now before less = delivered-first now (after_unchanged j (now ∷ before))
delivered-now (suc d) zero now before less = absurd (omega (arith, less))
delivered-now (suc d) (suc j) now before less =
    delivered-more d now (after_unchanged j (now ∷ before))
    ∙ ap (λ x. if now.up then x else None) (delivered-now d j now before (omega (arith, less)))
    ∙ said_up now.up now refl

pub delivered-head : (d j : ℕ) (x y : LineMoment) (before : List LineMoment) → j < d → x.up ≡ y.up → delivered d (after_unchanged j (x ∷ before)) ≡ delivered d (after_unchanged j (y ∷ before))
delivered-head zero j x y before less up = absurd (omega (arith, less))
delivered-head (suc d) zero x y before less up =
    delivered-more d x before ∙ ap (λ b. if b then delivered d before else None) up ∙ sym (delivered-more d y before)
delivered-head (suc d) (suc j) x y before less up =
    delivered-more d x (after_unchanged j (x ∷ before))
    ∙ ap (λ b. if b then delivered d (after_unchanged j (x ∷ before)) else None) up
    ∙ ap (λ z. if y.up then z else None) (delivered-head d j x y before (omega (arith, less)) up)
    ∙ sym (delivered-more d y (after_unchanged j (y ∷ before)))

pub said-down : (now : LineMoment) → now.up ≡ false → said_in now ≡ None
said-down now down = rw down refl

pub delivered-down : (d j : ℕ) (now : LineMoment) (before : List LineMoment) → now.up ≡ false → delivered d (after_unchanged j (now ∷ before)) ≡ None
delivered-down zero zero now before down = delivered-first now before ∙ said-down now down
delivered-down zero (suc j) now before down = delivered-first now (after_unchanged j (now ∷ before)) ∙ said-down now down
delivered-down (suc d) zero now before down = delivered-more d now before ∙ rw down refl
delivered-down (suc d) (suc j) now before down = delivered-more d now (after_unchanged j (now ∷ before)) ∙ rw down refl

if_none : (b : Bool) (x : Option Level) → x ≡ None → (if b then x else None) ≡ None
if_none true x none = none
if_none false x none = refl

-- a line that was down a millisecond ago, and says nothing now
pub delivered-silent : (d j : ℕ) (now last : LineMoment) (before : List LineMoment) → last.up ≡ false → said_in now ≡ None → delivered d (after_unchanged j (now ∷ last ∷ before)) ≡ None
delivered-silent zero zero now last before down silent = delivered-first now (last ∷ before) ∙ silent
delivered-silent zero (suc j) now last before down silent = delivered-first now (after_unchanged j (now ∷ last ∷ before)) ∙ silent
delivered-silent (suc d) zero now last before down silent =
    delivered-more d now (last ∷ before) ∙ if_none now.up (delivered d (last ∷ before)) (delivered-down d zero last before down)
delivered-silent (suc d) (suc j) now last before down silent =
    delivered-more d now (after_unchanged j (now ∷ last ∷ before))
    ∙ if_none now.up (delivered d (after_unchanged j (now ∷ last ∷ before))) (delivered-silent d j now last before down silent)

-- what arrives, by what is delivered now and a millisecond before
came-none : (sent up : Bool) (level : Option Level) → (if up then level else None) ≡ None → (if sent && up then level else None) ≡ None
came-none true up level none = none
came-none false up level none = refl

pub came-undelivered : (d : ℕ) (past : List LineMoment) → delivered d past ≡ None → came d past ≡ None
unfolding delivered came
came-undelivered d past none = came-none (is_sent (drop d past)) (was_up (take (suc d) past)) (said (drop d past)) none

came-some : (sent up : Bool) (x : Option Level) (level : Level) → (if up then x else None) ≡ Some level → (if sent && up then x else None) ≡ (if sent then Some level else None)
came-some true true x level some = some
came-some true false x level some = cc
came-some false up x level some = refl

pub came-delivered : (d : ℕ) (past : List LineMoment) (level : Level) → delivered d past ≡ Some level → came d past ≡ (if is_sent (drop d past) then Some level else None)
unfolding delivered came
came-delivered d past level some = came-some (is_sent (drop d past)) (was_up (take (suc d) past)) (said (drop d past)) level some

said_is : (up : Bool) (x : Option Level) (level : Level) → (if up then x else None) ≡ Some level → (up ≡ true) × (x ≡ Some level)
said_is true x level some = (refl, some)
said_is false x level some = cc

pub delivered-said : (d : ℕ) (past : List LineMoment) (level : Level) → delivered d past ≡ Some level → (was_up (take (suc d) past) ≡ true) × (said (drop d past) ≡ Some level)
unfolding delivered
delivered-said d past level some = said_is (was_up (take (suc d) past)) (said (drop d past)) level some

-- news that is delivered arrives
sent_news : (past : List LineMoment) (level : Level) → said past ≡ Some level → is_news past ≡ true → is_sent past ≡ true
sent_news [] level says news = cc
sent_news (now ∷ before) level says news = rw news (rw says refl)

pub came-news : (d : ℕ) (past : List LineMoment) (level : Level) → delivered d past ≡ Some level → is_news (drop d past) ≡ true → came d past ≡ Some level
came-news d past level some news =
    came-delivered d past level some
    ∙ ap (λ b. if b then Some level else None) (sent_news (drop d past) level (delivered-said d past level some).1 news)

-- what was delivered a millisecond before too is sent again where a second is whole
sent_again : (s : ℕ) (q : List LineMoment) (level : Level) → length q ≡ suc s → said q ≡ Some level → said (drop 1 q) ≡ Some level → is_sent q ≡ nat_eq (s % second) 0
sent_again s [] level long says said_before = absurd (omega (arith, long))
sent_again s (now ∷ before) level long says said_before =
    let old : is_news (now ∷ before) ≡ false = no-news now before (says ∙ sym said_before) in
    let same : length before ≡ s = omega (arith, long) in
    rw old (rw says (ap (λ n. nat_eq (n % second) 0) same))

drop-more : (d : ℕ) (past : List LineMoment) → drop 1 (drop d past) ≡ drop (suc d) past
drop-more zero past = refl
drop-more (suc d) [] = refl
drop-more (suc d) (x ∷ past) = drop-more d past

length-drop : (d s : ℕ) (past : List LineMoment) → length past ≡ s + d → length (drop d past) ≡ s
length-drop zero s past long = omega (arith, long)
length-drop (suc d) s [] long = let none : s ≡ 0 = omega (arith, long) in sym none
length-drop (suc d) s (x ∷ past) long = length-drop d s past (omega (arith, long))

pub came-again : (d s : ℕ) (now : LineMoment) (before : List LineMoment) (level : Level) → length before ≡ s + d
    → delivered d (now ∷ before) ≡ Some level → delivered d before ≡ Some level → came d (now ∷ before) ≡ (if nat_eq (s % second) 0 then Some level else None)
came-again d s now before level long some some_before =
    came-delivered d (now ∷ before) level some
    ∙ ap (λ b. if b then Some level else None)
    (sent_again s (drop d (now ∷ before)) level (length-drop d (suc s) (now ∷ before) (omega (arith, long))) (delivered-said d (now ∷ before) level some).1
    (ap said (drop-more d (now ∷ before)) ∙ (delivered-said d before level some_before).1))
