-- What becomes of the messages on their way, if nothing is told.
use Rattle.std.proofs.Common.{◌≡◌, ◌≤◌, ◌<◌, ℕ, zero, suc, ◌+◌, ◌-◌, Bool, true, false, ◌&&◌, nat_le, if◌then◌else◌, List, [], ◌∷◌, ◌++◌, length, drop, take, filter, slice_index_or, Option, None, Some, refl, ap, sym, subst, ◌∙◌, arith}
use Rattle.std.specs.Cmp.{first_so}
use Rattle.sync_text.specs.Each.{Each}
use Rattle.sync_text.proofs.Each.{Each-both, Each-append, Each-map}
use Rattle.sync_ql.specs.declared.levels.Level.{Level}
use Rattle.sync_ql.specs.Messages.{LineMoment, Message, said_in, said, is_news, was_up, came, delivered, message_in, news_since_down, on_way_at, unchanged, after_unchanged, line_until}
use Rattle.link_model.proofs.Times.{is_within}
use Rattle.link_model.proofs.Pasts.{IsPastNews, all-news, came-news}

-- since a message went out the line was up; and it said the level of the message
pub record WasSaid (past : List LineMoment) (message : Message) (ago : ℕ) : Type 0 where
  pub level : said (drop ago past) ≡ Some message.level
  pub up : was_up (take (suc ago) past) ≡ true

abbrev WasSent : List LineMoment → Message → Type 0
WasSent past message = (ago : ℕ) → message.sent + suc ago ≡ length past → WasSaid past message ago

up_more : (a b : Bool) → a ≡ true → b ≡ true → (a && b) ≡ true
up_more true b up rest = rest
up_more false b up rest = cc

sent-earlier : (now : LineMoment) (before : List LineMoment) (message : Message) → now.up ≡ true → message.sent < length before → WasSent before message → WasSent (now ∷ before) message
sent-earlier now before message up less sent zero same = absurd (omega (arith, same, less))
sent-earlier now before message up less sent (suc ago) same =
    let was = sent ago (omega (arith, same)) in
    record { level = was.level; up = up_more now.up (was_up (take (suc ago) before)) up was.up }

sent-here : (now : LineMoment) (before : List LineMoment) (level : Level) → now.up ≡ true → said_in now ≡ Some level → WasSent (now ∷ before) (record { sent = length before; level = level })
sent-here now before level up says zero same = record { level = says; up = up_more now.up true up refl }
sent-here now before level up says (suc ago) same = absurd (omega (arith, same))

new_is_sent : (now : LineMoment) (before : List LineMoment) (level : Option Level) (b : Bool) → now.up ≡ true → said_in now ≡ level → Each (WasSent (now ∷ before)) (message_in (length before) level b)
new_is_sent now before None true up says = tt
new_is_sent now before None false up says = tt
new_is_sent now before (Some level) false up says = tt
new_is_sent now before (Some level) true up says = (sent-here now before level up says, tt)

all-sent : (past : List LineMoment) → Each (WasSent past) (news_since_down past)
all-sent [] = tt
all-sent (now ∷ before) = by (all-sent before) now.up refl
  where
    by : Each (WasSent before) (news_since_down before) → (up : Bool) → now.up ≡ up → Each (WasSent (now ∷ before)) (if up then news_since_down before ++ message_in (length before) (said_in now) (is_news (now ∷ before)) else [])
    by sent false down = tt
    by sent true up = Each-append (WasSent (now ∷ before)) (news_since_down before) (message_in (length before) (said_in now) (is_news (now ∷ before)))
        (Each-map (λ message. IsPastNews before message × WasSent before message) (WasSent (now ∷ before))
        (λ message was. sent-earlier now before message up was.0.0 was.1) (news_since_down before)
        (Each-both (IsPastNews before) (WasSent before) (news_since_down before) (all-news before) sent))
        (new_is_sent now before (said_in now) (is_news (now ∷ before)) up refl)

-- milliseconds in which nothing is told
drop-after : (d j ago : ℕ) (past : List LineMoment) → d ≡ j + ago → drop d (after_unchanged j past) ≡ drop ago past
drop-after d zero ago past same = ap (λ n. drop n past) (omega (arith, same))
drop-after zero (suc j) ago past same = absurd (omega (arith, same))
drop-after (suc d) (suc j) ago past same = drop-after d j ago past (omega (arith, same))

up-after : (d j ago : ℕ) (past : List LineMoment) → d ≡ j + ago → (unchanged past).up ≡ true → was_up (take (suc ago) past) ≡ true → was_up (take (suc d) (after_unchanged j past)) ≡ true
up-after d zero ago past same up was = ap (λ n. was_up (take (suc n) past)) (omega (arith, same)) ∙ was
up-after zero (suc j) ago past same up was = absurd (omega (arith, same))
up-after (suc d) (suc j) ago past same up was =
    up_more (unchanged past).up (was_up (take (suc d) (after_unchanged j past))) up (up-after d j ago past (omega (arith, same)) up was)

up-now : (ago : ℕ) (past : List LineMoment) → was_up (take (suc ago) past) ≡ true → (unchanged past).up ≡ true
up-now ago [] was = refl
up-now ago (now ∷ before) was = first_so now.up (was_up (take ago before)) was

-- what is on its way: it arrives, and as news
abbrev Arrives : ℕ → List LineMoment → Message → Type 0
Arrives delay past message =
    (came delay (line_until (suc (message.sent + delay)) past) ≡ Some message.level)
    × (is_news (drop delay (line_until (suc (message.sent + delay)) past)) ≡ true)

deliver : (delay : ℕ) (past : List LineMoment) (level : Level) → was_up (take (suc delay) past) ≡ true → said (drop delay past) ≡ Some level → delivered delay past ≡ Some level
unfolding delivered
deliver delay past level up says = ap (λ b. if b then said (drop delay past) else None) up ∙ says

arrives-at : (delay j ago : ℕ) (past : List LineMoment) (message : Message) → delay ≡ j + ago → WasSaid past message ago → is_news (drop ago past) ≡ true
    → (came delay (after_unchanged j past) ≡ Some message.level) × (is_news (drop delay (after_unchanged j past)) ≡ true)
arrives-at delay j ago past message same was news =
    let news_then : is_news (drop delay (after_unchanged j past)) ≡ true = ap is_news (drop-after delay j ago past same) ∙ news in (
      came-news delay (after_unchanged j past) message.level
          (deliver delay (after_unchanged j past) message.level (up-after delay j ago past same (up-now ago past was.up) was.up)
          (ap said (drop-after delay j ago past same) ∙ was.level))
          news_then,
      news_then,
    )

arrives-later : (delay j ago : ℕ) (past : List LineMoment) (message : Message) → message.sent + suc ago ≡ length past → delay ≡ j + ago
    → IsPastNews past message → WasSent past message → Arrives delay past message
arrives-later delay j ago past message long same news sent =
    let count : suc (message.sent + delay) - length past ≡ j = omega (arith, long, same) in
    subst (λ n. (came delay (after_unchanged n past) ≡ Some message.level) × (is_news (drop delay (after_unchanged n past)) ≡ true)) (sym count)
    (arrives-at delay j ago past message same (sent ago long) (news.1 ago long))

arrives : (delay : ℕ) (past : List LineMoment) (message : Message) → length past ≤ message.sent + delay → IsPastNews past message → WasSent past message → Arrives delay past message
arrives delay past message late news sent =
    let less = news.0 in
    arrives-later delay (delay - (length past - suc message.sent)) (length past - suc message.sent) past message
    (omega (arith, less)) (omega (arith, less, late)) news sent

each-filter : {A : Type 0} (P Q : A → Type 0) (test : A → Bool) → ((x : A) → test x ≡ true → P x → Q x) → (xs : List A) → Each P xs → Each Q (filter test xs)
each-filter P Q test from [] all = tt
each-filter P Q test from (x ∷ xs) all = by (test x) refl (each-filter P Q test from xs all.1)
  where
    by : (b : Bool) → test x ≡ b → Each Q (filter test xs) → Each Q (if b then x ∷ filter test xs else filter test xs)
    by true is rest = (from x is all.0, rest)
    by false is rest = rest

each-arrives : (delay : ℕ) (past : List LineMoment) → Each (Arrives delay past) (on_way_at delay past)
unfolding on_way_at
each-arrives delay past =
    each-filter (λ message. IsPastNews past message × WasSent past message) (Arrives delay past)
    (λ message. nat_le (length past) (message.sent + delay))
    (λ message late was. arrives delay past message (is_within (length past) (message.sent + delay) late) was.0 was.1)
    (news_since_down past)
    (Each-both (IsPastNews past) (WasSent past) (news_since_down past) (all-news past) (all-sent past))

each-at : (P : Message → Type 0) (xs : List Message) → Each P xs → (k : ℕ) (d : Message) → k < length xs → P (slice_index_or xs k d)
each-at P [] all k d within = absurd (omega (arith, within))
each-at P (x ∷ xs) all zero d within = all.0
each-at P (x ∷ xs) all (suc k) d within = each-at P xs all.1 k d (omega (arith, within))

pub all-arrive : (delay : ℕ) (past : List LineMoment) (k : ℕ) (d : Message) → k < length (on_way_at delay past)
    → came delay (line_until (suc ((slice_index_or (on_way_at delay past) k d).sent + delay)) past) ≡ Some (slice_index_or (on_way_at delay past) k d).level
all-arrive delay past k d within = (each-at (Arrives delay past) (on_way_at delay past) (each-arrives delay past) k d within).0

pub all-news-later : (delay : ℕ) (past : List LineMoment) (k : ℕ) (d : Message) → k < length (on_way_at delay past)
    → is_news (drop delay (line_until (suc ((slice_index_or (on_way_at delay past) k d).sent + delay)) past)) ≡ true
all-news-later delay past k d within = (each-at (Arrives delay past) (on_way_at delay past) (each-arrives delay past) k d within).1
