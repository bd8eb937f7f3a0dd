-- The messages on their way are those that went out with news and are on their way.
use Rattle.std.proofs.Common.{◌≡◌, ◌≤◌, ◌<◌, ◌+◌, ℕ, zero, suc, Bool, true, false, not, ◌&&◌, List, [], ◌∷◌, ◌++◌, length, filter, Option, None, Some, is_some, refl, sym, subst, ◌∙◌, arith}
use Rattle.std.specs.Prelude.{nat_le, if◌then◌else◌}
use Rattle.std.specs.List.{list_all}
use Rattle.std.proofs.Math.Decide.{dec_lt}
use Rattle.std.proofs.lemmas.Bool.{and_parts, true≢false}
use Rattle.std.specs.Cmp.Derive.{both_true}
use Rattle.std.proofs.lemmas.Option.{none-some, same_Some}
use Rattle.sync_text.proofs.Each.{Each-append, Each-parts}
use Rattle.sync_text.specs.Each.{Each}
use Rattle.sync_ql.specs.declared.levels.Level.{Level}
use Rattle.sync_ql.specs.Pasts.{past_of}
use Rattle.sync_ql.specs.Messages.{LineMoment, Message, said_in, said, is_same_level, is_news, message_in, news_since_down, on_way_at}
use Rattle.sync_ql.proofs.Delivered.{length-past_of}
use Rattle.link_model.proofs.Times.{within, is_within}
use Rattle.sync_topo.specs.Topology.{Topology}
use Rattle.sync_topo.specs.Lines.{line_input, delay_of}
use Rattle.net_rules.specs.Signals.{Signals}
use Rattle.net_rules.specs.History.{Levels, line_moment_at}
use Rattle.net_rules.specs.Settled.{is_news_at, IsOnWay}

-- a test of all of a list
pub each-list_all : {A : Type 0} (test : A → Bool) (xs : List A) → list_all test xs ≡ true → Each (λ x. test x ≡ true) xs
each-list_all test [] all = tt
each-list_all test (x ∷ xs) all = let both = and_parts (test x) (list_all test xs) all in (both.0, each-list_all test xs both.1)

pub list_all-each : {A : Type 0} (test : A → Bool) (xs : List A) → Each (λ x. test x ≡ true) xs → list_all test xs ≡ true
list_all-each test [] each = refl
list_all-each test (x ∷ xs) each = both_true {s = test x} {t = list_all test xs} each.0 (list_all-each test xs each.1)

-- what holds of each that passes
each-filter : {A : Type 0} (P : A → Type 0) (test : A → Bool) (xs : List A) → Each (λ x. test x ≡ true → P x) xs → Each P (filter test xs)
each-filter P test [] each = tt
each-filter P test (x ∷ xs) each = by (test x) refl (each-filter P test xs each.1)
  where
    by : (b : Bool) → test x ≡ b → Each P (filter test xs) → Each P (if b then x ∷ filter test xs else filter test xs)
    by true is rest = (each.0 is, rest)
    by false is rest = rest

each-unfilter : {A : Type 0} (P : A → Type 0) (test : A → Bool) (xs : List A) → Each P (filter test xs) → Each (λ x. test x ≡ true → P x) xs
each-unfilter P test [] each = tt
each-unfilter P test (x ∷ xs) each = by (test x) refl each (each-unfilter P test xs)
  where
    by : (b : Bool) → test x ≡ b → Each P (if b then x ∷ filter test xs else filter test xs)
        → (Each P (filter test xs) → Each (λ y. test y ≡ true → P y) xs) → Each (λ y. test y ≡ true → P y) (x ∷ xs)
    by true is all rest = (λ passes. all.0, rest all.1)
    by false is all rest = (λ passes. absurd (true≢false (sym passes ∙ is)), rest all)

-- the message that goes out on a line in a millisecond
abbrev pub message_at : Levels → ℕ → ℕ → Message
message_at out line t = record { sent = t; level = out line t }

-- what is said where there is news
says-own : (signals : Signals) (out : Levels) (line t : ℕ) → is_news_at signals out line t ≡ true
    → said_in (line_moment_at signals out line t) ≡ Some (out line t)
says-own signals out line t news =
    of (signals.up (line_input line) t && signals.esmc line t)
    (and_parts (is_some (said_in (line_moment_at signals out line t)))
    (not (is_same_level (said_in (line_moment_at signals out line t)) (said (past_of (line_moment_at signals out line) t)))) news).0
  where
    of : (b : Bool) → is_some (if b then Some (out line t) else None) ≡ true → (if b then Some (out line t) else None) ≡ Some (out line t)
    of true some = refl
    of false some = cc

-- a line is up from one millisecond up to but not at another
abbrev IsUpFrom : Signals → ℕ → ℕ → ℕ → Type 0
IsUpFrom signals line from n = (t : ℕ) → from ≤ t → t < n → signals.up (line_input line) t ≡ true

made : (P : Message → Type 0) (n : ℕ) (own : Level) (says : Option Level) (news : Bool) → (news ≡ true → says ≡ Some own)
    → (news ≡ true → P (record { sent = n; level = own })) → Each P (message_in n says news)
made P n own None true is holds = absurd (none-some own (is refl))
made P n own None false is holds = tt
made P n own (Some level) false is holds = tt
made P n own (Some level) true is holds =
    (subst (λ l. P (record { sent = n; level = l })) (sym (same_Some level own (is refl))) (holds refl), tt)

unmade : (P : Message → Type 0) (n : ℕ) (own : Level) (says : Option Level) (news : Bool) → news ≡ true → says ≡ Some own
    → Each P (message_in n says news) → P (record { sent = n; level = own })
unmade P n own None news is same each = absurd (none-some own same)
unmade P n own (Some level) false is same each = cc
unmade P n own (Some level) true is same each = subst (λ l. P (record { sent = n; level = l })) (same_Some level own same) each.0

-- the messages that went out with news since a line was down last
news-each : (P : Message → Type 0) (signals : Signals) (out : Levels) (line n : ℕ)
    → ((from : ℕ) → from < n → is_news_at signals out line from ≡ true → IsUpFrom signals line from n → P (message_at out line from))
    → Each P (news_since_down (past_of (line_moment_at signals out line) n))
news-each P signals out line zero holds = tt
news-each P signals out line (suc n) holds =
    by (signals.up (line_input line) n) refl (length past) (length-past_of f n) (news-each P signals out line n)
  where
    f : ℕ → LineMoment
    f = line_moment_at signals out line

    past : List LineMoment
    past = past_of f n

    more : signals.up (line_input line) n ≡ true → (from : ℕ) → IsUpFrom signals line from n → IsUpFrom signals line from (suc n)
    more up from before t after early = elim (dec_lt t n) [
      | yes earlier ↦ before t after earlier
      | no last ↦ let same : n ≡ t = omega (arith, early, last) in subst (λ k. signals.up (line_input line) k ≡ true) same up
    ]

    by : (up : Bool) → signals.up (line_input line) n ≡ up → (m : ℕ) → m ≡ n
        → (((from : ℕ) → from < n → is_news_at signals out line from ≡ true → IsUpFrom signals line from n → P (message_at out line from)) → Each P (news_since_down past))
        → Each P (if up then news_since_down past ++ message_in m (said_in (f n)) (is_news (f n ∷ past)) else [])
    by false down m is rest = tt
    by true up m is rest = Each-append P (news_since_down past) (message_in m (said_in (f n)) (is_news (f n ∷ past)))
        (rest (λ from early news before. holds from (omega (arith, early)) news (more up from before)))
        (made P m (out line n) (said_in (f n)) (is_news (f n ∷ past)) (says-own signals out line n)
        (λ news. subst (λ k. P (record { sent = k; level = out line n })) (sym is)
        (holds n (omega arith) news (more up n (λ t after early. absurd (omega (arith, after, early)))))))

news-one : (P : Message → Type 0) (signals : Signals) (out : Levels) (line n from : ℕ)
    → Each P (news_since_down (past_of (line_moment_at signals out line) n))
    → from < n → is_news_at signals out line from ≡ true → IsUpFrom signals line from n → P (message_at out line from)
news-one P signals out line zero from each early news up = absurd (omega (arith, early))
news-one P signals out line (suc n) from each early news up =
    by (signals.up (line_input line) n) (up n (omega (arith, early)) (omega arith)) (length past) (length-past_of f n) each (news-one P signals out line n from)
  where
    f : ℕ → LineMoment
    f = line_moment_at signals out line

    past : List LineMoment
    past = past_of f n

    by : (b : Bool) → b ≡ true → (m : ℕ) → m ≡ n
        → Each P (if b then news_since_down past ++ message_in m (said_in (f n)) (is_news (f n ∷ past)) else [])
        → (Each P (news_since_down past) → from < n → is_news_at signals out line from ≡ true → IsUpFrom signals line from n → P (message_at out line from))
        → P (message_at out line from)
    by false is m same all rest = cc
    by true is m same all rest =
        let parts = Each-parts P (news_since_down past) (message_in m (said_in (f n)) (is_news (f n ∷ past))) all in
        elim (dec_lt from n) [
          | yes earlier ↦ rest parts.0 earlier news (λ t after before. up t after (omega (arith, before)))
          | no last ↦
              let at : n ≡ from = omega (arith, early, last) in
              let news_here : is_news (f n ∷ past) ≡ true = subst (λ k. is_news_at signals out line k ≡ true) (sym at) news in
              let one : P (record { sent = m; level = out line n }) =
              unmade P m (out line n) (said_in (f n)) (is_news (f n ∷ past)) news_here (says-own signals out line n news_here) parts.1 in
              subst (λ k. P (message_at out line k)) at (subst (λ k. P (record { sent = k; level = out line n })) same one)
        ]

-- those on their way
pub on_way-each : (P : Message → Type 0) (plan : Topology) (signals : Signals) (out : Levels) (line t : ℕ)
    → ((from : ℕ) → is_news_at signals out line from ≡ true → IsOnWay plan signals line from t → P (message_at out line from))
    → Each P (on_way_at (delay_of plan line) (past_of (line_moment_at signals out line) (suc t)))
unfolding on_way_at
on_way-each P plan signals out line t holds =
    each-filter P (λ message. nat_le (length past) (message.sent + delay_of plan line)) (news_since_down past)
    (news-each (λ message. nat_le (length past) (message.sent + delay_of plan line) ≡ true → P message) signals out line (suc t)
    (λ from early news up late. holds from news (record {
      begun = omega (arith, early);
      recent =
          let until : length past ≤ from + delay_of plan line = is_within (length past) (from + delay_of plan line) late in
          omega (arith, until, length-past_of (line_moment_at signals out line) (suc t));
      up = λ u after before. up u after (omega (arith, before));
    })))
  where
    past : List LineMoment
    past = past_of (line_moment_at signals out line) (suc t)

pub on_way-one : (P : Message → Type 0) (plan : Topology) (signals : Signals) (out : Levels) (line t : ℕ)
    → Each P (on_way_at (delay_of plan line) (past_of (line_moment_at signals out line) (suc t)))
    → (from : ℕ) → is_news_at signals out line from ≡ true → IsOnWay plan signals line from t → P (message_at out line from)
unfolding on_way_at
on_way-one P plan signals out line t each from news way =
    news-one (λ message. nat_le (length past) (message.sent + delay_of plan line) ≡ true → P message) signals out line (suc t) from
    (each-unfilter P (λ message. nat_le (length past) (message.sent + delay_of plan line)) (news_since_down past) each)
    (let begun = way.begun in omega (arith, begun)) news (λ u after before. way.up u after (omega (arith, before)))
    (within (length past) (from + delay_of plan line)
    (let recent = way.recent in omega (arith, recent, length-past_of (line_moment_at signals out line) (suc t))))
  where
    past : List LineMoment
    past = past_of (line_moment_at signals out line) (suc t)
