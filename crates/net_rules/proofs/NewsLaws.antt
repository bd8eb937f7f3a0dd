-- To look at the messages that are news is enough to tell that a millisecond is settled.
use Rattle.std.proofs.Common.{◌≡◌, ◌≤◌, ◌+◌, ◌-◌, ℕ, zero, suc, Bool, true, false, not, ◌&&◌, Option, None, Some, is_some, refl, ap, sym, subst, ◌∙◌, arith}
use Rattle.std.specs.Prelude.{if◌then◌else◌}
use Rattle.std.proofs.Math.Decide.{dec_lt}
use Rattle.std.proofs.lemmas.Bool.{and_parts}
use Rattle.std.proofs.lemmas.Option.{none-some, same_Some}
use Rattle.sync_ql.specs.declared.levels.Level.{Level}
use Rattle.sync_ql.specs.Pasts.{past_of}
use Rattle.sync_ql.specs.Messages.{LineMoment, said_in, said, is_same_level, is_news, is_sent}
use Rattle.sync_ql.proofs.Delivered.{same-is, heard-delivered}
use Rattle.sync_topo.specs.Topology.{Topology}
use Rattle.sync_topo.specs.Lines.{line_input, delay_of}
use Rattle.net_rules.specs.Signals.{Signals}
use Rattle.net_rules.specs.History.{Levels, line_moment_at, heard}
use Rattle.net_rules.specs.Settled.{is_sent_at, is_news_at, IsOnWay, IsSettled, IsSettledByNews}
use Rattle.net_rules.proofs.Arrivals.{sent-said}
use Rattle.net_rules.proofs.PairLaws.{is_heard}
use Rattle.net_rules.proofs.SettledLaws.{up-part}

news-sent : (f : ℕ → LineMoment) (t : ℕ) → is_news (past_of f (suc t)) ≡ true → is_sent (past_of f (suc t)) ≡ true
news-sent f t news =
    let both = and_parts (is_some (said_in (f t))) (not (is_same_level (said_in (f t)) (said (past_of f t)))) news in
    rw (both.0, both.1) refl

-- since this news the line has said this level
record IsSaidSinceNews (f : ℕ → LineMoment) (level : Level) (now : ℕ) : Type 0 where
  from : ℕ
  until : from ≤ now
  news : is_news (past_of f (suc from)) ≡ true
  says : (t : ℕ) → from ≤ t → t ≤ now → said_in (f t) ≡ Some level

same_as_before : (here before : Option Level) (level : Level) → here ≡ Some level → (is_some here && not (is_same_level here before)) ≡ false → before ≡ Some level
same_as_before None before level says none = cc
same_as_before (Some own) before level says none = sym (same-is (Some own) before (same_part (is_same_level (Some own) before) none)) ∙ says
  where
    same_part : (same : Bool) → not same ≡ false → same ≡ true
    same_part true none = refl
    same_part false none = cc

since-news : (f : ℕ → LineMoment) (level : Level) (now : ℕ) → said_in (f now) ≡ Some level → IsSaidSinceNews f level now
since-news f level now says = by now says (is_news (past_of f (suc now))) refl
  where
    here : (t : ℕ) → said_in (f t) ≡ Some level → is_news (past_of f (suc t)) ≡ true → IsSaidSinceNews f level t
    here t says_here news = record {
      from = t;
      until = omega arith;
      news = news;
      says = λ u after before. let same : u ≡ t = omega (arith, after, before) in subst (λ k. said_in (f k) ≡ Some level) (sym same) says_here;
    }

    more : (t : ℕ) → said_in (f (suc t)) ≡ Some level → IsSaidSinceNews f level t → IsSaidSinceNews f level (suc t)
    more t says_here since = record {
      from = since.from;
      until = omega (arith, since.until);
      news = since.news;
      says = λ u after before. elim (dec_lt t u) [
        | yes last ↦ let same : u ≡ suc t = omega (arith, last, before) in subst (λ k. said_in (f k) ≡ Some level) (sym same) says_here
        | no earlier ↦ since.says u after (omega (arith, earlier))
      ];
    }

    by : (t : ℕ) → said_in (f t) ≡ Some level → (news : Bool) → is_news (past_of f (suc t)) ≡ news → IsSaidSinceNews f level t
    by t says_here true news = here t says_here news
    by zero says_here false none = absurd (none-some level (same_as_before (said_in (f zero)) (said (past_of f zero)) level says_here none))
    by (suc t) says_here false none =
        let before : said_in (f t) ≡ Some level = same_as_before (said_in (f (suc t))) (said (past_of f (suc t))) level says_here none in
        more t says_here (by t before (is_news (past_of f (suc t))) refl)

-- what a message says
sent-level : (signals : Signals) (out : Levels) (line from : ℕ) → is_sent_at signals out line from ≡ true
    → said_in (line_moment_at signals out line from) ≡ Some (out line from)
sent-level signals out line from sent = of (signals.up (line_input line) from && signals.esmc line from) (sent-said (line_moment_at signals out line) from sent)
  where
    of : (b : Bool) → is_some (if b then Some (out line from) else None) ≡ true → (if b then Some (out line from) else None) ≡ Some (out line from)
    of true some = refl
    of false some = cc

-- a message on its way is news, or repeats news that is on its way or was heard
data Repeats (plan : Topology) (signals : Signals) (out : Levels) (line from t : ℕ) : Type 0 where
  of_news : (news : ℕ) → is_news_at signals out line news ≡ true → IsOnWay plan signals line news t → out line news ≡ out line from → Repeats plan signals out line from t
  of_heard : heard plan signals out line t ≡ Some (out line from) → Repeats plan signals out line from t

repeats : (plan : Topology) (signals : Signals) (out : Levels) (line from t : ℕ) → is_sent_at signals out line from ≡ true → IsOnWay plan signals line from t
    → Repeats plan signals out line from t
repeats plan signals out line from t sent way =
    let f : ℕ → LineMoment = line_moment_at signals out line in
    let d : ℕ = delay_of plan line in
    let since = since-news f (out line from) from (sent-level signals out line from sent) in
    let up : (u : ℕ) → since.from ≤ u → u ≤ t → signals.up (line_input line) u ≡ true = λ u after before. elim (dec_lt from u) [
      | yes later ↦ way.up u (omega (arith, later)) before
      | no earlier ↦ up-part f (out line from) u (since.says u after (omega (arith, earlier)))
    ] in
    elim (dec_lt t (since.from + d)) [
      | yes recent ↦ of_news since.from since.news (record { begun = omega (arith, since.until, way.begun); recent = recent; up = up })
          (same_level (signals.up (line_input line) since.from && signals.esmc line since.from) (out line since.from) (since.says since.from (omega arith) since.until))
      | no long ↦ of_heard (is_heard plan signals out line t
          (heard-delivered f (out line from) d (t - d) t (omega (arith, long)) (since.says (t - d) (omega (arith, long)) (omega (arith, way.recent, long)))
          (λ u after before. up u (omega (arith, long, after)) before)))
    ]
  where
    same_level : (b : Bool) (own : Level) → (if b then Some own else None) ≡ Some (out line from) → own ≡ out line from
    same_level true own says = same_Some own (out line from) says
    same_level false own says = absurd (none-some (out line from) says)

pub settled-by_news : (plan : Topology) (signals : Signals) (out : Levels) (t : ℕ) → IsSettledByNews plan signals out t → IsSettled plan signals out t
settled-by_news plan signals out t settled = record {
  steady = settled.steady;
  carried = λ line nominated up from sent way. elim (repeats plan signals out line from t sent way) [
    | of_news news is_new on_way same ↦ settled.carried line nominated up news is_new on_way ∙ ap Some same
    | of_heard hears ↦ hears
  ];
  spoken = settled.spoken;
  silent = settled.silent;
  nothing_on_way = λ line nominated up off from sent way. elim (repeats plan signals out line from t sent way) [
    | of_news news is_new on_way same ↦ settled.nothing_on_way line nominated up off news is_new on_way
    | of_heard hears ↦ none-some (out line from) (sym (settled.silent line nominated up off) ∙ hears)
  ];
}

pub news-by_settled : (plan : Topology) (signals : Signals) (out : Levels) (t : ℕ) → IsSettled plan signals out t → IsSettledByNews plan signals out t
news-by_settled plan signals out t settled = record {
  steady = settled.steady;
  carried = λ line nominated up from news way. settled.carried line nominated up from (news-sent (line_moment_at signals out line) from news) way;
  spoken = settled.spoken;
  silent = settled.silent;
  nothing_on_way = λ line nominated up off from news way. settled.nothing_on_way line nominated up off from (news-sent (line_moment_at signals out line) from news) way;
}
