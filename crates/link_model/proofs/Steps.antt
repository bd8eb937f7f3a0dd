-- One more millisecond in which nothing is told.
use Rattle.std.proofs.lemmas.Bool.Decides.{nat_tests}
use Rattle.std.proofs.Math.Decide.{dec_lt}
use Rattle.std.proofs.Common.{◌≡◌, ◌≤◌, ◌<◌, ℕ, zero, suc, ◌+◌, ◌-◌, ◌%◌, Bool, true, false, nat_eq, nat_le, if◌then◌else◌, List, [], ◌∷◌, length, drop, map, filter, Option, None, Some, IfSome, refl, ap, sym, subst, ◌∙◌, arith}
use Rattle.std.specs.Option.{option_or}
use Rattle.sync_text.proofs.Each.{Each-map}
use Rattle.sync_text.specs.Each.{Each}
use Rattle.sync_ql.specs.declared.levels.Level.{Level}
use Rattle.sync_ql.specs.Pasts.{first_within}
use Rattle.sync_ql.specs.Messages.{LineMoment, is_news, came, arrivals, delivered, news_since_down, on_way_at, unchanged, after_unchanged, second}
use Rattle.link_model.specs.declared.word.Word.{Word}
use Rattle.link_model.specs.Spoken.{is_before, said_by, spoken, last_of, last_sent, message_of}
use Rattle.link_model.specs.Kept.{Kept, words_of, heard_of}
use Rattle.link_model.specs.private.Kept.{IsWord, EndsBy, IsChain, IsOrdered}
use Rattle.link_model.specs.StandsFor.{IsOfPast}
use Rattle.link_model.proofs.Times.{within, not_within, below, not_below, is_below, said_by-early, said_by-over, said_by-now, last-over, last-again, last-first, last-within}
use Rattle.link_model.proofs.Pasts.{length-after, unchanged-after, after-after, news-unchanged, Each-filter, IsPastNews, all-news, filter-later, filter-all, delivered-early, came-undelivered, came-news, came-again}
use Rattle.link_model.proofs.Ordering.{kept_words, if_some, Each-over, words_rest, chain_rest, after-first}

abbrev pub kept : LineMoment → Option Word → List Word → Kept
kept now a ws = record { now = now; words = kept_words a ws }

-- what words say
pub spoken-later : (ws : List Word) (s : ℕ) → Each (λ w. s < w.sent) ws → spoken ws s ≡ None
spoken-later [] s later = refl
spoken-later (w ∷ ws) s later = ap (λ l. option_or l (spoken ws s)) (said_by-early w s later.0) ∙ spoken-later ws s later.1

over_by : (until : Option ℕ) (t s : ℕ) → EndsBy until t → t ≤ s → is_before s until ≡ false
over_by None t s ends late = absurd ends
over_by (Some u) t s ends late = not_below s u (omega (arith, ends, late))

before_end : (sent : ℕ) (until : Option ℕ) → IfSome until (λ u. sent < u) → is_before sent until ≡ true
before_end sent None longer = refl
before_end sent (Some u) longer = below sent u longer

before_earlier : (until : Option ℕ) (r : ℕ) → is_before (suc r) until ≡ true → is_before r until ≡ true
before_earlier None r before = refl
before_earlier (Some u) r before = let less : suc r < u = is_below (suc r) u before in below r u (omega (arith, less))

-- from when a word begins, the one that arrived before says nothing
pub spoken-from : (a : Option Word) (v : Word) (vs : List Word) (s : ℕ) → IsChain (words_of a (v ∷ vs)) → v.sent ≤ s → spoken (words_of a (v ∷ vs)) s ≡ spoken (v ∷ vs) s
spoken-from None v vs s chain late = refl
spoken-from (Some w) v vs s chain late =
    ap (λ l. option_or l (spoken (v ∷ vs) s)) (said_by-over w s (over_by w.until v.sent s chain.0.0 late))

-- what is heard after a millisecond in which nothing arrives
none_within : (sent : ℕ) (until : Option ℕ) (d n : ℕ) (level : Level) → sent + d < suc n → (if nat_le (suc n) (d + last_of sent until (suc n - d) + 0) then Some level else None) ≡ None
none_within sent until d n level came =
    let less = last-within sent until (suc n - d) (omega (arith, came)) in
    rw (not_within (suc n) (d + last_of sent until (suc n - d) + 0) (omega (arith, less, came))) refl

one_longer : (n x window : ℕ) → nat_le n (x + window) ≡ nat_le (suc n) (x + suc window)
one_longer n x window = grind (arith, nat_tests)

pub heard-quiet : (d n : ℕ) (a : Option Word) (arrived : List (Option Level)) → ((window : ℕ) → first_within window arrived ≡ heard_of d a window n)
    → IfSome a (λ w. w.sent + d < n) → IfSome a (λ w. last_sent w (suc n - d) ≡ last_sent w (n - d))
    → (window : ℕ) → first_within window (None ∷ arrived) ≡ heard_of d a window (suc n)
heard-quiet d n None arrived was came same zero = refl
heard-quiet d n None arrived was came same (suc window) = was window
heard-quiet d n (Some w) arrived was came same zero = sym (none_within w.sent w.until d n w.level (omega (arith, came)))
heard-quiet d n (Some w) arrived was came same (suc window) =
    was window
    ∙ ap (λ b. if b then Some w.level else None) (one_longer n (d + last_sent w (n - d)) window)
    ∙ ap (λ last. if nat_le (suc n) (d + last + suc window) then Some w.level else None) (sym same)

pub heard-here : (d n : ℕ) (v : Word) (arrived : List (Option Level)) → v.sent + d < suc n → d + last_sent v (suc n - d) ≡ n
    → (window : ℕ) → first_within window (Some v.level ∷ arrived) ≡ heard_of d (Some v) window (suc n)
heard-here d n v arrived came last zero = sym (none_within v.sent v.until d n v.level came)
heard-here d n v arrived came last (suc window) =
    sym (rw (within (suc n) (d + last_sent v (suc n - d) + suc window) (omega (arith, last))) refl)

-- what is on its way a millisecond later
pub on_way-next : (d : ℕ) (past : List LineMoment) → on_way_at d (unchanged past ∷ past) ≡ filter (λ message. nat_le (suc (length past)) (message.sent + d)) (on_way_at d past)
unfolding on_way_at
on_way-next d past =
    ap (filter (λ message. nat_le (suc (length past)) (message.sent + d))) (news-unchanged past)
    ∙ filter-later (length past) d (news_since_down past)

on_way-all : (d n : ℕ) (ws : List Word) → Each (λ w. suc n ≤ w.sent + d) ws → filter (λ message. nat_le (suc n) (message.sent + d)) (map message_of ws) ≡ map message_of ws
on_way-all d n ws coming =
    filter-all (λ message. nat_le (suc n) (message.sent + d)) (map message_of ws)
    (Each-over message_of (λ message. nat_le (suc n) (message.sent + d) ≡ true) ws
    (Each-map (λ w. suc n ≤ w.sent + d) (λ w. nat_le (suc n) (w.sent + d) ≡ true) (λ w late. within (suc n) (w.sent + d) late) ws coming))

delivers-next : (d : ℕ) (now : LineMoment) (words : List Word) (past : List LineMoment)
    → ((j s : ℕ) → length past + j ≡ suc (s + d) → delivered d (after_unchanged j past) ≡ spoken words s)
    → (j s : ℕ) → suc (length past) + j ≡ suc (s + d) → delivered d (after_unchanged j (unchanged past ∷ past)) ≡ spoken words s
delivers-next d now words past was j s at =
    ap (delivered d) (after-after j 1 (suc j) past (omega arith)) ∙ was (suc j) s (omega (arith, at))

-- no word arrives
later_ones : (d n s : ℕ) (ws : List Word) → n ≡ s + d → Each (λ w. suc n ≤ w.sent + d) ws → Each (λ w. s < w.sent) ws
later_ones d n s ws at coming = Each-map (λ w. suc n ≤ w.sent + d) (λ w. s < w.sent) (λ w more. omega (arith, more, at)) ws coming

quiet : (d : ℕ) (a : Option Word) (past : List LineMoment) → ((window : ℕ) → first_within window (arrivals d past) ≡ heard_of d a window (length past))
    → IfSome a (λ w. w.sent + d < length past) → IfSome a (λ w. last_sent w (suc (length past) - d) ≡ last_sent w (length past - d))
    → came d (unchanged past ∷ past) ≡ None
    → (window : ℕ) → first_within window (arrivals d (unchanged past ∷ past)) ≡ heard_of d a window (suc (length past))
quiet d a past was came_before same none window =
    ap (λ came. first_within window (came ∷ arrivals d past)) none
    ∙ heard-quiet d (length past) a (arrivals d past) was came_before same window

stays_none : (d : ℕ) (now : LineMoment) (ws : List Word) (past : List LineMoment) → Each (λ w. suc (length past) ≤ w.sent + d) ws
    → IsOfPast d (kept now None ws) past
    → (window : ℕ) → first_within window (arrivals d (unchanged past ∷ past)) ≡ heard_of d None window (suc (length past))
stays_none d now ws past coming is =
    quiet d None past is.heard tt tt (came-undelivered d (unchanged past ∷ past) (elim (dec_lt (length past) d) [
      | yes early ↦ delivered-early d (unchanged past ∷ past) early
      | no late ↦ is.delivers 1 (length past - d) (omega (arith, late)) ∙ spoken-later ws (length past - d) (later_ones d (length past) (length past - d) ws (omega (arith, late)) coming)
    ]))

-- the word that arrived last is said a delay ago, or has ended
stays_some : (d : ℕ) (now : LineMoment) (w : Word) (ws : List Word) (past : List LineMoment) (r : ℕ) → length past ≡ suc r + d → w.sent ≤ r → Each (λ v. suc (length past) ≤ v.sent + d) ws
    → IsOfPast d (kept now (Some w) ws) past
    → (window : ℕ) → first_within window (arrivals d (unchanged past ∷ past)) ≡ heard_of d (Some w) window (suc (length past))
stays_some d now w ws past r at early coming is = by (is_before (suc r) w.until) refl
  where
    next_is : suc (length past) - d ≡ suc (suc r)
    next_is = omega (arith, at)

    this_is : length past - d ≡ suc r
    this_is = omega (arith, at)

    said_at : (s : ℕ) (l : Option Level) → said_by w s ≡ l → Each (λ v. s < v.sent) ws → spoken (w ∷ ws) s ≡ l
    said_at s None says later = ap (λ l. option_or l (spoken ws s)) says ∙ spoken-later ws s later
    said_at s (Some l) says later = ap (λ l. option_or l (spoken ws s)) says

    later : (s : ℕ) → s ≤ suc r → Each (λ v. s < v.sent) ws
    later s less = Each-map (λ v. suc (length past) ≤ v.sent + d) (λ v. s < v.sent) (λ v more. omega (arith, more, at, less)) ws coming

    same : last_sent w (suc (suc r)) ≡ last_sent w (suc r) → last_sent w (suc (length past) - d) ≡ last_sent w (length past - d)
    same is_same = ap (last_sent w) next_is ∙ is_same ∙ sym (ap (last_sent w) this_is)

    delivered_now : (l : Option Level) → said_by w (suc r) ≡ l → delivered d (unchanged past ∷ past) ≡ l
    delivered_now l says = is.delivers 1 (suc r) (omega (arith, at)) ∙ said_at (suc r) l says (later (suc r) (omega arith))

    by_second : (b : Bool) → nat_eq (suc r % second) 0 ≡ b → is_before (suc r) w.until ≡ true → came d (unchanged past ∷ past) ≡ (if b then Some w.level else None)
        → (window : ℕ) → first_within window (arrivals d (unchanged past ∷ past)) ≡ heard_of d (Some w) window (suc (length past))
    by_second true whole before came_is window =
        ap (λ came. first_within window (came ∷ arrivals d past)) came_is
        ∙ heard-here d (length past) w (arrivals d past) (omega (arith, at, early))
        (let last : last_sent w (suc (length past) - d) ≡ suc r = ap (last_sent w) next_is ∙ last-again w.sent w.until r early before ∙ ap (λ b. if b then suc r else last_sent w (suc r)) whole in omega (arith, last, at))
        window
    by_second false part before came_is window =
        quiet d (Some w) past is.heard (omega (arith, at, early)) (same (last-again w.sent w.until r early before ∙ ap (λ b. if b then suc r else last_sent w (suc r)) part)) came_is window

    by : (b : Bool) → is_before (suc r) w.until ≡ b → (window : ℕ) → first_within window (arrivals d (unchanged past ∷ past)) ≡ heard_of d (Some w) window (suc (length past))
    by false over window =
        quiet d (Some w) past is.heard (omega (arith, at, early)) (same (last-over w.sent w.until r over))
        (came-undelivered d (unchanged past ∷ past) (delivered_now None (said_by-over w (suc r) over))) window
    by true before window =
        let now_says = delivered_now (Some w.level) (said_by-now w (suc r) (omega (arith, early)) before) in
        let said_before = is.delivers 0 r (omega (arith, at)) ∙ said_at r (Some w.level) (said_by-now w r early (before_earlier w.until r before)) (later r (omega arith)) in
        by_second (nat_eq (suc r % second) 0) refl before (came-again d (suc r) (unchanged past) past w.level at now_says said_before) window

heard_stays : (d : ℕ) (now : LineMoment) (a : Option Word) (ws : List Word) (past : List LineMoment) → Each (λ w. suc (length past) ≤ w.sent + d) ws
    → IfSome a (λ w. w.sent + d < length past) → IsOfPast d (kept now a ws) past
    → (window : ℕ) → first_within window (arrivals d (unchanged past ∷ past)) ≡ heard_of d a window (suc (length past))
heard_stays d now None ws past coming came_before is = stays_none d now ws past coming is
heard_stays d now (Some w) ws past coming came_before is =
    stays_some d now w ws past (length past - d - 1) (omega (arith, came_before)) (omega (arith, came_before)) coming is

pub stays : (d : ℕ) (now : LineMoment) (a : Option Word) (ws : List Word) (past : List LineMoment) → Each (λ w. suc (length past) ≤ w.sent + d) ws
    → IfSome a (λ w. w.sent + d < length past) → IsOfPast d (kept now a ws) past → IsOfPast d (kept now a ws) (unchanged past ∷ past)
stays d now a ws past coming came_before is = record {
  now = is.now;
  on_way = sym (on_way-next d past ∙ ap (filter (λ message. nat_le (suc (length past)) (message.sent + d))) (sym is.on_way) ∙ on_way-all d (length past) ws coming);
  delivers = delivers-next d now (words_of a ws) past is.delivers;
  heard = heard_stays d now a ws past coming came_before is;
}

-- the first word arrives
was_news : (d : ℕ) (v : Word) (past : List LineMoment) → 1 ≤ d → v.sent + d ≡ length past → IsPastNews past (message_of v) → is_news (drop d (unchanged past ∷ past)) ≡ true
was_news zero v past low at is = absurd (omega (arith, low))
was_news (suc ago) v past low at is = is.1 ago at

on_way-news : (d : ℕ) (past : List LineMoment) → Each (IsPastNews past) (on_way_at d past)
unfolding on_way_at
on_way-news d past = Each-filter (IsPastNews past) (λ message. nat_le (length past) (message.sent + d)) (news_since_down past) (all-news past)

pub news-first : (d : ℕ) (now : LineMoment) (a : Option Word) (v : Word) (vs : List Word) (past : List LineMoment) → 1 ≤ d → v.sent + d ≡ length past
    → IsOfPast d (kept now a (v ∷ vs)) past → is_news (drop d (unchanged past ∷ past)) ≡ true
news-first d now a v vs past low at is =
    let news = subst (Each (IsPastNews past)) (sym is.on_way) (on_way-news d past) in
    was_news d v past low at news.0

pub came-first : (d : ℕ) (now : LineMoment) (a : Option Word) (v : Word) (vs : List Word) (past : List LineMoment) → 1 ≤ d → v.sent + d ≡ length past
    → IsOrdered d (length past) (kept_words a (v ∷ vs)) → IsOfPast d (kept now a (v ∷ vs)) past → came d (unchanged past ∷ past) ≡ Some v.level
came-first d now a v vs past low at ordered is =
    let words = words_rest (IsWord (length past)) a (v ∷ vs) ordered.words in
    came-news d (unchanged past ∷ past) v.level
    (is.delivers 1 v.sent (omega (arith, at))
    ∙ spoken-from a v vs v.sent ordered.chain (omega arith)
    ∙ ap (λ l. option_or l (spoken vs v.sent)) (said_by-now v v.sent (omega arith) (before_end v.sent v.until words.0.longer)))
    (news-first d now a v vs past low at is)

pub arrives-first : (d : ℕ) (now : LineMoment) (a : Option Word) (v : Word) (vs : List Word) (past : List LineMoment) → 1 ≤ d → v.sent + d ≡ length past
    → IsOrdered d (length past) (kept_words a (v ∷ vs)) → IsOfPast d (kept now a (v ∷ vs)) past → IsOfPast d (kept now (Some v) vs) (unchanged past ∷ past)
arrives-first d now a v vs past low at ordered is =
    let words = words_rest (IsWord (length past)) a (v ∷ vs) ordered.words in
    let chain = chain_rest a (v ∷ vs) ordered.chain in
    let coming = after-first (length past) d (length past) v vs words.0 chain.0 (omega (arith, at)) in
    let next_is : suc (length past) - d ≡ suc v.sent = omega (arith, at) in
    let last : last_sent v (suc (length past) - d) ≡ v.sent = ap (last_sent v) next_is ∙ last-first v.sent v.until (before_end v.sent v.until words.0.longer) in
    record {
      now = is.now;
      on_way = sym (on_way-next d past ∙ ap (filter (λ message. nat_le (suc (length past)) (message.sent + d))) (sym is.on_way)
          ∙ (rw (not_within (suc (length past)) (v.sent + d) (omega (arith, at))) (on_way-all d (length past) vs coming)));
      delivers = λ j s when. delivers-next d now (words_of a (v ∷ vs)) past is.delivers j s when ∙ spoken-from a v vs s ordered.chain (omega (arith, when, at));
      heard = λ window. ap (λ came. first_within window (came ∷ arrivals d past)) (came-first d now a v vs past low at ordered is)
          ∙ heard-here d (length past) v (arrivals d past) (omega (arith, at)) (omega (arith, last, at)) window;
    }

-- some more milliseconds in which no word arrives
pub gap : (d : ℕ) (now : LineMoment) (a : Option Word) (ws : List Word) (past : List LineMoment) (j m : ℕ) → m ≡ j + length past → Each (λ w. m ≤ w.sent + d) ws
    → IsOrdered d (length past) (kept_words a ws) → IsOfPast d (kept now a ws) past → IsOfPast d (kept now a ws) (after_unchanged j past)
gap d now a ws past zero m at coming ordered is = is
gap d now a ws past (suc j) m at coming ordered is =
    let long = length-after j past in
    let before = gap d now a ws past j (j + length past) refl (Each-map (λ w. m ≤ w.sent + d) (λ w. j + length past ≤ w.sent + d) (λ w late. omega (arith, late, at)) ws coming) ordered is in
    subst (λ head. IsOfPast d (kept now a ws) (head ∷ after_unchanged j past)) (unchanged-after j past)
    (stays d now a ws (after_unchanged j past) (Each-map (λ w. m ≤ w.sent + d) (λ w. suc (length (after_unchanged j past)) ≤ w.sent + d) (λ w late. omega (arith, late, at, long)) ws coming)
    (if_some (λ w. w.sent + d < length past) (λ w. w.sent + d < length (after_unchanged j past)) (λ w less. omega (arith, less, long)) a ordered.came)
    before)
