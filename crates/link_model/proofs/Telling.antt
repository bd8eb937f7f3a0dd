-- What becomes of a line where another millisecond is told in place of a quiet one.
use Rattle.std.proofs.lemmas.Bool.Decides.{nat_tests}
use Rattle.std.proofs.Math.Decide.{dec_lt}
use Rattle.std.proofs.Common.{◌≡◌, ◌≤◌, ◌<◌, ℕ, suc, ◌+◌, ◌-◌, Bool, true, false, not, ◌&&◌, nat_le, if◌then◌else◌, List, [], ◌∷◌, ◌++◌, length, map, filter, Option, None, Some, IfSome, is_some, refl, ap, sym, ◌∙◌, arith}
use Rattle.std.specs.Option.{option_or}
use Rattle.sync_text.specs.Each.{Each}
use Rattle.sync_ql.specs.declared.levels.Level.{Level}
use Rattle.sync_ql.specs.Pasts.{first_within}
use Rattle.sync_ql.specs.Messages.{LineMoment, Message, said_in, said, is_same_level, is_news, came, arrivals, delivered, message_in, news_since_down, on_way_at, after_unchanged}
use Rattle.sync_ql.proofs.Delivered.{came-head}
use Rattle.link_model.specs.declared.word.Word.{Word}
use Rattle.link_model.specs.Spoken.{is_before, said_by, spoken, end_before, last_sent, message_of}
use Rattle.link_model.specs.Kept.{Kept, words_of, heard_of, cut_at, cut_arrived, lost}
use Rattle.link_model.specs.private.Kept.{ended_at, ended, ended_arrived, new_word, IsWord, IsOrdered}
use Rattle.link_model.specs.StandsFor.{IsOfPast}
use Rattle.link_model.proofs.Times.{within, below, not_below, said_by-over, end-within, last-ended, last-cut}
use Rattle.link_model.proofs.Pasts.{message_in-none, news-old, filter-append, delivered-now, delivered-head, delivered-down, delivered-silent, said-down, came-undelivered}
use Rattle.link_model.proofs.Ordering.{kept_words, words_of-ended}
use Rattle.link_model.proofs.Steps.{kept, heard-quiet}

-- the line is down
on_way-down : (d : ℕ) (now : LineMoment) (before : List LineMoment) → now.up ≡ false → on_way_at d (now ∷ before) ≡ []
unfolding on_way_at
on_way-down d now before down = rw down refl

heard_cut : (d now window : ℕ) (a : Option Word) → heard_of d (cut_arrived (now - d) a) window now ≡ heard_of d a window now
heard_cut d now window None = refl
heard_cut d now window (Some w) =
    ap (λ last. if nat_le now (d + last + window) then Some w.level else None) (last-cut w.sent w.until (now - d) (now - d) (omega arith))

same_cut : (d now : ℕ) (a : Option Word) → IfSome (cut_arrived (now - d) a) (λ w. last_sent w (suc now - d) ≡ last_sent w (now - d))
same_cut d now None = tt
same_cut d now (Some w) = last-cut w.sent w.until (now - d) (suc now - d) (omega arith) ∙ sym (last-cut w.sent w.until (now - d) (now - d) (omega arith))

came_cut : (d n end : ℕ) (a : Option Word) → IfSome a (λ w. w.sent + d < n) → IfSome (cut_arrived end a) (λ w. w.sent + d < n)
came_cut d n end None came = tt
came_cut d n end (Some w) came = came

spoken_cut : (end s : ℕ) (a : Option Word) → end ≤ s → spoken (words_of (cut_arrived end a) []) s ≡ None
spoken_cut end s None late = refl
spoken_cut end s (Some w) late =
    let less = end-within w.until end in
    ap (λ l. option_or l None) (said_by-over (cut_at end w) s (not_below s (end_before w.until end) (omega (arith, late, less))))

pub goes-down : (d : ℕ) (k : Kept) (now : LineMoment) (before : List LineMoment) → now.up ≡ false → IfSome k.words.arrived (λ w. w.sent + d < length before)
    → IsOfPast d k before → IsOfPast d (record { now = now; words = lost d (length before) k.words }) (now ∷ before)
goes-down d k now before down came_before is = record {
  now = refl;
  on_way = sym (on_way-down d now before down);
  delivers = λ j s at. delivered-down d j now before down ∙ sym (spoken_cut (length before - d) s k.words.arrived (omega (arith, at)));
  heard = λ window. ap (λ came. first_within window (came ∷ arrivals d before)) (came-undelivered d (now ∷ before) (delivered-down d 0 now before down))
      ∙ heard-quiet d (length before) (cut_arrived (length before - d) k.words.arrived) (arrivals d before)
      (λ w. is.heard w ∙ sym (heard_cut d (length before) w k.words.arrived))
      (came_cut d (length before) (length before - d) k.words.arrived came_before)
      (same_cut d (length before) k.words.arrived) window;
}

-- the line was down, and says nothing yet
on_way-silent : (d : ℕ) (now last : LineMoment) (before : List LineMoment) → last.up ≡ false → said_in now ≡ None → on_way_at d (now ∷ last ∷ before) ≡ []
unfolding on_way_at
on_way-silent d now last before down silent =
    ap (λ news. filter (λ message. nat_le (suc (suc (length before))) (message.sent + d)) news) (none now.up)
  where
    old : news_since_down (last ∷ before) ++ message_in (length (last ∷ before)) (said_in now) (is_news (now ∷ last ∷ before)) ≡ []
    old =
        ap (λ l. news_since_down (last ∷ before) ++ message_in (length (last ∷ before)) l (is_news (now ∷ last ∷ before))) silent
        ∙ ap (λ new. news_since_down (last ∷ before) ++ new) (message_in-none (length (last ∷ before)) (is_news (now ∷ last ∷ before)))
        ∙ ap (λ up. (if up then news_since_down before ++ message_in (length before) (said_in last) (is_news (last ∷ before)) else []) ++ []) down

    none : (up : Bool) → (if up then news_since_down (last ∷ before) ++ message_in (length (last ∷ before)) (said_in now) (is_news (now ∷ last ∷ before)) else []) ≡ []
    none true = old
    none false = refl

pub comes-up : (d : ℕ) (k : Kept) (x now last : LineMoment) (before : List LineMoment) → x.up ≡ false → last.up ≡ false → said_in now ≡ None
    → IsOfPast d k (x ∷ last ∷ before) → IsOfPast d (record { now = now; words = k.words }) (now ∷ last ∷ before)
comes-up d k x now last before down was_down silent is = record {
  now = refl;
  on_way = is.on_way ∙ on_way-down d x (last ∷ before) down ∙ sym (on_way-silent d now last before was_down silent);
  delivers = λ j s at. delivered-silent d j now last before was_down silent ∙ sym (delivered-down d j x (last ∷ before) down) ∙ is.delivers j s at;
  heard = λ window. ap (λ came. first_within window (came ∷ arrivals d (last ∷ before)))
      (came-undelivered d (now ∷ last ∷ before) (delivered-silent d 0 now last before was_down silent)
      ∙ sym (came-undelivered d (x ∷ last ∷ before) (delivered-down d 0 x (last ∷ before) down)))
      ∙ is.heard window;
}

-- the line says the same
abbrev news_by : Bool → Option Level → List LineMoment → List Message
news_by up level before =
    if up then news_since_down before ++ message_in (length before) level (is_some level && not (is_same_level level (said before))) else []

on_way-same : (d : ℕ) (x now : LineMoment) (before : List LineMoment) → x.up ≡ now.up → said_in x ≡ said_in now → on_way_at d (x ∷ before) ≡ on_way_at d (now ∷ before)
unfolding on_way_at
on_way-same d x now before up same =
    ap (λ b. filter (λ message. nat_le (suc (length before)) (message.sent + d)) (news_by b (said_in x) before)) up
    ∙ ap (λ l. filter (λ message. nat_le (suc (length before)) (message.sent + d)) (news_by now.up l before)) same

pub says-same : (d : ℕ) (k : Kept) (x now : LineMoment) (before : List LineMoment) → 1 ≤ d → x.up ≡ now.up → said_in x ≡ said_in now
    → IsOfPast d k (x ∷ before) → IsOfPast d (record { now = now; words = k.words }) (now ∷ before)
says-same d k x now before low up same is = record {
  now = refl;
  on_way = is.on_way ∙ on_way-same d x now before up same;
  delivers = λ j s at. delivers j ∙ is.delivers j s at;
  heard = λ window. ap (λ came. first_within window (came ∷ arrivals d before)) (sym (came-head d x now before low up)) ∙ is.heard window;
}
  where
    delivers : (j : ℕ) → delivered d (after_unchanged j (now ∷ before)) ≡ delivered d (after_unchanged j (x ∷ before))
    delivers j = elim (dec_lt j d) [
      | yes less ↦ sym (delivered-head d j x now before less up)
      | no more ↦ delivered-now d j now before (omega (arith, more)) ∙ sym same ∙ sym (delivered-now d j x before (omega (arith, more)))
    ]

-- the line says another level, or none
filter_new : (d now : ℕ) (level : Option Level) → 1 ≤ d
    → filter (λ message. nat_le (suc now) (message.sent + d)) (message_in now level (is_some level)) ≡ map message_of (new_word now level)
filter_new d now None low = refl
filter_new d now (Some level) low = rw (within (suc now) (now + d) (omega (arith, low))) refl

append_none : (xs : List Message) → xs ++ [] ≡ xs
append_none [] = refl
append_none (x ∷ xs) = ap (λ ys. x ∷ ys) (append_none xs)

on_way-said : (d : ℕ) (x now : LineMoment) (before : List LineMoment) → 1 ≤ d → x.up ≡ now.up → (x.up ≡ true → is_news (x ∷ before) ≡ false) → is_news (now ∷ before) ≡ is_some (said_in now)
    → on_way_at d (now ∷ before) ≡ on_way_at d (x ∷ before) ++ map message_of (new_word (length before) (said_in now))
unfolding on_way_at
on_way-said d x now before low up old new = by x.up refl
  where
    later : List Message → List Message
    later messages = filter (λ message. nat_le (suc (length before)) (message.sent + d)) messages

    by : (b : Bool) → x.up ≡ b → later (news_since_down (now ∷ before)) ≡ later (news_since_down (x ∷ before)) ++ map message_of (new_word (length before) (said_in now))
    by true x_up =
        ap (λ b. later (if b then news_since_down before ++ message_in (length before) (said_in now) (is_news (now ∷ before)) else [])) (sym up ∙ x_up)
        ∙ ap (λ b. later (news_since_down before ++ message_in (length before) (said_in now) b)) new
        ∙ filter-append (λ message. nat_le (suc (length before)) (message.sent + d)) (news_since_down before) (message_in (length before) (said_in now) (is_some (said_in now)))
        ∙ ap (λ messages. later (news_since_down before) ++ messages) (filter_new d (length before) (said_in now) low)
        ∙ ap (λ messages. later messages ++ map message_of (new_word (length before) (said_in now))) (sym (news-old x before x_up (old x_up)))
    by false x_down =
        ap (λ b. later (if b then news_since_down before ++ message_in (length before) (said_in now) (is_news (now ∷ before)) else [])) (sym up ∙ x_down)
        ∙ ap (λ l. map message_of (new_word (length before) l)) (sym (said-down now (sym up ∙ x_down)))
        ∙ ap (λ b. later (if b then news_since_down before ++ message_in (length before) (said_in x) (is_news (x ∷ before)) else []) ++ map message_of (new_word (length before) (said_in now))) (sym x_down)

messages_ended : (now : ℕ) (ws new : List Word) → map message_of (map (ended now) ws ++ new) ≡ map message_of ws ++ map message_of new
messages_ended now [] new = refl
messages_ended now (w ∷ ws) new = ap (λ messages. message_of w ∷ messages) (messages_ended now ws new)

before_ended : (s now : ℕ) (until : Option ℕ) → s < now → is_before s (ended_at now until) ≡ is_before s until
before_ended s now None early = below s now early
before_ended s now (Some u) early = refl

over_ended : (s now : ℕ) (until : Option ℕ) → now ≤ s → IfSome until (λ u. u < suc now) → is_before s (ended_at now until) ≡ false
over_ended s now None late over = not_below s now late
over_ended s now (Some u) late over = not_below s u (omega (arith, late, over))

new_early : (s now : ℕ) (level : Option Level) → s < now → spoken (new_word now level) s ≡ None
new_early s now None early = refl
new_early s now (Some level) early = (let n : nat_le now s ≡ false = grind (arith, nat_tests) in rw n refl)

new_now : (s now : ℕ) (level : Option Level) → now ≤ s → spoken (new_word now level) s ≡ level
new_now s now None late = refl
new_now s now (Some level) late = rw (within now s late) refl

spoken_early : (s now : ℕ) (level : Option Level) (ws : List Word) → s < now → spoken (map (ended now) ws ++ new_word now level) s ≡ spoken ws s
spoken_early s now level [] early = new_early s now level early
spoken_early s now level (w ∷ ws) early =
    ap (λ l. option_or l (spoken (map (ended now) ws ++ new_word now level) s))
    (ap (λ b. if nat_le w.sent s && b then Some w.level else None) (before_ended s now w.until early))
    ∙ ap (λ l. option_or (said_by w s) l) (spoken_early s now level ws early)

spoken_now : (s now : ℕ) (level : Option Level) (ws : List Word) → now ≤ s → Each (IsWord (suc now)) ws → spoken (map (ended now) ws ++ new_word now level) s ≡ level
spoken_now s now level [] late are = new_now s now level late
spoken_now s now level (w ∷ ws) late are =
    ap (λ l. option_or l (spoken (map (ended now) ws ++ new_word now level) s)) (said_by-over (ended now w) s (over_ended s now w.until late are.0.over))
    ∙ spoken_now s now level ws late are.1

heard_ended : (d now window : ℕ) (a : Option Word) → 1 ≤ d → heard_of d (ended_arrived now a) window (suc now) ≡ heard_of d a window (suc now)
heard_ended d now window None low = refl
heard_ended d now window (Some w) low =
    ap (λ last. if nat_le (suc now) (d + last + window) then Some w.level else None) (last-ended w.sent w.until now (suc now - d) (omega (arith, low)))

pub says-other : (d : ℕ) (a : Option Word) (ws : List Word) (x now : LineMoment) (before : List LineMoment) → 1 ≤ d → x.up ≡ now.up
    → (x.up ≡ true → is_news (x ∷ before) ≡ false) → is_news (now ∷ before) ≡ is_some (said_in now)
    → IsOrdered d (suc (length before)) (kept_words a ws) → IsOfPast d (kept x a ws) (x ∷ before)
    → IsOfPast d (kept now (ended_arrived (length before) a) (map (ended (length before)) ws ++ new_word (length before) (said_in now))) (now ∷ before)
says-other d a ws x now before low up old new ordered is = record {
  now = refl;
  on_way = messages_ended (length before) ws (new_word (length before) (said_in now))
      ∙ ap (λ messages. messages ++ map message_of (new_word (length before) (said_in now))) is.on_way
      ∙ sym (on_way-said d x now before low up old new);
  delivers = λ j s at. delivers j s at ∙ ap (λ words. spoken words s) (sym (words_of-ended (length before) a ws (new_word (length before) (said_in now))));
  heard = λ window. ap (λ came. first_within window (came ∷ arrivals d before)) (sym (came-head d x now before low up))
      ∙ is.heard window
      ∙ sym (heard_ended d (length before) window a low);
}
  where
    delivers : (j s : ℕ) → suc (length before) + j ≡ suc (s + d) → delivered d (after_unchanged j (now ∷ before)) ≡ spoken (map (ended (length before)) (words_of a ws) ++ new_word (length before) (said_in now)) s
    delivers j s at = elim (dec_lt j d) [
      | yes less ↦ sym (delivered-head d j x now before less up) ∙ is.delivers j s at ∙ sym (spoken_early s (length before) (said_in now) (words_of a ws) (omega (arith, at, less)))
      | no more ↦ delivered-now d j now before (omega (arith, more)) ∙ sym (spoken_now s (length before) (said_in now) (words_of a ws) (omega (arith, at, more)) ordered.words)
    ]
