-- The words of a line stay in their order, whatever is told of it.
use Rattle.std.proofs.lemmas.Bool.Decides.{nat_tests}
use Rattle.std.proofs.Common.{◌≡◌, ◌≤◌, ◌<◌, ℕ, suc, ◌+◌, ◌-◌, Bool, true, false, nat_eq, nat_lt, if◌then◌else◌, List, [], ◌∷◌, ◌++◌, map, Option, None, Some, IfSome, refl, sym, subst, arith}
use Rattle.std.proofs.lemmas.List.{append-nil}
use Rattle.sync_text.proofs.Each.{Each-map, Each-append}
use Rattle.sync_text.specs.Each.{Each}
use Rattle.sync_ql.specs.declared.levels.Level.{Level}
use Rattle.link_model.specs.declared.word.Word.{Word}
use Rattle.link_model.specs.Spoken.{end_before}
use Rattle.link_model.specs.Kept.{WordsKept, words_of, all_words, lost, arrival_of, first_of}
use Rattle.link_model.specs.private.Kept.{taken_in, ended_at, ended, ended_arrived, new_word, IsWord, EndsBy, IsChain, IsOrdered}
use Rattle.link_model.proofs.Times.{is_equal, is_not_equal, not_equal, end-within}

abbrev pub kept_words : Option Word → List Word → WordsKept
kept_words a ws = record { arrived = a; on_way = ws }

pub if_some : {A : Type 0} (P Q : A → Type 0) → ((x : A) → P x → Q x) → (o : Option A) → IfSome o P → IfSome o Q
if_some P Q from None is = tt
if_some P Q from (Some x) is = from x is

pub Each-over : {A B : Type 0} (f : A → B) (P : B → Type 0) (xs : List A) → Each (λ x. P (f x)) xs → Each P (map f xs)
Each-over f P [] all = tt
Each-over f P (x ∷ xs) all = (all.0, Each-over f P xs all.1)

-- a word is also one for a later millisecond
word-later : (n m : ℕ) → n ≤ m → (w : Word) → IsWord n w → IsWord m w
word-later n m later w is = record {
  before = (let less = is.before in omega (arith, less, later));
  longer = is.longer;
  over = if_some (λ u. u < n) (λ u. u < m) (λ u less. omega (arith, less, later)) w.until is.over;
}

-- a word that comes after another was said later
pub later-than : (sent : ℕ) (until : Option ℕ) (s : ℕ) → IfSome until (λ u. sent < u) → EndsBy until s → sent < s
later-than sent None s longer ends = absurd ends
later-than sent (Some u) s longer ends = omega (arith, longer, ends)

pub chain_rest : (a : Option Word) (ws : List Word) → IsChain (words_of a ws) → IsChain ws
chain_rest None ws chain = chain
chain_rest (Some w) ws chain = chain.1

pub words_rest : (P : Word → Type 0) (a : Option Word) (ws : List Word) → Each P (words_of a ws) → Each P ws
words_rest P None ws all = all
words_rest P (Some w) ws all = all.1

-- all on their way arrive after the first of them
pub after-first : (n d m : ℕ) (v : Word) (vs : List Word) → IsWord n v → Each (λ w. EndsBy v.until w.sent) vs → m ≤ v.sent + d → Each (λ w. suc m ≤ w.sent + d) vs
after-first n d m v vs is ends late =
    Each-map (λ w. EndsBy v.until w.sent) (λ w. suc m ≤ w.sent + d)
    (λ w ended. let more = later-than v.sent v.until w.sent is.longer ended in omega (arith, more, late)) vs ends

pub all-coming : (n d m : ℕ) (a : Option Word) (ws : List Word) → IsOrdered d n (kept_words a ws) → IfSome (arrival_of d ws) (λ at. m ≤ at) → Each (λ w. m ≤ w.sent + d) ws
all-coming n d m a [] is late = tt
all-coming n d m a (v ∷ vs) is late =
    let words = words_rest (IsWord n) a (v ∷ vs) is.words in
    let chain = chain_rest a (v ∷ vs) is.chain in
    (late, Each-map (λ w. suc m ≤ w.sent + d) (λ w. m ≤ w.sent + d) (λ w more. omega (arith, more)) vs (after-first n d m v vs words.0 chain.0 late))

-- the order for a later millisecond, if nothing arrives until then
pub ordered-later : (d n m : ℕ) (k : WordsKept) → n ≤ m → Each (λ w. m ≤ w.sent + d) k.on_way → IsOrdered d n k → IsOrdered d m k
ordered-later d n m k later coming is = record {
  words = Each-map (IsWord n) (IsWord m) (word-later n m later) (all_words k) is.words;
  chain = is.chain;
  came = if_some (λ w. w.sent + d < n) (λ w. w.sent + d < m) (λ w less. omega (arith, less, later)) k.arrived is.came;
  coming = coming;
}

-- and when the first word arrives
pub ordered-arrived : (d n : ℕ) (a : Option Word) (v : Word) (vs : List Word) → v.sent + d ≡ n → IsOrdered d n (kept_words a (v ∷ vs)) → IsOrdered d (suc n) (kept_words (Some v) vs)
ordered-arrived d n a v vs at is =
    let words = words_rest (IsWord n) a (v ∷ vs) is.words in
    let chain = chain_rest a (v ∷ vs) is.chain in
    record {
      words = Each-map (IsWord n) (IsWord (suc n)) (word-later n (suc n) (omega arith)) (v ∷ vs) words;
      chain = chain;
      came = omega (arith, at);
      coming = after-first n d n v vs words.0 chain.0 (omega (arith, at));
    }

pub ordered-taken : (d n : ℕ) (a : Option Word) (ws : List Word) → IsOrdered d n (kept_words a ws) → IsOrdered d (suc n) (taken_in d n a ws)
ordered-taken d n a [] is = ordered-later d n (suc n) (kept_words a []) (omega arith) tt is
ordered-taken d n a (v ∷ vs) is = by (nat_eq (v.sent + d) n) refl
  where
    by : (b : Bool) → nat_eq (v.sent + d) n ≡ b → IsOrdered d (suc n) (if b then kept_words (Some v) vs else kept_words a (v ∷ vs))
    by true at = ordered-arrived d n a v vs (is_equal (v.sent + d) n at) is
    by false other =
        let not_here = is_not_equal (v.sent + d) n other in
        let coming = is.coming.0 in
        let late : suc n ≤ v.sent + d = omega (arith, not_here, coming) in
        ordered-later d n (suc n) (kept_words a (v ∷ vs)) (omega arith) (all-coming n d (suc n) a (v ∷ vs) is late) is

-- nothing is taken in twice
pub taken-same : (d now : ℕ) (a : Option Word) (ws : List Word) → Each (λ w. suc now ≤ w.sent + d) ws → taken_in d now a ws ≡ kept_words a ws
taken-same d now a [] coming = refl
taken-same d now a (v ∷ vs) coming =
    let late = coming.0 in
    rw (not_equal (v.sent + d) now (λ same. omega (arith, same, late))) refl

-- a line that is down
longer_cut : (sent : ℕ) (until : Option ℕ) (end : ℕ) → IfSome until (λ u. sent < u) → sent < end → sent < end_before until end
longer_cut sent None end longer less = less
longer_cut sent (Some u) end longer less = grind (arith, nat_tests)

pub ordered-lost : (d n now : ℕ) (a : Option Word) (ws : List Word) → n ≤ now → IsOrdered d n (kept_words a ws) → IsOrdered d (suc now) (lost d now (kept_words a ws))
ordered-lost d n now None ws later is = record { words = tt; chain = tt; came = tt; coming = tt }
ordered-lost d n now (Some w) ws later is =
    let came = is.came in
    let before = is.words.0.before in
    let end = end-within w.until (now - d) in
    record {
      words = (
        record {
          before = omega (arith, before, later);
          longer = longer_cut w.sent w.until (now - d) is.words.0.longer (omega (arith, came, later));
          over = omega (arith, end);
        },
        tt,
      );
      chain = (tt, tt);
      came = omega (arith, came, later);
      coming = tt;
    }

-- all words end
ended_by : (now : ℕ) (until : Option ℕ) (s : ℕ) → EndsBy until s → EndsBy (ended_at now until) s
ended_by now None s ends = absurd ends
ended_by now (Some u) s ends = ends

longer_ended : (sent now : ℕ) (until : Option ℕ) → sent < now → IfSome until (λ u. sent < u) → IfSome (ended_at now until) (λ u. sent < u)
longer_ended sent now None early longer = early
longer_ended sent now (Some u) early longer = longer

over_ended : (now : ℕ) (until : Option ℕ) → IfSome until (λ u. u < suc now) → IfSome (ended_at now until) (λ u. u < suc now)
over_ended now None over = omega arith
over_ended now (Some u) over = over

ended_now : (now : ℕ) (until : Option ℕ) → IfSome until (λ u. u < suc now) → EndsBy (ended_at now until) now
ended_now now None over = omega arith
ended_now now (Some u) over = omega (arith, over)

words_ended : (now : ℕ) (ws : List Word) → Each (λ w. w.sent < now) ws → Each (IsWord (suc now)) ws → Each (IsWord (suc now)) (map (ended now) ws)
words_ended now [] early all = tt
words_ended now (w ∷ ws) early all = (
  record {
    before = all.0.before;
    longer = longer_ended w.sent now w.until early.0 all.0.longer;
    over = over_ended now w.until all.0.over;
  },
  words_ended now ws early.1 all.1,
)

chain_ended : (now : ℕ) (ws : List Word) → IsChain ws → IsChain (map (ended now) ws)
chain_ended now [] chain = tt
chain_ended now (w ∷ ws) chain = (
  Each-over (ended now) (λ v. EndsBy (ended_at now w.until) v.sent) ws
      (Each-map (λ v. EndsBy w.until v.sent) (λ v. EndsBy (ended_at now w.until) v.sent) (λ v ends. ended_by now w.until v.sent ends) ws chain.0),
  chain_ended now ws chain.1,
)

chain_append : (ws : List Word) (v : Word) → IsChain ws → Each (λ w. EndsBy w.until v.sent) ws → IsChain (ws ++ v ∷ [])
chain_append [] v chain ends = (tt, tt)
chain_append (w ∷ ws) v chain ends = (Each-append (λ x. EndsBy w.until x.sent) ws (v ∷ []) chain.0 (ends.0, tt), chain_append ws v chain.1 ends.1)

pub words_of-ended : (now : ℕ) (a : Option Word) (ws new : List Word) → words_of (ended_arrived now a) (map (ended now) ws ++ new) ≡ map (ended now) (words_of a ws) ++ new
words_of-ended now None ws new = refl
words_of-ended now (Some w) ws new = refl

came_ended : (d n now : ℕ) (a : Option Word) → IfSome a (λ w. w.sent + d < n) → IfSome (ended_arrived now a) (λ w. w.sent + d < n)
came_ended d n now None came = tt
came_ended d n now (Some w) came = came

all_end : (now : ℕ) (ws : List Word) → Each (IsWord (suc now)) ws → Each (λ w. EndsBy w.until now) (map (ended now) ws)
all_end now [] all = tt
all_end now (w ∷ ws) all = (ended_now now w.until all.0.over, all_end now ws all.1)

-- and another level is said from now on, or none
pub ordered-said : (d now : ℕ) (level : Option Level) (a : Option Word) (ws : List Word) → 1 ≤ d → Each (λ w. w.sent < now) (words_of a ws)
    → IsOrdered d (suc now) (kept_words a ws) → IsOrdered d (suc now) (kept_words (ended_arrived now a) (map (ended now) ws ++ new_word now level))
ordered-said d now level a ws low early is = record {
  words = subst (Each (IsWord (suc now))) (sym (words_of-ended now a ws (new_word now level))) (words level);
  chain = subst IsChain (sym (words_of-ended now a ws (new_word now level))) (chain level);
  came = came_ended d (suc now) now a is.came;
  coming = coming level;
}
  where
    words : (l : Option Level) → Each (IsWord (suc now)) (map (ended now) (words_of a ws) ++ new_word now l)
    words None = Each-append (IsWord (suc now)) (map (ended now) (words_of a ws)) [] (words_ended now (words_of a ws) early is.words) tt
    words (Some l) = Each-append (IsWord (suc now)) (map (ended now) (words_of a ws)) (new_word now (Some l)) (words_ended now (words_of a ws) early is.words) (record { before = omega arith; longer = tt; over = tt }, tt)

    chain : (l : Option Level) → IsChain (map (ended now) (words_of a ws) ++ new_word now l)
    chain None = subst IsChain (sym (append-nil (map (ended now) (words_of a ws)))) (chain_ended now (words_of a ws) is.chain)
    chain (Some l) = chain_append (map (ended now) (words_of a ws)) (record { sent = now; level = l; until = None }) (chain_ended now (words_of a ws) is.chain) (all_end now (words_of a ws) is.words)

    old : Each (λ w. suc now ≤ w.sent + d) (map (ended now) ws)
    old = Each-over (ended now) (λ w. suc now ≤ w.sent + d) ws is.coming

    coming : (l : Option Level) → Each (λ w. suc now ≤ w.sent + d) (map (ended now) ws ++ new_word now l)
    coming None = Each-append (λ w. suc now ≤ w.sent + d) (map (ended now) ws) [] old tt
    coming (Some l) = Each-append (λ w. suc now ≤ w.sent + d) (map (ended now) ws) (new_word now (Some l)) old (omega (arith, low), tt)

-- what is due is no later than the first arrival
pub due-arrival : (m : ℕ) (a b : Option ℕ) → IfSome (first_of a b) (λ due. m ≤ due) → IfSome a (λ at. m ≤ at)
due-arrival m None b late = tt
due-arrival m (Some x) None late = late
due-arrival m (Some x) (Some y) late = by (nat_lt y x) refl late
  where
    by : (b : Bool) → nat_lt y x ≡ b → IfSome (if b then Some y else Some x) (λ due. m ≤ due) → m ≤ x
    by true less h = (let l : y < x = grind (arith, nat_tests) in omega (arith, l, h))
    by false less h = h

pub next-later : (n : ℕ) (a b : Option ℕ) → IfSome a (λ at. n ≤ at) → IfSome b (λ at. n ≤ at) → IfSome (first_of a b) (λ due. n ≤ due)
next-later n None b first other = other
next-later n (Some x) None first other = first
next-later n (Some x) (Some y) first other = by (nat_lt y x)
  where
    by : (b : Bool) → IfSome (if b then Some y else Some x) (λ due. n ≤ due)
    by true = other
    by false = first
