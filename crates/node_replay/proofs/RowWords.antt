-- What rows say, by the first of them and those behind it; and loops over a list by what is left of it.
use Rattle.std.proofs.Common.{◌≡◌, ◌≤◌, ◌<◌, ◌+◌, ◌-◌, ℕ, zero, suc, Bool, true, false, List, [], ◌∷◌, ◌++◌, length, map, filter, take, drop, Option, None, Some, refl, ap, sym, ◌∙◌, arith, append_assoc, append-nil, add-one}
use Rattle.std.specs.Prelude.{unwrap_or, if◌then◌else◌}
use Rattle.std.specs.Option.{option_or}
use Rattle.std.specs.List.{filter_map, cons_option, concat, range_with_len}
use Rattle.std.proofs.Math.ListN.{get_or, set}
use Rattle.std.proofs.Math.Seq.{drop-cons, get_or-append_seam, set-append_seam}
use Rattle.std.proofs.lemmas.List.{length-map, length-take-le, map_more}
use Rattle.sync_text.proofs.Options.{option_or-none, option_or-assoc, unwrap_or-option_or}
use Rattle.sync_ql.specs.declared.levels.Level.{Level}
use Rattle.sync_ql.specs.declared.rules.InputEvent.{InputEvent}
use Rattle.sync_topo.specs.declared.event.What.{What}
use Rattle.net_rules.specs.Signals.{last_word}
use Rattle.node_file.specs.declared.row.NodeWord.{NodeWord}
use Rattle.node_file.specs.declared.row.NodeWord.TheVariants.{Frame, Happens}
use Rattle.node_file.specs.declared.row.NodeRow.{NodeRow}
use Rattle.node_file.specs.NodeRow.{events_in, said_on, frames_on}
use Rattle.node_replay.specs.declared.inputs.InputNow.{InputNow}
use Rattle.node_rules.specs.Replay.{last_of}
use Rattle.node_replay.specs.private.Keeping.{row_says}
use Rattle.node_replay.specs.private.Telling.{told_from}

word-more-at : {A : Type 0} (says : What → Option A) (at : ℕ) (word : NodeWord) (rows : List NodeRow)
    → last_word says (events_in (record { at = at; word = word } ∷ rows)) ≡ option_or (last_word says (events_in rows)) (row_says says (record { at = at; word = word }))
word-more-at says at (Frame line level) rows = sym (option_or-none (last_word says (events_in rows)))
word-more-at says at (Happens what) rows = refl

-- what rows say last is what those behind the first say, or else what the first says
pub word-more : {A : Type 0} (says : What → Option A) (row : NodeRow) (rows : List NodeRow)
    → last_word says (events_in (row ∷ rows)) ≡ option_or (last_word says (events_in rows)) (row_says says row)
word-more says row rows = word-more-at says row.at row.word rows

-- what is left of a list from a place on begins with what stands there
pub drop-at : {A : Type 0} (xs : List A) (i : ℕ) (x : A) → i < length xs → x ≡ get_or xs i x → drop i xs ≡ x ∷ drop (i + 1) xs
drop-at xs i x within at =
    drop-cons xs i x within ∙ ap (λ y. y ∷ drop (suc i) xs) (sym at) ∙ ap (λ n. x ∷ drop n xs) (sym (add-one i))

pub drop-end : {A : Type 0} (xs : List A) (i : ℕ) → length xs ≤ i → drop i xs ≡ []
drop-end [] i past = nil i
  where
    nil : {A : Type 0} (i : ℕ) → ◌≡◌ {A = List A} (drop i []) []
    nil zero = refl
    nil (suc i) = refl
drop-end (x ∷ xs) zero past = absurd (omega (arith, past))
drop-end (x ∷ xs) (suc i) past = drop-end xs i (omega (arith, past))

-- one row more is taken in
pub step-word : {A : Type 0} (says : What → Option A) (here : List NodeRow) (i : ℕ) (row : NodeRow) (before after whole : A)
    → i < length here → row ≡ get_or here i row → unwrap_or (last_word says (events_in (drop i here))) before ≡ whole
    → after ≡ unwrap_or (row_says says row) before → unwrap_or (last_word says (events_in (drop (i + 1) here))) after ≡ whole
step-word says here i row before after whole within at so_far is =
    ap (unwrap_or (last_word says (events_in (drop (i + 1) here)))) is
    ∙ sym (unwrap_or-option_or (last_word says (events_in (drop (i + 1) here))) (row_says says row) before)
    ∙ ap (λ o. unwrap_or o before) (sym (word-more says row (drop (i + 1) here)))
    ∙ ap (λ rows. unwrap_or (last_word says (events_in rows)) before) (sym (drop-at here i row within at))
    ∙ so_far

pub step-said : {A : Type 0} (says : What → Option A) (here : List NodeRow) (i : ℕ) (row : NodeRow) (before after whole : Option A)
    → i < length here → row ≡ get_or here i row → option_or (last_word says (events_in (drop i here))) before ≡ whole
    → after ≡ option_or (row_says says row) before → option_or (last_word says (events_in (drop (i + 1) here))) after ≡ whole
step-said says here i row before after whole within at so_far is =
    ap (option_or (last_word says (events_in (drop (i + 1) here)))) is
    ∙ sym (option_or-assoc (last_word says (events_in (drop (i + 1) here))) (row_says says row) before)
    ∙ ap (λ o. option_or o before) (sym (word-more says row (drop (i + 1) here)))
    ∙ ap (λ rows. option_or (last_word says (events_in rows)) before) (sym (drop-at here i row within at))
    ∙ so_far

-- the last of a list is that of what follows the first, or else the first
last-some : {A : Type 0} (x : A) (xs : List A) → (z : A) × (last_of (x ∷ xs) ≡ Some z)
last-some x [] = (x, refl)
last-some x (y ∷ ys) = last-some y ys

last-more : {A : Type 0} (o : Option A) (xs : List A) → last_of (cons_option o xs) ≡ option_or (last_of xs) o
last-more None xs = sym (option_or-none (last_of xs))
last-more (Some x) [] = refl
last-more (Some x) (y ∷ ys) = let some = last-some y ys in rw some.1 refl

pub step-frame : (line : ℕ) (here : List NodeRow) (i : ℕ) (row : NodeRow) (before after whole : Option (Option Level))
    → i < length here → row ≡ get_or here i row → option_or (last_of (frames_on line (drop i here))) before ≡ whole
    → after ≡ option_or (said_on line row) before → option_or (last_of (frames_on line (drop (i + 1) here))) after ≡ whole
step-frame line here i row before after whole within at so_far is =
    ap (option_or (last_of (frames_on line (drop (i + 1) here)))) is
    ∙ sym (option_or-assoc (last_of (frames_on line (drop (i + 1) here))) (said_on line row) before)
    ∙ ap (λ o. option_or o before) (sym (last-more (said_on line row) (frames_on line (drop (i + 1) here))))
    ∙ ap (λ rows. option_or (last_of (frames_on line rows)) before) (sym (drop-at here i row within at))
    ∙ so_far

-- all rows are taken in
pub end-word : {A : Type 0} (says : What → Option A) (here : List NodeRow) (i : ℕ) (now whole : A) → length here ≤ i
    → unwrap_or (last_word says (events_in (drop i here))) now ≡ whole → now ≡ whole
end-word says here i now whole past is = sym (ap (λ rows. unwrap_or (last_word says (events_in rows)) now) (drop-end here i past)) ∙ is

pub end-said : {A : Type 0} (says : What → Option A) (here : List NodeRow) (i : ℕ) (now whole : Option A) → length here ≤ i
    → option_or (last_word says (events_in (drop i here))) now ≡ whole → now ≡ whole
end-said says here i now whole past is = sym (ap (λ rows. option_or (last_word says (events_in rows)) now) (drop-end here i past)) ∙ is

pub end-frame : (line : ℕ) (here : List NodeRow) (i : ℕ) (now whole : Option (Option Level)) → length here ≤ i
    → option_or (last_of (frames_on line (drop i here))) now ≡ whole → now ≡ whole
end-frame line here i now whole past is = sym (ap (λ rows. option_or (last_of (frames_on line rows)) now) (drop-end here i past)) ∙ is

-- some are made from a list, one after another
cons-append : {A : Type 0} (o : Option A) (xs : List A) → cons_option o xs ≡ cons_option o [] ++ xs
cons-append None xs = refl
cons-append (Some x) xs = refl

pub step-kept : {A B : Type 0} (f : A → Option B) (xs : List A) (i : ℕ) (x : A) (before after whole : List B)
    → i < length xs → x ≡ get_or xs i x → before ++ filter_map f (drop i xs) ≡ whole → after ≡ before ++ cons_option (f x) []
    → after ++ filter_map f (drop (i + 1) xs) ≡ whole
step-kept f xs i x before after whole within at so_far is =
    ap (λ front. front ++ filter_map f (drop (i + 1) xs)) is
    ∙ append_assoc before (cons_option (f x) []) (filter_map f (drop (i + 1) xs))
    ∙ ap (λ back. before ++ back) (sym (cons-append (f x) (filter_map f (drop (i + 1) xs))))
    ∙ ap (λ rest. before ++ filter_map f rest) (sym (drop-at xs i x within at))
    ∙ so_far

pub end-kept : {A B : Type 0} (f : A → Option B) (xs : List A) (i : ℕ) (now whole : List B) → length xs ≤ i
    → now ++ filter_map f (drop i xs) ≡ whole → now ≡ whole
end-kept f xs i now whole past is = sym (ap (λ rest. now ++ filter_map f rest) (drop-end xs i past) ∙ append-nil now) ∙ is

-- rows are put for each of a list
pub step-put : {A : Type 0} (f : A → List ℕ) (xs : List A) (i : ℕ) (x : A) (before after whole : List ℕ)
    → i < length xs → x ≡ get_or xs i x → before ++ concat (map f (drop i xs)) ≡ whole → after ≡ before ++ f x
    → after ++ concat (map f (drop (i + 1) xs)) ≡ whole
step-put f xs i x before after whole within at so_far is =
    ap (λ front. front ++ concat (map f (drop (i + 1) xs))) is
    ∙ append_assoc before (f x) (concat (map f (drop (i + 1) xs)))
    ∙ ap (λ rest. before ++ concat (map f rest)) (sym (drop-at xs i x within at))
    ∙ so_far

pub end-put : {A : Type 0} (f : A → List ℕ) (xs : List A) (i : ℕ) (now whole : List ℕ) → length xs ≤ i
    → now ++ concat (map f (drop i xs)) ≡ whole → now ≡ whole
end-put f xs i now whole past is = sym (ap (λ rest. now ++ concat (map f rest)) (drop-end xs i past) ∙ append-nil now) ∙ is

-- the inputs are told one after another
pub step-told : (inputs : List InputNow) (i : ℕ) (input : InputNow) (before after whole : List InputEvent)
    → i < length inputs → input ≡ get_or inputs i input → before ++ told_from i (drop i inputs) ≡ whole
    → after ≡ before ++ told_from i (input ∷ []) → after ++ told_from (i + 1) (drop (i + 1) inputs) ≡ whole
step-told inputs i input before after whole within at so_far is =
    ap (λ front. front ++ told_from (i + 1) (drop (i + 1) inputs)) is
    ∙ append_assoc before (told_from i (input ∷ [])) (told_from (i + 1) (drop (i + 1) inputs))
    ∙ ap (λ rest. before ++ told_from i rest) (sym (drop-at inputs i input within at))
    ∙ so_far

pub end-told : (inputs : List InputNow) (i : ℕ) (now whole : List InputEvent) → length inputs ≤ i
    → now ++ told_from i (drop i inputs) ≡ whole → now ≡ whole
end-told inputs i now whole past is = sym (ap (λ rest. now ++ told_from i rest) (drop-end inputs i past) ∙ append-nil now) ∙ is

-- some numbers of a range are kept, one after another
pub step-range : {B : Type 0} (f : ℕ → B) (p : ℕ → Bool) (count i : ℕ) (before after whole : List B) → i < count
    → before ++ map f (filter p (range_with_len i (count - i))) ≡ whole → after ≡ before ++ (if p i then f i ∷ [] else [])
    → after ++ map f (filter p (range_with_len (i + 1) (count - (i + 1)))) ≡ whole
step-range f p count i before after whole within so_far is =
    ap (λ front. front ++ map f (filter p (range_with_len (i + 1) (count - (i + 1))))) is
    ∙ append_assoc before (if p i then f i ∷ [] else []) (map f (filter p (range_with_len (i + 1) (count - (i + 1)))))
    ∙ ap (λ back. before ++ back) (one (p i) refl)
    ∙ ap (λ n. before ++ map f (filter p (range_with_len i n))) (sym (let more : count - i ≡ suc (count - (i + 1)) = omega (arith, within) in more))
    ∙ so_far
  where
    one : (b : Bool) → p i ≡ b → (if b then f i ∷ [] else []) ++ map f (filter p (range_with_len (i + 1) (count - (i + 1))))
        ≡ map f (if b then i ∷ filter p (range_with_len (i + 1) (count - (i + 1))) else filter p (range_with_len (i + 1) (count - (i + 1))))
    one true passes = refl
    one false passes = refl

pub end-range : {B : Type 0} (f : ℕ → B) (p : ℕ → Bool) (count i : ℕ) (now whole : List B) → count ≤ i
    → now ++ map f (filter p (range_with_len i (count - i))) ≡ whole → now ≡ whole
end-range f p count i now whole past is =
    let none : count - i ≡ 0 = omega (arith, past) in
    sym (ap (λ n. now ++ map f (filter p (range_with_len i n))) none ∙ append-nil now) ∙ is

-- each of a list is made anew, one after another
pub step-map : {A : Type 0} (f : A → A) (old items : List A) (i : ℕ) (x y : A) → i < length old → items ≡ map f (take i old) ++ drop i old
    → x ≡ get_or items i x → y ≡ f x → set items i y ≡ map f (take (i + 1) old) ++ drop (i + 1) old
step-map {A = A} f old items i x y within so_far at is =
    let o : A = get_or old i x in
    let front : List A = map f (take i old) in
    let back : List A = drop (i + 1) old in
    let count : length front ≡ i = length-map (take i old) f ∙ length-take-le i old (omega (arith, within)) in
    let split : items ≡ front ++ o ∷ back = so_far ∙ ap (λ b. front ++ b) (drop-cons old i x within ∙ ap (λ n. o ∷ drop n old) (sym (add-one i))) in
    let here : x ≡ o = at ∙ ap (λ xs. get_or xs i x) split ∙ ap (λ n. get_or (front ++ o ∷ back) n x) (sym count) ∙ get_or-append_seam front o back x in
    ap (λ xs. set xs i y) split
    ∙ ap (λ n. set (front ++ o ∷ back) n y) (sym count)
    ∙ set-append_seam front o back y
    ∙ ap (λ z. front ++ z ∷ back) (is ∙ ap f here)
    ∙ sym (append_assoc front (f o ∷ []) back)
    ∙ ap (λ xs. xs ++ back) (sym (map_more f old i x within))
