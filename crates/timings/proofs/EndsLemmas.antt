-- How traces end, as plain numbers: one more that is noted, and what all of them come to.
use Rattle.std.proofs.Common.{◌≡◌, ◌≤◌, ◌<◌, ◌+◌, ℕ, zero, suc, Bool, true, false, cond, List, [], ◌∷◌, length, map, replicate, Option, None, Some, is_some, refl, ap, sym, subst, ◌∙◌, inl, inr, arith}
use Rattle.std.specs.Prelude.{slice_get, slice_index_or, slice_set, IfSome}
use Rattle.std.specs.Option.{option_map}
use Rattle.std.specs.List.{count_by, position, position_from}
use Rattle.std.proofs.lemmas.Bool.{true≢false}
use Rattle.std.proofs.lemmas.Bool.Decides.{eqb_tells}
use Rattle.std.proofs.lemmas.Option.{slice_get-map, slice_get_within, same_Some, none-some}
use Rattle.std.proofs.lemmas.List.Sums.{sum_by-cons}
use Rattle.std.proofs.lemmas.Iterator.Adapters.{position_from-zero}
use Rattle.std.proofs.lemmas.List.{get_or-set_same, get_or-set_other, get_or-replicate, length-set, length-replicate}
use Rattle.sync_topo.specs.declared.input.InputId.{InputId}
use Rattle.sync_topo.specs.declared.input.InputId.TheVariants.{Line, Source}
use Rattle.sync_topo.specs.declared.input.LineId.{LineId}
use Rattle.sync_topo.specs.Topology.{Topology}
use Rattle.sync_topo.specs.Lines.{line_input, sender_of}
use Rattle.sync_topo.specs.WellFormed.{IsWellFormed}
use Rattle.sync_topo.proofs.Lists.{position-map}
use Rattle.net_rules.specs.Settling.{IsGreatest}
use Rattle.net_rules.specs.Walks.{Taken}
use Rattle.closed_walks.specs.declared.traced.End.{End}
use Rattle.closed_walks.specs.declared.traced.End.TheVariants as end_as
use Rattle.closed_walks.specs.declared.traced.Ending.{Ending}
use Rattle.closed_walks.specs.declared.following.Next.{Next}
use Rattle.closed_walks.specs.declared.following.Next.TheVariants.{On, Over}
use Rattle.closed_walks.specs.Taking.{taken_in_list, AreTaken}
use Rattle.closed_walks.specs.Traces.{EndsSo, AreFound}
use Rattle.closed_walks.specs.Following.{next_of, is_met}
use Rattle.closed_walks.specs.private.Known.{known_at, IsKnown}
use Rattle.closed_walks.proofs.KnownLaws.{few-ending, more-known, ends-longer, none-are, all-found, over-here, over-none, known-next, each-known}
use Rattle.timings.specs.declared.counted.Timing.{Timing}
use Rattle.timings.specs.Timing.{has_ended, is_lost, IsLengthIn, IsTiming}
use Rattle.timings.specs.private.Ends.{lines_at, IsNoted, AreEndsNoted, IsNumberIn}

-- the same is noted
noted-so : (o p : Option Ending) (b c : Bool) (n m : ℕ) (l k : Bool) → o ≡ p → b ≡ c → n ≡ m → l ≡ k → IsNoted o b n l → IsNoted p c m k
noted-so o p b c n m l k endings known lines lost is =
    subst (λ p. IsNoted p c m k) endings (subst (λ c. IsNoted o c m k) known (subst (λ m. IsNoted o b m k) lines (subst (λ k. IsNoted o b n k) lost is)))

-- where nothing is known nothing is noted
pub none-noted : (plan : Topology) (taken : Taken) (known : List Bool) (lines : List ℕ) (lost : List Bool) → known ≡ replicate (length plan.elements) false
    → length lines ≡ length plan.elements → length lost ≡ length plan.elements → AreEndsNoted plan taken known lines lost
none-noted plan taken known lines lost none many_lines many_lost = record {
  endings = replicate (length plan.elements) None;
  are = none-are plan taken (length plan.elements) refl;
  many_known = ap length none ∙ length-replicate (length plan.elements) false;
  many_lines = many_lines;
  many_lost = many_lost;
  each = λ k within. subst (λ o. IsNoted o (is_met known k) (lines_at lines k) (is_met lost k)) (sym (get_or-replicate (length plan.elements) k None None within))
      (ap (λ list. is_met list k) none ∙ get_or-replicate (length plan.elements) k false false within);
}

-- what is noted as known is known, and as it is noted; and what isn't noted isn't
pub record IsNotedSo (plan : Topology) (taken : Taken) (o : Option Ending) (element lines : ℕ) (lost : Bool) : Type 0 where
  pub ending : Ending
  pub is : o ≡ Some ending
  pub ended : has_ended ending.end ≡ true
  pub lines_are : lines ≡ ending.lines
  pub lost_is : lost ≡ is_lost ending

noted-known : (plan : Topology) (taken : Taken) (o : Option Ending) (element : ℕ) (known : Bool) (lines : ℕ) (lost : Bool) → IsNoted o known lines lost → known ≡ true
    → IsNotedSo plan taken o element lines lost
noted-known plan taken None element known lines lost is met = absurd (true≢false (sym met ∙ is))
noted-known plan taken (Some ending) element known lines lost is met =
    record { ending = ending; is = refl; ended = is.1; lines_are = is.2; lost_is = is.3 }

noted-unknown : (o : Option Ending) (known : Bool) (lines : ℕ) (lost : Bool) → IsNoted o known lines lost → known ≡ false → o ≡ None
noted-unknown None known lines lost is met = refl
noted-unknown (Some ending) known lines lost is met = absurd (true≢false (sym is.0 ∙ met))

-- what was written is noted
pub noted-by : (plan : Topology) (taken : Taken) (known known_new : List Bool) (lines lines_new : List ℕ) (lost lost_new : List Bool) → known_new ≡ known → lines_new ≡ lines → lost_new ≡ lost
    → AreEndsNoted plan taken known lines lost → AreEndsNoted plan taken known_new lines_new lost_new
noted-by plan taken known known_new lines lines_new lost lost_new one two three is =
    subst (λ k. AreEndsNoted plan taken k lines_new lost_new) (sym one) (subst (λ l. AreEndsNoted plan taken known l lost_new) (sym two) (subst (λ l. AreEndsNoted plan taken known lines l) (sym three) is))

-- the ending of one element more
more-noted : (plan : Topology) (taken : Taken) (known : List Bool) (lines : List ℕ) (lost : List Bool) (element : ℕ) (ending : Ending) → element < length plan.elements
    → (noted : AreEndsNoted plan taken known lines lost) → EndsSo plan taken element ending → has_ended ending.end ≡ true
    → ((line : ℕ) → taken element ≡ Some (line_input line) → IsKnown noted.endings (sender_of plan line))
    → AreEndsNoted plan taken (slice_set known element true) (slice_set lines element ending.lines) (slice_set lost element (is_lost ending))
more-noted plan taken known lines lost element ending within noted ends ended on =
    let inside : element < length noted.endings = let count = noted.are.count in omega (arith, within, count) in
    record {
      endings = slice_set noted.endings element (Some ending);
      are = (more-known plan taken noted.endings element ending inside noted.are ends on).known;
      many_known = length-set known element true ∙ noted.many_known;
      many_lines = length-set lines element ending.lines ∙ noted.many_lines;
      many_lost = length-set lost element (is_lost ending) ∙ noted.many_lost;
      each = λ k at. elim (eqb_tells k element) [
        | inl same ↦ subst (λ j. IsNoted (known_at (slice_set noted.endings element (Some ending)) j) (is_met (slice_set known element true) j)
            (lines_at (slice_set lines element ending.lines) j) (is_met (slice_set lost element (is_lost ending)) j)) (sym same.1)
            (noted-so (Some ending) (known_at (slice_set noted.endings element (Some ending)) element) true (is_met (slice_set known element true) element)
            ending.lines (lines_at (slice_set lines element ending.lines) element) (is_lost ending) (is_met (slice_set lost element (is_lost ending)) element)
            (sym (get_or-set_same noted.endings element (Some ending) None inside))
            (sym (get_or-set_same known element true false (let count = noted.many_known in omega (arith, within, count))))
            (sym (get_or-set_same lines element ending.lines 0 (let count = noted.many_lines in omega (arith, within, count))))
            (sym (get_or-set_same lost element (is_lost ending) false (let count = noted.many_lost in omega (arith, within, count))))
            (refl, ended, refl, refl))
        | inr other ↦ noted-so (known_at noted.endings k) (known_at (slice_set noted.endings element (Some ending)) k) (is_met known k) (is_met (slice_set known element true) k)
            (lines_at lines k) (lines_at (slice_set lines element ending.lines) k) (is_met lost k) (is_met (slice_set lost element (is_lost ending)) k)
            (sym (get_or-set_other noted.endings element k (Some ending) None other.1))
            (sym (get_or-set_other known element k true false other.1))
            (sym (get_or-set_other lines element k ending.lines 0 other.1))
            (sym (get_or-set_other lost element k (is_lost ending) false other.1))
            (noted.each k at)
      ];
    }

over-same : (one other : End) → Over one ≡ Over other → one ≡ other
over-same one other same = cc

on-apart : (line : LineId) (end : End) → On line ≡ Over end → ⊥
on-apart line end same = cc

-- what comes after an element that takes no line isn't a loop
over-ended : (o : Option InputId) (element : ℕ) (end : End) → next_of o element ≡ Over end → has_ended end ≡ true
over-ended None element end over = subst (λ e. has_ended e ≡ true) (over-same (end_as.OwnClock element) end over) refl
over-ended (Some (Source source)) element end over = subst (λ e. has_ended e ≡ true) (over-same (end_as.Source source) end over) refl
over-ended (Some (Line line)) element end over = absurd (on-apart line end over)

-- that of an element that takes no line
pub over-noted : (plan : Topology) (taken : Taken) (known : List Bool) (lines : List ℕ) (lost : List Bool) (element : ℕ) (end : End) (next : Next) → element < length plan.elements
    → AreEndsNoted plan taken known lines lost → next ≡ next_of (taken element) element → next ≡ Over end
    → AreEndsNoted plan taken (slice_set known element true) (slice_set lines element 0) (slice_set lost element (is_lost (record { lines = 0; end = end })))
over-noted plan taken known lines lost element end next within noted is over =
    more-noted plan taken known lines lost element (record { lines = 0; end = end }) within noted
    (over-here plan taken element end next is over) (over-ended (taken element) element end (sym is ∙ over))
    (λ line takes. absurd (over-none taken element line end next is over takes))

-- that of an element that takes a line, where the ending of its sender is known
pub line-noted : (plan : Topology) (taken : Taken) (known : List Bool) (lines : List ℕ) (lost : List Bool) (element line from : ℕ) → element < length plan.elements
    → AreEndsNoted plan taken known lines lost → taken element ≡ Some (line_input line) → from ≡ sender_of plan line → from < length plan.elements
    → is_met known element ≡ false → is_met known from ≡ true
    → AreEndsNoted plan taken (slice_set known element true) (slice_set lines element (lines_at lines from + 1)) (slice_set lost element (is_met lost from))
line-noted plan taken known lines lost element line from within noted takes to inside none is =
    let before = noted-known plan taken (known_at noted.endings from) from (is_met known from) (lines_at lines from) (is_met lost from) (noted.each from inside) is in
    let there : known_at noted.endings (sender_of plan line) ≡ Some before.ending = ap (known_at noted.endings) (sym to) ∙ before.is in
    let nothing : known_at noted.endings element ≡ None = noted-unknown (known_at noted.endings element) (is_met known element) (lines_at lines element) (is_met lost element) (noted.each element within) none in
    subst (λ l. AreEndsNoted plan taken (slice_set known element true) (slice_set lines element (lines_at lines from + 1)) (slice_set lost element l)) (sym before.lost_is)
    (subst (λ n. AreEndsNoted plan taken (slice_set known element true) (slice_set lines element (n + 1)) (slice_set lost element (is_lost before.ending))) (sym before.lines_are)
    (more-noted plan taken known lines lost element (record { lines = before.ending.lines + 1; end = before.ending.end }) within noted
    (ends-longer plan taken noted.endings element line before.ending noted.are nothing takes there) before.ended
    (λ other takes_other. known-next plan taken noted.endings element line other takes (ap is_some there) takes_other)))

-- what is noted is of few lines
pub few-noted : (plan : Topology) (inputs : List (Option InputId)) (known : List Bool) (lines : List ℕ) (lost : List Bool) (element : ℕ) → IsWellFormed plan → AreTaken plan inputs
    → AreEndsNoted plan (taken_in_list inputs) known lines lost → element < length plan.elements → is_met known element ≡ true → lines_at lines element ≤ length plan.elements
few-noted plan inputs known lines lost element well are noted within is =
    let so = noted-known plan (taken_in_list inputs) (known_at noted.endings element) element (is_met known element) (lines_at lines element) (is_met lost element) (noted.each element within) is in
    let ends : EndsSo plan (taken_in_list inputs) element so.ending = subst (λ (o : Option Ending). IfSome o (EndsSo plan (taken_in_list inputs) element)) so.is (noted.are.holds element) in
    let few = few-ending plan inputs element so.ending well are within ends in
    let same = so.lines_are in
    omega (arith, few, same)

-- a list of what a function makes of another
mapped : {A B : Type 0} (f : A → B) (other : B) (xs : List A) (ys : List B) → length ys ≡ length xs
    → ((k : ℕ) (x : A) → slice_get xs k ≡ Some x → slice_index_or ys k other ≡ f x) → ys ≡ map f xs
mapped f other [] [] count each = refl
mapped f other [] (y ∷ ys) count each = absurd (omega (arith, count))
mapped f other (x ∷ xs) [] count each = absurd (omega (arith, count))
mapped f other (x ∷ xs) (y ∷ ys) count each =
    ap (λ z. z ∷ ys) (each 0 x refl) ∙ ap (λ zs. f x ∷ zs) (mapped f other xs ys (omega (arith, count)) (λ k z at. each (suc k) z at))

count-map : {A : Type 0} (f : A → Bool) (xs : List A) → count_by (λ (one : Bool). one) (map f xs) ≡ count_by f xs
count-map f [] = refl
count-map f (x ∷ xs) =
    sum_by-cons (λ (one : Bool). cond one 1 0) (f x) (map f xs) ∙ ap (λ n. cond (f x) 1 0 + n) (count-map f xs) ∙ sym (sum_by-cons (λ y. cond (f y) 1 0) x xs)

-- the first that is set, and that there is none
none-from : (i : ℕ) (marks : List Bool) → ((k : ℕ) → k < length marks → is_met marks k ≡ false) → position_from (λ (one : Bool). one) i marks ≡ None
none-from i [] none = refl
none-from i (mark ∷ marks) none =
    ap (λ b. cond b (Some i) (position_from (λ (one : Bool). one) (i + 1) marks)) (none 0 (omega arith)) ∙ none-from (i + 1) marks (λ k within. none (suc k) (omega (arith, within)))

first-from : (i k : ℕ) (marks : List Bool) → k < length marks → is_met marks k ≡ true → ((j : ℕ) → j < k → is_met marks j ≡ false)
    → position_from (λ (one : Bool). one) i marks ≡ Some (i + k)
first-from i k [] within is none = absurd (omega (arith, within))
first-from i zero (mark ∷ marks) within is none = ap (λ b. cond b (Some i) (position_from (λ (one : Bool). one) (i + 1) marks)) is ∙ ap Some (omega arith)
first-from i (suc k) (mark ∷ marks) within is none =
    ap (λ b. cond b (Some i) (position_from (λ (one : Bool). one) (i + 1) marks)) (none 0 (omega arith))
    ∙ first-from (i + 1) k marks (omega (arith, within)) is (λ j before. none (suc j) (omega (arith, before)))
    ∙ ap Some (omega arith)

pub first-is : (marks : List Bool) (k : ℕ) → k < length marks → is_met marks k ≡ true → ((j : ℕ) → j < k → is_met marks j ≡ false)
    → Some k ≡ position (λ (one : Bool). one) marks
first-is marks k within is none = sym (position_from-zero (λ (one : Bool). one) marks ∙ first-from 0 k marks within is none ∙ ap Some (omega arith))

pub first-none : (marks : List Bool) → ((k : ℕ) → k < length marks → is_met marks k ≡ false) → None ≡ position (λ (one : Bool). one) marks
first-none marks none = sym (position_from-zero (λ (one : Bool). one) marks ∙ none-from 0 marks none)

pub count-none : (marks : List Bool) → count_by (λ (one : Bool). one) marks ≡ 0 → (k : ℕ) → k < length marks → is_met marks k ≡ false
count-none [] none k within = absurd (omega (arith, within))
count-none (true ∷ marks) none k within = absurd (omega (arith, none, sum_by-cons (λ (one : Bool). cond one 1 0) true marks))
count-none (false ∷ marks) none zero within = refl
count-none (false ∷ marks) none (suc k) within =
    count-none marks (let more = sum_by-cons (λ (one : Bool). cond one 1 0) false marks in omega (arith, more, none)) k (omega (arith, within))

-- what all of them come to
module _ (plan : Topology) (taken : Taken) (known : List Bool) (lines : List ℕ) (lost : List Bool) (noted : AreEndsNoted plan taken known lines lost)
    (all : (k : ℕ) → k < length known → is_met known k ≡ true) where
  so : (k : ℕ) → k < length plan.elements → IsNotedSo plan taken (known_at noted.endings k) k (lines_at lines k) (is_met lost k)
  so k within =
      noted-known plan taken (known_at noted.endings k) k (is_met known k) (lines_at lines k) (is_met lost k) (noted.each k within)
      (all k (let count = noted.many_known in omega (arith, within, count)))

  pub noted-found : AreFound plan taken noted.endings
  noted-found = all-found plan taken noted.endings noted.are (λ k within. ap is_some (so k within).is)

  there : (k : ℕ) (ending : Ending) → slice_get noted-found.endings k ≡ Some ending → (k < length plan.elements) × (known_at noted.endings k ≡ Some ending)
  there k ending at = (
    let inside = slice_get_within noted-found.endings k ending at in
        let count = noted-found.are.count in omega (arith, inside, count),
    each-known noted-found.endings noted.endings k ending noted-found.is at,
  )

  lost-are : lost ≡ map is_lost noted-found.endings
  lost-are = mapped is_lost false noted-found.endings lost (noted.many_lost ∙ sym noted-found.are.count) (λ k ending at.
      let here = there k ending at in
      let is = so k here.0 in
      is.lost_is ∙ ap is_lost (same_Some is.ending ending (sym is.is ∙ here.1)))

  lines-are : lines ≡ map (λ (ending : Ending). ending.lines) noted-found.endings
  lines-are = mapped (λ (ending : Ending). ending.lines) 0 noted-found.endings lines (noted.many_lines ∙ sym noted-found.are.count) (λ k ending at.
      let here = there k ending at in
      let is = so k here.0 in
      is.lines_are ∙ ap (λ (e : Ending). e.lines) (same_Some is.ending ending (sym is.is ∙ here.1)))

  of-ending : (k n : ℕ) → slice_get (map (λ (ending : Ending). ending.lines) noted-found.endings) k ≡ Some n → IsLengthIn noted-found.endings n
  of-ending k n at = by (slice_get noted-found.endings k) refl
    where
      by : (o : Option Ending) → slice_get noted-found.endings k ≡ o → IsLengthIn noted-found.endings n
      by None none = absurd (none-some n (sym (slice_get-map (λ (ending : Ending). ending.lines) noted-found.endings k ∙ ap (option_map (λ (ending : Ending). ending.lines)) none) ∙ at))
      by (Some ending) one =
          let here = there k ending one in
          let is = so k here.0 in
          record {
            element = k;
            ending = ending;
            there = one;
            ended = subst (λ (e : Ending). has_ended e.end ≡ true) (same_Some is.ending ending (sym is.is ∙ here.1)) is.ended;
            is = same_Some n ending.lines (sym at ∙ slice_get-map (λ (e : Ending). e.lines) noted-found.endings k ∙ ap (option_map (λ (e : Ending). e.lines)) one);
          }

  longest-are : (longest : ℕ) → IsGreatest (IsNumberIn lines) longest → IsGreatest (IsLengthIn noted-found.endings) longest
  longest-are longest is = record {
    most = λ n one.
        let lines_there : slice_get (map (λ (ending : Ending). ending.lines) noted-found.endings) one.element ≡ Some one.ending.lines =
        slice_get-map (λ (ending : Ending). ending.lines) noted-found.endings one.element ∙ ap (option_map (λ (ending : Ending). ending.lines)) one.there in
        subst (λ m. m ≤ longest) (sym one.is) (is.most one.ending.lines (record { place = one.element; there = subst (λ list. slice_get list one.element ≡ Some one.ending.lines) (sym lines-are) lines_there }));
    reached = elim is.reached [
      | inl none ↦ inl none
      | inr one ↦ inr (of-ending one.place longest (subst (λ list. slice_get list one.place ≡ Some longest) lines-are one.there))
    ];
  }

  pub noted-timing : (timing : Timing) → timing.lost ≡ count_by (λ (one : Bool). one) lost → timing.first ≡ position (λ (one : Bool). one) lost
      → IsGreatest (IsNumberIn lines) timing.longest → IsTiming plan taken timing
  noted-timing timing count first longest = record {
    endings = noted-found.endings;
    are_endings = noted-found.are;
    counted = record {
      lost = count ∙ ap (count_by (λ (one : Bool). one)) lost-are ∙ count-map is_lost noted-found.endings;
      first = first ∙ ap (position (λ (one : Bool). one)) lost-are ∙ position-map (λ (one : Bool). one) is_lost noted-found.endings;
      longest = longest-are timing.longest longest;
    };
  }
