-- What is kept of what elements take.
use Rattle.std.proofs.Common.{◌≡◌, ◌≤◌, ◌<◌, ◌++◌, ℕ, suc, Bool, true, false, List, [], ◌∷◌, length, map, take, drop, Option, None, Some, refl, ap, sym, subst, ◌∙◌, arith}
use Rattle.std.specs.Prelude.{nat_eq}
use Rattle.std.specs.List.{list_any}
use Rattle.std.proofs.Math.Seq.{take-append_seam}
use Rattle.std.proofs.lemmas.List.{take_all}
use Rattle.std.proofs.lemmas.Bool.{true≢false}
use Rattle.shown_words.specs.Sameness.{is_same_taken}
use Rattle.sync_topo.specs.declared.input.InputId.{InputId}
use Rattle.sync_topo.proofs.InputPlaces.{same-is}
use Rattle.agenda.specs.Marked.{AreListed}
use Rattle.closed_walks.specs.Taking.{taken_in_list}
use Rattle.sync_net.specs.NetState.{NetState}
use Rattle.sync_sweep.specs.declared.touched.Touched.{Touched}
use Rattle.sync_sweep.specs.private.Branching.{IsBranch}
use Rattle.sync_sweep.specs.private.ShownNow.{AreAlikeBut}

pub same-taken : (one other : Option InputId) → is_same_taken one other ≡ true → one ≡ other
same-taken None None same = refl
same-taken (Some one) (Some other) same = ap Some (same-is one other same)
same-taken None (Some other) same = absurd (true≢false (sym same))
same-taken (Some one) None same = absurd (true≢false (sym same))

-- lists that have the same at each place
pub same-list : (one other : List (Option InputId)) → length one ≡ length other → ((k : ℕ) → taken_in_list one k ≡ taken_in_list other k) → one ≡ other
same-list [] [] count same = refl
same-list [] (y ∷ ys) count same = absurd (omega (arith, count))
same-list (x ∷ xs) [] count same = absurd (omega (arith, count))
same-list (x ∷ xs) (y ∷ ys) count same =
    ap (λ z. z ∷ xs) (same 0) ∙ ap (λ zs. y ∷ zs) (same-list xs ys (omega (arith, count)) (λ k. same (suc k)))

-- but where it is marked a branch is its base
pub alike-but : (base net : NetState) (touched : Touched) → IsBranch base net touched → AreListed touched.elements → AreAlikeBut touched.elements.listed net base
alike-but base net touched branch marks = λ e other within none. branch.elements_same e other within (marks.listed e ∙ none)

-- what was written at some places, and written back
pub put-back : (first last before : List (Option InputId)) (places : List ℕ) (i : ℕ) → length places ≤ i → length last ≡ length before
    → ((k : ℕ) → list_any (nat_eq k) (take i places) ≡ true → taken_in_list last k ≡ taken_in_list before k)
    → ((k : ℕ) → list_any (nat_eq k) (take i places) ≡ false → taken_in_list last k ≡ taken_in_list first k)
    → ((k : ℕ) → list_any (nat_eq k) places ≡ false → taken_in_list first k ≡ taken_in_list before k)
    → last ≡ before
put-back first last before places i all count back left others =
    same-list last before count (λ k. by k (list_any (nat_eq k) (take i places)) refl)
  where
    whole : take i places ≡ places
    whole = take_all i places all

    by : (k : ℕ) (b : Bool) → list_any (nat_eq k) (take i places) ≡ b → taken_in_list last k ≡ taken_in_list before k
    by k true is = back k is
    by k false is = left k is ∙ others k (sym (ap (list_any (nat_eq k)) whole) ∙ is)

-- a list that was written over as a whole
pub written : {A : Type 0} (n : ℕ) (now before : List A) → length now ≡ n → take n (now ++ drop (length now) before) ≡ now
written n now before count = ap (λ m. take m (now ++ drop (length now) before)) (sym count) ∙ take-append_seam now (drop (length now) before)
