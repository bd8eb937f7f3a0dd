-- Texts that are put one row after another.
use Rattle.std.proofs.Common.{◌≡◌, ℕ, ◌+◌, ◌<◌, List, [], ◌∷◌, ◌++◌, length, map, take, get_or, sym, ap, ◌∙◌, append_assoc, arith}
use Rattle.std.specs.List.{concat, range_with_len}
use Rattle.std.proofs.lemmas.List.{append-nil, map_more}
use Rattle.std.proofs.lemmas.List.FromFn.{map-range_with_len_more}
use Rattle.std.proofs.lemmas.List.Folds.{concat-append}

-- one row more
pub one-row : {A : Type 0} (f : A → List ℕ) (xs : List A) (i : ℕ) (other : A) (old before row : List ℕ) → i < length xs
    → before ≡ old ++ concat (map f (take i xs)) → row ≡ f (get_or xs i other) → before ++ row ≡ old ++ concat (map f (take (i + 1) xs))
one-row f xs i other old before row within so_far is =
    let rows : List ℕ = concat (map f (take i xs)) in
    ap (λ front. front ++ row) so_far ∙ append_assoc old rows row ∙ ap (λ r. old ++ (rows ++ r)) (is ∙ sym (append-nil (f (get_or xs i other))))
    ∙ ap (λ r. old ++ r) (sym (ap concat (map_more f xs i other within) ∙ concat-append (map f (take i xs)) (f (get_or xs i other) ∷ [])))

-- the rows of one number more
pub one-number : (f : ℕ → List ℕ) (n : ℕ) (old before row : List ℕ) → before ≡ old ++ concat (map f (range_with_len 0 n))
    → row ≡ f n → before ++ row ≡ old ++ concat (map f (range_with_len 0 (n + 1)))
one-number f n old before row so_far is =
    let rows : List ℕ = concat (map f (range_with_len 0 n)) in
    ap (λ front. front ++ row) so_far ∙ append_assoc old rows row ∙ ap (λ r. old ++ (rows ++ r)) (is ∙ sym (append-nil (f n)))
    ∙ ap (λ r. old ++ r) (sym (ap concat (map-range_with_len_more f 0 n n (omega arith)) ∙ concat-append (map f (range_with_len 0 n)) (f n ∷ [])))
