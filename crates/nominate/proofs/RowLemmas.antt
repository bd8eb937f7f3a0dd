-- One more row.
use Rattle.std.proofs.Common.{◌≡◌, ℕ, zero, suc, ◌+◌, ◌*◌, List, [], ◌∷◌, ◌++◌, map, drop, Some, sym, ap, ◌∙◌, slice_get, arith, append_assoc}
use Rattle.std.proofs.lemmas.Option.{none-some, same_Some}
use Rattle.sync_topo.specs.declared.link.Link.{Link}
use Rattle.std.specs.Prelude.{Result, Ok, Err}
use Rattle.nominate.specs.Nomination.{with_priorities}

drop-at : {A : Type 0} (items : List A) (i : ℕ) (item : A) → slice_get items i ≡ Some item → drop i items ≡ item ∷ drop (i + 1) items
drop-at [] i item at = absurd (none-some item at)
drop-at (x ∷ items) zero item at = ap (λ y. y ∷ items) (same_Some x item at)
drop-at (x ∷ items) (suc i) item at =
    let more : suc i + 1 ≡ suc (i + 1) = omega arith in
    rw more (drop-at items i item at)

pub rows-more : {A B : Type 0} (make : A → B) (items : List A) (i : ℕ) (item : A) (rows whole : List B) → slice_get items i ≡ Some item
    → rows ++ map make (drop i items) ≡ whole → (rows ++ make item ∷ []) ++ map make (drop (i + 1) items) ≡ whole
rows-more make items i item rows whole at is =
    append_assoc rows (make item ∷ []) (map make (drop (i + 1) items))
    ∙ sym (ap (λ rest. rows ++ map make rest) (drop-at items i item at))
    ∙ is

pub links-more : {B : Type 0} (make : Link → B) (f : ℕ → ℕ) (links : List Link) (i : ℕ) (link : Link) (rows whole : List B) → slice_get links i ≡ Some link
    → rows ++ map make (with_priorities f i (drop i links)) ≡ whole
    → (rows ++ make (record link { priority_a = f (2 * i + 1); priority_b = f (2 * i) }) ∷ []) ++ map make (with_priorities f (i + 1) (drop (i + 1) links)) ≡ whole
links-more make f links i link rows whole at is =
    append_assoc rows (make (record link { priority_a = f (2 * i + 1); priority_b = f (2 * i) }) ∷ []) (map make (with_priorities f (i + 1) (drop (i + 1) links)))
    ∙ sym (ap (λ rest. rows ++ map make (with_priorities f i rest)) (drop-at links i link at))
    ∙ is

-- two answers of one call are one
pub same_answer : {A E : Type 0} (answer : Result A E) (x y : A) → answer ≡ Ok x → answer ≡ Ok y → y ≡ x
same_answer answer x y is also = cc

-- and a call doesn't answer with a value and with a refusal
pub not_both : {A E : Type 0} (answer : Result A E) (x : A) (e : E) → answer ≡ Ok x → answer ≡ Err e → ⊥
not_both (Ok y) x e is also = absurd (cc also)
not_both (Err d) x e is also = absurd (cc is)
