-- In the millisecond that is due news arrives, or the level that was heard is lost.
use Rattle.std.proofs.Common.{◌≡◌, ◌≤◌, inl, inr, ℕ, suc, ◌+◌, Bool, true, false, ◌&&◌, nat_lt, if◌then◌else◌, List, [], ◌∷◌, length, drop, Option, None, Some, IfSome, refl, ap, sym, subst, ◌∙◌, arith}
use Rattle.sync_ql.specs.declared.levels.Level.{Level}
use Rattle.sync_ql.specs.Messages.{LineMoment, arrives, came, said, unchanged, line_until}
use Rattle.link_model.specs.declared.word.Word.{Word}
use Rattle.link_model.specs.Busy.{news_arrives, IsBusyAt}
use Rattle.link_model.specs.Kept.{Kept, loss_of, arrival_of, first_of, due_of}
use Rattle.link_model.specs.private.Kept.{IsOrdered}
use Rattle.link_model.specs.StandsFor.{IsOfPast, IsAfter}
use Rattle.link_model.specs.Whole.{next_of, seen}
use Rattle.link_model.specs.private.Whole.{IsWhole}
use Rattle.link_model.proofs.Times.{is_below}
use Rattle.link_model.proofs.Ordering.{kept_words, all-coming, ordered-later}
use Rattle.link_model.proofs.Steps.{kept, news-first, came-first}
use Rattle.link_model.proofs.Standing.{next-is, length-until, until-next, quiet-until}
use Rattle.link_model.proofs.Dues.{next_arrival, is-lost}

arrives_if : (b : Bool) (x : Option Level) (level : Level) → (if b then x else None) ≡ Some level → b ≡ true
arrives_if true x level is = refl
arrives_if false x level is = cc

arrives-came : (d : ℕ) (past : List LineMoment) (level : Level) → came d past ≡ Some level → arrives d past ≡ true
unfolding came
arrives-came d past level is = arrives_if (arrives d past) (said (drop d past)) level is

arrives_news : (d : ℕ) (now : LineMoment) (a : Option Word) (v : Word) (vs : List Word) (past : List LineMoment) → 1 ≤ d → v.sent + d ≡ length past
    → IsOrdered d (length past) (kept_words a (v ∷ vs)) → IsOfPast d (kept now a (v ∷ vs)) past → news_arrives d (unchanged past ∷ past) ≡ true
arrives_news d now a v vs past low at ordered is =
    ap (λ b. b && arrives d (unchanged past ∷ past)) (news-first d now a v vs past low at is)
    ∙ arrives-came d (unchanged past ∷ past) v.level (came-first d now a v vs past low at ordered is)

busy_arrival : (d x : ℕ) (k : Kept) (past : List LineMoment) → 1 ≤ d → IsOrdered d (length past) k.words → IsOfPast d k past → arrival_of d k.words.on_way ≡ Some x → news_arrives d (line_until (suc x) past) ≡ true
busy_arrival d x k past low ordered is at = by k.words.on_way refl at
  where
    by : (ws : List Word) → k.words.on_way ≡ ws → arrival_of d ws ≡ Some x → news_arrives d (line_until (suc x) past) ≡ true
    by [] on_way first = cc
    by (v ∷ vs) on_way first =
        let same : v.sent + d ≡ x = some_is (v.sent + d) x first in
        let later : length past ≤ x = next_arrival d (length past) x k.words.on_way ordered.coming at in
        let arrival : IfSome (arrival_of d k.words.on_way) (λ y. x ≤ y) = subst (λ o. IfSome o (λ y. x ≤ y)) (sym at) (omega arith) in
        let long = length-until x past later in
        let then_ordered = ordered-later d (length past) x k.words later (all-coming (length past) d x k.words.arrived k.words.on_way ordered arrival) ordered in
        let then_is = quiet-until d x k past later arrival ordered is in
        ap (news_arrives d) (until-next x past later)
        ∙ arrives_news d k.now k.words.arrived v vs (line_until x past) low (same ∙ sym long)
        (subst (λ n. IsOrdered d n (kept_words k.words.arrived (v ∷ vs))) (sym long) (subst (λ ws. IsOrdered d x (kept_words k.words.arrived ws)) on_way then_ordered))
        (subst (λ ws. IsOfPast d (kept k.now k.words.arrived ws) (line_until x past)) on_way then_is)
      where
        some_is : (a b : ℕ) → Some a ≡ Some b → a ≡ b
        some_is a b same = cc

pub busy-due : (d : ℕ) (k : Kept) (past : List LineMoment) → 1 ≤ d → IsOrdered d (length past) k.words → IsOfPast d k past → IfSome (due_of d (length past) k.words) (IsBusyAt d past)
busy-due d k past low ordered is = by (arrival_of d k.words.on_way) (loss_of d (length past) k.words.arrived) refl refl
  where
    lost : (y : ℕ) → loss_of d (length past) k.words.arrived ≡ Some y → IfSome (arrival_of d k.words.on_way) (λ at. suc y ≤ at) → IsBusyAt d past y
    lost y loss arrival = inr (is-lost d y k past ordered is arrival loss)

    both : (x y : ℕ) (b : Bool) → nat_lt y x ≡ b → arrival_of d k.words.on_way ≡ Some x → loss_of d (length past) k.words.arrived ≡ Some y → IfSome (if b then Some y else Some x) (IsBusyAt d past)
    both x y true less at loss = lost y loss (subst (λ o. IfSome o (λ z. suc y ≤ z)) (sym at) (let l = is_below y x less in omega (arith, l)))
    both x y false less at loss = inl (busy_arrival d x k past low ordered is at)

    by : (a l : Option ℕ) → arrival_of d k.words.on_way ≡ a → loss_of d (length past) k.words.arrived ≡ l → IfSome (first_of (arrival_of d k.words.on_way) (loss_of d (length past) k.words.arrived)) (IsBusyAt d past)
    by None None at loss = subst (λ a. IfSome (first_of a (loss_of d (length past) k.words.arrived)) (IsBusyAt d past)) (sym at) (subst (λ l. IfSome l (IsBusyAt d past)) (sym loss) tt)
    by (Some x) None at loss = subst (λ a. IfSome (first_of a (loss_of d (length past) k.words.arrived)) (IsBusyAt d past)) (sym at)
        (subst (λ l. IfSome (first_of (Some x) l) (IsBusyAt d past)) (sym loss) (inl (busy_arrival d x k past low ordered is at)))
    by None (Some y) at loss = subst (λ a. IfSome (first_of a (loss_of d (length past) k.words.arrived)) (IsBusyAt d past)) (sym at)
        (subst (λ l. IfSome l (IsBusyAt d past)) (sym loss) (lost y loss (subst (λ o. IfSome o (λ z. suc y ≤ z)) (sym at) tt)))
    by (Some x) (Some y) at loss = subst (λ a. IfSome (first_of a (loss_of d (length past) k.words.arrived)) (IsBusyAt d past)) (sym at)
        (subst (λ l. IfSome (first_of (Some x) l) (IsBusyAt d past)) (sym loss) (both x y (nat_lt y x) refl at loss))

pub busy-now : (d turn : ℕ) (k : Kept) (past : List LineMoment) → IsWhole d turn k → IsAfter (seen d turn k) past → IfSome (due_of d (next_of turn) k.words) (IsBusyAt d past)
busy-now d turn k past is stands =
    let next : next_of turn ≡ length past = next-is turn (length past) stands.turn_low stands.turn_high in
    subst (λ n. IfSome (due_of d n k.words) (IsBusyAt d past)) (sym next) (busy-due d k past is.delay_low (subst (λ n. IsOrdered d n k.words) next is.ordered) stands.kept)
