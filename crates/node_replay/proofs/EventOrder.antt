-- The events of rows, by millisecond and in order.
use Rattle.std.proofs.Common.{◌≡◌, ◌≤◌, ◌<◌, ◌+◌, ℕ, zero, suc, Bool, true, false, List, [], ◌∷◌, ◌++◌, length, refl, ap, sym, subst, ◌∙◌, arith}
use Rattle.std.specs.Prelude.{nat_eq, if◌then◌else◌, slice_index_or}
use Rattle.std.proofs.lemmas.Bool.{ne_eqb}
use Rattle.std.proofs.lemmas.List.Elements.{filter-append}
use Rattle.sync_text.specs.Each.{Each}
use Rattle.sync_topo.specs.declared.event.Event.{Event}
use Rattle.sync_topo.specs.Events.{IsInOrder}
use Rattle.net_rules.specs.Signals.{events_at}
use Rattle.node_file.specs.declared.row.NodeWord.{NodeWord}
use Rattle.node_file.specs.declared.row.NodeWord.TheVariants.{Frame, Happens}
use Rattle.node_file.specs.declared.row.NodeRow.{NodeRow}
use Rattle.node_file.specs.NodeRow.{events_in, rows_at}
use Rattle.node_replay.specs.Rows.{AreInOrder}

-- the events at a millisecond are those of its rows
pub events-at : (t : ℕ) (rows : List NodeRow) → events_at t (events_in rows) ≡ events_in (rows_at t rows)
events-at t [] = refl
events-at t (row ∷ rows) = one row.at row.word (nat_eq row.at t) refl (events-at t rows)
  where
    one : (at : ℕ) (word : NodeWord) (b : Bool) → nat_eq at t ≡ b → events_at t (events_in rows) ≡ events_in (rows_at t rows)
        → events_at t (events_in (record { at = at; word = word } ∷ rows)) ≡ events_in (rows_at t (record { at = at; word = word } ∷ rows))
    one at (Frame line level) true is rest =
        rest ∙ sym (ap (λ b. events_in (if b then record { at = at; word = Frame line level } ∷ rows_at t rows else rows_at t rows)) is)
    one at (Frame line level) false is rest =
        rest ∙ sym (ap (λ b. events_in (if b then record { at = at; word = Frame line level } ∷ rows_at t rows else rows_at t rows)) is)
    one at (Happens what) true is rest =
        ap (λ b. if b then record { at = at; what = what } ∷ events_at t (events_in rows) else events_at t (events_in rows)) is
        ∙ ap (λ es. record { at = at; what = what } ∷ es) rest
        ∙ sym (ap (λ b. events_in (if b then record { at = at; word = Happens what } ∷ rows_at t rows else rows_at t rows)) is)
    one at (Happens what) false is rest =
        ap (λ b. if b then record { at = at; what = what } ∷ events_at t (events_in rows) else events_at t (events_in rows)) is
        ∙ rest
        ∙ sym (ap (λ b. events_in (if b then record { at = at; word = Happens what } ∷ rows_at t rows else rows_at t rows)) is)

events-late : (bound : ℕ) (rows : List NodeRow) → Each (λ row. bound ≤ row.at) rows → Each (λ event. bound ≤ event.at) (events_in rows)
events-late bound [] each = tt
events-late bound (row ∷ rows) each = one row.at row.word each.0 (events-late bound rows each.1)
  where
    one : (at : ℕ) (word : NodeWord) → bound ≤ at → Each (λ event. bound ≤ event.at) (events_in rows)
        → Each (λ event. bound ≤ event.at) (events_in (record { at = at; word = word } ∷ rows))
    one at (Frame line level) here rest = rest
    one at (Happens what) here rest = (here, rest)

cons-order : (event : Event) (events : List Event) → Each (λ later. event.at ≤ later.at) events → IsInOrder events → IsInOrder (event ∷ events)
cons-order event [] first rest = λ k d within. absurd (omega (arith, within))
cons-order event (next ∷ events) first rest = by
  where
    by : (k : ℕ) (d : Event) → k + 1 < length (event ∷ next ∷ events)
        → (slice_index_or (event ∷ next ∷ events) k d).at ≤ (slice_index_or (event ∷ next ∷ events) (k + 1) d).at
    by zero d within = first.0
    by (suc k) d within =
        let more : suc k + 1 ≡ suc (k + 1) = omega arith in
        subst (λ m. (slice_index_or (next ∷ events) k d).at ≤ (slice_index_or (event ∷ next ∷ events) m d).at) (sym more)
        (rest k d (omega (arith, within)))

-- and stand in order where the rows do
pub events-in-order : (rows : List NodeRow) → AreInOrder rows → IsInOrder (events_in rows)
events-in-order [] ordered = λ k d within. absurd (omega (arith, within))
events-in-order (row ∷ rows) ordered = one row.at row.word (events-late row.at rows ordered.0) (events-in-order rows ordered.1)
  where
    one : (at : ℕ) (word : NodeWord) → Each (λ event. at ≤ event.at) (events_in rows) → IsInOrder (events_in rows)
        → IsInOrder (events_in (record { at = at; word = word } ∷ rows))
    one at (Frame line level) late rest = rest
    one at (Happens what) late rest = cons-order (record { at = at; what = what }) (events_in rows) late rest

-- no row stands at an earlier millisecond
pub none-at : (t : ℕ) (rows : List NodeRow) → Each (λ row. t < row.at) rows → rows_at t rows ≡ []
none-at t [] late = refl
none-at t (row ∷ rows) late =
    ap (λ b. if b then row ∷ rows_at t rows else rows_at t rows) (ne_eqb row.at t (λ same. let here = late.0 in omega (arith, here, same))) ∙ none-at t rows late.1

pub rows-at-append : (t : ℕ) (rows more : List NodeRow) → rows_at t (rows ++ more) ≡ rows_at t rows ++ rows_at t more
rows-at-append t rows more = filter-append (λ row. nat_eq row.at t) rows more
