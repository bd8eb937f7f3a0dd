-- What is gathered from a list of events is gathered from what one element is told of them.
use Rattle.std.proofs.Common.{◌≡◌, ℕ, Bool, true, false, List, [], ◌∷◌, ◌++◌, filter, reverse, refl, ap, sym, ◌∙◌, inl, inr}
use Rattle.std.specs.Prelude.{if◌then◌else◌}
use Rattle.std.proofs.lemmas.Bool.{true≢false}
use Rattle.sync_topo.specs.declared.event.Part.TheVariants as part
use Rattle.sync_topo.specs.declared.event.What.{What}
use Rattle.sync_topo.specs.declared.event.What.TheVariants.{Down, Up}
use Rattle.sync_topo.specs.declared.event.Event.{Event}
use Rattle.node_rules.specs.FromNetwork.{even_line, odd_line, given_as, on_lines, AreGivenAs}

-- a step over what happens is the same at both lines of a link, in either order, as at the link
pub record AreOneLink {R : Type 0} (step : What → R → R) : Type 0 where
  pub down : (link : ℕ) (r : R) → step (Down (even_line link)) (step (Down (odd_line link)) r) ≡ step (Down (part.Link link)) r
  pub down_turned : (link : ℕ) (r : R) → step (Down (odd_line link)) (step (Down (even_line link)) r) ≡ step (Down (part.Link link)) r
  pub up : (link : ℕ) (r : R) → step (Up (even_line link)) (step (Up (odd_line link)) r) ≡ step (Up (part.Link link)) r
  pub up_turned : (link : ℕ) (r : R) → step (Up (odd_line link)) (step (Up (even_line link)) r) ≡ step (Up (part.Link link)) r

-- the events of some times
abbrev pub in_times : (ℕ → Bool) → List Event → List Event
in_times p events = filter (λ event. p event.at) events

module _ {R : Type 0} (gather : List Event → R) (step : What → R → R) (steps : (event : Event) (events : List Event) → gather (event ∷ events) ≡ step event.what (gather events)) where
  -- what is not told may be left out, where a step over it gives nothing
  pub told-gathered : (told p : Event → Bool) → ((event : Event) (r : R) → told event ≡ false → step event.what r ≡ r)
      → (events : List Event) → gather (filter p (filter told events)) ≡ gather (filter p events)
  told-gathered told p quiet [] = refl
  told-gathered told p quiet (event ∷ events) = of (told event) (p event) refl refl (told-gathered told p quiet events)
    where
      of : (is_told passes : Bool) → told event ≡ is_told → p event ≡ passes → gather (filter p (filter told events)) ≡ gather (filter p events)
          → gather (filter p (if is_told then event ∷ filter told events else filter told events)) ≡ gather (if passes then event ∷ filter p events else filter p events)
      of true true is at rest = rw at (steps event (filter p (filter told events)) ∙ ap (step event.what) rest ∙ sym (steps event (filter p events)))
      of true false is at rest = rw at rest
      of false true is at rest = rest ∙ sym (quiet event (gather (filter p events)) is) ∙ sym (steps event (filter p events))
      of false false is at rest = rest

  -- one event, given on the lines of its link
  one : (p : ℕ → Bool) (event : Event) (rest : List Event)
      → gather (in_times p (event ∷ rest)) ≡ (if p event.at then step event.what (gather (in_times p rest)) else gather (in_times p rest))
  one p event rest = of (p event.at)
    where
      of : (b : Bool) → gather (if b then event ∷ in_times p rest else in_times p rest) ≡ (if b then step event.what (gather (in_times p rest)) else gather (in_times p rest))
      of true = steps event (in_times p rest)
      of false = refl

  two : (p : ℕ → Bool) (at : ℕ) (first second whole : What) (rest : List Event) → ((r : R) → step first (step second r) ≡ step whole r)
      → gather (in_times p (record { at = at; what = first } ∷ record { at = at; what = second } ∷ rest))
      ≡ (if p at then step whole (gather (in_times p rest)) else gather (in_times p rest))
  two p at first second whole rest alike = of (p at)
    where
      of : (b : Bool)
          → gather (if b then record { at = at; what = first } ∷ (if b then record { at = at; what = second } ∷ in_times p rest else in_times p rest) else (if b then record { at = at; what = second } ∷ in_times p rest else in_times p rest))
          ≡ (if b then step whole (gather (in_times p rest)) else gather (in_times p rest))
      of true =
          steps (record { at = at; what = first }) (record { at = at; what = second } ∷ in_times p rest)
          ∙ ap (step first) (steps (record { at = at; what = second }) (in_times p rest))
          ∙ alike (gather (in_times p rest))
      of false = refl

  given-once : AreOneLink step → (p : ℕ → Bool) (at : ℕ) (what : What) (rest : List Event)
      → gather (in_times p (given_as (record { at = at; what = what }) ++ rest)) ≡ (if p at then step what (gather (in_times p rest)) else gather (in_times p rest))
  given-once link p at (Down (part.Link k)) rest = two p at (Down (even_line k)) (Down (odd_line k)) (Down (part.Link k)) rest (link.down k)
  given-once link p at (Up (part.Link k)) rest = two p at (Up (even_line k)) (Up (odd_line k)) (Up (part.Link k)) rest (link.up k)
  given-once link p at what rest = one p (record { at = at; what = what }) rest

  given-turned : AreOneLink step → (p : ℕ → Bool) (at : ℕ) (what : What) (rest : List Event)
      → gather (in_times p (reverse (given_as (record { at = at; what = what })) ++ rest)) ≡ (if p at then step what (gather (in_times p rest)) else gather (in_times p rest))
  given-turned link p at (Down (part.Link k)) rest = two p at (Down (odd_line k)) (Down (even_line k)) (Down (part.Link k)) rest (link.down_turned k)
  given-turned link p at (Up (part.Link k)) rest = two p at (Up (odd_line k)) (Up (even_line k)) (Up (part.Link k)) rest (link.up_turned k)
  given-turned link p at what rest = one p (record { at = at; what = what }) rest

  -- events on links may be given on their lines
  pub given-gathered : AreOneLink step → (p : ℕ → Bool) (events given : List Event) → AreGivenAs events given
      → gather (in_times p given) ≡ gather (in_times p events)
  given-gathered link p [] given are = ap (λ some. gather (in_times p some)) are
  given-gathered link p (event ∷ events) given are =
      elim are.1 [
        | inl same ↦ ap (λ some. gather (in_times p some)) same ∙ given-once link p event.at event.what are.0
        | inr turned ↦ ap (λ some. gather (in_times p some)) turned ∙ given-turned link p event.at event.what are.0
      ]
      ∙ ap (λ r. if p event.at then step event.what r else r) (given-gathered link p events are.0 are.2)
      ∙ sym (one p event events)

-- a test that another follows from may be made alone
pub within-kept : (p whole : Event → Bool) → ((event : Event) → p event ≡ true → whole event ≡ true)
    → (events : List Event) → filter p (filter whole events) ≡ filter p events
within-kept p whole follows [] = refl
within-kept p whole follows (event ∷ events) = of (whole event) (p event) refl refl (within-kept p whole follows events)
  where
    of : (is_whole passes : Bool) → whole event ≡ is_whole → p event ≡ passes → filter p (filter whole events) ≡ filter p events
        → filter p (if is_whole then event ∷ filter whole events else filter whole events) ≡ (if passes then event ∷ filter p events else filter p events)
    of true true is at rest = rw at (ap (λ kept. event ∷ kept) rest)
    of true false is at rest = rw at rest
    of false true is at rest = absurd (true≢false (sym (follows event at) ∙ is))
    of false false is at rest = rest

-- events given on their lines, the even line first
pub given-in_order : (events : List Event) → AreGivenAs events (on_lines events)
given-in_order [] = refl
given-in_order (event ∷ events) = (on_lines events, inl refl, given-in_order events)
