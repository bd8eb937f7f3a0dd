-- A file that holds just what an element is told tells it just that.
use Rattle.std.proofs.Common.{◌≡◌, ℕ, true, List, [], ◌∷◌, ◌++◌, reverse, refl, ap, sym, subst, ◌∙◌, inl, inr}
use Rattle.std.proofs.lemmas.List.Elements.{filter-append}
use Rattle.sync_text.proofs.Each.{Each-map, Each-filter}
use Rattle.sync_text.specs.Each.{Each}
use Rattle.sync_topo.specs.declared.event.Part.TheVariants as part
use Rattle.sync_topo.specs.declared.event.What.{What}
use Rattle.sync_topo.specs.declared.event.What.TheVariants.{Down, Up}
use Rattle.sync_topo.specs.declared.event.Event.{Event}
use Rattle.sync_topo.specs.Topology.{Topology}
use Rattle.node_rules.specs.FromNetwork.{is_told_to, given_as, told_to, AreGivenAs}
use Rattle.node_rules.proofs.ToldLaws.{even-told, odd-told}

-- the lines of what is told are told
kept-given : (plan : Topology) (element at : ℕ) (what : What) → is_told_to plan element what ≡ true
    → told_to plan element (given_as (record { at = at; what = what })) ≡ given_as (record { at = at; what = what })
kept-given plan element at (Down (part.Link link)) is = rw (even-told plan element link is, odd-told plan element link is) refl
kept-given plan element at (Up (part.Link link)) is = rw (even-told plan element link is, odd-told plan element link is) refl
kept-given plan element at what is = rw is refl

kept-turned : (plan : Topology) (element at : ℕ) (what : What) → is_told_to plan element what ≡ true
    → told_to plan element (reverse (given_as (record { at = at; what = what }))) ≡ reverse (given_as (record { at = at; what = what }))
kept-turned plan element at (Down (part.Link link)) is = rw (even-told plan element link is, odd-told plan element link is) refl
kept-turned plan element at (Up (part.Link link)) is = rw (even-told plan element link is, odd-told plan element link is) refl
kept-turned plan element at what is = rw is refl

kept-all : (plan : Topology) (element : ℕ) (events given : List Event) → Each (λ event. is_told_to plan element event.what ≡ true) events → AreGivenAs events given
    → told_to plan element given ≡ given
kept-all plan element [] given each are = ap (told_to plan element) are ∙ sym are
kept-all plan element (event ∷ events) given each are = elim are.1 [
  | inl same ↦ by (given_as event) same (kept-given plan element event.at event.what each.0) (kept-all plan element events are.0 each.1 are.2)
  | inr turned ↦ by (reverse (given_as event)) turned (kept-turned plan element event.at event.what each.0) (kept-all plan element events are.0 each.1 are.2)
]
  where
    by : (first : List Event) → given ≡ first ++ are.0 → told_to plan element first ≡ first → told_to plan element are.0 ≡ are.0 → told_to plan element given ≡ given
    by first same kept rest =
        ap (told_to plan element) same
        ∙ filter-append (λ one. is_told_to plan element one.what) first are.0
        ∙ ap (λ some. some ++ told_to plan element are.0) kept
        ∙ ap (λ some. first ++ some) rest
        ∙ sym same

-- what is given of what is told is told
pub given-told : (plan : Topology) (element : ℕ) (events given : List Event) → AreGivenAs (told_to plan element events) given → told_to plan element given ≡ given
given-told plan element events given are =
    kept-all plan element (told_to plan element events) given
    (Each-map _ (λ event. is_told_to plan element event.what ≡ true) (λ event both. both.1) (told_to plan element events)
    (Each-filter (λ (event : Event). Unit {0}) (λ event. is_told_to plan element event.what) events (each-any events)))
    are
  where
    each-any : (some : List Event) → Each (λ (event : Event). Unit {0}) some
    each-any [] = tt
    each-any (event ∷ some) = (tt, each-any some)

pub told-alone : (plan : Topology) (element : ℕ) (events given : List Event) → AreGivenAs (told_to plan element events) given
    → AreGivenAs (told_to plan element events) (told_to plan element given)
told-alone plan element events given are = subst (AreGivenAs (told_to plan element events)) (sym (given-told plan element events given are)) are
