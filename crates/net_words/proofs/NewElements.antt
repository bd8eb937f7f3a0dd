-- The elements of a plan that were told nothing.
use Rattle.std.proofs.Common.{◌≡◌, ◌≤◌, ◌<◌, ◌+◌, ℕ, List, [], ◌∷◌, ◌++◌, map, length, slice_get, slice_index_or, Option, None, Some, refl, ap, sym, subst, ◌∙◌, arith}
use Rattle.std.specs.List.{All}
use Rattle.std.specs.Option.{option_map_or}
use Rattle.std.proofs.Math.Decide.{dec_lt}
use Rattle.std.proofs.Math.ListN.{get_or-append}
use Rattle.std.proofs.Math.Seq.{get_or-append_seam}
use Rattle.std.proofs.lemmas.Bool.{ltb-true}
use Rattle.std.proofs.lemmas.List.{length-append}
use Rattle.std.proofs.lemmas.List.Elements.{All-map}
use Rattle.sync_text.proofs.Each.{all-each, Each-map}
use Rattle.sync_ql.specs.declared.levels.NetOption.{NetOption}
use Rattle.sync_ql.specs.declared.levels.NetOption.TheVariants.{I, II}
use Rattle.sync_ql.specs.declared.levels.Level.{Level}
use Rattle.sync_ql.specs.Level.{do_not_use_of}
use Rattle.sync_ql.specs.Told.{IsOfOption}
use Rattle.sync_ql.proofs.DoNotUse.{do_not_use-option}
use Rattle.sync_element.specs.declared.config.InputConfig.{InputConfig}
use Rattle.sync_element.specs.Configured as configured
use Rattle.sync_topo.specs.declared.element.Element as elements
use Rattle.sync_topo.specs.declared.source.Source as sources
use Rattle.sync_topo.specs.declared.input.InputId.{InputId}
use Rattle.sync_topo.specs.declared.input.InputId.TheVariants.{Line, Source}
use Rattle.sync_topo.specs.Topology.{Topology}
use Rattle.sync_topo.specs.Lines.{inputs_of}
use Rattle.sync_topo.specs.WellFormed.{IsWellFormed}
use Rattle.net_rules.specs.Signals.{planned_level}
use Rattle.net_rules.specs.Settings.{Setting, settings_by}
use Rattle.net_rules.specs.Inputs.{IsInputOf}
use Rattle.net_rules.proofs.InputLaws.{inputs-are}
use Rattle.net_words.specs.declared.elements.Chooses.{Chooses}
use Rattle.net_words.specs.declared.elements.Chooses.TheVariants.{ByLevel, ByPriority}
use Rattle.net_words.specs.NewElements.{AreEach, one_level, setting_of}
use Rattle.net_words.specs.private.NewElements.{config_by}

-- nothing holds of each of no items
pub each-none : {A : Type 0} (P : ℕ → A → Type 0) → AreEach P 0 []
each-none P = record { count = refl; each = λ place other early. absurd (omega (arith, early)) }

-- one item more
pub each-more : {A : Type 0} (P : ℕ → A → Type 0) (n : ℕ) (xs ys : List A) (x : A) → AreEach P n xs → ys ≡ xs ++ x ∷ [] → P n x → AreEach P (n + 1) ys
each-more P n xs ys x before more last = subst (AreEach P (n + 1)) (sym more) (record {
  count = length-append xs (x ∷ []) ∙ ap (λ k. k + 1) before.count;
  each = λ place other early. elim (dec_lt place n) [
    | yes earlier ↦ subst (P place) (sym (get_or-append xs (x ∷ []) other place (omega (arith, before.count, earlier)))) (before.each place other earlier)
    | no here ↦
        let same : place ≡ n = omega (arith, here, early) in
        subst (P place) (sym (ap (λ k. slice_index_or (xs ++ x ∷ []) k other) (same ∙ sym before.count) ∙ get_or-append_seam xs x [] other)) (subst (λ k. P k x) (sym same) last)
  ];
})

-- a list made twice over is made once
map-map : {A B C : Type 0} (f : A → B) (g : B → C) (xs : List A) → map g (map f xs) ≡ map (λ x. g (f x)) xs
map-map f g [] = refl
map-map f g (x ∷ xs) = ap (λ ys. g (f x) ∷ ys) (map-map f g xs)

-- the priorities of an element's inputs are at least 1
pub priorities-fit : (setting : Setting) (plan : Topology) (place : ℕ) (configs : List InputConfig) → configs ≡ map (config_by setting plan) (inputs_of plan place) → All (λ input. 1 ≤ input.priority) configs
priorities-fit setting plan place configs is =
    subst (All (λ input. 1 ≤ input.priority)) (sym is)
    (All-map (λ input. 1 ≤ input.priority) (config_by setting plan) (inputs_of plan place)
    (all-each (λ input. 1 ≤ (config_by setting plan input).priority) (inputs_of plan place)
    (Each-map (IsInputOf plan place) (λ input. 1 ≤ (config_by setting plan input).priority) (λ input of. ltb-true 0 (config_by setting plan input).priority of.nominated) (inputs_of plan place) (inputs-are plan place))))

-- the level that the plan gives a source is of its option
pub planned-fits : (plan : Topology) (source : ℕ) → IsWellFormed plan → source < length plan.sources → (planned_level plan source).option ≡ plan.option
planned-fits plan source well within = of (slice_get plan.sources source) refl
  where
    of : (o : Option sources.Source) → slice_get plan.sources source ≡ o → (option_map_or (λ s. s.level) o (do_not_use_of plan.option)).option ≡ plan.option
    of None is = do_not_use-option plan.option
    of (Some found) is = (well.sources_fit source found is).of_option

-- the level that an input of an element has at first is of the plan's option
one-option : (option : NetOption) → (one_level option).option ≡ option
one-option I = refl
one-option II = refl

first-fits : (chooses : Chooses) (plan : Topology) (place : ℕ) (input : InputId) → IsWellFormed plan → IsInputOf plan place input
    → IsOfOption plan.option ((setting_of chooses plan).first input)
first-fits ByLevel plan place (Line line) well of = tt
first-fits ByLevel plan place (Source source) well of = planned-fits plan source well of.has
first-fits ByPriority plan place input well of = one-option plan.option

-- the levels that an element's inputs have at first are of the option of its clock
pub firsts-fit : (chooses : Chooses) (plan : Topology) (place : ℕ) (own : Level) (configs : List InputConfig) → IsWellFormed plan → own.option ≡ plan.option
    → configs ≡ map (config_by (setting_of chooses plan) plan) (inputs_of plan place) → All (λ input. IsOfOption own.option input.first) configs
firsts-fit chooses plan place own configs well own_is is =
    let setting = setting_of chooses plan in
    subst (λ o. All (λ input. IsOfOption o input.first) configs) (sym own_is)
    (subst (All (λ input. IsOfOption plan.option input.first)) (sym is)
    (All-map (λ input. IsOfOption plan.option input.first) (config_by setting plan) (inputs_of plan place)
    (all-each (λ input. IsOfOption plan.option (setting.first input)) (inputs_of plan place)
    (Each-map (IsInputOf plan place) (λ input. IsOfOption plan.option (setting.first input)) (λ input of. first-fits chooses plan place input well of) (inputs_of plan place) (inputs-are plan place)))))

-- an element set to what the plan says has the plan's settings
pub settings-are : (setting : Setting) (plan : Topology) (place : ℕ) (element : elements.Element) (floor : Option Level) (configs : List InputConfig) → slice_get plan.elements place ≡ Some element
    → floor ≡ setting.floor place → configs ≡ map (config_by setting plan) (inputs_of plan place)
    → configured.settings_of (record { own = element.own; floor = floor; holdoff = element.holdoff; wtr = element.wtr; inputs = configs }) ≡ settings_by setting plan place
settings-are setting plan place element floor configs is floor_is configs_are =
    rw (
      is,
      floor_is,
      configs_are,
      map-map (config_by setting plan) (λ input. input.priority) (inputs_of plan place),
      map-map (config_by setting plan) (λ input. input.first) (inputs_of plan place),
      map-map (config_by setting plan) (λ input. input.bundle) (inputs_of plan place),
    ) refl
