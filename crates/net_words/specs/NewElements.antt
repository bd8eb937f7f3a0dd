-- The elements of a plan that were told nothing, whatever they choose by.
use Rattle.std.specs.Prelude.{◌≡◌, ◌<◌, ℕ, List, [], length, slice_index_or, None, Some}
use Rattle.std.proofs.Common.{lit<}
use Rattle.sync_ql.specs.declared.levels.NetOption.{NetOption}
use Rattle.sync_ql.specs.declared.levels.NetOption.TheVariants.{I, II}
use Rattle.sync_ql.specs.declared.levels.Level.{Level}
use Rattle.sync_ql.specs.Moment.{Moment}
use Rattle.sync_ql.specs.Quiet.{IsElementDue}
use Rattle.sync_element.specs.ElementState.{ElementState}
use Rattle.sync_element.specs.StandsFor as Element
use Rattle.sync_topo.specs.Topology.{Topology}
use Rattle.net_rules.specs.Settings.{Setting, settings_by}
use Rattle.net_rules.specs.History.{by_levels}
use Rattle.net_words.specs.declared.elements.Chooses.{Chooses}
use Rattle.net_words.specs.declared.elements.Chooses.TheVariants.{ByLevel, ByPriority}

-- a list has n items, and something holds of each of them and its place
pub record AreEach {A : Type 0} (Holds : ℕ → A → Type 0) (n : ℕ) (items : List A) : Type 0 where
  pub count : length items ≡ n
  pub each : (place : ℕ) (other : A) → place < n → Holds place (slice_index_or items place other)

-- the level that every input has where elements choose by priority alone: the option's first
abbrev pub one_level : NetOption → Level
one_level I = record { option = I; place = 0; is_row = lit< tt }
one_level II = record { option = II; place = 0; is_row = lit< tt }

-- how elements choose by priority alone: without a floor, by one level for each input, and without bundles
abbrev pub by_priority : Topology → Setting
by_priority plan = record {
  floor = λ element. None;
  first = λ input. Some (one_level plan.option);
  bundle = λ input. 0;
}

-- what elements choose by
abbrev pub setting_of : Chooses → Topology → Setting
setting_of ByLevel plan = by_levels plan
setting_of ByPriority plan = by_priority plan

-- an element that was told nothing
pub record IsNewElement (setting : Setting) (plan : Topology) (place : ℕ) (element : ElementState) : Type 0 where
  pub settings : element.settings ≡ settings_by setting plan place
  pub next : element.next ≡ 0
  pub due : element.due ≡ None
  pub stands : Element.StandsFor element []
  pub changes : (past : List Moment) → Element.StandsFor element past → IsElementDue element.settings past element.due
