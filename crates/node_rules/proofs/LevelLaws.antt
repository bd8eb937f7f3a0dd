-- The codes of a frame name the level that it carries.
use Rattle.std.proofs.Common.{◌≡◌, ℕ, Bool, true, false, List, None, Some, option_map, replicate, refl, subst}
use Rattle.std.specs.Prelude.{if◌then◌else◌, ◌==◌}
use Rattle.std.proofs.lemmas.Bool.{eqb-true}
use Rattle.sync_ql.specs.declared.levels.Level.{Level}
use Rattle.sync_ql.specs.Table.{not_enhanced}
use Rattle.sync_ql.specs.Level.{code_of, enhanced_of, level_with_both, level_of_codes}
use Rattle.sync_ql.proofs.Tables.{both_name, codes_name}
use Rattle.esmc_frame.specs.declared.frame.Extended.{Extended}
use Rattle.sync_topo.specs.declared.event.Event.{Event}
use Rattle.sync_topo.specs.Topology.{Topology}
use Rattle.sync_topo.specs.Events.{IsEventList}
use Rattle.sync_topo.specs.WellFormed.{IsWellFormed}
use Rattle.node_rules.specs.NodeText.{carried}
use Rattle.node_rules.specs.FromNetwork.{network_out}
use Rattle.node_rules.proofs.OptionLaws.{out-option}

pub frame-names : (sender : ℕ) (level : Level) (event : Bool)
    → level_of_codes level.option (carried sender level event).code (option_map (λ (e : Extended). e.code) (carried sender level event).extended) ≡ Some level
frame-names sender level event = of (enhanced_of level == not_enhanced) refl
  where
    of : (b : Bool) → (enhanced_of level == not_enhanced) ≡ b
        → level_of_codes level.option (code_of level) (option_map (λ (e : Extended). e.code) (if b then None else Some (record { code = enhanced_of level; clock = replicate 8 0; flags = 0; eeecs = 0; eecs = 0 }))) ≡ Some level
    of true is = subst (λ enhanced. level_with_both level.option (code_of level) enhanced ≡ Some level) (eqb-true (enhanced_of level) not_enhanced is) (both_name level)
    of false is = codes_name level

-- the codes of a frame that carries a level of a network name it in the plan's option
pub sent-named : (plan : Topology) (events : List Event) → IsWellFormed plan → IsEventList plan events → (sender line t : ℕ) (event : Bool)
    → level_of_codes plan.option (carried sender (network_out plan events line t) event).code (option_map (λ (e : Extended). e.code) (carried sender (network_out plan events line t) event).extended)
    ≡ Some (network_out plan events line t)
sent-named plan events well are sender line t event =
    subst (λ option. level_of_codes option (carried sender (network_out plan events line t) event).code (option_map (λ (e : Extended). e.code) (carried sender (network_out plan events line t) event).extended) ≡ Some (network_out plan events line t))
    (out-option plan events well are line t) (frame-names sender (network_out plan events line t) event)
