-- What comes of a topic of an element.
use Rattle.std.proofs.Common.{◌≡◌, ℕ, true, List, Option, Some, None, refl, sym, Bool, false, []}
use Rattle.std.specs.Str.{bytes_eq}
use Rattle.sync_ql.specs.declared.levels.NetOption.{NetOption}
use Rattle.sync_ql.specs.declared.levels.Level.{Level}
use Rattle.sync_ql.specs.Level.{level_of_name}
use Rattle.sync_topo.specs.declared.event.What.{What}
use Rattle.sync_topo.specs.declared.event.What.TheVariants as kind
use Rattle.sync_topo.specs.Topology.{Topology}
use Rattle.event_file.specs.declared.word.WordTarget.{WordTarget}
use Rattle.event_file.specs.declared.word.WordTarget.TheVariants.{Happens, GetsLevel}
use Rattle.event_file.specs.Words.{what_of}
use Rattle.node_file.specs.NodeRow.{is_of_element}
use Rattle.node_file.specs.Topic.{is_there}

-- what is said of something at an element happens there
pub happens_there : (plan : Topology) (element : ℕ) (option : NetOption) (said : WordTarget) (value : List ℕ) (what : What)
    → is_there plan element said ≡ true → what_of option said value ≡ Some what → is_of_element plan element what ≡ true
happens_there plan element option (Happens happens) value what there is = by (bytes_eq value []) refl
  where
    by : (empty : Bool) → bytes_eq value [] ≡ empty → is_of_element plan element what ≡ true
    by true empty = let same : happens ≡ what = cc in rw (sym same) there
    by false other = absurd (cc)
happens_there plan element option (GetsLevel source) value what there is = by (level_of_name option value) refl
  where
    by : (level : Option Level) → level_of_name option value ≡ level → is_of_element plan element what ≡ true
    by None none = absurd (cc)
    by (Some level) some = let same : what ≡ kind.SourceLevel source level = cc in rw same there
