-- Beside specs/Switched.antt, under no public clause: what contracts see of the code's switches.
use Rattle.std.specs.Prelude.{◌≡◌, ◌≤◌, ◌<◌, ℕ, Bool, false, List, IfSome, slice_index_or, length}
use Rattle.operator_cmds.specs.declared.cmds.Cmds.TheInside.{Inside}
use Rattle.operator_cmds.specs.Switched.{forced_by, manual_by}

-- an input is one of so many, and isn't locked out
pub record IsFree (inputs : ℕ) (locked : List Bool) (i : ℕ) : Type 0 where
  pub within : i < inputs
  pub free : slice_index_or locked i false ≡ false

-- what is true of the fields: a forced input is free, and a manual one is there
pub record IsKept (c : Inside) : Type 0 where
  pub few : c.inputs ≤ 64
  pub room : length c.locked ≡ 64
  pub forced : IfSome (forced_by c.switch) (IsFree c.inputs c.locked)
  pub manual : IfSome (manual_by c.switch) (λ i. i < c.inputs)
