-- Laws of lines that other crates cite.
use Rattle.std.proofs.Common.{◌≡◌, ℕ, ◌/◌, ◌<◌, true, false, None, sym, inl, inr, arith}
use Rattle.std.proofs.lemmas.Bool.{cases_lt, true≢false}
use Rattle.std.proofs.lemmas.Option.{slice_get_past}
use Rattle.sync_topo.specs.Topology.{Topology}
use Rattle.sync_topo.specs.Lines.{line_count, is_nominated, link_of}

-- a nominated line is a line of the plan
pub IsNominated-within : (plan : Topology) (line : ℕ) → is_nominated plan line ≡ true → line < line_count plan
IsNominated-within plan line nominated = elim (cases_lt line (line_count plan)) [
  | inl inside ↦ inside
  | inr past ↦
      let none : link_of plan line ≡ None = slice_get_past plan.links (line / 2) (omega arith) in
      let never : false ≡ true = rw none at nominated in
      absurd (true≢false (sym never))
]
