-- How far a run has come.
use Rattle.std.proofs.Common.{◌≡◌, ◌≤◌, ◌<◌, ℕ, List, [], Option, None, Some, refl, subst, arith}
use Rattle.sync_topo.specs.Topology.{Topology}
use Rattle.node_file.specs.declared.row.NodeRow.{NodeRow}
use Rattle.node_replay.specs.declared.running.NodeRun.{NodeRun}
use Rattle.node_replay.specs.Running.{RunStands, RunHolds}
use Rattle.node_replay.specs.private.Running.{AreHere, AreAway}

-- a run that isn't stopped stands for its milliseconds
pub going-stands : (plan : Topology) (place until n : ℕ) (rows : List NodeRow) (run : NodeRun) → run.stopped ≡ None
    → RunHolds plan rows place until n run run.stopped → RunStands plan rows place n run
going-stands plan place until n rows run going holds = subst (RunHolds plan rows place until n run) going holds

-- and it has come to the end, or is stopped
pub came-to : (plan : Topology) (place until next to : ℕ) (rows : List NodeRow) (run : NodeRun) → (run.stopped ≡ None → next ≡ to)
    → RunHolds plan rows place until next run run.stopped → RunHolds plan rows place until to run run.stopped
came-to plan place until next to rows run end holds = by run.stopped refl holds
  where
    by : (o : Option ℕ) → run.stopped ≡ o → RunHolds plan rows place until next run o → RunHolds plan rows place until to run o
    by None going is = subst (λ n. RunStands plan rows place n run) (end going) is
    by (Some last) going is = is

-- no rows come in what is left of the milliseconds
pub away-later : (plan : Topology) (place from later to : ℕ) (rows : List NodeRow) → from ≤ later → AreAway plan place from to rows → AreAway plan place later to rows
away-later plan place from later to rows after away = record {
  list = away.list;
  away = λ t low high. away.away t (omega (arith, after, low)) high;
}

pub none-here : (plan : Topology) (place from to : ℕ) (rows : List NodeRow) → from < to → AreAway plan place from to rows → AreHere plan place from [] rows
none-here plan place from to rows some away = record { list = away.list; stand = away.away from (omega arith) some }
