-- A text over just the rows that a network brings is of the frames that the element sends there.
use Rattle.std.proofs.Common.{◌≡◌, ℕ, suc, List, ◌++◌, Result, Ok, ap, sym, subst, ◌∙◌, arith}
use Rattle.std.specs.Prelude.{codes}
use Rattle.std.specs.List.{concat}
use Rattle.std.specs.Fmt.{decimal}
use Rattle.sync_topo.specs.declared.event.Event.{Event}
use Rattle.sync_topo.specs.Topology.{Topology}
use Rattle.sync_topo.specs.WellFormed.{IsWellFormed}
use Rattle.node_file.specs.declared.row.NodeRow.{NodeRow}
use Rattle.node_file.specs.declared.error.NodeErr.{NodeErr}
use Rattle.node_rules.specs.FromNetwork.{IsNodeFile}
use Rattle.node_rules.proofs.ReplayLaws.{replayed}
use Rattle.node_rules.proofs.TextLaws.{rows-same}
use Rattle.node_replay.specs.declared.replayed.Replayed.{Replayed}
use Rattle.node_replay.specs.declared.replayed.NodeEnd.{NodeEnd}
use Rattle.node_replay.specs.declared.replayed.NodeEnd.TheVariants.{Until, Stopped}
use Rattle.node_replay.specs.Replayed.{IsEnded, IsReplayed}
use Rattle.node_replay.specs.Sent.{IsSentText}
use Rattle.node_replay.specs.OfNetwork.{network_text, IsOfNetwork, IsNetworkText}

module _ (plan : Topology) (events : List Event) (element until : ℕ) (rows : List NodeRow) (well : IsWellFormed plan) (is : IsNodeFile plan events element until rows) where
  text-there : (text : List ℕ) (end : NodeEnd) → IsEnded plan element until rows text end → text ≡ network_text plan events element until end
  text-there text Until ended = ended.1 ∙ ap concat (rows-same plan events element until rows well is (suc until) (omega arith))
  text-there text (Stopped last) ended =
      let before = ended.0.before in
      ended.1 ∙ ap (λ rs. concat rs ++ codes "stopped," ++ decimal last ++ codes "\n")
      (rows-same plan events element until rows well is (suc last) (omega (arith, before)))

  pub of-network : (given : Replayed) → IsReplayed plan element until rows given → IsOfNetwork plan events element until rows given
  of-network given ended = record {
    does = λ t within. replayed plan events element until rows well is t within;
    sends = text-there given.text given.end ended;
  }

same-rows : (one other : List NodeRow) → ◌≡◌ {A = Result (List NodeRow) NodeErr} (Ok one) (Ok other) → one ≡ other
same-rows one other same = cc

-- so is what is sent for the bytes of a file
pub network-text : (plan : Topology) (element : ℕ) (bytes : List ℕ) (until : ℕ) (given : Replayed) → IsWellFormed plan
    → IsSentText plan element bytes until given → IsNetworkText plan element bytes until given
network-text plan element bytes until given well sent = λ events rows read is.
    let same : sent.0 ≡ rows = same-rows sent.0 rows (sym sent.1 ∙ read) in
    of-network plan events element until rows well is given (subst (λ rs. IsReplayed plan element until rs given) same sent.2)
