use Rattle.std.proofs.lemmas.Result.{IfOk-weaker}
use Rattle.sync_edge.proofs.SoFar.{keeps_folder_trans, holds_left, holds_more, read_of, tried_once}
use Rattle.sync_edge.proofs.transfers.read_all.Goals as goal

pub returns-in-Ok-start-clause-keeps : goal.returns-in-Ok-start-clause-keeps
returns-in-Ok-start-clause-keeps g c =
    keeps_folder_trans _ _ _ c.in-Ok-start.ensures.keeps c.read_rest.ensures.keeps

pub returns-in-Ok-start-clause-ok : goal.returns-in-Ok-start-clause-ok
returns-in-Ok-start-clause-ok g c =
    IfOk-weaker _ _ _ (λ text. holds_left _ _ _ text c.in-Ok-start.ensures.starts) c.read_rest.ensures.ok

pub returns-in-Ok-start-clause-too_long : goal.returns-in-Ok-start-clause-too_long
returns-in-Ok-start-clause-too_long g c =
    λ is. holds_more _ _ _ _ c.in-Ok-start.ensures.starts (c.read_rest.ensures.too_long is)

pub returns-in-Ok-start-clause-stops : goal.returns-in-Ok-start-clause-stops
returns-in-Ok-start-clause-stops g c =
    λ is. read_of _ _ _ _ _ c.in-Ok-start.ensures.starts (c.read_rest.ensures.stops is)

pub returns-in-Ok-start-clause-once : goal.returns-in-Ok-start-clause-once
returns-in-Ok-start-clause-once g c =
    tried_once _ _ _ c.read_rest.result c.in-Ok-start.ensures.tried c.read_rest.ensures.tried
