-- How contracts see the code's form: what only private clauses cite.
use Rattle.std.specs.Prelude.{◌≤◌, ⊤}
use Rattle.sync_topo.specs.declared.sizes.TheConstants.{MOST_ELEMENTS}
use Rattle.sync_ql.specs.declared.limits.TheConstants.{LAST_MILLISECOND}
use Rattle.sync_top.specs.declared.form.PlanForm.{PlanForm}
use Rattle.sync_top.specs.declared.form.PlanForm.TheVariants.{Sweep}
use Rattle.sync_top.specs.declared.form.FileForm.{FileForm}
use Rattle.sync_top.specs.declared.form.FileForm.TheVariants.{Events, Study}
use Rattle.sync_top.specs.declared.form.Form as declared
use Rattle.sync_top.specs.declared.form.PlanName as declared_plan
use Rattle.sync_top.specs.declared.form.Form.TheVariants as word
use Rattle.sync_top.specs.Form.{Form, PlanName, on_plan, on_file, on_frames, on_ladder, node}

-- the file of a plan, and the size that it may have
abbrev pub named : declared_plan.PlanName → PlanName
named plan = record { size = plan.size; name = plan.name.now }

abbrev pub seen : declared.Form → Form
seen (word.OnPlan what plan) = on_plan what (named plan)
seen (word.OnFile what plan name) = on_file what (named plan) name.now
seen (word.OnFrames what option name) = on_frames what option name.now
seen (word.OnLadder what n) = on_ladder what n
seen (word.Node plan element name until) = node (named plan) element.now name.now until

-- a sweep's milliseconds are in order, and the last one is not behind the last of all
abbrev pub IsTimed : PlanForm → Type 0
IsTimed (Sweep at until) = (at ≤ until) × (until ≤ LAST_MILLISECOND)
IsTimed what = ⊤

-- a run goes no further than the last millisecond
abbrev pub IsFileTimed : FileForm → Type 0
IsFileTimed (Events what until) = until ≤ LAST_MILLISECOND
IsFileTimed (Study until) = until ≤ LAST_MILLISECOND
IsFileTimed what = ⊤

-- a ladder that is asked for may have so many elements, and a run may go so far
abbrev pub IsSized : declared.Form → Type 0
IsSized (word.OnPlan what plan) = IsTimed what
IsSized (word.OnFile what plan name) = IsFileTimed what
IsSized (word.OnLadder what n) = (2 ≤ n) × (n ≤ MOST_ELEMENTS)
IsSized (word.Node plan element name until) = until ≤ LAST_MILLISECOND
IsSized form = ⊤
