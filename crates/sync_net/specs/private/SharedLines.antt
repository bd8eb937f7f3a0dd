-- Private to this crate: the line that a network has, its own or another's.
use Rattle.link_model.specs.LineState.{LineState}
use Rattle.sync_net.specs.declared.shared_line.KeptLine.{KeptLine}
use Rattle.sync_net.specs.declared.shared_line.KeptLine.TheVariants as line

abbrev pub line_kept : KeptLine → LineState
line_kept (line.Own own) = own.value
line_kept (line.Shared other) = other.now
