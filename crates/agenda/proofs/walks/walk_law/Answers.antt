use Rattle.agenda.proofs.MarkedPlaces.{listed-append, listed-push, to_come, behind, not_again, not_before, none_are_listed}
use Rattle.agenda.proofs.walks.walk_law.Goals as goal

pub returns : goal.returns
returns c = record {
  appended = listed-append;
  pushed = listed-push;
  to_come = to_come;
  behind = behind;
  not_again = not_again;
  not_before = not_before;
  none = none_are_listed;
}
