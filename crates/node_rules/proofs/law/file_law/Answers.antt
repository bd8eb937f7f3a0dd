use Rattle.node_rules.proofs.Gathering.{given-in_order}
use Rattle.node_rules.proofs.ExactFiles.{told-alone}
use Rattle.node_rules.proofs.LevelLaws.{sent-named}
use Rattle.node_rules.proofs.BroughtLaws.{brought-told, brought-is_file}
use Rattle.node_rules.proofs.BroughtRows.{brought-rows, brought-in_order}
use Rattle.node_rules.proofs.law.file_law.Goals as goal

pub returns-clause-exact : goal.returns-clause-exact
returns-clause-exact c = told-alone

pub returns-clause-told : goal.returns-clause-told
returns-clause-told c = λ plan events element until ordered. brought-told plan events element until ordered

pub returns-clause-file : goal.returns-clause-file
returns-clause-file c = λ plan events element until ordered. brought-is_file plan events element until ordered

pub returns-clause-in_order : goal.returns-clause-in_order
returns-clause-in_order c = λ plan events element n. brought-in_order plan events element n

pub returns-clause-fit : goal.returns-clause-fit
returns-clause-fit c = λ plan events element until well are early. brought-rows plan events element well are until early

pub returns-clause-named : goal.returns-clause-named
returns-clause-named c = λ plan events sender line t event well are. sent-named plan events well are sender line t event

pub returns-clause-by_number : goal.returns-clause-by_number
returns-clause-by_number c = given-in_order
