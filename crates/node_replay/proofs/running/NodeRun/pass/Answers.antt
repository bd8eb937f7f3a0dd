use Rattle.std.proofs.Common.{◌+◌, refl, arith}
use Rattle.node_replay.proofs.GapLaws.{passed-stands, has-begun}
use Rattle.node_replay.proofs.running.NodeRun.pass.Goals as goal

pub returns-clause-run : goal.returns-clause-run
returns-clause-run c =
    let run = c.requires.run in
    let later = c.earlier-self.ensures.from (c.args.self.now.next + 1) (let to = c.requires.to in omega (arith, to)) (let quiet = c.requires.quiet in omega (arith, quiet)) in
    let until = c.earlier-self.ensures.up_to in
    let wake = c.earlier-self.ensures.until_due in
    let end = c.requires.in_range in
    record {
      well_formed = run.well_formed;
      settings = run.settings;
      ids = run.ids;
      options = run.options;
      lines = run.lines;
      shows = run.shows;
      rows = run.rows;
      in_range = omega (arith, until, end);
      first = λ never. (let wakes = run.wakes_first (run.first never) in let quiet = c.requires.quiet in absurd (omega (arith, wakes, quiet)));
      wakes_first = λ never. absurd (omega (arith, never, later));
      later = (let was = run.later in omega (arith, was, later));
      awake = wake;
      due = run.due;
      steady = λ m low high. run.steady m (omega (arith, low, later)) high;
      seconds = λ m low high. run.seconds m (omega (arith, low, later)) high;
      given = λ some. run.given (has-begun c.args.plan.now c.args.element c.args.self.now run c.requires.quiet);
    }

pub returns-clause-stands : goal.returns-clause-stands
returns-clause-stands c = λ rows away stands.
    let later = c.earlier-self.ensures.from (c.args.self.now.next + 1) (let to = c.requires.to in omega (arith, to)) (let quiet = c.requires.quiet in omega (arith, quiet)) in
    passed-stands c.args.plan.now c.args.element c.args.to c.earlier-self.result rows c.args.self.now _ c.requires.run away
    (omega (arith, later)) c.earlier-self.ensures.up_to c.earlier-self.ensures.until_due refl refl refl refl refl stands
