use Rattle.sync_topo.specs.Names.{element_names}
use Rattle.sync_topo.proofs.Lists.{places-apart}
use Rattle.std.proofs.Common.{rules}
use Rattle.sync_topo.proofs.parts.PlanTables.ends_of.Goals as goal

pub returns-in-Some-numbers_of-clause-joins : goal.returns-in-Some-numbers_of-clause-joins
returns-in-Some-numbers_of-clause-joins c =
    let numbers = c.in-Some-numbers_of.ensures in
    record {
      a_is_element = c.in-Some.ensures.within;
      b_is_element = c.in-Some-element_named.ensures.within;
      apart = places-apart (element_names c.args.self.now.elements.items) _ _ _ _ c.in-Some.ensures.named c.in-Some-element_named.ensures.named (search rules);
      priority_a_fits = numbers.priority_a_fits;
      priority_b_fits = numbers.priority_b_fits;
      least_delay_a = numbers.least_delay_a;
      greatest_delay_a = numbers.greatest_delay_a;
      least_delay_b = numbers.least_delay_b;
      greatest_delay_b = numbers.greatest_delay_b;
    }
