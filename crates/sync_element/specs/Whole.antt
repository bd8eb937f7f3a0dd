-- How an element is seen, and what is true of every one.
use Rattle.sync_element.specs.declared.element.Element.TheInside.{Inside}
use Rattle.sync_element.specs.declared.inputs.Inputs.{Inputs}
use Rattle.sync_element.specs.Configured.{settings_of}
use Rattle.sync_element.specs.Kept.{InputsKept, dues_of}
use Rattle.sync_element.specs.ElementState.{ElementState}

abbrev pub inputs_kept : Inputs → InputsKept
inputs_kept x = record { watched = x.watched.items; dues = dues_of x.watched.items; candidates = x.table }

abbrev pub element_state : Inside → ElementState
element_state e = record {
  settings = settings_of e.config;
  next = e.next;
  due = e.due;
  later_steps = e.later_steps;
  kept = record {
    inputs = inputs_kept e.inputs;
    switches = e.commands;
    selection = e.selected;
    was_locked = e.was_locked;
  };
}
