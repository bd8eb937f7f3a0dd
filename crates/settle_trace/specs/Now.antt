-- What the rules say of the millisecond of a network's last step, by its plan and all events.
use Rattle.std.specs.Prelude.{ℕ, ◌-◌, List}
use Rattle.sync_topo.specs.declared.event.Event.{Event}
use Rattle.net_rules.specs.Signals.{Signals, signals_by}
use Rattle.net_rules.specs.History.{Levels, out_at}
use Rattle.net_rules.specs.Walks.{Taken}
use Rattle.net_rules.specs.Safety.{taken_in}
use Rattle.net_rules.specs.Settled.{IsSettled}
use Rattle.sync_net.specs.NetState.{NetState}

-- the millisecond of the last step
abbrev pub now_of : NetState → ℕ
now_of net = net.next - 1

-- what comes from outside, and what is sent
abbrev pub signals_of : NetState → List Event → Signals
signals_of net all = signals_by net.plan all

abbrev pub out_of : NetState → List Event → Levels
out_of net all = out_at net.plan (signals_of net all)

-- the millisecond of the last step is settled
abbrev pub IsSettledNow : NetState → List Event → Type 0
IsSettledNow net all = IsSettled net.plan (signals_of net all) (out_of net all) (now_of net)

-- what each element takes in it
abbrev pub taken_now : NetState → List Event → Taken
taken_now net all = taken_in net.plan (signals_of net all) (out_of net all) (now_of net)
