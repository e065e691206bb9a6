use Rattle.std.proofs.Common.{◌≡◌, ◌+◌, ◌-◌, ◌≤◌, take, drop}
use Rattle.std.specs.Fn.{iterate}
use Rattle.protocol.specs.Histories.{other_does}
use Rattle.protocol.specs.Machine.Act.{pass}
use Rattle.protocol.specs.Windows.{first_free}
use Rattle.link.specs.Ends.{end_state}
use Rattle.link.specs.Courses.{UndergoesAlone}
use Rattle.link.proofs.link.settling.pass_all.Given as goal

abbrev pub invariant-loop-element : goal.invariant-loop-element
invariant-loop-element g l = record {
  run :
      UndergoesAlone g.I.Kind.coding g.O.Kind.coding (λ c d. iterate (other_does c d pass) (l.next - l.fn.at))
      l.fn.from l.from (drop l.fn.at (take l.next l.list));
  begun : l.fn.at ≤ l.next;
  left : l.next + first_free (end_state l.from).receiver.slots ≡ l.fn.at + first_free (end_state l.fn.from).receiver.slots;
  before : take l.fn.at l.list ≡ take l.fn.at l.fn.list;
  behind : drop l.next l.list ≡ drop l.next l.fn.list;
}

abbrev pub decreases-loop-element : goal.decreases-loop-element
decreases-loop-element g l = first_free (end_state l.from).receiver.slots
