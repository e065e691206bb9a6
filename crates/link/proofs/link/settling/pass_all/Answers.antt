use Rattle.std.proofs.Common.{◌+◌, ◌-◌, ◌<◌, length, arith, rules}
use Rattle.link.specs.Ends.{end_state}
use Rattle.link.proofs.Lists.{before_more, behind_more, filled_more}
use Rattle.protocol.proofs.Slots.{free_le}
use Rattle.link.proofs.Passes.{nearer, passed_all, passed_more}
use Rattle.link.proofs.link.settling.pass_all.Goals as goal

pub loop-element-smaller : goal.loop-element-smaller
loop-element-smaller g c = omega (arith, nearer c.in-Some.ensures)

pub bounds-list-next : goal.bounds-list-next
bounds-list-next g c = omega (arith, nearer c.in-Some.ensures, free_le (end_state c.args.from.now).receiver.slots)

pub overflow_add-next : goal.overflow_add-next
overflow_add-next g c = let b : c.loop-element.next < length c.loop-element.list = bounds-list-next g c in search rules

pub loop-element-preserved : goal.loop-element-preserved
loop-element-preserved g c =
    let i = c.loop-element.invariant in
    let at = c.args.at in
    let n = c.loop-element.next in
    let xs = c.loop-element.list in
    let x = c.in-Some.element in
    let b = bounds-list-next g c in
    record {
      run = passed_more (n - at) (n + 1 - at) x (omega arith) (filled_more at n xs x i.begun b) i.run c.in-Some.ensures;
      begun = omega arith;
      left = omega (arith, nearer c.in-Some.ensures);
      before = before_more at n xs c.args.list.now x i.begun i.before;
      behind = behind_more n xs c.args.list.now x i.behind;
    }

pub returns-clause-run : goal.returns-clause-run
returns-clause-run g c =
    passed_all (c.loop-element.next - c.args.at) (omega (arith, free_le (end_state c.args.from.now).receiver.slots))
    c.loop-element.invariant.run c.in_default.ensures
