use Rattle.std.proofs.Common.{◌≡◌, ◌++◌, map, take, drop}
use Rattle.pool.specs.Entries.{raised_entry}
use Rattle.pool.proofs.entry.raise_counts.Given as goal

abbrev pub invariant-loop-entry : goal.invariant-loop-entry
invariant-loop-entry l = l.entry-items ≡ map raised_entry (take l.entry-index l.initial.entry-items) ++ drop l.entry-index l.initial.entry-items
