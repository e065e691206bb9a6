use Rattle.std.proofs.Common.{◌≡◌, ◌++◌, ℕ, zero, suc, List, [], ◌∷◌, map, take, drop, get_or, take_all, refl, ap, rules}
use Rattle.std.proofs.lemmas.List.{drop_all}
use Rattle.std.proofs.lemmas.List.Edits.{map_over_more}
use Rattle.air.specs.Waiting.{overtaken}
use Rattle.pool.specs.declared.entry.Entry.{Entry}
use Rattle.pool.specs.Entries.{frame_in, frames_in, raised_entry}
use Rattle.pool.proofs.entry.raise_counts.Goals as goal

-- to raise the first k entries is to overtake their frames
frames_raised : (k : ℕ) (entries : List Entry) → frames_in (map raised_entry (take k entries) ++ drop k entries) ≡ overtaken k (frames_in entries)
frames_raised zero entries = refl
frames_raised (suc k) [] = refl
frames_raised (suc k) (e ∷ entries) = ap (λ ws. frame_in (raised_entry e) ∷ ws) (frames_raised k entries)

pub loop-entry-preserved : goal.loop-entry-preserved
loop-entry-preserved c =
    let now = c.loop-entry.entry-items in
    let i = c.loop-entry.entry-index in
    rw c.raise.ensures (map_over_more raised_entry (take c.args.k c.args.entries.now) now i (get_or now i c.entry-item.result) c.loop-entry-test.true c.loop-entry.invariant (ap (get_or now i) c.entry-item.is))

pub returns : goal.returns
returns c = search (rules, take_all, drop_all, frames_raised)
