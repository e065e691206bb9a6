-- The frames that the entries of a pool's table stand for.
use Rattle.std.specs.Prelude.{◌+◌, List, map}
use Rattle.air.specs.Waiting.{Waiting}
use Rattle.air.specs.Steps.{Bytes}
use Rattle.pool.specs.declared.entry.Entry.{Entry}

-- the waiting frame in an entry
abbrev pub frame_in : Entry → Waiting Bytes
frame_in e = record { frame = e.frame.items; count = e.count }

-- the waiting frames in some entries
abbrev pub frames_in : List Entry → List (Waiting Bytes)
frames_in entries = map frame_in entries

-- an entry whose frame has been overtaken once more
abbrev pub raised_entry : Entry → Entry
raised_entry e = record { frame = e.frame; count = e.count + 1 }
