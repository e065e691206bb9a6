-- What the calls of an end and of a link answer, as the machine says it.
use Rattle.std.specs.Prelude.{Ok, Err, Result}
use Rattle.refusal.specs.declared.Refusal.{Refusal}
use Rattle.protocol.specs.Machine.{Reply}
use Rattle.protocol.specs.Machine.Reply.{done, heard, refused}
use Rattle.link.specs.declared.Hearing.{Hearing}

module _ {F : Type 0} where
  -- done, or why not
  abbrev pub done_reply : Result (Unit {0}) Refusal → Reply F
  done_reply (Ok u) = done
  done_reply (Err r) = refused r

  -- what became of a frame that was heard, or why none was
  abbrev pub heard_reply : Result Hearing Refusal → Reply F
  heard_reply (Ok h) = heard h.released h.placement
  heard_reply (Err r) = refused r
