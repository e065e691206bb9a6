-- What the protocol speaks of, as the code keeps it: the sender and the receiver, the terms of a stream, and its numbers.
use Rattle.frame.specs.declared.Side.{Side}
use Rattle.protocol.specs.declared.cycle.Cycle.{Cycle}
use Rattle.protocol.specs.declared.draft.Draft.{Draft}
use Rattle.protocol.specs.declared.terms.Terms.{Terms}
use Rattle.protocol.specs.Drafts.{sent_by}
use Rattle.protocol.specs.Windows.{Numbering, cyclic, Sender as SenderState, Receiver as ReceiverState}
use Rattle.window.specs.declared.sender.Sender.{Sender}
use Rattle.window.specs.declared.receiver.Receiver.{Receiver}

-- the terms of the stream that a side sends, as they were drafted
abbrev pub terms_of : Draft → Side → Terms
terms_of draft sender = sent_by sender draft.hut_bound draft.mast_bound

-- the numbers of a stream: those of its cycle
abbrev pub numbers_of : Cycle → Numbering
numbers_of cycle = cyclic cycle.length

module _ {E : Type 0} where
  -- a sender by its low number and its held elements
  abbrev pub sender_state : Sender E → SenderState E
  sender_state s = record { low = s.low; held = s.held.items }

  -- a receiver by its base number and its slots
  abbrev pub receiver_state : Receiver E → ReceiverState E
  receiver_state r = record { base = r.base; slots = r.slots.items }
