-- Which elements a sender holds, and what it answers to one that it is to accept.
use Rattle.std.specs.Prelude.{ℕ, length, Option, Result, nat_lt, option_map, slice_get}
use Rattle.std.specs.Option.{option_or, option_map_or}
use Rattle.refusal.specs.Refusals.{unless}
use Rattle.refusal.specs.declared.Refusal.{Refusal}
use Rattle.refusal.specs.declared.Refusal.TheVariants.{WindowFull}
use Rattle.element.specs.Kinds.{Coding, fault_of, out_of_range}
use Rattle.protocol.specs.Drafts.{refused_unless}
use Rattle.protocol.specs.Windows.{Numbering, Sender, holding}

module _ {E : Type 0} where
  -- the k-th held element, counted from 0, and its number; none if no more than k are held
  abbrev pub held_at : Numbering → (k : ℕ) → Sender E → Option (ℕ × E)
  held_at numbers k s = option_map (λ e. (numbers.after s.low k, e)) (slice_get s.held k)

  -- why an element of a kind is not accepted: as many are held as the window is wide (4), or one of its fields is out of range (17)
  abbrev pub full_or_unfit : Coding E → (window : ℕ) → E → Sender E → Option Refusal
  full_or_unfit kind window e s =
      option_or (refused_unless (nat_lt (length s.held) window) WindowFull) (out_of_range (fault_of kind e))

  -- the answer to an element, and the sender after it: it is held behind the others, unless there is a cause to refuse it
  abbrev pub accepting : Coding E → (window : ℕ) → E → Sender E → Result (Unit {0}) Refusal × Sender E
  accepting kind window e s =
      let refusal = full_or_unfit kind window e s in
      (unless tt refusal, option_map_or (λ r. s) refusal (holding e s))
