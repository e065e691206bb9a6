-- What a draft is refused for, and the least cycle that a stream can have.
use Rattle.std.specs.Prelude.{ℕ, ◌+◌, ◌*◌, ◌≤◌, max, Bool, cond, ◌&&◌, Some, None, Option, nat_le}
use Rattle.std.specs.Option.{option_or}
use Rattle.refusal.specs.declared.Refusal.{Refusal}
use Rattle.refusal.specs.declared.Refusal.TheVariants.{WindowOutOfLimits, BoundOutOfLimits, CycleOutOfLimits}
use Rattle.frame.specs.Formats.{other_side}
use Rattle.frame.specs.declared.Format.{Format}
use Rattle.frame.specs.declared.Side.{Side}
use Rattle.frame.specs.declared.Side.TheVariants.{Mast, Hut}
use Rattle.protocol.specs.declared.terms.Terms.{Terms}

-- the least cycle of a stream with this window and this bound, where the other stream has this other bound. Two windows and the bound
-- keep its frames apart; a window for each time that an acknowledgement may be overtaken, one window and one number more keep its
-- acknowledgements apart
abbrev pub least_cycle : (window bound other_bound : ℕ) → ℕ
least_cycle window bound other_bound = max (2 * window + bound) ((other_bound + 1) * window + 1)

-- the longest cycle that is drafted; its numbers fit the two bytes that a frame has for each
abbrev pub longest_cycle : ℕ
longest_cycle = 16384

-- the terms of a stream are within the limits, where the other stream has this other bound
pub record InLimits (t : Terms) (other_bound : ℕ) : Type 0 where
  pub window_least : 1 ≤ t.window
  pub window_most : t.window ≤ 32
  pub bound_most : t.bound ≤ 255
  pub cycle_least : least_cycle t.window t.bound other_bound ≤ t.cycle
  pub cycle_most : t.cycle ≤ longest_cycle

-- the terms of both streams are within the limits
pub record Drafted (t u : Terms) : Type 0 where
  pub out : InLimits t u.bound
  pub back : InLimits u t.bound

-- the terms of the stream that a side sends
abbrev pub sent_by : Side → (hut_bound mast_bound : Terms) → Terms
sent_by Mast t u = t
sent_by Hut t u = u

-- the format of the frames that a side sends: numbered on the cycle of the stream that it sends, with acknowledgements of the other
abbrev pub format_of : Side → (hut_bound mast_bound : Terms) → Format
format_of side t u = record {
  sender = side;
  cycles = record { ack = (sent_by (other_side side) t u).cycle; number = (sent_by side t u).cycle };
}

-- a window is within its limits
abbrev pub window_fits : Terms → Bool
window_fits t = nat_le 1 t.window && nat_le t.window 32

-- a cycle is within its limits, where the other stream has this other bound
abbrev pub cycle_fits : Terms → (other_bound : ℕ) → Bool
cycle_fits t other_bound = nat_le (least_cycle t.window t.bound other_bound) t.cycle && nat_le t.cycle longest_cycle

-- a refusal, unless a test holds
abbrev pub refused_unless : Bool → Refusal → Option Refusal
refused_unless holds refusal = cond holds None (Some refusal)

-- why a draft is refused: by the smallest number that applies to either stream
abbrev pub draft_refusal : Terms → Terms → Option Refusal
draft_refusal t u =
    option_or (refused_unless (window_fits t && window_fits u) WindowOutOfLimits)
    (option_or (refused_unless (nat_le t.bound 255 && nat_le u.bound 255) BoundOutOfLimits)
    (refused_unless (cycle_fits t u.bound && cycle_fits u t.bound) CycleOutOfLimits))
