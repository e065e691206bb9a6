-- The worked cases of the protocol, each as an equation between the definitions and what they are worked out to.
use Rattle.std.specs.Prelude.{◌≡◌, ℕ, true, List, [], ◌∷◌, Some, None, reverse}
use Rattle.refusal.specs.Refusals.{number_of}
use Rattle.refusal.specs.declared.Refusal.TheVariants.{WindowOutOfLimits, BoundOutOfLimits, CycleOutOfLimits}
use Rattle.frame.specs.declared.Frame.{Frame}
use Rattle.protocol.specs.Windows.{cyclic, released, slot_for, place_at}
use Rattle.protocol.specs.Drafts.{draft_refusal, least_cycle}
use Rattle.protocol.specs.Machine.{Setting, as_they_are}
use Rattle.protocol.specs.Machine.Act.{accept, send, bare, deliver, repeat, pass}
use Rattle.protocol.specs.Machine.Reply.{heard}
use Rattle.protocol.specs.Histories.{Call, Answer, answers, after}
use Rattle.protocol.specs.Histories.Call.{mast, hut}
use Rattle.protocol.specs.Histories.Answer.{mast_answer, hut_answer}
use Rattle.protocol.specs.declared.Placement.TheVariants.{Slot, Outside, Bare}
use Rattle.protocol.specs.declared.terms.Terms.{Terms}

-- the terms of a stream
abbrev pub terms : (window bound cycle : ℕ) → Terms
terms window bound cycle = record { window = window; bound = bound; cycle = cycle }

-- a stream whose frames travel as they are, through an air with room for 16, and of whose kind every value is an element
abbrev pub stream : {E : Type 0} → (window bound cycle : ℕ) → Setting E (Frame E)
stream window bound cycle = record { valid = λ e. true; codec = as_they_are; window = window; numbers = cyclic cycle; capacity = 16; bound = bound }

-- what a call answers on a link that has just opened, after these calls from the first one on
abbrev pub answer_after : {E F : Type 0} → Setting E (Frame E) → Setting F (Frame F) → List (Call E F) → Call E F → Answer E F
answer_after c d calls x = answers c d x (after c d (reverse calls))

-- a frame is repeated, and delivered once more after its element was passed: windows 2, bounds 0
abbrev pub late_frame : {E F : Type 0} → (cycle : ℕ) → E → E → Answer E F
late_frame {E} {F} cycle a b =
    answer_after (stream 2 0 cycle) (stream {E = F} 2 0 4)
    (mast (accept a) ∷ mast (accept b) ∷ mast (send 1) ∷ mast (deliver 0) ∷ mast (send 0) ∷ mast (repeat 0) ∷ hut pass ∷ hut pass ∷ [])
    (mast (deliver 0))

-- an acknowledgement waits until a later one has passed it: windows 1, hut-bound bound 0, mast-bound bound 1
abbrev pub late_acknowledgement : {E F : Type 0} → (cycle : ℕ) → E → E → Answer E F
late_acknowledgement {E} {F} cycle a b =
    answer_after (stream 1 0 cycle) (stream {E = F} 1 1 3)
    (hut bare ∷ mast (accept a) ∷ mast (send 0) ∷ mast (deliver 0) ∷ hut pass ∷ hut bare ∷ hut (deliver 1) ∷ mast (accept b) ∷ [])
    (hut (deliver 0))

-- the worked cases A to H, and the drafts beside them that are refused, for any two kinds of element
pub record WorkedLinks (E F : Type 0) : Type 0 where
  -- A: windows 4, bounds 0: cycles of 8 are drafted; one of 7, of either stream, is refused by 3
  pub case_a_drafted : draft_refusal (terms 4 0 8) (terms 4 0 8) ≡ None
  pub case_a_refused : draft_refusal (terms 4 0 7) (terms 4 0 8) ≡ Some CycleOutOfLimits
  pub case_a_back_refused : draft_refusal (terms 4 0 8) (terms 4 0 7) ≡ Some CycleOutOfLimits
  pub case_a_number : number_of CycleOutOfLimits ≡ 3
  -- B: windows 4, hut-bound bound 3, mast-bound bound 0: the least cycles are 11 and 17
  pub case_b_least : least_cycle 4 3 0 ≡ 11
  pub case_b_back_least : least_cycle 4 0 3 ≡ 17
  pub case_b_drafted : draft_refusal (terms 4 3 11) (terms 4 0 17) ≡ None
  pub case_b_refused : draft_refusal (terms 4 3 10) (terms 4 0 17) ≡ Some CycleOutOfLimits
  pub case_b_back_refused : draft_refusal (terms 4 3 11) (terms 4 0 16) ≡ Some CycleOutOfLimits
  -- C: windows 32, bounds 255: the least cycle is 8,193, and none is longer than 16,384
  pub case_c_least : least_cycle 32 255 255 ≡ 8193
  pub case_c_drafted : draft_refusal (terms 32 255 8193) (terms 32 255 8193) ≡ None
  pub case_c_refused : draft_refusal (terms 32 255 8192) (terms 32 255 8193) ≡ Some CycleOutOfLimits
  pub case_c_longest : draft_refusal (terms 32 255 16384) (terms 32 255 16384) ≡ None
  pub case_c_longer : draft_refusal (terms 32 255 16385) (terms 32 255 16384) ≡ Some CycleOutOfLimits
  -- D: windows 1, bounds 0: the least cycle is 2
  pub case_d_least : least_cycle 1 0 0 ≡ 2
  pub case_d_drafted : draft_refusal (terms 1 0 2) (terms 1 0 2) ≡ None
  pub case_d_refused : draft_refusal (terms 1 0 1) (terms 1 0 2) ≡ Some CycleOutOfLimits
  -- a window of 0 or of 33 is refused by 1, and a bound of 256 by 2; a window before a bound, and a bound before a cycle
  pub window_0 : draft_refusal (terms 0 0 8) (terms 4 0 8) ≡ Some WindowOutOfLimits
  pub window_33 : draft_refusal (terms 4 0 8) (terms 33 0 8) ≡ Some WindowOutOfLimits
  pub window_first : draft_refusal (terms 4 256 8) (terms 33 0 8) ≡ Some WindowOutOfLimits
  pub window_number : number_of WindowOutOfLimits ≡ 1
  pub bound_256 : draft_refusal (terms 4 256 8) (terms 4 0 8) ≡ Some BoundOutOfLimits
  pub bound_number : number_of BoundOutOfLimits ≡ 2
  -- E: a window of 4 whose first number is 15, on a cycle of 17: numbers 1, 2 and 14 stand for slot 3, for none and for none
  pub case_e_last_slot : place_at (slot_for (cyclic 17) 15 4 1) ≡ Slot 3
  pub case_e_behind : place_at (slot_for (cyclic 17) 15 4 2) ≡ Outside
  pub case_e_before : place_at (slot_for (cyclic 17) 15 4 14) ≡ Outside
  -- F: 3 held whose first has number 15, on a cycle of 17: acknowledgements 1, 2, 14 and 15 release 3, 0, 0 and 0
  pub case_f_all : released (cyclic 17) 15 3 1 ≡ 3
  pub case_f_beyond : released (cyclic 17) 15 3 2 ≡ 0
  pub case_f_before : released (cyclic 17) 15 3 14 ≡ 0
  pub case_f_none : released (cyclic 17) 15 3 15 ≡ 0
  -- G: on a cycle that is one too short, the frame that is delivered late fills slot 1, a false place; on the least cycle it is outside
  pub case_g_least : least_cycle 2 0 0 ≡ 4
  pub case_g_short : (a b : E) → late_frame {F = F} 3 a b ≡ mast_answer (heard 0 (Slot 1))
  pub case_g_long : (a b : E) → late_frame {F = F} 4 a b ≡ mast_answer (heard 0 Outside)
  -- H: on a cycle that is one too short, the late acknowledgement releases b, which was never sent; on the least cycle it releases none
  pub case_h_least : least_cycle 1 0 1 ≡ 3
  pub case_h_short : (a b : E) → late_acknowledgement {F = F} 2 a b ≡ hut_answer (heard 1 Bare)
  pub case_h_long : (a b : E) → late_acknowledgement {F = F} 3 a b ≡ hut_answer (heard 0 Bare)
