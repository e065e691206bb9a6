-- What each refusal is known by: its number, its place in a frame, and its words. All contracts that refuse rest on these.
use Rattle.std.specs.Prelude.{ℕ, List, [], ◌++◌, Some, None, Ok, Err, codes, decimal, Option, Result}
use Rattle.refusal.specs.declared.Refusal.{Refusal}
use Rattle.refusal.specs.declared.Refusal.TheVariants.{WindowOutOfLimits, BoundOutOfLimits, CycleOutOfLimits, WindowFull, NotHeld, AirFull, NoFrame, BoundReached, SizeOutOfLimits, FrameLength, MarkOrVersion, WrongCheck, WrongField, NumberPastCycle, NoElement, ListTooShort, FieldOutOfRange, NoRoomInAir}

-- the number of a refusal, 1 to 18
abbrev pub number_of : Refusal → ℕ
number_of WindowOutOfLimits = 1
number_of BoundOutOfLimits = 2
number_of CycleOutOfLimits = 3
number_of WindowFull = 4
number_of NotHeld = 5
number_of AirFull = 6
number_of NoFrame = 7
number_of BoundReached = 8
number_of SizeOutOfLimits = 9
number_of FrameLength = 10
number_of MarkOrVersion = 11
number_of (WrongCheck place) = 12
number_of (WrongField place) = 13
number_of (NumberPastCycle place) = 14
number_of (NoElement place) = 15
number_of ListTooShort = 16
number_of FieldOutOfRange = 17
number_of NoRoomInAir = 18

-- the byte of the frame that is at fault; only refusals of a frame's bytes have one
abbrev pub place_of : Refusal → Option ℕ
place_of WindowOutOfLimits = None
place_of BoundOutOfLimits = None
place_of CycleOutOfLimits = None
place_of WindowFull = None
place_of NotHeld = None
place_of AirFull = None
place_of NoFrame = None
place_of BoundReached = None
place_of SizeOutOfLimits = None
place_of FrameLength = Some 0
place_of MarkOrVersion = Some 0
place_of (WrongCheck place) = Some place
place_of (WrongField place) = Some place
place_of (NumberPastCycle place) = Some place
place_of (NoElement place) = Some place
place_of ListTooShort = None
place_of FieldOutOfRange = None
place_of NoRoomInAir = None

-- the reason in words
abbrev pub reason_of : Refusal → List ℕ
reason_of WindowOutOfLimits = codes "a window is not 1 to 32"
reason_of BoundOutOfLimits = codes "a bound is not 0 to 255"
reason_of CycleOutOfLimits = codes "a cycle is outside its limits"
reason_of WindowFull = codes "the window is full"
reason_of NotHeld = codes "no element is held there"
reason_of AirFull = codes "the air is full"
reason_of NoFrame = codes "no frame waits there"
reason_of BoundReached = codes "an older frame cannot be overtaken again"
reason_of SizeOutOfLimits = codes "an air carries 1 to 32 bytes"
reason_of FrameLength = codes "a frame has 14 to 32 bytes"
reason_of MarkOrVersion = codes "no mark and version of this format"
reason_of (WrongCheck place) = codes "the check is wrong"
reason_of (WrongField place) = codes "a header field is wrong"
reason_of (NumberPastCycle place) = codes "a number is not below its cycle"
reason_of (NoElement place) = codes "these bytes are no element of the kind"
reason_of ListTooShort = codes "a list is too short"
reason_of FieldOutOfRange = codes "a field is out of range"
reason_of NoRoomInAir = codes "an air has no room"

-- the place in words, where there is one
abbrev pub place_shown : Option ℕ → List ℕ
place_shown None = []
place_shown (Some place) = codes " at byte " ++ decimal place

-- what is printed of a refusal: its number, its place and its reason
abbrev pub shown_of : Refusal → Option (List ℕ)
shown_of r = Some (codes "refusal " ++ (decimal (number_of r) ++ (place_shown (place_of r) ++ (codes ": " ++ reason_of r))))

-- an answer, unless there is a cause to refuse
abbrev pub unless : {A E : Type 0} → A → Option E → Result A E
unless x None = Ok x
unless x (Some cause) = Err cause
