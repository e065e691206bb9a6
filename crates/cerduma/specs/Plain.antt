-- Frames of any kind in plain fields.
use Rattle.std.specs.Prelude.{ℕ, true, false, cond, List}
use Rattle.element.specs.Kinds.{Coding}
use Rattle.frame.specs.declared.Format.{Format}
use Rattle.frame.specs.declared.Frame.{Frame}
use Rattle.frame.specs.declared.Frame.TheVariants.{Bare, Laden}
use Rattle.cerduma.specs.Answers.{read, written}
use Rattle.cerduma.specs.declared.Answer.{Answer}
use Rattle.cerduma.specs.declared.plain.PlainFrame.{PlainFrame}

-- how a kind K crosses to C, where E has the fields of an element and F is the struct of a frame: the fields of no element, those of
-- an element, and the element that has such fields; the struct with a frame in it, and the frame in a struct
pub record Form (K E F : Type 0) : Type 0 where
  pub none : E
  pub fields : K → E
  pub element : E → K
  pub packed : PlainFrame E → F
  pub unpacked : F → PlainFrame E

module _ {K E F : Type 0} (form : Form K E F) where
  -- a frame in plain fields
  abbrev pub plain_of : Frame K → PlainFrame E
  plain_of (Bare ack) = record { laden = false; ack = ack; number = 0; element = form.none }
  plain_of (Laden ack number e) = record { laden = true; ack = ack; number = number; element = form.fields e }

  -- the frame that plain fields tell
  abbrev pub frame_of : PlainFrame E → Frame K
  frame_of f = cond f.laden (Laden f.ack f.number (form.element f.element)) (Bare f.ack)

module _ {K E F : Type 0} (kind : Coding K) (form : Form K E F) (format : Format) where
  -- what hearing bytes as a frame answers, and what the caller's struct then holds
  abbrev pub read_as : List ℕ → F → Answer × F
  read_as bs old = read kind format (λ f. form.packed (plain_of form f)) bs old

  -- what writing the frame in a struct answers, and what the caller's area then holds
  abbrev pub written_as : F → List ℕ → Answer × List ℕ
  written_as f area = written kind format (frame_of form (form.unpacked f)) area
