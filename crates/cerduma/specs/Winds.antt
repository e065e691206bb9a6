-- Winds in plain fields, and frames that carry them.
use Rattle.std.specs.Prelude.{ℕ, List}
use Rattle.element.specs.Winds.{wind_coding}
use Rattle.element.specs.declared.wind.Wind.{Wind}
use Rattle.frame.specs.declared.Side.TheVariants.{Mast}
use Rattle.cerduma.specs.Answers.{format_of}
use Rattle.cerduma.specs.Plain.{Form, read_as, written_as}
use Rattle.cerduma.specs.declared.Answer.{Answer}
use Rattle.cerduma.specs.declared.wind.WindFields.{WindFields}
use Rattle.cerduma.specs.declared.wind.WindFrame.{WindFrame}
use Rattle.cerduma.specs.declared.plain.PlainFrame.{PlainFrame}

-- what stands for the wind of a bare frame
abbrev pub no_wind : WindFields
no_wind = record { time = 0; direction = 0; speed = 0 }

-- the fields of a wind
abbrev pub fields_of : Wind → WindFields
fields_of w = record { time = w.time; direction = w.direction; speed = w.speed }

-- the wind that has such fields
abbrev pub wind_of : WindFields → Wind
wind_of f = record { time = f.time; direction = f.direction; speed = f.speed }

-- the struct with a frame in it
abbrev pub packed : PlainFrame WindFields → WindFrame
packed f = record { laden = f.laden; ack = f.ack; number = f.number; wind = f.element }

-- the frame in a struct
abbrev pub unpacked : WindFrame → PlainFrame WindFields
unpacked f = record { laden = f.laden; ack = f.ack; number = f.number; element = f.wind }

-- how winds cross
abbrev pub wind_form : Form Wind WindFields WindFrame
wind_form = record { none = no_wind; fields = fields_of; element = wind_of; packed = packed; unpacked = unpacked }

-- what hearing a frame from the mast answers, by the two cycles, and what the caller's frame then holds
abbrev pub wind_read : ℕ → ℕ → List ℕ → WindFrame → Answer × WindFrame
wind_read ack number bs old = read_as wind_coding wind_form (format_of Mast ack number) bs old

-- what writing a frame for the hut answers, and what the caller's area then holds
abbrev pub wind_written : ℕ → ℕ → WindFrame → List ℕ → Answer × List ℕ
wind_written ack number f area = written_as wind_coding wind_form (format_of Mast ack number) f area
