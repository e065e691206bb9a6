-- Readings in plain fields, and frames that carry them.
use Rattle.std.specs.Prelude.{ℕ, List, pos}
use Rattle.element.specs.Readings.{reading_coding}
use Rattle.element.specs.declared.reading.Reading.{Reading}
use Rattle.frame.specs.declared.Side.TheVariants.{Mast}
use Rattle.cerduma.specs.Answers.{format_of}
use Rattle.cerduma.specs.Plain.{Form, read_as, written_as}
use Rattle.cerduma.specs.declared.Answer.{Answer}
use Rattle.cerduma.specs.declared.reading.ReadingFields.{ReadingFields}
use Rattle.cerduma.specs.declared.reading.ReadingFrame.{ReadingFrame}
use Rattle.cerduma.specs.declared.plain.PlainFrame.{PlainFrame}

-- what stands for the reading of a bare frame
abbrev pub no_reading : ReadingFields
no_reading = record { time = 0; height = pos 0; temperature = pos 0; humidity = 0; pressure = 0 }

-- the fields of a reading
abbrev pub fields_of : Reading → ReadingFields
fields_of r = record { time = r.time; height = r.height; temperature = r.temperature; humidity = r.humidity; pressure = r.pressure }

-- the reading that has such fields
abbrev pub reading_of : ReadingFields → Reading
reading_of f = record { time = f.time; height = f.height; temperature = f.temperature; humidity = f.humidity; pressure = f.pressure }

-- the struct with a frame in it
abbrev pub packed : PlainFrame ReadingFields → ReadingFrame
packed f = record { laden = f.laden; ack = f.ack; number = f.number; reading = f.element }

-- the frame in a struct
abbrev pub unpacked : ReadingFrame → PlainFrame ReadingFields
unpacked f = record { laden = f.laden; ack = f.ack; number = f.number; element = f.reading }

-- how readings cross
abbrev pub reading_form : Form Reading ReadingFields ReadingFrame
reading_form = record { none = no_reading; fields = fields_of; element = reading_of; packed = packed; unpacked = unpacked }

-- what hearing a frame from the mast answers, by the two cycles, and what the caller's frame then holds
abbrev pub reading_read : ℕ → ℕ → List ℕ → ReadingFrame → Answer × ReadingFrame
reading_read ack number bs old = read_as reading_coding reading_form (format_of Mast ack number) bs old

-- what writing a frame for the hut answers, and what the caller's area then holds
abbrev pub reading_written : ℕ → ℕ → ReadingFrame → List ℕ → Answer × List ℕ
reading_written ack number f area = written_as reading_coding reading_form (format_of Mast ack number) f area
