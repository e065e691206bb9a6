-- Ozone in plain fields, and frames that carry it.
use Rattle.std.specs.Prelude.{ℕ, List, pos}
use Rattle.element.specs.Ozones.{ozone_coding}
use Rattle.element.specs.declared.ozone.Ozone.{Ozone}
use Rattle.frame.specs.declared.Side.TheVariants.{Mast}
use Rattle.cerduma.specs.Answers.{format_of}
use Rattle.cerduma.specs.Plain.{Form, read_as, written_as}
use Rattle.cerduma.specs.declared.Answer.{Answer}
use Rattle.cerduma.specs.declared.ozone.OzoneFields.{OzoneFields}
use Rattle.cerduma.specs.declared.ozone.OzoneFrame.{OzoneFrame}
use Rattle.cerduma.specs.declared.plain.PlainFrame.{PlainFrame}

-- what stands for the ozone of a bare frame
abbrev pub no_ozone : OzoneFields
no_ozone = record { time = 0; partial_pressure = 0; cell_temperature = pos 0 }

-- the fields of ozone
abbrev pub fields_of : Ozone → OzoneFields
fields_of o = record { time = o.time; partial_pressure = o.partial_pressure; cell_temperature = o.cell_temperature }

-- the ozone that has such fields
abbrev pub ozone_of : OzoneFields → Ozone
ozone_of f = record { time = f.time; partial_pressure = f.partial_pressure; cell_temperature = f.cell_temperature }

-- the struct with a frame in it
abbrev pub packed : PlainFrame OzoneFields → OzoneFrame
packed f = record { laden = f.laden; ack = f.ack; number = f.number; ozone = f.element }

-- the frame in a struct
abbrev pub unpacked : OzoneFrame → PlainFrame OzoneFields
unpacked f = record { laden = f.laden; ack = f.ack; number = f.number; element = f.ozone }

-- how ozone crosses
abbrev pub ozone_form : Form Ozone OzoneFields OzoneFrame
ozone_form = record { none = no_ozone; fields = fields_of; element = ozone_of; packed = packed; unpacked = unpacked }

-- what hearing a frame from the mast answers, by the two cycles, and what the caller's frame then holds
abbrev pub ozone_read : ℕ → ℕ → List ℕ → OzoneFrame → Answer × OzoneFrame
ozone_read ack number bs old = read_as ozone_coding ozone_form (format_of Mast ack number) bs old

-- what writing a frame for the hut answers, and what the caller's area then holds
abbrev pub ozone_written : ℕ → ℕ → OzoneFrame → List ℕ → Answer × List ℕ
ozone_written ack number f area = written_as ozone_coding ozone_form (format_of Mast ack number) f area
