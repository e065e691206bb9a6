-- Which ozone there is, and its eight bytes.
use Rattle.std.specs.Prelude.{ℕ, ◌^◌, List, [], ◌∷◌, ◌++◌, pos, Option, nat_le, nat_lt, slice_index}
use Rattle.std.proofs.Common.{to_z, of_z}
use Rattle.std.specs.Int.{w16}
use Rattle.octets.specs.Numbers.{bytes16, bytes32, number16, number32}
use Rattle.element.specs.Kinds.{Coding, Field, field}
use Rattle.element.specs.Ranges.{minus, out_of}
use Rattle.element.specs.Widths.{value_in}
use Rattle.element.specs.declared.ozone.Ozone.{Ozone}
use Rattle.element.specs.declared.ozone.OzoneHeadline.{OzoneHeadline}

-- the fields of ozone, each with its range
abbrev pub ozone_fields : Ozone → List Field
ozone_fields o =
    field 0 (nat_le (2 ^ 32) o.time)
    ∷ field 4 (nat_lt 5000 o.partial_pressure)
    ∷ field 6 (out_of (minus 5000) (pos 5000) o.cell_temperature)
    ∷ []

-- the temperature is written as the number from 0 that leaves the same remainder by 2 to the power of its bits
abbrev pub ozone_written : Ozone → List ℕ
ozone_written o = bytes32 o.time ++ (bytes16 o.partial_pressure ++ bytes16 (of_z w16 o.cell_temperature))

-- the fields of eight bytes
abbrev pub ozone_parts : List ℕ → Ozone
ozone_parts bs = record {
  time = number32 (slice_index bs 0) (slice_index bs 1) (slice_index bs 2) (slice_index bs 3);
  partial_pressure = number16 (slice_index bs 4) (slice_index bs 5);
  cell_temperature = to_z w16 (number16 (slice_index bs 6) (slice_index bs 7));
}

-- the ozone that bytes hold; none where they are not eight
abbrev pub ozone_value : List ℕ → Option Ozone
ozone_value = value_in 8 ozone_parts

-- ozone as a kind
abbrev pub ozone_coding : Coding Ozone
ozone_coding = record { width = 8; fields = ozone_fields; written = ozone_written; value = ozone_value }

-- what a console shows of ozone: its partial pressure
abbrev pub ozone_headline : Ozone → OzoneHeadline
ozone_headline o = record { partial_pressure = o.partial_pressure }

-- some ozone
abbrev pub an_ozone : Ozone
an_ozone = record { time = 0; partial_pressure = 0; cell_temperature = pos 0 }
