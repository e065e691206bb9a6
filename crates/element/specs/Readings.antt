-- Which readings there are, and their fourteen bytes.
use Rattle.std.specs.Prelude.{ℕ, ◌^◌, List, [], ◌∷◌, ◌++◌, pos, Option, nat_le, nat_lt, slice_index}
use Rattle.std.proofs.Common.{to_z, of_z}
use Rattle.std.specs.Int.{w16, w32}
use Rattle.octets.specs.Numbers.{bytes16, bytes32, number16, number32}
use Rattle.element.specs.Kinds.{Coding, Field, field}
use Rattle.element.specs.Ranges.{minus, out_of}
use Rattle.element.specs.Widths.{value_in}
use Rattle.element.specs.declared.reading.Reading.{Reading}
use Rattle.element.specs.declared.reading.ReadingHeadline.{ReadingHeadline}

-- the fields of a reading, each with its range
abbrev pub reading_fields : Reading → List Field
reading_fields r =
    field 0 (nat_le (2 ^ 32) r.time)
    ∷ field 4 (out_of (minus 5000) (pos 500000) r.height)
    ∷ field 8 (out_of (minus 12000) (pos 6000) r.temperature)
    ∷ field 10 (nat_lt 1000 r.humidity)
    ∷ field 12 (nat_lt 11000 r.pressure)
    ∷ []

-- a signed field is written as the number that leaves the same remainder by 2 to the power of its bits
abbrev pub reading_written : Reading → List ℕ
reading_written r = bytes32 r.time ++ (bytes32 (of_z w32 r.height) ++ (bytes16 (of_z w16 r.temperature) ++ (bytes16 r.humidity ++ bytes16 r.pressure)))

-- the fields of fourteen bytes
abbrev pub reading_parts : List ℕ → Reading
reading_parts bs = record {
  time = number32 (slice_index bs 0) (slice_index bs 1) (slice_index bs 2) (slice_index bs 3);
  height = to_z w32 (number32 (slice_index bs 4) (slice_index bs 5) (slice_index bs 6) (slice_index bs 7));
  temperature = to_z w16 (number16 (slice_index bs 8) (slice_index bs 9));
  humidity = number16 (slice_index bs 10) (slice_index bs 11);
  pressure = number16 (slice_index bs 12) (slice_index bs 13);
}

-- the reading that bytes hold; none where they are not fourteen
abbrev pub reading_value : List ℕ → Option Reading
reading_value = value_in 14 reading_parts

-- readings as a kind
abbrev pub reading_coding : Coding Reading
reading_coding = record { width = 14; fields = reading_fields; written = reading_written; value = reading_value }

-- what a console shows of a reading: its height and its temperature
abbrev pub reading_headline : Reading → ReadingHeadline
reading_headline r = record { height = r.height; temperature = r.temperature }

-- some reading
abbrev pub a_reading : Reading
a_reading = record { time = 0; height = pos 0; temperature = pos 0; humidity = 0; pressure = 0 }
