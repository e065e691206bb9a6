-- Which winds there are, and their eight bytes.
use Rattle.std.specs.Prelude.{ℕ, ◌^◌, List, [], ◌∷◌, ◌++◌, Option, nat_le, nat_lt, slice_index}
use Rattle.octets.specs.Numbers.{bytes16, bytes32, number16, number32}
use Rattle.element.specs.Kinds.{Coding, Field, field}
use Rattle.element.specs.Widths.{value_in}
use Rattle.element.specs.declared.wind.Wind.{Wind}
use Rattle.element.specs.declared.wind.WindHeadline.{WindHeadline}

-- the fields of a wind, each with its range
abbrev pub wind_fields : Wind → List Field
wind_fields w =
    field 0 (nat_le (2 ^ 32) w.time)
    ∷ field 4 (nat_lt 35999 w.direction)
    ∷ field 6 (nat_lt 2000 w.speed)
    ∷ []

-- the eight bytes of a wind
abbrev pub wind_written : Wind → List ℕ
wind_written w = bytes32 w.time ++ (bytes16 w.direction ++ bytes16 w.speed)

-- the fields of eight bytes
abbrev pub wind_parts : List ℕ → Wind
wind_parts bs = record {
  time = number32 (slice_index bs 0) (slice_index bs 1) (slice_index bs 2) (slice_index bs 3);
  direction = number16 (slice_index bs 4) (slice_index bs 5);
  speed = number16 (slice_index bs 6) (slice_index bs 7);
}

-- the wind that bytes hold; none where they are not eight
abbrev pub wind_value : List ℕ → Option Wind
wind_value = value_in 8 wind_parts

-- wind as a kind
abbrev pub wind_coding : Coding Wind
wind_coding = record { width = 8; fields = wind_fields; written = wind_written; value = wind_value }

-- what a console shows of a wind: its direction and its speed
abbrev pub wind_headline : Wind → WindHeadline
wind_headline w = record { direction = w.direction; speed = w.speed }

-- some wind
abbrev pub a_wind : Wind
a_wind = record { time = 0; direction = 0; speed = 0 }
