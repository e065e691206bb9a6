-- What is printed of numbers, of elements of each kind and of what a listener made of bytes.
use Rattle.std.specs.Prelude.{ℕ, ℤ, pos, negsuc, ◌/◌, ◌%◌, List, [], ◌++◌, Some, None, Ok, Err, Option, Result, codes, decimal, unsigned_abs}
use Rattle.refusal.specs.Refusals.{shown_of}
use Rattle.refusal.specs.declared.Refusal.{Refusal}
use Rattle.element.specs.declared.order.Order.{Order}
use Rattle.element.specs.declared.order.Order.TheVariants.{Tune, Point, Note}
use Rattle.element.specs.declared.ozone.Ozone.{Ozone}
use Rattle.element.specs.declared.reading.Reading.{Reading}
use Rattle.element.specs.declared.wind.Wind.{Wind}
use Rattle.frame.specs.declared.Frame.{Frame}
use Rattle.frame.specs.declared.Frame.TheVariants.{Bare, Laden}
use Rattle.telling.specs.declared.Decimal.{Decimal}
use Rattle.telling.specs.declared.Decimal.TheVariants.{Tenths, Hundredths}
use Rattle.telling.specs.declared.Told.{Told}
use Rattle.telling.specs.declared.Heard.{Heard}

-- a minus before a number below 0, and nothing before any other
abbrev pub sign_text : ℤ → List ℕ
sign_text (pos n) = []
sign_text (negsuc n) = codes "-"

-- a number of tenths
abbrev pub tenths : ℤ → List ℕ
tenths z = sign_text z ++ (decimal (unsigned_abs z / 10) ++ (codes "." ++ decimal (unsigned_abs z % 10)))

-- a number of hundredths
abbrev pub hundredths : ℤ → List ℕ
hundredths z = sign_text z ++ (decimal (unsigned_abs z / 100) ++ (codes "." ++ (decimal (unsigned_abs z / 10 % 10) ++ decimal (unsigned_abs z % 10))))

-- what is printed of a number with a decimal point
abbrev pub decimal_text : Decimal → Option (List ℕ)
decimal_text (Tenths z) = Some (tenths z)
decimal_text (Hundredths z) = Some (hundredths z)

-- a reading: its fields in their order, each with its unit
abbrev pub reading_words : Reading → List ℕ
reading_words r = tenths (pos r.time) ++ (codes " s, " ++ (tenths r.height ++ (codes " m, " ++ (hundredths r.temperature ++ (codes " C, " ++ (tenths (pos r.humidity) ++ (codes " %, " ++ (tenths (pos r.pressure) ++ codes " hPa"))))))))

-- what is printed of a reading
abbrev pub reading_text : Told Reading → Option (List ℕ)
reading_text t = Some (reading_words t.0)

-- ozone: its fields in their order, each with its unit
abbrev pub ozone_words : Ozone → List ℕ
ozone_words o = tenths (pos o.time) ++ (codes " s, " ++ (hundredths (pos o.partial_pressure) ++ (codes " mPa, " ++ (hundredths o.cell_temperature ++ codes " C"))))

-- what is printed of ozone
abbrev pub ozone_text : Told Ozone → Option (List ℕ)
ozone_text t = Some (ozone_words t.0)

-- a wind: its fields in their order, each with its unit
abbrev pub wind_words : Wind → List ℕ
wind_words w = tenths (pos w.time) ++ (codes " s, " ++ (hundredths (pos w.direction) ++ (codes " degrees, " ++ (tenths (pos w.speed) ++ codes " m/s"))))

-- what is printed of a wind
abbrev pub wind_text : Told Wind → Option (List ℕ)
wind_text t = Some (wind_words t.0)

-- an order: what is to be done, and its numbers with their unit
abbrev pub order_words : Order → List ℕ
order_words (Tune khz) = codes "tune to " ++ (decimal khz ++ codes " kHz")
order_words (Point bearing elevation) = codes "point to bearing " ++ (hundredths (pos bearing) ++ (codes " and elevation " ++ (hundredths (pos elevation) ++ codes " degrees")))
order_words (Note number) = codes "note " ++ decimal number

-- what is printed of an order
abbrev pub order_text : Told Order → Option (List ℕ)
order_text t = Some (order_words t.0)

-- a frame: its acknowledgement, and its reading under its number where it is laden
abbrev pub frame_words : Frame Reading → List ℕ
frame_words (Bare ack) = codes "acknowledgement " ++ (decimal ack ++ codes " alone.")
frame_words (Laden ack number element) = codes "acknowledgement " ++ (decimal ack ++ (codes " and reading number " ++ (decimal number ++ (codes ":\n    " ++ reading_words element))))

-- what is printed of a frame with a reading
abbrev pub frame_text : Told (Frame Reading) → Option (List ℕ)
frame_text t = Some (frame_words t.0)

-- a text that is printed; nothing where none is promised
abbrev pub text_of : Option (List ℕ) → List ℕ
text_of None = []
text_of (Some bs) = bs

-- an answer, behind the name of who listened
abbrev pub heard_words : List ℕ → Result (Frame Reading) Refusal → List ℕ
heard_words who (Ok frame) = who ++ (codes " hears " ++ frame_words frame)
heard_words who (Err refusal) = who ++ (codes " hears nothing: " ++ (text_of (shown_of refusal) ++ codes "."))

-- what is printed of what a listener made of bytes
abbrev pub heard_text : Heard → Option (List ℕ)
heard_text h = Some (heard_words h.who.now h.answer)
