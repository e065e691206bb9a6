-- What is printed of the headlines of elements.
use Rattle.std.specs.Prelude.{ℕ, pos, List, ◌++◌, Some, Option, codes}
use Rattle.element.specs.declared.order.OrderHeadline.{OrderHeadline}
use Rattle.element.specs.declared.order.Tag.{Tag}
use Rattle.element.specs.declared.order.Tag.TheVariants.{Tune, Point, Note}
use Rattle.element.specs.declared.ozone.OzoneHeadline.{OzoneHeadline}
use Rattle.element.specs.declared.reading.ReadingHeadline.{ReadingHeadline}
use Rattle.element.specs.declared.wind.WindHeadline.{WindHeadline}
use Rattle.telling.specs.Telling.{tenths, hundredths}
use Rattle.telling.specs.declared.Told.{Told}

-- what is printed of a reading's headline: height and temperature
abbrev pub reading_headline_text : Told ReadingHeadline → Option (List ℕ)
reading_headline_text t = Some (tenths t.0.height ++ (codes " m, " ++ (hundredths t.0.temperature ++ codes " C")))

-- what is printed of ozone's headline: the partial pressure
abbrev pub ozone_headline_text : Told OzoneHeadline → Option (List ℕ)
ozone_headline_text t = Some (hundredths (pos t.0.partial_pressure) ++ codes " mPa")

-- what is printed of a wind's headline: direction and speed
abbrev pub wind_headline_text : Told WindHeadline → Option (List ℕ)
wind_headline_text t = Some (hundredths (pos t.0.direction) ++ (codes " degrees, " ++ (tenths (pos t.0.speed) ++ codes " m/s")))

-- the word for a tag
abbrev pub tag_words : Tag → List ℕ
tag_words Tune = codes "tune"
tag_words Point = codes "point"
tag_words Note = codes "note"

-- what is printed of an order's headline: its tag
abbrev pub order_headline_text : Told OrderHeadline → Option (List ℕ)
order_headline_text t = Some (tag_words t.0.tag)
