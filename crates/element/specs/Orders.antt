-- Which orders there are, and their five bytes.
use Rattle.std.specs.Prelude.{ℕ, ◌^◌, cond, ◌||◌, List, [], ◌∷◌, ◌++◌, length, Some, None, Ok, Err, Option, Result, ◌==◌, nat_le, nat_lt, slice_index}
use Rattle.octets.specs.Numbers.{bytes16, bytes32, number16, number32}
use Rattle.element.specs.Kinds.{Coding, Field, field}
use Rattle.element.specs.declared.order.Order.{Order}
use Rattle.element.specs.declared.order.OrderHeadline.{OrderHeadline}
use Rattle.element.specs.declared.order.Tag.{Tag}
use Rattle.element.specs.declared.order.UnknownTag.{UnknownTag}
use Rattle.element.specs.declared.order.Order.TheVariants.{Tune, Point, Note}

-- the tag that a byte is
abbrev pub tag_of : ℕ → Result Tag UnknownTag
tag_of byte =
    cond (byte == 1) (Ok Tag.Tune)
    (cond (byte == 2) (Ok Tag.Point)
    (cond (byte == 3) (Ok Tag.Note)
    (Err (record {}))))

-- which order it is
abbrev pub order_tag : Order → Tag
order_tag (Tune khz) = Tag.Tune
order_tag (Point bearing elevation) = Tag.Point
order_tag (Note number) = Tag.Note

-- the fields behind the tag, each with its range
abbrev pub order_fields : Order → List Field
order_fields (Tune khz) = field 1 (nat_lt khz 400150 || nat_lt 406000 khz) ∷ []
order_fields (Point bearing elevation) = field 1 (nat_lt 35999 bearing) ∷ field 3 (nat_lt 9000 elevation) ∷ []
order_fields (Note number) = field 1 (nat_le (2 ^ 32) number) ∷ []

-- the five bytes of an order: its tag, and 32 bits
abbrev pub order_written : Order → List ℕ
order_written (Tune khz) = 1 ∷ bytes32 khz
order_written (Point bearing elevation) = 2 ∷ (bytes16 bearing ++ bytes16 elevation)
order_written (Note number) = 3 ∷ bytes32 number

-- the order that a tag and four bytes hold
abbrev pub order_tagged : ℕ → ℕ → ℕ → ℕ → ℕ → Option Order
order_tagged tag a b c d =
    cond (tag == 1) (Some (Tune (number32 a b c d)))
    (cond (tag == 2) (Some (Point (number16 a b) (number16 c d)))
    (cond (tag == 3) (Some (Note (number32 a b c d)))
    None))

-- the order that bytes hold; none where they are not five, or the first is no tag
abbrev pub order_value : List ℕ → Option Order
order_value bs = cond (length bs == 5) (order_tagged (slice_index bs 0) (slice_index bs 1) (slice_index bs 2) (slice_index bs 3) (slice_index bs 4)) None

-- orders as a kind
abbrev pub order_coding : Coding Order
order_coding = record { width = 5; fields = order_fields; written = order_written; value = order_value }

-- what a console shows of an order: its tag
abbrev pub order_headline : Order → OrderHeadline
order_headline o = record { tag = order_tag o }

-- some order
abbrev pub an_order : Order
an_order = Note 0
