-- Orders in plain fields, and frames that carry them.
use Rattle.std.specs.Prelude.{ℕ, cond, List, ◌==◌}
use Rattle.element.specs.Orders.{order_coding}
use Rattle.element.specs.declared.order.Order.{Order}
use Rattle.element.specs.declared.order.Order.TheVariants.{Tune, Point, Note}
use Rattle.frame.specs.declared.Side.TheVariants.{Hut}
use Rattle.cerduma.specs.Answers.{format_of}
use Rattle.cerduma.specs.Plain.{Form, read_as, written_as}
use Rattle.cerduma.specs.declared.Answer.{Answer}
use Rattle.cerduma.specs.declared.order.OrderFields.{OrderFields}
use Rattle.cerduma.specs.declared.order.OrderFrame.{OrderFrame}
use Rattle.cerduma.specs.declared.plain.PlainFrame.{PlainFrame}

-- what stands for the order of a bare frame
abbrev pub no_order : OrderFields
no_order = record { tag = 0; value = 0; bearing = 0; elevation = 0 }

-- the fields of an order, by its tag; those that it does not name are 0
abbrev pub fields_of : Order → OrderFields
fields_of (Tune khz) = record { tag = 1; value = khz; bearing = 0; elevation = 0 }
fields_of (Point bearing elevation) = record { tag = 2; value = 0; bearing = bearing; elevation = elevation }
fields_of (Note number) = record { tag = 3; value = number; bearing = 0; elevation = 0 }

-- the order that has such fields; a tag that is none gives a tuning to 0 kHz, which is out of range
abbrev pub order_of : OrderFields → Order
order_of f =
    cond (f.tag == 1) (Tune f.value)
    (cond (f.tag == 2) (Point f.bearing f.elevation)
    (cond (f.tag == 3) (Note f.value)
    (Tune 0)))

-- the struct with a frame in it
abbrev pub packed : PlainFrame OrderFields → OrderFrame
packed f = record { laden = f.laden; ack = f.ack; number = f.number; order = f.element }

-- the frame in a struct
abbrev pub unpacked : OrderFrame → PlainFrame OrderFields
unpacked f = record { laden = f.laden; ack = f.ack; number = f.number; element = f.order }

-- how orders cross
abbrev pub order_form : Form Order OrderFields OrderFrame
order_form = record { none = no_order; fields = fields_of; element = order_of; packed = packed; unpacked = unpacked }

-- what hearing a frame from the hut answers, by the two cycles, and what the caller's frame then holds
abbrev pub order_read : ℕ → ℕ → List ℕ → OrderFrame → Answer × OrderFrame
order_read ack number bs old = read_as order_coding order_form (format_of Hut ack number) bs old

-- what writing a frame for the mast answers, and what the caller's area then holds
abbrev pub order_written : ℕ → ℕ → OrderFrame → List ℕ → Answer × List ℕ
order_written ack number f area = written_as order_coding order_form (format_of Hut ack number) f area
