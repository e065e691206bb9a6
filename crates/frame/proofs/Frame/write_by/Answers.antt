use Rattle.std.proofs.Common.{◌≡◌, ℕ, List, ◌++◌, length, take, None, Ok, Option, sym, ap, ◌∙◌, arith}
use Rattle.std.proofs.lemmas.List.{take_at}
use Rattle.octets.specs.Areas.{written_unless}
use Rattle.element.specs.Kinds.{Coding, element_into, fault_of, out_of_range}
use Rattle.refusal.specs.declared.Refusal.{Refusal}
use Rattle.frame.specs.Formats.{frame_bytes, header_bytes, mapped, sealed_bytes, sender_byte}
use Rattle.frame.specs.Writes.{element_refusal}
use Rattle.frame.specs.declared.Frame.TheVariants.{Laden}
use Rattle.frame.specs.declared.Side.{Side}
use Rattle.frame.proofs.Frame.write_by.Goals as goal

-- what was written unless there is a refusal, where there is none
written : (o : Option Refusal) (n : ℕ) (bs old area : List ℕ) → (Ok n, area) ≡ written_unless o bs old → (o ≡ None) × (n ≡ length bs) × (take n area ≡ bs)
written o n bs old area h = grind (arith, take_at)

-- a laden frame in the front of an area, from its element's bytes in the front of another
laden : {K : Type 0} (kind : Coding K) (sender : Side) (ack number s n m : ℕ) (e : K) (blank bytes old area : List ℕ) → (Ok n, bytes) ≡ element_into kind e blank → s ≡ sender_byte sender → (Ok m, area) ≡ written_unless None (sealed_bytes (header_bytes (record { tag = 2; sender = s; ack = ack; number = number; width = n }) ++ take n bytes)) old → (Ok m, area) ≡ written_unless (out_of_range (fault_of kind e)) (frame_bytes sender (Laden ack number (kind.written e))) old
unfolding frame_bytes
laden kind sender ack number s n m e blank bytes old area wrote named whole =
    let w = written (out_of_range (fault_of kind e)) n (kind.written e) blank bytes wrote in
    whole ∙ (λ i. written_unless (sym w.0 i) (sealed_bytes (header_bytes (record { tag = 2; sender = named i; ack = ack; number = number; width = w.1 i }) ++ w.2 i)) old)

pub returns-in_ok-width-in-Laden : goal.returns-in_ok-width-in-Laden
returns-in_ok-width-in-Laden g c =
    let kind = g.K.Kind.coding in
    let old = c.args.area.now in
    let whole = laden kind c.args.sender _ _ _ _ _ _ _ _ old _ c.in_ok-width-in-Laden.ensures.answer c.from-sender.ensures c.write_with_check-in-Laden.ensures in
    whole ∙ ap (λ f. written_unless (element_refusal kind f) (frame_bytes c.args.sender (mapped kind.written f)) old) (sym c.in-Laden.is)
