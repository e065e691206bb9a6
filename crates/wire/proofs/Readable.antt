-- Frames in bytes can be relied on: every frame that can be said is written, and read back as what it says.
use Rattle.std.proofs.Common.{◌≡◌, ℕ, ◌≤◌, true, is_none, length, Some, None, Option, refl, ap, arith}
use Rattle.std.proofs.lemmas.Bool.{lt-ltb}
use Rattle.element.specs.Kinds.{Coding, fault_of, out_of_range}
use Rattle.frame.specs.Formats.{frame_bytes, mapped, not_below_cycle}
use Rattle.frame.specs.Writes.{bytes_of, element_refusal}
use Rattle.frame.specs.declared.Cycles.{Cycles}
use Rattle.frame.specs.declared.Format.{Format}
use Rattle.frame.specs.declared.Frame.{Frame}
use Rattle.frame.specs.declared.Frame.TheVariants.{Bare, Laden}
use Rattle.frame.specs.declared.Side.{Side}
use Rattle.frame.proofs.Hears.{heard_back}
use Rattle.protocol.specs.Promises.{Sayable}
use Rattle.wire.specs.Wires.{is_element, Readable}

none_is : {A : Type 0} (o : Option A) → is_none o ≡ true → o ≡ None
none_is None h = refl
none_is (Some x) h = absurd (let z : ◌≡◌ {A = ℕ} 0 1 = cc in omega arith)

module _ {K : Type 0} (kind : Coding K) where
  -- a frame that can be said has no number past its cycle, and no field out of range
  sayable_free : (side : Side) (cycles : Cycles) (f : Frame K) → Sayable (is_element kind) cycles f →
      (not_below_cycle (record { sender = side; cycles = cycles }) f ≡ None) × (element_refusal kind f ≡ None)
  sayable_free side cycles (Bare ack) s = (rw (lt-ltb ack cycles.ack s), refl)
  sayable_free side cycles (Laden ack x e) s = (rw (lt-ltb ack cycles.ack s.0, lt-ltb x cycles.number s.1), ap out_of_range (none_is (fault_of kind e) s.2))

  pub readable : (e : K) → fault_of kind e ≡ None → kind.width ≤ 18 → ((e : K) → length (kind.written e) ≡ kind.width) →
      ((e : K) → fault_of kind e ≡ None → kind.value (kind.written e) ≡ Some e) → Readable kind
  readable e valid narrow exact returned side t capacity own_bound = record {
    element = e;
    element_valid = rw valid;
    written = λ f. frame_bytes side (mapped kind.written f);
    writes = λ cycles acks numbers f s. let g = sayable_free side cycles f s in rw (g.0, g.1);
    reads = λ cycles acks numbers f s.
        let format : Format = record { sender = side; cycles = cycles } in
        let g = sayable_free side cycles f s in
        (heard_back kind format exact returned f (bytes_of kind format f) (omega arith) (omega arith) narrow (rw g.0) (rw g.1)).2;
  }
