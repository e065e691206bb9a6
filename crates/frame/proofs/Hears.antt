-- What was written is heard as the frame that it was written of.
use Rattle.std.proofs.Common.{◌≡◌, ℕ, ◌≤◌, List, length, take, drop, Some, None, Ok, Option, Result, sym, refl, ap, ◌∙◌, subst, arith}
use Rattle.std.proofs.lemmas.List.{take_at}
use Rattle.octets.specs.Areas.{written_unless}
use Rattle.element.specs.Kinds.{Coding, fault_of}
use Rattle.refusal.specs.Refusals.{unless}
use Rattle.refusal.specs.declared.Refusal.{Refusal}
use Rattle.frame.specs.Formats.{frame_bytes, mapped, not_below_cycle}
use Rattle.frame.specs.Reads.{hear_from, element_read}
use Rattle.frame.specs.Trips.{HeardBack, Sized}
use Rattle.frame.specs.Writes.{bytes_of, element_refusal}
use Rattle.frame.specs.declared.Format.{Format}
use Rattle.frame.specs.declared.Frame.{Frame}
use Rattle.frame.proofs.Seals.{length_sealed}
use Rattle.frame.proofs.Trips.{passed_unless, reads_back}

module _ {K : Type 0} (kind : Coding K) (format : Format) (exact : (e : K) → length (kind.written e) ≡ kind.width) (returned : (e : K) → fault_of kind e ≡ None → kind.value (kind.written e) ≡ Some e) where
  -- the element comes back from its bytes
  understands : (f : Frame K) → element_refusal kind f ≡ None → element_read kind (Ok (mapped kind.written f)) ≡ Ok f
  understands f h = grind (arith, returned)

  -- how many bytes a frame has
  long : (f : Frame K) → kind.width ≤ 18 → (14 ≤ length (bytes_of kind format f)) × (length (bytes_of kind format f) ≤ 32)
  unfolding frame_bytes
  long f narrow = grind (arith, exact, length_sealed)

  -- the bytes of a frame that may be written: how many they are, and what is heard from them
  pub heard_back : (f : Frame K) (bs : List ℕ) → format.cycles.ack ≤ 65536 → format.cycles.number ≤ 65536 → kind.width ≤ 18 → unless {A = Unit {0}} tt (not_below_cycle format f) ≡ Ok tt → unless (bytes_of kind format f) (element_refusal kind f) ≡ Ok bs → (14 ≤ length bs) × (length bs ≤ 32) × (hear_from kind format bs ≡ Ok f)
  heard_back f bs acks numbers narrow past fit =
      let cycle = passed_unless (not_below_cycle format f) _ _ past in
      let fits = passed_unless (element_refusal kind f) (bytes_of kind format f) bs fit in
      let size = long f narrow in
      let whole = reads_back format kind.width (mapped kind.written f) acks numbers narrow (grind (arith, exact)) (grind arith) in
      (omega (arith, ap length fits.0), omega (arith, ap length fits.0), ap (hear_from kind format) (sym fits.0) ∙ ap (element_read kind) whole ∙ understands f fits.1)

  module _ (f : Frame K) (r : Result ℕ Refusal) (old area : List ℕ) (acks : format.cycles.ack ≤ 65536) (numbers : format.cycles.number ≤ 65536) (narrow : kind.width ≤ 18) (past : unless {A = Unit {0}} tt (not_below_cycle format f) ≡ Ok tt) where
    wrote_unless : (o : Option Refusal) → element_refusal kind f ≡ o → (r, area) ≡ written_unless o (bytes_of kind format f) old → Sized r × HeardBack kind format f area r
    wrote_unless None fit written =
        let bs = bytes_of kind format f in
        let heard = heard_back f bs acks numbers narrow past (ap (unless bs) fit) in
        let is = sym (ap (λ t. t.0) written) in
        let front = ap (take (length bs)) (ap (λ t. t.1) written) ∙ take_at bs (drop (length bs) old) (length bs) refl in
        (subst Sized is (heard.0, heard.1), subst (HeardBack kind format f area) is (ap (hear_from kind format) front ∙ heard.2))
    wrote_unless (Some e) fit written =
        let is = sym (ap (λ t. t.0) written) in
        (subst Sized is tt, subst (HeardBack kind format f area) is tt)

    -- what was written of a frame into an area has 14 to 32 bytes and is heard as that frame
    pub wrote : (r, area) ≡ written_unless (element_refusal kind f) (bytes_of kind format f) old → Sized r × HeardBack kind format f area r
    wrote = wrote_unless (element_refusal kind f) refl
