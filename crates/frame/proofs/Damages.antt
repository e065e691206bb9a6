-- A frame in which one byte was changed is not read.
use Rattle.std.proofs.Common.{◌≡◌, ℕ, ◌+◌, ◌-◌, ◌<◌, ◌≤◌, true, false, List, length, get_or, take, set, is_ok, Ok, Err, Result, refl, ◌∙◌, inl, inr, arith, length-set, length-take, get_or-set_other, get_or-take, get_or-set_same}
use lib.Seq.{take-set-le, take-set-lt}
use Rattle.std.specs.List.{AllByRecursion}
use Rattle.std.proofs.lemmas.Bool.{cases_lt}
use Rattle.octets.proofs.Changes.{check_changed}
use Rattle.octets.proofs.Numbers.{byte_at}
use Rattle.octets.specs.Checks.{check}
use Rattle.octets.specs.Numbers.{number16}
use Rattle.refusal.specs.declared.Refusal.{Refusal}
use Rattle.frame.specs.Formats.{mapped_answer, mapped}
use Rattle.frame.specs.Reads.{is_sealed, read_from}
use Rattle.frame.specs.Trips.{OneByteSafe}
use Rattle.frame.specs.declared.Format.{Format}
use Rattle.frame.specs.declared.Frame.{Frame}
use Rattle.frame.proofs.Seals.{sealed_check}
use Rattle.frame.proofs.Trips.{accepted}

module _ (bs : List ℕ) (n i v : ℕ) (all : AllByRecursion (λ b. b < 256) bs) (long : length bs ≡ n + 2) (here : i < length bs) (small : v < 256) (differ : v ≡ get_or bs i 0 → ⊥) where
  ds : List ℕ
  ds = set bs i v

  byte : (k : ℕ) → k < length bs → get_or bs k 0 < 256
  byte = byte_at bs all

  -- one of the bytes that the check covers: another check
  covered : i < n → check (take n bs) ≡ number16 (get_or bs n 0) (get_or bs (n + 1) 0) → check (take n ds) ≡ number16 (get_or ds n 0) (get_or ds (n + 1) 0) → ⊥
  unfolding ds
  covered h a b =
      let same : get_or (take n bs) i 0 ≡ get_or bs i 0 = get_or-take n bs i 0 h in
      let short : i < length (take n bs) = simp length-take (omega arith) in
      let taken : take n ds ≡ set (take n bs) i v = take-set-lt n bs i v h in
      check_changed (take n bs) i v short small (omega (arith, same, byte i here)) (λ e. differ (e ∙ same)) (grind (arith, get_or-set_other))

  -- a byte of the check itself: the check of the others is as it was
  beside : n ≤ i → check (take n bs) ≡ number16 (get_or bs n 0) (get_or bs (n + 1) 0) → check (take n ds) ≡ number16 (get_or ds n 0) (get_or ds (n + 1) 0) → ⊥
  unfolding ds
  beside h a b =
      let kept : take n ds ≡ take n bs = take-set-le n bs i v h in
      let high_byte = byte n (omega arith) in
      let low_byte = byte (n + 1) (omega arith) in
      grind (arith, get_or-set_other, get_or-set_same)

  unsealed : is_sealed bs ≡ true → is_sealed ds ≡ true → ⊥
  unfolding ds
  unsealed s t =
      let a = sealed_check n bs long s in
      let b = sealed_check n ds (length-set bs i v ∙ long) t in
      elim (cases_lt i n) [ inl h ↦ covered h a b | inr h ↦ beside h a b ]

-- an answer that cannot be a frame
no_frame : (r : Result (Frame (List ℕ)) Refusal) → ((f : Frame (List ℕ)) → r ≡ Ok f → ⊥) → is_ok r ≡ false
no_frame (Ok f) h = absurd (h f refl)
no_frame (Err e) h = refl

one_byte_safe : (format : Format) (w : ℕ) (f : Frame (List ℕ)) (bs : List ℕ) → AllByRecursion (λ b. b < 256) bs → read_from format w bs ≡ Ok f → OneByteSafe format w bs
unfolding ds
one_byte_safe format w f bs all h =
    let a = accepted format w f bs h in
    record {
      refused = λ i v here small differ.
          no_frame (read_from format w (set bs i v)) (λ g r. unsealed bs (length bs - 2) i v all (omega arith) here small differ a.2 (accepted format w g (set bs i v) r).2);
    }

-- the same of what the frame's bytes are a part of
pub safe_read : {A : Type 0} (format : Format) (w : ℕ) (bs : List ℕ) (f : A → List ℕ) (r : Result (Frame A) Refusal) → AllByRecursion (λ b. b < 256) bs → read_from format w bs ≡ mapped_answer f r → is_ok r ≡ true → OneByteSafe format w bs
safe_read format w bs f (Ok x) all h ok = one_byte_safe format w (mapped f x) bs all h
safe_read format w bs f (Err e) all h ok = cc
