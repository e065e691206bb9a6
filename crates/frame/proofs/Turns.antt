-- Reading, one test after the other.
use Rattle.std.proofs.Common.{◌≡◌, ℕ, ◌-◌, Bool, cond, not, ◌||◌, ltb, List, length, Ok, Err, Result, refl, arith}
use Rattle.refusal.specs.declared.Refusal.{Refusal}
use Rattle.refusal.specs.declared.Refusal.TheVariants.{FrameLength, MarkOrVersion, WrongCheck}
use Rattle.frame.specs.Reads.{carried_in, frame_in, frame_of, header_in, is_marked, is_sealed, kept_on_cycle, read_from}
use Rattle.frame.specs.declared.Format.{Format}

-- a function that keeps refusals, of what two tests leave
past_tests : {A B : Type 0} (a b : Bool) (x y : Refusal) (p : A) (f : Result A Refusal → Result B Refusal) → f (Err x) ≡ Err x → f (Err y) ≡ Err y → f (cond a (Err x) (cond b (Err y) (Ok p))) ≡ cond a (Err x) (cond b (Err y) (f (Ok p)))
past_tests a b x y p f k l = grind arith

-- the length is looked at first, then the mark and the version, then the check, and then the header
pub in_turn : (format : Format) (w : ℕ) (bs : List ℕ) → read_from format w bs ≡ cond (ltb (length bs) 14 || ltb 32 (length bs)) (Err FrameLength) (cond (not (is_marked bs)) (Err MarkOrVersion) (cond (not (is_sealed bs)) (Err (WrongCheck (length bs - 2))) (kept_on_cycle format (frame_in format.sender w (header_in bs) (carried_in bs)))))
in_turn format w bs =
    past_tests (ltb (length bs) 14 || ltb 32 (length bs)) (not (is_marked bs)) FrameLength MarkOrVersion _ (frame_of format w bs) refl refl
