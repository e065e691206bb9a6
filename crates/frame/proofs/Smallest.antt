-- The smallest refusal that applies is told.
use Rattle.std.proofs.Common.{◌≡◌, ℕ, ◌-◌, Bool, cond, not, ◌||◌, ltb, List, length, Some, Err, Option, Result, refl, ap, ◌∙◌, arith}
use Rattle.std.proofs.lemmas.Bool.Decides.{nat_tests}
use Rattle.refusal.specs.declared.Refusal.{Refusal}
use Rattle.refusal.specs.declared.Refusal.TheVariants.{FrameLength, MarkOrVersion, WrongCheck}
use Rattle.frame.proofs.Turns.{in_turn}
use Rattle.frame.specs.Causes.{SmallestFirst, causes, first_cause, header_causes, refusal_in}
use Rattle.frame.specs.Formats.{mapped_answer}
use Rattle.frame.specs.Reads.{carried_in, frame_in, header_in, is_marked, is_sealed, kept_on_cycle, read_from}
use Rattle.frame.specs.declared.Format.{Format}
use Rattle.frame.specs.declared.Frame.{Frame}
use Rattle.frame.specs.declared.header.Header.{Header}

by_header : (format : Format) (w : ℕ) (h : Header) (e : List ℕ) → refusal_in (kept_on_cycle format (frame_in format.sender w h e)) ≡ first_cause (header_causes format w h e)
by_header format w h e = grind (arith, nat_tests)

-- a test in front
tested : {A : Type 0} (b : Bool) (x : Refusal) (r : Result A Refusal) (o : Option Refusal) → refusal_in r ≡ o → refusal_in (cond b (Err x) r) ≡ cond b (Some x) o
tested b x r o h = grind arith

by_bytes : (format : Format) (w : ℕ) (bs : List ℕ) → refusal_in (read_from format w bs) ≡ first_cause (causes format w bs)
by_bytes format w bs =
    ap refusal_in (in_turn format w bs)
    ∙ tested (ltb (length bs) 14 || ltb 32 (length bs)) FrameLength _ _
    (tested (not (is_marked bs)) MarkOrVersion _ _
    (tested (not (is_sealed bs)) (WrongCheck (length bs - 2)) _ _ (by_header format w (header_in bs) (carried_in bs))))

-- another form of the element does not change the refusal
same_refusal : {A B : Type 0} (f : A → B) (r : Result (Frame A) Refusal) → refusal_in r ≡ refusal_in (mapped_answer f r)
same_refusal f r = grind arith

pub smallest_first : {A : Type 0} (format : Format) (w : ℕ) (bs : List ℕ) (f : A → List ℕ) (r : Result (Frame A) Refusal) → mapped_answer f r ≡ read_from format w bs → SmallestFirst format w bs r
smallest_first format w bs f r same =
    record {
      first = same_refusal f r ∙ ap refusal_in same ∙ by_bytes format w bs;
      ascending = (refl, (refl, (refl, (refl, (refl, (refl, (refl, (refl, tt))))))));
    }
