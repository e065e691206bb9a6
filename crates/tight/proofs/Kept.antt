-- What a change of the air below keeps: its room and its bound, and that none of its counts is capped.
use Rattle.std.proofs.Common.{◌≡◌, ℕ, min, Some, None, Option, refl, ap, ◌∙◌, subst}
use Rattle.refusal.specs.declared.Refusal.{Refusal}
use Rattle.air.specs.Waiting.{AirState, lost, overtaken, repeated, taken, without}
use Rattle.air.specs.Steps.{Bytes, answer_refusal, answer_unless, frame_at, lose_step, place_refusal, repeat_step, step_unless, take_step}
use Rattle.air.proofs.Places.{map-without}
use Rattle.tight.specs.SameList.{Keeps}
use Rattle.tight.specs.Tightened.{capped, tightened}
use Rattle.tight.specs.declared.Tight.{Tight}
use Rattle.tight.proofs.TightLaws.{repeated_tight, taken_tight}

-- the air below before and after, under the bound given
abbrev Kept : ℕ → AirState Bytes → AirState Bytes → Type 0
Kept given a b = (b.capacity ≡ a.capacity) × (b.bound ≡ a.bound) × ((tightened given a).waiting ≡ a.waiting → (tightened given b).waiting ≡ b.waiting)

module _ (given : ℕ) (a : AirState Bytes) where
  unchanged : Kept given a a
  unchanged = (refl, refl, λ same. same)

  -- it is kept by a call if it is where the call is not refused
  step_keeps : (o : Option Refusal) (x : AirState Bytes) → Kept given a x → Kept given a (step_unless o x a).1
  step_keeps None x done = done
  step_keeps (Some refusal) x done = unchanged

  answer_keeps : (o : Option Refusal) (frame : Bytes) (x : AirState Bytes) (area : Bytes) → Kept given a x → Kept given a (answer_unless o frame x a area).1
  answer_keeps None frame x area done = done
  answer_keeps (Some refusal) frame x area done = unchanged

  pub lose_keeps : (k : ℕ) → Kept given a (lose_step k a).1
  lose_keeps k = step_keeps (place_refusal k a) (lost k a) (refl, refl, λ same. map-without (capped (min given a.bound)) k a.waiting ∙ ap (without k) same)

  module _ (k : ℕ) (free : answer_refusal k (tightened given a) ≡ None) (area : Bytes) where
    pub repeat_keeps : Kept given a (repeat_step k a area).1
    repeat_keeps =
        answer_keeps (answer_refusal k a) (frame_at k a) (repeated k a) area
        (refl, refl, λ same. ap (λ b. b.waiting) (repeated_tight given k a free) ∙ ap (overtaken k) same)

    pub take_keeps : Kept given a (take_step k a area).1
    take_keeps =
        answer_keeps (answer_refusal k a) (frame_at k a) (taken k a) area
        (refl, refl, λ same. ap (λ b. b.waiting) (taken_tight given k a free) ∙ ap (λ ws. without k (overtaken k ws)) same)

-- a tight air of which only the air below has changed, to one that keeps it
pub keeps : {A : Type 0} (state : A → AirState Bytes) (t : Tight A) (below : A) (x : AirState Bytes) → x ≡ state below → Kept t.given (state t.below) x → Keeps state t (record { below = below; given = t.given })
keeps state t below x is kept = let h = subst (Kept t.given (state t.below)) is kept in record { given = refl; room = h.0; own = h.1; list = h.2 }
