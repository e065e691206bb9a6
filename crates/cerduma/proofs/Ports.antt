-- What was written into an area of 32 bytes, carried over to another area.
use Rattle.std.proofs.Common.{◌≡◌, ℕ, ◌++◌, List, length, take, drop, Some, None, Ok, Option, arith, ap, refl, ◌∙◌}
use Rattle.std.proofs.lemmas.Bool.Decides.{nat_tests}
use Rattle.std.proofs.Math.Seq.{take-append_seam}
use Rattle.octets.specs.Areas.{written_unless}
use Rattle.refusal.specs.declared.Refusal.{Refusal}
use Rattle.cerduma.specs.Answers.{done, filled, if_room}

-- the bytes and the length of a frame that was written
written_ok : (why : Option Refusal) (bs blank new : List ℕ) (n : ℕ) → (Ok n, new) ≡ written_unless why bs blank → (why ≡ None) × (n ≡ length bs) × (take n new ≡ bs)
written_ok None bs blank new n e =
    let long : n ≡ length bs = grind arith in
    let front : new ≡ bs ++ drop (length bs) blank = ap (λ p. p.1) e in
    (refl, long, ap (λ m. take m new) long ∙ ap (take (length bs)) front ∙ take-append_seam bs (drop (length bs) blank))
written_ok (Some r) bs blank new n e = grind arith

pub carried_over : (why : Option Refusal) (bs blank new area : List ℕ) (n : ℕ) → (Ok n, new) ≡ written_unless why bs blank → (done n, filled (take n new) area) ≡ if_room (written_unless why bs area) area
carried_over why bs blank new area n e = let w = written_ok why bs blank new n e in grind (arith, nat_tests)
