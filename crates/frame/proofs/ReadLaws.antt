-- What holds of every answer of reading, from what the answer is.
use Rattle.std.proofs.Common.{◌≡◌, ℕ, ◌<◌, true, List, length, get_or, is_ok, Result, sym}
use Rattle.std.proofs.ByRecursion.{All-from_get_or}
use Rattle.refusal.specs.declared.Refusal.{Refusal}
use Rattle.frame.specs.Causes.{SmallestFirst}
use Rattle.frame.specs.Formats.{mapped_answer}
use Rattle.frame.specs.Reads.{read_from}
use Rattle.frame.specs.Trips.{OneByteSafe, OnlyWritten}
use Rattle.frame.specs.declared.Format.{Format}
use Rattle.frame.specs.declared.Frame.{Frame}
use Rattle.frame.proofs.Damages.{safe_read}
use Rattle.frame.proofs.Smallest.{smallest_first}
use Rattle.frame.proofs.Trips.{only_read}

pub read_laws : {A : Type 0} (format : Format) (w : ℕ) (bs : List ℕ) (f : A → List ℕ) (r : Result (Frame A) Refusal) → ((k : ℕ) → k < length bs → get_or bs k 0 < 256) → mapped_answer f r ≡ read_from format w bs → OnlyWritten format w bs (mapped_answer f r) × (is_ok r ≡ true → OneByteSafe format w bs) × SmallestFirst format w bs r
read_laws format w bs f r bytes answer =
    let all = All-from_get_or (λ b. b < 256) bs 0 bytes in
    (only_read format w bs _ all (sym answer), safe_read format w bs f r all (sym answer), smallest_first format w bs f r answer)
