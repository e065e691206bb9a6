-- Reading what was written, and writing what was read.
use Rattle.std.proofs.Common.{◌≡◌, ℕ, ◌+◌, ◌-◌, ◌<◌, ◌≤◌, Bool, true, false, cond, not, ◌||◌, ltb, List, ◌++◌, length, get_or, take, None, Ok, Err, Option, Result, sym, refl, ap, ◌∙◌, arith}
use Rattle.std.specs.List.{AllByRecursion}
use Rattle.std.proofs.lemmas.List.{nil_from_length, take_at}
use Rattle.std.proofs.lemmas.Bool.{or_parts, ltb-false}
use Rattle.std.proofs.lemmas.Bool.Decides.{nat_tests}
use Rattle.octets.proofs.Heads.{take_heads}
use Rattle.octets.proofs.Numbers.{number_bytes16, part16}
use Rattle.octets.specs.Checks.{check}
use Rattle.octets.specs.Numbers.{bytes16}
use Rattle.refusal.specs.Refusals.{unless}
use Rattle.refusal.specs.declared.Refusal.{Refusal}
use Rattle.refusal.specs.declared.Refusal.TheVariants.{FrameLength, MarkOrVersion}
use Rattle.frame.specs.Formats.{OfWidth, frame_bytes, header_bytes, header_of, not_below_cycle, carried, sealed_bytes}
use Rattle.frame.specs.Reads.{carried_in, frame_in, header_in, is_marked, is_sealed, kept_on_cycle, read_from}
use Rattle.frame.specs.Trips.{OnlyWritten}
use Rattle.frame.specs.declared.Format.{Format}
use Rattle.frame.specs.declared.Frame.{Frame}
use Rattle.frame.specs.declared.Side.{Side}
use Rattle.frame.specs.declared.header.Header.{Header}
use Rattle.frame.proofs.Turns.{in_turn}
use Rattle.frame.proofs.Seals.{length_sealed, sealed_back, sealed_whole}

-- three tests that did not refuse
through : {A : Type 0} (a b c : Bool) (x y z : Refusal) (r : Result A Refusal) → a ≡ false → b ≡ true → c ≡ true → cond a (Err x) (cond (not b) (Err y) (cond (not c) (Err z) r)) ≡ r
through a b c x y z r p q s = rw (p, q, s)

-- a header, what follows it and their check are read as what the header says
pub reads_header : (format : Format) (w : ℕ) (h : Header) (e : List ℕ) → length e ≤ 18 → h.ack < 65536 → h.number < 65536 → read_from format w (sealed_bytes (header_bytes h ++ e)) ≡ kept_on_cycle format (frame_in format.sender w h e)
reads_header format w h e narrow a n =
    let u = header_bytes h ++ e in
    let bs = sealed_bytes u in
    let long : length bs ≡ 14 + length e = length_sealed h e in
    let fits : (ltb (length bs) 14 || ltb 32 (length bs)) ≡ false = ap (λ k. ltb k 14 || ltb 32 k) long ∙ grind (arith, nat_tests) in
    let header : header_in bs ≡ h = λ i. record { tag = h.tag; sender = h.sender; ack = number_bytes16 h.ack a i; number = number_bytes16 h.number n i; width = h.width } in
    let carried : carried_in bs ≡ e = take_at e (bytes16 (check u)) (length bs - 14) (omega arith) in
    in_turn format w bs ∙ through _ true _ FrameLength MarkOrVersion _ _ fits refl (sealed_back u) ∙ (λ i. kept_on_cycle format (frame_in format.sender w (header i) (carried i)))

-- the header of a frame says that frame
said : (side : Side) (w : ℕ) (f : Frame (List ℕ)) → OfWidth w f → frame_in side w (header_of side f) (carried f) ≡ Ok f
said side w f h = grind (arith, nat_tests)

-- a frame whose numbers are below cycles of 16 bits, by its header
small : (format : Format) (f : Frame (List ℕ)) → format.cycles.ack ≤ 65536 → format.cycles.number ≤ 65536 → not_below_cycle format f ≡ None → ((header_of format.sender f).ack < 65536) × ((header_of format.sender f).number < 65536)
small format f a n h = grind (arith, nat_tests)

-- the bytes of a frame are read as that frame
pub reads_back : (format : Format) (w : ℕ) (f : Frame (List ℕ)) → format.cycles.ack ≤ 65536 → format.cycles.number ≤ 65536 → w ≤ 18 → OfWidth w f → not_below_cycle format f ≡ None → read_from format w (frame_bytes format.sender f) ≡ Ok f
unfolding frame_bytes
reads_back format w f a n h wide cycled =
    let s = small format f a n cycled in
    reads_header format w (header_of format.sender f) (carried f) (grind arith) s.0 s.1 ∙ ap (kept_on_cycle format) (said format.sender w f wide) ∙ ap (unless f) cycled

-- what three tests say that did not refuse
passed : {A : Type 0} (a b c : Bool) (x y z : Refusal) (r : Result A Refusal) (f : A) → cond a (Err x) (cond (not b) (Err y) (cond (not c) (Err z) r)) ≡ Ok f → (a ≡ false) × (b ≡ true) × (c ≡ true) × (r ≡ Ok f)
passed a b c x y z r f h = grind arith

-- an answer that there was no cause to refuse
pub passed_unless : {A : Type 0} (o : Option Refusal) (x y : A) → unless x o ≡ Ok y → (x ≡ y) × (o ≡ None)
passed_unless o x y h = grind arith

-- what a frame on its cycles was before they were looked at
cycled_from : (format : Format) (r : Result (Frame (List ℕ)) Refusal) (f : Frame (List ℕ)) → kept_on_cycle format r ≡ Ok f → (r ≡ Ok f) × (not_below_cycle format f ≡ None)
cycled_from format r f h = grind arith

-- what the header of an accepted frame says
said_from : (side : Side) (w : ℕ) (h : Header) (e : List ℕ) (f : Frame (List ℕ)) → frame_in side w h e ≡ Ok f → (header_of side f ≡ h) × (carried f ≡ e) × OfWidth w f
said_from side w h e f r = grind (arith, nat_tests, nil_from_length)

marks : (bs : List ℕ) → is_marked bs ≡ true → (get_or bs 0 0 ≡ 0x4D) × (get_or bs 1 0 ≡ 0x48) × (get_or bs 2 0 ≡ 0x4C) × (get_or bs 3 0 ≡ 0) × (get_or bs 4 0 ≡ 1)
marks bs h = grind (arith, nat_tests)

-- the bytes of an accepted frame, one by one
header_back : (bs : List ℕ) → AllByRecursion (λ b. b < 256) bs → 14 ≤ length bs → is_marked bs ≡ true → header_bytes (header_in bs) ++ carried_in bs ≡ take (length bs - 2) bs
header_back bs all l m =
    let n = marks bs m in
    let ack = part16 bs 7 all (omega arith) in
    let number = part16 bs 9 all (omega arith) in
    let k : length bs - 2 ≡ 12 + (length bs - 14) = omega arith in
    let body = ap (λ m. take m bs) k ∙ take_heads 0 12 (length bs - 14) bs (omega arith) in
    cc

-- what an accepted frame passed
pub accepted : (format : Format) (w : ℕ) (f : Frame (List ℕ)) (bs : List ℕ) → read_from format w bs ≡ Ok f → (14 ≤ length bs) × (is_marked bs ≡ true) × (is_sealed bs ≡ true) × (kept_on_cycle format (frame_in format.sender w (header_in bs) (carried_in bs)) ≡ Ok f)
accepted format w f bs h =
    let p = passed (ltb (length bs) 14 || ltb 32 (length bs)) (is_marked bs) (is_sealed bs) _ _ _ _ f (sym (in_turn format w bs) ∙ h) in
    (ltb-false _ _ (or_parts _ _ p.0).0, p.1, p.2, p.3)

-- whatever is accepted is what is written, and nothing else is
only_written : (format : Format) (w : ℕ) (f : Frame (List ℕ)) (bs : List ℕ) → AllByRecursion (λ b. b < 256) bs → read_from format w bs ≡ Ok f → (not_below_cycle format f ≡ None) × OfWidth w f × (frame_bytes format.sender f ≡ bs)
unfolding frame_bytes
only_written format w f bs all h =
    let a = accepted format w f bs h in
    let frame = cycled_from format (frame_in format.sender w (header_in bs) (carried_in bs)) f a.3 in
    let header = said_from format.sender w (header_in bs) (carried_in bs) f frame.0 in
    let body = (λ i. header_bytes (header.0 i) ++ header.1 i) ∙ header_back bs all a.0 a.1 in
    (frame.1, header.2, ap sealed_bytes body ∙ sealed_whole bs all (omega arith) a.2)

pub only_read : (format : Format) (w : ℕ) (bs : List ℕ) (r : Result (Frame (List ℕ)) Refusal) → AllByRecursion (λ b. b < 256) bs → read_from format w bs ≡ r → OnlyWritten format w bs r
only_read format w bs (Ok f) all h = only_written format w f bs all h
only_read format w bs (Err r) all h = tt
