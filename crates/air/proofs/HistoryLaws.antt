-- The laws of histories: they hold at the start, no call breaks them, and so they hold after every history.
use Rattle.std.proofs.Common.{◌≡◌, ℕ, ◌≤◌, List, [], ◌∷◌, length, drop, Some, None, Option, refl, ap, ◌∙◌, subst, arith}
use Rattle.std.specs.Result.{result_unwrap_or}
use Rattle.std.specs.List.{AllByRecursion, slice_get}
use Rattle.std.proofs.lemmas.List.{take_at}
use Rattle.refusal.specs.declared.Refusal.{Refusal}
use Rattle.air.specs.Waiting.{Waiting, AirState, joined, lost, repeated, taken}
use Rattle.air.specs.Steps.{Bytes, place_refusal, answer_refusal, put_refusal, step_unless, answer_unless, count_of, frame_at, oldest_count}
use Rattle.air.specs.Histories.{Call, puts, loses, takes, repeats, Past, serial_at, after_put, after_lose, after_take, after_repeat, after, past, Lawful, AlwaysLawful, AtMost}
use Rattle.air.proofs.Nth.{all_from_nth}
use Rattle.air.proofs.StepLaws.{answer_free, count_at_lem, place_free}
use Rattle.air.proofs.Kept.{Kept, kept_start, kept_put, kept_lost, kept_length, kept_serial, kept_row, kept_frame, kept_rises, kept_falls, kept_repeated, kept_taken}

-- what holds of every past
abbrev Holds : Past → Type 0
Holds p = Kept p.air.bound p.put_frames p.events p.serials p.air.waiting

-- each call keeps what holds, whether or not it is refused
put_keeps : (bs : Bytes) (p : Past) → Holds p → (o : Option Refusal) → Holds (after_put bs (step_unless o (joined bs p.air) p.air) p)
put_keeps bs p i None = kept_put bs i
put_keeps bs p i (Some refusal) = i

lose_keeps : (k : ℕ) (p : Past) → Holds p → (o : Option Refusal) → place_refusal k p.air ≡ o → Holds (after_lose k (step_unless o (lost k p.air) p.air) p)
lose_keeps k p i None e = kept_lost k (serial_at k p) (kept_serial k i (place_free k p.air e)) i
lose_keeps k p i (Some refusal) e = i

module _ (k : ℕ) (area : Bytes) (p : Past) (i : Holds p) where
  take_keeps : (o : Option Refusal) → answer_refusal k p.air ≡ o → Holds (after_take k (answer_unless o (frame_at k p.air) (taken k p.air) p.air area) p)
  take_keeps None e =
      let may = answer_free k p.air e in
      let frame = frame_at k p.air in
      rw (take_at frame (drop (length frame) area) (length frame) refl) (kept_taken k (serial_at k p) frame (kept_serial k i may.0) (kept_frame k i may.0) may.1 i)
  take_keeps (Some refusal) e = i

  repeat_keeps : (o : Option Refusal) → answer_refusal k p.air ≡ o → Holds (after_repeat k (answer_unless o (frame_at k p.air) (repeated k p.air) p.air area) p)
  repeat_keeps None e =
      let may = answer_free k p.air e in
      let frame = frame_at k p.air in
      rw (take_at frame (drop (length frame) area) (length frame) refl) (kept_repeated k (serial_at k p) frame (kept_serial k i may.0) (kept_frame k i may.0) may.1 i)
  repeat_keeps (Some refusal) e = i

call_keeps : (c : Call) (p : Past) → Holds p → Holds (after c p)
call_keeps (puts bs) p i = put_keeps bs p i (put_refusal bs p.air)
call_keeps (loses k) p i = lose_keeps k p i (place_refusal k p.air) refl
call_keeps (takes k area) p i = take_keeps k area p i (answer_refusal k p.air) refl
call_keeps (repeats k area) p i = repeat_keeps k area p i (answer_refusal k p.air) refl

always_holds : (capacity bound : ℕ) (h : List Call) → Holds (past capacity bound h)
always_holds capacity bound [] = kept_start bound
always_holds capacity bound (c ∷ h) = call_keeps c (past capacity bound h) (always_holds capacity bound h)

-- no call changes the capacity or the bound, whether or not it is refused
abbrev Fixed : ℕ → ℕ → AirState Bytes → Type 0
Fixed capacity bound a = (a.capacity ≡ capacity) × (a.bound ≡ bound)

module _ (capacity bound : ℕ) (p : Past) (same : Fixed capacity bound p.air) where
  put_fixed : (bs : Bytes) (o : Option Refusal) → Fixed capacity bound (after_put bs (step_unless o (joined bs p.air) p.air) p).air
  put_fixed bs None = same
  put_fixed bs (Some refusal) = same

  lose_fixed : (k : ℕ) (o : Option Refusal) → Fixed capacity bound (after_lose k (step_unless o (lost k p.air) p.air) p).air
  lose_fixed k None = same
  lose_fixed k (Some refusal) = same

  take_fixed : (k : ℕ) (area : Bytes) (o : Option Refusal) → Fixed capacity bound (after_take k (answer_unless o (frame_at k p.air) (taken k p.air) p.air area) p).air
  take_fixed k area None = same
  take_fixed k area (Some refusal) = same

  repeat_fixed : (k : ℕ) (area : Bytes) (o : Option Refusal) → Fixed capacity bound (after_repeat k (answer_unless o (frame_at k p.air) (repeated k p.air) p.air area) p).air
  repeat_fixed k area None = same
  repeat_fixed k area (Some refusal) = same

  call_fixed : (c : Call) → Fixed capacity bound (after c p).air
  call_fixed (puts bs) = put_fixed bs (put_refusal bs p.air)
  call_fixed (loses k) = lose_fixed k (place_refusal k p.air)
  call_fixed (takes k area) = take_fixed k area (answer_refusal k p.air)
  call_fixed (repeats k area) = repeat_fixed k area (answer_refusal k p.air)

always_fixed : (capacity bound : ℕ) (h : List Call) → Fixed capacity bound (past capacity bound h).air
always_fixed capacity bound [] = (refl, refl)
always_fixed capacity bound (c ∷ h) = call_fixed capacity bound (past capacity bound h) (always_fixed capacity bound h) c

lawful : (capacity bound : ℕ) (p : Past) → Fixed capacity bound p.air → Holds p → Lawful capacity bound p
lawful capacity bound p same i =
    record {
      fixed = same;
      bounded = λ s. omega (arith, i.bounded s, same.1);
      genuine = i.genuine;
      present = i.present;
      accounted = i.accounted;
      matched = kept_length i;
      unchanged = λ k w here. (kept_row k w i here).unchanged;
      counted = λ k w here. (kept_row k w i here).counted;
      in_sequence = λ j k l within. kept_rises j k i l within;
      falling = λ j k v w l here there. kept_falls j k v w i l here there;
    }

pub always_lawful : AlwaysLawful
always_lawful capacity bound h = lawful capacity bound (past capacity bound h) (always_fixed capacity bound h) (always_holds capacity bound h)

-- where counts never rise, none is above the oldest
oldest_most : (a : AirState Bytes) (ws : List (Waiting Bytes)) → a.waiting ≡ ws
    → ((j k : ℕ) (v w : Waiting Bytes) → j ≤ k → slice_get ws j ≡ Some v → slice_get ws k ≡ Some w → w.count ≤ v.count)
    → AllByRecursion (λ w. w.count ≤ oldest_count a) ws
oldest_most a [] is fall = tt
oldest_most a (v ∷ ws) is fall =
    let here : oldest_count a ≡ v.count = ap (λ r. result_unwrap_or r 0) (count_at_lem 0 a (rw is (omega arith))) ∙ ap (λ xs. count_of (slice_get xs 0)) is in
    all_from_nth (λ w. w.count ≤ oldest_count a) (v ∷ ws) (λ k w e. omega (arith, here, fall 0 k v w (omega arith) refl e))

-- so the oldest frame's count bounds all, whatever history led to the air
pub oldest_at_most : (a : AirState Bytes) → AtMost (oldest_count a) a
oldest_at_most a h e =
    let b = (past a.capacity a.bound h).air in
    let falling = (always_lawful a.capacity a.bound h).falling in
    subst (λ x. AllByRecursion (λ w. w.count ≤ oldest_count x) x.waiting) e (oldest_most b b.waiting refl falling)
