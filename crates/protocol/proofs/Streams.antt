-- One stream whose numbers never start over: what holds of its sender and its receiver, and that each change keeps it.
use Rattle.std.proofs.Common.{◌≡◌, ℕ, suc, ◌+◌, ◌-◌, ◌^◌, ◌<◌, ◌≤◌, ◌⊎◌, List, [], ◌∷◌, ◌++◌, length, take, drop, set, Some, None, Option, refl, ap, ◌∙◌, inl, inr, add-one, arith, length-append, length-drop, length-set, drop-drop}
use lib.ListN.{length-replicate}
use lib.Seq.{take-append-le, drop-append-le}
use Rattle.std.specs.List.{slice_get}
use Rattle.std.proofs.lemmas.Bool.{cases_lt, lt-ltb, le-ltb, le-leb, lt-leb}
use Rattle.air.proofs.Nth.{nth_within}
use Rattle.frame.specs.declared.Frame.{Frame}
use Rattle.frame.specs.declared.Frame.TheVariants.{Bare, Laden}
use Rattle.protocol.specs.Windows.{Sender, Receiver, endless, holding, acknowledged, first_free, slot_for, hearing}
use Rattle.protocol.specs.Machine.{Stream, new_stream}
use Rattle.protocol.specs.Histories.{Log}
use Rattle.protocol.proofs.Slots.{Fits, fits_none, fits_more, fits_set, fits_push, free_set, free_push, free_fits, take_nth, above, above_set, above_set_below, above_push}

-- a stream of window n with this log: the sender holds the last elements that were accepted, the receiver has passed the first ones, each
-- filled slot holds the element of its number, and the sender knows of no element that the receiver has not got
pub record StreamInv {E : Type 0} (n : ℕ) (s : Stream E) (log : Log E) : Type 0 where
  pub counted : s.sender.low + length s.sender.held ≡ length log.accepted
  pub held : s.sender.held ≡ drop s.sender.low log.accepted
  pub room : length s.sender.held ≤ n
  pub based : s.receiver.base ≡ length log.passed
  pub passed : log.passed ≡ take s.receiver.base log.accepted
  pub within : s.receiver.base ≤ length log.accepted
  pub wide : length s.receiver.slots ≡ n
  pub fits : Fits log.accepted s.receiver.base s.receiver.slots
  pub told : s.sender.low ≤ s.receiver.base + first_free s.receiver.slots

pub inv_start : {E : Type 0} (n : ℕ) → StreamInv {E = E} n (new_stream n) (record { accepted = []; passed = [] })
inv_start n = record { counted = refl; held = refl; room = omega arith; based = refl; passed = refl; within = omega arith; wide = length-replicate n None; fits = fits_none [] 0 n; told = omega arith }

module _ {E : Type 0} {n : ℕ} {s : Stream E} {log : Log E} (g : StreamInv n s log) where
  pub inv_accept : (e : E) → length s.sender.held < n → StreamInv n (record s { sender = holding e s.sender }) (record log { accepted = log.accepted ++ (e ∷ []) })
  inv_accept e l = record {
    counted = simp length-append (omega arith);
    held = let i : s.sender.low ≤ length log.accepted = omega arith in rw drop-append-le (ap (λ (r : List E). r ++ (e ∷ [])) g.held);
    room = simp length-append (omega arith);
    based = g.based;
    passed = let i : s.receiver.base ≤ length log.accepted = g.within in rw take-append-le g.passed;
    within = simp length-append (omega arith);
    wide = g.wide;
    fits = fits_more log.accepted e s.receiver.base s.receiver.slots g.fits;
    told = g.told;
  }

  -- an acknowledgement of what the receiver has got
  pub inv_ack : (a : ℕ) → s.sender.low ≤ a → a ≤ s.receiver.base + first_free s.receiver.slots → StreamInv n (record s { sender = record { low = a; held = drop (a - s.sender.low) s.sender.held } }) log
  inv_ack a l r =
      let t = free_fits log.accepted s.receiver.base s.receiver.slots g.fits g.within in
      let i : s.sender.low + (a - s.sender.low) ≡ a = omega arith in
      record {
        counted = simp length-drop (omega arith);
        held = ap (drop (a - s.sender.low)) g.held ∙ drop-drop (a - s.sender.low) s.sender.low log.accepted ∙ ap (λ (k : ℕ). drop k log.accepted) i;
        room = simp length-drop (omega arith);
        based = g.based;
        passed = g.passed;
        within = g.within;
        wide = g.wide;
        fits = g.fits;
        told = r;
      }

  pub inv_fill : (d : ℕ) (e : E) → slice_get log.accepted (s.receiver.base + d) ≡ Some e → StreamInv n (record s { receiver = record { base = s.receiver.base; slots = set s.receiver.slots d (Some e) } }) log
  inv_fill d e q = record {
    counted = g.counted;
    held = g.held;
    room = g.room;
    based = g.based;
    passed = g.passed;
    within = g.within;
    wide = length-set s.receiver.slots d (Some e) ∙ g.wide;
    fits = fits_set log.accepted s.receiver.base s.receiver.slots d e g.fits q;
    told = omega (arith, free_set s.receiver.slots d e);
  }

-- how many numbers from y on were received
abbrev pub received : {E : Type 0} → ℕ → Receiver E → ℕ
received y r = (r.base - y) + above y r.base r.slots

-- the number of the first free slot
abbrev pub reach : {E : Type 0} → Receiver E → ℕ
reach r = r.base + first_free r.slots

-- the first slot's element f is passed
module _ {E : Type 0} {n base : ℕ} {sender : Sender E} {f : E} {xs : List (Option E)} {log : Log E}
    (g : StreamInv n (record { sender = sender; receiver = record { base = base; slots = Some f ∷ xs } }) log) where
  pub inv_pass : StreamInv n (record { sender = sender; receiver = record { base = base + 1; slots = xs ++ (None ∷ []) } }) (record log { passed = log.passed ++ (f ∷ []) })
  inv_pass =
      let t = nth_within log.accepted base f g.fits.0 in
      record {
        counted = g.counted;
        held = g.held;
        room = g.room;
        based = simp length-append (omega arith);
        passed = rw (add-one, take_nth base log.accepted f g.fits.0) (ap (λ (r : List E). r ++ (f ∷ [])) g.passed);
        within = omega arith;
        wide = simp length-append (omega arith);
        fits = rw add-one (fits_push log.accepted (suc base) xs g.fits.1);
        told = rw free_push (omega arith);
      }

-- that leaves what was received as it was, and the first free number too
pub pass_received : {E : Type 0} (f : E) (b y : ℕ) (xs : List (Option E)) → received y (record { base = b + 1; slots = xs ++ (None ∷ []) }) ≡ received y (record { base = b; slots = Some f ∷ xs })
pass_received f b y xs = rw (add-one, above_push y (suc b) xs) (omega arith)

pub pass_reach : {E : Type 0} (f : E) (b : ℕ) (xs : List (Option E)) → reach (record { base = b + 1; slots = xs ++ (None ∷ []) }) ≡ reach (record { base = b; slots = Some f ∷ xs })
pass_reach f b xs = rw free_push (omega arith)

pub endless_ahead : (x y : ℕ) → x ≤ y → endless.distance x y ≡ y - x
endless_ahead x y h = rw le-leb

pub endless_behind : (x y : ℕ) → y < x → endless.distance x y ≡ 2 ^ 64
endless_behind x y h = rw lt-leb

-- the slot that a number stands for: none behind the base or past the window
pub slot_view : (b n x : ℕ) → n ≤ 32 →
    (((x < b) ⊎ (b + n ≤ x)) × (slot_for endless b n x ≡ None)) ⊎ ((d : ℕ) × (b + d ≡ x) × (d < n) × (slot_for endless b n x ≡ Some d))
slot_view b n x small = elim (cases_lt x b) [
  | inl h ↦ let i : n ≤ 2 ^ 64 = omega arith in inl (inl h, rw (endless_behind b x h, le-ltb (2 ^ 64) n i))
  | inr h ↦ elim (cases_lt (x - b) n) [
    | inl l ↦ inr (x - b, omega arith, l, rw (endless_ahead b x h, lt-ltb (x - b) n l))
    | inr l ↦ inl (inr (omega arith), rw (endless_ahead b x h, le-ltb (x - b) n l))
  ]
]

-- an acknowledgement that lies ahead of the sender's low number
pub ack_ahead : {E : Type 0} (s : Sender E) (a : ℕ) → s.low ≤ a → a - s.low ≤ length s.held → acknowledged endless a s ≡ record { low = a; held = drop (a - s.low) s.held }
ack_ahead s a h i = rw (endless_ahead s.low a h, le-leb (a - s.low) (length s.held) i)

-- what the sender u of a stream becomes as it hears the acknowledgement a
pub record AckHeard {E : Type 0} (n a : ℕ) (s : Stream E) (u : Sender E) (log : Log E) : Type 0 where
  pub inv : StreamInv n (record s { sender = u }) log
  pub near : u.low ≤ s.sender.low + n
  pub which : (u.low ≤ s.sender.low) ⊎ (u.low ≤ a)

pub ack_heard : {E : Type 0} {n : ℕ} → n ≤ 32 → {s : Stream E} {log : Log E} (a : ℕ) → StreamInv n s log → a ≤ reach s.receiver → AckHeard n a s (acknowledged endless a s.sender) log
ack_heard small {s} {log} a g l = elim (cases_lt a s.sender.low) [
  | inl h ↦
      let i : length s.sender.held < 2 ^ 64 = omega arith in
      rw (endless_behind s.sender.low a h, lt-leb (2 ^ 64) (length s.sender.held) i) (record { inv = g; near = omega arith; which = inl (omega arith) })
  | inr h ↦
      let t = free_fits log.accepted s.receiver.base s.receiver.slots g.fits g.within in
      let i : a - s.sender.low ≤ length s.sender.held = omega arith in
      rw (ack_ahead s.sender a h i) (record { inv = inv_ack g a h l; near = omega arith; which = inr (omega arith) })
]

-- a frame that carries nothing, or a number below y
abbrev pub Before : {E : Type 0} → Frame E → ℕ → Type 0
Before (Bare ack) y = Unit {0}
Before (Laden ack number e) y = number < y

-- a frame's element is the one accepted under its number, and at most count numbers a window and more after it were received
abbrev pub LoadInv : {E : Type 0} → ℕ → List E → Receiver E → (count : ℕ) → Frame E → Type 0
LoadInv n accepted r count (Bare ack) = Unit {0}
LoadInv n accepted r count (Laden ack x e) = (slice_get accepted x ≡ Some e) × (received (x + n) r ≤ count)

-- what the receiver r of a stream becomes as it hears a frame
pub record FrameHeard {E : Type 0} (n : ℕ) (f : Frame E) (s : Stream E) (r : Receiver E) (log : Log E) : Type 0 where
  pub inv : StreamInv n (record s { receiver = r }) log
  pub further : reach s.receiver ≤ reach r
  pub one_more : (y : ℕ) → received y r ≤ received y s.receiver + 1
  pub none_more : (y : ℕ) → Before f y → received y r ≤ received y s.receiver

unplaced : {E : Type 0} {n : ℕ} (f : Frame E) {s : Stream E} {log : Log E} → StreamInv n s log → FrameHeard n f s s.receiver log
unplaced f g = record { inv = g; further = omega arith; one_more = λ y. omega arith; none_more = λ y h. omega arith }

pub frame_heard : {E : Type 0} {n : ℕ} → n ≤ 32 → {s : Stream E} {log : Log E} (f : Frame E) (count : ℕ) → StreamInv n s log → LoadInv n log.accepted s.receiver count f → FrameHeard n f s (hearing endless n f s.receiver) log
frame_heard small (Bare ack) count g h = unplaced (Bare ack) g
frame_heard {n = n} small {s} (Laden ack x e) count g h =
    let record { base = b; slots = xs } = s.receiver in
    elim (slot_view b n x small) [
      | inl v ↦ rw v.1 (unplaced (Laden ack x e) g)
      | inr v ↦
          rw v.3
          (record {
            inv = inv_fill g v.0 e (rw v.1 h.0);
            further = omega (arith, free_set xs v.0 e);
            one_more = λ y. omega (arith, above_set y b xs v.0 e);
            none_more = λ y k. omega (arith, above_set_below y b xs v.0 e (omega arith));
          })
    ]
