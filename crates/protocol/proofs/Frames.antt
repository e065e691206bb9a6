-- What holds of the frames that wait in an air, on numbers that never start over, and that each change of the air and of the streams keeps
-- it.
use Rattle.std.proofs.Common.{◌≡◌, ℕ, ◌+◌, ◌*◌, ◌≤◌, false, List, [], ◌∷◌, ◌++◌, length, Some, sym, refl, ap, ◌∙◌, arith}
use Rattle.std.specs.List.{slice_get}
use Rattle.std.proofs.ByRecursion.{All-weaker}
use Rattle.air.specs.Waiting.{fresh, overtaken, barred}
use Rattle.air.proofs.Nth.{nth_within}
use Rattle.frame.specs.declared.Frame.{Frame}
use Rattle.frame.specs.declared.Frame.TheVariants.{Bare, Laden}
use Rattle.protocol.specs.Windows.{Receiver, Sender, ack_of}
use Rattle.protocol.specs.Machine.{Stream}
use Rattle.protocol.specs.Histories.{Log}
use Rattle.protocol.proofs.Plain.{Shape, Packet}
use Rattle.protocol.proofs.Chains.{Chain, chain_overtaken, chain_weaker, chain_push, chain_all}
use Rattle.protocol.proofs.Slots.{nth_drop, above_none}
use Rattle.protocol.proofs.Streams.{StreamInv, AckHeard, FrameHeard, Before, LoadInv, received, reach}

-- a waiting frame of the stream s, which has accepted these elements; the frame acknowledges the stream s'
pub record FrameInv {E F : Type 0} (T : Shape E) (U : Shape F) (accepted : List E) (s : Stream E) (s' : Stream F) (w : Packet E) : Type 0 where
  pub bounded : w.count ≤ T.bound
  pub load : LoadInv T.window accepted s.receiver w.count w.frame
  pub told : ack_of w.frame ≤ reach s'.receiver
  pub late : s'.sender.low ≤ ack_of w.frame + U.window * w.count

-- an older frame's number is less than a window past a younger one's
abbrev pub Apart : {E : Type 0} → ℕ → Frame E → Frame E → Type 0
Apart n f (Bare ack) = Unit {0}
Apart n f (Laden ack y e) = Before f (y + n)

-- an older frame and a younger one
pub record PairInv {E : Type 0} (n : ℕ) (v w : Packet E) : Type 0 where
  pub apart : Apart n v.frame w.frame
  pub ordered : ack_of v.frame ≤ ack_of w.frame

-- the frames that wait in an air
abbrev pub AirInv : {E F : Type 0} → Shape E → Shape F → List E → Stream E → Stream F → List (Packet E) → Type 0
AirInv T U accepted s s' ws = Chain (FrameInv T U accepted s s') (PairInv T.window) ws

apart_self : {E : Type 0} (n : ℕ) → 1 ≤ n → (f : Frame E) → Apart n f f
apart_self n h (Bare ack) = tt
apart_self n h (Laden ack x e) = omega arith

-- frame w is answered: the receiver of its stream becomes r, and the sender of the one that it acknowledges u
module _ {E F : Type 0} (T : Shape E) (U : Shape F) (least : 1 ≤ T.window) (w : Packet E) {s : Stream E} {s' : Stream F} {r : Receiver E} {u : Sender F}
    {log : Log E} {log' : Log F} (x : FrameHeard T.window w.frame s r log) (y : AckHeard U.window (ack_of w.frame) s' u log') where
  abbrev Was : Packet E → Type 0
  Was = FrameInv T U log.accepted s s'

  abbrev Is : Packet E → Type 0
  Is = FrameInv T U log.accepted (record s { receiver = r }) (record s' { sender = u })

  -- an older frame has been overtaken once more, and at most one number more was received
  older_load : (f : Frame E) (count : ℕ) → LoadInv T.window log.accepted s.receiver count f → LoadInv T.window log.accepted r (count + 1) f
  older_load (Bare ack) count h = tt
  older_load (Laden ack z e) count h = (h.0, omega (arith, x.one_more (z + T.window)))

  -- a younger one has not, but as much was received where its load looks
  younger_load : (f : Frame E) (count : ℕ) → Apart T.window w.frame f → LoadInv T.window log.accepted s.receiver count f → LoadInv T.window log.accepted r count f
  younger_load (Bare ack) count a h = tt
  younger_load (Laden ack z e) count a h = (h.0, omega (arith, x.none_more (z + T.window) a))

  younger : (v : Packet E) → Was v → PairInv T.window w v → Is v
  younger v h k = record {
    bounded = h.bounded;
    load = younger_load v.frame v.count k.apart h.load;
    told = h.told;
    late = omega (arith, h.late, y.which, k.ordered);
  }

  pub air_overtaken : (k : ℕ) (ws : List (Packet E)) → slice_get ws k ≡ Some w → barred T.bound k ws ≡ false → Chain Was (PairInv T.window) ws → Chain Is (PairInv T.window) (overtaken k ws)
  air_overtaken = chain_overtaken Was Is (PairInv T.window) T.bound w
      (λ v h k free. record { bounded = omega arith; load = older_load v.frame v.count h.load; told = h.told; late = omega (arith, h.late, y.near) })
      (λ h. younger w h (record { apart = apart_self T.window least w.frame; ordered = omega arith }))
      younger
      (λ v v' h. record { apart = h.apart; ordered = h.ordered })
      (λ v v' h. record { apart = h.apart; ordered = h.ordered })

-- the other changes: more is accepted, as much was received, and the acknowledged stream has no higher low number and no lower first free
-- one
pub record Moved {E F : Type 0} (accepted accepted₂ : List E) (s s₂ : Stream E) (s' s₂' : Stream F) : Type 0 where
  pub grown : (x : ℕ) (e : E) → slice_get accepted x ≡ Some e → slice_get accepted₂ x ≡ Some e
  pub same : (y : ℕ) → received y s₂.receiver ≡ received y s.receiver
  pub lower : s₂'.sender.low ≤ s'.sender.low
  pub further : reach s'.receiver ≤ reach s₂'.receiver

module _ {E F : Type 0} (T : Shape E) (U : Shape F) {accepted accepted₂ : List E} {s s₂ : Stream E} {s' s₂' : Stream F} (c : Moved accepted accepted₂ s s₂ s' s₂') where
  -- as much was received where a load looks
  same_load : (f : Frame E) (count : ℕ) → LoadInv T.window accepted s.receiver count f → LoadInv T.window accepted₂ s₂.receiver count f
  same_load (Bare ack) count h = tt
  same_load (Laden ack x e) count h = (c.grown x e h.0, rw c.same h.1)

  pub air_same : (ws : List (Packet E)) → AirInv T U accepted s s' ws → AirInv T U accepted₂ s₂ s₂' ws
  air_same = chain_weaker (FrameInv T U accepted s s') (PairInv T.window) (FrameInv T U accepted₂ s₂ s₂')
      (λ w h. record { bounded = h.bounded; load = same_load w.frame w.count h.load; told = omega (arith, h.told, c.further); late = omega (arith, h.late, c.lower) })

-- a new frame, which acknowledges what the receiver of the other stream has got
module _ {E F : Type 0} (T : Shape E) (U : Shape F) {s : Stream E} {log : Log E} {s' : Stream F} {log' : Log F} (g : StreamInv T.window s log) (g' : StreamInv U.window s' log') (ws : List (Packet E)) where
  abbrev Waits : List (Packet E) → Type 0
  Waits = AirInv T U log.accepted s s'

  new_frame : (f : Frame E) → ack_of f ≡ reach s'.receiver → LoadInv T.window log.accepted s.receiver 0 f →
      ((v : Frame E) (count : ℕ) → LoadInv T.window log.accepted s.receiver count v → Apart T.window v f) → Waits ws → Waits (ws ++ (fresh f ∷ []))
  new_frame f a load apart h =
      let P = FrameInv T U log.accepted s s' in
      chain_push P (PairInv T.window) ws (fresh f) h
      (All-weaker P (λ v. PairInv T.window v (fresh f)) (λ v i. record { apart = apart v.frame v.count i.load; ordered = omega (arith, a, i.told) }) ws (chain_all P (PairInv T.window) ws h))
      (record { bounded = omega arith; load = load; told = omega (arith, a); late = omega (arith, a, g'.told) })

  pub air_bare : Waits ws → Waits (ws ++ (fresh (Bare (reach s'.receiver)) ∷ []))
  air_bare = new_frame (Bare (reach s'.receiver)) refl tt (λ v count i. tt)

  module _ (k : ℕ) (e : E) (at : slice_get s.sender.held k ≡ Some e) where
    apart_laden : (v : Frame E) (count : ℕ) → LoadInv T.window log.accepted s.receiver count v → Apart T.window v (Laden (reach s'.receiver) (s.sender.low + k) e)
    apart_laden (Bare ack) count h = tt
    apart_laden (Laden ack x f) count h = omega (arith, nth_within log.accepted x f h.0)

    genuine : slice_get log.accepted (s.sender.low + k) ≡ Some e
    genuine = sym (nth_drop k s.sender.low log.accepted) ∙ ap (λ (xs : List E). slice_get xs k) (sym g.held) ∙ at

    none_past : received (s.sender.low + k + T.window) s.receiver ≤ 0
    none_past =
        let i : length log.accepted ≤ s.sender.low + k + T.window = omega arith in
        omega (arith, above_none log.accepted (s.sender.low + k + T.window) s.receiver.base s.receiver.slots g.fits i)

    pub air_laden : Waits ws → Waits (ws ++ (fresh (Laden (reach s'.receiver) (s.sender.low + k) e) ∷ []))
    air_laden = new_frame (Laden (reach s'.receiver) (s.sender.low + k) e) refl (genuine, none_past) apart_laden
