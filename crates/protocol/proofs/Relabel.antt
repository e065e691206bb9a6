-- A link whose numbers start over does what it does on numbers that never do, each number reduced to what is left of it after whole cycles.
use Rattle.std.proofs.Common.{◌≡◌, ℕ, ◌+◌, ◌-◌, ◌*◌, ◌%◌, ◌^◌, ◌<◌, ◌≤◌, true, false, cond, leb, List, length, drop, Some, None, Ok, Option, refl, ap, inl, inr, mul-le-mul_left, arith}
use native.Mathlib.Nat.{zero-mod, mod-add-mod}
use Rattle.std.specs.List.{slice_get}
use Rattle.std.proofs.lemmas.Bool.{cases_lt, le-ltb, lt-leb}
use Rattle.air.proofs.Nth.{nth_within, all_nth}
use Rattle.frame.specs.declared.Frame.{Frame}
use Rattle.frame.specs.declared.Frame.TheVariants.{Bare, Laden}
use Rattle.protocol.specs.Windows.{Sender, Receiver, cyclic, endless, slot_for, released, acknowledged, hearing, placement, ack_of, place_at, filled, first_free, first_slot, moved_on, next_free}
use Rattle.protocol.specs.Machine.{Stream, Act, accept_refusal, send_held, hear, step, act}
use Rattle.protocol.specs.Machine.Act.{accept, send, bare, lose, deliver, repeat, pass}
use Rattle.protocol.specs.Machine.Reply.{passed_on}
use Rattle.protocol.specs.Laws.{rewritten}
use Rattle.protocol.proofs.Plain.{Shape, Packet, Setting, State, Past, cycling, unending}
use Rattle.protocol.proofs.Numbers.{ahead, behind}
use Rattle.protocol.proofs.Chains.{chain_all}
use Rattle.protocol.proofs.Slots.{free_le, free_fits}
use Rattle.protocol.proofs.Streams.{LoadInv, inv_start, endless_ahead, endless_behind}
use Rattle.protocol.proofs.Frames.{FrameInv, PairInv}
use Rattle.protocol.proofs.Kept.{LinkInv, Windows, turned_inv, turned_windows, act_kept}
use Rattle.protocol.proofs.Rewritten.{Rewrites, put_seen, lose_seen, deliver_seen, repeat_seen, length_rewritten}
use Rattle.protocol.proofs.Bridge.{Half, Bridge, renamed, seen, unless_seen}

-- a frame of a stream with cycle m that acknowledges one with cycle m', a sender, a receiver, a stream and a link, on those cycles
abbrev pub frame_mod : {E : Type 0} → ℕ → ℕ → Frame E → Frame E
frame_mod m m' (Bare ack) = Bare (ack % m')
frame_mod m m' (Laden ack x e) = Laden (ack % m') (x % m) e

abbrev pub sender_mod : {E : Type 0} → ℕ → Sender E → Sender E
sender_mod m s = record { low = s.low % m; held = s.held }

abbrev pub receiver_mod : {E : Type 0} → ℕ → Receiver E → Receiver E
receiver_mod m r = record { base = r.base % m; slots = r.slots }

abbrev pub stream_mod : {E : Type 0} → ℕ → Stream E → Stream E
stream_mod m s = record { sender = sender_mod m s.sender; receiver = receiver_mod m s.receiver }

abbrev pub state_mod : {E F : Type 0} → ℕ → ℕ → State E F → State E F
state_mod m m' s = record { out = stream_mod m s.out; back = stream_mod m' s.back; out_air = rewritten (frame_mod m m') s.out_air; back_air = rewritten (frame_mod m' m) s.back_air }

-- the slot that a number stands for, where it lies less than a cycle ahead of the base, or so far behind that it is out of the window
module _ (n m b x : ℕ) (least : 1 ≤ n) (small : n ≤ 32) (near : b ≤ x → x - b < m) (far : x < b → b - x + n ≤ m) where
  slot_alike : slot_for (cyclic m) (b % m) n (x % m) ≡ slot_for endless b n x
  slot_alike = elim (cases_lt x b) [
    | inl h ↦
        let f = far h in
        let i : b - x < m = omega arith in
        let j : n ≤ m - (b - x) = omega arith in
        let k : n ≤ 2 ^ 64 = omega arith in
        rw (behind m b x h i, le-ltb (m - (b - x)) n j, endless_behind b x h, le-ltb (2 ^ 64) n k)
    | inr h ↦ rw (ahead m b x h (near h), endless_ahead b x h)
  ]

-- what an acknowledgement releases, where it lies less than a cycle ahead of low, or so far behind that fewer are held
module _ {E : Type 0} (m : ℕ) (s : Sender E) (small : length s.held ≤ 32) (a : ℕ) (near : s.low ≤ a → a - s.low < m) (far : a < s.low → s.low - a + length s.held < m) where
  ack_alike : (released (cyclic m) (s.low % m) (length s.held) (a % m) ≡ released endless s.low (length s.held) a)
      × (acknowledged (cyclic m) (a % m) (sender_mod m s) ≡ sender_mod m (acknowledged endless a s))
  ack_alike = elim (cases_lt a s.low) [
    | inl h ↦
        let f = far h in
        let i : s.low - a < m = omega arith in
        let j : length s.held < m - (s.low - a) = omega arith in
        let k : length s.held < 2 ^ 64 = omega arith in
        rw (behind m s.low a h i, lt-leb (m - (s.low - a)) (length s.held) j, endless_behind s.low a h, lt-leb (2 ^ 64) (length s.held) k) (refl, refl)
    | inr h ↦
        let t : Sender E = record { low = a; held = drop (a - s.low) s.held } in
        rw (ahead m s.low a h (near h), endless_ahead s.low a h)
        (refl, elim (leb (a - s.low) (length s.held)) as (λ b. cond b (sender_mod m t) (sender_mod m s) ≡ sender_mod m (cond b t s)) [ true ↦ refl | false ↦ refl ])
  ]

-- the windows, and the two limits on the cycle of each stream
pub record Limits {E F : Type 0} (T : Shape E) (U : Shape F) (m m' : ℕ) : Type 0 where
  pub windows : Windows T U
  pub frames : 2 * T.window + T.bound ≤ m
  pub acks : (U.bound + 1) * T.window + 1 ≤ m
  pub frames' : 2 * U.window + U.bound ≤ m'
  pub acks' : (T.bound + 1) * U.window + 1 ≤ m'

pub turned_limits : {E F : Type 0} {T : Shape E} {U : Shape F} {m m' : ℕ} → Limits T U m m' → Limits U T m' m
turned_limits l = record { windows = turned_windows l.windows; frames = l.frames'; acks = l.acks'; frames' = l.frames; acks' = l.acks }

module _ {E F : Type 0} {T : Shape E} {U : Shape F} {m m' : ℕ} (l : Limits T U m m') where
  abbrev c : Setting E
  c = unending T

  abbrev d : Setting F
  d = unending U

  abbrev C : Setting E
  C = cycling T m

  abbrev D : Setting F
  D = cycling U m'

  abbrev φ : State E F → State E F
  φ = state_mod m m'

  -- each waiting frame is on its cycles
  rewrites : Rewrites C c φ (frame_mod m m')
  rewrites = record { capacity = refl; bound = refl; airs = λ s ws. refl }

  -- the number that is acknowledged is reduced to its cycle, and so is the number of what is sent
  ack_mod : (s : State E F) → next_free (cyclic m') (receiver_mod m' s.back.receiver) ≡ next_free endless s.back.receiver % m'
  ack_mod s = mod-add-mod s.back.receiver.base m' (first_free s.back.receiver.slots)

  send_alike : (k : ℕ) (o : Option E) (s : State E F) → send_held C D k o (φ s) ≡ seen φ (send_held c d k o s)
  send_alike k None s = refl
  send_alike k (Some e) s = put_seen rewrites s _ _ (Laden (next_free endless s.back.receiver) (s.out.sender.low + k) e) (rw (ack_mod s, mod-add-mod s.out.sender.low m k)) refl

  -- a frame that waits is heard alike
  module _ (p : Past E F) (h : LinkInv T U p) (k : ℕ) (w : Packet E) (at : slice_get p.state.out_air k ≡ Some w) where
    waits : FrameInv T U p.out.accepted p.state.out p.state.back w
    waits = let P = FrameInv T U p.out.accepted p.state.out p.state.back in all_nth P k p.state.out_air w at (chain_all P (PairInv T.window) p.state.out_air h.out_air)

    hearing_alike : (f : Frame E) → LoadInv T.window p.out.accepted p.state.out.receiver w.count f →
        (hearing (cyclic m) T.window (frame_mod m m' f) (receiver_mod m p.state.out.receiver) ≡ receiver_mod m (hearing endless T.window f p.state.out.receiver))
        × (placement (cyclic m) T.window (frame_mod m m' f) (receiver_mod m p.state.out.receiver) ≡ placement endless T.window f p.state.out.receiver)
    hearing_alike (Bare ack) t = (refl, refl)
    hearing_alike (Laden ack x e) t =
        let r = p.state.out.receiver in
        let g = h.out in
        let near : r.base ≤ x → x - r.base < m = λ k. omega (arith, nth_within p.out.accepted x e t.0, free_le r.slots, g.counted, g.room, g.told, g.wide, l.frames) in
        let far : x < r.base → r.base - x + T.window ≤ m = λ k. omega (arith, waits.bounded, t.1, l.frames) in
        let q = slot_alike T.window m r.base x l.windows.some l.windows.narrow near far in
        (ap (λ z. record { base = r.base % m; slots = filled z e r.slots }) q, ap place_at q)

    hear_alike : (rest : List (Packet E)) → hear C D (Ok (frame_mod m m' w.frame)) (rewritten (frame_mod m m') rest) (φ p.state) ≡ seen φ (hear c d (Ok w.frame) rest p.state)
    hear_alike rest =
        let s = p.state.back.sender in
        let r = p.state.back.receiver in
        let g = h.back in
        let a = ack_of w.frame in
        let e = hearing_alike w.frame waits.load in
        let top = free_fits p.back.accepted r.base r.slots g.fits g.within in
        let near : s.low ≤ a → a - s.low < m' = λ k. omega (arith, top, waits.told, g.counted, g.room, l.acks') in
        let far : a < s.low → s.low - a + length s.held < m' = λ k. omega (arith, waits.late, mul-le-mul_left U.window waits.bounded, g.room, l.acks') in
        let q = ack_alike m' s (omega (arith, g.room, l.windows.back_narrow)) a near far in
        rw (ack_frame w.frame, e.0, e.1, q.0, q.1)
      where
        ack_frame : (f : Frame E) → ack_of (frame_mod m m' f) ≡ ack_of f % m'
        ack_frame (Bare ack) = refl
        ack_frame (Laden ack x e) = refl

  -- the first slot's element is passed alike
  pass_alike : (x : Option F) (s : State E F) → step (record (φ s) { back = record { sender = (φ s).back.sender; receiver = moved_on (cyclic m') x (φ s).back.receiver } }) (passed_on x)
      ≡ seen φ (step (record s { back = record { sender = s.back.sender; receiver = moved_on endless x s.back.receiver } }) (passed_on x))
  pass_alike None s = refl
  pass_alike (Some f) s = rw (mod-add-mod s.back.receiver.base m' 1) refl

  act_alike : (a : Act E) (p : Past E F) → LinkInv T U p → act C D a (φ p.state) ≡ seen φ (act c d a p.state)
  act_alike (accept e) p h = unless_seen φ (accept_refusal C e (φ p.state).out.sender) (accept_refusal c e p.state.out.sender) p.state refl refl
  act_alike (send k) p h = send_alike k (slice_get p.state.out.sender.held k) p.state
  act_alike bare p h = put_seen rewrites p.state _ _ (Bare (next_free endless p.state.back.receiver)) (rw (ack_mod p.state)) refl
  act_alike (lose k) p h = lose_seen rewrites p.state D d k
  act_alike (deliver k) p h = deliver_seen rewrites p.state D d k (hear_alike p h k)
  act_alike (repeat k) p h = repeat_seen rewrites p.state D d k (hear_alike p h k)
  act_alike pass p h = pass_alike (first_slot p.state.back.receiver.slots) p.state

  half : Half true C D c d (LinkInv T U) φ
  half = record { kept = λ a s p h. act_kept l.windows h a; alike = λ a s. act_alike a; wait = λ s. length_rewritten (frame_mod m m') s.out_air; held = λ s. refl; window = refl; capacity = refl }

-- numbers that start over do as numbers that never do
pub relabels : {E F : Type 0} {T : Shape E} {U : Shape F} {m m' : ℕ} → Limits T U m m' → Bridge (cycling T m) (cycling U m') (unending T) (unending U) (LinkInv T U) (state_mod m m')
relabels {T = T} {U = U} {m = m} {m' = m'} l = record {
  halves = record { here = half l; there = renamed (half (turned_limits l)) (λ p. turned_inv) (λ p. turned_inv) };
  begins = record { out = inv_start T.window; back = inv_start U.window; out_air = tt; back_air = tt };
  begins_alike = rw (zero-mod m, zero-mod m');
}
