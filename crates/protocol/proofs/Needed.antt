-- Why a cycle must be long enough: for each shorter one there is a history after which the stream is out of step. There are two families
-- of such histories, one for each limit: in one an old acknowledgement arrives as a new one, in the other an old frame does.
use Rattle.std.proofs.Common.{◌≡◌, ℕ, zero, suc, ◌+◌, ◌-◌, ◌*◌, ◌%◌, ◌<◌, ◌≤◌, min, true, List, [], ◌∷◌, ◌++◌, set, replicate, Some, None, Option, sym, refl, ap, ⊎_elim, append_assoc, append-nil, add-one, arith}
use Rattle.std.proofs.Math.Nat.{zero-mod, mod_self}
use Rattle.std.proofs.lemmas.List.{length-replicate, replicate_more, replicate-append-replicate, set_at}
use Rattle.std.proofs.lemmas.Bool.{cases_lt}
use Rattle.protocol.specs.Windows.{first_free}
use Rattle.protocol.specs.Drafts.{least_cycle}
use Rattle.protocol.specs.Histories.{Call, after}
use Rattle.protocol.specs.Delivery.{InStep}
use Rattle.protocol.proofs.Plain.{Shape, cycling}
use Rattle.protocol.proofs.Late.{Slots, Packets, Trial, Here, frame, word, begun, in_step_at, none_filled, accepts, passes, sends, answers, places, places_past, hears, hears_past}

all_filled : {F : Type 0} (k : ℕ) (e : F) → first_free (replicate k (Some e) ++ []) ≡ k
all_filled zero e = refl
all_filled (suc k) e = ap suc (all_filled k e)

one_more : {A : Type 0} (k : ℕ) (x : A) (ys : List A) → replicate k x ++ (x ∷ ys) ≡ replicate (suc k) x ++ ys
one_more zero x ys = refl
one_more (suc k) x ys = ap (λ r. x ∷ r) (one_more k x ys)

set_between : {A : Type 0} (k : ℕ) (x y z : A) (ys : List A) → set (replicate k x ++ (y ∷ ys)) k z ≡ replicate k x ++ (z ∷ ys)
set_between k x y z ys = set_at (replicate k x) y ys z k (length-replicate k x)

module _ {E F : Type 0} (t : Trial E F) where
  abbrev n : ℕ
  n = t.out.window

  abbrev m : ℕ
  m = t.cycle

  -- all slots free, and all filled
  abbrev clear : Slots E
  clear = replicate n None

  abbrev full : Slots E
  full = replicate n (Some t.e) ++ []

  accepts_all : {l b : ℕ} {xs : Slots E} {oa : Packets E} {ba : Packets F} (k : ℕ) → k ≤ n →
      Here t l 0 b xs oa ba → Here t l k b xs oa ba
  accepts_all zero s z = z
  accepts_all (suc k) s z = accepts (omega arith) (accepts_all k (omega arith) z)

  module _ {l h : ℕ} {ba : Packets F} where
    -- held elements are sent and placed in the first k slots, the last of them first
    places_all : (k : ℕ) (ys : Slots E) → k ≤ h → k ≤ n →
        Here t l h l (replicate k None ++ ys) [] ba → Here t l h l (replicate k (Some t.e) ++ ys) [] ba
    places_all zero ys s w z = z
    places_all (suc k) ys s w z =
        let split : Here t l h l (replicate k None ++ (None ∷ ys)) [] ba = rw (one_more k None ys) z in
        let last = rw set_between at (places k 0 (omega arith) refl (sends k (omega arith) (omega arith) split)) in
        rw (one_more k (Some t.e) ys) at (places_all k (Some t.e ∷ ys) (omega arith) (omega arith) last)

    -- the first k slots are passed
    passes_all : {oa : Packets E} (k b b' : ℕ) (ys : Slots E) → b' ≡ b + k →
        Here t l h b (replicate k (Some t.e) ++ ys) oa ba → Here t l h b' (ys ++ replicate k None) oa ba
    passes_all zero b b' ys s z = let same : b' ≡ b = omega arith in rw (same, append-nil ys) z
    passes_all (suc k) b b' ys s z =
        let first = rw (append_assoc (replicate k (Some t.e)) ys) at (passes z) in
        rw append_assoc at (passes_all k (suc b) b' (ys ++ (None ∷ [])) (omega arith) first)

  -- a window of elements is accepted, sent and placed, and the number that is acknowledged then
  window_placed : {l : ℕ} {ba : Packets F} → Here t l 0 l clear [] ba → Here t l n l full [] ba
  window_placed {l} {ba} z = places_all n [] (omega arith) (omega arith) (rw (append-nil clear) (accepts_all n (omega arith) z))

  window_told : (b l : ℕ) → l ≡ b + n → (b + first_free full) % m ≡ l % m
  window_told b l s = rw (all_filled n t.e, sym s)

  -- a past that some history leads to, in which the stream is out of step
  record Broken : Type 0 where
    l : ℕ
    h : ℕ
    b : ℕ
    xs : Slots E
    oa : Packets E
    ba : Packets F
    here : Here t l h b xs oa ba
    out_of_step : (b ≤ l + h) × (l + h ≤ b + 2 * n) → ⊥

  broken : {l h b : ℕ} {xs : Slots E} {oa : Packets E} {ba : Packets F} → Here t l h b xs oa ba → ((b ≤ l + h) × (l + h ≤ b + 2 * n) → ⊥) → Broken
  broken z f = record { l = _; h = _; b = _; xs = _; oa = _; ba = _; here = z; out_of_step = f }

  -- A late acknowledgement. A bare frame that acknowledges number 0 waits in the air while the stream moves on by a window at a time, each
  -- time by an acknowledgement that overtakes it. Before the numbers start over, one window of elements is placed and acknowledged but
  -- not passed, and one more is held that was never sent. Then the late frame is heard: its 0 now stands for the end of the cycle, so it
  -- releases some of those that were never sent. One more element is accepted, and the stream is more than two windows behind.

  -- the late frame was overtaken i times, l elements were passed, and after them a window is clear, or it is full and acknowledged
  abbrev Waits : (i l : ℕ) → Type 0
  Waits i l = Here t l 0 l clear [] (word t 0 i ∷ [])

  abbrev Fills : (i l : ℕ) → Type 0
  Fills i l = Here t (l + n) 0 l full [] (word t 0 i ∷ [])

  waits_none : Waits 0 0
  waits_none = rw (none_filled E n, zero-mod) at (answers (omega arith) (begun t))

  fills_more : (i l : ℕ) → i < t.back.bound → Waits i l → Fills (suc i) l
  fills_more i l few z = hears_past n 0 i (omega arith) refl (omega arith) (window_told l (l + n) refl) few (answers (omega arith) (window_placed z))

  -- with a window of elements held, it is heard: the numbers start over within that window
  releases : (i l : ℕ) → l + n < m → m ≤ l + 2 * n → Fills i l → Broken
  releases i l s w z =
      let k : ℕ = m - (l + n) in
      let heard : Here t m (n - k) l full [] [] = hears k i (omega arith) (omega arith) (omega arith) (sym (mod_self m)) (accepts_all n (omega arith) z) in
      broken (accepts (omega arith) heard) (λ q. omega (arith, q.1))

  -- the stream moves on until that can be done. The late frame may be overtaken k times more
  late_word : (k i l : ℕ) → i + k ≡ t.back.bound → l + n < m → m ≤ l + n + k * n → Waits i l → Broken
  late_word zero i l s w h z = absurd (omega arith)
  late_word (suc k) i l s w h z =
      let y : Fills (suc i) l = fills_more i l (omega arith) z in
      ⊎_elim
      (λ (g : l + n + n < m). late_word k (suc i) (l + n) (omega arith) g (omega arith) (passes_all n l (l + n) [] refl y))
      (λ g. releases (suc i) l w (omega arith) y)
      (cases_lt (l + n + n) m)

  -- A late frame, as with an old reading. The frame of element 0, which was sent twice, waits in the air while its window and then
  -- further elements are passed, each of those by a frame that overtakes it. Then it is heard: its number 0 now stands for a slot that
  -- its sender has not reached, and it is placed there. When the slots before that are filled and all are passed, one element more is
  -- passed than was accepted.

  -- the late frame was overtaken i times, and l elements were passed and acknowledged
  abbrev Late : (i l : ℕ) → Type 0
  Late i l = Here t l 0 l (None ∷ replicate (n - 1) None) (frame t 0 i ∷ []) []

  late_none : Late 0 n
  late_none =
      let sent : Here t 0 n 0 full (frame t 0 0 ∷ []) [] = rw zero-mod at (sends 0 (omega arith) (omega arith) (window_placed (begun t))) in
      let told = hears {h' = 0} n 0 (omega arith) (omega arith) (omega arith) (window_told 0 n (omega arith)) (answers (omega arith) sent) in
      let whole : n ≡ suc (n - 1) = omega arith in
      let first : clear ≡ replicate (suc (n - 1)) None = ap (λ j. replicate j None) whole in
      rw first at (passes_all n 0 n [] (omega arith) told)

  late_more : (i l : ℕ) → i < t.out.bound → Late i l → Late (suc i) (suc l)
  late_more i l few z =
      let placed = places_past 0 0 i (omega arith) refl few (sends 0 (omega arith) (omega arith) (accepts (omega arith) z)) in
      let next : l + suc (first_free {E = E} (replicate (n - 1) None)) ≡ suc l = omega (arith, none_filled E (n - 1)) in
      let told = hears {h' = 0} 1 0 (omega arith) (omega arith) refl (ap (λ y. y % m) next) (answers (omega arith) placed) in
      rw (replicate_more, add-one) at (passes told)

  -- it is placed in slot k, where the numbers start over, and the slots up to that one are passed
  misplaces : (k i l : ℕ) → k < n → l + k ≡ m → Late i l → Broken
  misplaces k i l s is z =
      let ys : Slots E = replicate (n - suc k) None in
      let split : suc (n - 1) ≡ k + suc (n - suc k) = omega arith in
      let same = ap (λ j. replicate {A = Option E} j None) split in
      let parts = replicate-append-replicate {A = Option E} k (suc (n - suc k)) None in
      let placed = rw set_between at (places k i s (rw (is, mod_self)) (rw (same, ← parts) at z)) in
      let behind = rw one_more at (places_all k (Some t.e ∷ ys) (omega arith) (omega arith) (accepts_all k (omega arith) placed)) in
      broken (passes_all (suc k) l (l + suc k) ys refl behind) (λ q. omega (arith, q.0))

  -- before that it is overtaken j times more
  late_frame : (j k i l : ℕ) → i + j ≤ t.out.bound → k < n → l + j + k ≡ m → Late i l → Broken
  late_frame zero k i l h s is z = misplaces k i l s (omega arith) z
  late_frame (suc j) k i l h s is z = late_frame j k (suc i) (suc l) (omega arith) s (omega arith) (late_more i l (omega arith) z)

  -- each cycle that is too short breaks one of the two limits
  too_short : m < least_cycle n t.out.bound t.back.bound → Broken
  too_short s =
      let k : ℕ = min (m - n) (n - 1) in
      ⊎_elim
      (λ l. late_frame (m - n - k) k 0 n (omega arith) (omega arith) (omega arith) late_none)
      (λ l. late_word t.back.bound 0 0 (omega arith) (omega arith) (omega arith) waits_none)
      (cases_lt m (2 * n + t.out.bound))

module _ {E F : Type 0} (T : Shape E) (U : Shape F) (m m' : ℕ) (some : 1 ≤ T.window) (wide : T.window + 1 ≤ m)
    (room : 2 ≤ T.capacity) (room' : 2 ≤ U.capacity) (e : E) (ok : T.valid e ≡ true) where
  abbrev trial : Trial E F
  trial = record { out = T; back = U; cycle = m; back_cycle = m'; e = e; valid = ok; some = some; wide = wide; room = room; back_room = room' }

  -- a history after which the stream is out of step
  pub needed : m < least_cycle T.window T.bound U.bound → (h : List (Call E F)) × (InStep T.window (after (cycling T m) (cycling U m') h).out → ⊥)
  needed s =
      let z = too_short trial s in
      (z.here.history, λ step. z.out_of_step (in_step_at trial _ _ _ _ _ _ (rw z.here.leads at step)))

  -- by the mirror images
  pub back_needed : m < least_cycle T.window T.bound U.bound → (h : List (Call F E)) × (InStep T.window (after (cycling U m') (cycling T m) h).back → ⊥)
  back_needed s =
      let z = too_short trial s in
      (z.here.mirrored, λ step. z.out_of_step (in_step_at trial _ _ _ _ _ _ (rw z.here.leads_back at step)))
