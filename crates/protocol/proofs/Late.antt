-- A stream whose cycle may be too short: the pasts that show it, and the single calls that lead from one of them to the next.
use Rattle.std.proofs.Common.{◌≡◌, ℕ, zero, suc, ◌+◌, ◌-◌, ◌*◌, ◌%◌, ◌<◌, ◌≤◌, true, List, [], ◌∷◌, ◌++◌, length, set, replicate, Some, None, Option, refl, ap, ◌∙◌, zero-add, add-suc, add-one, length-take, arith, slice_get}
use Rattle.std.proofs.Math.Nat.{add_assoc, add-sub_cancel_left, sub-zero, zero-mod, mod_self, mod-add-mod}
use Rattle.std.proofs.lemmas.Option.{slice_get-get_or}
use Rattle.std.proofs.lemmas.List.{drop-replicate, get_or-replicate, length-replicate, replicate_more}
use Rattle.std.proofs.lemmas.Bool.{le-leb, lt-leb, lt-ltb, ne_eqb}
use Rattle.frame.specs.declared.Frame.TheVariants.{Bare, Laden}
use Rattle.protocol.specs.Windows.{cyclic, acknowledged, first_free}
use Rattle.protocol.specs.Machine.{Act, new_stream}
use Rattle.protocol.specs.Machine.Act.{accept, send, bare, deliver, pass}
use Rattle.protocol.specs.Histories.{Call, after, turned_past, does, other_does}
use Rattle.protocol.specs.Histories.Call.{mast, hut}
use Rattle.protocol.specs.Delivery.{InStep}
use Rattle.protocol.proofs.Numbers.{ahead}
use Rattle.protocol.proofs.Plain.{Shape, Packet, Setting, Past, cycling}

abbrev pub Slots : Type 0 → Type 0
Slots E = List (Option E)

abbrev pub Packets : Type 0 → Type 0
Packets E = List (Packet E)

-- the number k places after x lies k places on, if that is less than the cycle
places_on : (m x k : ℕ) → k < m → ((x + k) % m + (m - x % m % m)) % m ≡ k
places_on m x k h = ahead m x (x + k) (omega arith) (omega arith) ∙ omega arith

-- so an acknowledgement of the first k held elements releases them
leaves : {E : Type 0} (e : E) (m l k h : ℕ) → k < m →
    acknowledged (cyclic m) ((l + k) % m) (record { low = l % m; held = replicate (k + h) e }) ≡ record { low = (l + k) % m; held = replicate h e }
leaves e m l k h s = rw (places_on, length-replicate, le-leb k (k + h) (omega arith), drop-replicate, add-sub_cancel_left)

pub none_filled : (F : Type 0) (k : ℕ) → first_free {E = F} (replicate k None) ≡ 0
none_filled F zero = refl
none_filled F (suc k) = refl

get_replicate : {A : Type 0} (k h : ℕ) (e : A) → k < h → slice_get (replicate h e) k ≡ Some e
get_replicate k h e s = let all = length-replicate h e in slice_get-get_or (replicate h e) k e (omega arith) ∙ ap Some (get_or-replicate h k e e s)

-- a link, a cycle for its stream out that is over the window, and an element of that stream's kind. Both airs have room for two frames
pub record Trial (E F : Type 0) : Type 0 where
  pub out : Shape E
  pub back : Shape F
  pub cycle : ℕ
  pub back_cycle : ℕ
  pub e : E
  pub valid : out.valid e ≡ true
  pub some : 1 ≤ out.window
  pub wide : out.window + 1 ≤ cycle
  pub room : 2 ≤ out.capacity
  pub back_room : 2 ≤ back.capacity

module _ {E F : Type 0} (t : Trial E F) where
  abbrev pub c : Setting E
  c = cycling t.out t.cycle

  abbrev pub d : Setting F
  d = cycling t.back t.back_cycle

  -- the waiting frame with the element under the number x, and the one that acknowledges x, each i times overtaken
  abbrev pub frame : ℕ → ℕ → Packet E
  frame x i = record { frame = Laden 0 x t.e; count = i }

  abbrev pub word : ℕ → ℕ → Packet F
  word x i = record { frame = Bare x; count = i }

  -- the past in which l elements were released, the next h are held and b were passed, with these slots and these frames in the airs.
  -- All elements are the same, and the other stream has not been used
  pub at : (l h b : ℕ) → Slots E → Packets E → Packets F → Past E F
  at l h b xs oa ba = record {
    state = record {
      out = record { sender = record { low = l % t.cycle; held = replicate h t.e }; receiver = record { base = b % t.cycle; slots = xs } };
      back = new_stream t.back.window;
      out_air = oa;
      back_air = ba;
    };
    out = record { accepted = replicate (l + h) t.e; passed = replicate b t.e };
    back = record { accepted = []; passed = [] };
    bytes_refused = 0;
  }

  -- some history leads there, and so does its mirror image at the turned link
  pub record Here (l h b : ℕ) (xs : Slots E) (oa : Packets E) (ba : Packets F) : Type 0 where
    pub history : List (Call E F)
    pub leads : after c d history ≡ at l h b xs oa ba
    pub mirrored : List (Call F E)
    pub leads_back : after d c mirrored ≡ turned_past (at l h b xs oa ba)

  pub begun : Here 0 0 0 (replicate t.out.window None) [] []
  unfolding at
  begun = record { history = []; leads = rw zero-mod; mirrored = []; leads_back = rw zero-mod }

  -- what it says of these numbers that the stream is in step
  pub in_step_at : (l h b : ℕ) (xs : Slots E) (oa : Packets E) (ba : Packets F) →
      InStep t.out.window (at l h b xs oa ba).out → (b ≤ l + h) × (l + h ≤ b + 2 * t.out.window)
  unfolding at
  in_step_at l h b xs oa ba step =
      let front = simp (length-take, length-replicate) at (ap length step.0) in
      let near = simp length-replicate at step.1 in
      (omega arith, omega arith)

module _ {E F : Type 0} {t : Trial E F} where
  module _ {l h b l' h' b' : ℕ} {xs xs' : Slots E} {oa oa' : Packets E} {ba ba' : Packets F} where
    by_mast : (x : Act E) → Here t l h b xs oa ba →
        does (c t) (d t) x (at t l h b xs oa ba) ≡ at t l' h' b' xs' oa' ba' → Here t l' h' b' xs' oa' ba'
    by_mast x z s = record {
      history = mast x ∷ z.history;
      leads = ap (does (c t) (d t) x) z.leads ∙ s;
      mirrored = hut x ∷ z.mirrored;
      leads_back = ap (other_does (d t) (c t) x) z.leads_back ∙ ap turned_past s;
    }

    by_hut : (x : Act F) → Here t l h b xs oa ba →
        other_does (c t) (d t) x (at t l h b xs oa ba) ≡ at t l' h' b' xs' oa' ba' → Here t l' h' b' xs' oa' ba'
    by_hut x z s = record {
      history = hut x ∷ z.history;
      leads = ap (other_does (c t) (d t) x) z.leads ∙ s;
      mirrored = mast x ∷ z.mirrored;
      leads_back = ap (does (d t) (c t) x) z.leads_back ∙ ap turned_past s;
    }

  -- the calls, one by one
  module _ {l h b : ℕ} {xs : Slots E} {oa : Packets E} {ba : Packets F} where
    pub accepts : h < t.out.window → Here t l h b xs oa ba → Here t l (suc h) b xs oa ba
    unfolding at
    accepts s z = by_mast (accept t.e) z (rw (length-replicate, lt-ltb, t.valid, replicate_more h t.e, add-one, replicate_more, add-one, add-suc))

    pub passes : Here t l h b (Some t.e ∷ xs) oa ba → Here t l h (suc b) (xs ++ (None ∷ [])) oa ba
    unfolding at
    passes z = by_hut pass z (rw (mod-add-mod, replicate_more, add-one))

    -- the k-th held element is sent
    pub sends : (k : ℕ) → k < h → length oa < t.out.capacity →
        Here t l h b xs oa ba → Here t l h b xs (oa ++ (frame t ((l + k) % t.cycle) 0 ∷ [])) ba
    unfolding at
    sends k s room z = by_mast (send k) z (rw (get_replicate k h t.e s, lt-leb, none_filled, zero-mod, mod-add-mod))

    pub answers : length ba < t.back.capacity → Here t l h b xs oa ba → Here t l h b xs oa (ba ++ (word t ((b + first_free xs) % t.cycle) 0 ∷ []))
    unfolding at
    answers room z = by_hut bare z (rw (lt-leb, mod-add-mod))

  -- the frame of slot k is placed, alone or past another
  module _ {l h b x : ℕ} {xs : Slots E} {ba : Packets F} where
    pub places : (k i : ℕ) → k < t.out.window → x ≡ (b + k) % t.cycle →
        Here t l h b xs (frame t x i ∷ []) ba → Here t l h b (set xs k (Some t.e)) [] ba
    unfolding at
    places k i s is z = by_mast (deliver 0) z (rw (is, places_on t.cycle b k (omega arith), lt-ltb, zero-mod, sub-zero, zero-add, mod_self))

    pub places_past : (k y i : ℕ) → k < t.out.window → x ≡ (b + k) % t.cycle → i < t.out.bound →
        Here t l h b xs (frame t y i ∷ frame t x 0 ∷ []) ba → Here t l h b (set xs k (Some t.e)) (frame t y (suc i) ∷ []) ba
    unfolding at
    places_past k y i s is few z =
        by_mast (deliver 1) z
        (rw (is, places_on t.cycle b k (omega arith), lt-ltb, zero-mod, sub-zero, zero-add, mod_self, ne_eqb i t.out.bound (λ q. omega arith), add-one))

  -- an acknowledgement of the first k held elements is heard, alone or past another
  module _ {l h b l' h' x : ℕ} {xs : Slots E} {oa : Packets E} where
    pub hears : (k i : ℕ) → k < t.cycle → l' ≡ l + k → h ≡ k + h' → x ≡ l' % t.cycle →
        Here t l h b xs oa (word t x i ∷ []) → Here t l' h' b xs oa []
    unfolding at
    hears k i s low held is z = by_hut (deliver 0) z (rw (is, low, held, leaves, add_assoc))

    pub hears_past : (k y i : ℕ) → k < t.cycle → l' ≡ l + k → h ≡ k + h' → x ≡ l' % t.cycle → i < t.back.bound →
        Here t l h b xs oa (word t y i ∷ word t x 0 ∷ []) → Here t l' h' b xs oa (word t y (suc i) ∷ [])
    unfolding at
    hears_past k y i s low held is few z = by_hut (deliver 1) z (rw (is, low, held, leaves, add_assoc, ne_eqb i t.back.bound (λ q. omega arith), add-one))
