-- What an air does to its waiting frames, it does alike to the same frames in another form.
use Rattle.std.proofs.Common.{◌≡◌, ℕ, zero, suc, ◌||◌, eqb, List, [], ◌∷◌, ◌++◌, length, Some, None, Ok, Option, sym, refl, ap, ap₂, ◌∙◌}
use Rattle.std.specs.List.{slice_get}
use Rattle.air.specs.Waiting.{Waiting, barred, fresh, overtaken, raised, without}
use Rattle.air.specs.Steps.{room_refusal, place_refusal, answer_refusal}
use Rattle.frame.specs.declared.Frame.{Frame}
use Rattle.protocol.specs.Machine.{Setting, State, air_of, step, with_air, join, put, hear, hear_waiting, hear_at, act}
use Rattle.protocol.specs.Machine.Act.{lose, deliver, repeat}
use Rattle.protocol.specs.Machine.Reply.{done}
use Rattle.protocol.specs.Laws.{rewritten}
use Rattle.protocol.proofs.Bridge.{seen, unless_seen}

module _ {A B : Type 0} (f : A → B) where
  -- one waiting frame in the other form
  abbrev pub rewritten_one : Waiting A → Waiting B
  rewritten_one w = record { frame = f w.frame; count = w.count }

  -- the same of a frame that may not be there
  abbrev pub rewritten_at : Option (Waiting A) → Option (Waiting B)
  rewritten_at None = None
  rewritten_at (Some w) = Some (rewritten_one w)

  pub nth_rewritten : (ws : List (Waiting A)) (k : ℕ) → slice_get (rewritten f ws) k ≡ rewritten_at (slice_get ws k)
  nth_rewritten [] k = refl
  nth_rewritten (w ∷ ws) zero = refl
  nth_rewritten (w ∷ ws) (suc k) = nth_rewritten ws k

  pub length_rewritten : (ws : List (Waiting A)) → length (rewritten f ws) ≡ length ws
  length_rewritten [] = refl
  length_rewritten (w ∷ ws) = ap suc (length_rewritten ws)

  pub joined_rewritten : (ws : List (Waiting A)) (x : A) → rewritten f ws ++ (fresh (f x) ∷ []) ≡ rewritten f (ws ++ (fresh x ∷ []))
  joined_rewritten [] x = refl
  joined_rewritten (w ∷ ws) x = ap (λ r. rewritten_one w ∷ r) (joined_rewritten ws x)

  pub lost_rewritten : (k : ℕ) (ws : List (Waiting A)) → without k (rewritten f ws) ≡ rewritten f (without k ws)
  lost_rewritten k [] = refl
  lost_rewritten zero (w ∷ ws) = refl
  lost_rewritten (suc k) (w ∷ ws) = ap (λ r. rewritten_one w ∷ r) (lost_rewritten k ws)

  pub repeated_rewritten : (k : ℕ) (ws : List (Waiting A)) → overtaken k (rewritten f ws) ≡ rewritten f (overtaken k ws)
  repeated_rewritten zero ws = refl
  repeated_rewritten (suc k) [] = refl
  repeated_rewritten (suc k) (w ∷ ws) = ap (λ r. raised (rewritten_one w) ∷ r) (repeated_rewritten k ws)

  pub taken_rewritten : (k : ℕ) (ws : List (Waiting A)) → without k (overtaken k (rewritten f ws)) ≡ rewritten f (without k (overtaken k ws))
  taken_rewritten k ws = ap (without k) (repeated_rewritten k ws) ∙ lost_rewritten k (overtaken k ws)

  pub barred_rewritten : (bound k : ℕ) (ws : List (Waiting A)) → barred bound k (rewritten f ws) ≡ barred bound k ws
  barred_rewritten bound zero ws = refl
  barred_rewritten bound (suc k) [] = refl
  barred_rewritten bound (suc k) (w ∷ ws) = ap (λ b. eqb w.count bound || b) (barred_rewritten bound k ws)

-- where ψ shows the frames of the air that goes out rewritten by f, and the airs have the same capacity and bound
pub record Rewrites {E F V W V2 W2 : Type 0} (C : Setting E V2) (c : Setting E V) (ψ : State E F V W → State E F V2 W2) (f : V → V2) : Type 0 where
  pub capacity : C.capacity ≡ c.capacity
  pub bound : C.bound ≡ c.bound
  pub airs : (s : State E F V W) (ws : List (Waiting V)) → ψ (with_air s ws) ≡ with_air (ψ s) (rewritten f ws)

module _ {E F V W V2 W2 : Type 0} {C : Setting E V2} {c : Setting E V} {ψ : State E F V W → State E F V2 W2} {f : V → V2} (r : Rewrites C c ψ f) (s : State E F V W) where
  seen_air : (ψ s).out_air ≡ rewritten f s.out_air
  seen_air = ap (λ t. t.out_air) (r.airs s s.out_air)

  done_seen : (us : List (Waiting V2)) (ws : List (Waiting V)) → us ≡ rewritten f ws → step (with_air (ψ s) us) done ≡ seen ψ (step (with_air s ws) done)
  done_seen us ws e = ap (λ z. step (with_air (ψ s) z) done) e ∙ ap (λ t. step t done) (sym (r.airs s ws))

  -- what is written alike joins the air alike
  pub put_seen : (p : Frame E) (q : Frame E) (v : V) → C.codec.write p ≡ Ok (f v) → c.codec.write q ≡ Ok v → put C p (ψ s) ≡ seen ψ (put c q s)
  put_seen p q v e i =
      unless_seen ψ (room_refusal (air_of C (ψ s).out_air)) (room_refusal (air_of c s.out_air)) s
      (rw (r.capacity, seen_air, length_rewritten))
      (ap (λ z. join C z (ψ s)) e ∙ done_seen _ _ (ap (λ z. z ++ (fresh (f v) ∷ [])) seen_air ∙ joined_rewritten f s.out_air v) ∙ ap (λ z. seen ψ (join c z s)) (sym i))

  -- a frame is lost alike
  pub lose_seen : (D : Setting F W2) (d : Setting F W) (k : ℕ) → act C D (lose k) (ψ s) ≡ seen ψ (act c d (lose k) s)
  lose_seen D d k =
      unless_seen ψ (place_refusal k (air_of C (ψ s).out_air)) (place_refusal k (air_of c s.out_air)) s
      (rw (seen_air, length_rewritten))
      (done_seen _ _ (ap (without k) seen_air ∙ lost_rewritten f k s.out_air))

  -- what is heard alike is answered alike
  module _ (D : Setting F W2) (d : Setting F W) (k : ℕ)
      (h : (w : Waiting V) → slice_get s.out_air k ≡ Some w → (ws : List (Waiting V)) → hear C D (C.codec.read (f w.frame)) (rewritten f ws) (ψ s) ≡ seen ψ (hear c d (c.codec.read w.frame) ws s)) where
    hear_at_seen : (us : List (Waiting V2)) (ws : List (Waiting V)) → us ≡ rewritten f ws → hear_at C D k us (ψ s) ≡ seen ψ (hear_at c d k ws s)
    hear_at_seen us ws e =
        unless_seen ψ (answer_refusal k (air_of C (ψ s).out_air)) (answer_refusal k (air_of c s.out_air)) s
        (rw (r.bound, seen_air, length_rewritten, barred_rewritten))
        (ap₂ (λ o z. hear_waiting C D o z (ψ s)) (ap (λ z. slice_get z k) seen_air ∙ nth_rewritten f s.out_air k) e ∙ by (slice_get s.out_air k) refl)
      where
        by : (o : Option (Waiting V)) → slice_get s.out_air k ≡ o → hear_waiting C D (rewritten_at f o) (rewritten f ws) (ψ s) ≡ seen ψ (hear_waiting c d o ws s)
        by None i = refl
        by (Some w) i = h w i ws

    pub deliver_seen : act C D (deliver k) (ψ s) ≡ seen ψ (act c d (deliver k) s)
    deliver_seen = hear_at_seen _ _ (ap (λ z. without k (overtaken k z)) seen_air ∙ taken_rewritten f k s.out_air)

    pub repeat_seen : act C D (repeat k) (ψ s) ≡ seen ψ (act c d (repeat k) s)
    repeat_seen = hear_at_seen _ _ (ap (overtaken k) seen_air ∙ repeated_rewritten f k s.out_air)
