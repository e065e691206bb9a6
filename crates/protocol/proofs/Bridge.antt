-- One machine seen through another: what each act does alike, every history does alike.
use Rattle.std.proofs.Common.{◌≡◌, ℕ, zero, suc, Bool, true, List, [], ◌∷◌, length, drop, Some, None, Option, sym, refl, ap, ◌∙◌, subst}
use Rattle.refusal.specs.declared.Refusal.{Refusal}
use Rattle.std.specs.Fn.{iterate}
use Rattle.std.specs.Option.{option_map_or}
use Rattle.protocol.specs.Machine.{Setting, State, Step, Act, turned, act, act_unless}
use Rattle.protocol.specs.Machine.Act.{accept, send, bare, deliver, pass}
use Rattle.protocol.specs.Histories.{Past, Call, Answer, turned_past, after_step, does, other_does, from_other_end, up_to, settle_refusal, calls, answers}
use Rattle.protocol.specs.Histories.{emptied, all_passed, all_sent, reported, drained, flushed, settled, start, after}
use Rattle.protocol.specs.Histories.Call.{mast, hut, settle}
use Rattle.protocol.specs.Histories.Answer.{mast_answer, hut_answer, settled_lists, settle_refused}

-- where I holds, g keeps it, and f does to what is seen through φ what g does
pub record Same {A B : Type 0} (I : A → Type 0) (φ : A → B) (f : B → B) (g : A → A) : Type 0 where
  pub kept : (p : A) → I p → I (g p)
  pub alike : (p : A) → I p → f (φ p) ≡ φ (g p)

module _ {A B : Type 0} {I : A → Type 0} {φ : A → B} where
  pub then_same : {f f2 : B → B} {g g2 : A → A} → Same I φ f g → Same I φ f2 g2 → Same I φ (λ p. f2 (f p)) (λ p. g2 (g p))
  then_same {f} {f2} {g} {g2} s t = record {
    kept = λ p h. t.kept (g p) (s.kept p h);
    alike = λ p h. ap f2 (s.alike p h) ∙ t.alike (g p) (s.kept p h);
  }

  same_self : Same I φ (λ p. p) (λ p. p)
  same_self = record { kept = λ p h. h; alike = λ p h. refl }

  times_same : {f : B → B} {g : A → A} → Same I φ f g → (k : ℕ) → Same I φ (iterate f k) (iterate g k)
  times_same s zero = same_self
  times_same s (suc k) = then_same s (times_same s k)

  up_to_same : {f : ℕ → B → B} {g : ℕ → A → A} → ((k : ℕ) → Same I φ (f k) (g k)) → (k : ℕ) → Same I φ (up_to k f) (up_to k g)
  up_to_same s zero = same_self
  up_to_same s (suc k) = then_same (up_to_same s k) (s k)

  -- something is done as often as a number in the past says, which is seen as it is
  often_same : {f : ℕ → B → B} {g : ℕ → A → A} (m : B → ℕ) (n : A → ℕ) → ((p : A) → m (φ p) ≡ n p) →
      ((k : ℕ) → Same I φ (f k) (g k)) → Same I φ (λ p. f (m p) p) (λ p. g (n p) p)
  often_same {f} m n e s = record { kept = λ p. (s (n p)).kept p; alike = λ p h. ap (λ k. f k (φ p)) (e p) ∙ (s (n p)).alike p h }

  unless_same : {f : B → B} {g : A → A} (o : Option Refusal) → Same I φ f g →
      Same I φ (λ p. option_map_or (λ r. p) o (f p)) (λ p. option_map_or (λ r. p) o (g p))
  unless_same None s = s
  unless_same (Some refusal) s = same_self

module _ {E F V W V2 W2 : Type 0} (ψ : State E F V W → State E F V2 W2) where
  -- what is seen through ψ of a step, of a past, and from the other end
  abbrev pub seen : Step E F V W → Step E F V2 W2
  seen t = record { state = ψ t.state; reply = t.reply }

  abbrev pub through : Past E F V W → Past E F V2 W2
  through p = record { state = ψ p.state; out = p.out; back = p.back; bytes_refused = p.bytes_refused }

  abbrev pub around : State F E W V → State F E W2 V2
  around s = turned (ψ (turned s))

  -- a step that is refused alike in both is seen as it is, if it is so where neither is refused
  pub unless_seen : (o2 o : Option Refusal) {t2 : Step E F V2 W2} {t : Step E F V W} (s : State E F V W) → o2 ≡ o → t2 ≡ seen t →
      act_unless o2 t2 (ψ s) ≡ seen (act_unless o t s)
  unless_seen o2 None s e i = rw e i
  unless_seen o2 (Some refusal) s e i = rw e

-- what holds of a past as the other end sees it
abbrev pub Around : {E F V W : Type 0} → (Past E F V W → Type 0) → Past F E W V → Type 0
Around I p = I (turned_past p)

-- an act that may be done: an accept only where accepting is true
abbrev pub Allowed : {E : Type 0} → Bool → Act E → Type 0
Allowed accepting (accept e) = accepting ≡ true
Allowed accepting a = Unit {0}

-- where accepting is true, every act may be done
all_allowed : {E : Type 0} (a : Act E) → Allowed true a
all_allowed (accept e) = refl
all_allowed a = tt

-- where I holds, each allowed act of the end that looks keeps it, and with the settings C and D it does to what is seen through ψ what
-- it does with c and d
pub record Half {E F V W V2 W2 : Type 0} (accepting : Bool) (C : Setting E V2) (D : Setting F W2) (c : Setting E V) (d : Setting F W)
    (I : Past E F V W → Type 0) (ψ : State E F V W → State E F V2 W2) : Type 0 where
  pub kept : (a : Act E) → Allowed accepting a → (p : Past E F V W) → I p → I (does c d a p)
  pub alike : (a : Act E) → Allowed accepting a → (p : Past E F V W) → I p → act C D a (ψ p.state) ≡ seen ψ (act c d a p.state)
  pub wait : (s : State E F V W) → length (ψ s).out_air ≡ length s.out_air
  pub held : (s : State E F V W) → length (ψ s).out.sender.held ≡ length s.out.sender.held
  pub window : C.window ≡ c.window
  pub capacity : C.capacity ≡ c.capacity

-- so does each act of either end
pub record Halves {E F V W V2 W2 : Type 0} (accepting : Bool) (C : Setting E V2) (D : Setting F W2) (c : Setting E V) (d : Setting F W)
    (I : Past E F V W → Type 0) (ψ : State E F V W → State E F V2 W2) : Type 0 where
  pub here : Half accepting C D c d I ψ
  pub there : Half accepting D C d c (Around I) (around ψ)

-- and so it is as the link opens
pub record Bridge {E F V W V2 W2 : Type 0} (C : Setting E V2) (D : Setting F W2) (c : Setting E V) (d : Setting F W)
    (I : Past E F V W → Type 0) (ψ : State E F V W → State E F V2 W2) : Type 0 where
  pub halves : Halves true C D c d I ψ
  pub begins : I (start c d)
  pub begins_alike : start C D ≡ through ψ (start c d)

module _ {E F V W V2 W2 : Type 0} {accepting : Bool} {C : Setting E V2} {D : Setting F W2} {c : Setting E V} {d : Setting F W}
    {I : Past E F V W → Type 0} {ψ : State E F V W → State E F V2 W2} where
  -- the same half under another name of what holds
  pub renamed : {J : Past E F V W → Type 0} → Half accepting C D c d I ψ → ((p : Past E F V W) → I p → J p) → ((p : Past E F V W) → J p → I p) →
      Half accepting C D c d J ψ
  renamed b to from = record {
    kept = λ a s p h. to (does c d a p) (b.kept a s p (from p h));
    alike = λ a s p h. b.alike a s p (from p h);
    wait = b.wait;
    held = b.held;
    window = b.window;
    capacity = b.capacity;
  }

  -- the same halves from the other end
  pub turned_halves : Halves accepting C D c d I ψ → Halves accepting D C d c (Around I) (around ψ)
  turned_halves b = record { here = b.there; there = b.here }

  -- what is the same at the other end is the same, done from there
  pub turned_same : Halves accepting C D c d I ψ → {f : Past F E W2 V2 → Past F E W2 V2} {g : Past F E W V → Past F E W V} →
      Same (Around I) (through (around ψ)) f g → Same I (through ψ) (λ p. turned_past (f (turned_past p))) (λ p. turned_past (g (turned_past p)))
  turned_same b s = record { kept = λ p. s.kept (turned_past p); alike = λ p h. ap turned_past (s.alike (turned_past p) h) }

  module _ (b : Halves accepting C D c d I ψ) where
    pub does_same : (a : Act E) → Allowed accepting a → Same I (through ψ) (does C D a) (does c d a)
    does_same a s = record { kept = b.here.kept a s; alike = λ p h. ap (λ t. after_step a t (through ψ p)) (b.here.alike a s p h) }

    pub emptied_same : Same I (through ψ) (emptied C D) (emptied c d)
    emptied_same =
        often_same (λ p. length p.state.out_air) (λ p. length p.state.out_air) (λ p. b.here.wait p.state) (times_same (does_same (deliver 0) tt))

    pub all_sent_same : Same I (through ψ) (all_sent C D) (all_sent c d)
    all_sent_same =
        often_same (λ p. length p.state.out.sender.held) (λ p. length p.state.out.sender.held) (λ p. b.here.held p.state)
        (up_to_same (λ k. then_same (does_same (send k) tt) (does_same (deliver 0) tt)))

    pub reported_same : Same I (through ψ) (reported C D) (reported c d)
    reported_same = then_same (does_same bare tt) (does_same (deliver 0) tt)

module _ {E F V W V2 W2 : Type 0} {accepting : Bool} {C : Setting E V2} {D : Setting F W2} {c : Setting E V} {d : Setting F W}
    {I : Past E F V W → Type 0} {ψ : State E F V W → State E F V2 W2} (b : Halves accepting C D c d I ψ) where
  pub other_same : (a : Act F) → Allowed accepting a → Same I (through ψ) (other_does C D a) (other_does c d a)
  other_same a s = turned_same b (does_same (turned_halves b) a s)

  pub all_passed_same : Same I (through ψ) (all_passed C D) (all_passed c d)
  all_passed_same = rw b.here.window (times_same (other_same pass tt) c.window)

  pub flushed_same : Same I (through ψ) (flushed C D) (flushed c d)
  flushed_same = then_same (all_sent_same b) all_passed_same

module _ {E F V W V2 W2 : Type 0} {accepting : Bool} {C : Setting E V2} {D : Setting F W2} {c : Setting E V} {d : Setting F W}
    {I : Past E F V W → Type 0} {ψ : State E F V W → State E F V2 W2} (b : Halves accepting C D c d I ψ) where
  pub drained_same : Same I (through ψ) (drained C D) (drained c d)
  drained_same =
      let t = turned_halves b in
      then_same (emptied_same b) (then_same (turned_same b (emptied_same t)) (then_same (turned_same b (all_passed_same t)) (all_passed_same b)))

  pub both_flushed_same : Same I (through ψ) (λ p. from_other_end flushed C D (flushed C D p)) (λ p. from_other_end flushed c d (flushed c d p))
  both_flushed_same = then_same (flushed_same b) (turned_same b (flushed_same (turned_halves b)))

  pub settled_same : Same I (through ψ) (settled C D) (settled c d)
  settled_same = then_same drained_same (then_same both_flushed_same (then_same (reported_same b) (turned_same b (reported_same (turned_halves b)))))

module _ {E F V W V2 W2 : Type 0} {C : Setting E V2} {D : Setting F W2} {c : Setting E V} {d : Setting F W}
    {I : Past E F V W → Type 0} {ψ : State E F V W → State E F V2 W2} (b : Bridge C D c d I ψ) where
  refusal_same : (i j : ℕ) → settle_refusal C D i j ≡ settle_refusal c d i j
  refusal_same i j = let record { here = x; there = y } = b.halves in rw (x.window, y.window, x.capacity, y.capacity)

  pub calls_same : (x : Call E F) → Same I (through ψ) (calls C D x) (calls c d x)
  calls_same (mast a) = does_same b.halves a (all_allowed a)
  calls_same (hut a) = other_same b.halves a (all_allowed a)
  calls_same (settle i j) =
      let o = settle_refusal c d i j in
      subst (λ x. Same I (through ψ) (λ p. option_map_or (λ r. p) x (settled C D p)) (λ p. option_map_or (λ r. p) o (settled c d p))) (sym (refusal_same i j))
      (unless_same o (settled_same b.halves))

  pub answers_same : (x : Call E F) (p : Past E F V W) → I p → answers C D x (through ψ p) ≡ answers c d x p
  answers_same (mast a) p h = ap (λ t. mast_answer t.reply) (b.halves.here.alike a (all_allowed a) p h)
  answers_same (hut a) p h = ap (λ t. hut_answer t.reply) (b.halves.there.alike a (all_allowed a) (turned_past p) h)
  answers_same (settle i j) p h =
      ap (λ o. written o (settled C D (through ψ p)) p) (refusal_same i j)
      ∙ ap (λ q. written (settle_refusal c d i j) q p) ((settled_same b.halves).alike p h)
    where
      written : {A B A2 B2 : Type 0} → Option Refusal → Past E F A B → Past E F A2 B2 → Answer E F
      written o q p = option_map_or settle_refused o (settled_lists (drop (length p.back.passed) q.back.passed) (drop (length p.out.passed) q.out.passed))

  -- every history leads to the same past, seen through the bridge
  pub after_kept : (h : List (Call E F)) → I (after c d h)
  after_kept [] = b.begins
  after_kept (x ∷ h) = (calls_same x).kept (after c d h) (after_kept h)

  pub after_same : (h : List (Call E F)) → after C D h ≡ through ψ (after c d h)
  after_same [] = b.begins_alike
  after_same (x ∷ h) = ap (calls C D x) (after_same h) ∙ (calls_same x).alike (after c d h) (after_kept h)
