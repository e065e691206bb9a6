-- Settling as its phases make it, and what that is to an open link.
use Rattle.std.proofs.Common.{◌≡◌, ℕ, ◌*◌, ◌≤◌, nat_le, ◌&&◌, List, [], ◌++◌, length, take, drop, Some, None, Ok, Option, Result, Err, ◌∷◌, refl, ap, ap₂}
use Rattle.std.proofs.Common.{refl, sym, ap, ap₂, ◌∙◌, arith}
use Rattle.std.proofs.lemmas.List.{append-nil, drop_at, length-take-le}
use Rattle.std.proofs.lemmas.Bool.Decides.{nat_tests}
use Rattle.std.specs.Option.{option_map_or, option_or}
use Rattle.refusal.specs.Refusals.{unless}
use Rattle.refusal.specs.declared.Refusal.{Refusal}
use Rattle.refusal.specs.declared.Refusal.TheVariants.{ListTooShort, NoRoomInAir}
use Rattle.air.specs.Waiting.{AirState}
use Rattle.air.specs.Steps.{Bytes}
use Rattle.element.specs.Kinds.{Coding}
use Rattle.tight.specs.SameList.{Keeps}
use Rattle.tight.specs.Tights.{tight_state}
use Rattle.tight.specs.declared.Tight.{Tight}
use Rattle.protocol.specs.Delivery.{owed}
use Rattle.protocol.specs.Drafts.{refused_unless}
use Rattle.protocol.specs.Histories.{Past, all_passed, calls, emptied, flushed, reported, settle, settle_refusal, settle_refused, settled, settled_lists}
use Rattle.protocol.specs.Promises.{CanSettle, Direction, opened, past}
use Rattle.wire.specs.Wires.{PromisesInBytes}
use Rattle.link.specs.Ends.{facing, settings_of}
use Rattle.link.specs.Links.{link_state, to_hut, to_mast}
use Rattle.link.specs.Courses.{Course, Undergo, UndergoBoth, Undergoes, UndergoesAlone, Undergone, parts}
use Rattle.link.specs.Settling.{PaysInFull, SettlesAs, settle_answer}
use Rattle.link.specs.declared.end.End.{End}
use Rattle.link.specs.declared.link.Link.{Link}
use Rattle.link.specs.declared.link.Settled.{Settled}
use Rattle.link.proofs.Phases.{faces_still, then, told_as, turned_round}
use Rattle.link.proofs.Runs.{set_as}
use Rattle.link.proofs.Turns.{mast_hears, mast_sends, same_directions}

module _ {E F A B : Type 0} {kind : Coding E} {heard_kind : Coding F} {a : A → AirState Bytes} {b : B → AirState Bytes} where
  -- draining, flushing each way and reporting each way is settling
  pub settles : {n₀ n₁ n₂ n₃ n₄ n₅ n₆ : End E F} {m₀ m₁ m₂ m₃ m₄ m₅ m₆ : End F E} {t₀ t₁ t₂ t₃ : Tight A} {u₀ u₁ u₂ u₃ : Tight B}
      {es es′ : List E} {fs fs′ : List F} → settings_of m₀ ≡ facing (settings_of n₀) →
      Undergoes kind heard_kind a emptied m₀ m₁ t₀ t₁ → Undergoes heard_kind kind b emptied n₀ n₁ u₀ u₁ →
      UndergoesAlone heard_kind kind all_passed n₁ n₂ fs → UndergoesAlone kind heard_kind all_passed m₁ m₂ es →
      UndergoBoth kind heard_kind a flushed n₂ n₃ m₂ m₃ t₁ t₂ es′ → UndergoBoth heard_kind kind b flushed m₃ m₄ n₃ n₄ u₁ u₂ fs′ →
      UndergoBoth kind heard_kind a reported n₄ n₅ m₄ m₅ t₂ t₃ [] → UndergoBoth heard_kind kind b reported m₅ m₆ n₅ n₆ u₂ u₃ [] →
      Undergo kind heard_kind settled (parts n₀ m₀ (tight_state a t₀) (tight_state b u₀))
      (parts n₆ m₆ (tight_state a t₃) (tight_state b u₃)) (es ++ es′) (fs ++ fs′)
  settles {n₀} {n₂ = n₂} {m₁ = m₁} {t₁ = t₁} {t₂ = t₂} {t₃ = t₃} {u₀ = u₀} {u₁ = u₁} {u₂ = u₂} faces x₁ x₂ x₃ x₄ x₅ x₆ x₇ x₈ =
      let y₁ = x₁.facing_any n₀ (tight_state b u₀) faces in
      let y₂ = then y₁ (turned_round (x₂.facing_any m₁ (tight_state a t₁) (faces_still (turned_round y₁)))) in
      let y₃ = then y₂ (turned_round (x₃.facing_any m₁ (tight_state b u₁) (tight_state a t₁) (faces_still (turned_round y₂)))) in
      let y₄ = then y₃ (x₄.facing_any n₂ (tight_state a t₁) (tight_state b u₁) (faces_still y₃)) in
      let y₆ = then (then y₄ (x₅.beside (tight_state b u₁))) (turned_round (x₆.beside (tight_state a t₂))) in
      told_as (simp append-nil) (simp append-nil)
      (then (then y₆ (x₇.beside (tight_state b u₂))) (turned_round (x₈.beside (tight_state a t₃))))

-- an open link's ends face each other
pub ends_face : {X Y A B : Type 0} (l : Link X Y A B) → settings_of l.hut ≡ facing (settings_of l.mast)
ends_face l = l.hut_set ∙ ap facing (sym l.mast_set)

-- where settling is not refused there is no cause to refuse it
pub no_cause : (u : Unit {0}) (cause : Option Refusal) → ◌≡◌ {A = Result (Unit {0}) Refusal} (Ok u) (unless tt cause) → cause ≡ None
no_cause u None e = refl
no_cause u (Some r) e = absurd cc

-- and where it is refused, there is that cause
refused_by : (r : Refusal) (cause : Option Refusal) → ◌≡◌ {A = Result (Unit {0}) Refusal} (Err r) (unless tt cause) → cause ≡ Some r
refused_by r None e = absurd cc
refused_by r (Some s) e = cc

-- what is done where there is a cause, is what the cause makes of it
refuses : {U : Type 0} (f : Refusal → U) (x : U) (cause : Option Refusal) (r : Refusal) → cause ≡ Some r → option_map_or f cause x ≡ f r
refuses f x cause r e = ap (λ o. option_map_or f o x) e

-- and then it can be done
can_settle : {E F V W : Type 0} (c : Direction E V) (d : Direction F W) (m h : ℕ) →
    settle_refusal (opened c d) (opened d c) m h ≡ None → CanSettle c d m h
can_settle c d m h free =
    let k = by c.terms.window d.terms.window m h c.capacity d.capacity free in
    record { mast_list = k.0; hut_list = k.1; room = k.2; back_room = k.3 }
  where
    by : (v w m h a b : ℕ) →
        option_or (refused_unless (nat_le (2 * w) m && nat_le (2 * v) h) ListTooShort)
        (refused_unless (nat_le 1 a && nat_le 1 b) NoRoomInAir) ≡ None →
        (2 * w ≤ m) × (2 * v ≤ h) × (1 ≤ a) × (1 ≤ b)
    by v w m h a b free = grind (arith, nat_tests)

-- what is done where there is no cause
unrefused : {T : Type 0} (f : Refusal → T) (x : T) {cause : Option Refusal} → cause ≡ None → option_map_or f cause x ≡ x
unrefused f x e = ap (λ o. option_map_or f o x) e

-- what was passed beyond what had been
beyond : {E : Type 0} (xs ys zs : List E) → ys ≡ xs ++ zs → drop (length xs) ys ≡ zs
beyond xs ys zs e = ap (drop (length xs)) e ∙ drop_at xs zs (length xs) refl

-- two answers that are the same have the same lists
same_lists : {X Y : Type 0} (ys : List Y) (xs : List X) (zs : List Y) (ws : List X) →
    settled_lists ys xs ≡ settled_lists zs ws → (ys ≡ zs) × (xs ≡ ws)
same_lists ys xs zs ws e = (cc, cc)

module _ {X Y A B : Type 0} {x : Coding X} {y : Coding Y} {a : A → AirState Bytes} {b : B → AirState Bytes} {l : Link X Y A B} where
  -- a link that refuses to settle stays as it is
  pub refused_so : (m h : ℕ) (r : Refusal) (result : Result Settled Refusal) (ys : List Y) (xs : List X) →
      (let c = to_hut x a l in let d = to_mast y b l in
      ◌≡◌ {A = Result (Unit {0}) Refusal} (Err r) (unless tt (settle_refusal (opened c d) (opened d c) m h))) →
      result ≡ Err r → SettlesAs x y a b l l m h (settle_answer result ys xs)
  refused_so m h r result ys xs e is_err =
      let c = opened (to_hut x a l) (to_mast y b l) in
      let d = opened (to_mast y b l) (to_hut x a l) in
      let cause = refused_by r (settle_refusal c d m h) e in
      let stays : (p : Past X Y Bytes Bytes) → calls c d (settle m h) p ≡ p = λ p. refuses (λ r. p) (settled c d p) _ r cause in
      record {
        directions = record { out = refl; back = refl; list = λ same. same; back_list = λ same. same };
        steps = λ p is. (ap (λ q. q.state) (stays p) ∙ is, refuses settle_refused _ _ r cause ∙ sym (ap (λ q. settle_answer q ys xs) is_err));
        leads = λ history led. record {
          reached = ap (λ q. q.state) (stays (past (to_hut x a l) (to_mast y b l) history)) ∙ led.reached;
        };
      }

module _ {X Y A B : Type 0} {x : Coding X} {y : Coding Y} {a : A → AirState Bytes} {b : B → AirState Bytes} {l l′ : Link X Y A B} where
  -- what an open link's parts go through, it goes through
  pub undergone : {run : Course X Y} {es : List X} {fs : List Y} →
      l′.draft ≡ l.draft → Keeps a l.hut_bound_air l′.hut_bound_air → Keeps b l.mast_bound_air l′.mast_bound_air →
      Undergo x y run (parts l.mast l.hut (tight_state a l.hut_bound_air) (tight_state b l.mast_bound_air))
      (parts l′.mast l′.hut (tight_state a l′.hut_bound_air) (tight_state b l′.mast_bound_air)) es fs →
      Undergone x y a b run l l′ es fs
  undergone {run} draft out back u = record {
    directions = same_directions x y a b l l′ draft out back;
    runs = set_as run (mast_sends x y a b l) (mast_hears x y a b l) u.runs;
  }

  -- a link that has gone through all that settling does has settled, where there is no cause to refuse it
  pub settled_so : {es : List X} {fs : List Y} (m h : ℕ) →
      (let c = to_hut x a l in let d = to_mast y b l in settle_refusal (opened c d) (opened d c) m h ≡ None) →
      Undergone x y a b settled l l′ es fs → SettlesAs x y a b l l′ m h (settled_lists fs es)
  settled_so {es} {fs} m h free u =
      let c = opened (to_hut x a l) (to_mast y b l) in
      let d = opened (to_mast y b l) (to_hut x a l) in
      let same = u.directions in
      record {
        directions = same;
        steps = λ p e. (
          ap (λ q. q.state) (unrefused (λ r. p) (settled c d p) free) ∙ u.runs.state p e,
          unrefused settle_refused _ free
              ∙ ap₂ settled_lists (beyond p.back.passed _ fs (u.runs.back_passed p e)) (beyond p.out.passed _ es (u.runs.passed p e)),
        );
        leads = λ history led.
            let p = past (to_hut x a l) (to_mast y b l) history in
            record {
              reached =
                  ap₂ (λ c d. (past c d (settle m h ∷ history)).state) same.out same.back
                  ∙ ap (λ q. q.state) (unrefused (λ r. p) (settled c d p) free) ∙ u.runs.state p led.reached;
            };
      }

  -- and then it has given each end what it was owed
  pub paid : (m h : ℕ) (n : Settled) (ys : List Y) (xs : List X) → PromisesInBytes x y →
      (let c = to_hut x a l in let d = to_mast y b l in settle_refusal (opened c d) (opened d c) m h ≡ None) →
      n.mast ≤ length ys → n.hut ≤ length xs →
      SettlesAs x y a b l l′ m h (settled_lists (take n.mast ys) (take n.hut xs)) → PaysInFull x y a b l l′ n ys xs
  paid m h n ys xs promises free i j s = record {
    pays = λ history led.
        let e = led.reached in
        let c = to_hut x a l in
        let d = to_mast y b l in
        let promise =
        promises l.draft.hut_bound l.draft.mast_bound l.draft.within c.capacity d.capacity c.own_bound d.own_bound (link_state a b l) in
        let p = past c d history in
        let t = (promise.delivers history e).settles m h (can_settle c d m h free) in
        let q = same_lists (take n.mast ys) (take n.hut xs) (owed p.back) (owed p.out) (sym (s.steps p e).1 ∙ t.written) in (
          q.0,
          q.1,
          sym (length-take-le n.mast ys i) ∙ ap length q.0,
          sym (length-take-le n.hut xs j) ∙ ap length q.1,
          sym (s.steps p e).0 ∙ ap (λ q. q.state) t.rests,
        );
  }
