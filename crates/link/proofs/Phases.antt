-- The phases of settling: what the parts of a link go through, and how one phase follows another.
use Rattle.std.proofs.Common.{◌≡◌, ℕ, ◌+◌, List, [], ◌++◌, length, Ok, Err, Result, min, refl, sym, ap, ap₂, ◌∙◌, add-one}
use Rattle.std.proofs.Math.Path.{subst₂}
use Rattle.std.proofs.lemmas.List.{append-nil}
use Rattle.std.specs.Fn.{iterate}
use Rattle.refusal.specs.declared.Refusal.{Refusal}
use Rattle.air.specs.Waiting.{AirState}
use Rattle.air.specs.Steps.{Bytes}
use Rattle.element.specs.Kinds.{Coding}
use Rattle.frame.specs.Formats.{other_side}
use Rattle.frame.specs.declared.Side.{Side}
use Rattle.frame.specs.declared.Side.TheVariants.{Mast, Hut}
use Rattle.tight.specs.SameList.{Keeps}
use Rattle.tight.specs.Tights.{tight_state}
use Rattle.tight.specs.declared.Tight.{Tight}
use Rattle.protocol.specs.Machine.{Setting, Act, Reply}
use Rattle.protocol.specs.Machine.Act.{bare, deliver, send}
use Rattle.protocol.specs.Histories.{Past, does, from_other_end, passed_by, up_to}
use Rattle.protocol.specs.Histories.{all_passed, all_sent, emptied, flushed, reported, sent_over}
use Rattle.link.specs.Acts.{ActedOn, Acts}
use Rattle.link.specs.Ends.{EndSettings, end_state, facing, sending, settings_of}
use Rattle.link.specs.Replies.{done_reply, heard_reply}
use Rattle.link.specs.Courses.{Course, Parts, SameLimits, Undergo, UndergoBoth, Undergoes, UndergoesAlone, linked, parts}
use Rattle.link.specs.declared.Hearing.{Hearing}
use Rattle.link.specs.declared.end.End.{End}
use Rattle.link.proofs.Runs.{both, from_there, iterate_more, one, same, set_as}

-- the end that faces the one that an end faces is that end itself
pub facing_twice : (s : EndSettings) → facing (facing s) ≡ s
facing_twice s = ap (λ x. record s { side = x }) (twice s.side)
  where
    twice : (side : Side) → other_side (other_side side) ≡ side
    twice Mast = refl
    twice Hut = refl

-- an air as it is has its limits, and a tight air keeps them
pub limits_same : {air : AirState Bytes} → SameLimits air air
limits_same = record { room = refl; bound = refl }

limits_kept : {A : Type 0} {state : A → AirState Bytes} {t t′ : Tight A} →
    Keeps state t t′ → SameLimits (tight_state state t) (tight_state state t′)
limits_kept k = record { room = k.room; bound = ap₂ min k.given k.own }

-- what two calls keep of an air
pub kept_on : {A : Type 0} {state : A → AirState Bytes} {t t′ t″ : Tight A} → Keeps state t t′ → Keeps state t′ t″ → Keeps state t t″
kept_on k l = record { given = l.given ∙ k.given; room = l.room ∙ k.room; own = l.own ∙ k.own; list = λ x. l.list (k.list x) }

-- how an end sends does not depend on what waits in the air
sending_same : {E : Type 0} (kind : Coding E) {s t : EndSettings} {air air_after : AirState Bytes} →
    t ≡ s → SameLimits air air_after → sending kind t air_after ≡ sending kind s air
sending_same kind {s} {t} {air} {air_after} e l =
    let over = λ (s : EndSettings) (n m : ℕ). sending kind s (record { waiting = []; capacity = n; bound = m }) in
    ap (λ x. over x air_after.capacity air_after.bound) e ∙ ap₂ (over s) l.room l.bound

-- neither hearing nor sending passes anything
hears_only : {F : Type 0} (r : Result Hearing Refusal) (xs : List F) → passed_by {F = F} (heard_reply r) xs ≡ xs ++ []
hears_only (Ok h) xs = sym (append-nil xs)
hears_only (Err r) xs = sym (append-nil xs)

sends_only : {F : Type 0} (r : Result (Unit {0}) Refusal) (xs : List F) → passed_by {F = F} (done_reply r) xs ≡ xs ++ []
sends_only (Ok u) xs = sym (append-nil xs)
sends_only (Err r) xs = sym (append-nil xs)

module _ {E F : Type 0} {kind : Coding E} {heard_kind : Coding F} where
  -- the ends still face each other
  pub faces_still : {f : Course E F} {s t : Parts E F} {es : List E} {fs : List F} →
      Undergo kind heard_kind f s t es fs → settings_of t.far ≡ facing (settings_of t.near)
  faces_still u = u.far_settings ∙ u.faces ∙ ap facing (sym u.settings)

  -- one run after another
  pub then : {f g : Course E F} {s t u : Parts E F} {es es′ : List E} {fs fs′ : List F} →
      Undergo kind heard_kind f s t es fs → Undergo kind heard_kind g t u es′ fs′ →
      Undergo kind heard_kind (λ c d p. g c d (f c d p)) s u (es ++ es′) (fs ++ fs′)
  then {f} {g} x y = record {
    faces = x.faces;
    settings = y.settings ∙ x.settings;
    far_settings = y.far_settings ∙ x.far_settings;
    limits = record { room = y.limits.room ∙ x.limits.room; bound = y.limits.bound ∙ x.limits.bound };
    back_limits = record { room = y.back_limits.room ∙ x.back_limits.room; bound = y.back_limits.bound ∙ x.back_limits.bound };
    runs =
        both x.runs
        (set_as g (sending_same kind x.settings x.limits) (sending_same heard_kind (ap facing x.settings) x.back_limits) y.runs);
  }

  -- the same run as the other end sees it
  pub turned_round : {f : Course E F} {s t : Parts E F} {es : List E} {fs : List F} → Undergo kind heard_kind f s t es fs →
      Undergo heard_kind kind (from_other_end f) (parts s.far s.near s.back_air s.air) (parts t.far t.near t.back_air t.air) fs es
  turned_round {f} {s} x =
      let back : settings_of s.near ≡ facing (settings_of s.far) = sym (facing_twice (settings_of s.near)) ∙ ap facing (sym x.faces) in
      record {
        faces = back;
        settings = x.far_settings;
        far_settings = x.settings;
        limits = x.back_limits;
        back_limits = x.limits;
        runs = from_there (set_as f (ap (λ e. sending kind e s.air) back) (ap (λ e. sending heard_kind e s.back_air) (sym x.faces)) x.runs);
      }

  -- with what is passed told otherwise
  pub told_as : {f : Course E F} {s t : Parts E F} {es es′ : List E} {fs fs′ : List F} →
      es ≡ es′ → fs ≡ fs′ → Undergo kind heard_kind f s t es fs → Undergo kind heard_kind f s t es′ fs′
  told_as {f} {s} {t} e h = subst₂ (λ es fs. Undergo kind heard_kind f s t es fs) e h

  -- what makes the same of every past that leads there
  pub as_well : {f g : Course E F} {s t : Parts E F} {es : List E} {fs : List F} →
      ((c : Setting E Bytes) (d : Setting F Bytes) (p : Past E F Bytes Bytes) →
      c.window ≡ (settings_of s.near).window → p.state ≡ linked s → g c d p ≡ f c d p) →
      Undergo kind heard_kind f s t es fs → Undergo kind heard_kind g s t es fs
  as_well h x = record {
    faces = x.faces;
    settings = x.settings;
    far_settings = x.far_settings;
    limits = x.limits;
    back_limits = x.back_limits;
    runs = same (λ p e. h _ _ p refl e) x.runs;
  }

  -- a run once more
  pub once_more : {f : Course E F} {s t u : Parts E F} {es es′ : List E} {fs fs′ : List F} (i : ℕ) →
      Undergo kind heard_kind (λ c d. iterate (f c d) i) s t es fs → Undergo kind heard_kind f t u es′ fs′ →
      Undergo kind heard_kind (λ c d. iterate (f c d) (i + 1)) s u (es ++ es′) (fs ++ fs′)
  once_more {f} i x y = as_well (λ c d p w e. iterate_more (f c d) i 1 p) (then x y)

  -- one act of the near end
  pub acts : {n n′ : End E F} {m : End F E} {a a′ b : AirState Bytes} {e : Act E} {r : Reply F} {fs : List F} →
      settings_of m ≡ facing (settings_of n) → SameLimits a a′ → ((xs : List F) → passed_by r xs ≡ xs ++ fs) →
      Acts kind heard_kind n n′ a a′ e r → Undergo kind heard_kind (λ c d. does c d e) (parts n m a b) (parts n′ m a′ b) [] fs
  acts {n} {n′} {m} {a} {a′} {b} {e} faces limits passes x = record {
    faces = faces;
    settings = x.settings;
    far_settings = refl;
    limits = limits;
    back_limits = limits_same;
    runs = one (sending kind (settings_of n) a) (sending heard_kind (facing (settings_of n)) b) e (x.steps (end_state m) b) passes;
  }

  -- one act of the near end, at which the far one hears
  acted_on : {n : End E F} {m m′ : End F E} {a a′ b : AirState Bytes} {e : Act E} {r : Reply F} →
      settings_of m ≡ facing (settings_of n) → SameLimits a a′ → ((xs : List F) → passed_by r xs ≡ xs ++ []) →
      ActedOn heard_kind kind m m′ a a′ e r → Undergo kind heard_kind (λ c d. does c d e) (parts n m a b) (parts n m′ a′ b) [] []
  acted_on {n} {m} {m′} {a} {a′} {b} {e} faces limits passes x =
      let back : facing (settings_of m) ≡ settings_of n = ap facing faces ∙ facing_twice (settings_of n) in
      record {
        faces = faces;
        settings = refl;
        far_settings = x.settings;
        limits = limits;
        back_limits = limits_same;
        runs =
            set_as (λ c d. does c d e) (ap (λ s. sending kind s a) back) (ap (λ s. sending heard_kind s b) faces)
            (one (sending kind (facing (settings_of m)) a) (sending heard_kind (settings_of m) b) e (x.steps (end_state n) b) passes);
      }

module _ {E F A : Type 0} {kind : Coding E} {heard_kind : Coding F} {state : A → AirState Bytes} where
  -- the oldest frame is delivered once more
  pub delivered : (i : ℕ) {m m′ m″ : End F E} {t t′ t″ : Tight A} (r : Result Hearing Refusal) →
      Undergoes kind heard_kind state (λ c d. iterate (does c d (deliver 0)) i) m m′ t t′ →
      ActedOn heard_kind kind m′ m″ (tight_state state t′) (tight_state state t″) (deliver 0) (heard_reply r) → Keeps state t′ t″ →
      Undergoes kind heard_kind state (λ c d. iterate (does c d (deliver 0)) (i + 1)) m m″ t t″
  delivered i r x y k = record {
    settings = y.settings ∙ x.settings;
    kept = kept_on x.kept k;
    facing_any = λ near back e.
        let u = x.facing_any near back e in
        once_more i u (acted_on (faces_still u) (limits_kept k) (hears_only r) y);
  }

  -- as often as frames waited: then the air is emptied
  pub delivered_all : (i : ℕ) {m m′ : End F E} {t t′ : Tight A} → i ≡ length (tight_state state t).waiting →
      Undergoes kind heard_kind state (λ c d. iterate (does c d (deliver 0)) i) m m′ t t′ →
      Undergoes kind heard_kind state emptied m m′ t t′
  delivered_all i k x = record {
    settings = x.settings;
    kept = x.kept;
    facing_any = λ near back e.
        as_well (λ c d p w q. ap (λ j. iterate (does c d (deliver 0)) j p) (ap (λ t. length t.out_air) q ∙ sym k))
        (x.facing_any near back e);
  }

  module _ {n n′ : End E F} {m m′ : End F E} {t t′ t″ : Tight A} (r : Result (Unit {0}) Refusal) (q : Result Hearing Refusal) where
    -- a frame is put into the air, and delivered
    carried : {e : Act E} → settings_of m ≡ facing (settings_of n) →
        Acts kind heard_kind n n′ (tight_state state t) (tight_state state t′) e (done_reply r) → Keeps state t t′ →
        ActedOn heard_kind kind m m′ (tight_state state t′) (tight_state state t″) (deliver 0) (heard_reply q) → Keeps state t′ t″ →
        UndergoBoth kind heard_kind state (λ c d p. does c d (deliver 0) (does c d e p)) n n′ m m′ t t″ []
    carried faces x k y l = record {
      settings = x.settings;
      far_settings = y.settings;
      kept = kept_on k l;
      beside = λ back.
          let u = acts faces (limits_kept k) (sends_only r) x in
          then u (acted_on (faces_still u) (limits_kept l) (hears_only q) y);
    }

    -- a bare frame is
    pub reports : settings_of m ≡ facing (settings_of n) →
        Acts kind heard_kind n n′ (tight_state state t) (tight_state state t′) bare (done_reply r) → Keeps state t t′ →
        ActedOn heard_kind kind m m′ (tight_state state t′) (tight_state state t″) (deliver 0) (heard_reply q) → Keeps state t′ t″ →
        UndergoBoth kind heard_kind state reported n n′ m m′ t t″ []
    reports faces x k y l = carried faces x k y l

    -- the next held element is
    pub sent_next : (i : ℕ) {n₀ : End E F} {m₀ : End F E} {t₀ : Tight A} →
        UndergoBoth kind heard_kind state (λ c d. up_to i (sent_over c d)) n₀ n m₀ m t₀ t [] →
        Acts kind heard_kind n n′ (tight_state state t) (tight_state state t′) (send i) (done_reply r) → Keeps state t t′ →
        ActedOn heard_kind kind m m′ (tight_state state t′) (tight_state state t″) (deliver 0) (heard_reply q) → Keeps state t′ t″ →
        UndergoBoth kind heard_kind state (λ c d. up_to (i + 1) (sent_over c d)) n₀ n′ m₀ m′ t₀ t″ []
    sent_next i x y k z l = record {
      settings = y.settings ∙ x.settings;
      far_settings = z.settings ∙ x.far_settings;
      kept = kept_on x.kept (kept_on k l);
      beside = λ back.
          let u = x.beside back in
          as_well (λ c d p w e. rw add-one refl) (then u ((carried (faces_still u) y k z l).beside back));
    }

  -- as many are as are held: then all are
  pub sent_all : (i : ℕ) {n n′ : End E F} {m m′ : End F E} {t t′ : Tight A} → i ≡ length (end_state n).sender.held →
      UndergoBoth kind heard_kind state (λ c d. up_to i (sent_over c d)) n n′ m m′ t t′ [] →
      UndergoBoth kind heard_kind state all_sent n n′ m m′ t t′ []
  sent_all i k x = record {
    settings = x.settings;
    far_settings = x.far_settings;
    kept = x.kept;
    beside = λ back.
        as_well (λ c d p w e. ap (λ j. up_to j (sent_over c d) p) (ap (λ s. length s.out.sender.held) e ∙ sym k)) (x.beside back);
  }

  -- then the far end passes them: that flushes the stream
  pub flushes : {n n′ : End E F} {m m′ m″ : End F E} {t t′ : Tight A} {es : List E} →
      UndergoBoth kind heard_kind state all_sent n n′ m m′ t t′ [] → UndergoesAlone kind heard_kind all_passed m′ m″ es →
      UndergoBoth kind heard_kind state flushed n n′ m m″ t t′ es
  flushes {n′ = n′} {t′ = t′} x y = record {
    settings = x.settings;
    far_settings = y.settings ∙ x.far_settings;
    kept = x.kept;
    beside = λ back. let u = x.beside back in then u (y.facing_any n′ (tight_state state t′) back (faces_still u));
  }
