-- An end that passes until it has nothing to pass.
use Rattle.std.proofs.Common.{◌≡◌, ℕ, suc, ◌+◌, ◌-◌, ◌≤◌, List, [], ◌∷◌, ◌++◌, length, drop, Some, None, Option}
use Rattle.std.proofs.Common.{refl, sym, ap, ◌∙◌, subst, arith}
use Rattle.std.proofs.lemmas.List.{append-nil}
use Rattle.std.specs.Fn.{iterate}
use Rattle.air.specs.Waiting.{AirState, empty_air}
use Rattle.air.specs.Steps.{Bytes}
use Rattle.element.specs.Kinds.{Coding}
use Rattle.protocol.specs.Windows.{cyclic, first_free, first_slot, moved_on}
use Rattle.protocol.specs.Machine.Act.{pass}
use Rattle.protocol.specs.Machine.Reply.{passed_on}
use Rattle.protocol.specs.Histories.{all_passed, other_does, passed_by}
use Rattle.protocol.proofs.Slots.{free_push}
use Rattle.link.specs.Acts.{ActsAlone}
use Rattle.link.specs.Ends.{EndSettings, EndState, end_state, facing, link_of, new_end, sending, settings_of}
use Rattle.link.specs.Courses.{Runs, Undergo, UndergoesAlone, parts}
use Rattle.link.specs.declared.end.End.{End}
use Rattle.link.proofs.Runs.{idle, iterate_more}
use Rattle.link.proofs.Phases.{acts, as_well, faces_still, facing_twice, limits_same, once_more, then, told_as, turned_round}
use Rattle.link.proofs.Turns.{over_air}

module _ {E : Type 0} where
  -- once the first slot's element is passed, the first free one is one place nearer
  free_passed : (e : E) (xs : List (Option E)) → Some e ≡ first_slot xs → first_free xs ≡ first_free (drop 1 xs ++ (None ∷ [])) + 1
  free_passed e [] h = absurd cc
  free_passed e (None ∷ xs) h = absurd cc
  free_passed e (Some x ∷ xs) h = omega (arith, free_push xs)

-- what an end keeps after it handed this out
abbrev left_by : {E F : Type 0} → EndSettings → Option E → EndState F E → EndState F E
left_by s o e = record { sender = e.sender; receiver = moved_on (cyclic s.heard_cycle) o e.receiver }

module _ {E F : Type 0} {kind : Coding E} {heard_kind : Coding F} where
  module _ {m m′ : End F E} {o : Option E} (x : ActsAlone heard_kind kind m m′ pass (passed_on o)) where
    -- what an end passes stood in its first slot
    hands : o ≡ first_slot (end_state m).receiver.slots
    hands = let e = ap (λ t. t.reply) (x.steps (new_end (settings_of m)) (empty_air 0 0) (empty_air 0 0)) in cc

    -- and the others have moved on
    leaves : end_state m′ ≡ left_by (settings_of m) o (end_state m)
    leaves =
        ap (λ t. record { sender = t.state.out.sender; receiver = t.state.back.receiver })
        (x.steps (new_end (settings_of m)) (empty_air 0 0) (empty_air 0 0))
        ∙ ap (λ o. left_by (settings_of m) o (end_state m)) (sym hands)

    -- one pass, in the link with the end that it faces
    passes : {n : End E F} {a b : AirState Bytes} {es : List E} →
        settings_of m ≡ facing (settings_of n) → ((xs : List E) → passed_by (passed_on o) xs ≡ xs ++ es) →
        Undergo kind heard_kind (λ c d. other_does c d pass) (parts n m a b) (parts n m′ a b) es []
    passes {n} {a} {b} faces h =
        turned_round
        (acts (sym (facing_twice (settings_of n)) ∙ ap facing (sym faces)) limits_same h
        (over_air heard_kind kind m m′ pass (passed_on o) b x))

  -- so that the first free slot is nearer
  pub nearer : {m m′ : End F E} {e : E} → ActsAlone heard_kind kind m m′ pass (passed_on (Some e)) →
      first_free (end_state m).receiver.slots ≡ first_free (end_state m′).receiver.slots + 1
  nearer {m} {m′} {e} x = free_passed e (end_state m).receiver.slots (hands x) ∙ ap (λ s. first_free s.receiver.slots + 1) (sym (leaves x))

  -- an end that has nothing to pass can be asked again and again
  idles : {n : End E F} {m m′ : End F E} {a b : AirState Bytes} (k : ℕ) → settings_of m ≡ facing (settings_of n) →
      ActsAlone heard_kind kind m m′ pass (passed_on None) →
      Undergo kind heard_kind (λ c d. iterate (other_does c d pass) k) (parts n m a b) (parts n m′ a b) [] []
  idles {n} {m} {m′} {a} {b} k faces x =
      let f = other_does (sending kind (settings_of n) a) (sending heard_kind (facing (settings_of n)) b) pass in
      let at = λ (s : EndState F E). link_of (end_state n) s a b in
      record {
        faces = faces;
        settings = refl;
        far_settings = x.settings;
        limits = limits_same;
        back_limits = limits_same;
        runs =
            subst (λ s. Runs f (at (end_state m)) (at s) [] [] → Runs (iterate f k) (at (end_state m)) (at s) [] [])
            (sym (leaves x)) (λ r. idle r k)
            (passes x {n = n} {a = a} {b = b} faces (λ xs. sym (append-nil xs))).runs;
      }

  -- one more element is passed
  pub passed_more : (i j : ℕ) {m m′ m″ : End F E} {es es′ : List E} (e : E) → j ≡ i + 1 → es ++ (e ∷ []) ≡ es′ →
      UndergoesAlone kind heard_kind (λ c d. iterate (other_does c d pass) i) m m′ es →
      ActsAlone heard_kind kind m′ m″ pass (passed_on (Some e)) →
      UndergoesAlone kind heard_kind (λ c d. iterate (other_does c d pass) j) m m″ es′
  passed_more i j e more h x y = record {
    settings = y.settings ∙ x.settings;
    facing_any = λ near air back f.
        let u = x.facing_any near air back f in
        told_as h refl
        (as_well (λ c d p w q. ap (λ k. iterate (other_does c d pass) k p) more) (once_more i u (passes y (faces_still u) (λ xs. refl))));
  }

  -- an end that has no more to pass has passed all
  pub passed_all : (i : ℕ) {m m′ m″ : End F E} {es : List E} → i ≤ length (end_state m).receiver.slots →
      UndergoesAlone kind heard_kind (λ c d. iterate (other_does c d pass) i) m m′ es → ActsAlone heard_kind kind m′ m″ pass (passed_on None) →
      UndergoesAlone kind heard_kind all_passed m m″ es
  passed_all i {m} {m′} {m″} {es} few x y = record {
    settings = y.settings ∙ x.settings;
    facing_any = λ near air back f.
        let u = x.facing_any near air back f in
        let k = length (end_state m).receiver.slots - i in
        let all : (w : ℕ) → w ≡ (settings_of near).window → w ≡ i + k = λ w e. let h = ap (λ s. s.heard_window) f in omega arith in
        told_as (append-nil es) refl
        (as_well (λ c d p w q. ap (λ j. iterate (other_does c d pass) j p) (all c.window w) ∙ iterate_more (other_does c d pass) i k p)
        (then u (idles k (faces_still u) y)));
  }
