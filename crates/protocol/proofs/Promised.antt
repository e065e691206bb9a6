-- Every link that is drafted within the limits delivers after every history, and its records cover what it owes.
use Rattle.std.proofs.Common.{◌≡◌, ℕ, List, ◌∷◌, ◌++◌, length, drop, None, sym, refl, ap, ◌∙◌, ap₂, arith, take-append-drop}
use Rattle.std.proofs.lemmas.Bool.{le-leb}
use Rattle.std.proofs.lemmas.Bool.Decides.{nat_tests}
use Rattle.std.specs.Option.{option_map_or}
use Rattle.protocol.specs.Drafts.{Drafted}
use Rattle.protocol.specs.Histories.{Log, Call, settled, settle_refusal, after}
use Rattle.protocol.specs.Histories.Call.{settle}
use Rattle.protocol.specs.Histories.Answer.{settled_lists, settle_refused}
use Rattle.protocol.specs.Delivery.{InStep, Delivers, owed}
use Rattle.protocol.specs.Promises.{Direction, Faithful, opened, past, at_rest, CanSettle, Settles, LinkDelivers}
use Rattle.protocol.specs.Laws.{ideal, SameAfterSettle, AlwaysCovered}
use Rattle.protocol.proofs.Bridge.{through}
use Rattle.protocol.proofs.Rest.{settle_rests}
use Rattle.protocol.proofs.Steps.{in_step, kept, covered}
use Rattle.protocol.proofs.Ideal.{seen_as, limits, past_ideal, ideal_kept, clear}

-- a settle is refused exactly where it cannot be done
pub not_refused : {E F V W : Type 0} {c : Direction E V} {d : Direction F W} {m k : ℕ} → CanSettle c d m k → settle_refusal (opened c d) (opened d c) m k ≡ None
not_refused can = rw (le-leb _ _ can.mast_list, le-leb _ _ can.hut_list, le-leb _ _ can.room, le-leb _ _ can.back_room)

pub can_settle : {E F V W : Type 0} (c : Direction E V) (d : Direction F W) (m k : ℕ) → settle_refusal (opened c d) (opened d c) m k ≡ None → CanSettle c d m k
can_settle c d m k free = record { mast_list = grind (arith, nat_tests); hut_list = grind (arith, nat_tests); room = grind (arith, nat_tests); back_room = grind (arith, nat_tests) }

-- of a stream in step, what was passed and what is owed are what was accepted
pub whole_of : {E : Type 0} (n : ℕ) (log : Log E) → InStep n log → log.accepted ≡ log.passed ++ owed log
whole_of n log s = sym (take-append-drop (length log.passed) log.accepted) ∙ ap (λ r. r ++ owed log) (sym s.0)

module _ {E F V W : Type 0} {c : Direction E V} {d : Direction F W} (x : Faithful c) (y : Faithful d) (ok : Drafted c.terms d.terms) where
  -- each stream delivers
  streams : (h : List (Call E F)) → Delivers c.terms.window (past c d h).state.out (past c d h).out × Delivers d.terms.window (past c d h).state.back (past c d h).back
  streams h =
      let i = ideal_kept x y ok h in
      rw (past_ideal x y ok h)
      (record { in_step = in_step i.out; kept = kept i.out }, record { in_step = in_step i.back; kept = kept i.back })

  -- a settle leaves the link at rest
  pub rests : (h : List (Call E F)) (m k : ℕ) → CanSettle c d m k → past c d (settle m k ∷ h) ≡ at_rest c d (past c d h).out.accepted (past c d h).back.accepted
  rests h m k can =
      let p = after (ideal c) (ideal d) h in
      let q = settled (ideal c) (ideal d) p in
      let free = not_refused can in
      let e : past c d (settle m k ∷ h) ≡ through (seen_as x y ok) q = past_ideal x y ok (settle m k ∷ h) ∙ ap (λ o. through (seen_as x y ok) (option_map_or (λ r. p) o q)) free in
      e
      ∙ ap (through (seen_as x y ok)) (settle_rests (limits x y ok).windows p can.room can.back_room (ideal_kept x y ok h))
      ∙ ap (λ n. record (at_rest c d p.out.accepted p.back.accepted) { bytes_refused = n }) (ap (λ t. t.bytes_refused) (sym e) ∙ clear x y ok (settle m k ∷ h))
      ∙ ap (λ t. at_rest c d t.out.accepted t.back.accepted) (sym (past_ideal x y ok h))

  settles : (h : List (Call E F)) (m k : ℕ) → CanSettle c d m k → Settles c d (past c d h) m k
  settles h m k can =
      let free = not_refused can in
      let p = past c d h in
      let q = settled (opened c d) (opened d c) p in
      let rest = at_rest c d p.out.accepted p.back.accepted in
      let e : past c d (settle m k ∷ h) ≡ rest = rests h m k can in
      let square : q ≡ rest = sym (ap (λ o. option_map_or (λ r. p) o q) free) ∙ e in
      let s = streams h in
      record {
        out = rw e (record { passed = whole_of c.terms.window p.out s.0.in_step; none_held = refl; none_placed = refl; same_number = refl });
        back = rw e (record { passed = whole_of d.terms.window p.back s.1.in_step; none_held = refl; none_placed = refl; same_number = refl });
        written = ap (λ o. option_map_or settle_refused o (settled_lists (drop (length p.back.passed) q.back.passed) (drop (length p.out.passed) q.out.passed))) free
            ∙ ap (λ t. settled_lists (drop (length p.back.passed) t.back.passed) (drop (length p.out.passed) t.out.passed)) square;
        rests = e;
      }

  pub delivers : (h : List (Call E F)) → LinkDelivers c d (past c d h)
  delivers h = let s = streams h in record { out = s.0; back = s.1; settles = settles h; understood = clear x y ok h }

pub same_after_settle : {E F V W : Type 0} → SameAfterSettle E F V W
same_after_settle c d x y ok g h e f i j k l can can₂ = rests x y ok g i j can ∙ ap₂ (at_rest c d) e f ∙ sym (rests x y ok h k l can₂)

pub records_cover : {E F V W : Type 0} → AlwaysCovered E F V W
records_cover {E} {F} {V} {W} c d x y ok h =
    let i = ideal_kept x y ok h in
    rw (past_ideal x y ok h) (covered i.out _ _, covered i.back _ _)
