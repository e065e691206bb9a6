-- Each stream of a link is a first-in first-out queue of two windows.
use Rattle.std.proofs.Common.{◌≡◌, ℕ, List, [], ◌∷◌, ◌++◌, drop, Some, None, Option, sym, refl, ap, ◌∙◌, subst, append_assoc, append-nil, arith, length-drop}
use Rattle.refusal.specs.declared.Refusal.{Refusal}
use Rattle.protocol.specs.Drafts.{Drafted}
use Rattle.protocol.specs.Machine.{Act, Reply, act, turned}
use Rattle.protocol.specs.Machine.Act.{accept}
use Rattle.protocol.specs.Machine.Reply.{done, passed_on}
use Rattle.protocol.specs.Histories.{Log, Past, Call, Answer, accepted_by, passed_by, settle_refusal, answers}
use Rattle.protocol.specs.Histories.Call.{mast, hut, settle}
use Rattle.protocol.specs.Delivery.{InStep, owed}
use Rattle.protocol.specs.Promises.{Direction, Faithful, opened, past}
use Rattle.protocol.specs.Laws.{Queued, out_shown, back_shown, AlwaysQueued}
use Rattle.protocol.proofs.Promised.{can_settle, whole_of, delivers}

module _ {A : Type 0} where
  cancel : (xs ys zs : List A) → xs ++ ys ≡ xs ++ zs → ys ≡ zs
  cancel [] ys zs e = e
  cancel (x ∷ xs) ys zs e = cancel xs ys zs (ap (drop 1) e)

  -- what is logged is what a call shows; that it is first in, first out, follows for a stream in step
  queued : (n : ℕ) (shown before after : Log A) → InStep n before → InStep n after → after.accepted ≡ before.accepted ++ shown.accepted → after.passed ≡ before.passed ++ shown.passed → Queued n shown before after
  queued n shown before after s t a p = record {
    first_out = cancel before.passed (owed before ++ shown.accepted) (shown.passed ++ owed after)
        (sym (append_assoc before.passed (owed before) shown.accepted)
        ∙ ap (λ xs. xs ++ shown.accepted) (sym (whole_of n before s))
        ∙ sym a
        ∙ whole_of n after t
        ∙ ap (λ xs. xs ++ owed after) p
        ∙ append_assoc before.passed shown.passed (owed after));
    passed = p;
    accepted = a;
    room = simp length-drop (omega (arith, t.1));
  }

  passed_shown : (r : Reply A) (xs : List A) → passed_by r xs ≡ xs ++ passed_by r []
  passed_shown (passed_on (Some f)) xs = refl
  passed_shown r xs = sym (append-nil xs)

accepted_shown : {A B : Type 0} (r : Reply B) (a : Act A) (xs : List A) → accepted_by r a xs ≡ xs ++ accepted_by r a []
accepted_shown done (accept e) xs = refl
accepted_shown r a xs = sym (append-nil xs)

-- a call and its answer show what it logs, where the past p becomes q
abbrev ShownBy : {E F V W : Type 0} → Call E F → Past E F V W → Past E F V W → Answer E F → Type 0
ShownBy z p q a =
    let o = out_shown z a in
    let b = back_shown z a in
    ((q.out.accepted ≡ p.out.accepted ++ o.accepted) × (q.out.passed ≡ p.out.passed ++ o.passed)) × ((q.back.accepted ≡ p.back.accepted ++ b.accepted) × (q.back.passed ≡ p.back.passed ++ b.passed))

module _ {E F V W : Type 0} {c : Direction E V} {d : Direction F W} (x : Faithful c) (y : Faithful d) (ok : Drafted c.terms d.terms) (h : List (Call E F)) where
  abbrev Shown : Call E F → Type 0
  Shown z = ShownBy z (past c d h) (past c d (z ∷ h)) (answers (opened c d) (opened d c) z (past c d h))

  settle_shown : (m k : ℕ) → Shown (settle m k)
  settle_shown m k = by (settle_refusal (opened c d) (opened d c) m k) refl
    where
      by : (o : Option Refusal) → settle_refusal (opened c d) (opened d c) m k ≡ o → Shown (settle m k)
      by None free =
          let s = (delivers x y ok h).settles m k (can_settle c d m k free) in
          subst (ShownBy (settle m k) (past c d h) (past c d (settle m k ∷ h))) (sym s.written)
          ((ap (λ p. p.out.accepted) s.rests ∙ sym (append-nil _), s.out.passed), (ap (λ p. p.back.accepted) s.rests ∙ sym (append-nil _), s.back.passed))
      by (Some r) e = rw e ((sym (append-nil _), sym (append-nil _)), (sym (append-nil _), sym (append-nil _)))

  shown : (z : Call E F) → Shown z
  shown (mast a) =
      let p = past c d h in
      let r = (act (opened c d) (opened d c) a p.state).reply in
      ((accepted_shown r a p.out.accepted, sym (append-nil p.out.passed)), (sym (append-nil p.back.accepted), passed_shown r p.back.passed))
  shown (hut a) =
      let p = past c d h in
      let r = (act (opened d c) (opened c d) a (turned p.state)).reply in
      ((sym (append-nil p.out.accepted), passed_shown r p.out.passed), (accepted_shown r a p.back.accepted, sym (append-nil p.back.passed)))
  shown (settle m k) = settle_shown m k

pub queues : {E F V W : Type 0} → AlwaysQueued E F V W
queues c d x y ok h z =
    let before = delivers x y ok h in
    let after = delivers x y ok (z ∷ h) in
    let s = shown x y ok h z in
    (queued c.terms.window _ _ _ before.out.in_step after.out.in_step s.0.0 s.0.1, queued d.terms.window _ _ _ before.back.in_step after.back.in_step s.1.0 s.1.1)
