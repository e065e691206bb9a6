-- A drafted link does what the ideal link does, whose numbers never start over and whose frames travel as they are.
use Rattle.std.proofs.Common.{◌≡◌, ◌+◌, ◌≤◌, min, List, sym, ap, ◌∙◌, subst₂, mul-le-mul_right, arith}
use Rattle.protocol.specs.Drafts.{Drafted}
use Rattle.protocol.specs.Machine as machine
use Rattle.protocol.specs.Histories.{Call, answers, after}
use Rattle.protocol.specs.Promises.{Direction, Faithful, opened, past}
use Rattle.protocol.specs.Laws.{CyclesFit, ideal, elements_of, Alike, LikeIdeal, SameOnAnyCycle}
use Rattle.protocol.proofs.Plain.{State}
use Rattle.protocol.proofs.Kept.{LinkInv}
use Rattle.protocol.proofs.Relabel.{Limits, state_mod, relabels}
use Rattle.protocol.proofs.Bridge.{through, after_kept, after_same, answers_same}
use Rattle.protocol.proofs.Encoded.{shape, plain, written, encodes}

module _ {E F V W : Type 0} {c : Direction E V} {d : Direction F W} (x : Faithful c) (y : Faithful d) (ok : Drafted c.terms d.terms) where
  pub limits : Limits (shape c) (shape d) c.terms.cycle d.terms.cycle
  limits =
      let s : min c.terms.bound c.own_bound + 1 ≤ c.terms.bound + 1 = omega arith in
      let s' : min d.terms.bound d.own_bound + 1 ≤ d.terms.bound + 1 = omega arith in
      record {
        windows = record { some = ok.out.window_least; narrow = ok.out.window_most; back_some = ok.back.window_least; back_narrow = ok.back.window_most };
        frames = omega (arith, ok.out.cycle_least);
        acks = omega (arith, ok.out.cycle_least, mul-le-mul_right c.terms.window s');
        frames' = omega (arith, ok.back.cycle_least);
        acks' = omega (arith, ok.back.cycle_least, mul-le-mul_right d.terms.window s);
      }

  pub fit : CyclesFit c d
  fit = record { some = omega (arith, ok.out.cycle_least); short = ok.out.cycle_most; back_some = omega (arith, ok.back.cycle_least); back_short = ok.back.cycle_most }

  pub ideal_kept : (h : List (Call E F)) → LinkInv (shape c) (shape d) (after (ideal c) (ideal d) h)
  ideal_kept = after_kept (relabels limits)

  -- an ideal link's state, as the link has it: numbers reduced to its cycles, and every waiting frame written
  abbrev pub seen_as : State E F → machine.State E F V W
  seen_as s = written x y (state_mod c.terms.cycle d.terms.cycle s)

  pub past_ideal : (h : List (Call E F)) → past c d h ≡ through seen_as (after (ideal c) (ideal d) h)
  past_ideal h = after_same (encodes x y fit) h ∙ ap (through (written x y)) (after_same (relabels limits) h)

  pub answers_ideal : (z : Call E F) (h : List (Call E F)) → answers (opened c d) (opened d c) z (past c d h) ≡ answers (ideal c) (ideal d) z (after (ideal c) (ideal d) h)
  answers_ideal z h =
      let a = encodes x y fit in
      let b = relabels limits in
      ap (answers (opened c d) (opened d c) z) (after_same a h) ∙ answers_same a z (after (plain c) (plain d) h) (after_kept a h)
      ∙ ap (answers (plain c) (plain d) z) (after_same b h) ∙ answers_same b z (after (ideal c) (ideal d) h) (after_kept b h)

  -- no call was ever refused for the bytes of a frame
  pub clear : (h : List (Call E F)) → (past c d h).bytes_refused ≡ 0
  clear h = ap (λ p. p.bytes_refused) (after_same (encodes x y fit) h) ∙ (after_kept (encodes x y fit) h).clear

pub like_ideal : {E F V W : Type 0} → LikeIdeal E F V W
like_ideal c d x y ok h = record {
  out = ap (λ p. elements_of p.out p.state.out) (past_ideal x y ok h);
  back = ap (λ p. elements_of p.back p.state.back) (past_ideal x y ok h);
  answered = λ z. answers_ideal x y ok z h;
}

pub same_on_any_cycle : {E F V W V₂ W₂ : Type 0} → SameOnAnyCycle E F V W V₂ W₂
same_on_any_cycle c d c₂ d₂ x y x₂ y₂ ok ok₂ e f h =
    let a = subst₂ (λ i j. Alike (opened c d) (opened d c) i j h) e f (like_ideal c d x y ok h) in
    let b = like_ideal c₂ d₂ x₂ y₂ ok₂ h in
    record { out = a.out ∙ sym b.out; back = a.back ∙ sym b.back; answered = λ z. a.answered z ∙ sym (b.answered z) }
