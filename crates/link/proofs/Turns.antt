-- A call that changes one end, or one end and an air, or an air, is a step of the link that these are parts of: seen from the mast, and
-- seen from the hut.
use Rattle.std.proofs.Common.{◌≡◌, ℕ, ◌∷◌, [], min, None, Some, Option, Result, refl, sym, ap, ap₂, ◌∙◌}
use Rattle.refusal.specs.declared.Refusal.{Refusal}
use Rattle.air.specs.Waiting.{AirState, lost}
use Rattle.air.specs.Steps.{Bytes, lose_step, place_refusal, step_unless}
use Rattle.element.specs.Kinds.{Coding}
use Rattle.protocol.specs.Machine.{Act, Reply, Setting, State, act, step, turned, act_unless, with_air}
use Rattle.protocol.specs.Machine.Act.{lose}
use Rattle.protocol.specs.Machine.Reply.{done}
use Rattle.protocol.specs.Histories.Call.{mast as of_mast, hut as of_hut}
use Rattle.protocol.specs.Promises.{opened, past}
use Rattle.tight.specs.SameList.{Keeps}
use Rattle.tight.specs.Tights.{tight_state}
use Rattle.tight.specs.declared.Tight.{Tight}
use Rattle.link.specs.Acts.{ActedOn, Acts, ActsAlone}
use Rattle.link.specs.Ends.{EndSettings, EndState, end_state, facing, link_of, sending, settings_of}
use Rattle.link.specs.Links.{HutActs, MastActs, SameDirections, link_state, to_hut, to_mast}
use Rattle.link.specs.Replies.{done_reply}
use Rattle.link.specs.declared.end.End.{End}
use Rattle.link.specs.declared.link.Link.{Link}

-- an end that needs no air acts so over every air
pub over_air : {E F : Type 0} (kind : Coding E) (heard_kind : Coding F) (before after : End E F) (e : Act E) (r : Reply F) (air : AirState Bytes) →
    ActsAlone kind heard_kind before after e r → Acts kind heard_kind before after air air e r
over_air kind heard_kind before after e r air h = record { settings = h.settings; steps = λ other back_air. h.steps other air back_air }

-- an air that loses a frame takes the machine's step
pub loses : {E F : Type 0} (kind : Coding E) (s : EndSettings) (d : Setting F Bytes) (near : EndState E F) (far : EndState F E) (air air_after back_air : AirState Bytes)
    (k : ℕ) (r : Result (Unit {0}) Refusal) → (r, air_after) ≡ lose_step k air →
    step (link_of near far air_after back_air) (done_reply r) ≡ act (sending kind s air) d (lose k) (link_of near far air back_air)
loses kind s d near far air air_after back_air k r = by (place_refusal k air)
  where
    by : (refusal : Option Refusal) → (r, air_after) ≡ step_unless refusal (lost k air) air →
        let before = link_of near far air back_air in
        step (link_of near far air_after back_air) (done_reply r) ≡ act_unless refusal (step (with_air before (lost k air).waiting) done) before
    by None e = ap (λ p. step (link_of near far p.1 back_air) (done_reply p.0)) e
    by (Some refusal) e = ap (λ p. step (link_of near far p.1 back_air) (done_reply p.0)) e

-- an air that is as it was is kept
pub same_kept : {C : Type 0} (c : C → AirState Bytes) (before after : Tight C) → after ≡ before → Keeps c before after
same_kept c before after is = record { given = ap (λ t. t.given) is; room = rw is refl; own = rw is refl; list = λ same. rw is same }

module _ {X Y A B : Type 0} (x : Coding X) (y : Coding Y) (a : A → AirState Bytes) (b : B → AirState Bytes) where
  -- the settings with which the mast sends are those of the direction to the hut
  pub mast_sends : (l : Link X Y A B) → sending x (settings_of l.mast) (tight_state a l.hut_bound_air) ≡ opened (to_hut x a l) (to_mast y b l)
  mast_sends l = ap₂ (λ s t. sending x s (record { waiting = []; capacity = (a l.hut_bound_air.below).capacity; bound = min t (a l.hut_bound_air.below).bound })) l.mast_set l.hut_bound_held

  -- and those with which it hears are those of the direction to the mast
  pub mast_hears : (l : Link X Y A B) → sending y (facing (settings_of l.mast)) (tight_state b l.mast_bound_air) ≡ opened (to_mast y b l) (to_hut x a l)
  mast_hears l = ap₂ (λ s t. sending y (facing s) (record { waiting = []; capacity = (b l.mast_bound_air.below).capacity; bound = min t (b l.mast_bound_air.below).bound })) l.mast_set l.mast_bound_held

  -- so it is of the hut
  hut_sends : (l : Link X Y A B) → sending y (settings_of l.hut) (tight_state b l.mast_bound_air) ≡ opened (to_mast y b l) (to_hut x a l)
  hut_sends l = ap₂ (λ s t. sending y s (record { waiting = []; capacity = (b l.mast_bound_air.below).capacity; bound = min t (b l.mast_bound_air.below).bound })) l.hut_set l.mast_bound_held

  hut_hears : (l : Link X Y A B) → sending x (facing (settings_of l.hut)) (tight_state a l.hut_bound_air) ≡ opened (to_hut x a l) (to_mast y b l)
  hut_hears l = ap₂ (λ s t. sending x (facing s) (record { waiting = []; capacity = (a l.hut_bound_air.below).capacity; bound = min t (a l.hut_bound_air.below).bound })) l.hut_set l.hut_bound_held

  -- what differs between two links of one draft: nothing but the ends, and the airs within what a call keeps of them
  pub same_directions : (l m : Link X Y A B) → m.draft ≡ l.draft → Keeps a l.hut_bound_air m.hut_bound_air → Keeps b l.mast_bound_air m.mast_bound_air →
      SameDirections x y a b l m
  same_directions l m draft out back = record {
    out = rw (draft, out.room, out.own);
    back = rw (draft, back.room, back.own);
    list = out.list;
    back_list = back.list;
  }

  -- a step of the machine with the settings of its ends is one of the link
  mast_turn : (l m : Link X Y A B) (e : Act X) (r : Reply Y) (c : Setting X Bytes) (d : Setting Y Bytes) (t : State X Y Bytes Bytes) → SameDirections x y a b l m →
      link_state a b m ≡ t → c ≡ opened (to_hut x a l) (to_mast y b l) → d ≡ opened (to_mast y b l) (to_hut x a l) →
      step t r ≡ act c d e (link_state a b l) → MastActs x y a b l m e r
  mast_turn l m e r c d t same is out back steps =
      let o = opened (to_hut x a l) (to_mast y b l) in
      let k = opened (to_mast y b l) (to_hut x a l) in
      let taken : step (link_state a b m) r ≡ act o k e (link_state a b l) =
      ap (λ t. step t r) is ∙ steps ∙ ap₂ (λ c d. act c d e (link_state a b l)) out back in
      record {
        directions = same;
        steps = taken;
        leads = λ h led. record {
          reached =
              ap₂ (λ c d. (past c d (of_mast e ∷ h)).state) same.out same.back
              ∙ ap (λ s. (act o k e s).state) led.reached ∙ sym (ap (λ s. s.state) taken);
        };
      }

  hut_turn : (l m : Link X Y A B) (e : Act Y) (r : Reply X) (c : Setting Y Bytes) (d : Setting X Bytes) (t : State Y X Bytes Bytes) → SameDirections x y a b l m →
      turned (link_state a b m) ≡ t → c ≡ opened (to_mast y b l) (to_hut x a l) → d ≡ opened (to_hut x a l) (to_mast y b l) →
      step t r ≡ act c d e (turned (link_state a b l)) → HutActs x y a b l m e r
  hut_turn l m e r c d t same is out back steps =
      let o = opened (to_hut x a l) (to_mast y b l) in
      let k = opened (to_mast y b l) (to_hut x a l) in
      let taken : step (turned (link_state a b m)) r ≡ act k o e (turned (link_state a b l)) =
      ap (λ t. step t r) is ∙ steps ∙ ap₂ (λ c d. act c d e (turned (link_state a b l))) out back in
      record {
        directions = same;
        steps = taken;
        leads = λ h led. record {
          reached =
              ap₂ (λ c d. (past c d (of_hut e ∷ h)).state) same.out same.back
              ∙ ap (λ s. turned (act k o e (turned s)).state) led.reached ∙ sym (ap (λ s. turned s.state) taken);
        };
      }

  module _ (l m : Link X Y A B) (draft : m.draft ≡ l.draft) where
    -- the mast acts, over the air to the hut
    pub mast_acts : (e : Act X) (r : Reply Y) → m.hut ≡ l.hut → m.mast_bound_air ≡ l.mast_bound_air → Keeps a l.hut_bound_air m.hut_bound_air →
        Acts x y l.mast m.mast (tight_state a l.hut_bound_air) (tight_state a m.hut_bound_air) e r → MastActs x y a b l m e r
    mast_acts e r hut back keeps h =
        mast_turn l m e r _ _ _ (same_directions l m draft keeps (same_kept b l.mast_bound_air m.mast_bound_air back))
        (ap₂ (λ h t. link_of (end_state m.mast) (end_state h) (tight_state a m.hut_bound_air) (tight_state b t)) hut back)
        (mast_sends l) (mast_hears l) (h.steps (end_state l.hut) (tight_state b l.mast_bound_air))

    -- it acts without an air
    pub mast_acts_alone : (e : Act X) (r : Reply Y) → m.hut ≡ l.hut → m.hut_bound_air ≡ l.hut_bound_air → m.mast_bound_air ≡ l.mast_bound_air →
        ActsAlone x y l.mast m.mast e r → MastActs x y a b l m e r
    mast_acts_alone e r hut out back h =
        mast_acts e r hut back (same_kept a l.hut_bound_air m.hut_bound_air out)
        (rw out (over_air x y l.mast m.mast e r (tight_state a l.hut_bound_air) h))

    -- the hut hears from it
    pub hut_hears_it : (e : Act X) (r : Reply Y) → m.mast ≡ l.mast → m.mast_bound_air ≡ l.mast_bound_air → Keeps a l.hut_bound_air m.hut_bound_air →
        ActedOn y x l.hut m.hut (tight_state a l.hut_bound_air) (tight_state a m.hut_bound_air) e r → MastActs x y a b l m e r
    hut_hears_it e r mast back keeps h =
        mast_turn l m e r _ _ _ (same_directions l m draft keeps (same_kept b l.mast_bound_air m.mast_bound_air back))
        (ap₂ (λ h t. link_of (end_state h) (end_state m.hut) (tight_state a m.hut_bound_air) (tight_state b t)) mast back)
        (hut_hears l) (hut_sends l) (h.steps (end_state l.mast) (tight_state b l.mast_bound_air))

    -- it loses a frame
    pub hut_bound_loses : (k : ℕ) (r : Result (Unit {0}) Refusal) → m.mast ≡ l.mast → m.hut ≡ l.hut → m.mast_bound_air ≡ l.mast_bound_air → Keeps a l.hut_bound_air m.hut_bound_air →
        (r, tight_state a m.hut_bound_air) ≡ lose_step k (tight_state a l.hut_bound_air) → MastActs x y a b l m (lose k) (done_reply r)
    hut_bound_loses k r mast hut back keeps h =
        mast_turn l m (lose k) (done_reply r) _ _ _ (same_directions l m draft keeps (same_kept b l.mast_bound_air m.mast_bound_air back))
        (rw (mast, hut, back)) (mast_sends l) (mast_hears l)
        (loses x (settings_of l.mast) (sending y (facing (settings_of l.mast)) (tight_state b l.mast_bound_air)) (end_state l.mast) (end_state l.hut) _ _ (tight_state b l.mast_bound_air) k r h)

    -- the hut acts, over the air to the mast
    pub hut_acts : (e : Act Y) (r : Reply X) → m.mast ≡ l.mast → m.hut_bound_air ≡ l.hut_bound_air → Keeps b l.mast_bound_air m.mast_bound_air →
        Acts y x l.hut m.hut (tight_state b l.mast_bound_air) (tight_state b m.mast_bound_air) e r → HutActs x y a b l m e r
    hut_acts e r mast out keeps h =
        hut_turn l m e r _ _ _ (same_directions l m draft (same_kept a l.hut_bound_air m.hut_bound_air out) keeps)
        (ap₂ (λ h t. link_of (end_state m.hut) (end_state h) (tight_state b m.mast_bound_air) (tight_state a t)) mast out)
        (hut_sends l) (hut_hears l) (h.steps (end_state l.mast) (tight_state a l.hut_bound_air))

    -- it acts without an air
    pub hut_acts_alone : (e : Act Y) (r : Reply X) → m.mast ≡ l.mast → m.hut_bound_air ≡ l.hut_bound_air → m.mast_bound_air ≡ l.mast_bound_air →
        ActsAlone y x l.hut m.hut e r → HutActs x y a b l m e r
    hut_acts_alone e r mast out back h =
        hut_acts e r mast out (same_kept b l.mast_bound_air m.mast_bound_air back)
        (rw back (over_air y x l.hut m.hut e r (tight_state b l.mast_bound_air) h))

    -- the mast hears from it
    pub mast_hears_it : (e : Act Y) (r : Reply X) → m.hut ≡ l.hut → m.hut_bound_air ≡ l.hut_bound_air → Keeps b l.mast_bound_air m.mast_bound_air →
        ActedOn x y l.mast m.mast (tight_state b l.mast_bound_air) (tight_state b m.mast_bound_air) e r → HutActs x y a b l m e r
    mast_hears_it e r hut out keeps h =
        hut_turn l m e r _ _ _ (same_directions l m draft (same_kept a l.hut_bound_air m.hut_bound_air out) keeps)
        (ap₂ (λ h t. link_of (end_state h) (end_state m.mast) (tight_state b m.mast_bound_air) (tight_state a t)) hut out)
        (mast_hears l) (mast_sends l) (h.steps (end_state l.hut) (tight_state a l.hut_bound_air))

    -- it loses a frame
    pub mast_bound_loses : (k : ℕ) (r : Result (Unit {0}) Refusal) → m.mast ≡ l.mast → m.hut ≡ l.hut → m.hut_bound_air ≡ l.hut_bound_air → Keeps b l.mast_bound_air m.mast_bound_air →
        (r, tight_state b m.mast_bound_air) ≡ lose_step k (tight_state b l.mast_bound_air) → HutActs x y a b l m (lose k) (done_reply r)
    mast_bound_loses k r mast hut out keeps h =
        hut_turn l m (lose k) (done_reply r) _ _ _ (same_directions l m draft (same_kept a l.hut_bound_air m.hut_bound_air out) keeps)
        (rw (mast, hut, out)) (hut_sends l) (hut_hears l)
        (loses y (settings_of l.hut) (sending x (facing (settings_of l.hut)) (tight_state a l.hut_bound_air)) (end_state l.hut) (end_state l.mast) _ _ (tight_state a l.hut_bound_air) k r h)
