-- An open link as the machine has it, and that each of its calls is the machine's step.
use Rattle.std.specs.Prelude.{◌≡◌, List, ◌∷◌}
use Rattle.air.specs.Steps.{Bytes}
use Rattle.air.specs.Waiting.{AirState}
use Rattle.element.specs.Kinds.{Coding}
use Rattle.frame.specs.declared.Side.TheVariants.{Mast, Hut}
use Rattle.tight.specs.SameList.{SameList}
use Rattle.tight.specs.Tights.{tight_state}
use Rattle.protocol.specs.Machine.{State, Act, Reply, act, step, turned}
use Rattle.protocol.specs.Histories.{Call}
use Rattle.protocol.specs.Histories.Call.{mast, hut}
use Rattle.protocol.specs.Promises.{Direction, opened, past}
use Rattle.wire.specs.Wires.{direction}
use Rattle.link.specs.Ends.{end_state, link_of}
use Rattle.link.specs.declared.link.Link.{Link}

-- In an open link, x and y are the kinds of element that go to the hut and to the mast; a and b tell what the airs mean that carry them.

-- the link as the mast sees it
abbrev pub link_state : {X Y A B : Type 0} → (a : A → AirState Bytes) → (b : B → AirState Bytes) → Link X Y A B → State X Y Bytes Bytes
link_state a b l = link_of (end_state l.mast) (end_state l.hut) (tight_state a l.hut_bound_air) (tight_state b l.mast_bound_air)

-- its direction from mast to hut, on the drafted terms: room and bound are those of the air that was given
abbrev pub to_hut : {X Y A B : Type 0} → (x : Coding X) → (a : A → AirState Bytes) → Link X Y A B → Direction X Bytes
to_hut x a l = let air = a l.hut_bound_air.below in direction x Mast l.draft.hut_bound air.capacity air.bound

-- and the one from hut to mast
abbrev pub to_mast : {X Y A B : Type 0} → (y : Coding Y) → (b : B → AirState Bytes) → Link X Y A B → Direction Y Bytes
to_mast y b l = let air = b l.mast_bound_air.below in direction y Hut l.draft.mast_bound air.capacity air.bound

module _ {X Y A B : Type 0} (x : Coding X) (y : Coding Y) (a : A → AirState Bytes) (b : B → AirState Bytes) where
  -- a history of calls leads to a link: from the opening on, the machine with the link's two directions comes to the link's state by it
  pub record LedTo (h : List (Call X Y)) (l : Link X Y A B) : Type 0 where
    pub reached : (past (to_hut x a l) (to_mast y b l) h).state ≡ link_state a b l

  -- what a call leaves as it was: both directions; and of each air, where no count in it is capped, that none is
  pub record SameDirections (before after : Link X Y A B) : Type 0 where
    pub out : to_hut x a after ≡ to_hut x a before
    pub back : to_mast y b after ≡ to_mast y b before
    pub list : SameList a before.hut_bound_air → SameList a after.hut_bound_air
    pub back_list : SameList b before.mast_bound_air → SameList b after.mast_bound_air

  -- at an act of the mast, the link takes the machine's step. What led to it, and then this act, leads to the link after it
  pub record MastActs (before after : Link X Y A B) (e : Act X) (r : Reply Y) : Type 0 where
    pub directions : SameDirections before after
    pub steps :
        let c = to_hut x a before in
        let d = to_mast y b before in
        step (link_state a b after) r ≡ act (opened c d) (opened d c) e (link_state a b before)
    pub leads : (h : List (Call X Y)) → LedTo h before → LedTo (mast e ∷ h) after

  -- and so it does at an act of the hut
  pub record HutActs (before after : Link X Y A B) (e : Act Y) (r : Reply X) : Type 0 where
    pub directions : SameDirections before after
    pub steps :
        let c = to_hut x a before in
        let d = to_mast y b before in
        step (turned (link_state a b after)) r ≡ act (opened d c) (opened c d) e (turned (link_state a b before))
    pub leads : (h : List (Call X Y)) → LedTo h before → LedTo (hut e ∷ h) after
