-- A link from its opening to its closing: what it is opened to, what it has still to deliver, and what its record tells.
use Rattle.std.specs.Prelude.{◌≡◌, List, [], length}
use Rattle.air.specs.Steps.{Bytes}
use Rattle.air.specs.Waiting.{AirState}
use Rattle.element.specs.Kinds.{Coding}
use Rattle.frame.specs.declared.Side.TheVariants.{Mast, Hut}
use Rattle.tight.specs.SameList.{SameList}
use Rattle.protocol.specs.declared.terms.Terms.{Terms}
use Rattle.protocol.specs.Delivery.{owed}
use Rattle.protocol.specs.Histories.{Call}
use Rattle.protocol.specs.Laws.{count_owed, placed_in}
use Rattle.protocol.specs.Promises.{past}
use Rattle.wire.specs.Wires.{direction}
use Rattle.link.specs.Ends.{end_state}
use Rattle.link.specs.Links.{LedTo, link_state, to_hut, to_mast}
use Rattle.link.specs.declared.end.End.{End}
use Rattle.link.specs.declared.EndRecord.{EndRecord}
use Rattle.link.specs.declared.link.Link.{Link}
use Rattle.link.specs.declared.link.Owed.{Owed}

-- how many elements an end holds and has placed
abbrev pub record_of : {E F : Type 0} → End E F → EndRecord
record_of e = record { held = length (end_state e).sender.held; placed = placed_in (end_state e).receiver.slots }

-- how many elements each end of a link has still to get, counted from what both ends keep
abbrev pub still_owed : {X Y A B : Type 0} → (a : A → AirState Bytes) → (b : B → AirState Bytes) → Link X Y A B → Owed
still_owed a b l = record {
  mast = count_owed l.draft.mast_bound.cycle (link_state a b l).back;
  hut = count_owed l.draft.hut_bound.cycle (link_state a b l).out;
}

module _ {X Y A B : Type 0} (x : Coding X) (y : Coding Y) (a : A → AirState Bytes) (b : B → AirState Bytes) where
  -- a link as it opens, on these terms and over these airs: its directions are as drafted, with the room and the own bound of each air;
  -- no count in an air is capped; and it has just been opened, so that a history of no calls leads to it
  pub record Opened (t u : Terms) (air : A) (back_air : B) (l : Link X Y A B) : Type 0 where
    pub out : to_hut x a l ≡ direction x Mast t (a air).capacity (a air).bound
    pub back : to_mast y b l ≡ direction y Hut u (b back_air).capacity (b back_air).bound
    pub list : SameList a l.hut_bound_air
    pub back_list : SameList b l.mast_bound_air
    pub led : LedTo x y a b [] l

  -- so many elements each end is owed, after every history that leads to this link
  pub record IsOwed (l : Link X Y A B) (n : Owed) : Type 0 where
    pub owed :
        (h : List (Call X Y)) → LedTo x y a b h l →
        let p = past (to_hut x a l) (to_mast y b l) h in
        (n.mast ≡ length (owed p.back)) × (n.hut ≡ length (owed p.out))
