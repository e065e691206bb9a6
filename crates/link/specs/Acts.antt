-- What an end does: in every link that it may be an end of, the machine's step. Whatever the end at the other side keeps (other), and
-- whatever waits in the other air (back_air), the link is after the call what the machine makes of it, with the machine's reply.
use Rattle.std.specs.Prelude.{◌≡◌}
use Rattle.air.specs.Steps.{Bytes}
use Rattle.air.specs.Waiting.{AirState}
use Rattle.element.specs.Kinds.{Coding}
use Rattle.frame.specs.declared.Frame.{Frame}
use Rattle.protocol.specs.Machine.{Act, Reply, act, hear, put, step}
use Rattle.link.specs.declared.end.End.{End}
use Rattle.link.specs.Ends.{EndSettings, EndState, end_state, facing, link_of, sending, settings_of}

module _ {E F : Type 0} (kind : Coding E) (heard_kind : Coding F) where
  -- an end, with the air that carries what it sends, takes the machine's step at an act of its own
  pub record Acts (before after : End E F) (air air_after : AirState Bytes) (a : Act E) (r : Reply F) : Type 0 where
    pub settings : settings_of after ≡ settings_of before
    pub steps :
        (other : EndState F E) (back_air : AirState Bytes) →
        let s = settings_of before in
        step (link_of (end_state after) other air_after back_air) r
        ≡ act (sending kind s air) (sending heard_kind (facing s) back_air) a (link_of (end_state before) other air back_air)

  -- so it does at an act that needs no air
  pub record ActsAlone (before after : End E F) (a : Act E) (r : Reply F) : Type 0 where
    pub settings : settings_of after ≡ settings_of before
    pub steps :
        (other : EndState F E) (air back_air : AirState Bytes) →
        let s = settings_of before in
        step (link_of (end_state after) other air back_air) r
        ≡ act (sending kind s air) (sending heard_kind (facing s) back_air) a (link_of (end_state before) other air back_air)

  -- an end, with the air that carries what it hears, takes the machine's step at an act of the end that it faces
  pub record ActedOn (before after : End E F) (air air_after : AirState Bytes) (a : Act F) (r : Reply E) : Type 0 where
    pub settings : settings_of after ≡ settings_of before
    pub steps :
        (other : EndState F E) (back_air : AirState Bytes) →
        let s = settings_of before in
        step (link_of other (end_state after) air_after back_air) r
        ≡ act (sending heard_kind (facing s) air) (sending kind s back_air) a (link_of other (end_state before) air back_air)

  -- an end hears bytes that come from anywhere
  pub record Hears (before after : End E F) (bytes : Bytes) (r : Reply E) : Type 0 where
    pub settings : settings_of after ≡ settings_of before
    pub steps :
        (other : EndState F E) (air back_air : AirState Bytes) →
        let s = settings_of before in
        let c = sending heard_kind (facing s) air in
        step (link_of other (end_state after) air back_air) r
        ≡ hear c (sending kind s back_air) (c.codec.read bytes) air.waiting (link_of other (end_state before) air back_air)

-- an end that is set so puts a frame into the air that carries what it sends: the machine's step, in every link
pub record Puts {E F : Type 0} (kind : Coding E) (s : EndSettings) (frame : Frame E) (air air_after : AirState Bytes) (r : Reply F) : Type 0 where
  pub steps :
      (near : EndState E F) (other : EndState F E) (back_air : AirState Bytes) →
      step (link_of near other air_after back_air) r ≡ put (sending kind s air) frame (link_of near other air back_air)
