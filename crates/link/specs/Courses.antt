-- The phases of settling, each a run of calls: what such a run does to an end, to two ends and an air, and to a link. Contracts of private
-- functions speak of it, and no others.
use Rattle.std.specs.Prelude.{◌≡◌, List, [], ◌++◌}
use Rattle.air.specs.Steps.{Bytes}
use Rattle.air.specs.Waiting.{AirState}
use Rattle.element.specs.Kinds.{Coding}
use Rattle.tight.specs.SameList.{Keeps}
use Rattle.tight.specs.Tights.{tight_state}
use Rattle.tight.specs.declared.Tight.{Tight}
use Rattle.protocol.specs.Machine.{Setting, State}
use Rattle.protocol.specs.Histories.{Past}
use Rattle.protocol.specs.Promises.{opened}
use Rattle.link.specs.Ends.{end_state, facing, link_of, sending, settings_of}
use Rattle.link.specs.Links.{SameDirections, link_state, to_hut, to_mast}
use Rattle.link.specs.declared.end.End.{End}
use Rattle.link.specs.declared.link.Link.{Link}

-- a run of calls, whatever the settings of the stream that goes out and of the one that comes back
abbrev pub Course : Type 0 → Type 0 → Type 0
Course E F = Setting E Bytes → Setting F Bytes → Past E F Bytes Bytes → Past E F Bytes Bytes

-- what it does with settings: it leads every past in the one state to a past in the other, in which es more were passed of the stream that
-- goes out, and fs more of the one that comes back
pub record Runs {E F : Type 0} (run : Past E F Bytes Bytes → Past E F Bytes Bytes) (before after : State E F Bytes Bytes)
    (es : List E) (fs : List F) : Type 0 where
  pub state : (p : Past E F Bytes Bytes) → p.state ≡ before → (run p).state ≡ after
  pub passed : (p : Past E F Bytes Bytes) → p.state ≡ before → (run p).out.passed ≡ p.out.passed ++ es
  pub back_passed : (p : Past E F Bytes Bytes) → p.state ≡ before → (run p).back.passed ≡ p.back.passed ++ fs

-- an air keeps its room and its bound
pub record SameLimits (before after : AirState Bytes) : Type 0 where
  pub room : after.capacity ≡ before.capacity
  pub bound : after.bound ≡ before.bound

-- the parts of a link, as its near end sees it: both ends, the air that carries what it sends, and the one that carries what it hears
pub record Parts (E F : Type 0) : Type 0 where
  pub near : End E F
  pub far : End F E
  pub air : AirState Bytes
  pub back_air : AirState Bytes

module _ {E F : Type 0} where
  -- the same, put together
  abbrev pub parts : End E F → End F E → AirState Bytes → AirState Bytes → Parts E F
  parts near far air back_air = record { near = near; far = far; air = air; back_air = back_air }

  -- the link that they make
  abbrev pub linked : Parts E F → State E F Bytes Bytes
  linked s = link_of (end_state s.near) (end_state s.far) s.air s.back_air

module _ {E F : Type 0} (kind : Coding E) (heard_kind : Coding F) where
  -- the parts of a link, whose ends face each other, go through a run of calls, in which the far end passes es, and the near one fs
  pub record Undergo (run : Course E F) (before after : Parts E F) (es : List E) (fs : List F) : Type 0 where
    pub faces : settings_of before.far ≡ facing (settings_of before.near)
    pub settings : settings_of after.near ≡ settings_of before.near
    pub far_settings : settings_of after.far ≡ settings_of before.far
    pub limits : SameLimits before.air after.air
    pub back_limits : SameLimits before.back_air after.back_air
    pub runs :
        let s = settings_of before.near in
        Runs (run (sending kind s before.air) (sending heard_kind (facing s) before.back_air)) (linked before) (linked after) es fs

  -- a far end goes through it alone, whichever near end it faces, and whatever the airs are
  pub record UndergoesAlone (run : Course E F) (before after : End F E) (es : List E) : Type 0 where
    pub settings : settings_of after ≡ settings_of before
    pub facing_any :
        (near : End E F) (air back_air : AirState Bytes) → settings_of before ≡ facing (settings_of near) →
        Undergo run (parts near before air back_air) (parts near after air back_air) es []

  module _ {A : Type 0} (state : A → AirState Bytes) where
    -- a far end, and the air that carries what it hears, go through it, whichever near end it faces, and whatever the other air is. It
    -- passes nothing
    pub record Undergoes (run : Course E F) (before after : End F E) (air air_after : Tight A) : Type 0 where
      pub settings : settings_of after ≡ settings_of before
      pub kept : Keeps state air air_after
      pub facing_any :
          (near : End E F) (back_air : AirState Bytes) → settings_of before ≡ facing (settings_of near) →
          Undergo run (parts near before (tight_state state air) back_air) (parts near after (tight_state state air_after) back_air) [] []

    -- two ends that face each other, and the air from the near end to the far one, go through it, whatever the other air is
    pub record UndergoBoth (run : Course E F) (near near_after : End E F) (far far_after : End F E) (air air_after : Tight A)
        (es : List E) : Type 0 where
      pub settings : settings_of near_after ≡ settings_of near
      pub far_settings : settings_of far_after ≡ settings_of far
      pub kept : Keeps state air air_after
      pub beside :
          (back_air : AirState Bytes) →
          Undergo run (parts near far (tight_state state air) back_air) (parts near_after far_after (tight_state state air_after) back_air)
          es []

module _ {X Y A B : Type 0} (x : Coding X) (y : Coding Y) (a : A → AirState Bytes) (b : B → AirState Bytes) where
  -- a link goes through a run of calls, in which the hut passes es and the mast passes fs
  pub record Undergone (run : Course X Y) (before after : Link X Y A B) (es : List X) (fs : List Y) : Type 0 where
    pub directions : SameDirections x y a b before after
    pub runs :
        let c = to_hut x a before in
        let d = to_mast y b before in
        Runs (run (opened c d) (opened d c)) (link_state a b before) (link_state a b after) es fs
