-- What an air means: the frames that wait in it, oldest first. Places count from 0. An air does not look into its frames, so a frame is
-- of any type here.
use Rattle.std.specs.Prelude.{ℕ, zero, suc, ◌+◌, Bool, false, ◌||◌, List, [], ◌∷◌, ◌++◌, ◌==◌}

-- a waiting frame, and its count: how often it has been overtaken
pub record Waiting (W : Type 0) : Type 0 where
  pub frame : W
  pub count : ℕ

-- an air: the frames that wait in it, oldest first, how many may wait, and how often each may be overtaken
pub record AirState (W : Type 0) : Type 0 where
  pub waiting : List (Waiting W)
  pub capacity : ℕ
  pub bound : ℕ

-- a list without what stands at place k
abbrev pub without : {A : Type 0} → ℕ → List A → List A
without k [] = []
without zero (x ∷ xs) = xs
without (suc k) (x ∷ xs) = x ∷ without k xs

module _ {W : Type 0} where
  -- an air in which no frame waits
  abbrev pub empty_air : ℕ → ℕ → AirState W
  empty_air capacity bound = record { waiting = []; capacity = capacity; bound = bound }

  -- the same air with other frames waiting
  abbrev pub with_waiting : AirState W → List (Waiting W) → AirState W
  with_waiting a ws = record { waiting = ws; capacity = a.capacity; bound = a.bound }

  -- a frame that no other has overtaken yet
  abbrev pub fresh : W → Waiting W
  fresh frame = record { frame = frame; count = 0 }

  -- a frame that has been overtaken once more
  abbrev pub raised : Waiting W → Waiting W
  raised w = record { frame = w.frame; count = w.count + 1 }

  -- the frames, each before place k overtaken once more
  abbrev pub overtaken : ℕ → List (Waiting W) → List (Waiting W)
  overtaken zero ws = ws
  overtaken (suc k) [] = []
  overtaken (suc k) (w ∷ ws) = raised w ∷ overtaken k ws

  -- whether a frame before place k has been overtaken as often as the bound allows
  abbrev pub barred : ℕ → ℕ → List (Waiting W) → Bool
  barred bound zero ws = false
  barred bound (suc k) [] = false
  barred bound (suc k) (w ∷ ws) = w.count == bound || barred bound k ws

  -- the air after a frame was put: it waits behind all others
  abbrev pub joined : W → AirState W → AirState W
  joined frame a = with_waiting a (a.waiting ++ (fresh frame ∷ []))

  -- the air after frame k was lost
  abbrev pub lost : ℕ → AirState W → AirState W
  lost k a = with_waiting a (without k a.waiting)

  -- the air after frame k was answered and stays; each older frame has been overtaken once more
  abbrev pub repeated : ℕ → AirState W → AirState W
  repeated k a = with_waiting a (overtaken k a.waiting)

  -- the air after frame k was answered and is gone: as if it had been repeated and then lost
  abbrev pub taken : ℕ → AirState W → AirState W
  taken k a = lost k (repeated k a)
