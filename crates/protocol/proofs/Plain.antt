-- The machine whose frames travel as they are, under short names.
use Rattle.std.specs.Prelude.{ℕ, Bool}
use Rattle.air.specs.Waiting.{Waiting}
use Rattle.frame.specs.declared.Frame.{Frame}
use Rattle.protocol.specs.Windows.{cyclic, endless}
use Rattle.protocol.specs.Machine.{as_they_are}
use Rattle.protocol.specs.Machine as machine
use Rattle.protocol.specs.Histories as histories

abbrev pub Packet : Type 0 → Type 0
Packet E = Waiting (Frame E)

abbrev pub Setting : Type 0 → Type 0
Setting E = machine.Setting E (Frame E)

abbrev pub State : Type 0 → Type 0 → Type 0
State E F = machine.State E F (Frame E) (Frame F)

abbrev pub Step : Type 0 → Type 0 → Type 0
Step E F = machine.Step E F (Frame E) (Frame F)

abbrev pub Past : Type 0 → Type 0 → Type 0
Past E F = histories.Past E F (Frame E) (Frame F)

-- the settings of a stream but for its numbers and its codec
pub record Shape (E : Type 0) : Type 0 where
  pub valid : E → Bool
  pub window : ℕ
  pub bound : ℕ
  pub capacity : ℕ

-- with numbers that start over after m
abbrev pub cycling : {E : Type 0} → Shape E → ℕ → Setting E
cycling T m = record { valid = T.valid; codec = as_they_are; window = T.window; numbers = cyclic m; capacity = T.capacity; bound = T.bound }

-- with numbers that never start over
abbrev pub unending : {E : Type 0} → Shape E → Setting E
unending T = record { valid = T.valid; codec = as_they_are; window = T.window; numbers = endless; capacity = T.capacity; bound = T.bound }
