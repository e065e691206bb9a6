-- A link whose frames are bytes.
use Rattle.std.specs.Prelude.{◌≡◌, ℕ, Bool, List, length, is_none}
use Rattle.element.specs.Kinds.{Coding, fault_of}
use Rattle.refusal.specs.Refusals.{unless}
use Rattle.frame.specs.Reads.{hear_from}
use Rattle.frame.specs.Writes.{bytes_of, refusal_of}
use Rattle.frame.specs.declared.Cycles.{Cycles}
use Rattle.frame.specs.declared.Format.{Format}
use Rattle.frame.specs.declared.Side.{Side}
use Rattle.frame.specs.declared.Side.TheVariants.{Mast, Hut}
use Rattle.protocol.specs.declared.terms.Terms.{Terms}
use Rattle.protocol.specs.Drafts.{Drafted}
use Rattle.protocol.specs.Machine.{Codec, State}
use Rattle.protocol.specs.Delivery.{owed}
use Rattle.protocol.specs.Histories.{Call}
use Rattle.protocol.specs.Laws.{count_owed}
use Rattle.protocol.specs.Promises.{Direction, Faithful, Promise, past}

-- how a side's frames with elements of a kind are written as bytes and heard, on given cycles
abbrev pub in_bytes : {K : Type 0} → Coding K → Side → Cycles → Codec K (List ℕ)
in_bytes kind side cycles =
    let format : Format = record { sender = side; cycles = cycles } in
    record { write = λ f. unless (bytes_of kind format f) (refusal_of kind format f); read = hear_from kind format }

-- a value is an element of its kind
abbrev pub is_element : {K : Type 0} → Coding K → K → Bool
is_element kind e = is_none (fault_of kind e)

-- the direction in which a side sends elements of a kind in bytes, on these terms, through an air with room for so many frames that lets
-- a frame be overtaken so often by itself
abbrev pub direction : {K : Type 0} → Coding K → Side → Terms → (capacity own_bound : ℕ) → Direction K (List ℕ)
direction kind side t capacity own_bound = record { valid = is_element kind; codec = in_bytes kind side; terms = t; capacity = capacity; own_bound = own_bound }

-- frames in bytes can be relied on, whichever side sends them
abbrev pub Readable : {K : Type 0} → Coding K → Type 0
Readable kind = (side : Side) (t : Terms) (capacity own_bound : ℕ) → Faithful (direction kind side t capacity own_bound)

-- every link that is drafted within the limits and whose frames are bytes keeps the whole promise in every state
abbrev pub PromisesInBytes : {X Y : Type 0} → Coding X → Coding Y → Type 0
PromisesInBytes {X} {Y} kind back_kind =
    (t u : Terms) → Drafted t u → (capacity back_capacity own_bound back_own_bound : ℕ) → (s : State X Y (List ℕ) (List ℕ)) →
    Promise (direction kind Mast t capacity own_bound) (direction back_kind Hut u back_capacity back_own_bound) s

-- and what each of its streams owes can be counted from what its ends keep, after every history
abbrev pub CountsInBytes : {X Y : Type 0} → Coding X → Coding Y → Type 0
CountsInBytes {X} {Y} kind back_kind =
    (t u : Terms) → Drafted t u → (capacity back_capacity own_bound back_own_bound : ℕ) → (h : List (Call X Y)) →
    let p = past (direction kind Mast t capacity own_bound) (direction back_kind Hut u back_capacity back_own_bound) h in
    (count_owed t.cycle p.state.out ≡ length (owed p.out)) × (count_owed u.cycle p.state.back ≡ length (owed p.back))
