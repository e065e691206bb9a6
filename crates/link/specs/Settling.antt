-- What settling does to a link, and what it writes.
use Rattle.std.specs.Prelude.{◌≡◌, ℕ, List, ◌∷◌, length, take, drop, Ok, Err, Result}
use Rattle.refusal.specs.declared.Refusal.{Refusal}
use Rattle.air.specs.Steps.{Bytes}
use Rattle.air.specs.Waiting.{AirState}
use Rattle.element.specs.Kinds.{Coding}
use Rattle.protocol.specs.Delivery.{owed}
use Rattle.protocol.specs.Histories.{Past, Call, Answer, answers, calls}
use Rattle.protocol.specs.Histories.Call.{settle}
use Rattle.protocol.specs.Histories.Answer.{settled_lists, settle_refused}
use Rattle.protocol.specs.Promises.{at_rest, opened, past}
use Rattle.link.specs.Links.{LedTo, SameDirections, link_state, to_hut, to_mast}
use Rattle.link.specs.declared.link.Link.{Link}
use Rattle.link.specs.declared.link.Settled.{Settled}

module _ {X Y : Type 0} where
  -- what settling answers, by the two lists as they are then: so many elements from the front of each, the mast's first; or why not
  abbrev pub settle_answer : Result Settled Refusal → List Y → List X → Answer X Y
  settle_answer (Ok n) ys xs = settled_lists (take n.mast ys) (take n.hut xs)
  settle_answer (Err r) ys xs = settle_refused r

  -- the places behind those are as they were; all of them after a refusal
  abbrev pub Untouched : Result Settled Refusal → (ys ys_after : List Y) (xs xs_after : List X) → Type 0
  Untouched (Ok n) ys ys_after xs xs_after = (drop n.mast ys_after ≡ drop n.mast ys) × (drop n.hut xs_after ≡ drop n.hut xs)
  Untouched (Err r) ys ys_after xs xs_after = (ys_after ≡ ys) × (xs_after ≡ xs)

module _ {X Y A B : Type 0} (x : Coding X) (y : Coding Y) (a : A → AirState Bytes) (b : B → AirState Bytes) where
  -- the link takes the machine's settle, called with lists of m and h places: whatever the past that led to it, the machine comes to the
  -- same state, with this answer. What led to it, and then this call, leads to the link after it
  pub record SettlesAs (before after : Link X Y A B) (m h : ℕ) (answer : Answer X Y) : Type 0 where
    pub directions : SameDirections x y a b before after
    pub steps :
        (p : Past X Y Bytes Bytes) → p.state ≡ link_state a b before →
        let c = to_hut x a before in
        let d = to_mast y b before in
        ((calls (opened c d) (opened d c) (settle m h) p).state ≡ link_state a b after)
        × (answers (opened c d) (opened d c) (settle m h) p ≡ answer)
    pub leads : (history : List (Call X Y)) → LedTo x y a b history before → LedTo x y a b (settle m h ∷ history) after

  -- settling that is not refused gives each end what it was owed, after every history that led to the link, and as many as it
  -- answers; the link is then at rest
  pub record PaysInFull (before after : Link X Y A B) (n : Settled) (ys : List Y) (xs : List X) : Type 0 where
    pub pays :
        (h : List (Call X Y)) → LedTo x y a b h before →
        let c = to_hut x a before in
        let d = to_mast y b before in
        let p = past c d h in
        (take n.mast ys ≡ owed p.back) × (take n.hut xs ≡ owed p.out)
        × (n.mast ≡ length (owed p.back)) × (n.hut ≡ length (owed p.out))
        × (link_state a b after ≡ (at_rest c d p.out.accepted p.back.accepted).state)
