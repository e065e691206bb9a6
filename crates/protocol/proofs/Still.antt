-- Settle accepts nothing and keeps what holds of a link whose numbers never start over.
use Rattle.std.proofs.Common.{◌≡◌, false, true, List, refl, ◌∙◌}
use Rattle.protocol.specs.Machine.{Act, Reply, act}
use Rattle.protocol.specs.Machine.Act.{accept}
use Rattle.protocol.specs.Machine.Reply.{done}
use Rattle.protocol.specs.Histories.{turned_past, accepted_by}
use Rattle.protocol.proofs.Plain.{Shape, Past, unending}
use Rattle.protocol.proofs.Kept.{LinkInv, Windows, turned_inv, turned_windows, act_kept}
use Rattle.protocol.proofs.Bridge.{Allowed, Half, Halves, renamed}

-- an act that is no accept accepts nothing
still : {E F : Type 0} (r : Reply F) (a : Act E) → Allowed false a → (xs : List E) → accepted_by r a xs ≡ xs
still done (accept e) h xs = absurd (let z : false ≡ true = h in cc)
still r a h xs = refl

-- q keeps the invariant and has accepted what p had
pub record Later {E F : Type 0} (T : Shape E) (U : Shape F) (p q : Past E F) : Type 0 where
  pub inv : LinkInv T U q
  pub accepted : q.out.accepted ≡ p.out.accepted
  pub back_accepted : q.back.accepted ≡ p.back.accepted

module _ {E F : Type 0} {T : Shape E} {U : Shape F} where
  pub later_self : {p : Past E F} → LinkInv T U p → Later T U p p
  later_self h = record { inv = h; accepted = refl; back_accepted = refl }

  turned_later : {p q : Past E F} → Later T U p q → Later U T (turned_past p) (turned_past q)
  turned_later h = record { inv = turned_inv h.inv; accepted = h.back_accepted; back_accepted = h.accepted }

  half : Windows T U → (p : Past E F) → Half false (unending T) (unending U) (unending T) (unending U) (Later T U p) (λ s. s)
  half w p = record {
    kept = λ a s q h. record {
      inv = act_kept w h.inv a;
      accepted = still (act (unending T) (unending U) a q.state).reply a s q.out.accepted ∙ h.accepted;
      back_accepted = h.back_accepted;
    };
    alike = λ a s q h. refl;
    wait = λ s. refl;
    held = λ s. refl;
    window = refl;
    capacity = refl;
  }

-- so does every act but accept, at either end
pub later_keeps : {E F : Type 0} {T : Shape E} {U : Shape F} → Windows T U → (p : Past E F) → Halves false (unending T) (unending U) (unending T) (unending U) (Later T U p) (λ s. s)
later_keeps w p = record { here = half w p; there = renamed (half (turned_windows w) (turned_past p)) (λ q. turned_later) (λ q. turned_later) }
