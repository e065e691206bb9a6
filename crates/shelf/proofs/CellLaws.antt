-- What a change of the cells does to the frames in them.
use Rattle.std.proofs.Common.{◌≡◌, ℕ, zero, suc, ◌+◌, ◌-◌, ◌<◌, ◌≤◌, List, [], ◌∷◌, ◌++◌, map, length, get_or, take, drop, set, sym, refl, ap, ap₂, ◌∙◌, arith}
use borrow.Rule.Slice.PartMut.{put_mid}
use Rattle.std.specs.List.{between}
use Rattle.std.proofs.lemmas.Slice.{between_is, take-put_mid}
use Rattle.std.proofs.lemmas.List.{append_assoc, drop-drop, length-append, length-drop, length-take, take-take, take_at}
use Rattle.air.specs.Waiting.{Waiting, fresh, raised, overtaken, without}
use Rattle.air.specs.Steps.{Bytes}
use Rattle.air.proofs.Places.{without_is}
use Rattle.shelf.specs.Cells.{frame_in}

-- a fresh frame is written into a cell
pub written : (cell : List ℕ) (bs : Bytes) (n : ℕ) → 4 ≤ length cell → frame_in (put_mid 4 n (set (set cell 0 (length bs)) 1 0) bs) ≡ fresh bs
written [] bs n room = absurd (omega arith)
written (a ∷ []) bs n room = absurd (omega arith)
written (a ∷ b ∷ []) bs n room = absurd (omega arith)
written (a ∷ b ∷ c ∷ []) bs n room = absurd (omega arith)
written (a ∷ b ∷ c ∷ d ∷ rest) bs n room = ap fresh (take_at bs (drop n rest) (length bs) refl)

-- the frame in a cell is overtaken once more
pub raised_in : (cell : List ℕ) → 2 ≤ length cell → frame_in (set cell 1 (get_or cell 1 0 + 1)) ≡ raised (frame_in cell)
raised_in [] long = absurd (omega arith)
raised_in (a ∷ []) long = absurd (omega arith)
raised_in (a ∷ b ∷ rest) long = refl

-- where the first k of some frames are raised, they are overtaken once more
pub frames_raised : (k used : ℕ) (ws : List (Waiting Bytes)) → k ≤ used → take used (map raised (take k ws) ++ drop k ws) ≡ overtaken k (take used ws)
frames_raised zero used ws few = refl
frames_raised (suc k) zero ws few = absurd (omega arith)
frames_raised (suc k) (suc used) [] few = refl
frames_raised (suc k) (suc used) (w ∷ ws) few = ap (λ vs. raised w ∷ vs) (frames_raised k used ws (omega arith))

-- the cells from k on are turned round by one: those behind cell k close up
pub closed_up : (k used : ℕ) (cells part : List (List ℕ)) → k < used → used ≤ length cells → part ≡ drop 1 (between k used cells) ++ take 1 (between k used cells) → take (used - 1) (put_mid k (used - k) cells part) ≡ without k (take used cells)
closed_up k used cells part at within is =
    let mid = between k used cells in
    let next : k + 1 ≡ suc k = omega arith in
    let n : length part ≡ used - k = rw is (simp (length-append, length-drop, length-take) (omega arith)) in
    sym (take-take (used - 1) used _ (omega arith))
    ∙ ap (take (used - 1)) (take-put_mid k (used - k) cells part used (omega arith) (omega arith) ∙ ap (λ ys. take k cells ++ ys) is ∙ sym (append_assoc (take k cells) (drop 1 mid) (take 1 mid)))
    ∙ take_at (take k cells ++ drop 1 mid) (take 1 mid) (used - 1) (simp (length-append, length-drop, length-take) (omega arith))
    ∙ ap₂ ◌++◌ (sym (take-take k used cells (omega arith))) (ap (drop 1) (between_is cells k used) ∙ drop-drop 1 k (take used cells) ∙ ap (λ j. drop j (take used cells)) next)
    ∙ sym (without_is k (take used cells))
