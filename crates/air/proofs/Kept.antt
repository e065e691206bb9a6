-- What holds of every past, by its parts, and that no step breaks it.
use Rattle.std.proofs.Common.{◌≡◌, ℕ, ◌+◌, ◌<◌, ◌≤◌, false, cond, eqb, ltb, List, [], ◌∷◌, ◌++◌, length, get_or, Some, sym, refl, ap, ◌∙◌, inl, inr, arith}
use Rattle.std.specs.List.{AllByRecursion, slice_get}
use Rattle.std.proofs.ByRecursion.{All-weaker}
use Rattle.std.proofs.lemmas.List.{length_push}
use Rattle.std.proofs.lemmas.Option.{slice_get-get_or}
use Rattle.std.proofs.lemmas.Bool.{cases_lt, cases_eq, cond_both, eq-eqb, le-ltb, lt-ltb, ne_eqb}
use Rattle.std.proofs.lemmas.Bool.Decides.{nat_tests}
use Rattle.air.specs.Waiting.{Waiting, without, raised, overtaken, barred, fresh}
use Rattle.air.specs.Steps.{Bytes, bytes_of}
use Rattle.air.specs.Histories.{Event, was_lost, was_taken, was_repeated, occurrences, departures, overtakings, Genuine, Present}
use Rattle.air.proofs.Nth.{some_same, nth_within, nth_push, nth_last}
use Rattle.air.proofs.Rows.{Rows, rows_length, rows_at, rows_rise, rows_found, rows_push, rows_without, rows_overtaken}
use Rattle.air.proofs.Tallies.{occurrences_push, occurrences-without, overtakings_fall, overtakings_none, counted_at_most}

-- what holds of a waiting frame and its serial number s: it is as it was put, its count is true and within the bound, and it has not departed
pub record Row (bound : ℕ) (put_frames : List Bytes) (events : List Event) (s : ℕ) (w : Waiting Bytes) : Type 0 where
  pub unchanged : slice_get put_frames s ≡ Some w.frame
  pub counted : w.count ≡ overtakings s events
  pub stays : departures s events ≡ 0
  pub limited : w.count ≤ bound

-- what holds of every past, by its parts: the bound, the frames that were put, what befell them, and the serial numbers beside the waiting frames
pub record Kept (bound : ℕ) (put_frames : List Bytes) (events : List Event) (ss : List ℕ) (ws : List (Waiting Bytes)) : Type 0 where
  pub rows : Rows (Row bound put_frames events) ss ws
  pub bounded : (s : ℕ) → overtakings s events ≤ bound
  pub genuine : AllByRecursion (Genuine put_frames) events
  pub present : Present events
  pub accounted : (s : ℕ) → occurrences s ss + departures s events ≡ cond (ltb s (length put_frames)) 1 0

-- an air that was made empty
pub kept_start : (bound : ℕ) → Kept bound [] [] [] []
kept_start bound = record { rows = tt; bounded = λ s. omega arith; genuine = tt; present = tt; accounted = λ s. grind (arith, nat_tests) }

-- an answer that was put is still one when more is put
genuine_push : (put_frames : List Bytes) (bs : Bytes) (e : Event) → Genuine put_frames e → Genuine (put_frames ++ (bs ∷ [])) e
genuine_push put_frames bs (was_lost s) g = tt
genuine_push put_frames bs (was_taken s ys) g = nth_push put_frames bs ys s g
genuine_push put_frames bs (was_repeated s ys) g = nth_push put_frames bs ys s g

-- one frame more is put, the one of serial number n
one_more : (s n : ℕ) → cond (ltb s (n + 1)) 1 0 ≡ cond (ltb s n) 1 0 + cond (eqb s n) 1 0
one_more s n = grind (arith, nat_tests)

module _ {bound : ℕ} {put_frames : List Bytes} {es : List Event} {ss : List ℕ} {ws : List (Waiting Bytes)} where
  -- each waiting frame has a serial number
  pub kept_length : Kept bound put_frames es ss ws → length ss ≡ length ws
  kept_length i = rows_length (Row bound put_frames es) ss ws i.rows

  -- the serial number of place k
  pub kept_serial : (k : ℕ) → Kept bound put_frames es ss ws → k < length ws → slice_get ss k ≡ Some (get_or ss k (length put_frames))
  kept_serial k i within = slice_get-get_or ss k (length put_frames) (omega (arith, within, kept_length i))

  -- what holds of the frame of place k
  pub kept_row : (k : ℕ) (w : Waiting Bytes) → Kept bound put_frames es ss ws → slice_get ws k ≡ Some w → Row bound put_frames es (get_or ss k (length put_frames)) w
  kept_row k w i here = rows_at (Row bound put_frames es) k (length put_frames) ss ws w i.rows here

  -- it is the frame that was put under that serial number
  pub kept_frame : (k : ℕ) → Kept bound put_frames es ss ws → k < length ws → slice_get put_frames (get_or ss k (length put_frames)) ≡ Some (bytes_of (slice_get ws k))
  kept_frame k i within =
      let here = slice_get-get_or ws k (fresh []) within in
      (kept_row k (get_or ws k (fresh [])) i here).unchanged ∙ ap (λ o. Some (bytes_of o)) (sym here)

  -- serial numbers rise from place to place
  pub kept_rises : (j k : ℕ) → Kept bound put_frames es ss ws → j < k → k < length ss → get_or ss j (length put_frames) < get_or ss k (length put_frames)
  kept_rises j k i l within = rows_rise (Row bound put_frames es) j k (length put_frames) ss ws i.rows l within

  -- and counts never do, since what overtook the younger frame overtook the older one too
  pub kept_falls : (j k : ℕ) (v w : Waiting Bytes) → Kept bound put_frames es ss ws → j ≤ k → slice_get ws j ≡ Some v → slice_get ws k ≡ Some w → w.count ≤ v.count
  kept_falls j k v w i l here there =
      elim (cases_eq j k) [
        | inl same ↦
            let equal : w ≡ v = some_same w v (sym there ∙ ap (slice_get ws) (sym same) ∙ here) in
            omega (arith, ap (λ u. u.count) equal)
        | inr apart ↦
            let older = kept_row j v i here in
            let younger = kept_row k w i there in
            let rises = kept_rises j k i (omega arith) (omega (arith, nth_within ws k w there, kept_length i)) in
            omega (arith, older.counted, younger.counted, overtakings_fall (get_or ss j (length put_frames)) (get_or ss k (length put_frames)) rises es older.stays)
      ]

  -- a frame is put
  pub kept_put : (bs : Bytes) → Kept bound put_frames es ss ws → Kept bound (put_frames ++ (bs ∷ [])) es (ss ++ (length put_frames ∷ [])) (ws ++ (fresh bs ∷ []))
  kept_put bs i =
      let n = length put_frames in
      let new = overtakings_none put_frames n (omega arith) es i.genuine in
      record {
        rows = rows_push (Row bound put_frames es) (Row bound (put_frames ++ (bs ∷ [])) es) n (fresh bs)
            (λ s w r. record { unchanged = nth_push put_frames bs w.frame s r.unchanged; counted = r.counted; stays = r.stays; limited = r.limited })
            (λ s w r. nth_within put_frames s w.frame r.unchanged)
            (record { unchanged = nth_last put_frames bs; counted = sym new; stays = omega (arith, rw (le-ltb n n (omega arith)) at (i.accounted n)); limited = omega arith })
            ss ws i.rows;
        bounded = i.bounded;
        genuine = All-weaker (Genuine put_frames) (Genuine (put_frames ++ (bs ∷ []))) (genuine_push put_frames bs) es i.genuine;
        present = i.present;
        accounted = λ s. rw (occurrences_push s n ss, length_push put_frames bs) (omega (arith, i.accounted s, one_more s n));
      }

  -- the frame of place k departs by the newest event, which overtakes nothing: each frame is overtaken as often as before
  kept_departed : (k t : ℕ) (next : List Event) → slice_get ss k ≡ Some t → ((s : ℕ) → overtakings s next ≡ overtakings s es)
      → ((s : ℕ) → departures s next ≡ cond (eqb s t) 1 0 + departures s es) → AllByRecursion (Genuine put_frames) next → Present next
      → Kept bound put_frames es ss ws → Kept bound put_frames next (without k ss) (without k ws)
  kept_departed k t next here same more genuine present i =
      record {
        rows = rows_without (Row bound put_frames es) (Row bound put_frames next) t
            (λ s w r apart. record {
              unchanged = r.unchanged;
              counted = r.counted ∙ sym (same s);
              stays = more s ∙ rw (ne_eqb s t apart) (omega (arith, r.stays));
              limited = r.limited;
            })
            k ss ws here i.rows;
        bounded = λ s. omega (arith, i.bounded s, same s);
        genuine = genuine;
        present = present;
        accounted = λ s. omega (arith, i.accounted s, more s, occurrences-without s t k ss here);
      }

  -- the frame of place k has not departed
  kept_stays : (k t : ℕ) → slice_get ss k ≡ Some t → Kept bound put_frames es ss ws → departures t es ≡ 0
  kept_stays k t here i =
      let waits = rw (eq-eqb t t refl) at (occurrences-without t t k ss here) in
      let once : cond (ltb t (length put_frames)) 1 0 ≤ 1 = cond_both (ltb t (length put_frames)) 1 0 (λ n. n ≤ 1) (λ _. omega arith) (λ _. omega arith) in
      omega (arith, waits, once, i.accounted t)

  -- the frame of place k is lost
  pub kept_lost : (k t : ℕ) → slice_get ss k ≡ Some t → Kept bound put_frames es ss ws → Kept bound put_frames (was_lost t ∷ es) (without k ss) (without k ws)
  kept_lost k t here i =
      kept_departed k t (was_lost t ∷ es) here (λ s. omega (arith, counted_at_most (departures s es) 0)) (λ s. refl) (tt, i.genuine) (kept_stays k t here i, i.present) i

module _ {bound : ℕ} {put_frames : List Bytes} {es : List Event} {s : ℕ} {w : Waiting Bytes} (t : ℕ) (bs : Bytes) where
  -- an older frame, when frame t is answered
  row_overtaken : Row bound put_frames es s w → s < t → (w.count ≡ bound → ⊥) → Row bound put_frames (was_repeated t bs ∷ es) s (raised w)
  row_overtaken r below free =
      record {
        unchanged = r.unchanged;
        counted = rw (eq-eqb (departures s es) 0 r.stays, lt-ltb s t below) (omega (arith, r.counted));
        stays = omega (arith, r.stays);
        limited = omega (arith, r.limited);
      }

  -- that frame, or a younger one
  row_passing : Row bound put_frames es s w → t ≤ s → Row bound put_frames (was_repeated t bs ∷ es) s w
  row_passing r above =
      record {
        unchanged = r.unchanged;
        counted = rw (eq-eqb (departures s es) 0 r.stays, le-ltb s t above) (omega (arith, r.counted));
        stays = omega (arith, r.stays);
        limited = r.limited;
      }

-- once frame t is answered, still no frame has been overtaken more often than the bound: one that waits by its row, and the others as before
bounded_answered : {bound : ℕ} {put_frames : List Bytes} {es : List Event} {ss : List ℕ} {ws : List (Waiting Bytes)} (t : ℕ) (bs : Bytes) (moved : List (Waiting Bytes))
    → slice_get put_frames t ≡ Some bs → Rows (Row bound put_frames (was_repeated t bs ∷ es)) ss moved → Kept bound put_frames es ss ws
    → (s : ℕ) → overtakings s (was_repeated t bs ∷ es) ≤ bound
bounded_answered {bound} {put_frames} {es} {ss} t bs moved put rows i s =
    elim (cases_lt s t) [
      | inl below ↦ elim (cases_eq (departures s es) 0) [
        | inl waits ↦
            let known = nth_within put_frames t bs put in
            let once : occurrences s ss ≡ 1 = omega (arith, waits, rw (lt-ltb s (length put_frames) (omega arith)) at (i.accounted s)) in
            let row = (rows_found (Row bound put_frames (was_repeated t bs ∷ es)) s ss moved rows once).1 in
            omega (arith, row.counted, row.limited)
        | inr gone ↦ rw (ne_eqb (departures s es) 0 gone) (omega (arith, i.bounded s))
      ]
      | inr above ↦ rw (le-ltb s t above) (omega (arith, i.bounded s, counted_at_most (departures s es) 0))
    ]

module _ {bound : ℕ} {put_frames : List Bytes} {es : List Event} {ss : List ℕ} {ws : List (Waiting Bytes)}
    (k t : ℕ) (bs : Bytes) (here : slice_get ss k ≡ Some t) (put : slice_get put_frames t ≡ Some bs) (free : barred bound k ws ≡ false) where
  -- an older frame is overtaken once more; the frame itself and younger ones are not
  rows_answered : Kept bound put_frames es ss ws → Rows (Row bound put_frames (was_repeated t bs ∷ es)) ss (overtaken k ws)
  rows_answered i =
      rows_overtaken (Row bound put_frames es) (Row bound put_frames (was_repeated t bs ∷ es)) bound t
      (λ s w r below within. row_overtaken t bs r below within) (λ s w r above. row_passing t bs r above) k ss ws here free i.rows

  -- the frame of place k is answered and stays
  pub kept_repeated : Kept bound put_frames es ss ws → Kept bound put_frames (was_repeated t bs ∷ es) ss (overtaken k ws)
  kept_repeated i =
      record {
        rows = rows_answered i;
        bounded = bounded_answered t bs (overtaken k ws) put (rows_answered i) i;
        genuine = (put, i.genuine);
        present = (kept_stays k t here i, i.present);
        accounted = λ s. omega (arith, i.accounted s);
      }

  -- the frame of place k is answered and is gone, as if it were answered, stayed, and then departed
  pub kept_taken : Kept bound put_frames es ss ws → Kept bound put_frames (was_taken t bs ∷ es) (without k ss) (without k (overtaken k ws))
  kept_taken i = kept_departed k t (was_taken t bs ∷ es) here (λ s. refl) (λ s. omega arith) (put, i.genuine) (kept_stays k t here i, i.present) (kept_repeated i)
