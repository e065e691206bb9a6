-- Posting element after element shows what they are in sequence.
use Rattle.std.proofs.Common.{◌≡◌, ◌+◌, List, [], ◌∷◌, ◌++◌, length, map, Some, Option, min, refl, sym, ap, ◌∙◌, append_assoc, append-nil, length-append, arith}
use Rattle.std.specs.List.{last_or}
use Rattle.board.specs.Boards.{top, shown, posted, all_posted, ExtendedBy}
use Rattle.board.specs.declared.Board.{Board}

module _ {K H : Type 0} (headline : K → H) where
  -- the last one's headline
  last_headline : (o : Option H) (es : List K) (e : K) → last_or o (map headline (es ++ (e ∷ []))) ≡ Some (headline e)
  last_headline o [] e = refl
  last_headline o (x ∷ es) e = last_headline (Some (headline x)) es e

  -- one more is counted, up to the top
  one_more : (es : List K) (e : K) → min (min (length es) top + 1) top ≡ min (length (es ++ (e ∷ []))) top
  one_more es e = omega (arith, length-append es (e ∷ []))

  -- one more post shows one more element
  pub posted_shown : (es : List K) (e : K) → posted headline e (shown headline es) ≡ shown headline (es ++ (e ∷ []))
  posted_shown es e = rw (last_headline _ es e, one_more es e) refl

  -- posts in sequence show the sequence
  pub all_posted_shown : (fs es : List K) → all_posted headline fs (shown headline es) ≡ shown headline (es ++ fs)
  all_posted_shown [] es = ap (shown headline) (sym (append-nil es))
  all_posted_shown (f ∷ fs) es =
      ap (all_posted headline fs) (posted_shown es f) ∙ all_posted_shown fs (es ++ (f ∷ [])) ∙ ap (shown headline) (append_assoc es (f ∷ []) fs)

  -- what posts in sequence do, as a relation of two boards
  pub shows_all : (fs : List K) (before after : Board K H) → after ≡ all_posted headline fs before → ExtendedBy headline fs before after
  shows_all fs before after steps = record { shows = λ es h. steps ∙ ap (all_posted headline fs) h ∙ all_posted_shown fs es }

  -- and what one post does
  pub shows_one : (e : K) (before after : Board K H) → after ≡ posted headline e before → ExtendedBy headline (e ∷ []) before after
  shows_one e before after step = record { shows = λ es h. step ∙ ap (posted headline e) h ∙ posted_shown es e }
