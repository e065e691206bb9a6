-- All worked cases, in one theorem.
use Rattle.worked.specs.Links.{WorkedLinks}
use Rattle.worked.specs.Worked.{Worked}

-- A to H, which are about drafts, numbers and links, for any two kinds of element; and I to L and the example of RFC 1071, which are about
-- frames, elements, airs and the check
pub record AllWorked (E F : Type 0) : Type 0 where
  pub links : WorkedLinks E F
  pub others : Worked
