-- Laws of areas that are written from their front.
use Rattle.std.proofs.Common.{◌≡◌, ℕ, ◌+◌, ◌≤◌, List, ◌++◌, length, take, drop, sym, refl, ap, ◌∙◌, arith, length-append}
use borrow.Rule.Slice.PartMut.{put_mid}
use Rattle.std.proofs.lemmas.List.{append_assoc, drop-drop, length-take-le, take_at}
use Rattle.std.proofs.lemmas.Slice.{drop-append-drop}
use Rattle.octets.specs.Areas.{front}

-- a write of k elements behind the first n
pub front_more : (n k : ℕ) (xs ys : List ℕ) → length ys ≡ k → n ≤ length xs → put_mid n k xs ys ≡ front (take n xs ++ ys) xs
front_more n k xs ys e h =
    let t : length (take n xs ++ ys) ≡ n + k = length-append (take n xs) ys ∙ omega (arith, length-take-le n xs h) in
    ap (λ z. take n xs ++ (ys ++ z)) (drop-drop k n xs ∙ ap (λ m. drop m xs) (sym t)) ∙ sym (append_assoc (take n xs) ys (drop (length (take n xs ++ ys)) xs))

-- the front is what was written
pub take-front : (n : ℕ) (ys xs : List ℕ) → length ys ≡ n → take n (front ys xs) ≡ ys
take-front n ys xs e = take_at ys (drop (length ys) xs) n e

-- past what was written the area is as it was
pub drop-front : (n : ℕ) (ys xs : List ℕ) → length ys ≤ n → drop n (front ys xs) ≡ drop n xs
drop-front n ys xs h = drop-append-drop (length ys) xs ys n h refl

-- to write more behind the front is to write all of it at once
pub front_again : (ys zs xs : List ℕ) → front (ys ++ zs) (front ys xs) ≡ front (ys ++ zs) xs
front_again ys zs xs =
    ap (λ r. (ys ++ zs) ++ r) (drop-front (length (ys ++ zs)) ys xs (simp length-append (omega arith)))

-- one part more behind the front
pub front_next : (n : ℕ) (old xs ys zs : List ℕ) → old ≡ front ys xs → length ys ≡ n → front (take n old ++ zs) old ≡ front (ys ++ zs) xs
front_next n old xs ys zs e p =
    let t : take n old ≡ ys = ap (take n) e ∙ take-front n ys xs p in
    ap (λ u. front (u ++ zs) old) t ∙ ap (front (ys ++ zs)) e ∙ front_again ys zs xs
