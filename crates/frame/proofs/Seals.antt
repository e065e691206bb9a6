-- The check behind the bytes that it covers.
use Rattle.std.proofs.Common.{◌≡◌, ℕ, ◌+◌, ◌-◌, ◌/◌, ◌%◌, ◌<◌, ◌≤◌, true, List, ◌++◌, length, get_or, take, drop, sym, ap, ◌∙◌, arith, length-append, length-drop}
use Rattle.std.specs.List.{AllByRecursion}
use Rattle.std.proofs.lemmas.List.{take_at, get_or_at, get_or-append-add, take-append-drop, take_all}
use Rattle.std.proofs.lemmas.Bool.Decides.{nat_tests}
use Rattle.octets.proofs.Fronts.{take-front, front_again}
use Rattle.octets.proofs.Heads.{take_heads}
use Rattle.octets.proofs.Numbers.{number_bytes16, part16}
use Rattle.octets.specs.Areas.{front}
use Rattle.octets.specs.Checks.{check}
use Rattle.octets.specs.Numbers.{bytes16, number16}
use Rattle.frame.specs.Formats.{header_bytes, sealed_bytes}
use Rattle.frame.specs.Reads.{is_sealed}
use Rattle.frame.specs.declared.header.Header.{Header}

-- the check behind the front
pub front_sealed : (n : ℕ) (old xs ys : List ℕ) → old ≡ front ys xs → length ys ≡ n → front (sealed_bytes (take n old)) old ≡ front (sealed_bytes ys) xs
front_sealed n old xs ys e p =
    let t : take n old ≡ ys = ap (take n) e ∙ take-front n ys xs p in
    ap (λ u. front (sealed_bytes u) old) t ∙ ap (front (sealed_bytes ys)) e ∙ front_again ys (bytes16 (check ys)) xs

-- how many bytes a header, what follows it and the check are
pub length_sealed : (h : Header) (bs : List ℕ) → length (sealed_bytes (header_bytes h ++ bs)) ≡ 14 + length bs
length_sealed h bs = simp length-append (omega arith)

-- bytes with their check behind them are sealed
pub sealed_back : (bs : List ℕ) → is_sealed (sealed_bytes bs) ≡ true
sealed_back bs =
    let c = check bs in
    let s = sealed_bytes bs in
    let small : c < 65536 = omega arith in
    let long : length s ≡ length bs + 2 = simp length-append (omega arith) in
    let covered : take (length s - 2) s ≡ bs = take_at bs (bytes16 c) (length s - 2) (omega arith) in
    let high : get_or s (length s - 2) 0 ≡ c / 256 % 256 = get_or_at bs _ _ 0 (length s - 2) (omega arith) in
    let low : get_or s (length bs + 1) 0 ≡ c % 256 = get_or-append-add bs (bytes16 c) 1 0 in
    grind (arith, nat_tests, number_bytes16)

-- the check that sealed bytes end with
pub sealed_check : (n : ℕ) (bs : List ℕ) → length bs ≡ n + 2 → is_sealed bs ≡ true → check (take n bs) ≡ number16 (get_or bs n 0) (get_or bs (n + 1) 0)
sealed_check n bs l s = grind (arith, nat_tests)

-- bytes whose last two are the check of the others are these others with their check
pub sealed_whole : (bs : List ℕ) → AllByRecursion (λ b. b < 256) bs → 2 ≤ length bs → is_sealed bs ≡ true → sealed_bytes (take (length bs - 2) bs) ≡ bs
sealed_whole bs all l s =
    let n = length bs - 2 in
    let c = sealed_check n bs (omega arith) s in
    let two = part16 bs n all (omega arith) in
    let last = sym (take_all 2 (drop n bs) (simp length-drop (omega arith))) ∙ take_heads n 2 0 bs (omega arith) in
    let whole = take-append-drop n bs in
    cc
