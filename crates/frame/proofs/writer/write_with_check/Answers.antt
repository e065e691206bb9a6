use Rattle.std.proofs.Common.{◌≡◌, ◌+◌, ◌++◌, length, take, Ok, refl, ap, ◌∙◌, arith, length-append}
use Rattle.octets.proofs.Fronts.{front_next}
use Rattle.octets.specs.Areas.{front}
use Rattle.octets.specs.Numbers.{bytes16}
use Rattle.frame.specs.Formats.{header_bytes, sealed_bytes}
use Rattle.frame.proofs.Seals.{front_sealed, length_sealed}
use Rattle.frame.proofs.writer.write_with_check.Goals as goal

pub returns : goal.returns
returns c =
    let xs = c.args.area.now in
    let h = header_bytes c.args.header in
    let e = c.args.element.now in
    let n = 12 + length e in
    let one : c.append.new.area ≡ front h xs = c.append.ensures ∙ ap (λ u. front u xs) c.bytes.ensures in
    let two : c.append-2.new.area ≡ front (h ++ e) xs = c.append-2.ensures ∙ front_next 12 _ xs h e one refl in
    let before = c.append-2.new.area in
    let last = c.append-3.ensures ∙ ap (λ z. front (take n before ++ z) before) (c.to_be_bytes-check.ensures ∙ ap bytes16 c.check_of.ensures) in
    let size : n + 2 ≡ length (sealed_bytes (h ++ e)) = omega (arith, length_sealed c.args.header e) in
    let area = last ∙ front_sealed n _ xs (h ++ e) two (simp length-append (omega arith)) in
    λ i. (Ok (size i), area i)
