-- Bytes that hold a reading are the bytes of that reading.
use Rattle.std.specs.Prelude.{◌≡◌, ℕ, ◌<◌, List, length, Some}
use Rattle.std.proofs.Common.{arith}
use Rattle.std.specs.Int.{w16, w32}
use Rattle.std.specs.List.{AllByRecursion}
use Rattle.std.proofs.lemmas.Int.{of_z-to_z}
use Rattle.octets.proofs.Numbers.{part16, part32, below16, below32}
use Rattle.element.specs.Readings.{reading_written, reading_value, reading_parts}
use Rattle.element.specs.Widths.{only_written, spelled}
use Rattle.element.specs.declared.reading.Reading.{Reading}

-- writing the fields of fourteen bytes gives these bytes
written_parts : (bs : List ℕ) → AllByRecursion (λ b. b < 256) bs → length bs ≡ 14 → reading_written (reading_parts bs) ≡ bs
written_parts bs all l =
    let whole = spelled 14 bs l in
    let time = part32 bs 0 all (omega arith) in
    let height = part32 bs 4 all (omega arith) in
    let h = of_z-to_z w32 _ (below32 bs 4 all (omega arith)) in
    let temperature = part16 bs 8 all (omega arith) in
    let t = of_z-to_z w16 _ (below16 bs 8 all (omega arith)) in
    let humidity = part16 bs 10 all (omega arith) in
    let pressure = part16 bs 12 all (omega arith) in
    cc

-- the only bytes that hold a reading are its own
pub reading_only : (bs : List ℕ) (e : Reading) → AllByRecursion (λ b. b < 256) bs → reading_value bs ≡ Some e → reading_written e ≡ bs
reading_only bs e all h = only_written 14 reading_parts reading_written bs e (written_parts bs all) h
