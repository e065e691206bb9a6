-- Bytes that hold ozone are the bytes of that ozone.
use Rattle.std.specs.Prelude.{◌≡◌, ℕ, ◌<◌, List, length, Some}
use Rattle.std.proofs.Common.{arith}
use Rattle.std.specs.Int.{w16}
use Rattle.std.specs.List.{AllByRecursion}
use Rattle.std.proofs.lemmas.Int.{of_z-to_z}
use Rattle.octets.proofs.Numbers.{part16, part32, below16}
use Rattle.element.specs.Ozones.{ozone_written, ozone_value, ozone_parts}
use Rattle.element.specs.Widths.{only_written, spelled}
use Rattle.element.specs.declared.ozone.Ozone.{Ozone}

-- writing the fields of eight bytes gives these bytes
written_parts : (bs : List ℕ) → AllByRecursion (λ b. b < 256) bs → length bs ≡ 8 → ozone_written (ozone_parts bs) ≡ bs
written_parts bs all l =
    let whole = spelled 8 bs l in
    let time = part32 bs 0 all (omega arith) in
    let pressure = part16 bs 4 all (omega arith) in
    let temperature = part16 bs 6 all (omega arith) in
    let t = of_z-to_z w16 _ (below16 bs 6 all (omega arith)) in
    cc

-- the only bytes that hold ozone are its own
pub ozone_only : (bs : List ℕ) (e : Ozone) → AllByRecursion (λ b. b < 256) bs → ozone_value bs ≡ Some e → ozone_written e ≡ bs
ozone_only bs e all h = only_written 8 ozone_parts ozone_written bs e (written_parts bs all) h
