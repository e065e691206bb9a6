-- Bytes that hold a wind are the bytes of that wind.
use Rattle.std.specs.Prelude.{◌≡◌, ℕ, ◌<◌, List, length, Some}
use Rattle.std.proofs.Common.{arith}
use Rattle.std.specs.List.{AllByRecursion}
use Rattle.octets.proofs.Numbers.{part16, part32}
use Rattle.element.specs.Widths.{only_written, spelled}
use Rattle.element.specs.Winds.{wind_written, wind_value, wind_parts}
use Rattle.element.specs.declared.wind.Wind.{Wind}

-- writing the fields of eight bytes gives these bytes
written_parts : (bs : List ℕ) → AllByRecursion (λ b. b < 256) bs → length bs ≡ 8 → wind_written (wind_parts bs) ≡ bs
written_parts bs all l =
    let whole = spelled 8 bs l in
    let time = part32 bs 0 all (omega arith) in
    let direction = part16 bs 4 all (omega arith) in
    let speed = part16 bs 6 all (omega arith) in
    cc

-- the only bytes that hold a wind are its own
pub wind_only : (bs : List ℕ) (e : Wind) → AllByRecursion (λ b. b < 256) bs → wind_value bs ≡ Some e → wind_written e ≡ bs
wind_only bs e all h = only_written 8 wind_parts wind_written bs e (written_parts bs all) h
