-- `hex_in`: the loop keeps that `bad` is below 16 exactly where all bytes that it has passed are digits, and
-- their value if they are. There are at most 16.
use Rattle.basics.proofs.Prelude.{◌≡◌, true, take}
use Rattle.basics.proofs.Prelude.{◌*◌, ◌^◌, ◌<◌, ltb}
use Rattle.script.specs.Numbers.{is_hex_digit, hex_value, all_bytes, value_from}
use Rattle.script.proofs.parse.hex_in.Given as goal

abbrev pub invariant-loop-byte : goal.invariant-loop-byte
invariant-loop-byte l =
    (ltb l.bad 16 ≡ all_bytes is_hex_digit (take l.byte-index l.text))
    × (all_bytes is_hex_digit (take l.byte-index l.text) ≡ true → l.value ≡ value_from hex_value 16 0 (take l.byte-index l.text)) ×
    (l.value < 2 ^ (4 * l.byte-index))
