-- `number_in`: the loop keeps the value of the digits that it has passed.
use Rattle.basics.proofs.Prelude.{◌≡◌, true, take, ◌*◌, ◌^◌}
use Rattle.basics.proofs.Prelude.{◌<◌}
use Rattle.script.specs.Numbers.{is_digit, digit_value, all_bytes, value_from}
use Rattle.script.proofs.parse.number_in.Given as goal

abbrev pub invariant-loop-byte : goal.invariant-loop-byte
invariant-loop-byte l =
    (all_bytes is_digit (take l.byte-index l.text) ≡ true) ×
    (l.value ≡ value_from digit_value 10 0 (take l.byte-index l.text)) × (l.value < 2 ^ (4 * l.byte-index))
