-- A line's number with its text, kept from one line to the next.
--
-- In order: the next number; the digits that are kept; the numeral of a number.
-- Assumes nothing.
use Rattle.std.specs.Prelude.{ℕ, ◌+◌, ◌-◌, ◌/◌, ◌%◌, ◌^◌, cond, ◌&&◌, List, [], ltb, length, replicate}
use Rattle.script.specs.declared.print.Numeral.{Numeral}
use Rattle.script.specs.Numbers.{decimal}
use Rattle.script.specs.Writing.{written}

-- no script counts further than 64 bits go
abbrev pub next_number : ℕ → ℕ
next_number n = cond (ltb n (2 ^ 64 - 1)) (n + 1) n

-- the digits of the hundreds, n / 100, are kept of a number n of 3 to 8 digits: they are 1 to 6
unfoldable pub kept_digits : ℕ → List ℕ
kept_digits hundreds = cond (ltb 0 hundreds && ltb hundreds 1000000) (decimal hundreds) []

-- the numeral of a number: the digits of its hundreds at the start of eight bytes, how many they are, and the
-- number of its last two
unfoldable pub numeral_of : ℕ → Numeral
numeral_of n = record {
  number = n;
  text = written (replicate 8 0) 0 (kept_digits (n / 100));
  kept = length (kept_digits (n / 100));
  last_two = n % 100;
}
