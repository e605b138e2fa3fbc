-- Joining and splitting undo each other on numbers of forty bits and on fields within their widths.
--
-- The five fields of a number below 2 ^ 40 are its digits in a mixed base, so they give it back
-- (`join_split`), and fields within their widths are the digits of what they are joined to (`split_join`).
-- What is split is within its widths (`fields_narrow`), and what is joined has forty bits (`joined_small`).
-- Assumes nothing.
use Rattle.basics.proofs.Prelude.{◌≡◌, ℕ, ◌+◌, ◌*◌, ◌%◌, ◌^◌, ◌<◌, arith}
use native.Mathlib.Nat.{div-one, mod-lt}
use lib.Pow.{pow_pos, mod-pow-add, recompose}
use Rattle.basics.specs.Fields.{Place, field}
use Rattle.licence.specs.declared.Fields.{Fields}
use Rattle.licence.specs.Entry.{fields_of, joined, Narrow, entry_bits}
use Rattle.licence.specs.Entry.{year_place, month_place, day_place, copies_place, state_place}

module _ (fields : Fields) (narrow : Narrow fields) where
  pub joined_small : joined fields < 2 ^ entry_bits
  joined_small = omega arith

  pub split_join : fields_of (joined fields) ≡ fields
  split_join =
      λ i. record {
        year = (let e : field year_place (joined fields) ≡ fields.year = omega arith in e) i;
        month = (let e : field month_place (joined fields) ≡ fields.month = omega arith in e) i;
        day = (let e : field day_place (joined fields) ≡ fields.day = omega arith in e) i;
        copies = (let e : field copies_place (joined fields) ≡ fields.copies = omega arith in e) i;
        state = (let e : field state_place (joined fields) ≡ fields.state = omega arith in e) i;
      }

-- omega takes each quotient and remainder apart by itself, so here they are variables
chain : (number year month day copies state rest₁ rest₂ rest₃ : ℕ) → year * 2 ^ 28 + rest₁ ≡ number
    → rest₁ ≡ month * 2 ^ 24 + rest₂ → rest₂ ≡ day * 2 ^ 19 + rest₃ → rest₃ ≡ copies * 2 ^ 3 + state
    → year * 2 ^ 28 + month * 2 ^ 24 + day * 2 ^ 19 + copies * 2 ^ 3 + state * 2 ^ 0 ≡ number
chain number year month day copies state rest₁ rest₂ rest₃ p q r t = omega arith

pub join_split : (number : ℕ) → number < 2 ^ entry_bits → joined (fields_of number) ≡ number
join_split number h =
    rw (div-one number)
    (chain number _ _ _ _ _ (number % 2 ^ 28) (number % 2 ^ 24) (number % 2 ^ 19) (recompose 12 28 h)
    (mod-pow-add number 4 24) (mod-pow-add number 5 19) (mod-pow-add number 16 3))

field_narrow : (place : Place) (number : ℕ) → field place number < 2 ^ place.width
field_narrow place number = mod-lt _ (pow_pos place.width)

pub fields_narrow : (number : ℕ) → Narrow (fields_of number)
fields_narrow number =
    record {
      year = field_narrow year_place number;
      month = field_narrow month_place number;
      day = field_narrow day_place number;
      copies = field_narrow copies_place number;
      state = field_narrow state_place number;
    }
