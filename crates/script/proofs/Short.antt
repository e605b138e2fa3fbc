-- One or two digits with a mark behind them, read at a place.
--
-- In order: the number of one or two digits; the word, the mark and the place behind it; where that
-- place is.
-- Assumes nothing.
use Rattle.basics.proofs.Prelude.{◌≡◌, refl, sym, ap, ◌∙◌, Bool, true, false, List, ◌∷◌, ◌++◌, length}
use Rattle.basics.proofs.Prelude.{get_or, drop, ℕ, ◌+◌, ◌≤◌, ◌<◌, add-one, arith}
use Rattle.std.specs.Prelude.{Some}
use lib.Seq.{drop-cons}
use mir.Val.{bool_byte}
use Rattle.basics.proofs.Cases.{by_test}
use Rattle.script.specs.Numbers.{is_digit, all_bytes, number_in}
use Rattle.script.specs.Next.{short_word, short_value, Short}

word_number : (byte second : ℕ) → is_digit byte ≡ true
    → number_in (short_word byte second) ≡ Some (short_value byte second)
unfolding number_in all_bytes
word_number byte second e = by_test (is_digit second) (λ two. rw (two, e, two) refl) (λ two. rw (two, e) refl)

-- a byte more, if the test holds
pub more_le : (t : Bool) → bool_byte t ≤ 1
more_le true = omega arith
more_le false = omega arith

pub one_byte : (text : List ℕ) (i : ℕ) → i < length text → drop i text ≡ get_or text i 0 ∷ drop (i + 1) text
one_byte text i h = rw (add-one i) (drop-cons text i 0 h)

module _
    (text : List ℕ)
    (at mark : ℕ)
    (room : at + 3 ≤ length text)
    (digit : is_digit (get_or text at 0) ≡ true)
  where
    abbrev byte : ℕ
    byte = get_or text at 0

    abbrev second : ℕ
    second = get_or text (at + 1) 0

    -- `two` says whether the second byte is a digit too
    word_length : (two : Bool) → two ≡ is_digit second → length (short_word byte second) ≡ 1 + bool_byte two
    word_length true e = rw (← e) refl
    word_length false e = rw (← e) refl

    word_bytes : (two : Bool) → two ≡ is_digit second → get_or text (at + 1 + bool_byte two) 0 ≡ mark
        → drop at text ≡ short_word byte second ++ mark ∷ drop (at + 1 + bool_byte two + 1) text
    word_bytes true e is =
        rw (← e)
        (one_byte text at (omega arith)
        ∙ ap (λ (rest : List ℕ). byte ∷ rest) (one_byte text (at + 1) (omega arith))
        ∙ ap (λ (rest : List ℕ). byte ∷ second ∷ rest) (one_byte text (at + 1 + 1) (omega arith))
        ∙ ap (λ (n : ℕ). byte ∷ second ∷ n ∷ drop (at + 1 + 1 + 1) text) is)
    word_bytes false e is =
        let here : at + 1 ≡ at + 1 + 0 = omega arith in
        rw (← e)
        (one_byte text at (omega arith)
        ∙ ap (λ (n : ℕ). byte ∷ drop n text) here
        ∙ ap (λ (rest : List ℕ). byte ∷ rest) (one_byte text (at + 1 + 0) (omega arith))
        ∙ ap (λ (n : ℕ). byte ∷ n ∷ drop (at + 1 + 0 + 1) text) is)

    pub short_is : (two : Bool) → two ≡ is_digit second → get_or text (at + 1 + bool_byte two) 0 ≡ mark
        → (value : ℕ) → value ≡ short_value byte second
        → Short text at mark value (at + 1 + bool_byte two + 1)
    short_is two e is value is_value =
        let long = word_length two e in
        let few = more_le two in
        record {
          word = short_word byte second;
          few = omega arith;
          number = word_number byte second digit ∙ ap Some (sym is_value);
          bytes = word_bytes two e is;
          behind = omega arith;
        }

-- ---- where that place is

module _ {text : List ℕ} {at mark value next : ℕ} (short : Short text at mark value next) where
  pub next_most : next ≤ at + 3
  next_most = omega (arith, short.behind, short.few)
