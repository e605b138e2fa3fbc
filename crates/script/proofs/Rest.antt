-- The rest of a line from a place on: a number and a blank, a last number, a message.
--
-- Why: the bytes of a number are digits and those of a message hexadecimal digits, so neither a blank nor a
-- line's end is among them (`past`, `behind_past`). So behind a number and its blank the line goes on as from
-- there (`then_number`), and it ends where a newline stands behind a last number or a message.
-- Assumes nothing.
use Rattle.basics.proofs.Prelude.{◌≡◌, refl, ap, ◌∙◌, Bool, true, false, ◌&&◌, List, [], ◌∷◌, ◌++◌}
use Rattle.basics.proofs.Prelude.{append-nil, length, get_or, drop, length-append, ℕ, ◌+◌, ◌-◌, ◌≤◌, ◌<◌}
use Rattle.basics.proofs.Prelude.{arith, eqb, leb, eq-eqb, ne_eqb}
use Rattle.std.specs.Prelude.{Option, Some, None}
use lib.ListN.{take-append-drop}
use lib.Seq.{drop-drop}
use Rattle.basics.proofs.Cases.{by_test, both, true_or_false, clash}
use Rattle.script.specs.declared.parse.Line.{Line}
use Rattle.script.specs.Numbers.{is_digit, is_hex_digit, all_bytes, number_in, hex_in, message_digits}
use Rattle.script.specs.Lines.{up_to, behind, part, line_end, newline}
use Rattle.script.specs.Grammar.{number_then, message_after}
use Rattle.script.specs.Next.{rest_at, Short, Lie}
use Rattle.script.proofs.Halves.{hex_value_lem}
use Rattle.script.proofs.Short.{one_byte, next_most}

-- ---- a search goes past bytes of one kind

module _ (test : ℕ → Bool) (stop : ℕ) (mark : test stop ≡ false) where
  other : (byte : ℕ) → test byte ≡ true → eqb byte stop ≡ false
  other byte e = ne_eqb byte stop (λ q. true_or_false (test stop) (rw q at e) mark)

  past : (word rest : List ℕ) → all_bytes test word ≡ true → up_to stop (word ++ rest) ≡ word ++ up_to stop rest
  unfolding up_to all_bytes
  past [] rest e = refl
  past (byte ∷ word) rest e =
      let tests = both (test byte) (all_bytes test word) e in
      rw (other byte tests.0) (ap (λ (bytes : List ℕ). byte ∷ bytes) (past word rest tests.1))

  behind_past : (word rest : List ℕ) → all_bytes test word ≡ true
      → behind stop (word ++ rest) ≡ behind stop rest
  unfolding behind all_bytes
  behind_past [] rest e = refl
  behind_past (byte ∷ word) rest e =
      let tests = both (test byte) (all_bytes test word) e in
      rw (other byte tests.0) (behind_past word rest tests.1)

  -- the stop stands behind them
  up_to_mark : (word rest : List ℕ) → all_bytes test word ≡ true → up_to stop (word ++ stop ∷ rest) ≡ word
  unfolding up_to
  up_to_mark word rest e = past word (stop ∷ rest) e ∙ rw (eq-eqb stop stop refl) (append-nil word)

-- ---- a number and what stands behind it

number_digits : (word : List ℕ) (value : ℕ) → number_in word ≡ Some value → all_bytes is_digit word ≡ true
unfolding number_in
number_digits word value e =
    by_test (leb 1 (length word) && leb (length word) 7 && all_bytes is_digit word)
    (λ t. (both (leb 1 (length word) && leb (length word) 7) (all_bytes is_digit word) t).1)
    (λ t. let q = rw t at e in clash cc)

module _ {text : List ℕ} {at value next : ℕ} (short : Short text at 32 value next) where
  digits : all_bytes is_digit short.word ≡ true
  digits = number_digits short.word value short.number

  rest_is : rest_at text at ≡ short.word ++ 32 ∷ rest_at text next
  unfolding up_to
  rest_is = rw short.bytes (past is_digit newline refl short.word (32 ∷ drop next text) digits)

  pub then_number : (line : ℕ → List ℕ → Option Line)
      → number_then (rest_at text at) line ≡ line value (rest_at text next)
  unfolding behind
  then_number line =
      let word : up_to 32 (rest_at text at) ≡ short.word =
      ap (up_to 32) rest_is ∙ up_to_mark is_digit 32 refl short.word (rest_at text next) digits in
      let rest : behind 32 (rest_at text at) ≡ Some (rest_at text next) =
      ap (behind 32) rest_is ∙ behind_past is_digit 32 refl short.word (32 ∷ rest_at text next) digits in
      rw (rest, word, short.number) refl

  pub then_ends : line_end text at ≡ line_end text next
  then_ends =
      omega (arith, short.behind, ap length rest_is, length-append short.word (32 ∷ rest_at text next))

module _ {text : List ℕ} {at value last : ℕ} (short : Short text at newline value last) where
  last_is : rest_at text at ≡ short.word
  last_is =
      rw short.bytes (up_to_mark is_digit newline refl short.word (drop last text)
      (number_digits short.word value short.number))

  pub last_number_lem : number_in (rest_at text at) ≡ Some value
  last_number_lem = ap number_in last_is ∙ short.number

  pub last_ends : line_end text at ≡ last - 1
  last_ends = omega (arith, short.behind, ap length last_is)

  pub last_few : last - 1 ≤ at + 2
  last_few = omega (arith, short.behind, short.few)

-- ---- a message

-- by what a reader read
by_read : {A : Type 0} (told : Option ℕ) → (told ≡ None → A) → ((value : ℕ) → told ≡ Some value → A) → A
by_read None none read = none refl
by_read (Some value) none read = read value refl

module _
    (text : List ℕ)
    (k d at : ℕ)
    (line : Line) (room : at + message_digits < length text)
    (mark : get_or text (at + message_digits) 0 ≡ newline)
    (is : message_after k d (part text at (at + message_digits)) ≡ Some line)
  where
    abbrev word : List ℕ
    word = part text at (at + message_digits)

    hexadecimal : (length word ≡ message_digits) × (all_bytes is_hex_digit word ≡ true)
    hexadecimal =
        by_read (hex_in message_digits word) (λ e. let q = rw e at is in clash cc)
        (λ value e. let h = hex_value_lem message_digits word value e in (h.0, h.2))

    message_is : rest_at text at ≡ word
    message_is =
        let far : at + (at + message_digits - at) ≡ at + message_digits = omega arith in
        let bytes : drop at text ≡ word ++ newline ∷ drop (at + message_digits + 1) text =
        cc (
          take-append-drop (at + message_digits - at) (drop at text),
          drop-drop (at + message_digits - at) at text,
          far,
          one_byte text (at + message_digits) room,
          mark,
        ) in
        cc (
          bytes,
          up_to_mark is_hex_digit newline refl word (drop (at + message_digits + 1) text) hexadecimal.1,
        )

    message_ends : line_end text at ≡ at + message_digits
    message_ends = ap (λ (n : ℕ). at + n) (ap length message_is ∙ hexadecimal.0)

    pub lie_is : {start : ℕ} → Short text start 32 d at
        → Lie text k start (record { end = at + message_digits; line = Some line })
    lie_is first =
        record {
          ends = then_ends first ∙ message_ends;
          few = omega (arith, next_most first);
          says = then_number first (message_after k) ∙ ap (message_after k d) message_is ∙ is;
        }
