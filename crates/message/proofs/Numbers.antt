-- The number of a message, by its words, and that it is the message's alone.
--
-- The number is head * 2 ^ 64 + low: the head is kind * 2 ^ 20 + tag, and low is the pair, or a counter in
-- the pair's place, or 0 (`number_words`). With a tag and a counter within their widths, `message_of` finds
-- the message again (`found`). Conversely each case of `message_of` has only numbers whose unused fields are
-- zero, so the message found has that very number (`only`).
-- Assumes nothing.
use Rattle.basics.proofs.Prelude.{◌≡◌, refl, sym, ap, ◌∙◌, subst, Bool, true, cond, ◌&&◌, ℕ, ◌+◌, ◌*◌, ◌/◌}
use Rattle.basics.proofs.Prelude.{◌%◌, ◌^◌, ◌<◌, arith, eqb, ltb, eqb-true, eq-eqb, ltb-true, lt-ltb}
use Rattle.std.specs.Prelude.{Ok}
use native.Mathlib.Nat.{mod-lt, mod-mod, mod-eq_of_lt}
use lib.Pow.{split, pow_pos, shl-shr, shr_lt}
use lib.Pow as pow
use Rattle.basics.proofs.Cases.{by_test, both, both_of}
use Rattle.message.specs.declared.Message.{Message}
use Rattle.message.specs.declared.Message.TheVariants.{GetInfo, Info, Done, WriteInfo, Fwd, WriteAck}
use Rattle.message.specs.Layout.{Unpacked}
use Rattle.message.specs.declared.Words.{Words}
use Rattle.message.specs.Pair.{counter_bits, client_bits, entry_bits, pair_bits, client_at, counter_at}
use Rattle.message.specs.Pair.{counter, client, entry}
use Rattle.message.specs.Layout.{tag_bits, head_bits, number_of, malformed, message_of, well_formed}
use Rattle.message.specs.Layout.{words, words_number, words_of}
use Rattle.message.proofs.Fields.{case, by_words, by_words_lem}

-- ---- the words of a message

abbrev pub head_of : Message → ℕ
head_of (GetInfo tag) = 1 * 2 ^ tag_bits + tag.0 % 2 ^ tag_bits
head_of (Info tag pair) = 2 * 2 ^ tag_bits + tag.0 % 2 ^ tag_bits
head_of Done = 3 * 2 ^ tag_bits
head_of (WriteInfo pair) = 4 * 2 ^ tag_bits
head_of (Fwd pair) = 5 * 2 ^ tag_bits
head_of (WriteAck count) = 6 * 2 ^ tag_bits

abbrev pub low_of : Message → ℕ
low_of (GetInfo tag) = 0
low_of (Info tag pair) = pair.0 % 2 ^ pair_bits
low_of Done = 0
low_of (WriteInfo pair) = pair.0 % 2 ^ pair_bits
low_of (Fwd pair) = pair.0 % 2 ^ pair_bits
low_of (WriteAck count) = count.0 % 2 ^ counter_bits * 2 ^ counter_at

-- the fields of a pair, each in its place, are the pair's last 64 bits
pair_bits_lem : (x : ℕ)
    → x / 2 ^ counter_at % 2 ^ counter_bits * 2 ^ counter_at
    + x / 2 ^ client_at % 2 ^ client_bits % 2 ^ client_bits * 2 ^ client_at
    + x % 2 ^ entry_bits % 2 ^ entry_bits * 2 ^ 0
    ≡ x % 2 ^ pair_bits
pair_bits_lem x = rw (mod-mod (x / 2 ^ client_at) (2 ^ client_bits), mod-mod x (2 ^ entry_bits)) (omega arith)

-- the number of a message by its words, and the words within their widths
record ByWords (message : Message) : Type 0 where
  number : number_of message ≡ head_of message * 2 ^ pair_bits + low_of message
  head : head_of message < 2 ^ head_bits
  low : low_of message < 2 ^ pair_bits

by_its_words : (message : Message) → ByWords message
unfolding number_of counter client entry
by_its_words (GetInfo tag) = record { number = omega arith; head = omega arith; low = omega arith }
by_its_words (Info tag pair) =
    record { number = omega (arith, pair_bits_lem pair.0); head = omega arith; low = omega arith }
by_its_words Done = record { number = omega arith; head = omega arith; low = omega arith }
by_its_words (WriteInfo pair) =
    record { number = omega (arith, pair_bits_lem pair.0); head = omega arith; low = omega arith }
by_its_words (Fwd pair) =
    record { number = omega (arith, pair_bits_lem pair.0); head = omega arith; low = omega arith }
by_its_words (WriteAck count) = record { number = omega arith; head = omega arith; low = omega arith }

pub number_words : (message : Message) → number_of message ≡ head_of message * 2 ^ pair_bits + low_of message
number_words message = (by_its_words message).number

pub head_lt : (message : Message) → head_of message < 2 ^ head_bits
head_lt message = (by_its_words message).head

pub low_lt : (message : Message) → low_of message < 2 ^ pair_bits
low_lt message = (by_its_words message).low

-- ---- a message within its widths is found again

-- a head of a kind and a tag
of_head : (kind tag low : ℕ) → tag < 2 ^ tag_bits
    → by_words ((kind * 2 ^ tag_bits + tag) / 2 ^ tag_bits) ((kind * 2 ^ tag_bits + tag) % 2 ^ tag_bits) low
    ≡ by_words kind tag low
of_head kind tag low h = rw (pow.high kind tag_bits h, pow.low kind tag_bits h)

-- what is tested to be below a number is its own remainder
whole : (x n : ℕ) → ltb x n ≡ true → x % n ≡ x
whole x n w = mod-eq_of_lt (ltb-true x n w)

by_head : (message : Message) → well_formed message ≡ true
    → by_words (head_of message / 2 ^ tag_bits) (head_of message % 2 ^ tag_bits) (low_of message) ≡ Ok message
unfolding well_formed by_words
by_head (GetInfo tag) w =
    of_head 1 (tag.0 % 2 ^ tag_bits) 0 (mod-lt tag.0 (pow_pos tag_bits))
    ∙ ap (λ (tag : ℕ). Ok (GetInfo (record { 0 = tag }))) (whole tag.0 (2 ^ tag_bits) w)
by_head (Info tag pair) w =
    let b = both (ltb tag.0 (2 ^ tag_bits)) (ltb pair.0 (2 ^ pair_bits)) w in
    let low = pair.0 % 2 ^ pair_bits in
    of_head 2 (tag.0 % 2 ^ tag_bits) (pair.0 % 2 ^ pair_bits) (mod-lt tag.0 (pow_pos tag_bits))
    ∙ ap (λ (tag : ℕ). Ok (Info (record { 0 = tag }) (record { 0 = low })))
    (whole tag.0 (2 ^ tag_bits) b.0)
    ∙ ap (λ (low : ℕ). Ok (Info tag (record { 0 = low }))) (whole pair.0 (2 ^ pair_bits) b.1)
by_head Done w = refl
by_head (WriteInfo pair) w =
    ap (λ (low : ℕ). Ok (WriteInfo (record { 0 = low }))) (whole pair.0 (2 ^ pair_bits) w)
by_head (Fwd pair) w = ap (λ (low : ℕ). Ok (Fwd (record { 0 = low }))) (whole pair.0 (2 ^ pair_bits) w)
by_head (WriteAck count) w =
    rw (
      whole count.0 (2 ^ counter_bits) w,
      eq-eqb (count.0 * 2 ^ counter_at % 2 ^ counter_at) 0 (omega arith),
    ) (ap (λ (n : ℕ). Ok (WriteAck (record { 0 = n }))) (shl-shr count.0 counter_at))

pub found : (message : Message) → well_formed message ≡ true → message_of (number_of message) ≡ Ok message
found message w =
    ap message_of (number_words message) ∙ by_words_lem (head_of message) (low_of message) (low_lt message)
    ∙ by_head message w

-- ---- the message found has that number

pub no_message : (message : Message) → malformed ≡ Ok message → ⊥
no_message message e = let z : ◌≡◌ {A = ℕ} 0 1 = cc in omega arith

-- what is true of the message of each kind is true of the message found
by_case : (P : Message → Type 0) (kind expected : ℕ) (fine : Bool) (this : Message) (other : Unpacked)
    (message : Message)
    → case kind expected fine this other ≡ Ok message → (kind ≡ expected → fine ≡ true → P this)
    → (other ≡ Ok message → P message) → P message
by_case P kind expected fine this other message e holds next =
    by_test (eqb kind expected)
    (λ same. let e' : cond fine (Ok this) malformed ≡ Ok message = rw same at e in
    by_test fine (λ f. let g : Ok this ≡ Ok message = rw f at e' in
    subst P (cc) (holds (eqb-true kind expected same) f)) (λ f. absurd (no_message message (rw f at e'))))
    (λ differ. next (rw differ at e))

-- what is true of the message found for a number
pub record Found (n : ℕ) (message : Message) : Type 0 where
  pub number : number_of message ≡ n
  pub within : well_formed message ≡ true

-- kind, tag and low bits as one number
abbrev three : ℕ → ℕ → ℕ → ℕ
three kind tag low = (kind * 2 ^ tag_bits + tag) * 2 ^ pair_bits + low

module _ (kind tag low : ℕ) (narrow : tag < 2 ^ tag_bits) (small : low < 2 ^ pair_bits) where
  get_info : kind ≡ 1 → eqb low 0 ≡ true → Found (three kind tag low) (GetInfo (record { 0 = tag }))
  unfolding number_of well_formed
  get_info a z =
      let z' = eqb-true low 0 z in record { number = omega arith; within = lt-ltb tag (2 ^ tag_bits) narrow }

  info : kind ≡ 2 → Found (three kind tag low) (Info (record { 0 = tag }) (record { 0 = low }))
  unfolding well_formed
  info a =
      record {
        number = number_words (Info (record { 0 = tag }) (record { 0 = low })) ∙ omega arith;
        within = both_of (ltb tag (2 ^ tag_bits)) (ltb low (2 ^ pair_bits)) (lt-ltb tag (2 ^ tag_bits) narrow)
            (lt-ltb low (2 ^ pair_bits) small);
      }

  done : kind ≡ 3 → eqb tag 0 && eqb low 0 ≡ true → Found (three kind tag low) Done
  unfolding number_of well_formed
  done a z =
      let p = both (eqb tag 0) (eqb low 0) z in
      let tz = eqb-true tag 0 p.0 in
      let lz = eqb-true low 0 p.1 in
      record { number = omega arith; within = refl }

  write_info : kind ≡ 4 → eqb tag 0 && true ≡ true
      → Found (three kind tag low) (WriteInfo (record { 0 = low }))
  unfolding well_formed
  write_info a z =
      let tz = eqb-true tag 0 (both (eqb tag 0) true z).0 in
      let n = number_words (WriteInfo (record { 0 = low })) in
      record { number = n ∙ omega arith; within = lt-ltb low (2 ^ pair_bits) small }

  fwd : kind ≡ 5 → eqb tag 0 && true ≡ true → Found (three kind tag low) (Fwd (record { 0 = low }))
  unfolding well_formed
  fwd a z =
      let tz = eqb-true tag 0 (both (eqb tag 0) true z).0 in
      record {
        number = number_words (Fwd (record { 0 = low })) ∙ omega arith;
        within = lt-ltb low (2 ^ pair_bits) small;
      }

  write_ack : kind ≡ 6 → eqb tag 0 && eqb (low % 2 ^ counter_at) 0 ≡ true
      → Found (three kind tag low) (WriteAck (record { 0 = low / 2 ^ counter_at }))
  unfolding well_formed
  write_ack a z =
      let p = both (eqb tag 0) (eqb (low % 2 ^ counter_at) 0) z in
      let tz = eqb-true tag 0 p.0 in
      let rz = eqb-true (low % 2 ^ counter_at) 0 p.1 in
      record {
        number = number_words (WriteAck (record { 0 = low / 2 ^ counter_at })) ∙ omega arith;
        within = lt-ltb (low / 2 ^ counter_at) (2 ^ counter_bits) (shr_lt counter_bits counter_at small);
      }

  by_kind : (message : Message) → by_words kind tag low ≡ Ok message → Found (three kind tag low) message
  unfolding by_words
  by_kind message e =
      let P : Message → Type 0 = Found (three kind tag low) in
      by_case P kind 1 _ _ _ message e get_info (λ e. by_case P kind 2 true _ _ message e (λ a z. info a)
      (λ e. by_case P kind 3 _ _ _ message e done (λ e. by_case P kind 4 _ _ _ message e write_info
      (λ e. by_case P kind 5 _ _ _ message e fwd
      (λ e. by_case P kind 6 _ _ _ message e write_ack (λ e. absurd (no_message message e)))))))

pub only : (n : ℕ) (message : Message) → message_of n ≡ Ok message → Found n message
only n message e =
    let head = n / 2 ^ pair_bits in
    let low = n % 2 ^ pair_bits in
    let small : low < 2 ^ pair_bits = mod-lt n (pow_pos pair_bits) in
    let back : three (head / 2 ^ tag_bits) (head % 2 ^ tag_bits) low ≡ n =
    ap (λ (x : ℕ). x * 2 ^ pair_bits + low) (split head tag_bits) ∙ split n pair_bits in
    subst (λ (x : ℕ). Found x message) back
    (by_kind (head / 2 ^ tag_bits) (head % 2 ^ tag_bits) low (mod-lt head (pow_pos tag_bits)) small message
    (sym (by_words_lem head low small) ∙ ap message_of (split n pair_bits) ∙ e))

-- ---- the words

pub words_back : (head low : ℕ) → low < 2 ^ pair_bits
    → ◌≡◌ {A = Words} (record { 0 = head; 1 = low }) (words (head * 2 ^ pair_bits + low))
words_back head low small =
    let a = sym (pow.high head pair_bits small) in
    let b = sym (pow.low head pair_bits small) in
    λ i. record { 0 = a i; 1 = b i }

pub words_are : (message : Message) (head low : ℕ) → head ≡ head_of message → low ≡ low_of message
    → ◌≡◌ {A = Words} (record { 0 = head; 1 = low }) (words_of message)
unfolding words_of
words_are message head low p q =
    ap (λ (x : ℕ). record { 0 = x; 1 = low }) p ∙ ap (λ (x : ℕ). record { 0 = head_of message; 1 = x }) q
    ∙ words_back (head_of message) (low_of message) (low_lt message) ∙ ap words (sym (number_words message))

pub words_number_lem : (message : Message) → words_number (words_of message) ≡ number_of message
unfolding words_of
words_number_lem message = split (number_of message) pair_bits
