-- Numbers as bytes and back.
--
-- The last k bytes of a number spell its remainder by 256 ^ k (`spelt_back`), and bytes are the bytes of
-- the number that they spell (`bytes_back`): both by induction, since a byte in front is a digit to the
-- base 256 above what the others spell (`spelt_split`, `spelt_lt`). Bytes of a number in two parts are
-- those of the parts (`bytes_join`), also where they are read from a list or stored in one (`spelt_two`,
-- `sets_two`).
-- Assumes nothing.
use Rattle.basics.proofs.Prelude.{◌≡◌, refl, sym, ap, ◌∙◌, true, List, [], ◌∷◌, ◌++◌, length, get_or}
use Rattle.basics.proofs.Prelude.{set, take, drop, length-drop, length-take-le, ℕ, zero, suc, ◌+◌, ◌-◌}
use Rattle.basics.proofs.Prelude.{◌*◌, ◌/◌, ◌%◌, ◌^◌, ◌≤◌, ◌<◌, add-zero, zero-add, arith, ltb}
use Rattle.basics.proofs.Prelude.{ltb-true, lt-ltb}
use native.Mathlib.Nat.{pow-zero, pow-succ', mul_assoc, add_assoc, zero-mul, add-mul, add_comm}
use native.Mathlib.Nat.{add-suc, suc-add, mod-lt, mod-eq_of_lt, mul-add-div_right}
use native.Mathlib.Nat.{mul-add-mod_self_right, div-div-eq-div-mul}
use lib.Arith.{digits_lt, digits_div, digits_mod, mod-mul}
use lib.Pow.{are_bytes, pow-add}
use lib.Seq.{sets, take-suc, get_or-drop, take-add, drop-drop}
use Rattle.basics.specs.Bytes.{big_endian, spelt}
use Rattle.basics.proofs.Cases.{both, both_of}

pub pow_256 : (k : ℕ) → 256 ^ k ≡ 2 ^ (8 * k)
pow_256 zero = refl
pow_256 (suc k) =
    pow-succ' 256 k ∙ ap (λ (n : ℕ). 256 * n) (pow_256 k) ∙ sym (pow-add 2 8 (8 * k))
    ∙ ap (λ (n : ℕ). 2 ^ n) (omega arith)

pos_256 : (k : ℕ) → 0 < 256 ^ k
pos_256 zero = rw (pow-zero 256) (omega arith)
pos_256 (suc k) = rw (pow-succ' 256 k) (omega (arith, pos_256 k))

-- ---- lists of bytes

pub are_bytes_lem : (bytes : List ℕ) → ((i : ℕ) → get_or bytes i 0 < 256) → are_bytes bytes ≡ true
are_bytes_lem [] small = refl
are_bytes_lem (byte ∷ bytes) small =
    both_of (ltb byte 256) (are_bytes bytes) (lt-ltb byte 256 (small 0)) (are_bytes_lem bytes (λ i. small (suc i)))

pub bytes_length : (k number : ℕ) → length (big_endian k number) ≡ k
unfolding big_endian
bytes_length zero number = refl
bytes_length (suc k) number = ap suc (bytes_length k number)

pub bytes_are : (k number : ℕ) → are_bytes (big_endian k number) ≡ true
unfolding big_endian
bytes_are zero number = refl
bytes_are (suc k) number =
    both_of (ltb (number / 256 ^ k % 256) 256) (are_bytes (big_endian k number))
    (lt-ltb (number / 256 ^ k % 256) 256 (mod-lt (number / 256 ^ k) (omega arith))) (bytes_are k number)

-- ---- a number, its bytes, the number that they spell

pub spelt_back : (k before number : ℕ)
    → spelt before (big_endian k number) ≡ before * 256 ^ k + number % 256 ^ k
unfolding spelt big_endian
spelt_back zero before number = rw (pow-zero 256) (omega arith)
spelt_back (suc k) before number =
    spelt_back k (before * 256 + number / 256 ^ k % 256) number
    ∙ rw (pow-succ' 256 k, mod-mul number {m = 256} {c = 256 ^ k} (omega arith) (pos_256 k))
    (simp (add-mul, mul_assoc, add_assoc))

-- a number of k bytes is spelt by them
pub spelt_is : (k number : ℕ) → number < 256 ^ k → spelt 0 (big_endian k number) ≡ number
spelt_is k number h = spelt_back k 0 number ∙ rw (zero-mul, zero-add) (mod-eq_of_lt h)

-- ---- bytes, the number that they spell, its bytes

-- what bytes spell behind a, and alone
pub spelt_split : (before : ℕ) (bytes : List ℕ)
    → spelt before bytes ≡ before * 256 ^ length bytes + spelt 0 bytes
unfolding spelt
spelt_split before [] = rw (pow-zero 256) (omega arith)
spelt_split before (byte ∷ bytes) =
    spelt_split (before * 256 + byte) bytes
    ∙ rw (spelt_split (0 * 256 + byte) bytes, pow-succ' 256 (length bytes))
    (simp (add-mul, mul_assoc, add_assoc, zero-mul, zero-add))

pub spelt_lt : (bytes : List ℕ) → are_bytes bytes ≡ true → spelt 0 bytes < 256 ^ length bytes
unfolding spelt
spelt_lt [] small = rw (pow-zero 256) (omega arith)
spelt_lt (byte ∷ bytes) small =
    let p = both (ltb byte 256) (are_bytes bytes) small in
    rw (spelt_split (0 * 256 + byte) bytes, pow-succ' 256 (length bytes), zero-mul, zero-add)
    (digits_lt (ltb-true byte 256 p.0) (spelt_lt bytes p.1))

pub bytes_back : (before : ℕ) (bytes : List ℕ) → are_bytes bytes ≡ true
    → big_endian (length bytes) (spelt before bytes) ≡ bytes
unfolding spelt big_endian
bytes_back before [] small = refl
bytes_back before (byte ∷ bytes) small =
    let p = both (ltb byte 256) (are_bytes bytes) small in
    let q : spelt (before * 256 + byte) bytes / 256 ^ length bytes ≡ before * 256 + byte =
    rw (spelt_split (before * 256 + byte) bytes) (digits_div (before * 256 + byte) (spelt_lt bytes p.1)) in
    rw (q, digits_mod before (ltb-true byte 256 p.0), bytes_back (before * 256 + byte) bytes p.1)

-- ---- a number in two parts

-- what stands before the last k bytes does not show in them
low_bytes : (k high low : ℕ) → big_endian k (high * 256 ^ k + low) ≡ big_endian k low
unfolding big_endian
low_bytes zero high low = refl
low_bytes (suc k) high low =
    let e : high * 256 ^ suc k + low ≡ high * 256 * 256 ^ k + low =
    rw (pow-succ' 256 k, mul_assoc high 256 (256 ^ k)) in
    rw (
      e,
      mul-add-div_right (pos_256 k) (high * 256) low,
      mul-add-mod_self_right high 256 (low / 256 ^ k),
      low_bytes k (high * 256) low,
    )

-- the bytes before the last k are those of the quotient
high_bytes : (j k number : ℕ)
    → big_endian (j + k) number ≡ big_endian j (number / 256 ^ k) ++ big_endian k number
unfolding big_endian
high_bytes zero k number = ap (λ (i : ℕ). big_endian i number) (zero-add k)
high_bytes (suc j) k number =
    let d : number / 256 ^ (j + k) % 256 ≡ number / 256 ^ k / 256 ^ j % 256 =
    ap (λ (x : ℕ). number / 256 ^ x % 256) (add_comm j k) ∙ ap (λ (x : ℕ). number / x % 256) (pow-add 256 k j)
    ∙ sym (ap (λ (x : ℕ). x % 256) (div-div-eq-div-mul number (256 ^ k) (256 ^ j))) in
    ap (λ (i : ℕ). big_endian i number) (suc-add j k) ∙ ap (λ (byte : ℕ). byte ∷ big_endian (j + k) number) d
    ∙ ap (λ (bytes : List ℕ). number / 256 ^ k / 256 ^ j % 256 ∷ bytes) (high_bytes j k number)

-- j bytes of the high part, then k bytes of the low part
pub bytes_join : (j k high low : ℕ) → low < 256 ^ k
    → big_endian (j + k) (high * 256 ^ k + low) ≡ big_endian j high ++ big_endian k low
bytes_join j k high low small =
    high_bytes j k (high * 256 ^ k + low)
    ∙ ap (λ (x : ℕ). big_endian j x ++ big_endian k (high * 256 ^ k + low)) (digits_div high small)
    ∙ ap (λ (bytes : List ℕ). big_endian j high ++ bytes) (low_bytes k high low)

-- bytes after bytes spell behind them
pub spelt_join : (before : ℕ) (bytes more : List ℕ)
    → spelt before (bytes ++ more) ≡ spelt (spelt before bytes) more
unfolding spelt
spelt_join before [] more = refl
spelt_join before (byte ∷ bytes) more = spelt_join (before * 256 + byte) bytes more

-- one byte more from place at on
pub spelt_more : (bytes : List ℕ) (at j : ℕ) → at + j < length bytes
    → spelt 0 (take (suc j) (drop at bytes)) ≡ spelt 0 (take j (drop at bytes)) * 256 + get_or bytes (at + j) 0
unfolding spelt
spelt_more bytes at j h =
    let long : length (drop at bytes) ≡ length bytes - at = length-drop at bytes in
    ap (λ (part : List ℕ). spelt 0 part) (take-suc (drop at bytes) j 0 (omega arith))
    ∙ spelt_join 0 (take j (drop at bytes)) (get_or (drop at bytes) j 0 ∷ [])
    ∙ ap (λ (byte : ℕ). spelt 0 (take j (drop at bytes)) * 256 + byte) (get_or-drop at bytes j 0)

-- j bytes and k bytes behind them
pub spelt_two : (bytes : List ℕ) (at j k : ℕ) → at + (j + k) ≤ length bytes
    → spelt 0 (take (j + k) (drop at bytes))
    ≡ spelt 0 (take j (drop at bytes)) * 256 ^ k + spelt 0 (take k (drop (at + j) bytes))
spelt_two bytes at j k h =
    let last = take k (drop (at + j) bytes) in
    let long : length last ≡ k =
    length-take-le k (drop (at + j) bytes) (simp length-drop (omega arith)) in
    ap (λ (part : List ℕ). spelt 0 part) (take-add j k (drop at bytes)
    ∙ ap (λ (part : List ℕ). take j (drop at bytes) ++ take k part) (drop-drop j at bytes))
    ∙ spelt_join 0 (take j (drop at bytes)) last ∙ spelt_split (spelt 0 (take j (drop at bytes))) last
    ∙ ap (λ (n : ℕ). spelt 0 (take j (drop at bytes)) * 256 ^ n + spelt 0 last) long

-- stored one part after the other
sets_join : (values others list : List ℕ) (at : ℕ)
    → sets list at (values ++ others) ≡ sets (sets list at values) (at + length values) others
sets_join [] others list at = ap (λ (n : ℕ). sets list n others) (sym (add-zero at))
sets_join (value ∷ values) others list at =
    sets_join values others (set list at value) (suc at)
    ∙ ap (λ (n : ℕ). sets (sets (set list at value) (suc at) values) n others)
    (suc-add at (length values) ∙ sym (add-suc at (length values)))

pub sets_two : (list : List ℕ) (at j k high low : ℕ) → low < 256 ^ k
    → sets (sets list at (big_endian j high)) (at + j) (big_endian k low)
    ≡ sets list at (big_endian (j + k) (high * 256 ^ k + low))
sets_two list at j k high low small =
    ap (λ (n : ℕ). sets (sets list at (big_endian j high)) (at + n) (big_endian k low))
    (sym (bytes_length j high)) ∙ sym (sets_join (big_endian j high) (big_endian k low) list at)
    ∙ ap (λ (bytes : List ℕ). sets list at bytes) (sym (bytes_join j k high low small))
