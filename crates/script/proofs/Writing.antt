-- Texts written into a buffer, one behind the other.
--
-- The buffer keeps its length (`keeps`); two texts written one behind the other are their join written at
-- once (`then`); a byte stored right before a text makes it longer (`written_front`).
-- Assumes nothing.
use Rattle.basics.proofs.Prelude.{◌≡◌, sym, ap, ◌∙◌, subst, List, [], ◌∷◌, ◌++◌, append_assoc, length, get_or}
use Rattle.basics.proofs.Prelude.{set, take, drop, length-append, length-drop, length-take-le, ℕ, suc, ◌+◌}
use Rattle.basics.proofs.Prelude.{◌≤◌, ◌<◌, arith}
use native.Mathlib.Nat.{add_assoc, add-suc, suc-add}
use lib.Seq.{take_at, drop-append-add, drop-drop, take-suc, set_at, paste-zero}
use Rattle.script.specs.Writing.{written, Written}

-- nothing written
pub written_none : (out : List ℕ) (at : ℕ) → out ≡ written out at []
written_none out at = paste-zero out at []

module _ (out : List ℕ) (at : ℕ) (text : List ℕ) (room : at + length text ≤ length out) where
  -- what stands before the end of the text
  head_length : length (take at out ++ text) ≡ at + length text
  head_length =
      length-append (take at out) text ∙ ap (λ (n : ℕ). n + length text) (length-take-le at out (omega arith))

  pub length_written : length (written out at text) ≡ length out
  length_written =
      length-append (take at out ++ text) (drop (at + length text) out)
      ∙ rw (head_length, length-drop (at + length text) out) (omega arith)

  -- a text behind it
  pub written_then : (more : List ℕ)
      → written (written out at text) (at + length text) more ≡ written out at (text ++ more)
  written_then more =
      let front : List ℕ = take at out ++ text in
      let behind : List ℕ = drop (at + length text) out in
      cc (
        take_at front behind (at + length text) head_length,
        head_length,
        drop-append-add front behind (length more),
        drop-drop (length more) (at + length text) out,
        append_assoc (take at out) text more,
        add_assoc at (length text) (length more),
        length-append text more,
      )

-- a byte right before it
pub written_front : (out : List ℕ) (at : ℕ) (text : List ℕ) (byte : ℕ) → at < length out
    → set (written out (suc at) text) at byte ≡ written out at (byte ∷ text)
written_front out at text byte h =
    let behind : List ℕ = drop (suc at + length text) out in
    let old : ℕ = get_or out at 0 in
    let split : take (suc at) out ++ text ++ behind ≡ take at out ++ old ∷ (text ++ behind) =
    cc (
      append_assoc (take (suc at) out) text behind,
      take-suc out at 0 h,
      append_assoc (take at out) (old ∷ []) (text ++ behind),
    ) in
    cc (
      split,
      set_at (take at out) old (text ++ behind) byte at (length-take-le at out (omega arith)),
      append_assoc (take at out) (byte ∷ text) behind,
      suc-add at (length text),
      add-suc at (length text),
    )

module _ {text before : List ℕ} {at end : ℕ} {mid : List ℕ} (first : Written text before at end mid) where
  pub keeps : length mid ≡ length before
  keeps = ap length first.holds ∙ length_written before at text first.fits

  pub then : {more : List ℕ} {last : ℕ} {after : List ℕ} → Written more mid end last after
      → Written (text ++ more) before at last after
  then {more} {last} {after} second =
      let long : length (text ++ more) ≡ length text + length more = length-append text more in
      let free : end + length more ≤ length mid = second.fits in
      let ends : end ≡ at + length text = first.ends in
      let wide : length mid ≡ length before = keeps in
      record {
        fits = rw long (omega arith);
        ends = second.ends ∙ rw long (omega arith);
        holds =
            second.holds ∙ ap (λ (l : List ℕ). written l end more) first.holds
            ∙ ap (λ (n : ℕ). written (written before at text) n more) ends
            ∙ written_then before at text first.fits more;
      }

  -- the same text by another name
  pub reads : (other : List ℕ) → text ≡ other → Written other before at end mid
  reads other same = subst (λ (bytes : List ℕ). Written bytes before at end mid) same first

-- the text of the same thing by another name
pub named : {A : Type 0} (text : A → List ℕ) {one other : A} {before : List ℕ} {at end : ℕ} {after : List ℕ}
    → one ≡ other → Written (text other) before at end after → Written (text one) before at end after
named text {one = one} same writing = reads writing (text one) (ap text (sym same))
