-- What a run of stores leaves: each store is at a place of its own, so it leaves all others as they were.
--
-- In order: what is behind the run (`filled_after`); runs of equal values (`filled_same`); a run of stores
-- puts the list of its values in the place of what was there (`filled_put`, `filled_between`); two words
-- stored (`stored_between`); what is read.
-- Assumes nothing.
use Rattle.basics.proofs.Prelude.{◌≡◌, refl, sym, ◌∙◌, List, [], ◌∷◌, ◌++◌, append_assoc, append-nil, length}
use Rattle.basics.proofs.Prelude.{get_or, take, drop, replicate, ap, length-append, length-drop}
use Rattle.basics.proofs.Prelude.{length-take-le, ℕ, zero, suc, ◌+◌, ◌≤◌}
use Rattle.basics.proofs.Prelude.{◌<◌, add-zero, arith}
use native.Mathlib.Nat.{add-suc}
use lib.ListN.{take-append-drop, get_or-append, length-replicate}
use lib.Seq.{get_or-set_other, get_or-append-add, drop-cons, set_at, append_snoc, take_all, paste}
use lib.Seq.{get_or-drop}
use borrow.Rule.Slice.PartMut.{put_mid}
use Rattle.std.proofs.lemmas.Slice.{put_mid-paste}
use Rattle.basics.specs.Tables.{listed, put_part}
use Rattle.basics.proofs.Listed.{listed_length, listed_first, listed_same, listed_replicate}
use Rattle.basics.proofs.Tables.{put_between}
use Rattle.message.specs.declared.Words.{Words}
use Rattle.channel.specs.Memory.{per_message, per_channel, moved, filled, stored, zeroed, shifted}

module _ (list : List ℕ) (at : ℕ) (value : ℕ → ℕ) where
  pub filled_after : (n k : ℕ) → at + n ≤ k → get_or (filled list at value n) k 0 ≡ get_or list k 0
  unfolding filled
  filled_after zero k h = refl
  filled_after (suc n) k h =
      get_or-set_other (filled list at value n) (at + n) k (value n) 0 (λ e. omega arith)
      ∙ filled_after n k (omega arith)

  pub filled_same : (other : ℕ → ℕ) (n : ℕ) → ((j : ℕ) → j < n → value j ≡ other j)
      → filled list at value n ≡ filled list at other n
  unfolding filled
  filled_same other zero h = refl
  filled_same other (suc n) h = rw (filled_same other n (λ j less. h j (omega arith)), h n (omega arith))

  filled_put : (n : ℕ) → at + n ≤ length list → filled list at value n ≡ put_part at n list (listed value n)
  unfolding filled listed
  filled_put zero h = rw (add-zero at, append-nil (take at list)) (sym (take-append-drop at list))
  filled_put (suc n) h =
      let front = take at list ++ listed value n in
      let back = drop (suc (at + n)) list in
      let long : length front ≡ at + n =
      length-append (take at list) (listed value n)
      ∙ rw (length-take-le at list (omega arith), listed_length value n) in
      rw (
        filled_put n (omega arith),
        drop-cons list (at + n) 0 (omega arith),
        add-suc at n,
        ← append_assoc (take at list) (listed value n) (value n ∷ []),
      )
      (set_at front (get_or list (at + n) 0) back (value n) (at + n) long
      ∙ sym (append_snoc front (value n) back))

-- ---- what the library's methods on a part of a list leave

-- a part filled with zeros
pub zeroed_part : (list : List ℕ) (at n width : ℕ) → at + n ≤ length list → width ≡ n → {part : List ℕ}
    → part ≡ replicate (length (take width (drop at list))) 0 → put_mid at width list part ≡ zeroed list at n
zeroed_part list at n width inside e {part} filled_with =
    let long : n ≤ length (drop at list) = omega (arith, length-drop at list) in
    let zeros : part ≡ replicate n 0 =
    filled_with ∙ rw e (ap (λ (k : ℕ). replicate k 0) (length-take-le n (drop at list) long)) in
    let as_long = length-replicate {A = ℕ} n 0 in
    put_mid-paste at width list part (replicate n 0) n zeros (sym e) (sym as_long)
    ∙ rw (take_all {A = ℕ} n (replicate n 0) (omega arith), ← listed_replicate {A = ℕ} n 0)
    (sym (filled_put list at (λ j. 0) n inside))

-- a part moved down by a slot
pub shifted_part : (list : List ℕ) (at width : ℕ) → at + per_channel ≤ length list → width ≡ moved
    → paste list at (drop (at + per_message) list) width ≡ shifted list at
unfolding shifted
shifted_part list at width inside e =
    let behind = drop (at + per_message) list in
    let long : moved ≤ length behind = omega (arith, length-drop (at + per_message) list) in
    rw (e, ← listed_first behind moved 0 long)
    (ap (put_part at moved list)
    (listed_same (λ j. get_or behind j 0) (λ j. get_or list (at + per_message + j) 0) moved
    (λ j less. get_or-drop (at + per_message) list j 0))
    ∙ sym (filled_put list at (λ j. get_or list (at + per_message + j) 0) moved (omega arith)))

-- ---- in the middle of a list, behind a front

module _ (front : List ℕ) (at : ℕ) (e : length front ≡ at) where
  pub filled_between : (part back : List ℕ) (value : ℕ → ℕ) (n : ℕ) → length part ≡ n
      → filled (front ++ part ++ back) at value n ≡ front ++ listed value n ++ back
  filled_between part back value n wide =
      filled_put (front ++ part ++ back) at value n
      (rw (length-append (front ++ part) back, length-append front part) (omega arith))
      ∙ put_between front part back at n e wide (listed value n)

  pub stored_between : (back : List ℕ) (old older : ℕ) (words : Words)
      → stored (front ++ old ∷ older ∷ back) at words ≡ front ++ words.0 ∷ words.1 ∷ back
  stored_between back old older words =
      let first = words.0 in
      rw (set_at front old (older ∷ back) first at e, ← append_snoc front first (older ∷ back))
      (set_at (front ++ first ∷ []) older back words.1 (at + 1) (length-append front (first ∷ []) ∙ rw e)
      ∙ append_snoc front first (words.1 ∷ back))

  pub get_between : (part back : List ℕ) (offset : ℕ) → offset < length part
      → get_or (front ++ part ++ back) (at + offset) 0 ≡ get_or part offset 0
  get_between part back offset h =
      rw (← e, append_assoc front part back)
      (get_or-append-add front (part ++ back) offset 0 ∙ get_or-append part back 0 offset h)
