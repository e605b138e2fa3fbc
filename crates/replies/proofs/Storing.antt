-- A sound memory is the memory of what it shows, and the memory of an empty client is the empty one.
--
-- Row by row: a timestamp, a size and an acknowledgement are stored as the number that showed them, and so
-- are the four numbers of a set, which are its pairs' and zeros.
-- Assumes nothing.
use Rattle.basics.proofs.Prelude.{◌≡◌, refl, sym, ap, ◌∙◌, Bool, not, ◌&&◌, List, ◌++◌, append_assoc}
use Rattle.basics.proofs.Prelude.{append-nil, length, get_or, drop, replicate, length-drop, ℕ, zero, suc, ◌+◌}
use Rattle.basics.proofs.Prelude.{◌*◌, ◌/◌, ◌%◌, ◌≤◌, ◌<◌, arith, eqb, ltb}
use lib.ListN.{drop_of_length-le}
use lib.Seq.{get_or-drop, drop-drop}
use mir.Val.{bool_byte}
use Rattle.register.proofs.Vocabulary.{ReadNumber, most_servers, cleared, set_limit}
use Rattle.register.specs.declared.Phase.{Phase}
use Rattle.replies.specs.Replies.{replies_length, sizes_at, acks_at, pairs_at, note_at, ack_at, note_of}
use Rattle.replies.specs.Replies.{note_word, pair_word, noted_in, set_in, ack_in, held, row, store_replies}
use Rattle.replies.proofs.Places.{noted_at, ack_at_lem, size_below}
use Rattle.replies.proofs.Placing.{word_is}
use Rattle.replies.proofs.Soundness.{Sound, padded, most}
use Rattle.replies.proofs.Stores.{row_is}

note_back : (word : ℕ) → note_word (note_of word) ≡ word
unfolding note_word note_of
note_back zero = refl
note_back (suc word) = refl

ack_back : (word : ℕ) → word ≤ 1 → bool_byte (not (eqb word 0)) ≡ word
ack_back zero h = refl
ack_back (suc zero) h = refl
ack_back (suc (suc word)) h = let z : ⊥ = omega arith in absurd z

-- a row over the numbers from at on, in front of what follows
row_over : (value : ℕ → ℕ) (n at : ℕ) (memory : List ℕ) → at + n ≤ length memory
    → ((i : ℕ) → i < n → value i ≡ get_or memory (at + i) 0)
    → row value n ++ drop (at + n) memory ≡ drop at memory
row_over value n at memory h e =
    ap (row value n ++◌) (sym (drop-drop n at memory))
    ∙ row_is value n (drop at memory) (omega (arith, length-drop at memory))
    (λ i less. e i less ∙ sym (get_or-drop at memory i 0))

module _ (n : ℕ) (reading storing : Bool) (replies : List ℕ) (known : Sound n reading storing replies) where
  -- the rest of the memory from a row on
  abbrev «from» : ℕ → List ℕ
  «from» at = drop at replies

  notes : row (λ i. note_word (noted_in replies (suc i))) most_servers ++ «from» sizes_at ≡ replies
  notes =
      row_is (λ i. note_word (noted_in replies (suc i))) most_servers replies (omega (arith, known.long))
      (λ i h. ap note_word (noted_at replies i h) ∙ note_back (note_at replies i))

  sizes : row (λ i. length (set_in replies (suc i))) most_servers ++ «from» acks_at ≡ «from» sizes_at
  sizes =
      row_over (λ i. length (set_in replies (suc i))) most_servers sizes_at replies (omega (arith, known.long))
      (λ i h. size_below replies i known.long h (padded n reading storing replies known i h).size)

  acks : row (λ i. bool_byte (ack_in replies (suc i))) most_servers ++ «from» pairs_at ≡ «from» acks_at
  acks =
      row_over (λ i. bool_byte (ack_in replies (suc i))) most_servers acks_at replies (omega (arith, known.long))
      (λ i h. ap bool_byte (ack_at_lem replies i h)
      ∙ ack_back (ack_at replies i) (most (ltb i n && storing) 1 (ack_at replies i) (known.part i h).ack))

  -- number i of the sets
  abbrev number : ℕ → ℕ
  number i = pair_word (set_in replies (suc (i / set_limit))) (i % set_limit)

  number_is_lem : (place : ℕ) → place < most_servers * set_limit → number place ≡ get_or replies (pairs_at + place) 0
  number_is_lem place h =
      let i : place / set_limit < most_servers = omega arith in
      let j : place % set_limit < set_limit = omega arith in
      let e : pairs_at + place / set_limit * set_limit + place % set_limit ≡ pairs_at + place = omega arith in
      word_is replies (place / set_limit) known.long i
      (padded n reading storing replies known (place / set_limit) i) (place % set_limit) j
      ∙ ap (λ (k : ℕ). get_or replies k 0) e

  pairs : row number (most_servers * set_limit) ≡ «from» pairs_at
  pairs =
      sym (append-nil (row number (most_servers * set_limit)))
      ∙ ap (row number (most_servers * set_limit) ++◌)
      (sym (drop_of_length-le replies {i = replies_length} (omega (arith, known.long))))
      ∙ row_over number (most_servers * set_limit) pairs_at replies (omega (arith, known.long)) number_is_lem

  pub store_held : (phase : Phase) (reads : ReadNumber) → store_replies (held phase reads replies) ≡ replies
  unfolding store_replies
  store_held phase reads = simp append_assoc (rw (pairs, acks, sizes) notes)

pub store_cleared : (phase : Phase) (reads : ReadNumber)
    → store_replies (cleared phase reads) ≡ replicate replies_length 0
unfolding store_replies row note_word pair_word
store_cleared phase reads = refl
