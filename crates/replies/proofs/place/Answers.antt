-- `place`: the five stores are the size and the four numbers of the set with the pair put there.
-- Assumes nothing.
use Rattle.basics.proofs.Prelude.{◌≡◌, sym, ap, ◌∙◌, List, length, drop, length-drop, ℕ, suc, ◌+◌}
use Rattle.basics.proofs.Prelude.{◌-◌, ◌*◌, ◌≤◌, ◌<◌, add-zero, arith, set}
use Rattle.register.proofs.Vocabulary.{Pair, set_limit, most_servers}
use Rattle.replies.specs.Replies.{replies_length, sizes_at, pairs_at, set_in, pair_word, put_set, Padded}
use Rattle.replies.specs.Loops.{placed_at, widened_by}
use Rattle.replies.proofs.Insertion.{placed_length}
use Rattle.replies.proofs.Placing.{widened_is, word_drop, put_as_stores}
use Rattle.replies.proofs.place.Goals as goal

-- the set at place i, the pair that goes to its place j, and how many pairs then leave
module _ (replies : List ℕ) (i size j : ℕ) (pair : Pair) (out : ℕ)
    (size_is : size ≡ length (set_in replies (suc i))) (inside : j ≤ size) (few : out ≤ 1) where
  abbrev pairs : List Pair
  pairs = set_in replies (suc i)

  -- the set with the pair put there, and without the first `out`
  abbrev placed : List Pair
  placed = placed_at j pair pairs

  abbrev after : List Pair
  after = drop out placed

  abbrev widened_to : ℕ → ℕ
  widened_to = widened_by replies (pairs_at + i * set_limit) j pair.0

  number : length replies ≡ replies_length → i < most_servers → Padded replies i → size + 1 ≤ set_limit + out
      → (k word : ℕ) → k < set_limit → word ≡ widened_to (out + k) → word ≡ pair_word after k
  number long ih pad room k word less e =
      e ∙ widened_is replies i long ih pad j pair (omega arith) (out + k) (omega arith) (omega arith)
      ∙ sym (word_drop out placed k)

  new_size : size + 1 - out ≡ length after
  new_size = omega (arith, length-drop out placed, placed_length j pair pairs (omega arith))

  stored : length replies ≡ replies_length → i < most_servers → Padded replies i → size + 1 ≤ set_limit + out
      → (first second third fourth : ℕ) → first ≡ widened_to out → second ≡ widened_to (out + 1)
      → third ≡ widened_to (out + 2) → fourth ≡ widened_to (out + 3)
      → set (set (set (set (set replies (sizes_at + i) (size + 1 - out))
      (pairs_at + i * set_limit) first)
      (pairs_at + i * set_limit + 1) second)
      (pairs_at + i * set_limit + 2) third)
      (pairs_at + i * set_limit + 3) fourth
      ≡ put_set replies i after
  stored long ih pad room first second third fourth e0 e1 e2 e3 =
      let read = number long ih pad room in
      rw (
        read 0 first (omega arith) (e0 ∙ ap widened_to (sym (add-zero out))),
        read 1 second (omega arith) e1,
        read 2 third (omega arith) e2,
        read 3 fourth (omega arith) e3,
        new_size,
      )
      (sym (put_as_stores replies i after))

pub returns : goal.returns
returns c =
    let pre = c.requires in
    stored c.args.replies.now c.args.i c.args.size c.args.j c.args.pair c.args.out pre.1 pre.2 pre.3 c.told-replies
    pre.0 pre.5 pre.4 _ _ _ _ c.widened-first.ensures c.widened-second.ensures c.widened-third.ensures
    c.widened-fourth.ensures
