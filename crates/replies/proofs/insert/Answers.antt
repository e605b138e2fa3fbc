-- `insert`: the pair is there already, or it is put at its place, and the first pair leaves where the set was
-- full.
-- Assumes nothing.
use Rattle.basics.proofs.Prelude.{◌≡◌, sym, ap, ◌∙◌, false, true, List, length, drop, ℕ, suc, ◌+◌, ◌≤◌, ◌<◌}
use Rattle.basics.proofs.Prelude.{arith, eqb, eq-eqb, ne_eqb, lt-ltb, le-ltb, rules}
use Rattle.register.proofs.Vocabulary.{Pair, initial, most_servers, set_limit, insert, add}
use Rattle.replies.specs.Replies.{replies_length, pair_at, set_in, put_set, Padded}
use Rattle.replies.specs.Loops.{rank_of, placed_at}
use Rattle.replies.proofs.Insertion.{is_there, there_at, insert_is, rank_le, placed_length}
use Rattle.replies.proofs.Insertion.{add_room, add_full}
use Rattle.replies.proofs.Places.{pair_at_lem}
use Rattle.replies.proofs.Placing.{put_same}
use Rattle.replies.proofs.insert.Goals.{then-j-size+else-replies-i, else-j-size}
use Rattle.replies.proofs.insert.Goals as goal

-- the set at place i, and the pair's place in it
module _ (replies : List ℕ) (i size j : ℕ) (pair : Pair) (long : length replies ≡ replies_length)
    (ih : i < most_servers) (size_is : size ≡ length (set_in replies (suc i))) (most : size ≤ set_limit)
    (rank_is : j ≡ rank_of pair (set_in replies (suc i))) where
  abbrev pairs : List Pair
  pairs = set_in replies (suc i)

  -- what is read at the pair's place
  there : j < size → is_there pair pairs ≡ eqb pair.0 (pair_at replies i j)
  there less =
      let place = rank_of pair pairs in
      let inside : place < length pairs = omega (arith, rank_is, size_is) in
      there_at pair pairs
      ∙ rw (
        lt-ltb place (length pairs) inside,
        pair_at_lem replies i long ih place initial inside,
      )
      (ap (λ (j : ℕ). eqb pair.0 (pair_at replies i j)) (sym rank_is))

  -- the pair is there, and nothing changes
  kept : Padded replies i → j < size → pair_at replies i j ≡ pair.0
      → replies ≡ put_set replies i (add set_limit pair pairs)
  kept pad less e =
      let here : is_there pair pairs ≡ true = there less ∙ eq-eqb _ _ (sym e) in
      let same : insert pair pairs ≡ pairs = insert_is pair pairs ∙ rw here in
      rw (add_room set_limit pair pairs pairs same (omega (arith, size_is))) (sym (put_same replies i long ih pad))

  -- the place is inside the set or at its end
  place_le : j ≤ size
  place_le = omega (arith, rank_is, rank_le pair pairs, size_is)

  -- another pair stands there, or none
  other : j < size → (pair_at replies i j ≡ pair.0 → ⊥) → is_there pair pairs ≡ false
  other less apart = there less ∙ ne_eqb _ _ (λ e. apart (sym e))

  behind : size ≤ j → is_there pair pairs ≡ false
  behind past =
      there_at pair pairs ∙ rw (le-ltb (rank_of pair pairs) (length pairs) (omega (arith, rank_is, size_is, past)))

  -- the set with the pair put at its place
  abbrev placed : List Pair
  placed = placed_at j pair pairs

  module _ (absent : is_there pair pairs ≡ false) where
    inserted : insert pair pairs ≡ placed
    inserted =
        insert_is pair pairs ∙ rw absent (ap (λ (j : ℕ). placed_at j pair pairs) (sym rank_is))

    longer : length placed ≡ length pairs + 1
    longer = placed_length j pair pairs (omega (arith, place_le, size_is))

    room : size < set_limit → put_set replies i placed ≡ put_set replies i (add set_limit pair pairs)
    room less =
        ap (put_set replies i)
        (sym (add_room set_limit pair pairs placed inserted (omega (arith, longer, size_is))))

    full : set_limit ≤ size → put_set replies i (drop 1 placed) ≡ put_set replies i (add set_limit pair pairs)
    full over =
        ap (put_set replies i)
        (sym (add_full set_limit pair pairs placed inserted (omega (arith, longer, size_is))))

pub returns-then-replies-i : goal.returns-then-replies-i
returns-then-replies-i c =
    kept c.args.replies.now c.args.i _ _ c.args.pair c.told-replies c.requires.0 c.size_of-size.ensures.0
    c.size_of-size.ensures.1 c.rank-j.ensures c.requires.1 c.if-j-size.true c.if-replies-i.true

pub place-requires : goal.place-requires
place-requires c =
    let le =
    place_le c.args.replies.now c.args.i _ _ c.args.pair c.told-replies c.requires.0 c.size_of-size.ensures.0
    c.size_of-size.ensures.1 c.rank-j.ensures in
    search rules

pub place-requires-else-size-lt-LIMIT : goal.place-requires-else-size-lt-LIMIT
place-requires-else-size-lt-LIMIT c =
    let le =
    place_le c.args.replies.now c.args.i _ _ c.args.pair c.told-replies c.requires.0 c.size_of-size.ensures.0
    c.size_of-size.ensures.1 c.rank-j.ensures in
    search rules

pub returns-then-size-lt-LIMIT : goal.returns-then-size-lt-LIMIT
returns-then-size-lt-LIMIT c =
    let replies = c.args.replies.now in
    let absent : is_there c.args.pair (set_in replies (suc c.args.i)) ≡ false =
    elim c.if-j-size.branch [
      | then-j-size+else-replies-i w ↦ other replies c.args.i _ _ c.args.pair c.told-replies c.requires.0
          c.size_of-size.ensures.0 c.size_of-size.ensures.1 c.rank-j.ensures w.if-j-size.true
          w.if-replies-i.false
      | else-j-size w ↦ behind replies c.args.i _ _ c.args.pair c.told-replies c.requires.0
          c.size_of-size.ensures.0 c.size_of-size.ensures.1 c.rank-j.ensures w.if-j-size.false
    ] in
    c.place.ensures
    ∙ room replies c.args.i _ _ c.args.pair c.told-replies c.requires.0 c.size_of-size.ensures.0
    c.size_of-size.ensures.1 c.rank-j.ensures absent c.if-size-lt-LIMIT.true

pub returns-else-size-lt-LIMIT : goal.returns-else-size-lt-LIMIT
returns-else-size-lt-LIMIT c =
    let replies = c.args.replies.now in
    let absent : is_there c.args.pair (set_in replies (suc c.args.i)) ≡ false =
    elim c.if-j-size.branch [
      | then-j-size+else-replies-i w ↦ other replies c.args.i _ _ c.args.pair c.told-replies c.requires.0
          c.size_of-size.ensures.0 c.size_of-size.ensures.1 c.rank-j.ensures w.if-j-size.true
          w.if-replies-i.false
      | else-j-size w ↦ behind replies c.args.i _ _ c.args.pair c.told-replies c.requires.0
          c.size_of-size.ensures.0 c.size_of-size.ensures.1 c.rank-j.ensures w.if-j-size.false
    ] in
    c.place-else-size-lt-LIMIT.ensures
    ∙ full replies c.args.i _ _ c.args.pair c.told-replies c.requires.0 c.size_of-size.ensures.0
    c.size_of-size.ensures.1 c.rank-j.ensures absent c.if-size-lt-LIMIT.false
