-- The channels to a client emptied, server after server: the slots of the table that is empty there.
-- Assumes nothing.
use Rattle.register.proofs.Vocabulary.{is_up_to, Message, most_clients, most_servers}
use Rattle.basics.proofs.Prelude.{◌≡◌, refl, sym, ap, ◌∙◌, Bool, true, false, cond, ◌&&◌, ◌||◌, List, [], ℕ}
use Rattle.basics.proofs.Prelude.{zero, suc, ◌-◌, ◌≤◌, arith, eqb}
use Rattle.basics.proofs.Cases.{by_test}
use Rattle.basics.proofs.UpTo.{range_none, range_more}
use Rattle.channel.specs.Memory.{cleared}
use Rattle.state.specs.State.{down_index}
use Rattle.state.proofs.Channels.{Table, slots_of, slots_same, changed, Short, down_clear}
use Rattle.steps.specs.InMemory.{emptied}

-- nothing from the servers 1 to n to client d
unfoldable pub without : ℕ → ℕ → Table → Table
without d n table other k = cond (eqb d other && is_up_to n k) [] (table other k)

short_without : (d n : ℕ) (table : Table) → Short table → Short (without d n table)
unfolding without
short_without d n table short other k = by_test (eqb d other && is_up_to n k) (λ yes. rw yes (omega arith))
    (λ yes. rw yes (short other k))

-- one channel, by cases on the tests: `own`, it is the client's; `here`, it is the next server's; `earlier`,
-- one before
one_more : (own here earlier : Bool) (l : List Message)
    → cond (here && own) [] (cond (own && earlier) [] l) ≡ cond (own && (here || earlier)) [] l
one_more own false earlier l = refl
one_more false true earlier l = refl
one_more true true earlier l = refl

none_yet : (own earlier : Bool) (l : List Message) → earlier ≡ false → l ≡ cond (own && earlier) [] l
none_yet true earlier l h = rw h
none_yet false earlier l h = refl

module _ (d : ℕ) (low : 1 ≤ d) (high : d ≤ most_clients) (up down : Table) (up_fits : Short up)
    (down_fits : Short down) where
  pub empty_all : (j : ℕ) → j ≤ most_servers → emptied (slots_of up down) (d - 1) j
      ≡ slots_of up (without d j down)
  unfolding emptied without changed
  empty_all zero top =
      slots_same up up down (without d zero down) (λ other k. refl)
      (λ other k. none_yet (eqb d other) (is_up_to 0 k) (down other k) (range_none k))
  empty_all (suc j) top =
      let next : suc j - 1 ≡ j = omega arith in
      let down' : Table = without d j down in
      rw (empty_all j (omega arith))
      (ap (λ (i : ℕ). cleared (slots_of up down') (down_index (d - 1) i)) (sym next)
      ∙ down_clear up down' d (suc j) (record { low = low; high = high; first = omega arith; last = top })
      up_fits (short_without d j down down_fits)
      ∙ slots_same up up (changed down' d (suc j) []) (without d (suc j) down) (λ other k. refl)
      (λ other k. rw (range_more j k) (one_more (eqb d other) (eqb (suc j) k) (is_up_to j k) (down other k))))
