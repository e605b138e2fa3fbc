-- Sets of clients as bits: adding one, removing one.
--
-- That the code's `|` and `&` add and remove a client is tested at all 64 sets and 6 clients by one
-- computation (`adds`, `removes`).
-- Assumes nothing.
use Rattle.basics.proofs.Prelude.{◌≡◌, refl, Bool, true, false, List, [], ◌∷◌, ℕ, suc, ◌-◌, ◌*◌, ◌%◌, ◌^◌}
use Rattle.basics.proofs.Prelude.{◌≤◌, ◌<◌, arith, eqb, ltb, eqb-true, ltb-true}
use lib.Bits.{bit_and, bit_or}
use Rattle.register.proofs.Vocabulary.{contains, set_of, all_pass, all_below, update, most_clients}
use Rattle.basics.proofs.Tests.{each, below}

-- the code's bit of client d
abbrev pub bit : ℕ → ℕ
bit d = 1 * 2 ^ (d - 1) % 256

-- the set of all clients
abbrev pub all_clients : ℕ
all_clients = 2 ^ most_clients - 1

-- what is asked of the code at a set and client i + 1
tests : ℕ → ℕ → List Bool
tests set i =
    eqb (set_of (update (contains set) (suc i) true) most_clients) (bit_or set (bit (suc i)))
    ∷ eqb (set_of (update (contains set) (suc i) false) most_clients) (bit_and set (all_clients - bit (suc i)))
    ∷ ltb (bit (suc i)) (2 ^ most_clients)
    ∷ []

all_right : all_below (λ set. all_below (λ i. all_pass (tests set i)) most_clients) (2 ^ most_clients) ≡ true
unfolding all_below tests set_of contains update
all_right = refl

record Right (set d : ℕ) : Type 0 where
  added : set_of (update (contains set) d true) most_clients ≡ bit_or set (bit d)
  removed : set_of (update (contains set) d false) most_clients ≡ bit_and set (all_clients - bit d)
  low : bit d < 2 ^ most_clients

each_right : (set i : ℕ) → set < 2 ^ most_clients → i < most_clients → Right set (suc i)
unfolding tests
each_right set i small inside =
    let of_set =
    below (λ any. all_below (λ j. all_pass (tests any j)) most_clients) (2 ^ most_clients) all_right set small in
    let t = each (tests set i) (below (λ j. all_pass (tests set j)) most_clients of_set i inside) in
    record { added = eqb-true _ _ t.0; removed = eqb-true _ _ t.1.0; low = ltb-true _ _ t.1.1.0 }

module _ (set d : ℕ) (small : set < 2 ^ most_clients) (low : 1 ≤ d) (top : d ≤ most_clients) where
  here : Right set d
  here = let e : suc (d - 1) ≡ d = omega arith in rw e at (each_right set (d - 1) small (omega arith))

  pub adds : set_of (update (contains set) d true) most_clients ≡ bit_or set (bit d)
  adds = here.added

  pub removes : set_of (update (contains set) d false) most_clients ≡ bit_and set (all_clients - bit d)
  removes = here.removed

  pub bit_lt : bit d < 2 ^ most_clients
  bit_lt = here.low
