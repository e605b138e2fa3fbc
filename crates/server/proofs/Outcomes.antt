-- What serving bytes answers, case by case in the order of the ladder: unsound, no such process, malformed,
-- served.
-- Assumes nothing.
use Rattle.basics.proofs.Prelude.{◌≡◌, refl, true, false, List, ℕ, ◌≤◌, ◌<◌, le-leb, lt-leb}
use Rattle.std.specs.Prelude.{Ok, Err}
use Rattle.refusal.specs.Numbers.{numbered}
use Rattle.refusal.specs.Ladder.{rising}
use Rattle.register.proofs.Vocabulary.{Message, unpack_of, goes_up, most_clients}
use Rattle.server.specs.Memory.{is_sound}
use Rattle.server.specs.Serving.{served_in, became, ladder, bytes_served}

-- the ladder stands in the table's order
pub ladder_rising : (memory : List ℕ) (d : ℕ) (bytes : List ℕ) → rising 0 (ladder memory d bytes) ≡ true
ladder_rising memory d bytes = refl

module _ (memory : List ℕ) (d : ℕ) (bytes : List ℕ) where
  pub unsound : is_sound memory ≡ false → bytes_served memory d bytes ≡ became (Err (numbered 3)) memory
  unfolding bytes_served
  unsound h = rw h

  module _ (h : is_sound memory ≡ true) where
    pub no_process_low : d < 1 → bytes_served memory d bytes ≡ became (Err (numbered 4)) memory
    unfolding bytes_served
    no_process_low low = rw (h, lt-leb 1 d low)

    pub no_process_high : 1 ≤ d → most_clients < d
        → bytes_served memory d bytes ≡ became (Err (numbered 4)) memory
    unfolding bytes_served
    no_process_high low over = rw (h, le-leb 1 d low, lt-leb d most_clients over)

    module _ (low : 1 ≤ d) (top : d ≤ most_clients) where
      pub malformed : goes_up (unpack_of bytes) ≡ false
          → bytes_served memory d bytes ≡ became (Err (numbered 9)) memory
      unfolding bytes_served
      malformed bad = rw (h, le-leb 1 d low, le-leb d most_clients top, bad)

      pub served : (message : Message) → unpack_of bytes ≡ Ok message → goes_up (Ok message) ≡ true
          → bytes_served memory d bytes ≡ served_in memory d message
      unfolding bytes_served
      served message e good = rw (h, le-leb 1 d low, le-leb d most_clients top, e, good)
