-- What the tests for free slots say of one channel.
-- Assumes nothing.
use Rattle.basics.proofs.Prelude.{◌≡◌, ap, Bool, true, false, not, ◌||◌, length, ℕ, zero, suc, ◌+◌, ◌≤◌}
use Rattle.basics.proofs.Prelude.{arith, leb-true}
use Rattle.basics.proofs.Tests.{below}
use Rattle.register.proofs.Vocabulary.{Message, Settings, servers, is_client, is_honest, capacity}
use Rattle.register.proofs.Vocabulary.{server_sends, sent_to, World, Formats, has_room, room_up, room_down}
use Rattle.register.proofs.Bounds.{honest_server, server_range, client_range}

-- a test that is excused, or passes
pub unless : (one other : Bool) → one || other ≡ true → one ≡ false → other ≡ true
unless one other h e = rw e at h

module _ (settings : Settings) (judge : Formats) (world : World) where
  -- room for n messages on the channel from a client to an honest server
  pub room_up_lem : (d n : ℕ) → room_up settings judge world d n ≡ true → (k : ℕ) → is_honest settings k ≡ true
      → length (world.up d k) + n ≤ capacity
  unfolding room_up has_room
  room_up_lem d n room zero honest =
      absurd (let range = server_range settings 0 (honest_server settings 0 honest) in omega arith)
  room_up_lem d n room (suc i) honest =
      let range = server_range settings (suc i) (honest_server settings (suc i) honest) in
      leb-true _ _
      (unless (not (is_honest settings (suc i))) _ (below _ (servers settings) room i range.1)
      (ap not honest))

  -- room on the channel to a working client for what a server sends there
  pub room_down_lem : (k d : ℕ) (message : Message) → room_down settings judge world k d message ≡ true → (d' : ℕ)
      → is_client settings d' ≡ true → world.stopped d' ≡ false
      → length (world.down d' k) + length (sent_to d' (server_sends (world.servers k) d message)) ≤ capacity
  unfolding room_down has_room
  room_down_lem k d message room zero client works =
      absurd (let range = client_range settings 0 client in omega arith)
  room_down_lem k d message room (suc i) client works =
      let range = client_range settings (suc i) client in
      leb-true _ _ (unless (world.stopped (suc i)) _ (below _ settings.clients room i range.1) works)
