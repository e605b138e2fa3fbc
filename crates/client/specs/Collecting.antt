-- INFO and FWD, the replies that bring a pair: whether a client takes one, what it then holds, and what
-- follows.
--
-- In order: whether it is collected; what the client holds then; the answer of `collect`; the outcome.
-- A reader of the public contracts needs none of it.
-- Assumes nothing.
use Rattle.std.specs.Prelude.{ℕ, ◌≡◌, Bool, true, false, cond, List}
use Rattle.message.specs.declared.Message.{Message}
use Rattle.message.specs.declared.Message.TheVariants.{GetInfo, Info, Done, WriteInfo, Fwd, WriteAck}
use Rattle.register.specs.Client as model
use Rattle.register.specs.Client.{is_reading, with_info, with_pair, uses_info, sends_nothing}
use Rattle.client.specs.declared.Client.{Client}
use Rattle.client.specs.State.{view}
use Rattle.client.specs.Sound.{is_sound}
use Rattle.client.specs.Sends.{After, stored, followed}

-- ---- one message of server k

module _ (client : Client) (replies : List ℕ) (k : ℕ) where
  -- it is an INFO or a FWD that is taken
  unfoldable pub is_collected : Message → Bool
  is_collected (GetInfo tag) = false
  is_collected (Info tag pair) = uses_info (view client replies) k tag
  is_collected Done = false
  is_collected (WriteInfo pair) = false
  is_collected (Fwd pair) = is_reading client.phase
  is_collected (WriteAck count) = false

  -- what the client holds with it
  unfoldable pub with_reply : Message → model.Client
  with_reply (GetInfo tag) = view client replies
  with_reply (Info tag pair) = with_info (view client replies) k pair
  with_reply Done = view client replies
  with_reply (WriteInfo pair) = view client replies
  with_reply (Fwd pair) = with_pair (view client replies) k pair
  with_reply (WriteAck count) = view client replies

  -- the answer, and the replies after it
  pub record Collected (message : Message) (yes : Bool) (next : List ℕ) : Type 0 where
    pub told : yes ≡ is_collected message
    pub shows : view client next ≡ cond (is_collected message) (with_reply message) (view client replies)
    pub sound : is_sound client next ≡ true

  -- the outcome: a choice follows what is collected, and the rest is dropped
  abbrev pub received_pair_of : Message → After
  received_pair_of message = stored client (cond (is_collected message) (followed client (with_reply message))
      (sends_nothing (view client replies)))
