-- The client end's state inside a step (01: desk): the client by value and its replies, and the model's
-- client that the two show. Between steps both stand in one memory (`Memory`).
--
-- In order: what a state shows; the state of what a model's client holds. That a sound state is the state of
-- what it shows, and that the model's client is shown again by its state, is proved in proofs/Outcomes
-- (`store_view`) and proofs/Keeping (`shows`).
-- A reader of the public contracts needs none of it.
-- Assumes nothing.
use Rattle.std.specs.Prelude.{ℕ, List}
use Rattle.register.specs.declared.Phase.{Phase}
use Rattle.register.specs.Client as model
use Rattle.register.specs.Client.{cleared}
use Rattle.replies.specs.Replies.{held}
use Rattle.client.specs.declared.Client.{Client}

-- what the client and its replies show
abbrev pub view : Client → List ℕ → model.Client
view client replies = held client.phase client.reads replies

-- the client, with its number, n and f, of what the model's client holds; its replies are `store_replies` of
-- the same
abbrev pub store_client : ℕ → ℕ → ℕ → model.Client → Client
store_client d n f self = record { number = d; n = n; f = f; phase = self.phase; reads = self.reads }

-- the client in another phase, at the same read number
abbrev pub in_phase : Client → Phase → Client
in_phase client phase = store_client client.number client.n client.f (cleared phase client.reads)
