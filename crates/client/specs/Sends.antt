-- The outcome of one step of a client, while the client goes by value beside its replies: the next state,
-- what it puts on the channels to all servers, its answer. In its memory that is `Outcome`.
-- A reader of the public contracts needs none of it.
--
-- In order: a step's outcome, of the code and of the model; the choice and what it leads to; one message
-- received.
-- Assumes nothing.
use Rattle.std.specs.Prelude.{ℕ, List, replicate}
use Rattle.message.specs.declared.Message.{Message}
use Rattle.message.specs.declared.Pair.{Pair}
use Rattle.register.specs.declared.Answer.{Answer}
use Rattle.register.specs.declared.Phase.TheVariants.{Idle}
use Rattle.register.specs.Client as model
use Rattle.register.specs.Client.{Response, chosen, concluded, after_choice, client_takes}
use Rattle.replies.specs.Replies.{store_replies, replies_length}
use Rattle.client.specs.declared.Client.{Client}
use Rattle.client.specs.declared.Sends.{Sends}
use Rattle.client.specs.declared.Transition.{Transition}
use Rattle.client.specs.Outcome.{messages_of}
use Rattle.client.specs.State.{view, store_client, in_phase}

-- the state after a step, the messages and the answer
pub record After : Type 0 where
  pub client : Client
  pub replies : List ℕ
  pub sends : List Message
  pub answer : Answer

-- a step, and the replies that it leaves
abbrev pub after : Transition → List ℕ → After
after transition replies = record {
  client = transition.client;
  replies = replies;
  sends = messages_of transition.sends;
  answer = transition.answer;
}

-- the client ends its operation
abbrev pub ends_with : Client → Sends → Answer → Transition
ends_with client sends answer = record { client = in_phase client Idle; sends = sends; answer = answer }

-- the outcome of the model's step, for a client with this number, n and f
abbrev pub stored : Client → Response → After
stored client response =
    record {
      client = store_client client.number client.n client.f response.client;
      replies = store_replies response.client;
      sends = response.sends;
      answer = response.answer;
    }

-- what a chosen pair leads to, from empty replies
abbrev pub concluded_of : Client → Pair → After
concluded_of client pair =
    stored client (concluded client.n client.f client.number
    (view client (replicate replies_length 0)) client.phase pair)

-- what follows from the choice, if there is one, for what the model's client holds
abbrev pub followed : Client → model.Client → Response
followed client self = after_choice client.n client.f client.number self
    (chosen client.n client.f client.number self)

abbrev pub chosen_of : Client → List ℕ → After
chosen_of client replies = stored client (followed client (view client replies))

-- one message of server k
abbrev pub received_of : Client → List ℕ → ℕ → Message → After
received_of client replies k message = stored client (client_takes client.n client.f
    client.number (view client replies) k message)
