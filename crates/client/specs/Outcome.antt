-- The outcome of one step of a client: the memory after it, what it puts on the channels to all servers, its
-- answer.
--
-- In order: the messages that a step puts; an outcome, of the code and of the model; a start; one message
-- taken.
-- Assumes nothing.
use Rattle.std.specs.Prelude.{ℕ, List, [], ◌∷◌, Result, Ok, Err}
use Rattle.refusal.specs.declared.Refusal.{Refusal}
use Rattle.message.specs.declared.Message.{Message}
use Rattle.message.specs.declared.Message.TheVariants as message
use Rattle.register.specs.declared.Answer.TheVariants.{Went}
use Rattle.register.specs.declared.Phase.{Phase}
use Rattle.register.specs.Client.{Response, next_read, started, client_takes}
use Rattle.register.specs.World.{StepAnswer}
use Rattle.client.specs.declared.Outcome.{Outcome}
use Rattle.client.specs.declared.Sends.{Sends}
use Rattle.client.specs.declared.Sends.TheVariants.{Nothing, GetInfo, Done, DoneAndWrite}
use Rattle.client.specs.Memory.{view, store}

-- the messages that go on every channel, in order
abbrev pub messages_of : Sends → List Message
messages_of Nothing = []
messages_of (GetInfo tag) = message.GetInfo tag ∷ []
messages_of Done = message.Done ∷ []
messages_of (DoneAndWrite pair) = message.Done ∷ message.WriteInfo pair ∷ []

-- the memory after a step, the messages and the answer
pub record After : Type 0 where
  pub memory : List ℕ
  pub sends : List Message
  pub answer : StepAnswer

-- what the code answers and leaves in memory; a refusal sends nothing
abbrev pub after : Result Outcome Refusal → List ℕ → After
after (Ok given) memory = record { memory = memory; sends = messages_of given.sends; answer = Ok given.answer }
after (Err why) memory = record { memory = memory; sends = []; answer = Err why }

-- the outcome of the model's step
abbrev pub leaves : Response → After
leaves response =
    record { memory = store response.client; sends = response.sends; answer = Ok response.answer }

-- a start in a phase: GET_INFO with the next read number goes on every channel
abbrev pub started_of : List ℕ → Phase → After
started_of memory phase =
    leaves (record {
      client = started (view memory) phase;
      sends = message.GetInfo (next_read (view memory))
          ∷ [];
      answer = Went;
    })

-- one message of server k, for the client with number d, of n servers of which f may be faulty
abbrev pub taken_of : ℕ → ℕ → ℕ → List ℕ → ℕ → Message → After
taken_of d n f memory k given = leaves (client_takes n f d (view memory) k given)
