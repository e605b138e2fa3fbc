-- `broadcast`: the loop has put the message on the channels to the honest of the servers that it passed.
-- Assumes nothing.
use Rattle.basics.proofs.Prelude.{◌≡◌}
use Rattle.register.proofs.Vocabulary.{Message, words_of}
use Rattle.steps.specs.InMemory.{broadcast}
use Rattle.steps.proofs.transport.broadcast.Given as goal

abbrev pub invariant-loop-j : goal.invariant-loop-j
invariant-loop-j l =
    (message : Message) → l.words ≡ words_of message → l.slots ≡ broadcast l.faulty l.initial.slots l.i message l.j
