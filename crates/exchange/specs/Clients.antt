-- What the group's functions say of its two clients: the place of each, a client at setup, and a client after a
-- step. A reader of the public contracts needs none of it: the program drives the ends, and has no theorem.
-- Assumes nothing.
use Rattle.std.specs.Prelude.{◌≡◌, ℕ, List, Option, Some, option_map, replicate, slice_get, IfSome}
use Rattle.message.specs.declared.Entry.{Entry}
use Rattle.message.specs.Layout.{message_bytes}
use Rattle.client.specs.Memory.{client_length}
use Rattle.client.specs.Entry.{read_of, write_of, take_of}
use Rattle.server.specs.Serving.{bytes_served}
use Rattle.exchange.specs.declared.print.Bytes.{Bytes}
use Rattle.exchange.specs.declared.group.Who.{Who}
use Rattle.exchange.specs.declared.group.Who.TheVariants.{First, Second}
use Rattle.exchange.specs.declared.group.Client.{Client}

-- the number of a client
abbrev pub number_of : Who → ℕ
number_of First = 1
number_of Second = 2

-- its place among the two
abbrev pub index_of : Who → ℕ
index_of First = 0
index_of Second = 1

-- a client of n servers of which f may be faulty, at setup: its memory is zero, and it has sent nothing
abbrev pub new_client : Who → ℕ → ℕ → Client
new_client who n f =
    record {
      who = who;
      n = n;
      f = f;
      memory = replicate client_length 0;
      sent = replicate 10 (record { 0 = replicate message_bytes 0 });
      count = 0;
    }

-- its memory after it starts a read, and a write of an entry
abbrev pub read_memory : Client → List ℕ
read_memory client = (read_of (number_of client.who) client.n client.f client.memory).memory

abbrev pub written_memory : Entry → Client → List ℕ
written_memory entry client = (write_of (number_of client.who) client.n client.f client.memory entry).memory

-- and after it takes bytes from server k
abbrev pub taken_memory : ℕ → Bytes → Client → List ℕ
taken_memory k bytes client =
    (take_of (number_of client.who) client.n client.f client.memory k bytes.0).memory

-- a client that went from its old memory to another one: it is the same client, of as many servers
abbrev pub WentTo : List ℕ → Client → Client → Type 0
WentTo memory old new = new ≡ record old { memory = memory; sent = new.sent; count = new.count }

-- what one of the two clients went to; the other stays as it was
pub record Went (who : Who) (next : Client → List ℕ) (olds news : List Client) : Type 0 where
  pub own : IfSome (slice_get olds (index_of who)) (λ old.
      IfSome (slice_get news (index_of who)) (WentTo (next old) old))
  pub other : (i : ℕ) → (i ≡ index_of who → ⊥) → slice_get news i ≡ slice_get olds i

-- what no step changes: which client it is, of n servers of which f may be faulty
pub record Numbers : Type 0 where
  pub who : Who
  pub n : ℕ
  pub f : ℕ

abbrev pub numbers_of : Client → Numbers
numbers_of client = record { who = client.who; n = client.n; f = client.f }

abbrev pub SameNumbers : List Client → List Client → Type 0
SameNumbers olds news =
    (i : ℕ) → option_map numbers_of (slice_get news i) ≡ option_map numbers_of (slice_get olds i)

-- the memory of a server goes to what message j of a client makes of it
abbrev pub Serves : Who → ℕ → List Client → Option (List ℕ) → Option (List ℕ) → Type 0
Serves who j clients old new =
    IfSome (slice_get clients (index_of who)) (λ client. IfSome (slice_get client.sent j) (λ bytes.
    IfSome old (λ memory. new ≡ Some (bytes_served memory (number_of who) bytes.0).memory)))
