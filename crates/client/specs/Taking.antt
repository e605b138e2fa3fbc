-- Which messages of a server a client takes, by what it shows: the model's tests, without what follows from
-- them. A reader of the public contracts needs none of it.
-- Assumes nothing.
use Rattle.std.specs.Prelude.{ℕ, Bool, false}
use Rattle.message.specs.declared.Message.{Message}
use Rattle.message.specs.declared.Message.TheVariants.{GetInfo, Info, Done, WriteInfo, Fwd, WriteAck}
use Rattle.register.specs.Client as model
use Rattle.register.specs.Client.{is_reading, is_storing, uses_info}

-- INFO of this read and of a server that is not noted, FWD while reading, WRITE_ACK of the counter that is
-- stored
unfoldable pub is_taken : model.Client → ℕ → Message → Bool
is_taken self k (GetInfo tag) = false
is_taken self k (Info tag pair) = uses_info self k tag
is_taken self k Done = false
is_taken self k (WriteInfo pair) = false
is_taken self k (Fwd pair) = is_reading self.phase
is_taken self k (WriteAck count) = is_storing self.phase count
