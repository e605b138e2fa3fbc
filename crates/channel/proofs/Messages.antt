-- Sound memory and messages: what `state` uses. Sound memory holds messages that suit their channels, and is
-- their layout (`Held`); and the layout of such messages is sound, and holds them (`Laid`).
-- Assumes nothing.
pub use Rattle.channel.proofs.Slot.{suits}
pub use Rattle.channel.proofs.Held.{messages_fit, counts_fit, oldest_goes, messages_suit}
pub use Rattle.channel.proofs.Held.{layout_messages}
pub use Rattle.channel.proofs.Laid.{Suiting, messages_layout, sound_messages}
