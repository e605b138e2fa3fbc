-- The stored slots of a well-formed world: sound, and each channel is found again in them.
--
-- Why: a channel of a well-formed world has at most 8 messages, and they go its way (`fits`, `suit`). That is
-- all that the laws of the layout ask.
-- Assumes nothing.
use Rattle.basics.proofs.Prelude.{◌≡◌, true, length, ℕ, ◌<◌, ltb, ltb-true, ltb-false}
use Rattle.basics.proofs.UpTo.{pick}
use mathlib.Core.List.{map}
use Rattle.register.proofs.Vocabulary.{all_pass, Settings, Formats, World, WellFormed}
use Rattle.channel.specs.Memory.{upward, channels, slots_length}
use Rattle.channel.specs.Layout.{Fitting}
use Rattle.channel.specs.Sound.{sound, messages}
use Rattle.channel.proofs.Laws.{layout_length}
use Rattle.channel.proofs.Messages.{Suiting, suits, messages_layout, sound_messages}
use Rattle.state.specs.State.{channel_of, store_slots}
use Rattle.state.proofs.Channels.{fitting}
use Rattle.state.proofs.SoundChannels.{suits_up, suits_down}

module _ (S : Settings) (F : Formats) (world : World) (well : WellFormed S F world) where
  fits : Fitting (channel_of world)
  unfolding channel_of
  fits = fitting world.up world.down (λ d k. (well.up d k).few) (λ d k. (well.down d k).few)

  suit : Suiting (channel_of world)
  unfolding channel_of
  suit c less =
      pick (λ l. all_pass (map (suits c) l) ≡ true) (ltb c upward) _ _
      (λ e. suits_up c _ (ltb-true c upward e) (well.up _ _))
      (λ e. suits_down c _ (ltb-false c upward e) (well.down _ _))

  pub slots_long_lem : length (store_slots world) ≡ slots_length
  unfolding store_slots
  slots_long_lem = layout_length (channel_of world) fits

  pub slots_sound : sound (store_slots world) ≡ true
  unfolding store_slots
  slots_sound = sound_messages (channel_of world) fits suit

  pub channel_found : (c : ℕ) → c < channels → messages (store_slots world) c ≡ channel_of world c
  unfolding store_slots
  channel_found = messages_layout (channel_of world) fits suit
