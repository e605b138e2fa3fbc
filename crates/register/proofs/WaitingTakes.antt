-- What a reading client waits for, when the client takes a message (`Waiting` says what that is, and has the
-- server's part).
--
-- Why: INFO of this read moves from the channel to the noted timestamps; a pair moves from the channel to the
-- set; and a set keeps its highest pair, which is the server's present one, since nothing from the server is
-- higher.
-- In order: a message of this server that is dropped (`waits_dropped`) or not (`waits_grown`); one of another
-- server (`waits_elsewhere`).
-- Assumes nothing.
use Rattle.register.proofs.Vocabulary.{Member, update, add, Server, Client, set_limit, is_reading}
use Rattle.register.proofs.Vocabulary.{with_info, with_pair}
use Rattle.basics.proofs.Prelude.{◌≡◌, refl, sym, true, ◌⊎◌, inl, inr, ◌≢◌, List, ◌∷◌, Option, Some, ℕ, ◌≤◌}
use Rattle.basics.proofs.Prelude.{arith}
use Rattle.basics.proofs.Cases.{by_either, clash}
use Rattle.basics.proofs.Update.{update_same, update_other}
use Rattle.register.specs.PairSet.{Ordered}
use Rattle.register.proofs.Vocabulary.{Message, Info, Fwd, Pair, stamp}
use Rattle.register.proofs.PairSets.{add_keeps}
use Rattle.register.proofs.Outcomes.{Grown, noted, added, Ignored}
use Rattle.register.proofs.Carried.{Carries}
use Rattle.register.proofs.Infos.{infos, number, number_noted, number_none, info_one, info_none}
use Rattle.register.proofs.Waiting.{Told, Waits}

-- ---- the client takes a message of this server

-- the message is dropped: it was no INFO of this read that is still to be noted, and no FWD
pub waits_dropped : (up down : List Message) (self : Client) (server : Server) (d k : ℕ) (message : Message)
    (rest : List Message) → down ≡ message ∷ rest → is_reading self.phase ≡ true → Ignored self k message
    → Waits up down self server d k → Waits up rest self server d k
unfolding infos
waits_dropped up down self server d k message rest q reading un (inl state) =
    let h = rw q at state.silent in
    inl (record { get = state.get; silent = omega arith; unnoted = state.unnoted })
waits_dropped up down self server d k message rest q reading un (inr state) =
    let h = rw q at state.once in
    let z = info_none self.reads message no_info_lem in
    inr (record {
      channel = state.channel;
      reader = state.reader;
      once = omega arith;
      told =
          by_either state.told (λ b. inl b)
          (λ b. by_either b
          (λ c. by_either (rw q at c) (λ e. absurd (no_info_lem server.pair (sym e))) (λ e. inr (inl e)))
          (λ c. by_either (rw q at c) (λ e. absurd (un.no_fwd reading server.pair (sym e)))
          (λ e. inr (inr e))));
    })
  where
    no_info_lem : (pair : Pair) → message ≡ Info self.reads pair → ⊥
    no_info_lem pair e =
        let h = rw q at state.once in
        let i = number_noted (self.noted k) (un.no_info reading pair e) in
        let j = info_one self.reads pair message e in
        omega arith

-- what a message of an honest server meets: a set in order, and nothing above the server's present pair
pub record Fits (self : Client) (server : Server) (k : ℕ) (pair : Pair) : Type 0 where
  pub ordered : Ordered (self.sets k)
  pub low : pair.0 ≤ server.pair.0
  pub top : (z : Pair) → Member z (self.sets k) → z.0 ≤ server.pair.0

fits_keeps : (self : Client) (server : Server) (k : ℕ) (pair : Pair) → Fits self server k pair
    → (server.pair ≡ pair) ⊎ Member server.pair (self.sets k)
    → Member server.pair (update self.sets k (add set_limit pair (self.sets k)) k)
fits_keeps self server k pair fits h =
    rw update_same
    (add_keeps set_limit pair (self.sets k) server.pair (omega arith) fits.ordered h fits.low
    fits.top)

number_some : (notes : ℕ → Option ℕ) (k time : ℕ) → number (update notes k (Some time) k) ≡ 1
unfolding number
number_some notes k time = rw update_same refl

-- the message is not dropped
module _ (up down : List Message) (self : Client) (server : Server) (d k : ℕ) (message : Message)
    (rest : List Message)
    (q : down ≡ message ∷ rest) (fits : (pair : Pair) → Carries message pair → Fits self server k pair) where
  -- the present pair was in the set, or is the one that comes, or is still on its way
  told_next : (pair : Pair) → Carries message pair → Told server.pair self.reads down (self.sets k)
      → Told server.pair self.reads rest (update self.sets k (add set_limit pair (self.sets k)) k)
  told_next pair carries (inl there) = inl (fits_keeps self server k pair (fits pair carries) (inr there))
  told_next pair carries (inr (inl there)) =
      by_either (rw q at there)
      (λ e. inl (fits_keeps self server k pair (fits pair carries) (inl (carried carries e))))
      (λ e. inr (inl e))
    where
      carried : Carries message pair → Info self.reads server.pair ≡ message → server.pair ≡ pair
      carried (inl g) e = clash (cc)
      carried (inr (t, g)) e = cc
  told_next pair carries (inr (inr there)) =
      by_either (rw q at there)
      (λ e. inl (fits_keeps self server k pair (fits pair carries) (inl (carried carries e))))
      (λ e. inr (inr e))
    where
      carried : Carries message pair → Fwd server.pair ≡ message → server.pair ≡ pair
      carried (inl g) e = cc
      carried (inr (t, g)) e = clash (cc)

  pub waits_grown : (after : Client) → Grown self k message after → Waits up down self server d k
      → Waits up rest after server d k
  unfolding with_info with_pair infos
  waits_grown after (noted tag pair e same un) (inl state) =
      absurd (let h = rw q at state.silent in
      let i = info_one self.reads pair message (rw same at e) in
      omega arith)
  waits_grown after (noted tag pair e same un) (inr state) =
      let h = rw q at state.once in
      let i = info_one self.reads pair message (rw same at e) in
      let n = number_some self.noted k (stamp pair) in
      let o = number_none (self.noted k) un in
      inr (record {
        channel = state.channel;
        reader = state.reader;
        once = omega arith;
        told = told_next pair (inr (tag, e)) state.told;
      })
  waits_grown after (added pair e) (inl state) =
      let h = rw q at state.silent in
      inl (record { get = state.get; silent = omega arith; unnoted = state.unnoted })
  waits_grown after (added pair e) (inr state) =
      let h = rw q at state.once in
      let i = info_none self.reads message (λ p' e'. clash (cc)) in
      inr (record {
        channel = state.channel;
        reader = state.reader;
        once = omega arith;
        told = told_next pair (inl e) state.told;
      })

-- ---- the client takes a message of another server

pub waits_elsewhere : (up down : List Message) (self : Client) (server : Server) (d j k : ℕ)
    (message : Message) (after : Client) → Grown self j message after → j ≢ k → Waits up down self server d k
    → Waits up down after server d k
unfolding with_info with_pair
waits_elsewhere up down self server d j k message after (noted tag pair e _ _) ne h =
    rw (update_other self.noted j k _ ne, update_other self.sets j k _ ne) h
waits_elsewhere up down self server d j k message after (added pair e) ne h =
    rw (update_other self.sets j k _ ne) h
