-- Well-formed channels stay well formed at every event.
--
-- Why: what an event puts on a channel was given room by its checks and is of the right kind; what is
-- dropped changes nothing; what is taken, served or emptied leaves fewer. A message goes only to an honest
-- server or a working client, so a channel that is unused or drops stays empty.
-- In order: lists of messages; channels to servers; channels to clients.
-- Assumes nothing.
use Rattle.register.proofs.Vocabulary.{Member, last_read, Settings, Accepted, is_server, is_client, Ok}
use Rattle.register.proofs.Vocabulary.{is_honest, capacity, Sent, sent, server_sends, sent_to, next_read}
use Rattle.register.proofs.Vocabulary.{World, Event, refuses, begins, serves, takes, stops, lies}
use Rattle.register.proofs.Vocabulary.{response_of, puts_up, puts_down, leaves_up, leaves_down, next_up}
use Rattle.register.proofs.Vocabulary.{next_down, next_stopped, Formats, has_room, room_up, FromClient}
use Rattle.register.proofs.Vocabulary.{FromServer}
use Rattle.basics.proofs.Prelude.{◌≡◌, refl, ap, subst, Bool, true, false, cond, ◌&&◌, inl, inr, List, []}
use Rattle.basics.proofs.Prelude.{◌∷◌, ◌++◌, append-nil, length, length-append, ℕ, ◌+◌, ◌≤◌, ◌<◌, le_refl}
use Rattle.basics.proofs.Prelude.{arith, eqb, eqb-true, eqb-false, leb-true}
use Rattle.basics.proofs.Cases.{by_test, by_either, true_or_false, both, both_of}
use Rattle.basics.proofs.Members.{member_cases}
use Rattle.basics.proofs.Update.{update_other}
use Rattle.message.specs.Layout.{goes_down, goes, is_reply}
use Rattle.register.specs.WellFormed.{WellChannel, WellFormed}
use Rattle.register.proofs.Vocabulary.{Message, GetInfo, Info, Done, WriteInfo, Fwd, WriteAck}
use Rattle.register.proofs.Bounds.{client_small, honest_server, honest_of}
use Rattle.register.proofs.Enabled.{Enabled, slots_for, some_slot}
use Rattle.register.proofs.Dropping.{put_or_dropped, nothing_put, at_channel}
use Rattle.register.proofs.Rooms.{unless, room_up_lem, room_down_lem}
use Rattle.register.proofs.Lawful.{Lawful, FieldsFit}
use Rattle.register.proofs.WellServer.{WellSent, well_sends, none_there}
use Rattle.register.proofs.Sends.{sent_member}
use Rattle.register.proofs.WellClient.{WellResponse, well_takes}

-- ---- lists of messages

module _ (Kind : Message → Type 0) where
  well_more : (channel more : List Message) → WellChannel Kind channel
      → length channel + length more ≤ capacity
      → ((message : Message) → Member message more → Kind message) → WellChannel Kind (channel ++ more)
  well_more channel more well room new =
      record {
        few = rw length-append room;
        kinds =
            λ message member. by_either (member_cases message channel more member)
            (λ a. well.kinds message a) (λ a. new message a);
      }

  well_rest : (channel : List Message) (message : Message) (rest : List Message) → channel ≡ message ∷ rest
      → WellChannel Kind channel → WellChannel Kind rest
  well_rest channel message rest e well =
      record {
        few = let h = well.few in let g : length channel ≡ length (message ∷ rest) = ap length e in
            omega arith;
        kinds = λ other member. well.kinds other (rw e (inr member));
      }

  pub well_empty : WellChannel Kind []
  well_empty = record { few = omega arith; kinds = λ message member. absurd member }

-- the oldest message of a well-formed channel
pub oldest_kind : (Kind : Message → Type 0) (channel : List Message) (message : Message) (rest : List Message)
    → channel ≡ message ∷ rest → WellChannel Kind channel → Kind message
oldest_kind Kind channel message rest e well = well.kinds message (rw e (inl refl))

-- a reply whose fields fit is of the kinds that servers send
reply_kind : (message : Message) → goes_down (Ok message) ≡ true → FieldsFit message → FromServer message
unfolding goes is_reply
reply_kind (GetInfo tag) reply fit = absurd (true_or_false false reply refl)
reply_kind (Info tag pair) reply fit = fit
reply_kind Done reply fit = absurd (true_or_false false reply refl)
reply_kind (WriteInfo pair) reply fit = absurd (true_or_false false reply refl)
reply_kind (Fwd pair) reply fit = fit
reply_kind (WriteAck count) reply fit = fit

module _ (settings : Settings) (judge : Formats) (accepted : Accepted settings) (lawful : Lawful judge)
    (world : World) (well : WellFormed settings judge world) where
  -- ---- channels to servers

  pub record WellUp (d k : ℕ) (messages : List Message) : Type 0 where
    pub channel : WellChannel FromClient messages
    pub unused : is_client settings d && is_honest settings k ≡ false → messages ≡ []

  up_now : (d k : ℕ) → WellUp d k (world.up d k)
  up_now d k = record { channel = well.up d k; unused = well.up_unused d k }

  -- client d' puts messages on its channels
  up_put : (d' n : ℕ) (more : List Message) → is_client settings d' ≡ true
      → room_up settings judge world d' n ≡ true → length more ≤ n
      → ((message : Message) → Member message more → FromClient message) → (d k : ℕ) → WellUp d k
      (world.up d k ++ cond (settings.faulty k) [] (cond (eqb d' d && is_server settings k) more []))
  up_put d' n more client room short kinds d k =
      put_or_dropped (WellUp d k) (settings.faulty k) (world.up d k) _ (up_now d k)
      (λ right. by_test (eqb d' d && is_server settings k) (λ e. rw e (puts right (both (eqb d' d) _ e)))
      (λ e. rw (e, append-nil (world.up d k)) (up_now d k)))
    where
      puts : settings.faulty k ≡ false → (eqb d' d ≡ true) × (is_server settings k ≡ true)
          → WellUp d k (world.up d k ++ more)
      puts right e =
          let same = eqb-true d' d e.0 in
          let honest = honest_of settings k e.1 right in
          let fits : length (world.up d k) + n ≤ capacity =
          rw same at (room_up_lem settings judge world d' n room k honest) in
          record {
            channel = well_more FromClient (world.up d k) more (well.up d k) (omega arith) kinds;
            unused = λ h. absurd
                (true_or_false _ (both_of (is_client settings d) _ (rw same at client) honest) h);
          }

  tag_only : (d : ℕ) → (world.clients d).reads.0 < last_read
      → (message : Message) → Member message (GetInfo (next_read (world.clients d)) ∷ []) → FromClient message
  unfolding next_read
  tag_only d low message (inr x') = elim x' [ ]
  tag_only d low message (inl e) = rw e (omega arith)

  -- the response of client d' to the oldest message of server k'
  pub well_response : (d' k' : ℕ) (message : Message) (rest : List Message)
      → Enabled settings judge world (takes d' k' message rest)
      → WellResponse settings judge (response_of settings world d' k' message)
  well_response d' k' message rest checked =
      let range = client_small settings accepted d' checked.client in
      well_takes settings judge lawful d' (omega arith) (world.clients d') (well.client d') k'
      checked.server message
      (oldest_kind FromServer (world.down d' k') message rest checked.channel (well.down d' k'))

  pub up_next : (event : Event) → Enabled settings judge world event → (d k : ℕ)
      → WellUp d k (next_up settings world event d k)
  unfolding next_up leaves_up puts_up
  up_next (refuses refusal) checked d k = rw (nothing_put (settings.faulty k) (world.up d k)) (up_now d k)
  up_next (begins d' phase) checked d k =
      up_put d' (slots_for phase) _ checked.client checked.room (some_slot phase)
      (tag_only d' checked.below) d k
  up_next (serves k' d' message rest) checked d k =
      rw (nothing_put (settings.faulty k) (cond (eqb k' k && eqb d' d) rest (world.up d k)))
      (at_channel (WellUp d k) k' d' k d rest (world.up d k)
      (λ server client. record {
        channel =
            well_rest FromClient (world.up d k) message rest (rw (server, client) at checked.channel)
            (well.up d k);
        unused = λ h. absurd (true_or_false _
            (both_of (is_client settings d) _ (rw client at checked.client)
            (rw server at checked.honest)) h);
      })
      (up_now d k))
  up_next (takes d' k' message rest) checked d k =
      up_put d' _ _ checked.client checked.room (le_refl _)
      (well_response d' k' message rest checked).sends d k
  up_next (stops d') checked d k = rw (nothing_put (settings.faulty k) (world.up d k)) (up_now d k)
  up_next (lies k' d' message) checked d k =
      rw (nothing_put (settings.faulty k) (world.up d k)) (up_now d k)

  -- ---- channels to clients

  pub record WellDown (d k : ℕ) (stopped : Bool) (messages : List Message) : Type 0 where
    pub channel : WellChannel FromServer messages
    pub unused : is_client settings d && is_server settings k ≡ false → messages ≡ []
    pub drops : stopped ≡ true → messages ≡ []

  down_now : (d k : ℕ) → WellDown d k (world.stopped d) (world.down d k)
  down_now d k =
      record { channel = well.down d k; unused = well.down_unused d k; drops = well.down_drops d k }

  -- a server puts messages on its channel to client d: one that is a client, and works
  down_put : (d k : ℕ) (more : List Message) → is_client settings d ≡ true → is_server settings k ≡ true
      → world.stopped d ≡ false → length (world.down d k) + length more ≤ capacity
      → ((message : Message) → Member message more → FromServer message)
      → WellDown d k (world.stopped d) (world.down d k ++ more)
  down_put d k more client server works room kinds =
      record {
        channel = well_more FromServer (world.down d k) more (well.down d k) room kinds;
        unused = λ h. absurd (true_or_false _ (both_of (is_client settings d) _ client server) h);
        drops = λ h. absurd (true_or_false _ h works);
      }

  -- server k serves a message of client d'
  down_serves : (k d' : ℕ) (message : Message) (rest : List Message)
      → Enabled settings judge world (serves k d' message rest) → (d : ℕ) → world.stopped d ≡ false
      → WellDown d k (world.stopped d)
      (world.down d k ++ sent_to d (server_sends (world.servers k) d' message))
  down_serves k d' message rest checked d works =
      by_test (is_client settings d)
      (λ client. down_put d k _ client (honest_server settings k checked.honest) works
      (room_down_lem settings judge world k d' message checked.room d client works) kinds)
      (λ no_client. rw (nowhere no_client, append-nil (world.down d k)) (down_now d k))
    where
      sends : (x : Sent) → Member x (server_sends (world.servers k) d' message) → WellSent settings x
      sends =
          well_sends settings (world.servers k) d' checked.client (well.server k) message
          (oldest_kind FromClient (world.up d' k) message rest checked.channel (well.up d' k))

      kinds : (other : Message) → Member other (sent_to d (server_sends (world.servers k) d' message))
          → FromServer other
      kinds other member = (sends (sent d other) (sent_member d other _ member)).kind

      nowhere : is_client settings d ≡ false → sent_to d (server_sends (world.servers k) d' message) ≡ []
      nowhere no_client =
          none_there d _
          (λ x h to. true_or_false (is_client settings d) (rw to at (sends x h).client) no_client)

  pub down_next : (event : Event) → Enabled settings judge world event → (d k : ℕ)
      → WellDown d k (next_stopped settings world event d) (next_down settings world event d k)
  unfolding next_down leaves_down puts_down next_stopped has_room
  down_next (refuses refusal) checked d k =
      rw (nothing_put (world.stopped d) (world.down d k)) (down_now d k)
  down_next (begins d' phase) checked d k =
      rw (nothing_put (world.stopped d) (world.down d k)) (down_now d k)
  down_next (serves k' d' message rest) checked d k =
      put_or_dropped (WellDown d k (world.stopped d)) (world.stopped d) (world.down d k) _ (down_now d k)
      (λ works. by_test (eqb k' k)
      (λ e. rw e (subst
      (λ z. WellDown d z (world.stopped d)
      (world.down d z ++ sent_to d (server_sends (world.servers k') d' message))) (eqb-true k' k e)
      (down_serves k' d' message rest checked d works)))
      (λ e. rw (e, append-nil (world.down d k)) (down_now d k)))
  down_next (takes d' k' message rest) checked d k =
      rw (nothing_put (world.stopped d) (cond (eqb k' k && eqb d' d) rest (world.down d k)))
      (at_channel (WellDown d k (world.stopped d)) k' d' k d rest (world.down d k)
      (λ server client. record {
        channel =
            well_rest FromServer (world.down d k) message rest (rw (server, client) at checked.channel)
            (well.down d k);
        unused = λ h. absurd (true_or_false _
            (both_of (is_client settings d) _ (rw client at checked.client)
            (rw server at checked.server)) h);
        drops = λ h. absurd (true_or_false _ h (rw client at checked.works));
      })
      (down_now d k))
  down_next (stops d') checked d k =
      rw (nothing_put (world.stopped d) (cond (eqb d' d) [] (world.down d k))) (by_test (eqb d' d)
      (λ e. rw e (record { channel = well_empty FromServer; unused = λ h. refl; drops = λ h. refl }))
      (λ e. rw (e, update_other world.stopped d' d true (eqb-false d' d e)) (down_now d k)))
  down_next (lies k' d' message) checked d k =
      put_or_dropped (WellDown d k (world.stopped d)) (world.stopped d) (world.down d k) _ (down_now d k)
      (λ works. at_channel
      (λ messages. WellDown d k (world.stopped d) (world.down d k ++ messages)) k' d' k d (message ∷ []) []
      (λ server client. down_put d k (message ∷ []) (rw client at checked.client)
      (rw server at checked.server) works
      (leb-true _ _ (unless (world.stopped d) _ (rw (server, client) at checked.room) works)) kind)
      (rw (append-nil (world.down d k)) (down_now d k)))
    where
      kind : (other : Message) → Member other (message ∷ []) → FromServer other
      kind other (inr x'') = elim x'' [ ]
      kind other (inl e) =
          rw e
          (reply_kind message checked.reply (lawful.fits checked.bytes message checked.message))
