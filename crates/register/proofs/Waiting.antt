-- What a reading client still waits for from an honest server.
--
-- Either its GET_INFO is the last message on its channel to the server, and nothing of this read has come
-- back (`Asks`); or that channel is empty, the client is among the server's readers, its INFO is either on
-- its way back or noted, one of the two, and the server's present pair is in the client's set or on its way
-- to it (`Served`). So a client that waits with nothing on its channels has all it needs (`Quiet`).
--
-- Why: GET_INFO makes the client a reader and sends it INFO with the present pair; from then on a newer
-- pair is forwarded to it. A set keeps its highest pair (`PairSets`), and nothing from the server is higher
-- than its present pair (`Low`). Here are the changes at one client and one server, of values alone, by a
-- start (`asks_start`) and by the server: it serves a message of this client (`asks_served`) or of another
-- (`waits_other`). `WaitingTakes` has those by the client, `Live` all along a run.
-- Assumes nothing.
use Rattle.register.proofs.Vocabulary.{Member, Server, next_server, Client, next_read, started}
use Rattle.basics.proofs.Prelude.{◌≡◌, refl, sym, ◌∙◌, Bool, true, false, ◌⊎◌, inl, inr, ◌≢◌, List, [], ◌∷◌}
use Rattle.basics.proofs.Prelude.{◌++◌, Option, None, ℕ, ◌+◌, ◌≤◌, ◌<◌, arith}
use Rattle.basics.proofs.Cases.{by_either}
use Rattle.basics.proofs.Members.{member_left, member_right}
use Rattle.basics.proofs.Update.{update_same, update_other}
use Rattle.register.proofs.Vocabulary.{Message, GetInfo, Info, Done, WriteInfo, Fwd, WriteAck, Pair}
use Rattle.register.proofs.Vocabulary.{ReadNumber, Phase}
use Rattle.register.proofs.Sends.{direct}
use Rattle.register.proofs.Grows.{pair_after}
use Rattle.register.proofs.Infos.{infos, number, infos_append, info_one, infos_none, sends_none}
use Rattle.register.proofs.Infos.{sends_info}

-- the channels up and down between the client `self`, of number d, and the server, of number k

-- the GET_INFO with the tag is the last message on the channel, behind those of earlier reads
pub record Asking (tag : ReadNumber) (up : List Message) : Type 0 where
  pub before : List Message
  pub channel : up ≡ before ++ GetInfo tag ∷ []
  pub old : (other : ReadNumber) → Member (GetInfo other) before → other.0 < tag.0

-- the server has still to serve it, and nothing of the read has come back
pub record Asks (tag : ReadNumber) (note : Option ℕ) (up down : List Message) : Type 0 where
  pub get : Asking tag up
  pub silent : infos tag down ≡ 0
  pub unnoted : note ≡ None

-- the pair is in the set or on its way to it
abbrev pub Told : Pair → ReadNumber → List Message → List Pair → Type 0
Told pair tag down set = Member pair set ⊎ (Member (Info tag pair) down ⊎ Member (Fwd pair) down)

-- the server has served it, and holds the pair
pub record Served (tag : ReadNumber) (note : Option ℕ) (set : List Pair) (reads : Bool) (pair : Pair)
    (up down : List Message) : Type 0 where
  pub channel : up ≡ []
  pub reader : reads ≡ true
  pub once : infos tag down + number note ≡ 1
  pub told : Told pair tag down set

abbrev pub Waits : List Message → List Message → Client → Server → ℕ → ℕ → Type 0
Waits up down self server d k =
    Asks self.reads (self.noted k) up down
    ⊎ Served self.reads (self.noted k) (self.sets k) (server.readers d) server.pair up down

told_more : (pair : Pair) (tag : ReadNumber) (down more : List Message) (set : List Pair)
    → Told pair tag down set → Told pair tag (down ++ more) set
told_more pair tag down more set (inl there) = inl there
told_more pair tag down more set (inr (inl there)) = inr (inl (member_left (Info tag pair) down more there))
told_more pair tag down more set (inr (inr there)) = inr (inr (member_left (Fwd pair) down more there))

-- ---- the client starts

pub asks_start : (up down : List Message) (self : Client) (phase : Phase) (k : ℕ)
    → ((tag : ReadNumber) → Member (GetInfo tag) up → tag.0 ≤ self.reads.0)
    → ((tag : ReadNumber) (pair : Pair) → Member (Info tag pair) down → tag.0 ≤ self.reads.0)
    → Asks (started self phase).reads ((started self phase).noted k) (up ++ GetInfo (next_read self) ∷ []) down
unfolding started next_read
asks_start up down self phase k asked told =
    record {
      get = record {
        before = up;
        channel = refl;
        old = λ tag member. let h = asked tag member in omega arith;
      };
      silent = infos_none (next_read self) down (λ p m. let h = told (next_read self) p m in omega arith);
      unnoted = refl;
    }

-- ---- the server serves a message of this client

asked_reader : (server : Server) (d : ℕ) (tag : ReadNumber)
    → (next_server server d (GetInfo tag)).readers d ≡ true
unfolding next_server
asked_reader server d tag = update_same server.readers d true

asked_pair : (server : Server) (d : ℕ) (tag : ReadNumber)
    → (next_server server d (GetInfo tag)).pair ≡ server.pair
unfolding next_server
asked_pair server d tag = refl

first_info : (tag : ReadNumber) (down : List Message) (pair : Pair) → infos tag down ≡ 0
    → infos tag (down ++ Info tag pair ∷ []) + number None ≡ 1
unfolding number infos
first_info tag down pair h =
    let a = infos_append tag down (Info tag pair ∷ []) in let b = info_one tag pair (Info tag pair) refl in
    omega arith

pub asks_served : (up down : List Message) (self : Client) (server : Server) (d k : ℕ) (message : Message)
    (rest : List Message) → up ≡ message ∷ rest → Asks self.reads (self.noted k) up down
    → Waits rest (down ++ direct server d message d) self (next_server server d message) d k
asks_served up down self server d k message left q asks =
    go asks.get.before (sym q ∙ asks.get.channel) asks.get.old
  where
    go : (before : List Message) → message ∷ left ≡ before ++ GetInfo self.reads ∷ []
        → ((tag : ReadNumber) → Member (GetInfo tag) before → tag.0 < self.reads.0)
        → Waits left (down ++ direct server d message d) self (next_server server d message) d k
    go [] e old =
        let is_get : message ≡ GetInfo self.reads = cc in
        let no_more : left ≡ [] = cc in
        inr (rw (is_get, no_more) (record {
          channel = refl;
          reader = asked_reader server d self.reads;
          once =
              rw (sends_info server d self.reads, asks.unnoted)
              (first_info self.reads down server.pair asks.silent);
          told =
              rw (sends_info server d self.reads, asked_pair server d self.reads)
              (inr (inl (member_right (Info self.reads server.pair) down _ (inl refl))));
        }))
    go (first ∷ others) e old =
        let is_first : message ≡ first = cc in
        let rest : left ≡ others ++ GetInfo self.reads ∷ [] = cc in
        let z = sends_none server d message d self.reads
        (λ g _. let less = old self.reads (inl (sym g ∙ is_first)) in omega arith) in
        let silent = asks.silent in
        inl (record {
          get = record { before = others; channel = rest; old = λ tag member. old tag (inr member) };
          silent = rw (infos_append self.reads down (direct server d message d)) (omega arith);
          unnoted = asks.unnoted;
        })

-- ---- the server serves a message of another client

other_reader : (server : Server) (d' d : ℕ) (message : Message) → d' ≢ d
    → (next_server server d' message).readers d ≡ server.readers d
unfolding next_server
other_reader server d' d (GetInfo tag) h = update_other server.readers d' d true h
other_reader server d' d (Info tag pair) h = refl
other_reader server d' d Done h = update_other server.readers d' d false h
other_reader server d' d (WriteInfo pair) h = refl
other_reader server d' d (Fwd pair) h = refl
other_reader server d' d (WriteAck count) h = refl

forwarded_first : (server : Server) (d' d : ℕ) (pair : Pair) → server.readers d ≡ true
    → Member (Fwd pair) (direct server d' (WriteInfo pair) d)
unfolding direct
forwarded_first server d' d pair r = rw r (inl refl)

other_told : (server : Server) (d' d : ℕ) (message : Message) (tag : ReadNumber) (down : List Message)
    (set : List Pair) → server.readers d ≡ true → Told server.pair tag down set
    → Told (next_server server d' message).pair tag (down ++ direct server d' message d) set
other_told server d' d message tag down set reads told =
    by_either (pair_after server d' message) (λ q. rw q (told_more server.pair tag down _ set told))
    (λ q. rw (q.2, q.1)
    (inr (inr (member_right (Fwd q.0) down _ (forwarded_first server d' d q.0 reads)))))

pub waits_other : (up down : List Message) (self : Client) (server : Server) (d d' k : ℕ) (message : Message)
    → d' ≢ d → Waits up down self server d k
    → Waits up (down ++ direct server d' message d) self (next_server server d' message) d k
waits_other up down self server d d' k message ne (inl state) =
    let z = sends_none server d' message d self.reads (λ _ e. ne e) in
    let silent = state.silent in
    inl (record {
      get = state.get;
      silent = rw (infos_append self.reads down (direct server d' message d)) (omega arith);
      unnoted = state.unnoted;
    })
waits_other up down self server d d' k message ne (inr state) =
    let z = sends_none server d' message d self.reads (λ _ e. ne e) in
    let once = state.once in
    inr (record {
      channel = state.channel;
      reader = other_reader server d' d message ne ∙ state.reader;
      once = rw (infos_append self.reads down (direct server d' message d)) (omega arith);
      told = other_told server d' d message self.reads down (self.sets k) state.reader state.told;
    })
