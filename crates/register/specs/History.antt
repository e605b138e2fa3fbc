-- The history of a list of steps: worlds, events, answers and operations (01, 'The words of demand 3').
--
-- In order: the run; when reads and writes begin and end; what a write sent; what is over at the end of the
-- list. An operation is named by the number of the step that began it, counted from 0. Everything follows
-- from the settings and the list by the rules of `World` and `Steps`.
-- Assumes nothing.
use Rattle.std.specs.Prelude.{ℕ, zero, suc, ◌<◌, ◌≤◌, ◌≡◌, true, false, ◌⊎◌, List, [], length, get_or, Ok}
use Rattle.basics.specs.Members.{Member}
use Rattle.message.specs.declared.Entry.{Entry}
use Rattle.message.specs.declared.Message.TheVariants.{WriteInfo}
use Rattle.message.specs.declared.Pair.{Pair}
use Rattle.register.specs.declared.Answer.TheVariants.{Went, Read, Wrote, Spent}
use Rattle.register.specs.Settings.{Settings, is_client, is_honest}
use Rattle.register.specs.World.{World, new_world, Event, apply, StepAnswer, answer_of, puts_up}
use Rattle.register.specs.Steps.{Step, R, W, D, Formats, event_of}

module _ (settings : Settings) (judge : Formats) (steps : List Step) where
  -- step number i; past the end of the list stands a step that every world refuses
  abbrev pub step_at : ℕ → Step
  step_at i = get_or steps i (R 0)

  -- the world before step i: each step is given what the step before it left
  unfoldable pub world_at : ℕ → World
  world_at zero = new_world
  world_at (suc i) = apply settings (world_at i) (event_of settings judge (world_at i) (step_at i))

  abbrev pub event_at : ℕ → Event
  event_at i = event_of settings judge (world_at i) (step_at i)

  -- the answer of step i
  abbrev pub answer_at : ℕ → StepAnswer
  answer_at i = answer_of settings (world_at i) (event_at i)

  -- the world after the whole list
  abbrev pub last_world : World
  last_world = world_at (length steps)

  -- a read of client d begins at step `begin`: an accepted R
  pub record ReadBegins (begin d : ℕ) : Type 0 where
    pub in_list : begin < length steps
    pub step : step_at begin ≡ R d
    pub answer : answer_at begin ≡ Ok Went

  -- a write of client d begins at step `begin`: an accepted W
  pub record WriteBegins (begin d : ℕ) : Type 0 where
    pub in_list : begin < length steps
    pub entry : Entry
    pub step : step_at begin ≡ W d entry
    pub answer : answer_at begin ≡ Ok Went

  -- step j of client d answers READ with the pair
  pub record AnswersRead (j d : ℕ) (pair : Pair) : Type 0 where
    pub in_list : j < length steps
    pub server : ℕ
    pub step : step_at j ≡ D d server
    pub answer : answer_at j ≡ Ok (Read pair)

  -- step j of client d answers WROTE or SPENT
  pub record AnswersWrite (j d : ℕ) : Type 0 where
    pub in_list : j < length steps
    pub server : ℕ
    pub step : step_at j ≡ D d server
    pub answer : ((pair : Pair) × (answer_at j ≡ Ok (Wrote pair))) ⊎ (answer_at j ≡ Ok Spent)

  -- the read `begin` of client d ends at step j and shows the pair: its client's next READ
  pub record ReadEnds (begin d j : ℕ) (pair : Pair) : Type 0 where
    pub begins : ReadBegins begin d
    pub later : begin < j
    pub ends : AnswersRead j d pair
    pub next : (i : ℕ) → begin < i → i < j → (other : Pair) → AnswersRead i d other → ⊥

  -- the write `begin` of client d ends at step j: its client's next WROTE or SPENT
  pub record WriteEnds (begin d j : ℕ) : Type 0 where
    pub begins : WriteBegins begin d
    pub later : begin < j
    pub ends : AnswersWrite j d
    pub next : (i : ℕ) → begin < i → i < j → AnswersWrite i d → ⊥

  -- the operation ends at step j
  abbrev pub Ends : ℕ → ℕ → Type 0
  Ends operation j =
      ((d : ℕ) × (pair : Pair) × ReadEnds operation d j pair) ⊎ ((d : ℕ) × WriteEnds operation d j)

  -- the write `begin` of client d sends the pair at step j: before it has ended, a D of d puts WRITE_INFO
  -- with the pair
  pub record Sends (begin d j : ℕ) (pair : Pair) : Type 0 where
    pub begins : WriteBegins begin d
    pub later : begin < j
    pub in_list : j < length steps
    pub server : ℕ
    pub step : step_at j ≡ D d server
    pub to : ℕ
    pub puts : Member (WriteInfo pair) (puts_up settings (world_at j) (event_at j) d to)
    pub unended : (i : ℕ) → begin < i → i ≤ j → AnswersWrite i d → ⊥

  -- the write `begin` sent an entry
  pub record HasSent (begin : ℕ) : Type 0 where
    pub client : ℕ
    pub at : ℕ
    pub pair : Pair
    pub sends : Sends begin client at pair

  -- the pair is that of exactly one write: of `begin`
  pub record PairOf (pair : Pair) (begin : ℕ) : Type 0 where
    pub client : ℕ
    pub at : ℕ
    pub sends : Sends begin client at pair
    pub only : (begin' d' j' : ℕ) → Sends begin' d' j' pair → begin' ≡ begin

  -- client d is quiet after the list: it works; no WRITE_INFO, whoever sent it, is on its way to an honest
  -- server; and nothing is on the channels between client d and honest servers
  pub record Quiet (d : ℕ) : Type 0 where
    pub client : is_client settings d ≡ true
    pub works : last_world.stopped d ≡ false
    pub no_write : (d' k : ℕ) (pair : Pair) → is_honest settings k ≡ true
        → Member (WriteInfo pair) (last_world.up d' k) → ⊥
    pub up : (k : ℕ) → is_honest settings k ≡ true → last_world.up d k ≡ []
    pub down : (k : ℕ) → is_honest settings k ≡ true → last_world.down d k ≡ []

  -- client d has nothing open: every read and every write that it began has ended
  pub record NothingOpen (d : ℕ) : Type 0 where
    pub reads : (begin : ℕ) → ReadBegins begin d → (j : ℕ) × (pair : Pair) × ReadEnds begin d j pair
    pub writes : (begin : ℕ) → WriteBegins begin d → (j : ℕ) × WriteEnds begin d j
