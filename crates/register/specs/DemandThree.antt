-- Demand 3: multi-writer regularity (document 001, MWReg), and a quiet client has nothing open.
--
-- In order: standing earlier in a row; where a read stands; its row; agreement of two rows; what holds of one
-- list; the demand. It is one claim on the whole list of steps, whatever they are, refused ones among them,
-- from an accepted setup on. An operation is named by the number of the step that began it.
-- Assumes nothing.
use Rattle.std.specs.Prelude.{ℕ, suc, ◌<◌, ◌≡◌, ◌⊎◌, ◌≢◌, ◌↔◌, List}
use Rattle.basics.specs.Members.{Member, At}
use Rattle.message.specs.declared.Pair.{Pair}
use Rattle.message.specs.Pair.{initial}
use Rattle.register.specs.Settings.{Settings, Accepted}
use Rattle.register.specs.Steps.{Step, Formats}
use Rattle.register.specs.Formats.{formats}
use Rattle.register.specs.History.{ReadEnds, Ends, HasSent, PairOf, Quiet, NothingOpen}

-- `early` stands earlier than `late` in the row
pub record Earlier (row : List ℕ) (early late : ℕ) : Type 0 where
  pub one : ℕ
  pub two : ℕ
  pub first : At row early one
  pub second : At row late two
  pub before : one < two

module _ (settings : Settings) (judge : Formats) (steps : List Step) where
  -- the read shows the initial pair, and stands first in its row
  pub record First (read : ℕ) (pair : Pair) (row : List ℕ) : Type 0 where
    -- the pair is the initial one
    pub shown : pair ≡ initial
    -- the read stands at the first place
    pub stands : At row read 0

  -- the read, which ended at step j, shows another pair, and stands right behind the write that it shows
  pub record Behind (read j : ℕ) (pair : Pair) (row : List ℕ) : Type 0 where
    -- the pair is not the initial one
    pub shown : pair ≢ initial
    -- the write that it shows: the one write that has the pair
    pub write : ℕ
    pub only : PairOf settings judge steps pair write
    -- the write began before the read ended
    pub sooner : write < j
    -- the place of the write
    pub place : ℕ
    pub stands : At row write place
    -- the read stands at the next place
    pub next : At row read (suc place)

  -- where the read, which ended at step j and shows the pair, stands in its row: one of these, never both
  pub data Legal (read j : ℕ) (pair : Pair) (row : List ℕ) : Type 0 where
    -- first
    first : First read pair row → Legal read j pair row
    -- right behind the write that it shows
    behind : Behind read j pair row → Legal read j pair row

  -- a row of the read, which ended at step j and shows the pair
  pub record Row (read j : ℕ) (pair : Pair) (row : List ℕ) : Type 0 where
    -- its members are the read and the writes that sent an entry
    pub members : (operation : ℕ)
        → Member operation row ↔ ((operation ≡ read) ⊎ HasSent settings judge steps operation)
    -- each stands in it once
    pub once : (operation i i' : ℕ) → At row operation i → At row operation i' → i ≡ i'
    -- of two, one that ended at an earlier step than the other began stands earlier
    pub order : (early late i : ℕ) → Member early row → Member late row
        → Ends settings judge steps early i → i < late → Earlier row early late
    -- the read stands first, or right behind the write that it shows
    pub legal : Legal read j pair row

  -- the rows of reads that ended at j₁ and j₂ agree on the writes that began before both reads ended
  abbrev pub Agree : ℕ → ℕ → List ℕ → List ℕ → Type 0
  Agree j₁ j₂ row₁ row₂ =
      (write other : ℕ) → HasSent settings judge steps write → HasSent settings judge steps other
      → write < j₁ → write < j₂ → other < j₁ → other < j₂
      → Earlier row₁ write other ↔ Earlier row₂ write other

  -- what holds of one list
  pub record Holds : Type 0 where
    -- one row is chosen for each finished read
    pub row : ℕ → List ℕ
    pub rows : (read d j : ℕ) (pair : Pair) → ReadEnds settings judge steps read d j pair
        → Row read j pair (row read)
    -- any two of them agree
    pub agree : (read₁ d₁ j₁ : ℕ) (pair₁ : Pair) (read₂ d₂ j₂ : ℕ) (pair₂ : Pair)
        → ReadEnds settings judge steps read₁ d₁ j₁ pair₁ → ReadEnds settings judge steps read₂ d₂ j₂ pair₂
        → Agree j₁ j₂ (row read₁) (row read₂)
    -- a quiet client has nothing open
    pub quiet : (d : ℕ) → Quiet settings judge steps d → NothingOpen settings judge steps d

-- demand 3 of one setting and one list, with this repository's entries and bytes
abbrev pub DemandThreeOf : Settings → List Step → Type 0
DemandThreeOf settings steps = Holds settings formats steps

-- demand 3: for every accepted setting of f, n, clients and faulty servers, and every list of steps
abbrev pub DemandThree : Type 0
DemandThree = (settings : Settings) → Accepted settings → (steps : List Step) → DemandThreeOf settings steps
